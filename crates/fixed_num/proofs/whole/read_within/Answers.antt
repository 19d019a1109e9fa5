use Rattle.std.proofs.Common.{arith, ◌≡◌, ◌/◌, ◌^◌, to_z, of_z, w64, rules, refl, ◌∙◌}
use Rattle.std.proofs.lemmas.Int.{to_z-of_z}
use mir.Val.{SFits}
use Rattle.fixed_num.specs.DecimalValue.{with_sign}
use Rattle.fixed_num.specs.NumberWord.{IsNumberWord}
use Rattle.fixed_num.specs.Scan.{KeepsCount}
use Rattle.fixed_num.specs.Whole.{IsWithin}
use Rattle.fixed_num.specs.declared.kept_count.KeptCount.{KeptCount}
use Rattle.fixed_num.proofs.Steps.{at_some}
use Rattle.fixed_num.proofs.Wholes.{IsAboutZero, no_whole_from_kept, fraction_from_kept, no_fraction_from_kept, whole_within, whole_outside, none_outside}
use Rattle.fixed_num.proofs.whole.read_within.Goals as goal

pub returns-then-count-ne0-clause-not_whole : goal.returns-then-count-ne0-clause-not_whole
returns-then-count-ne0-clause-not_whole c =
    let keeps : KeepsCount 6 c.args.word.now c.in_ok-count.count.negative c.in_ok-count.count.size =
    at_some (¬ IsNumberWord c.args.word.now) (λ (k : KeptCount). KeepsCount 6 c.args.word.now k.negative k.size) c.read_kept_count.result c.in_ok-count.count c.in_ok-count.ensures.ok_part c.read_kept_count.ensures in
    (λ _. fraction_from_kept 6 _ _ _ (omega arith) keeps c.if-count-ne0.true, λ _. refl)

pub returns-then-count-ne0-clause-too_large : goal.returns-then-count-ne0-clause-too_large
returns-then-count-ne0-clause-too_large c =
    let keeps : KeepsCount 6 c.args.word.now c.in_ok-count.count.negative c.in_ok-count.count.size =
    at_some (¬ IsNumberWord c.args.word.now) (λ (k : KeptCount). KeepsCount 6 c.args.word.now k.negative k.size) c.read_kept_count.result c.in_ok-count.count c.in_ok-count.ensures.ok_part c.read_kept_count.ensures in
    (λ e. absurd (cc), λ w. absurd (no_whole_from_kept 6 _ _ _ w.0 (omega arith) keeps c.if-count-ne0.true w.1))

pub returns-then-is_within-clause-ok : goal.returns-then-is_within-clause-ok
returns-then-is_within-clause-ok c =
    let keeps : KeepsCount 6 c.args.word.now c.in_ok-count.count.negative c.in_ok-count.count.size =
    at_some (¬ IsNumberWord c.args.word.now) (λ (k : KeptCount). KeepsCount 6 c.args.word.now k.negative k.size) c.read_kept_count.result c.in_ok-count.count c.in_ok-count.ensures.ok_part c.read_kept_count.ensures in
    let about : IsAboutZero c.args.least c.args.most = record { low = c.requires.low; high = c.requires.high } in
    let fits : SFits w64 c.with_sign-whole.result = search rules in
    let whole : to_z w64 (of_z w64 c.with_sign-whole.result) ≡ with_sign c.in_ok-count.count.negative (c.in_ok-count.count.size / 10 ^ 6) = to_z-of_z w64 c.with_sign-whole.result fits ∙ c.with_sign-whole.ensures in
    let least : to_z w64 (of_z w64 c.args.least) ≡ c.args.least = to_z-of_z w64 c.args.least c.ranges.least in
    let most : to_z w64 (of_z w64 c.args.most) ≡ c.args.most = to_z-of_z w64 c.args.most c.ranges.most in
    let within : IsWithin c.args.least c.args.most (with_sign c.in_ok-count.count.negative (c.in_ok-count.count.size / 10 ^ 6)) = rw (whole, least, most) at (c.if-is_within.ensures) in
    rw whole (whole_within 6 _ _ _ c.args.least c.args.most (omega arith) about keeps c.if-count-ne0.false within, within)

pub returns-then-is_within-clause-not_whole : goal.returns-then-is_within-clause-not_whole
returns-then-is_within-clause-not_whole c =
    let keeps : KeepsCount 6 c.args.word.now c.in_ok-count.count.negative c.in_ok-count.count.size =
    at_some (¬ IsNumberWord c.args.word.now) (λ (k : KeptCount). KeepsCount 6 c.args.word.now k.negative k.size) c.read_kept_count.result c.in_ok-count.count c.in_ok-count.ensures.ok_part c.read_kept_count.ensures in
    (λ e. absurd (cc), λ w. absurd (no_fraction_from_kept 6 _ _ _ w.0 (omega arith) keeps c.if-count-ne0.false w.1 w.2))

pub returns-then-is_within-clause-too_large : goal.returns-then-is_within-clause-too_large
returns-then-is_within-clause-too_large c =
    let keeps : KeepsCount 6 c.args.word.now c.in_ok-count.count.negative c.in_ok-count.count.size =
    at_some (¬ IsNumberWord c.args.word.now) (λ (k : KeptCount). KeepsCount 6 c.args.word.now k.negative k.size) c.read_kept_count.result c.in_ok-count.count c.in_ok-count.ensures.ok_part c.read_kept_count.ensures in
    let about : IsAboutZero c.args.least c.args.most = record { low = c.requires.low; high = c.requires.high } in
    let fits : SFits w64 c.with_sign-whole.result = search rules in
    let whole : to_z w64 (of_z w64 c.with_sign-whole.result) ≡ with_sign c.in_ok-count.count.negative (c.in_ok-count.count.size / 10 ^ 6) = to_z-of_z w64 c.with_sign-whole.result fits ∙ c.with_sign-whole.ensures in
    let least : to_z w64 (of_z w64 c.args.least) ≡ c.args.least = to_z-of_z w64 c.args.least c.ranges.least in
    let most : to_z w64 (of_z w64 c.args.most) ≡ c.args.most = to_z-of_z w64 c.args.most c.ranges.most in
    let within : IsWithin c.args.least c.args.most (with_sign c.in_ok-count.count.negative (c.in_ok-count.count.size / 10 ^ 6)) = rw (whole, least, most) at (c.if-is_within.ensures) in
    (λ e. absurd (cc), λ w. absurd (w.2 (none_outside 6 _ _ _ c.args.least c.args.most w.0 (omega arith) about keeps c.if-count-ne0.false within w.1)))

pub returns-else-is_within-clause-not_whole : goal.returns-else-is_within-clause-not_whole
returns-else-is_within-clause-not_whole c =
    let keeps : KeepsCount 6 c.args.word.now c.in_ok-count.count.negative c.in_ok-count.count.size =
    at_some (¬ IsNumberWord c.args.word.now) (λ (k : KeptCount). KeepsCount 6 c.args.word.now k.negative k.size) c.read_kept_count.result c.in_ok-count.count c.in_ok-count.ensures.ok_part c.read_kept_count.ensures in
    (λ e. absurd (cc), λ w. absurd (no_fraction_from_kept 6 _ _ _ w.0 (omega arith) keeps c.if-count-ne0.false w.1 w.2))

pub returns-else-is_within-clause-too_large : goal.returns-else-is_within-clause-too_large
returns-else-is_within-clause-too_large c =
    let keeps : KeepsCount 6 c.args.word.now c.in_ok-count.count.negative c.in_ok-count.count.size =
    at_some (¬ IsNumberWord c.args.word.now) (λ (k : KeptCount). KeepsCount 6 c.args.word.now k.negative k.size) c.read_kept_count.result c.in_ok-count.count c.in_ok-count.ensures.ok_part c.read_kept_count.ensures in
    let about : IsAboutZero c.args.least c.args.most = record { low = c.requires.low; high = c.requires.high } in
    let fits : SFits w64 c.with_sign-whole.result = search rules in
    let whole : to_z w64 (of_z w64 c.with_sign-whole.result) ≡ with_sign c.in_ok-count.count.negative (c.in_ok-count.count.size / 10 ^ 6) = to_z-of_z w64 c.with_sign-whole.result fits ∙ c.with_sign-whole.ensures in
    let least : to_z w64 (of_z w64 c.args.least) ≡ c.args.least = to_z-of_z w64 c.args.least c.ranges.least in
    let most : to_z w64 (of_z w64 c.args.most) ≡ c.args.most = to_z-of_z w64 c.args.most c.ranges.most in
    let outside : ¬ IsWithin c.args.least c.args.most (with_sign c.in_ok-count.count.negative (c.in_ok-count.count.size / 10 ^ 6)) = rw (whole, least, most) at (c.if-is_within.ensures) in
    (λ _. whole_outside 6 _ _ _ c.args.least c.args.most (omega arith) about keeps c.if-count-ne0.false outside, λ _. refl)
