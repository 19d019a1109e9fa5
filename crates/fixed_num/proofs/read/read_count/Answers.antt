use Rattle.std.proofs.Common.{◌≤◌, ◌<◌, unsigned_abs, w64, arith, rules, refl}
use Rattle.std.proofs.lemmas.Int.{to_z-of_z}
use mir.Val.{SFits}
use Rattle.fixed_num.specs.DecimalValue.{with_sign}
use Rattle.fixed_num.specs.NumberWord.{IsNumberWord}
use Rattle.fixed_num.specs.Scan.{KeepsCount}
use Rattle.fixed_num.specs.declared.kept_count.KeptCount.{KeptCount}
use Rattle.fixed_num.proofs.Counts.{past_from_kept, rounds_to_kept, not_past_kept, unsigned_abs-with_sign}
use Rattle.fixed_num.proofs.Steps.{at_some}
use Rattle.fixed_num.proofs.read.read_count.Goals as goal

pub returns-then-count-limit-clause-too_large : goal.returns-then-count-limit-clause-too_large
returns-then-count-limit-clause-too_large c =
    let keeps : KeepsCount c.args.decimals c.args.word.now c.in_ok-count.count.negative c.in_ok-count.count.size =
    at_some (¬ IsNumberWord c.args.word.now) (λ (k : KeptCount). KeepsCount c.args.decimals c.args.word.now k.negative k.size) c.read_kept_count.result c.in_ok-count.count c.in_ok-count.ensures.ok_part c.read_kept_count.ensures in
    (λ _. past_from_kept _ _ _ _ _ keeps c.requires.within c.if-count-limit.true, λ _. refl)

pub returns-clause-ok : goal.returns-clause-ok
returns-clause-ok c =
    let keeps : KeepsCount c.args.decimals c.args.word.now c.in_ok-count.count.negative c.in_ok-count.count.size =
    at_some (¬ IsNumberWord c.args.word.now) (λ (k : KeptCount). KeepsCount c.args.decimals c.args.word.now k.negative k.size) c.read_kept_count.result c.in_ok-count.count c.in_ok-count.ensures.ok_part c.read_kept_count.ensures in
    let fits : SFits w64 c.with_sign.result = search rules in
    let below : unsigned_abs (with_sign c.in_ok-count.count.negative c.in_ok-count.count.size) < c.args.limit = rw (unsigned_abs-with_sign c.in_ok-count.count.negative c.in_ok-count.count.size) c.if-count-limit.false in
    rw (to_z-of_z w64 c.with_sign.result fits, c.with_sign.ensures) (rounds_to_kept _ _ _ _ keeps (omega arith), below)

pub returns-clause-too_large : goal.returns-clause-too_large
returns-clause-too_large c =
    let keeps : KeepsCount c.args.decimals c.args.word.now c.in_ok-count.count.negative c.in_ok-count.count.size =
    at_some (¬ IsNumberWord c.args.word.now) (λ (k : KeptCount). KeepsCount c.args.decimals c.args.word.now k.negative k.size) c.read_kept_count.result c.in_ok-count.count c.in_ok-count.ensures.ok_part c.read_kept_count.ensures in
    (λ e. absurd (cc), λ past. absurd (let below : unsigned_abs past.0 < c.args.limit = not_past_kept _ _ _ _ _ past.0 keeps c.requires.within c.if-count-limit.false past.1 in let above : c.args.limit ≤ unsigned_abs past.0 = past.2 in omega arith))
