-- What the reader keeps of a count of at most six decimals tells whether it is whole, and which whole number it is.
use Rattle.std.proofs.Common.{◌≡◌, ◌≢◌, ℕ, zero, suc, ◌+◌, ◌*◌, ◌/◌, ◌%◌, ◌^◌, ◌<◌, ◌≤◌, Bool, List, arith, sym, ap, ◌∙◌, ⊎_elim, subst, ℤ, pos, negsuc, neg_ℤ, ◌*ℤ◌, ◌-ℤ◌, ◌≤ℤ◌, unsigned_abs}
use Rattle.std.proofs.Math.Nat.{one-le-pow, pow-le-pow_right, mul-mod_left, mul-div_cancel}
use Rattle.std.proofs.lemmas.Bool.{cases_lt}
use Rattle.std.proofs.lemmas.Int.{unsigned_abs-mul, ints}
use Rattle.std.proofs.lemmas.Nat.{mul-le, div-add-mod', mod_below}
use Rattle.fixed_num.specs.DecimalValue.{RoundsTo, with_sign}
use Rattle.fixed_num.specs.Scan.{KeepsCount}
use Rattle.fixed_num.specs.Whole.{IsWithin}
use Rattle.fixed_num.proofs.Kept.{squeezed-small}
use Rattle.fixed_num.proofs.Counts.{unsigned_abs-with_sign, with_sign-mul, size_from_kept, same_count, rest_from_kept, rounds_from_kept, kept_is_size}

-- a factor above 0 is taken off
same_factor : (a b p : ℕ) → 0 < p → a * p ≡ b * p → a ≡ b
same_factor a b p h e = sym (mul-div_cancel a h) ∙ ap (λ x. x / p) e ∙ mul-div_cancel b h

no_sign_twice : (m n : ℕ) → 0 < n → pos m ≡ neg_ℤ (pos n) → ⊥
no_sign_twice m zero h e = absurd (omega arith)
no_sign_twice m (suc n) h e = absurd (cc)

some_times : (a p : ℕ) → 0 < p → 0 < suc a * p
some_times a p h = omega (arith, mul-le 1 1 (suc a) p (omega arith) h)

same_factor_z : (a b : ℤ) (p : ℕ) → 0 < p → a *ℤ pos p ≡ b *ℤ pos p → a ≡ b
same_factor_z (pos a) (pos b) p h e = ap pos (same_factor a b p h (ap unsigned_abs e))
same_factor_z (pos a) (negsuc b) p h e = absurd (no_sign_twice (a * p) (suc b * p) (some_times b p h) e)
same_factor_z (negsuc a) (pos b) p h e = absurd (no_sign_twice (b * p) (suc a * p) (some_times a p h) (sym e))
same_factor_z (negsuc a) (negsuc b) p h e =
    let sizes : suc a * p ≡ suc b * p = sym (unsigned_abs-mul (negsuc a) (pos p)) ∙ ap unsigned_abs e ∙ unsigned_abs-mul (negsuc b) (pos p) in
    let same : suc a ≡ suc b = same_factor (suc a) (suc b) p h sizes in
    let equal : a ≡ b = omega arith in
    ap negsuc equal

-- a count is whole just where its last digits are 0
size_of_whole : (decimals : ℕ) (whole : ℤ) → unsigned_abs (whole *ℤ pos (10 ^ decimals)) ≡ unsigned_abs whole * 10 ^ decimals
size_of_whole decimals whole = unsigned_abs-mul whole (pos (10 ^ decimals))

no_rest : (whole rest : ℕ) → rest ≡ 0 → whole + rest ≡ whole
no_rest whole rest e = omega arith

whole_of_rest : (decimals : ℕ) (negative : Bool) (size : ℕ) → size % 10 ^ decimals ≡ 0
    → with_sign negative size ≡ with_sign negative (size / 10 ^ decimals) *ℤ pos (10 ^ decimals)
whole_of_rest decimals negative size e =
    let sizes : size ≡ size / 10 ^ decimals * 10 ^ decimals = sym (div-add-mod' size (10 ^ decimals)) ∙ no_rest _ _ e in
    ap (with_sign negative) sizes ∙ sym (with_sign-mul negative (size / 10 ^ decimals) (10 ^ decimals))

kept_rest : (decimals : ℕ) (word : List ℕ) (negative : Bool) (kept : ℕ) → decimals ≤ 6 → (k : KeepsCount decimals word negative kept)
    → kept % 10 ^ decimals ≡ k.keeps.size % 10 ^ decimals
kept_rest decimals word negative kept few k = ap (λ n. n % 10 ^ decimals) k.keeps.is_squeezed ∙ rest_from_kept decimals k.keeps.size few

-- the last digits are not 0: there is a count, and it is not whole
pub no_whole_from_kept : (decimals : ℕ) (word : List ℕ) (negative : Bool) (kept : ℕ) (whole : ℤ) → decimals ≤ 6 → KeepsCount decimals word negative kept
    → kept % 10 ^ decimals ≢ 0 → RoundsTo decimals word (whole *ℤ pos (10 ^ decimals)) → ⊥
no_whole_from_kept decimals word negative kept whole few k some rounds =
    let size : k.keeps.size ≡ unsigned_abs whole * 10 ^ decimals = sym (size_from_kept decimals word negative kept k _ rounds) ∙ size_of_whole decimals whole in
    some (kept_rest decimals word negative kept few k ∙ ap (λ n. n % 10 ^ decimals) size ∙ mul-mod_left (unsigned_abs whole) (10 ^ decimals))

pub fraction_from_kept : (decimals : ℕ) (word : List ℕ) (negative : Bool) (kept : ℕ) → decimals ≤ 6 → KeepsCount decimals word negative kept → kept % 10 ^ decimals ≢ 0
    → (count : ℤ) × RoundsTo decimals word count × ((whole : ℤ) → count ≢ whole *ℤ pos (10 ^ decimals))
fraction_from_kept decimals word negative kept few k some =
    let rounds : RoundsTo decimals word (with_sign negative k.keeps.size) = rounds_from_kept decimals word negative kept k in
    (with_sign negative k.keeps.size, rounds, λ whole e. no_whole_from_kept decimals word negative kept whole few k some (subst (RoundsTo decimals word) e rounds))

-- they are 0: the count is whole
rounds_to_whole : (decimals : ℕ) (word : List ℕ) (negative : Bool) (kept : ℕ) → decimals ≤ 6 → (k : KeepsCount decimals word negative kept) → kept % 10 ^ decimals ≡ 0
    → RoundsTo decimals word (with_sign negative (k.keeps.size / 10 ^ decimals) *ℤ pos (10 ^ decimals))
rounds_to_whole decimals word negative kept few k none =
    subst (RoundsTo decimals word) (whole_of_rest decimals negative k.keeps.size (sym (kept_rest decimals word negative kept few k) ∙ none)) (rounds_from_kept decimals word negative kept k)

pub no_fraction_from_kept : (decimals : ℕ) (word : List ℕ) (negative : Bool) (kept : ℕ) (count : ℤ) → decimals ≤ 6 → KeepsCount decimals word negative kept
    → kept % 10 ^ decimals ≡ 0 → RoundsTo decimals word count → ((whole : ℤ) → count ≢ whole *ℤ pos (10 ^ decimals)) → ⊥
no_fraction_from_kept decimals word negative kept count few k none rounds never =
    never (with_sign negative (k.keeps.size / 10 ^ decimals)) (same_count decimals word count _ rounds (rounds_to_whole decimals word negative kept few k none))

-- ---- a range about zero

-- a range about zero that ends at 2^32 at most
pub record IsAboutZero (least most : ℤ) : Type 0 where
  pub low : IsWithin (negsuc 4294967295) (pos 0) least
  pub high : IsWithin (pos 0) (pos 4294967296) most

size_within : (least most : ℤ) (negative : Bool) (size : ℕ) → IsAboutZero least most → IsWithin least most (with_sign negative size) → size ≤ 2 ^ 32
size_within least most negative size about h =
    let low : negsuc 4294967295 ≤ℤ least = about.low.0 in
    let high : most ≤ℤ pos 4294967296 = about.high.1 in
    let above : least ≤ℤ with_sign negative size = h.0 in
    let below : with_sign negative size ≤ℤ most = h.1 in
    let within : unsigned_abs (with_sign negative size) ≤ 2 ^ 32 = omega (arith, ints) in
    rw (unsigned_abs-with_sign negative size) at within

-- a count with a small whole part is kept as it is
exact_from_whole : (decimals n : ℕ) → decimals ≤ 6 → n / 10 ^ decimals ≤ 2 ^ 32 → n < 10 ^ 18
exact_from_whole decimals n few small =
    let ten : 0 < 10 = omega arith in
    let million : 10 ^ decimals ≤ 10 ^ 6 = pow-le-pow_right ten few in
    let cut : n / 10 ^ decimals * 10 ^ decimals + n % 10 ^ decimals ≡ n = div-add-mod' n (10 ^ decimals) in
    let rest : n % 10 ^ decimals < 10 ^ decimals = mod_below n (10 ^ decimals) (one-le-pow decimals 10 (omega arith)) in
    let whole : n / 10 ^ decimals * 10 ^ decimals ≤ 2 ^ 32 * 10 ^ 6 = mul-le (n / 10 ^ decimals) (10 ^ decimals) (2 ^ 32) (10 ^ 6) small million in
    omega arith

kept_if_small : (decimals : ℕ) (word : List ℕ) (negative : Bool) (kept : ℕ) → decimals ≤ 6 → (k : KeepsCount decimals word negative kept)
    → k.keeps.size / 10 ^ decimals ≤ 2 ^ 32 → k.keeps.size ≡ kept
kept_if_small decimals word negative kept few k small =
    let exact : k.keeps.size < 10 ^ 18 = exact_from_whole decimals k.keeps.size few small in
    sym (squeezed-small k.keeps.size exact) ∙ sym k.keeps.is_squeezed

pub whole_within : (decimals : ℕ) (word : List ℕ) (negative : Bool) (kept : ℕ) (least most : ℤ) → decimals ≤ 6 → IsAboutZero least most → KeepsCount decimals word negative kept
    → kept % 10 ^ decimals ≡ 0 → IsWithin least most (with_sign negative (kept / 10 ^ decimals))
    → RoundsTo decimals word (with_sign negative (kept / 10 ^ decimals) *ℤ pos (10 ^ decimals))
whole_within decimals word negative kept least most few about k none within =
    let small : kept / 10 ^ decimals ≤ 2 ^ 32 = size_within least most negative (kept / 10 ^ decimals) about within in
    subst (λ n. RoundsTo decimals word (with_sign negative (n / 10 ^ decimals) *ℤ pos (10 ^ decimals)))
    (kept_is_size decimals word negative kept k (exact_from_whole decimals kept few small)) (rounds_to_whole decimals word negative kept few k none)

-- the word's whole number is within a range just where what is kept of it is
pub whole_outside : (decimals : ℕ) (word : List ℕ) (negative : Bool) (kept : ℕ) (least most : ℤ) → decimals ≤ 6 → IsAboutZero least most → KeepsCount decimals word negative kept
    → kept % 10 ^ decimals ≡ 0 → ¬ IsWithin least most (with_sign negative (kept / 10 ^ decimals))
    → (whole : ℤ) × RoundsTo decimals word (whole *ℤ pos (10 ^ decimals)) × ¬ IsWithin least most whole
whole_outside decimals word negative kept least most few about k none outside = (
  with_sign negative (k.keeps.size / 10 ^ decimals),
  rounds_to_whole decimals word negative kept few k none,
  λ within. outside (subst (λ n. IsWithin least most (with_sign negative (n / 10 ^ decimals)))
      (kept_if_small decimals word negative kept few k (size_within least most negative (k.keeps.size / 10 ^ decimals) about within)) within),
)

pub none_outside : (decimals : ℕ) (word : List ℕ) (negative : Bool) (kept : ℕ) (least most whole : ℤ) → decimals ≤ 6 → IsAboutZero least most → KeepsCount decimals word negative kept
    → kept % 10 ^ decimals ≡ 0 → IsWithin least most (with_sign negative (kept / 10 ^ decimals)) → RoundsTo decimals word (whole *ℤ pos (10 ^ decimals)) → IsWithin least most whole
none_outside decimals word negative kept least most whole few about k none within rounds =
    let same : whole *ℤ pos (10 ^ decimals) ≡ with_sign negative (kept / 10 ^ decimals) *ℤ pos (10 ^ decimals) =
    same_count decimals word _ _ rounds (whole_within decimals word negative kept least most few about k none within) in
    rw (same_factor_z whole (with_sign negative (kept / 10 ^ decimals)) (10 ^ decimals) (one-le-pow decimals 10 (omega arith)) same) within

-- ---- a range on both sides of zero

pub size_within_limit : (least limit whole : ℤ) → least ≡ pos 0 -ℤ limit → pos 0 ≤ℤ limit → IsWithin least limit whole → unsigned_abs whole ≤ unsigned_abs limit
size_within_limit least limit whole e some h =
    let above : least ≤ℤ whole = h.0 in
    let below : whole ≤ℤ limit = h.1 in
    omega (arith, ints)

pub size_outside_limit : (least limit whole : ℤ) → least ≡ pos 0 -ℤ limit → pos 0 ≤ℤ limit → ¬ IsWithin least limit whole → unsigned_abs limit < unsigned_abs whole
size_outside_limit least limit whole e some h = ⊎_elim (λ past. past)
    (λ within. absurd (h (let above : least ≤ℤ whole = omega (arith, ints) in above, let below : whole ≤ℤ limit = omega (arith, ints) in below)))
    (cases_lt (unsigned_abs limit) (unsigned_abs whole))
