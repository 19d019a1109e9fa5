-- The counts of a word: there is just one, and what the reader keeps tells it.
use Rattle.std.proofs.Common.{◌≡◌, ℕ, ◌+◌, ◌*◌, ◌%◌, ◌^◌, ◌<◌, ◌≤◌, zero, suc, Bool, true, false, List, refl, arith, sym, ap, ◌∙◌, ⊎_elim, subst, ℤ, pos, ◌*ℤ◌, unsigned_abs, Some, zero-mul, ◌-◌, ◌/◌}
use Rattle.std.proofs.Math.Nat.{one-le-pow, add-mul-mod_self_right, mul-add-mod_self_right}
use Rattle.std.proofs.lemmas.Nat.{pow-add, div-add-mod'}
use Rattle.std.proofs.lemmas.Bool.{cases_lt}
use Rattle.fixed_num.specs.NumberWord.{Parts, HasParts}
use Rattle.fixed_num.specs.DecimalValue.{RoundsTo, IsExactly, IsNearest, with_sign, numerator, denominator}
use Rattle.fixed_num.specs.Scan.{scan, squeezed, KeepsCount}
use Rattle.fixed_num.proofs.Cuts.{scan-of_parts}
use Rattle.fixed_num.proofs.Kept.{squeezed-small, squeezed-great}
use Rattle.fixed_num.proofs.Nearest.{same_from_nearest, IsNearest-from_between, nearest_of_exact}

-- ---- signs

pub unsigned_abs-with_sign : (negative : Bool) (n : ℕ) → unsigned_abs (with_sign negative n) ≡ n
unsigned_abs-with_sign true zero = refl
unsigned_abs-with_sign true (suc n) = refl
unsigned_abs-with_sign false n = refl

pub with_sign-mul : (negative : Bool) (n k : ℕ) → with_sign negative n *ℤ pos k ≡ with_sign negative (n * k)
with_sign-mul true zero k = rw (zero-mul k) refl
with_sign-mul true (suc n) k = refl
with_sign-mul false n k = refl

-- ---- one word, one count

pub same_parts : (word : List ℕ) (p q : Parts) → HasParts word p → HasParts word q → p ≡ q
same_parts word p q h k =
    let first : scan word ≡ Some p = scan-of_parts word p h in
    let second : scan word ≡ Some q = scan-of_parts word q k in
    cc

-- the count of a word is the one that its parts give
pub count_from_parts : (decimals : ℕ) (word : List ℕ) (parts : Parts) (size : ℕ) (count : ℤ) → HasParts word parts
    → IsNearest (numerator parts * 10 ^ decimals) (denominator parts) size → RoundsTo decimals word count → count ≡ with_sign parts.negative size
count_from_parts decimals word parts size count h near rounds =
    let same : rounds.parts ≡ parts = same_parts word rounds.parts parts rounds.has_parts h in
    let near' : IsNearest (numerator parts * 10 ^ decimals) (denominator parts) rounds.size =
    subst (λ p. IsNearest (numerator p * 10 ^ decimals) (denominator p) rounds.size) same rounds.nearest in
    let sizes : rounds.size ≡ size = same_from_nearest _ _ _ _ near' near in
    rounds.is_signed ∙ ap (λ p. with_sign p.negative rounds.size) same ∙ ap (with_sign parts.negative) sizes

pub same_count : (decimals : ℕ) (word : List ℕ) (a b : ℤ) → RoundsTo decimals word a → RoundsTo decimals word b → a ≡ b
same_count decimals word a b h k =
    count_from_parts decimals word k.parts k.size a k.has_parts k.nearest h ∙ sym k.is_signed

pub positive_denominator : (parts : Parts) → 0 < denominator parts
positive_denominator parts = one-le-pow _ 10 (omega arith)

-- an exact value rounds to itself
pub RoundsTo-from_exact : (decimals : ℕ) (word : List ℕ) (count : ℤ) → IsExactly decimals word count → RoundsTo decimals word count
RoundsTo-from_exact decimals word count h = record {
  parts = h.parts;
  has_parts = h.has_parts;
  size = h.size;
  nearest = IsNearest-from_between _ _ _ (nearest_of_exact _ _ _ (positive_denominator h.parts) h.exact);
  is_signed = h.is_signed;
}

-- ---- what is kept of a count

pub small_from_kept : (size : ℕ) → squeezed size < 10 ^ 18 → size ≡ squeezed size
small_from_kept size h = ⊎_elim (λ k. sym (squeezed-small size k)) (λ k. absurd (omega (arith, squeezed-great size k))) (cases_lt size (10 ^ 18))

pub great_from_kept : (size limit : ℕ) → limit ≤ 10 ^ 18 → limit ≤ squeezed size → limit ≤ size
great_from_kept size limit h k = ⊎_elim (λ l. omega (arith, squeezed-small size l)) (λ l. omega arith) (cases_lt size (10 ^ 18))

-- up to six last digits of a count are those of what is kept of it
power_split : (a d : ℕ) → d ≤ a → 10 ^ a ≡ 10 ^ (a - d) * 10 ^ d
power_split a d h = let parts : a ≡ a - d + d = omega arith in ap (λ n. 10 ^ n) parts ∙ pow-add 10 (a - d) d

regroup : (m q p r n : ℕ) → m * (q * p) + r ≡ n → n ≡ r + m * q * p
regroup m q p r n e = omega arith

rest_of_rest : (n q p : ℕ) → n % (q * p) % p ≡ n % p
rest_of_rest n q p =
    let cut : n ≡ n % (q * p) + n / (q * p) * q * p = regroup (n / (q * p)) q p (n % (q * p)) n (div-add-mod' n (q * p)) in
    sym (ap (λ x. x % p) cut ∙ add-mul-mod_self_right (n % (q * p)) (n / (q * p) * q) p)

rest_again : (decimals n : ℕ) → decimals ≤ 6 → (10 ^ 18 + n % 10 ^ 6) % 10 ^ decimals ≡ n % 10 ^ decimals
rest_again decimals n few =
    ap (λ g. (g + n % 10 ^ 6) % 10 ^ decimals) (power_split 18 decimals (omega arith))
    ∙ mul-add-mod_self_right (10 ^ (18 - decimals)) (10 ^ decimals) (n % 10 ^ 6)
    ∙ ap (λ m. n % m % 10 ^ decimals) (power_split 6 decimals few)
    ∙ rest_of_rest n (10 ^ (6 - decimals)) (10 ^ decimals)

pub rest_from_kept : (decimals size : ℕ) → decimals ≤ 6 → squeezed size % 10 ^ decimals ≡ size % 10 ^ decimals
rest_from_kept decimals size few = ⊎_elim (λ l. ap (λ x. x % 10 ^ decimals) (squeezed-small size l))
    (λ l. ap (λ x. x % 10 ^ decimals) (squeezed-great size l) ∙ rest_again decimals size few) (cases_lt size (10 ^ 18))

-- ---- the count that is kept of a word

kept_count_is : (decimals : ℕ) (word : List ℕ) (negative : Bool) (kept : ℕ) (k : KeepsCount decimals word negative kept) (count : ℤ)
    → RoundsTo decimals word count → count ≡ with_sign negative k.keeps.size
kept_count_is decimals word negative kept k count rounds =
    count_from_parts decimals word k.parts k.keeps.size count k.has_parts k.keeps.nearest rounds ∙ ap (λ s. with_sign s k.keeps.size) (sym k.is_signed)

pub size_from_kept : (decimals : ℕ) (word : List ℕ) (negative : Bool) (kept : ℕ) (k : KeepsCount decimals word negative kept) (count : ℤ)
    → RoundsTo decimals word count → unsigned_abs count ≡ k.keeps.size
size_from_kept decimals word negative kept k count rounds =
    ap unsigned_abs (kept_count_is decimals word negative kept k count rounds) ∙ unsigned_abs-with_sign negative k.keeps.size

pub rounds_from_kept : (decimals : ℕ) (word : List ℕ) (negative : Bool) (kept : ℕ) → (k : KeepsCount decimals word negative kept)
    → RoundsTo decimals word (with_sign negative k.keeps.size)
rounds_from_kept decimals word negative kept k = record {
  parts = k.parts;
  has_parts = k.has_parts;
  size = k.keeps.size;
  nearest = k.keeps.nearest;
  is_signed = ap (λ s. with_sign s k.keeps.size) k.is_signed;
}

pub kept_is_size : (decimals : ℕ) (word : List ℕ) (negative : Bool) (kept : ℕ) → (k : KeepsCount decimals word negative kept) → kept < 10 ^ 18 → k.keeps.size ≡ kept
kept_is_size decimals word negative kept k h =
    let is_kept : kept ≡ squeezed k.keeps.size = k.keeps.is_squeezed in
    small_from_kept k.keeps.size (omega arith) ∙ sym is_kept

pub rounds_to_kept : (decimals : ℕ) (word : List ℕ) (negative : Bool) (kept : ℕ) → KeepsCount decimals word negative kept → kept < 10 ^ 18
    → RoundsTo decimals word (with_sign negative kept)
rounds_to_kept decimals word negative kept k small =
    subst (λ n. RoundsTo decimals word (with_sign negative n)) (kept_is_size decimals word negative kept k small) (rounds_from_kept decimals word negative kept k)

-- ---- too large a count

pub past_from_kept : (decimals : ℕ) (word : List ℕ) (negative : Bool) (kept limit : ℕ) → KeepsCount decimals word negative kept → limit ≤ 10 ^ 18 → limit ≤ kept
    → (count : ℤ) × RoundsTo decimals word count × (limit ≤ unsigned_abs count)
past_from_kept decimals word negative kept limit k bound past =
    let is_kept : kept ≡ squeezed k.keeps.size = k.keeps.is_squeezed in
    let size_past : limit ≤ k.keeps.size = great_from_kept k.keeps.size limit bound (omega arith) in
    (with_sign negative k.keeps.size, rounds_from_kept decimals word negative kept k, rw (unsigned_abs-with_sign negative k.keeps.size) size_past)

pub not_past_kept : (decimals : ℕ) (word : List ℕ) (negative : Bool) (kept limit : ℕ) (count : ℤ) → KeepsCount decimals word negative kept → limit ≤ 10 ^ 18 → kept < limit
    → RoundsTo decimals word count → unsigned_abs count < limit
not_past_kept decimals word negative kept limit count k bound below rounds =
    let size : k.keeps.size ≡ kept = kept_is_size decimals word negative kept k (omega arith) in
    omega (arith, size_from_kept decimals word negative kept k count rounds)
