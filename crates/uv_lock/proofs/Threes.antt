-- Lists of three numbers, element by element.
use Rattle.std.proofs.Common.{◌≡◌, ◌∙◌, List, [], ◌∷◌, map, length, get_or, refl, arith, ℤ, pos, neg_ℤ, ◌^◌, ◌<◌, ◌≤◌, ◌-ℤ◌, ◌*ℤ◌, unsigned_abs, to_z, of_z, w64}
use Rattle.std.proofs.lemmas.Int.{ints}
use Rattle.algebra.proofs.Wide.{sizes, exactly, argument, called}

three_are : (f : ℤ → ℤ) (l : List ℤ) → length l ≡ 3 → f (get_or l 0 (pos 0)) ∷ f (get_or l 1 (pos 0)) ∷ f (get_or l 2 (pos 0)) ∷ [] ≡ map f l
three_are f (a ∷ b ∷ c ∷ []) e = refl
three_are f [] e = absurd (omega (arith, e))
three_are f (a ∷ []) e = absurd (omega (arith, e))
three_are f (a ∷ b ∷ []) e = absurd (omega (arith, e))
three_are f (a ∷ b ∷ c ∷ d ∷ l) e = absurd (omega (arith, e))

-- the count of a whole part that is small
abbrev pub count : ℤ → ℤ
count z = to_z w64 (of_z w64 (to_z w64 (of_z w64 z) *ℤ pos 1000000000))

count_is : (z : ℤ) → unsigned_abs z ≤ 1 → count z ≡ z *ℤ pos 1000000000
count_is z h = let p = argument z 1 h in exactly (search sizes depth 20) tt

pub counts_are : (l : List ℤ) → length l ≡ 3 → unsigned_abs (get_or l 0 (pos 0)) ≤ 1 → unsigned_abs (get_or l 1 (pos 0)) ≤ 1 → unsigned_abs (get_or l 2 (pos 0)) ≤ 1 →
    count (get_or l 0 (pos 0)) ∷ count (get_or l 1 (pos 0)) ∷ count (get_or l 2 (pos 0)) ∷ [] ≡ map (λ z. z *ℤ pos 1000000000) l
counts_are l three x y z = (λ i. count_is (get_or l 0 (pos 0)) x i ∷ count_is (get_or l 1 (pos 0)) y i ∷ count_is (get_or l 2 (pos 0)) z i ∷ []) ∙ three_are (λ z. z *ℤ pos 1000000000) l three

-- ---- the opposite of an axis
abbrev pub minus : ℤ → ℤ
minus z = to_z w64 (of_z w64 (pos 0 -ℤ to_z w64 (of_z w64 z)))

none_less : (a : ℤ) → pos 0 -ℤ a ≡ neg_ℤ a
none_less a = omega (arith, ints)

minus_is : (z a : ℤ) → unsigned_abs z < 10 ^ 15 → z ≡ a → minus z ≡ neg_ℤ a
minus_is z a h e =
    let p = called (10 ^ 15) e (omega arith) in
    let s : minus z ≡ pos 0 -ℤ a = exactly (search sizes depth 20) tt in
    s ∙ none_less a

pub opposites_are : (l : List ℤ) (x y z : ℤ) → length l ≡ 3 → unsigned_abs x < 10 ^ 15 → unsigned_abs y < 10 ^ 15 → unsigned_abs z < 10 ^ 15 →
    x ≡ get_or l 0 (pos 0) → y ≡ get_or l 1 (pos 0) → z ≡ get_or l 2 (pos 0) → minus x ∷ minus y ∷ minus z ∷ [] ≡ map neg_ℤ l
opposites_are l x y z three h i j e f g = (λ k. minus_is x _ h e k ∷ minus_is y _ i f k ∷ minus_is z _ j g k ∷ []) ∙ three_are neg_ℤ l three
