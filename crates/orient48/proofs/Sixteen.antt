-- Sixteen numbers as a motion, and which texts are one.
use Rattle.std.proofs.Common.{◌≡◌, ℕ, zero, suc, ◌<◌, ◌≤◌, ◌^◌, ◌==◌, Bool, true, false, ◌&&◌, cond, List, [], ◌∷◌, All, length, get_or, Option, Some, None, refl, sym, ap, subst, ◌∙◌, arith, inl, inr, ℤ, pos, unsigned_abs, nat_le, eqb-true, FitsSigned, w32}
use Rattle.std.specs.Prelude.{option_map, option_and_then, is_some}
use Rattle.std.specs.Ordering.{int_eq}
use Rattle.std.proofs.lemmas.Bool.{and_parts, or_cases, true≢false}
use Rattle.std.proofs.lemmas.Bool.Decides.{nat_tests, Decides-int_eq}
use Rattle.std.proofs.lemmas.Int.{fits_signed_from_abs}
use Rattle.std.proofs.lemmas.List.Elements.{All-from_get_or}
use Rattle.algebra.specs.Space.{Vector}
use Rattle.exact_geom.specs.Machine.{IsWithin}
use Rattle.orient48.specs.Kept.{within_limit}
use Rattle.orient48.specs.Motions.{Matrix, Motion, vector_at, is_unit, is_signed_permutation, is_short, is_kept_motion}
use Rattle.orient48.specs.MotionTexts.{is_last_row, kept_motion, motion_of_numbers, whole_in, wholes_in}
use Rattle.orient48.specs.Reading.{small_in, first_numbers}
use Rattle.orient48.proofs.Matrices.{three}
use Rattle.orient48.proofs.Parts.{within_short}
use Rattle.orient48.proofs.Units.{unit_rows}

-- ---- the motion of sixteen numbers
abbrev pub matrix_at : List ℤ → Matrix
matrix_at n = record {
  x = vector_at (get_or n 0 (pos 0)) (get_or n 1 (pos 0)) (get_or n 2 (pos 0));
  y = vector_at (get_or n 4 (pos 0)) (get_or n 5 (pos 0)) (get_or n 6 (pos 0));
  z = vector_at (get_or n 8 (pos 0)) (get_or n 9 (pos 0)) (get_or n 10 (pos 0));
}

abbrev pub shift_at : List ℤ → Vector
shift_at n = vector_at (get_or n 3 (pos 0)) (get_or n 7 (pos 0)) (get_or n 11 (pos 0))

abbrev pub last_row_at : List ℤ → Bool
last_row_at n = is_last_row (get_or n 12 (pos 0)) (get_or n 13 (pos 0)) (get_or n 14 (pos 0)) (get_or n 15 (pos 0))

none_chosen : (a b : Bool) (o : Option Motion) → b ≡ false → cond (a && b) o None ≡ None
none_chosen true b o e = ap (λ b. cond b o None) e
none_chosen false b o e = refl

pub other_row : (n : List ℤ) → last_row_at n ≡ false → None ≡ motion_of_numbers n
other_row n e = sym (none_chosen (length n == 16) (last_row_at n) (kept_motion (record { matrix = matrix_at n; shift = shift_at n })) e)

none_either : (b : Bool) (o : Option Motion) → o ≡ None → cond b o None ≡ None
none_either true o e = e
none_either false o e = refl

pub other_matrix : (n : List ℤ) → is_signed_permutation (matrix_at n) ≡ false → None ≡ motion_of_numbers n
other_matrix n e =
    let r : Motion = record { matrix = matrix_at n; shift = shift_at n } in
    sym (none_either (length n == 16 && last_row_at n) (kept_motion r) (ap (λ b. cond (b && is_short (shift_at n)) (Some r) None) e))

both : (a b : Bool) (o : Option Motion) → a ≡ true → b ≡ true → o ≡ cond (a && b) o None
both true true o e f = refl
both true false o e f = absurd (true≢false (sym f))
both false b o e f = absurd (true≢false (sym e))

sixteen : (n : ℕ) → n ≡ 16 → (n == 16) ≡ true
sixteen n e = ap (λ k. k == 16) e

pub whole_motion : (n : List ℤ) (m : Matrix) (s : Vector) → length n ≡ 16 → last_row_at n ≡ true → m ≡ matrix_at n → is_signed_permutation m ≡ true → s ≡ shift_at n →
    within_limit (record { matrix = m; shift = s }) ≡ motion_of_numbers n
whole_motion n m s l e f g h =
    let r : Motion = record { matrix = matrix_at n; shift = shift_at n } in
    (λ i. within_limit (record { matrix = f i; shift = h i }))
    ∙ sym (ap (λ b. cond (b && is_short (shift_at n)) (Some r) None) (ap is_signed_permutation (sym f) ∙ g))
    ∙ both (length n == 16) (last_row_at n) (kept_motion r) (sixteen (length n) l) e

-- ---- machine numbers
pub part_small : (n : List ℤ) (k : ℕ) → length n ≡ 16 → k < 16 → All (λ x. unsigned_abs x ≤ 1000000) n → unsigned_abs (get_or n k (pos 0)) ≤ 1000000
part_small n k l h all = all k (pos 0) (omega (arith, l, h))

below_2_31 : (n : ℕ) → n ≤ 1000000 → n < 2 ^ 31
below_2_31 n h = omega (arith, h)

pub small_fits : (x y : ℤ) → y ≡ x → unsigned_abs x ≤ 1000000 → FitsSigned w32 y
small_fits x y e h = subst (FitsSigned w32) (sym e) (fits_signed_from_abs w32 x (below_2_31 (unsigned_abs x) h))

-- ---- sizes of the numbers of a motion
up_to_fifteen : (P : ℕ → Type 0) → P 0 → P 1 → P 2 → P 3 → P 4 → P 5 → P 6 → P 7 → P 8 → P 9 → P 10 → P 11 → P 12 → P 13 → P 14 → P 15 → (n : ℕ) → n < 16 → P n
up_to_fifteen P p0 p1 p2 p3 p4 p5 p6 p7 p8 p9 p10 p11 p12 p13 p14 p15 zero h = p0
up_to_fifteen P p0 p1 p2 p3 p4 p5 p6 p7 p8 p9 p10 p11 p12 p13 p14 p15 (suc zero) h = p1
up_to_fifteen P p0 p1 p2 p3 p4 p5 p6 p7 p8 p9 p10 p11 p12 p13 p14 p15 (suc (suc zero)) h = p2
up_to_fifteen P p0 p1 p2 p3 p4 p5 p6 p7 p8 p9 p10 p11 p12 p13 p14 p15 (suc (suc (suc zero))) h = p3
up_to_fifteen P p0 p1 p2 p3 p4 p5 p6 p7 p8 p9 p10 p11 p12 p13 p14 p15 (suc (suc (suc (suc zero)))) h = p4
up_to_fifteen P p0 p1 p2 p3 p4 p5 p6 p7 p8 p9 p10 p11 p12 p13 p14 p15 (suc (suc (suc (suc (suc zero))))) h = p5
up_to_fifteen P p0 p1 p2 p3 p4 p5 p6 p7 p8 p9 p10 p11 p12 p13 p14 p15 (suc (suc (suc (suc (suc (suc zero)))))) h = p6
up_to_fifteen P p0 p1 p2 p3 p4 p5 p6 p7 p8 p9 p10 p11 p12 p13 p14 p15 (suc (suc (suc (suc (suc (suc (suc zero))))))) h = p7
up_to_fifteen P p0 p1 p2 p3 p4 p5 p6 p7 p8 p9 p10 p11 p12 p13 p14 p15 (suc (suc (suc (suc (suc (suc (suc (suc zero)))))))) h = p8
up_to_fifteen P p0 p1 p2 p3 p4 p5 p6 p7 p8 p9 p10 p11 p12 p13 p14 p15 (suc (suc (suc (suc (suc (suc (suc (suc (suc zero))))))))) h = p9
up_to_fifteen P p0 p1 p2 p3 p4 p5 p6 p7 p8 p9 p10 p11 p12 p13 p14 p15 (suc (suc (suc (suc (suc (suc (suc (suc (suc (suc zero)))))))))) h = p10
up_to_fifteen P p0 p1 p2 p3 p4 p5 p6 p7 p8 p9 p10 p11 p12 p13 p14 p15 (suc (suc (suc (suc (suc (suc (suc (suc (suc (suc (suc zero))))))))))) h = p11
up_to_fifteen P p0 p1 p2 p3 p4 p5 p6 p7 p8 p9 p10 p11 p12 p13 p14 p15 (suc (suc (suc (suc (suc (suc (suc (suc (suc (suc (suc (suc zero)))))))))))) h = p12
up_to_fifteen P p0 p1 p2 p3 p4 p5 p6 p7 p8 p9 p10 p11 p12 p13 p14 p15 (suc (suc (suc (suc (suc (suc (suc (suc (suc (suc (suc (suc (suc zero))))))))))))) h = p13
up_to_fifteen P p0 p1 p2 p3 p4 p5 p6 p7 p8 p9 p10 p11 p12 p13 p14 p15 (suc (suc (suc (suc (suc (suc (suc (suc (suc (suc (suc (suc (suc (suc zero)))))))))))))) h = p14
up_to_fifteen P p0 p1 p2 p3 p4 p5 p6 p7 p8 p9 p10 p11 p12 p13 p14 p15 (suc (suc (suc (suc (suc (suc (suc (suc (suc (suc (suc (suc (suc (suc (suc zero))))))))))))))) h = p15
up_to_fifteen P p0 p1 p2 p3 p4 p5 p6 p7 p8 p9 p10 p11 p12 p13 p14 p15 (suc (suc (suc (suc (suc (suc (suc (suc (suc (suc (suc (suc (suc (suc (suc (suc n)))))))))))))))) h = absurd (omega arith)

is_one : (a : ℕ) → a ≡ 1 → a ≤ 1000000
is_one a e = omega (arith, e)

is_none : (a : ℕ) → a ≡ 0 → a ≤ 1000000
is_none a e = omega (arith, e)

unit_small : (v : Vector) → is_unit v ≡ true → IsWithin 1000000 v
unit_small v h =
    elim (or_cases (unsigned_abs v.x == 1 && (unsigned_abs v.y == 0 && unsigned_abs v.z == 0)) _ h) [
      | inl e ↦ let t = three (unsigned_abs v.x) (unsigned_abs v.y) (unsigned_abs v.z) 1 0 0 e in record { x = is_one _ t.0; y = is_none _ t.1; z = is_none _ t.2 }
      | inr f ↦ elim (or_cases (unsigned_abs v.x == 0 && (unsigned_abs v.y == 1 && unsigned_abs v.z == 0)) _ f) [
        | inl e ↦ let t = three (unsigned_abs v.x) (unsigned_abs v.y) (unsigned_abs v.z) 0 1 0 e in record { x = is_none _ t.0; y = is_one _ t.1; z = is_none _ t.2 }
        | inr e ↦ let t = three (unsigned_abs v.x) (unsigned_abs v.y) (unsigned_abs v.z) 0 0 1 e in record { x = is_none _ t.0; y = is_none _ t.1; z = is_one _ t.2 }
      ]
    ]

number_small : (x : ℤ) (n : ℕ) → n ≤ 1 → int_eq x (pos n) ≡ true → unsigned_abs x ≤ 1000000
number_small x n l e = subst (λ z. unsigned_abs z ≤ 1000000) (sym ((Decides-int_eq x (pos n)).0 e)) (omega (arith, l))

made : (b : Bool) (o : Option Motion) (r : Motion) → cond b o None ≡ Some r → (b ≡ true) × (o ≡ Some r)
made true o r e = (refl, e)
made false o r e = absurd (true≢false (sym (ap is_some e)))

kept_is : (r s : Motion) → kept_motion r ≡ Some s → is_kept_motion r ≡ true
kept_is r s e = (made (is_kept_motion r) (Some r) s e).0

pub numbers_small : (n : List ℤ) (r : Motion) → motion_of_numbers n ≡ Some r → (length n ≡ 16) × All (λ x. unsigned_abs x ≤ 1000000) n
numbers_small n r e =
    let a = made (length n == 16 && last_row_at n) (kept_motion (record { matrix = matrix_at n; shift = shift_at n })) r e in
    let b = and_parts (length n == 16) (last_row_at n) a.0 in
    let l : length n ≡ 16 = eqb-true (length n) 16 b.0 in
    let k = and_parts (is_signed_permutation (matrix_at n)) (is_short (shift_at n)) (kept_is (record { matrix = matrix_at n; shift = shift_at n }) r a.1) in
    let u = unit_rows (matrix_at n) k.0 in
    let x = unit_small (matrix_at n).x u.x in
    let y = unit_small (matrix_at n).y u.y in
    let z = unit_small (matrix_at n).z u.z in
    let s = within_short (shift_at n) k.1 in
    let p = and_parts (int_eq (get_or n 12 (pos 0)) (pos 0)) _ b.1 in
    let q = and_parts (int_eq (get_or n 13 (pos 0)) (pos 0)) _ p.1 in
    let t = and_parts (int_eq (get_or n 14 (pos 0)) (pos 0)) _ q.1 in (
      l,
      All-from_get_or (λ x. unsigned_abs x ≤ 1000000) n (pos 0) (λ i h. up_to_fifteen (λ i. unsigned_abs (get_or n i (pos 0)) ≤ 1000000)
          x.x x.y x.z s.x y.x y.y y.z s.y z.x z.y z.z s.z
          (number_small (get_or n 12 (pos 0)) 0 (omega arith) p.0) (number_small (get_or n 13 (pos 0)) 0 (omega arith) q.0)
          (number_small (get_or n 14 (pos 0)) 0 (omega arith) t.0) (number_small (get_or n 15 (pos 0)) 1 (omega arith) t.1)
          i (omega (arith, h, l))),
    )

-- ---- the words of a text
no_some : {A P : Type 0} {x : A} → None ≡ Some x → P
no_some e = absurd (true≢false (sym (ap is_some e)))

of_some : {A : Type 0} {x y : A} → Some x ≡ Some y → x ≡ y
of_some {A} {x} {y} e = ap (λ o. elim o as (λ o. A) [ None ↦ x | Some a ↦ a ]) e

mapped : {A B : Type 0} (f : A → B) (o : Option A) (y : B) → option_map f o ≡ Some y → (x : A) × (o ≡ Some x) × (f x ≡ y)
mapped f None y e = no_some e
mapped f (Some x) y e = (x, refl, of_some e)

and_thened : {A B : Type 0} (f : A → Option B) (o : Option A) (y : B) → option_and_then f o ≡ Some y → (x : A) × (o ≡ Some x) × (f x ≡ Some y)
and_thened f None y e = no_some e
and_thened f (Some x) y e = (x, refl, e)

limited : (x y : ℤ) (b : Bool) → nat_le (unsigned_abs x) 1000000 ≡ b → cond b (Some x) None ≡ Some y → (x ≡ y) × (unsigned_abs y ≤ 1000000)
limited x y true t e = let is = of_some e in (is, subst (λ z. unsigned_abs z ≤ 1000000) is (below_limit (unsigned_abs x) t))
  where
    below_limit : (n : ℕ) → nat_le n 1000000 ≡ true → n ≤ 1000000
    below_limit n t = grind (arith, nat_tests)
limited x y false t e = no_some e

small_is : (w : List ℕ) (x : ℤ) → small_in w ≡ Some x → (whole_in w ≡ Some x) × (unsigned_abs x ≤ 1000000)
small_is w x e =
    let h = and_thened (λ n. cond (nat_le (unsigned_abs n) 1000000) (Some n) None) (whole_in w) x e in
    let k = limited h.0 x (nat_le (unsigned_abs h.0) 1000000) refl h.2 in
    (h.1 ∙ ap Some k.0, k.1)

is_small : (w : List ℕ) (x : ℤ) → whole_in w ≡ Some x → unsigned_abs x ≤ 1000000 → small_in w ≡ Some x
is_small w x e l =
    let t : nat_le (unsigned_abs x) 1000000 ≡ true = grind (arith, nat_tests) in
    ap (option_and_then (λ n. cond (nat_le (unsigned_abs n) 1000000) (Some n) None)) e ∙ ap (λ b. cond b (Some x) None) t

all_cons : (P : ℤ → Type 0) (x : ℤ) (xs : List ℤ) → P x → All P xs → All P (x ∷ xs)
all_cons P x xs p all zero d h = p
all_cons P x xs p all (suc k) d h = all k d (omega (arith, h))

pub record Read (ws : List (List ℕ)) (xs : List ℤ) : Type 0 where
  pub wholes : wholes_in ws ≡ Some xs
  pub small : All (λ x. unsigned_abs x ≤ 1000000) xs

pub read_numbers : (n : ℕ) (ws : List (List ℕ)) (xs : List ℤ) → first_numbers n ws ≡ Some xs → Read ws xs
read_numbers zero [] xs e = subst (λ xs. Read [] xs) (of_some e) (record { wholes = refl; small = λ i d h. absurd (omega (arith, h)) })
read_numbers zero (w ∷ ws) xs e = no_some e
read_numbers (suc n) [] xs e = no_some e
read_numbers (suc n) (w ∷ ws) xs e =
    let a = and_thened (λ x. option_map (λ xs. x ∷ xs) (first_numbers n ws)) (small_in w) xs e in
    let b = mapped (λ xs. a.0 ∷ xs) (first_numbers n ws) xs a.2 in
    let s = small_is w a.0 a.1 in
    let r = read_numbers n ws b.0 b.1 in
    subst (λ xs. Read (w ∷ ws) xs) b.2 (record {
      wholes = ap (option_and_then (λ n. option_map (λ ns. n ∷ ns) (wholes_in ws))) s.0 ∙ ap (option_map (λ ns. a.0 ∷ ns)) r.wholes;
      small = all_cons (λ x. unsigned_abs x ≤ 1000000) a.0 b.0 s.1 r.small;
    })

all_read : (ws : List (List ℕ)) (xs : List ℤ) → wholes_in ws ≡ Some xs → All (λ x. unsigned_abs x ≤ 1000000) xs → first_numbers (length xs) ws ≡ Some xs
all_read [] xs e all = subst (λ xs. first_numbers (length xs) [] ≡ Some xs) (of_some e) refl
all_read (w ∷ ws) xs e all =
    let a = and_thened (λ n. option_map (λ ns. n ∷ ns) (wholes_in ws)) (whole_in w) xs e in
    let b = mapped (λ ns. a.0 ∷ ns) (wholes_in ws) xs a.2 in
    let each : All (λ x. unsigned_abs x ≤ 1000000) (a.0 ∷ b.0) = subst (λ xs. All (λ x. unsigned_abs x ≤ 1000000) xs) (sym b.2) all in
    subst (λ xs. first_numbers (length xs) (w ∷ ws) ≡ Some xs) b.2
    (ap (option_and_then (λ x. option_map (λ xs. x ∷ xs) (first_numbers (length b.0) ws))) (is_small w a.0 a.1 (each 0 (pos 0) (omega arith)))
    ∙ ap (option_map (λ xs. a.0 ∷ xs)) (all_read ws b.0 b.1 (λ k d h. each (suc k) d (omega (arith, h)))))

none_motion : (ws : List (List ℕ)) (o : Option (List ℤ)) → wholes_in ws ≡ o → first_numbers 16 ws ≡ None → option_and_then motion_of_numbers o ≡ None
none_motion ws None e h = refl
none_motion ws (Some xs) e h = at (motion_of_numbers xs) refl
  where
    at : (o : Option Motion) → motion_of_numbers xs ≡ o → motion_of_numbers xs ≡ None
    at None f = f
    at (Some r) f =
        let s = numbers_small xs r f in
        no_some (sym h ∙ ap (λ n. first_numbers n ws) (sym s.0) ∙ all_read ws xs e s.1)

pub no_motion : (ws : List (List ℕ)) → first_numbers 16 ws ≡ None → option_and_then motion_of_numbers (wholes_in ws) ≡ None
no_motion ws h = none_motion ws (wholes_in ws) refl h
