-- Points that a list of numbers picks from the vertices.
use Rattle.std.proofs.Common.{◌≡◌, ℕ, zero, suc, ◌<◌, ◌≤◌, refl, ap, subst, ◌∙◌, arith, List, [], ◌∷◌, map, Some}
use Rattle.std.specs.Prelude.{slice_get}
use Rattle.algebra.specs.Members.{◌∈◌, here, there, Every}
use Rattle.algebra.specs.Space.{Homogeneous, HalfSpace}
use Rattle.solid_laws.specs.Names.{NamedBefore, NamesRise, one_more_point}
use Rattle.solid_laws.specs.FaceLoop.{LeastFirst}
use Rattle.solid_laws.proofs.OneList.{named_apart}

-- The numbers pick the points from V.
abbrev pub Picks : List Homogeneous → List ℕ → List Homogeneous → Type 0
Picks V numbers points = map (λ k. slice_get V k) numbers ≡ map Some points

pub got_member : (V : List Homogeneous) (n : ℕ) (p : Homogeneous) → slice_get V n ≡ Some p → p ∈ V
got_member [] n p e = absurd (cc)
got_member (v ∷ V) zero p e = let f : v ≡ p = cc in subst (λ x. x ∈ (v ∷ V)) f here
got_member (v ∷ V) (suc n) p e = there (got_member V n p e)

-- ---- each point of the list has one number
not_later : {A : Type 0} (F : List HalfSpace) (v p : Homogeneous) (V : List Homogeneous) (n : ℕ) → Every (NamedBefore F v) V → Some v ≡ Some p → slice_get V n ≡ Some p → A
not_later {A} F v p V n all e f =
    let g : v ≡ p = cc in let b = all p (got_member V n p f) in let c = subst (λ x. NamedBefore F x p) g b in absurd (named_apart F p p c c)

-- No point stands at two places of V.
abbrev pub OneNumber : List Homogeneous → Type 0
OneNumber V = (n m : ℕ) (p : Homogeneous) → slice_get V n ≡ Some p → slice_get V m ≡ Some p → n ≡ m

pub one_number : (F : List HalfSpace) (V : List Homogeneous) → NamesRise F V → OneNumber V
one_number F [] r n m p e f = absurd (cc)
one_number F (v ∷ V) (one_more_point a r) zero zero p e f = refl
one_number F (v ∷ V) (one_more_point a r) zero (suc m) p e f = not_later F v p V m a e f
one_number F (v ∷ V) (one_more_point a r) (suc n) zero p e f = not_later F v p V n a f e
one_number F (v ∷ V) (one_more_point a r) (suc n) (suc m) p e f = ap suc (one_number F V r n m p e f)

-- ---- the points that are picked
pub record Number (V : List Homogeneous) (numbers : List ℕ) (p : Homogeneous) : Type 0 where
  pub it : ℕ
  pub among : it ∈ numbers
  pub is : slice_get V it ≡ Some p

pub number_of : (V : List Homogeneous) (numbers : List ℕ) (points : List Homogeneous) → Picks V numbers points → (p : Homogeneous) → p ∈ points → Number V numbers p
number_of V [] [] e p m = elim m [ ]
number_of V [] (q ∷ Q) e p m = absurd (cc)
number_of V (n ∷ N) [] e p m = elim m [ ]
number_of V (n ∷ N) (q ∷ Q) e p here = record { it = n; among = here; is = cc }
number_of V (n ∷ N) (q ∷ Q) e p (there m) = let r = number_of V N Q (cc) p m in record { it = r.it; among = there r.among; is = r.is }

-- The first point has the least number.
pub record Head (V : List Homogeneous) (numbers : List ℕ) (p : Homogeneous) : Type 0 where
  pub it : ℕ
  pub is : slice_get V it ≡ Some p
  pub least : (n : ℕ) → n ∈ numbers → it ≤ n

least_of_more : (n : ℕ) (N : List ℕ) → Every (λ k. n < k) N → (k : ℕ) → k ∈ (n ∷ N) → n ≤ k
least_of_more n N l k here = omega arith
least_of_more n N l k (there m) = let h = l k m in omega arith

pub head_of : (V : List Homogeneous) (numbers : List ℕ) (p : Homogeneous) (points : List Homogeneous) → Picks V numbers (p ∷ points) → LeastFirst numbers → Head V numbers p
head_of V [] p points e l = absurd (cc)
head_of V (n ∷ N) p points e l = record { it = n; is = cc; least = least_of_more n N l }

-- Numbers that pick the same points are the same numbers.
pub same_numbers : (V : List Homogeneous) → OneNumber V → (N M : List ℕ) (points : List Homogeneous) → Picks V N points → Picks V M points → N ≡ M
same_numbers V one [] [] points e f = refl
same_numbers V one [] (m ∷ M) points e f = absurd (cc)
same_numbers V one (n ∷ N) [] points e f = absurd (cc)
same_numbers V one (n ∷ N) (m ∷ M) [] e f = absurd (cc)
same_numbers V one (n ∷ N) (m ∷ M) (p ∷ points) e f =
    ap (λ k. k ∷ N) (one n m p (cc) (cc)) ∙ ap (λ K. m ∷ K) (same_numbers V one N M points (cc) (cc))
