-- A bounded list has at least four faces: three leave a direction open.
use Rattle.std.proofs.Common.{◌≡◌, List, [], ◌∷◌, arith, ⊎_elim, ℤ, pos, negsuc, neg_ℤ, ◌-ℤ◌, ◌*ℤ◌, ◌<ℤ◌, ◌≤ℤ◌}
use Rattle.std.proofs.lemmas.Int.{ints, by_lt_z}
use Rattle.algebra.specs.Members.{Every}
use Rattle.algebra.specs.Space.{Vector, HalfSpace, dot, cross, scale}
use Rattle.algebra.proofs.Expr.{read}
use Rattle.algebra.proofs.Ring.{ring}
use Rattle.algebra.proofs.Orders.{eq_by_3, zero_of_product}
use Rattle.algebra.proofs.Identities.{dot-neg, norm-neg, dot-cross_left, dot-cross_right, binet_cauchy}
use Rattle.algebra.proofs.Vectors.{IsZero, is_zero, dot-zero_left, across}
use Rattle.algebra.proofs.Members.{each_of_none, each_of_more}
use Rattle.trim_laws.specs.Solid.{Bounded}
use Rattle.trim_laws.proofs.Steps.{zero_le, neg_le}
use Rattle.vertex_laws.proofs.TrimVertex.{parallel_or_crosses}
use Rattle.solid_laws.specs.Laws.{FourFacesLaw}

-- A direction along which none of three vectors points forward.
record Open (a b c : Vector) : Type 0 where
  way : Vector
  some : pos 0 <ℤ dot way way
  first : dot a way ≤ℤ pos 0
  second : dot b way ≤ℤ pos 0
  third : dot c way ≤ℤ pos 0

neg_zero_le : {a : ℤ} → a ≡ pos 0 → neg_ℤ a ≤ℤ pos 0
neg_zero_le {a} e = omega (arith, ints)

open_crossing : (a b c : Vector) → pos 0 <ℤ dot (cross a b) (cross a b) → Open a b c
open_crossing a b c s = by_lt_z (pos 0) (dot c (cross a b))
    (λ l. record {
      way = scale (negsuc 0) (cross a b);
      some = rw norm-neg s;
      first = rw dot-neg (neg_zero_le (dot-cross_left a b));
      second = rw dot-neg (neg_zero_le (dot-cross_right a b));
      third = rw dot-neg (neg_le l);
    })
    (λ l. record { way = cross a b; some = s; first = zero_le (dot-cross_left a b); second = zero_le (dot-cross_right a b); third = l })

flat_plain : (l a x y d : ℤ) → l ≡ a *ℤ x -ℤ y *ℤ d → l ≡ pos 0 → y ≡ pos 0 → pos 0 <ℤ a → x ≡ pos 0
flat_plain l a x y d e z f h = zero_of_product a h (eq_by_3 (negsuc 0) (pos 1) d e z f (ring (l ∷ a ∷ x ∷ y ∷ d ∷ []) (search read depth 20) tt))

-- What is flat to a is flat to each vector parallel to it.
flat_to_parallel : (a b m : Vector) → IsZero (cross a b) → pos 0 <ℤ dot a a → dot a m ≡ pos 0 → dot b m ≡ pos 0
flat_to_parallel a b m z s f = flat_plain (dot (cross a b) (cross a m)) (dot a a) (dot b m) (dot a m) (dot b a) (binet_cauchy a b a m) (dot-zero_left (cross a b) (cross a m) z) f s

open_parallel : (a b c : Vector) → IsZero (cross a b) → Open a b c
open_parallel a b c z = by_lt_z (pos 0) (dot a a)
    (λ l. let w = across a c in record { way = w.way; some = w.some; first = zero_le w.flat; second = zero_le (flat_to_parallel a b w.way z l w.flat); third = w.down })
    (λ l. let w = across b c in record { way = w.way; some = w.some; first = zero_le (dot-zero_left a w.way (is_zero a l)); second = zero_le w.flat; third = w.down })

open_way : (a b c : Vector) → Open a b c
open_way a b c = ⊎_elim (λ l. open_crossing a b c l) (λ z. open_parallel a b c z) (parallel_or_crosses a b)

no_end : {A : Type 0} (F : List HalfSpace) (m : Vector) → pos 0 <ℤ dot m m → Every (λ f. dot f.normal m ≤ℤ pos 0) F → Bounded F → A
no_end {A} F m s all b = let f = b m s in let l = all f.face f.among in let k = f.ahead in absurd (omega (arith, ints))

none : Vector
none = record { x = pos 0; y = pos 0; z = pos 0 }

pub four_faces : FourFacesLaw
four_faces [] b = let w = open_way none none none in no_end [] w.way w.some (each_of_none _) b
four_faces (f ∷ []) b = let w = open_way f.normal f.normal f.normal in no_end (f ∷ []) w.way w.some (each_of_more _ f [] w.first (each_of_none _)) b
four_faces (f ∷ g ∷ []) b = let w = open_way f.normal g.normal g.normal in
    no_end (f ∷ g ∷ []) w.way w.some (each_of_more _ f _ w.first (each_of_more _ g [] w.second (each_of_none _))) b
four_faces (f ∷ g ∷ h ∷ []) b = let w = open_way f.normal g.normal h.normal in
    no_end (f ∷ g ∷ h ∷ []) w.way w.some (each_of_more _ f _ w.first (each_of_more _ g _ w.second (each_of_more _ h [] w.third (each_of_none _)))) b
four_faces (f ∷ g ∷ h ∷ k ∷ F) b = omega arith
