-- The trimmed list of a bounded list is bounded.
use Rattle.std.proofs.Common.{[], ◌∷◌, arith, ℤ, pos, ◌+ℤ◌, ◌-ℤ◌, ◌*ℤ◌, ◌<ℤ◌, ◌≤ℤ◌}
use Rattle.std.proofs.lemmas.Int.{ints, by_lt_z}
use Rattle.algebra.specs.Space.{Homogeneous, HalfSpace, dot, side, go, SameHalfSpace}
use Rattle.algebra.proofs.Expr.{read}
use Rattle.algebra.proofs.Ring.{ring}
use Rattle.algebra.proofs.Orders.{signs, lt_by, nonpos-mul}
use Rattle.algebra.proofs.Identities.{side-go}
use Rattle.algebra.proofs.Points.{weight-go}
use Rattle.trim_laws.proofs.Trimmed.{trimmed_in, kept_face, outside}
use Rattle.cut_laws.specs.Laws.{TrimBoundedLaw}

far_plain : (s d : ℤ) → s <ℤ pos 0 → pos 0 <ℤ d → pos 0 <ℤ (pos 1 *ℤ s +ℤ (pos 1 -ℤ s) *ℤ d)
far_plain s d h k = lt_by ((pos 1 -ℤ s) *ℤ (d -ℤ pos 1) +ℤ pos 1)
    (let z : pos 0 ≤ℤ (pos 1 -ℤ s) = omega (arith, ints) in let y : pos 0 ≤ℤ (d -ℤ pos 1) = omega (arith, ints) in let x : pos 0 <ℤ pos 1 = omega (arith, ints) in search signs)
    (ring (s ∷ d ∷ []) (search read depth 20) tt)

ahead_plain : (s t d : ℤ) → s <ℤ pos 0 → pos 0 <ℤ t → pos 0 <ℤ (pos 1 *ℤ s +ℤ t *ℤ d) → pos 0 <ℤ d
ahead_plain s t d h k l = by_lt_z (pos 0) d (λ m. m) (λ m.
    let n : pos 0 ≤ℤ t = omega (arith, ints) in let x : (t *ℤ d) ≤ℤ pos 0 = nonpos-mul t n m in absurd (omega (arith, ints)))

in_front : (g k : HalfSpace) (p : Homogeneous) → SameHalfSpace g k → pos 0 <ℤ p.weight → pos 0 <ℤ side g p → pos 0 <ℤ side k p
in_front g k p s w l = by_lt_z (pos 0) (side k p) (λ m. m) (λ m. let n = s.back p w m in absurd (omega (arith, ints)))

step_positive : (s : ℤ) → s <ℤ pos 0 → pos 0 <ℤ (pos 1 -ℤ s)
step_positive s h = omega (arith, ints)

pub trim_bounded : TrimBoundedLaw
trim_bounded F G o b r i t m s =
    let e = b m s in
    let n = pos 1 -ℤ side e.face o in
    let p = go (pos 1) n o m in
    let w : pos 0 <ℤ p.weight = weight-go (pos 1) n o m (omega (arith, ints)) i.weight in
    let l : pos 0 <ℤ side e.face p = rw side-go (far_plain (side e.face o) (dot e.face.normal m) (i.all e.face e.among) e.ahead) in
    let g = outside F o p e.face i w e.among l in
    let k = kept_face F G g.0 r t g.1 g.2 in
    let x = in_front g.0 k.face p k.same w g.3 in record {
      face = k.face;
      among = k.among;
      ahead = ahead_plain (side k.face o) n (dot k.face.normal m) (i.all k.face (trimmed_in t k.face k.among)) (step_positive (side e.face o) (i.all e.face e.among)) (rw side-go at x);
    }
