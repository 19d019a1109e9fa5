-- The common point of three planes.
use Rattle.std.proofs.Common.{◌≡◌, [], ◌∷◌, ap, refl, sym, ◌∙◌, ⊎_elim, ℤ, pos, ◌*ℤ◌}
use Rattle.algebra.specs.Space.{Vector, HalfSpace, Homogeneous, dot, scale, det, side, meet}
use Rattle.algebra.proofs.Expr.{read}
use Rattle.algebra.proofs.Ring.{ring}
use Rattle.algebra.proofs.Orders.{zero_product}
use Rattle.algebra.proofs.Identities.{with_half_space, with_point, vector_by, meet-first, meet-second, meet-third}
use Rattle.exact_geom.specs.Machine.{IsMultiple}
use Rattle.exact_geom.specs.Planes.{ThreePoints, half_space}
use Rattle.exact_geom.specs.Vertices.{IsReducedVertex, IsVertexOf}

pub point_by : {p q : Homogeneous} → p.vector ≡ q.vector → p.weight ≡ q.weight → p ≡ q
point_by {p} {q} e f =
    let first : p ≡ record { vector = q.vector; weight = p.weight } = ap (λ (v : Vector). record { vector = v; weight = p.weight }) e in
    let second : record { vector = q.vector; weight = p.weight } ≡ q = ap (λ (t : ℤ). record { vector = q.vector; weight = t }) f in first ∙ second

many : ℤ → Homogeneous → Homogeneous
many k q = record { vector = scale k q.vector; weight = k *ℤ q.weight }

is_many : (p q : Homogeneous) (m : IsMultiple p q) → p ≡ many m.factor q
unfolding many scale
is_many p q m = point_by (vector_by m.x m.y m.z) m.weight

side-many : (k : ℤ) (f : HalfSpace) (q : Homogeneous) → side f (many k q) ≡ k *ℤ side f q
unfolding many side dot scale
side-many k f q = ring (k ∷ with_half_space f (with_point q [])) (search read depth 20) tt

-- what lies on a plane does so when it is reduced
on_reduced : (f : HalfSpace) (p q : Homogeneous) → IsMultiple p q → side f p ≡ pos 0 → side f q ≡ pos 0
on_reduced f p q m h =
    let e : m.factor *ℤ side f q ≡ pos 0 = sym (ap (side f) (is_many p q m) ∙ side-many m.factor f q) ∙ h in
    ⊎_elim (λ z. absurd (m.nonzero z)) (λ z. z) (zero_product m.factor (side f q) e)

pub vertex_of : (a b c : ThreePoints) (p q : Homogeneous) → p ≡ meet (half_space a) (half_space b) (half_space c) → IsMultiple p q → IsReducedVertex q → IsVertexOf a b c q
vertex_of a b c p q e m v = record {
  on_first = on_reduced (half_space a) p q m (ap (side (half_space a)) e ∙ meet-first (half_space a) (half_space b) (half_space c));
  on_second = on_reduced (half_space b) p q m (ap (side (half_space b)) e ∙ meet-second (half_space a) (half_space b) (half_space c));
  on_third = on_reduced (half_space c) p q m (ap (side (half_space c)) e ∙ meet-third (half_space a) (half_space b) (half_space c));
  vertex = v;
}

pub weight-meet : (f g h : HalfSpace) → (meet f g h).weight ≡ det f.normal g.normal h.normal
unfolding meet
weight-meet f g h = refl

-- the common point of three half-spaces that are known to be others
pub meet_at : {p : Homogeneous} {f g h f' g' h' : HalfSpace} → p ≡ meet f g h → f ≡ f' → g ≡ g' → h ≡ h' → p ≡ meet f' g' h'
meet_at {p} {f} {g} {h} {f'} {g'} {h'} e i j k = e ∙ ap (λ t. meet t g h) i ∙ ap (λ t. meet f' t h) j ∙ ap (λ t. meet f' g' t) k

-- the weight of the common point is the determinant of the normals
pub weight_is : {p : Homogeneous} {f g h f' g' h' : HalfSpace} → p ≡ meet f g h → f ≡ f' → g ≡ g' → h ≡ h' → p.weight ≡ det f'.normal g'.normal h'.normal
weight_is {p} {f} {g} {h} {f'} {g'} {h'} e i j k = ap (λ t. t.weight) (meet_at e i j k) ∙ weight-meet f' g' h'
