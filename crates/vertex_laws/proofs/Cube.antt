-- Cubes as solids, and whether a solid leaves a cube.
use Rattle.std.proofs.Common.{◌≡◌, refl, List, arith, inl, inr, ⊎_elim, ℤ, pos, negsuc, neg_ℤ, ◌+ℤ◌, ◌-ℤ◌, ◌*ℤ◌, ◌<ℤ◌, ◌≤ℤ◌}
use Rattle.std.proofs.lemmas.Int.{ints, by_lt_z}
use Rattle.algebra.specs.Members.{◌∈◌, here, there}
use Rattle.algebra.specs.Space.{Vector, Homogeneous, HalfSpace, dot, side, reverse}
use Rattle.algebra.specs.World.{InCube}
use Rattle.algebra.proofs.Orders.{by_sign}
use Rattle.algebra.proofs.Identities.{side-reverse}
use Rattle.algebra.proofs.Members.{each_of_more, each_of_none}
use Rattle.trim_laws.specs.Solid.{IsIn, FaceAhead, Bounded}
use Rattle.trim_laws.specs.Valid.{LeavesCube}
use Rattle.trim_laws.proofs.Steps.{neg_below}
use Rattle.vertex_laws.specs.Cube.{wall, cube, VertexOutside}
use Rattle.vertex_laws.specs.Laws.{CubeLaw, InCubeLaw, LeavesCubeLaw}
use Rattle.vertex_laws.proofs.Corner.{corner}
use Rattle.vertex_laws.proofs.Criterion.{lower_behind}
use Rattle.vertex_laws.proofs.Choice.{some_or_all}

-- ---- a list with the faces of a cube is bounded
wall_ahead : (F : List HalfSpace) (x y z c : ℤ) (m : Vector) → wall x y z c ∈ F → pos 0 <ℤ (x *ℤ m.x +ℤ y *ℤ m.y +ℤ z *ℤ m.z) → FaceAhead F m
unfolding dot
wall_ahead F x y z c m i h = record { face = wall x y z c; among = i; ahead = h }

norm-zero : (m : Vector) → m.x ≡ pos 0 → m.y ≡ pos 0 → m.z ≡ pos 0 → dot m m ≤ℤ pos 0
unfolding dot
norm-zero m x y z = rw (x, y, z) (omega (arith, ints))

pub cube_bounded : CubeLaw
cube_bounded F c sub m s = by_sign m.x
    (λ l. wall_ahead F (negsuc 0) (pos 0) (pos 0) c m (sub _ (there here)) (omega (arith, ints)))
    (λ x. by_sign m.y
    (λ l. wall_ahead F (pos 0) (negsuc 0) (pos 0) c m (sub _ (there (there (there here)))) (omega (arith, ints)))
    (λ y. by_sign m.z
    (λ l. wall_ahead F (pos 0) (pos 0) (negsuc 0) c m (sub _ (there (there (there (there (there here)))))) (omega (arith, ints)))
    (λ z. let k = norm-zero m x y z in absurd (omega (arith, ints)))
    (λ l. wall_ahead F (pos 0) (pos 0) (pos 1) c m (sub _ (there (there (there (there here))))) (omega (arith, ints))))
    (λ l. wall_ahead F (pos 0) (pos 1) (pos 0) c m (sub _ (there (there here))) (omega (arith, ints))))
    (λ l. wall_ahead F (pos 1) (pos 0) (pos 0) c m (sub _ here) (omega (arith, ints)))

-- ---- the points of a cube
pub side-wall : (x y z c : ℤ) (p : Homogeneous) → side (wall x y z c) p ≡ (x *ℤ p.vector.x +ℤ y *ℤ p.vector.y +ℤ z *ℤ p.vector.z) -ℤ c *ℤ p.weight
unfolding side dot
side-wall x y z c p = refl

pub each_wall : (P : HalfSpace → Type 0) (c : ℤ) → P (wall (pos 1) (pos 0) (pos 0) c) → P (wall (negsuc 0) (pos 0) (pos 0) c) →
    P (wall (pos 0) (pos 1) (pos 0) c) → P (wall (pos 0) (negsuc 0) (pos 0) c) →
    P (wall (pos 0) (pos 0) (pos 1) c) → P (wall (pos 0) (pos 0) (negsuc 0) c) → (f : HalfSpace) → f ∈ cube c → P f
each_wall P c right left far near top bottom = each_of_more P _ _ right (each_of_more P _ _ left (each_of_more P _ _ far (each_of_more P _ _ near
    (each_of_more P _ _ top (each_of_more P _ _ bottom (each_of_none P))))))

pub in_walls : (c : ℤ) (p : Homogeneous) → InCube c p → (f : HalfSpace) → f ∈ cube c → side f p ≤ℤ pos 0
in_walls c p i = let l = i.left in let r = i.right in let n = i.near in let f = i.far in let b = i.bottom in let t = i.top in
    each_wall (λ k. side k p ≤ℤ pos 0) c
    (rw side-wall (omega (arith, ints))) (rw side-wall (omega (arith, ints))) (rw side-wall (omega (arith, ints)))
    (rw side-wall (omega (arith, ints))) (rw side-wall (omega (arith, ints))) (rw side-wall (omega (arith, ints)))

pub of_walls : (c : ℤ) (p : Homogeneous) → ((f : HalfSpace) → f ∈ cube c → side f p ≤ℤ pos 0) → InCube c p
of_walls c p all = record {
  left = let h = all (wall (negsuc 0) (pos 0) (pos 0) c) (there here) in let e = side-wall (negsuc 0) (pos 0) (pos 0) c p in omega (arith, ints);
  right = let h = all (wall (pos 1) (pos 0) (pos 0) c) here in let e = side-wall (pos 1) (pos 0) (pos 0) c p in omega (arith, ints);
  near = let h = all (wall (pos 0) (negsuc 0) (pos 0) c) (there (there (there here))) in let e = side-wall (pos 0) (negsuc 0) (pos 0) c p in omega (arith, ints);
  far = let h = all (wall (pos 0) (pos 1) (pos 0) c) (there (there here)) in let e = side-wall (pos 0) (pos 1) (pos 0) c p in omega (arith, ints);
  bottom = let h = all (wall (pos 0) (pos 0) (negsuc 0) c) (there (there (there (there (there here))))) in let e = side-wall (pos 0) (pos 0) (negsuc 0) c p in omega (arith, ints);
  top = let h = all (wall (pos 0) (pos 0) (pos 1) c) (there (there (there (there here)))) in let e = side-wall (pos 0) (pos 0) (pos 1) c p in omega (arith, ints);
}

pub in_cube : InCubeLaw
in_cube c p w = (λ i. of_walls c p i.all, λ i. record { weight = w; all = in_walls c p i })

-- ---- a solid that leaves a cube
unreversed : {a : ℤ} → neg_ℤ a <ℤ pos 0 → pos 0 <ℤ a
unreversed {a} h = omega (arith, ints)

vertex_out : (F : List HalfSpace) (c : ℤ) (p : Homogeneous) (k : HalfSpace) → Bounded F → IsIn F p → k ∈ cube c → pos 0 <ℤ side k p → VertexOutside F c
vertex_out F c p k b i m l =
    let v = corner F (reverse k) p b i in
    let d = lower_behind v.lower v.vertex.inside.weight i.weight (rw side-reverse (neg_below l)) in
    let h = unreversed (rw side-reverse at d) in record {
      at = v.at;
      vertex = v.vertex;
      outside = λ j. let n = in_walls c v.at j k m in absurd (omega (arith, ints));
    }

to_vertex : (F : List HalfSpace) (c : ℤ) → Bounded F → LeavesCube F c → VertexOutside F c
to_vertex F c b e = ⊎_elim (λ s. vertex_out F c e.at s.it b e.is_in s.among s.has) (λ all. absurd (e.outside (of_walls c e.at all)))
    (some_or_all (λ k. pos 0 <ℤ side k e.at) (λ k. side k e.at ≤ℤ pos 0) (cube c) (λ k m. by_lt_z (pos 0) (side k e.at) (λ l. inl l) (λ l. inr l)))

pub leaves_cube : LeavesCubeLaw
leaves_cube F c b = (to_vertex F c b, λ v. record { at = v.at; is_in = v.vertex.inside; outside = v.outside })
