-- The sides within the larger cube: what its vertices tell of them.
use Rattle.std.proofs.Common.{◌≡◌, ◌↔◌, ◌⊎◌, inl, inr, ⊎_elim, List, [], ◌∷◌, ◌++◌, Bool, false, IsTrue, sym, ◌∙◌, arith, ℤ, pos, neg_ℤ, ◌*ℤ◌, ◌<ℤ◌, ◌≤ℤ◌}
use Rattle.std.proofs.lemmas.Bool.{false≢true}
use Rattle.std.proofs.lemmas.Int.{ints, by_lt_z}
use Rattle.algebra.specs.Members.{◌∈◌, here, there, Every}
use Rattle.algebra.specs.Space.{Homogeneous, HalfSpace, SamePoint}
use Rattle.algebra.specs.World.{InCube, world, reach}
use Rattle.algebra.proofs.Members.{each_of_none, each_of_more}
use Rattle.algebra.proofs.Points.{same-in, same_point_sym}
use Rattle.trim_laws.proofs.Bearing.{in_of_inside}
use Rattle.trim_laws.specs.Solid.{IsIn, Proper, Bounded}
use Rattle.trim_laws.specs.Valid.{HasInside, NoVolume, OutOfWorld, HasCause, no_volume, out_of_world, is_no_volume, is_out_of_world}
use Rattle.vertex_laws.specs.Cube.{cube, boxed, VertexOutside}
use Rattle.vertex_laws.proofs.Cube.{cube_bounded, leaves_cube, in_walls, of_walls}
use Rattle.vertex_laws.proofs.Box.{box_volume, box_leaves}
use Rattle.solid_laws.specs.Names.{HoldsVertices}
use Rattle.solid_laws.proofs.BoxVertices.{box_vertices}
use Rattle.solid_brush.specs.Sides.{IsWithinWorld}

-- ---- members
in_first : (C F : List HalfSpace) (f : HalfSpace) → f ∈ C → f ∈ (C ++ F)
in_first [] F f m = elim m [ ]
in_first (c ∷ C) F f here = here
in_first (c ∷ C) F f (there m) = there (in_first C F f m)

pub in_last : (C F : List HalfSpace) (f : HalfSpace) → f ∈ F → f ∈ (C ++ F)
in_last [] F f m = m
in_last (c ∷ C) F f m = there (in_last C F f m)

pub boxed_bounded : (F : List HalfSpace) → Bounded (boxed reach F)
boxed_bounded F = cube_bounded (boxed reach F) reach (λ f m. in_first (cube reach) F f m)

of_boxed : (F : List HalfSpace) (p : Homogeneous) → IsIn (boxed reach F) p → IsIn F p
of_boxed F p i = record { weight = i.weight; all = λ f m. i.all f (in_last (cube reach) F f m) }

-- ---- points in a cube
either_side : (a b : ℤ) → (a ≤ℤ b) ⊎ (b <ℤ a)
either_side a b = by_lt_z b a (λ l. inr l) (λ l. inl l)

pub in_cube_or_not : (c : ℤ) (p : Homogeneous) → InCube c p ⊎ ¬ (InCube c p)
in_cube_or_not c p =
    let w = c *ℤ p.weight in
    ⊎_elim (λ a. ⊎_elim (λ b. ⊎_elim (λ d. ⊎_elim (λ e. ⊎_elim (λ f. ⊎_elim (λ g.
    inl (record { left = a; right = b; near = d; far = e; bottom = f; top = g }))
    (λ l. inr (λ i. let h = i.top in absurd (omega (arith, ints)))) (either_side p.vector.z w))
    (λ l. inr (λ i. let h = i.bottom in absurd (omega (arith, ints)))) (either_side (neg_ℤ w) p.vector.z))
    (λ l. inr (λ i. let h = i.far in absurd (omega (arith, ints)))) (either_side p.vector.y w))
    (λ l. inr (λ i. let h = i.near in absurd (omega (arith, ints)))) (either_side (neg_ℤ w) p.vector.y))
    (λ l. inr (λ i. let h = i.right in absurd (omega (arith, ints)))) (either_side p.vector.x w))
    (λ l. inr (λ i. let h = i.left in absurd (omega (arith, ints)))) (either_side (neg_ℤ w) p.vector.x)

pub record Outside (c : ℤ) (V : List Homogeneous) : Type 0 where
  pub it : Homogeneous
  pub among : it ∈ V
  pub outside : ¬ (InCube c it)

pub all_in_or_outside : (c : ℤ) (V : List Homogeneous) → Every (InCube c) V ⊎ Outside c V
all_in_or_outside c [] = inl (each_of_none (InCube c))
all_in_or_outside c (v ∷ V) =
    ⊎_elim (λ i. ⊎_elim (λ each. inl (each_of_more (InCube c) v V i each))
    (λ o. inr (record { it = o.it; among = there o.among; outside = o.outside })) (all_in_or_outside c V))
    (λ n. inr (record { it = v; among = here; outside = n })) (in_cube_or_not c v)

same_in_cube : (c : ℤ) (p q : Homogeneous) → pos 0 <ℤ p.weight → pos 0 <ℤ q.weight → SamePoint p q → InCube c q → InCube c p
same_in_cube c p q w x s i = of_walls c p (λ f m. same-in f q p x w (same_point_sym s) (in_walls c q i f m))

-- ---- what the tests tell of the list
pub no_volume_cause : (F : List HalfSpace) → ¬ (HasInside (boxed reach F)) → HasCause F no_volume
no_volume_cause F n = is_no_volume ((box_volume F).1 n)

has_volume : (F : List HalfSpace) → HasInside (boxed reach F) → ¬ (NoVolume F)
has_volume F i n = (box_volume F).0 n i

leaves_world : (F : List HalfSpace) (V : List Homogeneous) → HasInside (boxed reach F) → HoldsVertices (boxed reach F) V → Outside world V → OutOfWorld F
leaves_world F V i h o = (box_leaves F i.at (in_of_inside i.inside)).1
    ((leaves_cube (boxed reach F) world (boxed_bounded F)).1 (record { at = o.it; vertex = h.each o.it o.among; outside = o.outside }))

pub out_of_world_cause : (F : List HalfSpace) (V : List Homogeneous) → HasInside (boxed reach F) → HoldsVertices (boxed reach F) V → ¬ (Every (InCube world) V) →
    HasCause F out_of_world
out_of_world_cause F V i h n =
    is_out_of_world (has_volume F i) (leaves_world F V i h (⊎_elim (λ each. absurd (n each)) (λ o. o) (all_in_or_outside world V)))

no_vertex_outside : (F : List HalfSpace) (V : List Homogeneous) → HoldsVertices (boxed reach F) V → Every (InCube world) V → ¬ (VertexOutside (boxed reach F) world)
no_vertex_outside F V h each v =
    let a = h.all v.at v.vertex in
    v.outside (same_in_cube world v.at a.s v.vertex.inside.weight (h.each a.s a.among).inside.weight a.same (each a.s a.among))

stays : (F : List HalfSpace) (V : List Homogeneous) → HasInside (boxed reach F) → HoldsVertices (boxed reach F) V → Every (InCube world) V →
    (p : Homogeneous) → IsIn F p → InCube world p
stays F V i h each p m = ⊎_elim (λ c. c)
    (λ n. absurd (no_vertex_outside F V h each ((leaves_cube (boxed reach F) world (boxed_bounded F)).0
    ((box_leaves F i.at (in_of_inside i.inside)).0 (record { at = p; is_in = m; outside = n })))))
    (in_cube_or_not world p)

pub within_world : (F : List HalfSpace) (V : List Homogeneous) → Proper F → HasInside (boxed reach F) → HoldsVertices (boxed reach F) V → Every (InCube world) V → IsWithinWorld F V
within_world F V r i h each =
    let within = stays F V i h each in
    record {
      proper = r;
      volume = record { at = i.at; inside = record { weight = i.inside.weight; all = λ f m. i.inside.all f (in_last (cube reach) F f m) } };
      within = within;
      holds = record {
        each = λ v m. (box_vertices F v within).0 (h.each v m);
        all = λ v u. h.all v ((box_vertices F v within).1 u);
      };
    }

pub not_true : (b : Bool) (P : Type 0) → IsTrue b ↔ P → b ≡ false → ¬ P
not_true b P law e p = false≢true (sym e ∙ law.1 p)
