-- Some tests on solids are right: those that look at where three faces meet.
use Rattle.std.proofs.Common.{◌≡◌, refl, sym, subst, ap, ◌∙◌, true≢false, Bool, true, false, not, ◌&&◌, ◌||◌, List, map, ◌⊎◌, inl, inr, ⊎_elim, ℤ, pos, ◌<ℤ◌, ◌≤ℤ◌}
use Rattle.std.specs.Prelude.{filter, flat_map, int_lt, int_le, ⊤}
use Rattle.std.specs.Bool.{Decides}
use Rattle.std.specs.List.{list_any, list_all}
use Rattle.std.specs.Ordering.{int_eq}
use Rattle.std.proofs.lemmas.Bool.Decides.{Decides-int_eq, Decides-not, Decides-and, Decides-or, Decides-like}
use Rattle.algebra.specs.Members.{◌∈◌, here, there}
use Rattle.algebra.specs.Space.{HalfSpace, Homogeneous, SamePoint, SameHalfSpace, det, side, meet}
use Rattle.algebra.proofs.Points.{common_point, same-in, same-on, same-behind, same_point_sym}
use Rattle.trim_laws.specs.Solid.{Proper, Bounded}
use Rattle.trim_laws.specs.Trim.{Bears}
use Rattle.trim_laws.specs.Valid.{HasInside, NoVolume, OutOfWorld}
use Rattle.algebra.specs.World.{InCube, world, reach}
use Rattle.trim_laws.proofs.Bearing.{in_of_inside}
use Rattle.vertex_laws.specs.Vertex.{IsVertex, VertexOnBehind}
use Rattle.vertex_laws.specs.HalfEdge.{IsAmong}
use Rattle.vertex_laws.specs.Cube.{cube, boxed, VertexOutside}
use Rattle.vertex_laws.proofs.Box.{box_volume, box_leaves}
use Rattle.vertex_laws.proofs.Cube.{cube_bounded, in_cube, leaves_cube}
use Rattle.solid_laws.specs.Laws.{HasCorners, HasVertexBehindEach}
use Rattle.solid_laws.proofs.Exactly.{bears_exactly, inside_exactly}
use Rattle.map_model.specs.Computed.{is_in}
use Rattle.map_model.specs.Brushes.{is_same_half_space}
use Rattle.map_model.proofs.Meaning.{same_half_space}
use Rattle.map_model.proofs.Members.{decides_less, decides_most, in_filter, filter_in, in_map, map_in, in_flat, flat_in, right_in, any_decides, all_decides}

-- Where three faces of the list meet at a point, with a weight above 0, that is in the solid. ------------------------------------------------------------

meets_of : List HalfSpace → List Homogeneous
meets_of F = flat_map (λ f. flat_map (λ g. map (λ h. meet f g h) F) F) F

has_weight : Homogeneous → Bool
has_weight p = int_lt (pos 0) p.weight

corners : List HalfSpace → List Homogeneous
corners F = filter (is_in F) (filter has_weight (meets_of F))

pub weight_of_meet : (f g h : HalfSpace) → (meet f g h).weight ≡ det f.normal g.normal h.normal
unfolding meet
weight_of_meet f g h = refl

-- It is in front of no face.
pub is_in_tells : (F : List HalfSpace) (p : Homogeneous) → Decides (is_in F p) ((f : HalfSpace) → f ∈ F → side f p ≤ℤ pos 0)
is_in_tells F p = all_decides (λ f. int_le (side f p) (pos 0)) (λ f. side f p ≤ℤ pos 0) F (λ f m. decides_most (side f p) (pos 0))

corner_of : (F : List HalfSpace) (f g h : HalfSpace) (v : Homogeneous) → f ∈ F → g ∈ F → h ∈ F → v ≡ meet f g h → pos 0 <ℤ v.weight →
    ((k : HalfSpace) → k ∈ F → side k v ≤ℤ pos 0) → IsVertex F v
corner_of F f g h v f_in g_in h_in e w all =
    let c = common_point f g h in
    record {
      inside = record { weight = w; all = all };
      f = f;
      g = g;
      h = h;
      f_in = f_in;
      g_in = g_in;
      h_in = h_in;
      on_f = ap (side f) e ∙ c.on_f;
      on_g = ap (side g) e ∙ c.on_g;
      on_h = ap (side h) e ∙ c.on_h;
      independent = subst (λ z. pos 0 <ℤ z) (ap (λ q. q.weight) e ∙ weight_of_meet f g h) w;
    }

each_corner : (F : List HalfSpace) (v : Homogeneous) → v ∈ corners F → IsVertex F v
unfolding corners has_weight meets_of
each_corner F v m =
    let inside = in_filter (is_in F) (filter has_weight (meets_of F)) v m in
    let weighty = in_filter has_weight (meets_of F) v inside.0 in
    let a = in_flat (λ f. flat_map (λ g. map (λ h. meet f g h) F) F) F v weighty.0 in
    let b = in_flat (λ g. map (λ h. meet a.0 g h) F) F v a.2 in
    let c = in_map (λ h. meet a.0 b.0 h) F v b.2 in
    corner_of F a.0 b.0 c.0 v a.1 b.1 c.1 c.2 ((decides_less (pos 0) v.weight).0 weighty.1) ((is_in_tells F v).0 inside.1)

-- Each vertex is one of the corners.
all_corners : (F : List HalfSpace) (v : Homogeneous) → IsVertex F v → IsAmong v (corners F)
unfolding corners has_weight meets_of
all_corners F v u =
    let c = meet u.f u.g u.h in
    let w : pos 0 <ℤ c.weight = subst (λ z. pos 0 <ℤ z) (sym (weight_of_meet u.f u.g u.h)) u.independent in
    let same : SamePoint v c = (common_point u.f u.g u.h).only v u.on_f u.on_g u.on_h in
    record {
      s = c;
      among =
          filter_in (is_in F) (filter has_weight (meets_of F)) c
          (filter_in has_weight (meets_of F) c
          (flat_in (λ f. flat_map (λ g. map (λ h. meet f g h) F) F) F u.f c u.f_in
          (flat_in (λ g. map (λ h. meet u.f g h) F) F u.g c u.g_in (map_in (λ h. meet u.f u.g h) F u.h u.h_in)))
          ((decides_less (pos 0) c.weight).1 w))
          ((is_in_tells F c).1 (λ k m. same-in k v c u.inside.weight w same (u.inside.all k m)));
      same = same;
    }

-- A point inside. --------------------------------------------------------------------------------------------------------------------------------------------

behind : HalfSpace → Homogeneous → Bool
behind g v = int_lt (side g v) (pos 0)

pub is_solid : List HalfSpace → Bool
is_solid F = list_any (λ v. true) (corners F) && list_all (λ g. list_any (behind g) (corners F)) F

SomeBehind : List HalfSpace → HalfSpace → Type 0
SomeBehind F g = (v : Homogeneous) × (v ∈ corners F) × (side g v <ℤ pos 0)

behind_tells : (F : List HalfSpace) (g : HalfSpace) → Decides (list_any (behind g) (corners F)) ((v : Homogeneous) × (v ∈ corners F) × (side g v <ℤ pos 0))
unfolding behind
behind_tells F g = any_decides (behind g) (λ v. side g v <ℤ pos 0) (corners F) (λ v m. decides_less (side g v) (pos 0))

solid_tells : (F : List HalfSpace) → Decides (is_solid F) (HasVertexBehindEach F)
unfolding is_solid
solid_tells F =
    Decides-like {P = ((v : Homogeneous) × (v ∈ corners F) × ⊤) × ((g : HalfSpace) → g ∈ F → (v : Homogeneous) × (v ∈ corners F) × (side g v <ℤ pos 0))}
    (is_solid F)
    (λ k. record {
      corner = k.0.0;
      vertex = each_corner F k.0.0 k.0.1;
      behind = λ g m. let b = k.1 g m in record { at = b.0; vertex = each_corner F b.0 b.1; behind = b.2 };
    })
    (λ h. let a = all_corners F h.corner h.vertex in (
      (a.s, a.among, tt),
      λ g m.
          let b = h.behind g m in
          let c = all_corners F b.at b.vertex in
          (c.s, c.among, same-behind g b.at c.s b.vertex.inside.weight (each_corner F c.s c.among).inside.weight c.same b.behind),
    ))
    (Decides-and (list_any (λ v. true) (corners F)) (list_all (λ g. list_any (behind g) (corners F)) F)
    (any_decides (λ v. true) (λ v. ⊤) (corners F) (λ v m. (λ e. tt, λ t. refl)))
    (all_decides (λ g. list_any (behind g) (corners F)) (λ g. (v : Homogeneous) × (v ∈ corners F) × (side g v <ℤ pos 0)) F (λ g m. behind_tells F g)))

pub solid_right : (F : List HalfSpace) → Bounded F → Decides (is_solid F) (HasInside F)
solid_right F bounded = Decides-like (is_solid F) (inside_exactly F bounded).1 (inside_exactly F bounded).0 (solid_tells F)

boxed_bounded : (F : List HalfSpace) → Bounded (boxed reach F)
boxed_bounded F = cube_bounded (boxed reach F) reach (λ f m. left f m)
  where
    left : (f : HalfSpace) → f ∈ cube reach → f ∈ boxed reach F
    left f here = here
    left f (there here) = there here
    left f (there (there here)) = there (there here)
    left f (there (there (there here))) = there (there (there here))
    left f (there (there (there (there here)))) = there (there (there (there here)))
    left f (there (there (there (there (there here))))) = there (there (there (there (there here))))
    left f (there (there (there (there (there (there m)))))) = elim m [ ]

-- No point inside within the larger cube.
pub is_empty : List HalfSpace → Bool
is_empty F = not (is_solid (boxed reach F))

pub empty_right : (F : List HalfSpace) → Decides (is_empty F) (NoVolume F)
unfolding is_empty
empty_right F =
    Decides-like (is_empty F) (box_volume F).1 (box_volume F).0
    (Decides-not (is_solid (boxed reach F)) (solid_right (boxed reach F) (boxed_bounded F)))

-- A point outside the world. ----------------------------------------------------------------------------------------------------------------------------------

outside : ℤ → Homogeneous → Bool
outside c v = not (is_in (cube c) v)

outside_tells : (c : ℤ) (v : Homogeneous) → pos 0 <ℤ v.weight → Decides (outside c v) (¬ (InCube c v))
unfolding outside
outside_tells c v w =
    Decides-not (is_in (cube c) v)
    (Decides-like (is_in (cube c) v) (λ k. (in_cube c v w).0 (record { weight = w; all = k })) (λ i. ((in_cube c v w).1 i).all) (is_in_tells (cube c) v))

same_in_cube : (c : ℤ) (p q : Homogeneous) → pos 0 <ℤ p.weight → pos 0 <ℤ q.weight → SamePoint p q → InCube c p → InCube c q
same_in_cube c p q w x same i =
    (in_cube c q x).0 (record { weight = x; all = λ k m. same-in k p q w x same (((in_cube c p w).1 i).all k m) })

some_outside : (F : List HalfSpace) (c : ℤ) → Decides (list_any (outside c) (corners F)) (VertexOutside F c)
some_outside F c =
    Decides-like {P = (v : Homogeneous) × (v ∈ corners F) × ¬ (InCube c v)} (list_any (outside c) (corners F))
    (λ k. record { at = k.0; vertex = each_corner F k.0 k.1; outside = k.2 })
    (λ h.
    let a = all_corners F h.at h.vertex in
    let w = (each_corner F a.s a.among).inside.weight in
    (a.s, a.among, λ i. h.outside (same_in_cube c a.s h.at w h.vertex.inside.weight (same_point_sym a.same) i)))
    (any_decides (outside c) (λ v. ¬ (InCube c v)) (corners F) (λ v m. outside_tells c v (each_corner F v m).inside.weight))

pub leaves_world : List HalfSpace → Bool
leaves_world F = list_any (outside world) (corners F) || list_any (outside world) (corners (boxed reach F))

-- A list with a volume has a point inside within the larger cube.
point_of : (F : List HalfSpace) → ¬ (NoVolume F) → HasInside (boxed reach F)
point_of F some = by (is_solid (boxed reach F)) (solid_right (boxed reach F) (boxed_bounded F))
  where
    by : (t : Bool) → Decides t (HasInside (boxed reach F)) → HasInside (boxed reach F)
    by true d = d.0 refl
    by false d = absurd (some ((box_volume F).1 (λ h. true≢false (sym (d.1 h)))))

pub leaves_right : (F : List HalfSpace) → Bounded F ⊎ ¬ (NoVolume F) → Decides (leaves_world F) (OutOfWorld F)
unfolding leaves_world
leaves_right F asked =
    Decides-like {P = VertexOutside F world ⊎ VertexOutside (boxed reach F) world} (leaves_world F)
    (λ k. ⊎_elim (λ (a : VertexOutside F world). record { at = a.at; is_in = a.vertex.inside; outside = a.outside })
    (λ (a : VertexOutside (boxed reach F) world). record {
      at = a.at;
      is_in = record { weight = a.vertex.inside.weight; all = λ f m. a.vertex.inside.all f (right_in (cube reach) F f m) };
      outside = a.outside;
    }) k)
    (λ out. ⊎_elim (λ (bounded : Bounded F). inl ((leaves_cube F world bounded).0 out))
    (λ (some : ¬ (NoVolume F)).
    let o = point_of F some in
    inr ((leaves_cube (boxed reach F) world (boxed_bounded F)).0 ((box_leaves F o.at (in_of_inside o.inside)).0 out))) asked)
    (Decides-or (list_any (outside world) (corners F)) (list_any (outside world) (corners (boxed reach F))) (some_outside F world) (some_outside (boxed reach F) world))

-- Faces that bear. --------------------------------------------------------------------------------------------------------------------------------------------

on : HalfSpace → Homogeneous → Bool
on f v = int_eq (side f v) (pos 0)

on_behind : HalfSpace → HalfSpace → Homogeneous → Bool
on_behind f g v = on f v && behind g v

pub bears : List HalfSpace → HalfSpace → Bool
bears F f = list_any (on f) (corners F) && list_all (λ g. is_same_half_space f g || list_any (on_behind f g) (corners F)) F

on_behind_tells : (F : List HalfSpace) (f g : HalfSpace) → Decides (list_any (on_behind f g) (corners F)) (VertexOnBehind F f g)
unfolding on_behind on behind
on_behind_tells F f g =
    Decides-like {P = (v : Homogeneous) × (v ∈ corners F) × ((side f v ≡ pos 0) × (side g v <ℤ pos 0))} (list_any (on_behind f g) (corners F))
    (λ k. record { at = k.0; vertex = each_corner F k.0 k.1; on = k.2.0; behind = k.2.1 })
    (λ h.
    let a = all_corners F h.at h.vertex in
    let w = (each_corner F a.s a.among).inside.weight in
    (a.s, a.among, (same-on f h.at a.s h.vertex.inside.weight a.same h.on, same-behind g h.at a.s h.vertex.inside.weight w a.same h.behind)))
    (any_decides (on_behind f g) (λ v. (side f v ≡ pos 0) × (side g v <ℤ pos 0)) (corners F) (λ v m.
    Decides-and (int_eq (side f v) (pos 0)) (int_lt (side g v) (pos 0)) (Decides-int_eq (side f v) (pos 0)) (decides_less (side g v) (pos 0))))

bears_tells : (F : List HalfSpace) (f : HalfSpace) → Proper F → f ∈ F → Decides (bears F f) (HasCorners F f)
unfolding bears on
bears_tells F f proper among =
    Decides-like {P = ((v : Homogeneous) × (v ∈ corners F) × (side f v ≡ pos 0)) × ((g : HalfSpace) → g ∈ F → SameHalfSpace f g ⊎ VertexOnBehind F f g)}
    (bears F f)
    (λ k. record { corner = k.0.0; vertex = each_corner F k.0.0 k.0.1; on = k.0.2; behind = k.1 })
    (λ h. let a = all_corners F h.corner h.vertex in ((a.s, a.among, same-on f h.corner a.s h.vertex.inside.weight a.same h.on), h.behind))
    (Decides-and (list_any (on f) (corners F)) (list_all (λ g. is_same_half_space f g || list_any (on_behind f g) (corners F)) F)
    (any_decides (on f) (λ v. side f v ≡ pos 0) (corners F) (λ v m. Decides-int_eq (side f v) (pos 0)))
    (all_decides (λ g. is_same_half_space f g || list_any (on_behind f g) (corners F)) (λ g. SameHalfSpace f g ⊎ VertexOnBehind F f g) F (λ g m.
    Decides-or (is_same_half_space f g) (list_any (on_behind f g) (corners F)) (same_half_space f g (proper f among) (proper g m)) (on_behind_tells F f g))))

pub bears_right : (F : List HalfSpace) (f : HalfSpace) → Proper F → Bounded F → f ∈ F → Decides (bears F f) (Bears F f)
bears_right F f proper bounded among =
    Decides-like (bears F f) (bears_exactly F f bounded proper among).1 (bears_exactly F f bounded proper among).0 (bears_tells F f proper among)
