-- When a command is refused: the rows in their one order, each on the map as it is.
pub use Rattle.map_nodes.specs.Nodes.{has_own_props as has_props}
use Rattle.std.specs.Prelude.{ℕ, ◌+◌, Bool, true, false, cond, not, ◌&&◌, ◌||◌, ◌==◌, nat_lt, List, [], ◌∷◌, ◌++◌, length, map, filter, flat_map, count_by, Option, None, Some, is_some, is_none, option_map, option_to_list, codes, ℤ, ◌+ℤ◌, ◌-ℤ◌, int_lt, int_le}
use Rattle.std.specs.List.{find, list_any, list_all}
use Rattle.std.specs.Str.{bytes_eq}
use Rattle.algebra.specs.Space.{Vector, Homogeneous}
use Rattle.exact_geom.specs.declared.point.Point.{Point}
use Rattle.exact_geom.specs.Planes.{ThreePoints, half_space, is_flat, is_in_range}
use Rattle.map_model.specs.Faces.{Face, Tex, StandardFields, ValveFields}
use Rattle.map_model.specs.Motions.{Motion, stay, shifting, turning, flipping, after, is_short, moved_plane}
use Rattle.map_model.specs.Tree.{Whole, Kind, world, layer, group, entity, brush, at, has, kind_of, is_kind, is_brush, is_linked, is_frozen, set_at, props_at, protected_at, faces_at, brushes_at, format_of, above, preorder, content, over, container, among, lies_beneath, is_one_number, all_brushes}
use Rattle.map_model.specs.Props.{has_key, is_file_key, is_text_among, classname, origin}
use Rattle.map_model.specs.Carry.{lost_offset, plain_tex, is_quarter}
use Rattle.map_model.specs.Origins.{is_origin_stuck}
use Rattle.map_model.specs.Below.{Below}
use Rattle.map_model.specs.Brushes.{trimmed, has_inside, reversed_plane, pieces, box_planes, is_box, distinct_points, is_point_among, spans_space, facets, is_whole, as_point, vertices_of, are_whole, rounded, picked, moved_by, changed_points, changed_faces, first_place, first_beyond, is_outside_world, have_one_half_space}
use Rattle.map_model.specs.Commands.{Part, Front, Back, Both, vector_in, point_in, plane_in, points_in, Settings, Command, Box, Hull, Delete, Copy, Move, Turn, Flip, Clip, Subtract, Intersect, Merge, Hollow, Vertex, Snap, Tex as SetTex, Uv, Convert, Set, Unset, Tie, Untie, Freeze, Thaw, Group as MakeGroup, Ungroup, Into, Link as MakeLink, Unlink, Protect, Unprotect, Show, Touching}
use Rattle.map_model.specs.Replies.{kept, Refusal, NoNode, Repeated, WrongKind, NestedIds, LockedLayer, TwoMembers, ReservedKey, NoKey, NotLinked, NestedLink, Rotation, FlatPlane, PlaneMisses, Apart, NotBox, Thick, NoVertex, FractionalVertex, TooManyPoints, PointRange, NoVolume, TooManyFaces, OutOfWorld, LockOffset, Origin, ShiftRange}
use Rattle.map_model.specs.Links.{motion_at}

-- Words for rows. ----------------------------------------------------------------------------------------------------------------------

abbrev pub refuse : Bool → Refusal → Option Refusal
refuse b r = cond b (Some r) None

-- The first refusal of a list, and that of the first item that has one.
abbrev pub first : List (Option Refusal) → Option Refusal
first [] = None
first (None ∷ rows) = first rows
first (Some r ∷ rows) = Some r

abbrev pub at_each : {A : Type 0} → List A → (A → Option Refusal) → Option Refusal
at_each xs row = first (map row xs)

-- The first face of the list, by its place, at which a row holds.
abbrev pub at_each_face_from : ℕ → List Face → (ℕ → Face → Option Refusal) → Option Refusal
at_each_face_from k [] row = None
at_each_face_from k (f ∷ fs) row = first (row k f ∷ at_each_face_from (k + 1) fs row ∷ [])

abbrev pub at_each_face : Whole → ℕ → (ℕ → Face → Option Refusal) → Option Refusal
at_each_face m n row = at_each_face_from 0 (faces_at m n) row

-- What a command names. -----------------------------------------------------------------------------------------------------------------

-- The named nodes in the line's order.
abbrev pub named : Command → List ℕ
named (Delete ns) = ns
named (Copy shift ns) = ns
named (Move shift ns) = ns
named (Turn axis quarters about ns) = ns
named (Flip axis c ns) = ns
named (Clip part plane ns) = ns
named (Subtract by ns) = by ∷ ns
named (Intersect ns) = ns
named (Merge ns) = ns
named (Hollow thickness ns) = ns
named (Vertex n shift picks) = n ∷ []
named (Snap grid ns) = ns
named (SetTex n face name off rotation scale surface) = n ∷ []
named (Uv n face point) = n ∷ []
named (Set n key value) = n ∷ []
named (Unset n key) = n ∷ []
named (Tie class ns) = ns
named (Untie ns) = ns
named (Freeze n) = n ∷ []
named (Thaw n) = n ∷ []
named (MakeGroup name ns) = ns
named (Ungroup ns) = ns
named (Into place ns) = place ∷ ns
named (MakeLink g shift) = g ∷ []
named (Unlink g) = g ∷ []
named (Protect n key) = n ∷ []
named (Unprotect n key) = n ∷ []
named (Show n) = n ∷ []
named (Touching n) = n ∷ []
named c = []

-- The nodes that are taken with all beneath them, of commands that refuse a node and one beneath it.
abbrev pub taken : Command → List ℕ
taken (Delete ns) = ns
taken (Copy shift ns) = ns
taken (Move shift ns) = ns
taken (Turn axis quarters about ns) = ns
taken (Flip axis c ns) = ns
taken (MakeGroup name ns) = ns
taken (Into place ns) = ns
taken c = []

-- The motion of a command that moves nodes, and the nodes that it moves or copies.
abbrev pub motion_of : Command → Motion
motion_of (Copy shift ns) = shifting (vector_in shift)
motion_of (Move shift ns) = shifting (vector_in shift)
motion_of (Turn axis quarters about ns) = turning axis quarters (vector_in about)
motion_of (Flip axis c ns) = flipping axis c
motion_of c = stay

abbrev pub moved_nodes : Command → List ℕ
moved_nodes (Copy shift ns) = ns
moved_nodes (Move shift ns) = ns
moved_nodes (Turn axis quarters about ns) = ns
moved_nodes (Flip axis c ns) = ns
moved_nodes c = []

-- Of the nodes that are moved with all beneath them, the brushes, the entities and the linked groups.
abbrev pub all_moved : Whole → Command → List ℕ
all_moved m c = flat_map (preorder m) (moved_nodes c)

abbrev pub all_moved_of : Whole → Kind → Command → List ℕ
all_moved_of m k c = filter (is_kind m k) (all_moved m c)

abbrev pub moves_links : Command → Bool
moves_links (Copy shift ns) = false
moves_links c = true

-- The node is moved together with its whole linked group.
abbrev pub moves_with_group : Whole → Command → ℕ → Bool
moves_with_group m c n = elim (over m n) [ None ↦ false | Some g ↦ moves_links c && among g (all_moved m c) ]

abbrev pub is_locked : Settings → Whole → Command → ℕ → Bool
is_locked s m c n = s.lock || moves_with_group m c n

-- The linked groups that a named node makes edited ones.
abbrev pub edits : Whole → Command → ℕ → List ℕ
edits m (Into place ns) n = filter (is_linked m) (cond (n == place) (n ∷ []) []) ++ option_to_list (over m n)
edits m (Protect n key) k = []
edits m (Unprotect n key) k = []
edits m (Show n) k = []
edits m (Uv n face point) k = []
edits m (Touching n) k = []
edits m c n = option_to_list (over m n)

-- Nodes. --------------------------------------------------------------------------------------------------------------------------------

abbrev pub no_node : Whole → Command → Option Refusal
no_node m c = at_each (named c) (λ n. refuse (is_none (at m n)) (NoNode n))

abbrev pub repeated : Command → Option Refusal
repeated c = at_each (named c) (λ n. refuse (nat_lt 1 (count_by (λ k. k == n) (named c))) (Repeated n))

-- Which kinds may stand where.
abbrev pub is_movable : Kind → Bool
is_movable world = false
is_movable layer = false
is_movable group = true
is_movable entity = true
is_movable brush = true

abbrev pub may_be_shown : Kind → Bool
may_be_shown world = true
may_be_shown layer = false
may_be_shown group = false
may_be_shown entity = true
may_be_shown brush = true

abbrev pub may_be_deleted : Kind → Bool
may_be_deleted world = false
may_be_deleted layer = true
may_be_deleted group = true
may_be_deleted entity = true
may_be_deleted brush = true

-- The target of `into`: for brushes alone an entity too.
abbrev pub may_take : Bool → Kind → Bool
may_take brushes_alone world = true
may_take brushes_alone layer = true
may_take brushes_alone group = true
may_take brushes_alone entity = brushes_alone
may_take brushes_alone brush = false

abbrev pub has_face : Whole → ℕ → ℕ → Bool
has_face m n face = nat_lt face (length (faces_at m n))

abbrev pub kind_passes : Whole → (Kind → Bool) → ℕ → Bool
kind_passes m test n = has m (λ x. test (kind_of x)) n

-- The node n fits where the command names it.
abbrev pub fits : Whole → Command → ℕ → Bool
fits m (Delete ns) n = kind_passes m may_be_deleted n
fits m (Copy shift ns) n = kind_passes m is_movable n
fits m (Move shift ns) n = kind_passes m is_movable n
fits m (Turn axis quarters about ns) n = kind_passes m is_movable n
fits m (Flip axis c ns) n = kind_passes m is_movable n
fits m (SetTex k face name off rotation scale surface) n = has_face m n face
fits m (Uv k face point) n = has_face m n face
fits m (Set k key value) n = kind_passes m has_props n
fits m (Unset k key) n = kind_passes m has_props n
fits m (Untie ns) n = is_kind m entity n && nat_lt 0 (length (brushes_at m n))
fits m (Freeze k) n = is_kind m layer n
fits m (Thaw k) n = is_kind m layer n
fits m (MakeGroup name ns) n = kind_passes m is_movable n
fits m (Ungroup ns) n = is_kind m group n
fits m (Into place ns) n = cond (n == place) (kind_passes m (may_take (list_all (is_brush m) ns)) n) (kind_passes m is_movable n)
fits m (MakeLink g shift) n = is_kind m group n
fits m (Unlink g) n = is_kind m group n
fits m (Protect k key) n = is_kind m entity n
fits m (Unprotect k key) n = is_kind m entity n
fits m (Show k) n = kind_passes m may_be_shown n
fits m c n = is_brush m n

abbrev pub wrong_kind : Whole → Command → Option Refusal
wrong_kind m c = at_each (named c) (λ n. refuse (not (fits m c n)) (WrongKind n))

-- n lies beneath another named node, or the target of `into` beneath n.
abbrev pub is_place_beneath : Whole → Command → ℕ → Bool
is_place_beneath m (Into place ns) n = lies_beneath m place n
is_place_beneath m c n = false

abbrev pub nested_ids : Whole → Command → Option Refusal
nested_ids m c = at_each (taken c) (λ n. refuse (list_any (lies_beneath m n) (taken c) || is_place_beneath m c n) (NestedIds n))

abbrev pub passes_frozen_by : Command → Bool
passes_frozen_by (Freeze n) = true
passes_frozen_by (Thaw n) = true
passes_frozen_by (Show n) = true
passes_frozen_by (Uv n face point) = true
passes_frozen_by (Touching n) = true
passes_frozen_by c = false

abbrev pub is_in_frozen : Whole → ℕ → Bool
is_in_frozen m n = list_any (λ k. has m is_frozen k) (n ∷ above m n)

abbrev pub locked_layer : Whole → Command → Option Refusal
locked_layer m c = at_each (named c) (λ n. refuse (not (passes_frozen_by c) && is_in_frozen m n) (LockedLayer n))

-- Two groups are members of one set and not one group.
abbrev pub are_two_members : Whole → ℕ → ℕ → Bool
are_two_members m g h = not (g == h) && is_one_number (set_at m g) (set_at m h)

abbrev pub two_members_from : Whole → (earlier rest : List ℕ) → Option Refusal
two_members_from m earlier [] = None
two_members_from m earlier (g ∷ rest) =
    first (refuse (list_any (are_two_members m g) earlier) (TwoMembers g) ∷ two_members_from m (g ∷ earlier) rest ∷ [])

abbrev pub two_members : Whole → Command → Option Refusal
two_members m c = two_members_from m [] (flat_map (edits m c) (named c))

-- Keys and links. -----------------------------------------------------------------------------------------------------------------------

abbrev pub reserved_key : Command → Option Refusal
reserved_key (Set n key value) = refuse (is_file_key key || (n == 0 && bytes_eq key classname)) (ReservedKey n)
reserved_key (Unset n key) = refuse (is_file_key key || bytes_eq key classname) (ReservedKey n)
reserved_key (Protect n key) =
    refuse (is_file_key key || (bytes_eq key classname || (bytes_eq key origin || list_any (λ b. b == 59) key))) (ReservedKey n)
reserved_key c = None

abbrev pub no_key : Whole → Command → Option Refusal
no_key m (Unset n key) = refuse (not (has_key key (props_at m n))) (NoKey n)
no_key m (Unprotect n key) = refuse (not (is_text_among key (protected_at m n))) (NoKey n)
no_key m c = None

abbrev pub not_linked : Whole → Command → Option Refusal
not_linked m (Unlink g) = refuse (not (is_linked m g)) (NotLinked g)
not_linked m (Protect n key) = refuse (is_none (over m n)) (NotLinked n)
not_linked m c = None

-- The number is a linked group or lies in one; it holds a linked group or is one.
abbrev pub is_in_link : Whole → ℕ → Bool
is_in_link m n = is_linked m n || is_some (over m n)

abbrev pub holds_link : Whole → ℕ → Bool
holds_link m n = list_any (is_linked m) (preorder m n)

abbrev pub first_of : List ℕ → ℕ
first_of [] = 0
first_of (n ∷ ns) = n

abbrev pub nested_link : Whole → Command → Option Refusal
nested_link m (MakeLink g shift) = refuse (is_some (over m g) || list_any (is_linked m) (content m g)) (NestedLink g)
nested_link m (MakeGroup name ns) = at_each ns (λ n. refuse (is_in_link m (container m (first_of ns)) && holds_link m n) (NestedLink n))
nested_link m (Into place ns) = at_each ns (λ n. refuse (is_in_link m place && holds_link m n) (NestedLink n))
nested_link m c = None

-- Geometry. ------------------------------------------------------------------------------------------------------------------------------

-- A face has a rotation at which no axes are computed.
abbrev pub has_odd_rotation : Tex → Bool
has_odd_rotation (StandardFields t) = not (is_quarter t.rotation)
has_odd_rotation (ValveFields t) = false

abbrev pub rotation_of_face : ℕ → ℕ → Face → Option Refusal
rotation_of_face n k f = refuse (has_odd_rotation f.tex) (Rotation n k)

abbrev pub rotation : Whole → Command → Option Refusal
rotation m Convert = at_each (all_brushes m) (λ n. at_each_face m n (rotation_of_face n))
rotation m (Uv n face point) = at_each_face m n (λ k f. cond (k == face) (rotation_of_face n k f) None)
rotation m c = None

abbrev pub flat_plane : Command → Option Refusal
flat_plane (Clip part plane ns) = refuse (is_flat (plane_in plane)) FlatPlane
flat_plane c = None

-- A face with plain fields, in the current material.
abbrev pub current_material : Settings → List ℕ
current_material s = cond (length s.material == 0) (codes "__TB_empty") s.material

abbrev pub plain_face : Settings → Whole → ThreePoints → Face
plain_face s m plane = record { plane = plane; material = current_material s; tex = plain_tex (format_of m) plane }

-- The parts of a brush at a plane, before they are trimmed.
abbrev pub back_part : Settings → Whole → ThreePoints → ℕ → List Face
back_part s m plane n = faces_at m n ++ plain_face s m plane ∷ []

abbrev pub front_part : Settings → Whole → ThreePoints → ℕ → List Face
front_part s m plane n = faces_at m n ++ plain_face s m (reversed_plane plane) ∷ []

abbrev pub plane_misses : Below → Settings → Whole → Command → Option Refusal
plane_misses b s m (Clip part plane ns) =
    at_each ns (λ n. refuse (not (has_inside b (back_part s m (plane_in plane) n) && has_inside b (front_part s m (plane_in plane) n))) (PlaneMisses n))
plane_misses b s m c = None

-- The faces of all the brushes, in order.
abbrev pub all_faces : Whole → List ℕ → List Face
all_faces m ns = flat_map (faces_at m) ns

-- The first brush with which the faces so far have no point inside.
abbrev pub first_apart : Below → Whole → (so_far : List Face) → List ℕ → Option Refusal
first_apart b m so_far [] = None
first_apart b m so_far (n ∷ ns) =
    first (refuse (not (has_inside b (so_far ++ faces_at m n))) (Apart n) ∷ first_apart b m (so_far ++ faces_at m n) ns ∷ [])

abbrev pub apart : Below → Whole → Command → Option Refusal
apart b m (Subtract by ns) = at_each ns (λ n. refuse (not (has_inside b (faces_at m n ++ faces_at m by))) (Apart n))
apart b m (Intersect ns) = first_apart b m [] ns
apart b m c = None

abbrev pub not_box : Whole → Command → Option Refusal
not_box m (Hollow thickness ns) = at_each ns (λ n. refuse (not (is_box (faces_at m n))) (NotBox n))
not_box m c = None

-- A side of the brush is at most so long: no two vertices are further apart along a coordinate.
abbrev pub is_short_along : (Homogeneous → ℤ) → ℤ → List Homogeneous → Bool
is_short_along coordinate length vs = list_all (λ v. list_all (λ w. int_le (coordinate v -ℤ coordinate w) length) vs) vs

abbrev pub has_short_side : ℤ → List Homogeneous → Bool
has_short_side length vs =
    is_short_along (λ v. v.vector.x) length vs || (is_short_along (λ v. v.vector.y) length vs || is_short_along (λ v. v.vector.z) length vs)

abbrev pub thick : Below → Whole → Command → Option Refusal
thick b m (Hollow thickness ns) = at_each ns (λ n. refuse (has_short_side (thickness +ℤ thickness) (vertices_of b (faces_at m n))) (Thick n))
thick b m c = None

abbrev pub is_vertex : Below → List Face → Point → Bool
is_vertex b fs p = is_point_among p (map as_point (filter is_whole (vertices_of b fs)))

-- The first pick, counted from k, at which a row holds.
abbrev pub at_each_pick : ℕ → List Point → (Point → Bool) → (ℕ → Refusal) → Option Refusal
at_each_pick k picks row refusal = option_map refusal (first_place row k picks)

abbrev pub no_vertex : Below → Whole → Command → Option Refusal
no_vertex b m (Vertex n shift picks) = at_each_pick 1 (points_in picks) (λ p. not (is_vertex b (faces_at m n) p)) NoVertex
no_vertex b m c = None

abbrev pub fractional_vertex : Below → Whole → Command → Option Refusal
fractional_vertex b m (Merge ns) = at_each ns (λ n. refuse (not (are_whole b (faces_at m n))) (FractionalVertex n))
fractional_vertex b m (Vertex n shift picks) = refuse (not (are_whole b (faces_at m n))) (FractionalVertex n)
fractional_vertex b m c = None

-- The distinct points of which `hull` and `merge` make a brush.
abbrev pub hull_points : Below → Whole → Command → List Point
hull_points b m (Hull points) = distinct_points (points_in points)
hull_points b m (Merge ns) = distinct_points (flat_map (λ n. map as_point (vertices_of b (faces_at m n))) ns)
hull_points b m c = []

abbrev pub too_many_points : Below → Whole → Command → Option Refusal
too_many_points b m c =
    let count = length (hull_points b m c) in
    refuse (nat_lt 512 count) (TooManyPoints count)

-- A face of a brush goes beyond the range of points.
abbrev pub beyond : ℕ → (ThreePoints → ThreePoints) → List Face → Option Refusal
beyond n move fs = option_map (PointRange n) (first_beyond move fs)

abbrev pub point_range : Settings → Whole → Command → Option Refusal
point_range s m (Box x y) = beyond 0 (λ t. t) (map (plain_face s m) (box_planes (point_in x) (point_in y)))
point_range s m (Vertex n shift picks) =
    let v = vector_in shift in at_each_pick 1 (points_in picks) (λ p. not (is_in_range (moved_by v.x v.y v.z p))) (PointRange n)
point_range s m c = at_each (all_moved_of m brush c) (λ n. beyond n (moved_plane (motion_of c)) (faces_at m n))

-- How `vertex` and `snap` change vertices.
abbrev pub change_of : Command → Homogeneous → Point
change_of (Vertex n shift picks) = picked (vector_in shift) (points_in picks)
change_of (Snap grid ns) = rounded grid
change_of c = as_point

abbrev pub is_flat_change : Below → Whole → Command → ℕ → Bool
is_flat_change b m c n = not (spans_space (changed_points b (change_of c) (faces_at m n)))

-- Each coordinate of the first is below that of the second.
abbrev pub is_below_each : Vector → Vector → Bool
is_below_each v w = int_lt v.x w.x && (int_lt v.y w.y && int_lt v.z w.z)

abbrev pub no_volume : Below → Whole → Command → Option Refusal
no_volume b m (Box x y) = refuse (not (is_below_each (vector_in x) (vector_in y))) (NoVolume 0)
no_volume b m (Hull points) = refuse (not (spans_space (distinct_points (points_in points)))) (NoVolume 0)
no_volume b m (Vertex n shift picks) = refuse (is_flat_change b m (Vertex n shift picks) n) (NoVolume n)
no_volume b m (Snap grid ns) = at_each ns (λ n. refuse (is_flat_change b m (Snap grid ns) n) (NoVolume n))
no_volume b m c = None

-- The results of the commands that make brushes of brushes. -------------------------------------------------------------------------------

abbrev pub clipped_back : Below → Settings → Whole → ThreePoints → ℕ → List Face
clipped_back b s m plane n = trimmed b (back_part s m plane n)

abbrev pub clipped_front : Below → Settings → Whole → ThreePoints → ℕ → List Face
clipped_front b s m plane n = trimmed b (front_part s m plane n)

abbrev pub clip_results : Below → Settings → Whole → Part → ThreePoints → ℕ → List (List Face)
clip_results b s m Back plane n = clipped_back b s m plane n ∷ []
clip_results b s m Front plane n = clipped_front b s m plane n ∷ []
clip_results b s m Both plane n = clipped_back b s m plane n ∷ clipped_front b s m plane n ∷ []

abbrev pub intersection : Below → Whole → List ℕ → List Face
intersection b m ns = trimmed b (all_faces m ns)

-- A facet has the fields of the first given face in the same half-space, else plain ones.
abbrev pub fields_for : Settings → Whole → List Face → ThreePoints → Face
fields_for s m given plane =
    elim (find (λ f. have_one_half_space f.plane plane) given) [ None ↦ plain_face s m plane | Some f ↦ record f { plane = plane } ]

abbrev pub merged : Below → Settings → Whole → List ℕ → List Face
merged b s m ns = map (fields_for s m (all_faces m ns)) (facets (hull_points b m (Merge ns)))

abbrev pub hull_faces : Settings → Whole → List Point → List Face
hull_faces s m points = map (plain_face s m) (facets (distinct_points points))

abbrev pub too_many : ℕ → List Face → Option Refusal
too_many n fs = let count = length fs in refuse (nat_lt 128 count) (TooManyFaces n count)

abbrev pub too_many_faces : Below → Settings → Whole → Command → Option Refusal
too_many_faces b s m (Hull points) = too_many 0 (hull_faces s m (points_in points))
too_many_faces b s m (Clip part plane ns) = at_each ns (λ n. at_each (clip_results b s m part (plane_in plane) n) (too_many n))
too_many_faces b s m (Subtract by ns) = at_each ns (λ n. at_each (pieces b (faces_at m n) (faces_at m by)) (too_many n))
too_many_faces b s m (Intersect ns) = too_many (first_of ns) (intersection b m ns)
too_many_faces b s m (Merge ns) = too_many (first_of ns) (merged b s m ns)
too_many_faces b s m (Vertex n shift picks) = too_many n (changed_faces b (picked (vector_in shift) (points_in picks)) (faces_at m n))
too_many_faces b s m (Snap grid ns) = at_each ns (λ n. too_many n (changed_faces b (rounded grid) (faces_at m n)))
too_many_faces b s m c = None

-- Motions. -------------------------------------------------------------------------------------------------------------------------------

abbrev pub out_of_world : Below → Settings → Whole → Command → Option Refusal
out_of_world b s m (Box x y) = refuse (b.leaves_world (map half_space (box_planes (point_in x) (point_in y)))) (OutOfWorld 0)
out_of_world b s m (Hull points) = refuse (list_any is_outside_world (points_in points)) (OutOfWorld 0)
out_of_world b s m (Vertex n shift picks) = refuse (list_any is_outside_world (changed_points b (picked (vector_in shift) (points_in picks)) (faces_at m n))) (OutOfWorld n)
out_of_world b s m c =
    at_each (all_moved_of m brush c) (λ n. refuse (b.leaves_world (map (λ f. half_space (moved_plane (motion_of c) f.plane)) (faces_at m n))) (OutOfWorld n))

abbrev pub lock_offset : Settings → Whole → Command → Option Refusal
lock_offset s m c =
    at_each (all_moved_of m brush c) (λ n.
    cond (is_locked s m c n) (at_each_face m n (λ k f. option_map (λ offset. LockOffset n k (kept offset)) (lost_offset (motion_of c) f.tex))) None)

abbrev pub stuck_origin : Whole → Command → Option Refusal
stuck_origin m c = at_each (all_moved_of m entity c) (λ n. refuse (is_origin_stuck (motion_of c) (props_at m n)) (Origin n))

-- The motion of a linked group once it is moved.
abbrev pub is_shift_kept : Whole → Motion → ℕ → Bool
is_shift_kept m r g = is_short (after r (motion_at m g)).shift

abbrev pub shift_range : Whole → Command → Option Refusal
shift_range m (MakeLink g shift) = refuse (not (is_shift_kept m (shifting (vector_in shift)) g)) (ShiftRange g)
shift_range m c =
    at_each (filter (is_linked m) (all_moved m c)) (λ g. refuse (moves_links c && not (is_shift_kept m (motion_of c) g)) (ShiftRange g))

-- The rows in their one order. -------------------------------------------------------------------------------------------------------------

abbrev pub rows : Below → Settings → Whole → Command → List (Option Refusal)
rows b s m c =
    no_node m c ∷ repeated c ∷ wrong_kind m c ∷ nested_ids m c ∷ locked_layer m c ∷ two_members m c ∷ reserved_key c ∷ no_key m c
    ∷ not_linked m c ∷ nested_link m c ∷ rotation m c ∷ flat_plane c ∷ plane_misses b s m c ∷ apart b m c ∷ not_box m c ∷ thick b m c
    ∷ no_vertex b m c ∷ fractional_vertex b m c ∷ too_many_points b m c ∷ point_range s m c ∷ no_volume b m c ∷ too_many_faces b s m c
    ∷ out_of_world b s m c ∷ lock_offset s m c ∷ stuck_origin m c ∷ shift_range m c ∷ []
