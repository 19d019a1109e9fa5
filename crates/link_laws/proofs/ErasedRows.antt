-- The rows of commands that remake brushes don't look at links and marks.
use Rattle.std.proofs.Common.{◌≡◌, ℕ, List, [], ◌∷◌, ◌++◌, flat_map, length, map, true, not, ◌&&◌, refl, ap, sym, ◌∙◌, Option, Some, None, option_map, ◌+ℤ◌}
use Rattle.std.specs.Prelude.{is_none, nat_lt}
use Rattle.std.specs.List.{list_any}
use Rattle.exact_geom.specs.Planes.{ThreePoints}
use Rattle.map_model.specs.Faces.{Face}
use Rattle.map_model.specs.Tree.{Whole, Node, at, faces_at, is_brush}
use Rattle.map_model.specs.Below.{Below}
use Rattle.map_model.specs.Brushes.{has_inside, reversed_plane, pieces, is_box, distinct_points, vertices_of, as_point, are_whole, rounded, picked, changed_points, changed_faces, spans_space, is_outside_world, trimmed, facets}
use Rattle.map_model.specs.Commands.{Part, Front, Back, Both, Command, Settings, plane_in, points_in, vector_in, Tex, Clip, Subtract, Intersect, Hollow, Hull, Merge, Vertex, Snap}
use Rattle.map_model.specs.Replies.{Refusal, NoNode, WrongKind, LockedLayer, PlaneMisses, Apart, NotBox, Thick, FractionalVertex, NoVolume, OutOfWorld, TooManyPoints, NoVertex}
use Rattle.map_model.specs.Rows.{refuse, first, at_each, named, fits, rows, no_node, repeated, wrong_kind, nested_ids, locked_layer, passes_frozen_by, clip_results, plane_misses, apart, first_apart, not_box, thick, has_short_side, no_vertex, at_each_pick, is_vertex, fractional_vertex, too_many_points, point_range, no_volume, too_many_faces, too_many, first_of, out_of_world, flat_plane}
use Rattle.map_laws.specs.Reshaping.{is_reshaping_command, reshaping_rows, on_brushes}
use Rattle.map_laws.proofs.Refused.{first_none}
use Rattle.map_laws.proofs.RowsPass.{RowsPass, rows_pass}
use Rattle.map_laws.proofs.TreeRows.{skip}
use Rattle.link_laws.proofs.Erasing.{erased, erase, erased_faces, erased_brush, erased_frozen, erased_above}
use Rattle.link_laws.proofs.BrushCommands.{erased_plain, all_erased, erased_back, erased_front, erased_merged}

-- Rows on nodes.
none_erased : (m : Whole) (n : ℕ) → is_none (at (erase m) n) ≡ is_none (at m n)
none_erased m n = by (at m n)
  where
    by : (o : Option Node) → is_none (option_map erased o) ≡ is_none o
    by None = refl
    by (Some x) = refl

no_node_erased : (m : Whole) (c : Command) → no_node (erase m) c ≡ no_node m c
no_node_erased m c = λ i. at_each (named c) (λ n. refuse (none_erased m n i) (NoNode n))

kinds_erased : (m : Whole) (c : Command) → ((n : ℕ) → fits (erase m) c n ≡ fits m c n) → wrong_kind (erase m) c ≡ wrong_kind m c
kinds_erased m c h = λ i. at_each (named c) (λ n. refuse (not (h n i)) (WrongKind n))

frozen_erased : (m : Whole) (c : Command) → locked_layer (erase m) c ≡ locked_layer m c
frozen_erased m c = λ i. at_each (named c) (λ n. refuse (not (passes_frozen_by c) && list_any (λ k. erased_frozen m k i) (n ∷ erased_above m n i)) (LockedLayer n))

brushes_erased : (m : Whole) (c : Command) → ((x : Whole) (n : ℕ) → fits x c n ≡ is_brush x n) → (rest now : List (Option Refusal)) → rest ≡ now → on_brushes (erase m) c rest ≡ on_brushes m c now
brushes_erased m c h rest now e = λ i. no_node_erased m c i ∷ repeated c ∷ kinds_erased m c (λ n. h (erase m) n ∙ erased_brush m n ∙ sym (h m n)) i ∷ frozen_erased m c i ∷ e i

-- Rows on faces.
results_erased : (b : Below) (s : Settings) (m : Whole) (part : Part) (plane : ThreePoints) (n : ℕ) → clip_results b s (erase m) part plane n ≡ clip_results b s m part plane n
results_erased b s m Back plane n = λ i. erased_back b s m plane n i ∷ []
results_erased b s m Front plane n = λ i. erased_front b s m plane n i ∷ []
results_erased b s m Both plane n = λ i. erased_back b s m plane n i ∷ erased_front b s m plane n i ∷ []

apart_erased : (b : Below) (m : Whole) (so_far : List Face) (ns : List ℕ) → first_apart b (erase m) so_far ns ≡ first_apart b m so_far ns
apart_erased b m so_far [] = refl
apart_erased b m so_far (n ∷ ns) = λ i. first (refuse (not (has_inside b (so_far ++ erased_faces m n i))) (Apart n)
    ∷ (ap (λ fs. first_apart b (erase m) (so_far ++ fs) ns) (erased_faces m n) ∙ apart_erased b m (so_far ++ faces_at m n) ns) i ∷ [])

pub rows_erased : (b : Below) (s : Settings) (m : Whole) (c : Command) → is_reshaping_command c ≡ true → reshaping_rows b s (erase m) c ≡ reshaping_rows b s m c
rows_erased b s m (Tex n face name off rotation scale surface) is =
    let c = Tex n face name off rotation scale surface in
    λ i. no_node_erased m c i ∷ kinds_erased m c (λ k. ap (λ fs. nat_lt face (length fs)) (erased_faces m k)) i ∷ frozen_erased m c i ∷ []
rows_erased b s m (Clip part plane ns) is =
    let F = all_erased m in let plain = erased_plain s m in let t = plane_in plane in
    brushes_erased m (Clip part plane ns) (λ x n. refl) _ _ (λ i. flat_plane (Clip part plane ns)
    ∷ at_each ns (λ n. refuse (not (has_inside b (F i n ++ plain i t ∷ []) && has_inside b (F i n ++ plain i (reversed_plane t) ∷ []))) (PlaneMisses n))
    ∷ at_each ns (λ n. at_each (results_erased b s m part t n i) (too_many n)) ∷ [])
rows_erased b s m (Subtract by ns) is =
    let F = all_erased m in
    brushes_erased m (Subtract by ns) (λ x n. refl) _ _ (λ i. at_each ns (λ n. refuse (not (has_inside b (F i n ++ F i by))) (Apart n)) ∷ at_each ns (λ n. at_each (pieces b (F i n) (F i by)) (too_many n)) ∷ [])
rows_erased b s m (Intersect ns) is =
    brushes_erased m (Intersect ns) (λ x n. refl) _ _ (λ i. apart_erased b m [] ns i ∷ too_many (first_of ns) (trimmed b (flat_map (all_erased m i) ns)) ∷ [])
rows_erased b s m (Hollow thickness ns) is =
    let F = all_erased m in
    brushes_erased m (Hollow thickness ns) (λ x n. refl) _ _ (λ i. at_each ns (λ n. refuse (not (is_box (F i n))) (NotBox n)) ∷ at_each ns (λ n. refuse (has_short_side (thickness +ℤ thickness) (vertices_of b (F i n))) (Thick n)) ∷ [])
rows_erased b s m (Hull points) is =
    λ i. too_many_points b m (Hull points) ∷ no_volume b m (Hull points) ∷ too_many 0 (map (erased_plain s m i) (facets (distinct_points (points_in points)))) ∷ out_of_world b s m (Hull points) ∷ []
rows_erased b s m (Merge ns) is =
    let F = all_erased m in
    brushes_erased m (Merge ns) (λ x n. refl) _ _ (λ i. at_each ns (λ n. refuse (not (are_whole b (F i n))) (FractionalVertex n))
    ∷ (let count = length (distinct_points (flat_map (λ n. map as_point (vertices_of b (F i n))) ns)) in refuse (nat_lt 512 count) (TooManyPoints count))
    ∷ too_many (first_of ns) (erased_merged b s m ns i) ∷ [])
rows_erased b s m (Vertex n shift picks) is =
    let c = Vertex n shift picks in let F = erased_faces m n in let change = picked (vector_in shift) (points_in picks) in
    λ i. no_node_erased m c i ∷ kinds_erased m c (erased_brush m) i ∷ frozen_erased m c i
    ∷ at_each_pick 1 (points_in picks) (λ p. not (is_vertex b (F i) p)) NoVertex
    ∷ refuse (not (are_whole b (F i))) (FractionalVertex n) ∷ point_range s m c ∷ refuse (not (spans_space (changed_points b change (F i)))) (NoVolume n)
    ∷ too_many n (changed_faces b change (F i)) ∷ refuse (list_any is_outside_world (changed_points b change (F i))) (OutOfWorld n) ∷ []
rows_erased b s m (Snap grid ns) is =
    let F = all_erased m in
    brushes_erased m (Snap grid ns) (λ x n. refl) _ _ (λ i. at_each ns (λ n. refuse (not (spans_space (changed_points b (rounded grid) (F i n)))) (NoVolume n))
    ∷ at_each ns (λ n. too_many n (changed_faces b (rounded grid) (F i n))) ∷ [])
rows_erased b s m c is = absurd (cc)

-- Rows that pass. ---------------------------------------------------------------------------------------------------------------------------

pass : (r : Option Refusal) (rs : List (Option Refusal)) → r ≡ None → first rs ≡ None → first (r ∷ rs) ≡ None
pass r rs e f = skip r rs [] e f

record NodesPass (m : Whole) (c : Command) : Type 0 where
  there_are : no_node m c ≡ None
  once : repeated c ≡ None
  kinds : wrong_kind m c ≡ None
  frozen : locked_layer m c ≡ None

nodes_pass : (b : Below) (s : Settings) (m : Whole) (c : Command) → first (rows b s m c) ≡ None → NodesPass m c
nodes_pass b s m c e =
    let a1 = first_none (no_node m c) _ e in
    let a2 = first_none (repeated c) _ a1.1 in
    let a3 = first_none (wrong_kind m c) _ a2.1 in
    let a4 = first_none (nested_ids m c) _ a3.1 in
    record { there_are = a1.0; once = a2.0; kinds = a3.0; frozen = (first_none (locked_layer m c) _ a4.1).0 }

on_brushes_pass : (m : Whole) (c : Command) (rest : List (Option Refusal)) → NodesPass m c → first rest ≡ None → first (on_brushes m c rest) ≡ None
on_brushes_pass m c rest p e =
    pass (no_node m c) (repeated c ∷ wrong_kind m c ∷ locked_layer m c ∷ rest) p.there_are (pass (repeated c) (wrong_kind m c ∷ locked_layer m c ∷ rest) p.once
    (pass (wrong_kind m c) (locked_layer m c ∷ rest) p.kinds (pass (locked_layer m c) rest p.frozen e)))

by_rows : (b : Below) (s : Settings) (m : Whole) (c : Command) → is_reshaping_command c ≡ true → NodesPass m c → RowsPass b s m c → first (reshaping_rows b s m c) ≡ None
by_rows b s m (Tex n face name off rotation scale surface) is p r =
    let c = Tex n face name off rotation scale surface in
    pass (no_node m c) (wrong_kind m c ∷ locked_layer m c ∷ []) p.there_are (pass (wrong_kind m c) (locked_layer m c ∷ []) p.kinds (pass (locked_layer m c) [] p.frozen refl))
by_rows b s m (Clip part plane ns) is p r =
    let c = Clip part plane ns in
    on_brushes_pass m c (flat_plane c ∷ plane_misses b s m c ∷ too_many_faces b s m c ∷ []) p
    (pass (flat_plane c) (plane_misses b s m c ∷ too_many_faces b s m c ∷ []) r.plane (pass (plane_misses b s m c) (too_many_faces b s m c ∷ []) r.sides (pass (too_many_faces b s m c) [] r.few_faces refl)))
by_rows b s m (Subtract by ns) is p r =
    let c = Subtract by ns in
    on_brushes_pass m c (apart b m c ∷ too_many_faces b s m c ∷ []) p (pass (apart b m c) (too_many_faces b s m c ∷ []) r.meets (pass (too_many_faces b s m c) [] r.few_faces refl))
by_rows b s m (Intersect ns) is p r =
    let c = Intersect ns in
    on_brushes_pass m c (apart b m c ∷ too_many_faces b s m c ∷ []) p (pass (apart b m c) (too_many_faces b s m c ∷ []) r.meets (pass (too_many_faces b s m c) [] r.few_faces refl))
by_rows b s m (Hollow thickness ns) is p r =
    let c = Hollow thickness ns in
    on_brushes_pass m c (not_box m c ∷ thick b m c ∷ []) p (pass (not_box m c) (thick b m c ∷ []) r.box (pass (thick b m c) [] r.thin refl))
by_rows b s m (Hull points) is p r =
    let c = Hull points in
    pass (too_many_points b m c) (no_volume b m c ∷ too_many_faces b s m c ∷ out_of_world b s m c ∷ []) r.few_points (pass (no_volume b m c) (too_many_faces b s m c ∷ out_of_world b s m c ∷ []) r.volume
    (pass (too_many_faces b s m c) (out_of_world b s m c ∷ []) r.few_faces (pass (out_of_world b s m c) [] r.world refl)))
by_rows b s m (Merge ns) is p r =
    let c = Merge ns in
    on_brushes_pass m c (fractional_vertex b m c ∷ too_many_points b m c ∷ too_many_faces b s m c ∷ []) p
    (pass (fractional_vertex b m c) (too_many_points b m c ∷ too_many_faces b s m c ∷ []) r.whole (pass (too_many_points b m c) (too_many_faces b s m c ∷ []) r.few_points (pass (too_many_faces b s m c) [] r.few_faces refl)))
by_rows b s m (Vertex n shift picks) is p r =
    let c = Vertex n shift picks in
    let last = too_many_faces b s m c ∷ out_of_world b s m c ∷ [] in
    pass (no_node m c) (wrong_kind m c ∷ locked_layer m c ∷ no_vertex b m c ∷ fractional_vertex b m c ∷ point_range s m c ∷ no_volume b m c ∷ last) p.there_are
    (pass (wrong_kind m c) (locked_layer m c ∷ no_vertex b m c ∷ fractional_vertex b m c ∷ point_range s m c ∷ no_volume b m c ∷ last) p.kinds
    (pass (locked_layer m c) (no_vertex b m c ∷ fractional_vertex b m c ∷ point_range s m c ∷ no_volume b m c ∷ last) p.frozen
    (pass (no_vertex b m c) (fractional_vertex b m c ∷ point_range s m c ∷ no_volume b m c ∷ last) r.picks
    (pass (fractional_vertex b m c) (point_range s m c ∷ no_volume b m c ∷ last) r.whole (pass (point_range s m c) (no_volume b m c ∷ last) r.points
    (pass (no_volume b m c) last r.volume (pass (too_many_faces b s m c) (out_of_world b s m c ∷ []) r.few_faces (pass (out_of_world b s m c) [] r.world refl))))))))
by_rows b s m (Snap grid ns) is p r =
    let c = Snap grid ns in
    on_brushes_pass m c (no_volume b m c ∷ too_many_faces b s m c ∷ []) p (pass (no_volume b m c) (too_many_faces b s m c ∷ []) r.volume (pass (too_many_faces b s m c) [] r.few_faces refl))
by_rows b s m c is p r = absurd (cc)

pub reshaping_pass : (b : Below) (s : Settings) (m : Whole) (c : Command) → is_reshaping_command c ≡ true → first (rows b s m c) ≡ None → first (reshaping_rows b s m c) ≡ None
reshaping_pass b s m c is e = by_rows b s m c is (nodes_pass b s m c e) (rows_pass b s m c e)
