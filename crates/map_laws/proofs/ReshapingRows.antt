-- The rows that can refuse a command that remakes brushes, in a map in which no group is linked.
use Rattle.std.proofs.Common.{◌≡◌, ℕ, List, [], ◌∷◌, refl, ap, ◌∙◌, Option, None}
use Rattle.std.specs.Prelude.{nat_lt, count_by, ◌==◌, option_to_list}
use Rattle.map_model.specs.Tree.{Whole, over}
use Rattle.map_model.specs.Below.{Below}
use Rattle.map_model.specs.Commands.{Command, Settings, Tex, Clip, Subtract, Intersect, Hollow, Hull, Merge, Vertex, Snap}
use Rattle.map_model.specs.Replies.{Refusal, Repeated}
use Rattle.map_model.specs.Rows.{first, refuse, at_each, named, rows, edits, no_node, repeated, wrong_kind, nested_ids, locked_layer, two_members, reserved_key, no_key, not_linked, nested_link, rotation, flat_plane, plane_misses, apart, not_box, thick, no_vertex, fractional_vertex, too_many_points, point_range, no_volume, too_many_faces, out_of_world, lock_offset, stuck_origin, shift_range}
use Rattle.map_laws.specs.Unlinked.{Unlinked}
use Rattle.map_laws.specs.Reshaping.{ReshapingRowsLaw}
use Rattle.map_laws.proofs.Lists.{count-tally, tally-head}
use Rattle.map_laws.proofs.TreeRows.{skip, both, over_none}
use Rattle.map_laws.proofs.MovingRows.{no_two_members}

-- One name isn't repeated.
named_once : (c : Command) (n : ℕ) → named c ≡ n ∷ [] → repeated c ≡ None
named_once c n e = ap (λ ns. at_each ns (λ k. refuse (nat_lt 1 (count_by (λ j. j == k) ns)) (Repeated k))) e ∙ ap (λ t. first (refuse (nat_lt 1 t) (Repeated n) ∷ [])) (count-tally n (n ∷ []) ∙ tally-head n [])

-- The rows behind that on two members.
abbrev later : Below → Settings → Whole → Command → List (Option Refusal)
later b s m c =
    reserved_key c ∷ no_key m c ∷ not_linked m c ∷ nested_link m c ∷ rotation m c ∷ flat_plane c ∷ plane_misses b s m c ∷ apart b m c ∷ not_box m c ∷ thick b m c
    ∷ no_vertex b m c ∷ fractional_vertex b m c ∷ too_many_points b m c ∷ point_range s m c ∷ no_volume b m c ∷ too_many_faces b s m c
    ∷ out_of_world b s m c ∷ lock_offset s m c ∷ stuck_origin m c ∷ shift_range m c ∷ []

-- The rows on nodes, with those that follow.
brush_rows : (b : Below) (s : Settings) (m : Whole) (c : Command) → Unlinked m → (rest : List (Option Refusal)) → nested_ids m c ≡ None → ((n : ℕ) → edits m c n ≡ option_to_list (over m n)) → first (later b s m c) ≡ first rest →
    first (rows b s m c) ≡ first (no_node m c ∷ repeated c ∷ wrong_kind m c ∷ locked_layer m c ∷ rest)
brush_rows b s m c u rest apart own h =
    both (no_node m c) _ _ (both (repeated c) _ _ (both (wrong_kind m c) _ _ (skip (nested_ids m c) (locked_layer m c ∷ two_members m c ∷ later b s m c) (locked_layer m c ∷ rest) apart (both (locked_layer m c) (two_members m c ∷ later b s m c) rest
    (skip (two_members m c) (later b s m c) rest (no_two_members m c (λ n. own n ∙ over_none m u n)) h)))))

pub reshaping_rows_are : ReshapingRowsLaw
reshaping_rows_are b s m (Tex n face name off rotation scale surface) is u =
    let c = Tex n face name off rotation scale surface in
    both (no_node m c) _ (wrong_kind m c ∷ locked_layer m c ∷ [])
    (skip (repeated c) _ (wrong_kind m c ∷ locked_layer m c ∷ []) (named_once c n refl)
    (both (wrong_kind m c) _ (locked_layer m c ∷ []) (both (locked_layer m c) _ [] (skip (two_members m c) _ [] (no_two_members m c (over_none m u)) refl))))
reshaping_rows_are b s m (Clip part plane ns) is u =
    let c = Clip part plane ns in
    brush_rows b s m c u (flat_plane c ∷ plane_misses b s m c ∷ too_many_faces b s m c ∷ []) refl (λ n. refl)
    (both (flat_plane c) _ (plane_misses b s m c ∷ too_many_faces b s m c ∷ []) (both (plane_misses b s m c) _ (too_many_faces b s m c ∷ []) (both (too_many_faces b s m c) _ [] refl)))
reshaping_rows_are b s m (Subtract by ns) is u =
    let c = Subtract by ns in
    brush_rows b s m c u (apart b m c ∷ too_many_faces b s m c ∷ []) refl (λ n. refl) (both (apart b m c) _ (too_many_faces b s m c ∷ []) (both (too_many_faces b s m c) _ [] refl))
reshaping_rows_are b s m (Intersect ns) is u =
    let c = Intersect ns in
    brush_rows b s m c u (apart b m c ∷ too_many_faces b s m c ∷ []) refl (λ n. refl) (both (apart b m c) _ (too_many_faces b s m c ∷ []) (both (too_many_faces b s m c) _ [] refl))
reshaping_rows_are b s m (Hollow thickness ns) is u =
    let c = Hollow thickness ns in
    brush_rows b s m c u (not_box m c ∷ thick b m c ∷ []) refl (λ n. refl) (both (not_box m c) _ (thick b m c ∷ []) (both (thick b m c) _ [] refl))
reshaping_rows_are b s m (Hull points) is u =
    let c = Hull points in
    both (too_many_points b m c) _ (no_volume b m c ∷ too_many_faces b s m c ∷ out_of_world b s m c ∷ []) (both (no_volume b m c) _ (too_many_faces b s m c ∷ out_of_world b s m c ∷ [])
    (both (too_many_faces b s m c) _ (out_of_world b s m c ∷ []) (both (out_of_world b s m c) _ [] refl)))
reshaping_rows_are b s m (Merge ns) is u =
    let c = Merge ns in
    brush_rows b s m c u (fractional_vertex b m c ∷ too_many_points b m c ∷ too_many_faces b s m c ∷ []) refl (λ n. refl)
    (both (fractional_vertex b m c) _ (too_many_points b m c ∷ too_many_faces b s m c ∷ []) (both (too_many_points b m c) _ (too_many_faces b s m c ∷ []) (both (too_many_faces b s m c) _ [] refl)))
reshaping_rows_are b s m (Vertex n shift picks) is u =
    let c = Vertex n shift picks in
    let geometry = no_vertex b m c ∷ fractional_vertex b m c ∷ point_range s m c ∷ no_volume b m c ∷ too_many_faces b s m c ∷ out_of_world b s m c ∷ [] in
    brush_rows b s m c u geometry refl (λ k. refl)
    (both (no_vertex b m c) _ (fractional_vertex b m c ∷ point_range s m c ∷ no_volume b m c ∷ too_many_faces b s m c ∷ out_of_world b s m c ∷ [])
    (both (fractional_vertex b m c) _ (point_range s m c ∷ no_volume b m c ∷ too_many_faces b s m c ∷ out_of_world b s m c ∷ [])
    (both (point_range s m c) _ (no_volume b m c ∷ too_many_faces b s m c ∷ out_of_world b s m c ∷ [])
    (both (no_volume b m c) _ (too_many_faces b s m c ∷ out_of_world b s m c ∷ []) (both (too_many_faces b s m c) _ (out_of_world b s m c ∷ []) (both (out_of_world b s m c) _ [] refl))))))
    ∙ both (no_node m c) (repeated c ∷ wrong_kind m c ∷ locked_layer m c ∷ geometry) (wrong_kind m c ∷ locked_layer m c ∷ geometry)
    (skip (repeated c) (wrong_kind m c ∷ locked_layer m c ∷ geometry) (wrong_kind m c ∷ locked_layer m c ∷ geometry) (named_once c n refl) refl)
reshaping_rows_are b s m (Snap grid ns) is u =
    let c = Snap grid ns in
    brush_rows b s m c u (no_volume b m c ∷ too_many_faces b s m c ∷ []) refl (λ n. refl) (both (no_volume b m c) _ (too_many_faces b s m c ∷ []) (both (too_many_faces b s m c) _ [] refl))
reshaping_rows_are b s m c is u = absurd (cc)
