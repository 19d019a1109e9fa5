-- The rows that can refuse a command that moves or copies nodes in a map in which no group is linked, and those that can refuse a box.
use Rattle.std.proofs.Common.{◌≡◌, ℕ, List, [], ◌∷◌, refl, ap, ◌∙◌, Option, None}
use Rattle.std.specs.Prelude.{filter, not, ◌&&◌}
use Rattle.map_model.specs.Tree.{Whole, is_linked}
use Rattle.map_model.specs.Below.{Below}
use Rattle.map_model.specs.Commands.{Command, Settings, Box, Copy, Move, Turn, Flip}
use Rattle.map_model.specs.Replies.{Refusal, ShiftRange}
use Rattle.map_model.specs.Rows.{first, refuse, at_each, moves_links, motion_of, is_shift_kept, edits, named, all_moved, rows, no_node, repeated, wrong_kind, nested_ids, locked_layer, two_members, two_members_from, reserved_key, no_key, not_linked, nested_link, rotation, flat_plane, plane_misses, apart, not_box, thick, no_vertex, fractional_vertex, too_many_points, point_range, no_volume, too_many_faces, out_of_world, lock_offset, stuck_origin, shift_range}
use Rattle.map_laws.specs.Unlinked.{Unlinked}
use Rattle.map_laws.specs.MovingCommands.{moving_rows, MovingRowsLaw}
use Rattle.map_laws.specs.BoxCommand.{BoxRowsLaw}
use Rattle.map_laws.proofs.TreeRows.{skip, both, flat_none, over_none}
use Rattle.map_laws.proofs.Unlinking.{filter_none}

-- The rows between those on nodes and those on points, of which none speaks of the command; and those between points and the world.
abbrev between : Below → Settings → Whole → Command → List (Option Refusal) → List (Option Refusal)
between b s m c rs =
    reserved_key c ∷ no_key m c ∷ not_linked m c ∷ nested_link m c ∷ rotation m c ∷ flat_plane c ∷ plane_misses b s m c ∷ apart b m c ∷ not_box m c ∷ thick b m c
    ∷ no_vertex b m c ∷ fractional_vertex b m c ∷ too_many_points b m c ∷ rs

abbrev after_points : Below → Settings → Whole → Command → List (Option Refusal) → List (Option Refusal)
after_points b s m c rs = no_volume b m c ∷ too_many_faces b s m c ∷ rs

-- The rows on motions, with that on links and without it.
abbrev on_motions : Below → Settings → Whole → Command → List (Option Refusal) → List (Option Refusal)
on_motions b s m c rs = out_of_world b s m c ∷ lock_offset s m c ∷ stuck_origin m c ∷ rs

rows_by : (b : Below) (s : Settings) (m : Whole) (c : Command) → two_members m c ≡ None → ((rs : List (Option Refusal)) → first (between b s m c rs) ≡ first rs) →
    ((rs : List (Option Refusal)) → first (after_points b s m c rs) ≡ first rs) → shift_range m c ≡ None → first (rows b s m c) ≡ first (moving_rows b s m c)
rows_by b s m c two gap later shift =
    both (no_node m c) _ _ (both (repeated c) _ _ (both (wrong_kind m c) _ _ (both (nested_ids m c) _ _ (both (locked_layer m c) _ _
    (skip (two_members m c) (between b s m c (point_range s m c ∷ after_points b s m c (on_motions b s m c (shift_range m c ∷ [])))) (point_range s m c ∷ on_motions b s m c []) two
    (gap (point_range s m c ∷ after_points b s m c (on_motions b s m c (shift_range m c ∷ [])))
    ∙ both (point_range s m c) (after_points b s m c (on_motions b s m c (shift_range m c ∷ []))) (on_motions b s m c [])
    (later (on_motions b s m c (shift_range m c ∷ []))
    ∙ both (out_of_world b s m c) (lock_offset s m c ∷ stuck_origin m c ∷ shift_range m c ∷ []) (lock_offset s m c ∷ stuck_origin m c ∷ [])
    (both (lock_offset s m c) (stuck_origin m c ∷ shift_range m c ∷ []) (stuck_origin m c ∷ [])
    (both (stuck_origin m c) (shift_range m c ∷ []) [] (skip (shift_range m c) [] [] shift refl))))))))))

pub no_two_members : (m : Whole) (c : Command) → ((n : ℕ) → edits m c n ≡ []) → two_members m c ≡ None
no_two_members m c h = ap (two_members_from m []) (flat_none (edits m c) h (named c))

no_links_moved : (m : Whole) (c : Command) → Unlinked m → filter (is_linked m) (all_moved m c) ≡ []
no_links_moved m c u = filter_none (is_linked m) u (all_moved m c)

pub moving_rows_are : MovingRowsLaw
moving_rows_are b s m (Copy shift ns) is u =
    rows_by b s m (Copy shift ns) (no_two_members m (Copy shift ns) (over_none m u)) (λ rs. refl) (λ rs. refl)
    (ap (λ gs. at_each gs (λ g. refuse (moves_links (Copy shift ns) && not (is_shift_kept m (motion_of (Copy shift ns)) g)) (ShiftRange g))) (no_links_moved m (Copy shift ns) u))
moving_rows_are b s m (Move shift ns) is u =
    rows_by b s m (Move shift ns) (no_two_members m (Move shift ns) (over_none m u)) (λ rs. refl) (λ rs. refl)
    (ap (λ gs. at_each gs (λ g. refuse (moves_links (Move shift ns) && not (is_shift_kept m (motion_of (Move shift ns)) g)) (ShiftRange g))) (no_links_moved m (Move shift ns) u))
moving_rows_are b s m (Turn axis quarters about ns) is u =
    rows_by b s m (Turn axis quarters about ns) (no_two_members m (Turn axis quarters about ns) (over_none m u)) (λ rs. refl) (λ rs. refl)
    (ap (λ gs. at_each gs (λ g. refuse (moves_links (Turn axis quarters about ns) && not (is_shift_kept m (motion_of (Turn axis quarters about ns)) g)) (ShiftRange g))) (no_links_moved m (Turn axis quarters about ns) u))
moving_rows_are b s m (Flip axis at ns) is u =
    rows_by b s m (Flip axis at ns) (no_two_members m (Flip axis at ns) (over_none m u)) (λ rs. refl) (λ rs. refl)
    (ap (λ gs. at_each gs (λ g. refuse (moves_links (Flip axis at ns) && not (is_shift_kept m (motion_of (Flip axis at ns)) g)) (ShiftRange g))) (no_links_moved m (Flip axis at ns) u))
moving_rows_are b s m c is u = absurd (cc)

pub box_rows_are : BoxRowsLaw
box_rows_are b s m x y =
    both (point_range s m (Box x y)) _ (no_volume b m (Box x y) ∷ out_of_world b s m (Box x y) ∷ [])
    (both (no_volume b m (Box x y)) (too_many_faces b s m (Box x y) ∷ on_motions b s m (Box x y) (shift_range m (Box x y) ∷ [])) (out_of_world b s m (Box x y) ∷ [])
    (both (out_of_world b s m (Box x y)) (lock_offset s m (Box x y) ∷ stuck_origin m (Box x y) ∷ shift_range m (Box x y) ∷ []) [] refl))
