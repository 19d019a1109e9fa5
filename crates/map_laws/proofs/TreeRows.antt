-- The rows that can refuse a command of the tree in a map in which no group is linked.
use Rattle.std.proofs.Common.{◌≡◌, ℕ, List, [], ◌∷◌, ◌++◌, flat_map, true, cond, ◌&&◌, ◌||◌, ◌==◌, refl, ap, ◌∙◌, Option, Some, None}
use Rattle.std.specs.Prelude.{is_some, option_to_list}
use Rattle.map_model.specs.Tree.{Whole, is_linked, over, container}
use Rattle.map_model.specs.Below.{Below}
use Rattle.map_model.specs.Commands.{Command, Settings, Delete, Entity, Set, Unset, Tie, Untie, Layer, Freeze, Thaw, Group, Ungroup, Into}
use Rattle.map_model.specs.Replies.{Refusal, NestedLink}
use Rattle.map_model.specs.Rows.{refuse, first, at_each, named, first_of, edits, is_in_link, holds_link, rows, no_node, repeated, wrong_kind, nested_ids, locked_layer, two_members, two_members_from, reserved_key, no_key, not_linked, nested_link, rotation, flat_plane, plane_misses, apart, not_box, thick, no_vertex, fractional_vertex, too_many_points, point_range, no_volume, too_many_faces, out_of_world, lock_offset, stuck_origin, shift_range}
use Rattle.map_laws.specs.Unlinked.{Unlinked, tree_rows}
use Rattle.map_laws.specs.TreeCommands.{is_tree_command}
use Rattle.map_laws.proofs.Unlinking.{none_over, filter_none, no_row}

-- A row that doesn't hold is passed over, and one that is in both lists decides in both.
pub skip : (r : Option Refusal) (rs ts : List (Option Refusal)) → r ≡ None → first rs ≡ first ts → first (r ∷ rs) ≡ first ts
skip r rs ts e h = ap (λ x. first (x ∷ rs)) e ∙ h

pub both : (r : Option Refusal) (rs ts : List (Option Refusal)) → first rs ≡ first ts → first (r ∷ rs) ≡ first (r ∷ ts)
both None rs ts h = h
both (Some r) rs ts h = refl

pub flat_none : (f : ℕ → List ℕ) → ((x : ℕ) → f x ≡ []) → (xs : List ℕ) → flat_map f xs ≡ []
flat_none f h [] = refl
flat_none f h (x ∷ xs) = ap (λ l. l ++ flat_map f xs) (h x) ∙ flat_none f h xs

-- The rows of links.
pub over_none : (m : Whole) → Unlinked m → (n : ℕ) → option_to_list (over m n) ≡ []
over_none m u n = ap option_to_list (none_over m u n)

no_edits : (m : Whole) (c : Command) → is_tree_command c ≡ true → Unlinked m → (n : ℕ) → edits m c n ≡ []
no_edits m (Delete ns) e u n = over_none m u n
no_edits m (Entity class point) e u n = over_none m u n
no_edits m (Set k key value) e u n = over_none m u n
no_edits m (Unset k key) e u n = over_none m u n
no_edits m (Tie class ns) e u n = over_none m u n
no_edits m (Untie ns) e u n = over_none m u n
no_edits m (Layer name) e u n = over_none m u n
no_edits m (Freeze k) e u n = over_none m u n
no_edits m (Thaw k) e u n = over_none m u n
no_edits m (Group name ns) e u n = over_none m u n
no_edits m (Ungroup ns) e u n = over_none m u n
no_edits m (Into place ns) e u n =
    ap (λ l. l ++ option_to_list (over m n)) (filter_none (is_linked m) u (cond (n == place) (n ∷ []) [])) ∙ over_none m u n
no_edits m c e u n = absurd (cc)

no_two_members : (m : Whole) (c : Command) → is_tree_command c ≡ true → Unlinked m → two_members m c ≡ None
no_two_members m c e u = ap (two_members_from m []) (flat_none (edits m c) (no_edits m c e u) (named c))

no_link_inside : (m : Whole) (p : ℕ) (ns : List ℕ) → Unlinked m → at_each ns (λ n. refuse (is_in_link m p && holds_link m n) (NestedLink n)) ≡ None
no_link_inside m p ns u = no_row ns (λ n. refuse (is_in_link m p && holds_link m n) (NestedLink n))
    (λ n i. refuse ((u p i || is_some (none_over m u p i)) && holds_link m n) (NestedLink n))

-- The rows of which none speaks of the command.
abbrev geometry : Below → Settings → Whole → Command → List (Option Refusal)
geometry b s m c =
    rotation m c ∷ flat_plane c ∷ plane_misses b s m c ∷ apart b m c ∷ not_box m c ∷ thick b m c ∷ no_vertex b m c ∷ fractional_vertex b m c ∷ too_many_points b m c
    ∷ point_range s m c ∷ no_volume b m c ∷ too_many_faces b s m c ∷ out_of_world b s m c ∷ lock_offset s m c ∷ stuck_origin m c ∷ shift_range m c ∷ []

rows_by : (b : Below) (s : Settings) (m : Whole) (c : Command) → two_members m c ≡ None → first (not_linked m c ∷ nested_link m c ∷ geometry b s m c) ≡ None → first (rows b s m c) ≡ first (tree_rows m c)
rows_by b s m c two rest =
    both (no_node m c) _ _ (both (repeated c) _ _ (both (wrong_kind m c) _ _ (both (nested_ids m c) _ _ (both (locked_layer m c) _ _
    (skip (two_members m c) _ (reserved_key c ∷ no_key m c ∷ []) two (both (reserved_key c) _ (no_key m c ∷ []) (both (no_key m c) _ [] rest)))))))

pub rows_are : (b : Below) (s : Settings) (m : Whole) (c : Command) → is_tree_command c ≡ true → Unlinked m → first (rows b s m c) ≡ first (tree_rows m c)
rows_are b s m (Delete ns) e u = rows_by b s m (Delete ns) (no_two_members m (Delete ns) e u) refl
rows_are b s m (Entity class point) e u = rows_by b s m (Entity class point) (no_two_members m (Entity class point) e u) refl
rows_are b s m (Set n key value) e u = rows_by b s m (Set n key value) (no_two_members m (Set n key value) e u) refl
rows_are b s m (Unset n key) e u = rows_by b s m (Unset n key) (no_two_members m (Unset n key) e u) refl
rows_are b s m (Tie class ns) e u = rows_by b s m (Tie class ns) (no_two_members m (Tie class ns) e u) refl
rows_are b s m (Untie ns) e u = rows_by b s m (Untie ns) (no_two_members m (Untie ns) e u) refl
rows_are b s m (Layer name) e u = rows_by b s m (Layer name) (no_two_members m (Layer name) e u) refl
rows_are b s m (Freeze n) e u = rows_by b s m (Freeze n) (no_two_members m (Freeze n) e u) refl
rows_are b s m (Thaw n) e u = rows_by b s m (Thaw n) (no_two_members m (Thaw n) e u) refl
rows_are b s m (Group name ns) e u = rows_by b s m (Group name ns) (no_two_members m (Group name ns) e u)
    (skip (nested_link m (Group name ns)) (geometry b s m (Group name ns)) [] (no_link_inside m (container m (first_of ns)) ns u) refl)
rows_are b s m (Ungroup ns) e u = rows_by b s m (Ungroup ns) (no_two_members m (Ungroup ns) e u) refl
rows_are b s m (Into place ns) e u = rows_by b s m (Into place ns) (no_two_members m (Into place ns) e u)
    (skip (nested_link m (Into place ns)) (geometry b s m (Into place ns)) [] (no_link_inside m place ns u) refl)
rows_are b s m c e u = absurd (cc)
