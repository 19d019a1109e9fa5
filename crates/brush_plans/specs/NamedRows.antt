-- The rows on the nodes that a command names.
use Rattle.std.specs.Prelude.{ℕ, ◌==◌, ◌||◌, not, nat_lt, count_by, List, [], ◌∷◌, Option, None, is_none}
use Rattle.std.specs.List.{list_any}
use Rattle.map_model.specs.Tree.{Whole, at, is_brush, lies_beneath}
use Rattle.map_model.specs.Replies.{Refusal, NoNode, Repeated, WrongKind, NestedIds, LockedLayer}
use Rattle.map_model.specs.Rows.{refuse, at_each, is_movable, kind_passes, is_in_frozen}
use Rattle.tree_ops.specs.Passing.{is_place_beneath_it}

-- Of a command that moves or copies nodes with all beneath them.
abbrev pub node_rows : Whole → List ℕ → List (Option Refusal)
node_rows m ns =
    at_each ns (λ n. refuse (is_none (at m n)) (NoNode n))
    ∷ at_each ns (λ n. refuse (nat_lt 1 (count_by (λ k. k == n) ns)) (Repeated n))
    ∷ at_each ns (λ n. refuse (not (kind_passes m is_movable n)) (WrongKind n))
    ∷ at_each ns (λ n. refuse (list_any (lies_beneath m n) ns || is_place_beneath_it m None n) (NestedIds n))
    ∷ at_each ns (λ n. refuse (is_in_frozen m n) (LockedLayer n)) ∷ []

-- Of a command on brushes.
abbrev pub brush_rows : Whole → List ℕ → List (Option Refusal)
brush_rows m ns =
    at_each ns (λ n. refuse (is_none (at m n)) (NoNode n))
    ∷ at_each ns (λ n. refuse (nat_lt 1 (count_by (λ k. k == n) ns)) (Repeated n))
    ∷ at_each ns (λ n. refuse (not (is_brush m n)) (WrongKind n))
    ∷ at_each ns (λ n. refuse (is_in_frozen m n) (LockedLayer n)) ∷ []
