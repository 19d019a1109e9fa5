-- The first of the five rows on nodes that holds.
use Rattle.std.proofs.Common.{◌≡◌, ℕ, List, [], ◌∷◌, ◌==◌, ◌||◌, not, Option, None, Some, Result, Ok, Err, ap, sym, ◌∙◌}
use Rattle.std.specs.Prelude.{is_none, nat_lt, count_by}
use Rattle.std.specs.List.{list_any}
use Rattle.map_model.specs.Tree.{Whole, at, lies_beneath}
use Rattle.map_model.specs.Replies.{Refusal, NoNode, Repeated, WrongKind, NestedIds, LockedLayer}
use Rattle.map_model.specs.Rows.{first, refuse, at_each, kind_passes, is_movable, is_in_frozen}
use Rattle.tree_ops.specs.Passing.{passes, is_place_beneath_it}
use Rattle.brush_plans.specs.NamedRows.{node_rows}
use Rattle.brush_plans.proofs.RowLoops.{no_row, that_row, alone, first_behind, first_stops}

module _ (m : Whole) (ns : List ℕ) where
  abbrev row_1 : Option Refusal
  row_1 = at_each ns (λ n. refuse (is_none (at m n)) (NoNode n))

  abbrev row_2 : Option Refusal
  row_2 = at_each ns (λ n. refuse (nat_lt 1 (count_by (λ k. k == n) ns)) (Repeated n))

  abbrev row_3 : Option Refusal
  row_3 = at_each ns (λ n. refuse (not (kind_passes m is_movable n)) (WrongKind n))

  abbrev row_4 : Option Refusal
  row_4 = at_each ns (λ n. refuse (list_any (lies_beneath m n) ns || is_place_beneath_it m None n) (NestedIds n))

  abbrev row_5 : Option Refusal
  row_5 = at_each ns (λ n. refuse (is_in_frozen m n) (LockedLayer n))

  pub stops_first : (x : Refusal) → Err x ≡ passes row_1 → Err x ≡ passes (first (node_rows m ns))
  stops_first x e = ap passes (sym (first_stops [] row_1 (row_2 ∷ row_3 ∷ row_4 ∷ row_5 ∷ []) x tt (that_row row_1 x e)))

  pub stops_second : (x : Refusal) → Ok tt ≡ passes row_1 → Err x ≡ passes row_2 → Err x ≡ passes (first (node_rows m ns))
  stops_second x a e = ap passes (sym (first_stops (row_1 ∷ []) row_2 (row_3 ∷ row_4 ∷ row_5 ∷ []) x (no_row row_1 a, tt) (that_row row_2 x e)))

  pub stops_third : (x : Refusal) → Ok tt ≡ passes row_1 → Ok tt ≡ passes row_2 → Err x ≡ passes row_3 → Err x ≡ passes (first (node_rows m ns))
  stops_third x a b e = ap passes (sym (first_stops (row_1 ∷ row_2 ∷ []) row_3 (row_4 ∷ row_5 ∷ []) x (no_row row_1 a, (no_row row_2 b, tt)) (that_row row_3 x e)))

  pub stops_fourth : (x : Refusal) → Ok tt ≡ passes row_1 → Ok tt ≡ passes row_2 → Ok tt ≡ passes row_3 → Err x ≡ passes row_4 → Err x ≡ passes (first (node_rows m ns))
  stops_fourth x a b c e = ap passes (sym (first_stops (row_1 ∷ row_2 ∷ row_3 ∷ []) row_4 (row_5 ∷ []) x (no_row row_1 a, (no_row row_2 b, (no_row row_3 c, tt))) (that_row row_4 x e)))

  pub says_last : (answer : Result (Unit {0}) Refusal) → Ok tt ≡ passes row_1 → Ok tt ≡ passes row_2 → Ok tt ≡ passes row_3 → Ok tt ≡ passes row_4 → answer ≡ passes row_5 → answer ≡ passes (first (node_rows m ns))
  says_last answer a b c d e =
      e ∙ ap passes (sym (first_behind (row_1 ∷ row_2 ∷ row_3 ∷ row_4 ∷ []) (row_5 ∷ []) (no_row row_1 a, (no_row row_2 b, (no_row row_3 c, (no_row row_4 d, tt)))) ∙ alone row_5))
