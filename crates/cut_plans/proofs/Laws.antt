-- What laws of maps say of the commands that make brushes of brushes or of points.
use Rattle.std.proofs.Common.{◌≡◌, ℕ, ◌<◌, ◌≤◌, IsTrue, Ok, None, Some, refl, false, ap, sym, ◌∙◌, ◌⊎◌, inl, inr, true≢false}
use Rattle.std.specs.Prelude.{option_map, unwrap_or}
use Rattle.std.proofs.lemmas.Bool.{cases_lt}
use Rattle.map_model.specs.Tree.{Whole, Node, world, has_kind, at}
use Rattle.map_model.specs.Below.{Below, IsRight}
use Rattle.map_model.specs.Commands.{Command, Settings, IsGood}
use Rattle.map_model.specs.Rows.{first}
use Rattle.map_model.specs.Own.{own}
use Rattle.map_model.specs.Apply.{Applied, apply, unless}
use Rattle.map_laws.specs.Unlinked.{finish_unlinked}
use Rattle.map_laws.specs.Reshaping.{is_reshaping_command, reshaping_rows, HasPairs}
use Rattle.map_laws.specs.BoxCommand.{KeepsMaterial}
use Rattle.map_laws.proofs.ReshapingRows.{reshaping_rows_are}
use Rattle.map_laws.proofs.ReshapingCommands.{reshaping_apply, reshaping_command}
use Rattle.tree_node.specs.Held.{IsMap}
pub use Rattle.map_model.proofs.SomeRight.{some_are_right}
pub use Rattle.map_laws.proofs.BoxCommand.{material_kept}

pub applied_is : (b : Below) (s : Settings) (m : Whole) (c : Command) → IsRight b → KeepsMaterial s → IsTrue (is_reshaping_command c) → HasPairs c → IsGood c → IsMap m →
    apply b s m c ≡ unless (first (reshaping_rows b s m c)) (finish_unlinked m c (own b s m c))
applied_is b s m c right material is pairs good map =
    reshaping_apply b s m c right material is good pairs map.shape map.unlinked
    ∙ ap (λ r. unless r (finish_unlinked m c (own b s m c))) (reshaping_rows_are b s m c is map.unlinked)

pub stays_map : (b : Below) (s : Settings) (m : Whole) (c : Command) (a : Applied) → IsRight b → KeepsMaterial s → IsTrue (is_reshaping_command c) → HasPairs c → IsGood c → IsMap m →
    apply b s m c ≡ Ok a → IsMap a.map
stays_map b s m c a right material is pairs good map e =
    let kept = reshaping_command b s m c a right material is good pairs map.shape map.unlinked e in
    record { shape = kept.0; unlinked = kept.1 }

-- The world has a number, and each node one below the next.
pub numbered : (m : Whole) (q : ℕ) (x : Node) → IsMap m → at m q ≡ Some x → q < m.next
numbered m q x map e = by (cases_lt q m.next)
  where
    differ : at m q ≡ None → q < m.next
    differ none = absurd (cc)

    by : (q < m.next) ⊎ (m.next ≤ q) → q < m.next
    by (inl lt) = lt
    by (inr le) = differ (map.shape.numbers.nodes q le)

pub some_number : (m : Whole) → IsMap m → 0 < m.next
some_number m map = by (cases_lt 0 m.next)
  where
    by : (0 < m.next) ⊎ (m.next ≤ 0) → 0 < m.next
    by (inl lt) = lt
    by (inr le) = absurd (true≢false (sym map.shape.standing.world_stands ∙ ap (λ o. unwrap_or (option_map (has_kind world) o) false) (map.shape.numbers.nodes 0 le)))
