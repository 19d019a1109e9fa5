-- Which commands are of this crate.
use Rattle.std.proofs.Common.{◌≡◌, List, true, refl, sym, true≢false, ℤ, ℕ}
use Rattle.map_model.specs.Commands.{Command, Hull, Merge}
use Rattle.hull_plans.specs.HullCommands.{is_hull_command}

pub none_other : (c : Command) → is_hull_command c ≡ true → ((points : List (List ℤ)) → ¬ (c ≡ Hull points)) → ((ns : List ℕ) → ¬ (c ≡ Merge ns)) → ⊥
none_other (Hull points) e hull merge = hull points refl
none_other (Merge ns) e hull merge = merge ns refl
none_other c e hull merge = true≢false (sym e)
