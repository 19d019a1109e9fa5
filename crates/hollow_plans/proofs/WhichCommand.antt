-- Which commands are of this crate.
use Rattle.std.proofs.Common.{◌≡◌, List, true, refl, sym, true≢false, ℤ, ℕ}
use Rattle.map_model.specs.Commands.{Command, Hollow}
use Rattle.hollow_plans.specs.HollowCommands.{is_hollow_command}

pub none_other : (c : Command) → is_hollow_command c ≡ true → ((thickness : ℤ) (ns : List ℕ) → ¬ (c ≡ Hollow thickness ns)) → ⊥
none_other (Hollow thickness ns) e hollow = hollow thickness ns refl
none_other c e hollow = true≢false (sym e)
