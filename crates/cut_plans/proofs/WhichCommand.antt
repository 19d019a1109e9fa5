-- Which commands are of this crate.
use Rattle.std.proofs.Common.{◌≡◌, List, true, refl, sym, true≢false, ℤ, ℕ}
use Rattle.map_model.specs.Commands.{Command, Clip, Subtract, Intersect, Part}
use Rattle.cut_plans.specs.CutCommands.{is_cut_command}

pub none_other : (c : Command) → is_cut_command c ≡ true → ((part : Part) (plane : List (List ℤ)) (ns : List ℕ) → ¬ (c ≡ Clip part plane ns)) → ((by : ℕ) (ns : List ℕ) → ¬ (c ≡ Subtract by ns)) → ((ns : List ℕ) → ¬ (c ≡ Intersect ns)) → ⊥
none_other (Clip part plane ns) e clip subtract intersect = clip part plane ns refl
none_other (Subtract by ns) e clip subtract intersect = subtract by ns refl
none_other (Intersect ns) e clip subtract intersect = intersect ns refl
none_other c e clip subtract intersect = true≢false (sym e)
