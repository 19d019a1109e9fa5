-- The commands of this crate.
use Rattle.std.specs.Prelude.{Bool, true, false}
use Rattle.map_model.specs.Commands.{Command, Clip, Subtract, Intersect}

abbrev pub is_cut_command : Command → Bool
is_cut_command (Clip part plane ns) = true
is_cut_command (Subtract by ns) = true
is_cut_command (Intersect ns) = true
is_cut_command c = false
