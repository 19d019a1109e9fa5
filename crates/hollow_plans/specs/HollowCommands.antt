-- The commands of this crate.
use Rattle.std.specs.Prelude.{Bool, true, false}
use Rattle.map_model.specs.Commands.{Command, Hollow}

abbrev pub is_hollow_command : Command → Bool
is_hollow_command (Hollow thickness ns) = true
is_hollow_command c = false
