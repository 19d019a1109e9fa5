-- The commands of this crate.
use Rattle.std.specs.Prelude.{Bool, true, false}
use Rattle.map_model.specs.Commands.{Command, Hull, Merge}

abbrev pub is_hull_command : Command → Bool
is_hull_command (Hull points) = true
is_hull_command (Merge ns) = true
is_hull_command c = false
