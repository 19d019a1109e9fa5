-- The commands of this crate.
use Rattle.std.specs.Prelude.{Bool, true, false}
use Rattle.map_model.specs.Commands.{Command, Vertex, Snap}

abbrev pub is_vertex_command : Command → Bool
is_vertex_command (Vertex n shift picks) = true
is_vertex_command (Snap grid ns) = true
is_vertex_command c = false
