-- The commands of this crate: those that make, move, copy, cut, reshape and texture brushes.
use Rattle.std.specs.Prelude.{Bool, true, false}
use Rattle.map_model.specs.Commands.{Command, Box, Hull, Copy, Move, Turn, Flip, Clip, Subtract, Intersect, Merge, Hollow, Vertex, Snap, Tex}

abbrev pub is_edit_command : Command → Bool
is_edit_command (Box x y) = true
is_edit_command (Hull points) = true
is_edit_command (Copy shift ns) = true
is_edit_command (Move shift ns) = true
is_edit_command (Turn axis quarters about ns) = true
is_edit_command (Flip axis place ns) = true
is_edit_command (Clip part plane ns) = true
is_edit_command (Subtract by ns) = true
is_edit_command (Intersect ns) = true
is_edit_command (Merge ns) = true
is_edit_command (Hollow thickness ns) = true
is_edit_command (Vertex n shift picks) = true
is_edit_command (Snap grid ns) = true
is_edit_command (Tex n face name off rotation scale surface) = true
is_edit_command c = false
