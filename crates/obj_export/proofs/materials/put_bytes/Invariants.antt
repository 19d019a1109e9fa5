use Rattle.std.proofs.Common.{◌≡◌, ◌++◌, take, map}
use Rattle.obj_export.specs.Text.{name_byte}
use Rattle.obj_export.proofs.materials.put_bytes.Given as goal

abbrev pub invariant-loop-byte : goal.invariant-loop-byte
invariant-loop-byte l = l.text.items ≡ l.fn.text.items ++ map name_byte (take l.byte-index l.material)
