-- What is answered for a row that asks for the points of solids.
use Rattle.std.specs.Prelude.{◌≡◌, Option, None, Some, Result, Ok, Err}
use Rattle.map_model.specs.Below.{Below, IsRight}
use Rattle.map_model.specs.Replies.{Refusal}
use Rattle.tree_ops.specs.declared.fault.OpFault.{OpFault}
use Rattle.tree_ops.specs.declared.fault.OpFault.TheVariants.{No, Memory}

-- The row lets the command pass, or refuses it, by whatever right tests. Want of memory says nothing.
abbrev pub Says : (Below → Option Refusal) → Result (Unit {0}) OpFault → Type 0
Says row (Ok passed) = (b : Below) → IsRight b → row b ≡ None
Says row (Err (No refusal)) = (b : Below) → IsRight b → row b ≡ Some refusal
Says row (Err Memory) = Unit {0}
