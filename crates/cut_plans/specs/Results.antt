-- A brush that a command makes.
use Rattle.std.specs.Prelude.{◌≡◌, ℕ, List, Option, None, Some, Result, Ok, Err}
use Rattle.map_model.specs.Faces.{Face}
use Rattle.map_model.specs.Below.{Below, IsRight}
use Rattle.map_model.specs.Rows.{too_many}
use Rattle.tree_ops.specs.declared.fault.OpFault.{OpFault}
use Rattle.tree_ops.specs.declared.fault.OpFault.TheVariants.{No, Memory}

-- The faces of the brush are those that any right tests make, at most 128; or they are too many, and the command is refused with the
-- node n. Want of memory says nothing.
abbrev pub IsResult : ℕ → (Below → List Face) → Result (List Face) OpFault → Type 0
IsResult n made (Ok body) = (b : Below) → IsRight b → (made b ≡ body) × (too_many n body ≡ None)
IsResult n made (Err (No refusal)) = (b : Below) → IsRight b → too_many n (made b) ≡ Some refusal
IsResult n made (Err Memory) = Unit {0}
