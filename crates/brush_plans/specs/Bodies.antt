-- Faces that bound a solid.
use Rattle.std.specs.Prelude.{◌≡◌, ℕ, ◌≤◌, List, length, Result, Ok, Err}
use Rattle.trim_laws.specs.Trim.{Trim}
use Rattle.trim_laws.specs.Valid.{NoVolume, OutOfWorld as LeavesWorld}
use Rattle.map_model.specs.Faces.{Face}
use Rattle.map_model.specs.Shape.{half_spaces}
use Rattle.map_model.specs.Replies.{OutOfWorld}
use Rattle.tree_ops.specs.declared.fault.OpFault.{OpFault}
use Rattle.tree_ops.specs.declared.fault.OpFault.TheVariants.{No, Memory}

-- Faces of a solid with a volume, at most 128, each of them needed.
pub record AreNeeded (fs : List Face) : Type 0 where
  pub trimmed : Trim (half_spaces fs) (half_spaces fs)
  pub most : length fs ≤ 128
  pub volume : ¬ (NoVolume (half_spaces fs))

-- The brush of the faces, which lies in the world; or it is refused at the node n, since it doesn't.
abbrev pub IsBodyOf : List Face → ℕ → Result (List Face) OpFault → Type 0
IsBodyOf fs n (Ok body) = (body ≡ fs) × ¬ (LeavesWorld (half_spaces fs))
IsBodyOf fs n (Err (No refusal)) = (refusal ≡ OutOfWorld n) × LeavesWorld (half_spaces fs)
IsBodyOf fs n (Err Memory) = Unit {0}
