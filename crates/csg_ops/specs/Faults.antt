-- Solids with too many faces.
use Rattle.std.specs.Prelude.{◌≡◌, ℕ, ◌<◌, ◌≤◌, List, ◌∷◌, length}
use Rattle.solid_brush.specs.declared.side.Side.{Side}
use Rattle.solid_brush.specs.declared.meet_fault.MeetFault.{MeetFault}
use Rattle.solid_brush.specs.declared.meet_fault.MeetFault.TheVariants.{TooManyFaces as Overfull, Memory as NoMemory}
use Rattle.csg_ops.specs.declared.split_fault.SplitFault.{SplitFault}
use Rattle.csg_ops.specs.declared.split_fault.SplitFault.TheVariants.{TooManyFaces as SplitOverfull, Memory as SplitMemory}
use Rattle.csg_ops.specs.declared.intersect_fault.IntersectFault.{IntersectFault}
use Rattle.csg_ops.specs.declared.intersect_fault.IntersectFault.TheVariants.{TooManyFaces as IntersectOverfull, Memory as IntersectMemory}
use Rattle.csg_ops.specs.declared.subtract_fault.SubtractFault.{SubtractFault}
use Rattle.csg_ops.specs.declared.subtract_fault.SubtractFault.TheVariants.{TooManyFaces as SubtractOverfull, Memory as SubtractMemory}

-- What is no brush by itself, as a fault of a call.
abbrev pub split_fault_of : MeetFault → SplitFault
split_fault_of (Overfull n) = SplitOverfull n
split_fault_of NoMemory = SplitMemory

abbrev pub intersect_fault_of : MeetFault → IntersectFault
intersect_fault_of (Overfull n) = IntersectOverfull n
intersect_fault_of NoMemory = IntersectMemory

abbrev pub subtract_fault_of : MeetFault → SubtractFault
subtract_fault_of (Overfull n) = SubtractOverfull n
subtract_fault_of NoMemory = SubtractMemory

-- The first of the solids with more than 128 faces has n.
pub data IsFirstOverfull (n : ℕ) : List (List Side) → Type 0 where
  overfull : {solid : List Side} {others : List (List Side)} → length solid ≡ n → 128 < n → IsFirstOverfull n (solid ∷ others)
  later_overfull : {solid : List Side} {others : List (List Side)} → length solid ≤ 128 → IsFirstOverfull n others → IsFirstOverfull n (solid ∷ others)

-- Of the solids one has too many faces. Want of memory has no cause in them.
abbrev pub IsOneOverfull : List (List Side) → MeetFault → Type 0
IsOneOverfull solids (Overfull n) = IsFirstOverfull n solids
IsOneOverfull solids NoMemory = Unit {0}
