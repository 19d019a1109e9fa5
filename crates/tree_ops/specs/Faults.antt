-- What a fault of a plan says.
use Rattle.map_model.specs.Tree.{Whole}
use Rattle.map_model.specs.Commands.{Settings, Command}
use Rattle.map_model.specs.Promises.{Refuses}
use Rattle.tree_ops.specs.declared.fault.OpFault.{OpFault}
use Rattle.tree_ops.specs.declared.fault.OpFault.TheVariants.{No, Memory}

-- The refusal is the right one. Want of memory says nothing.
abbrev pub RefusesRightly : Settings → Whole → Command → OpFault → Type 0
RefusesRightly s m c (No refusal) = Refuses s m c refusal
RefusesRightly s m c Memory = Unit {0}
