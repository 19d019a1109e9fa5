-- Why a map is refused whose document builds no tree.
use Rattle.map_text.specs.declared.read_fault.ReadFault.TheVariants.{Memory}
use Rattle.map_report.specs.declared.fault.MapFault.{MapFault}
use Rattle.map_report.specs.declared.fault.MapFault.TheVariants.{Read, NoWorld, NotBuilt, Full}
use Rattle.tree_file.specs.declared.fault.TreeFault.{TreeFault}
use Rattle.tree_file.specs.declared.fault.TreeFault.TheVariants as tree

abbrev pub fault_of : TreeFault → MapFault
fault_of tree.NoWorld = NoWorld
fault_of tree.NotBuilt = NotBuilt
fault_of (tree.Full n) = Full n
fault_of tree.Memory = Read Memory
