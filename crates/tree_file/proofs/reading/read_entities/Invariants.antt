use Rattle.std.proofs.Common.{◌≡◌, take, length}
use Rattle.map_model.specs.Below.{Below, IsRight}
use Rattle.file_laws.specs.FileLeaves.{file_leaves}
use Rattle.file_laws.specs.Readings.{readings_from}
use Rattle.tree_file.proofs.reading.read_entities.Given as goal

abbrev pub invariant-loop-raw : goal.invariant-loop-raw
invariant-loop-raw l = record {
  place : l.place ≡ length l.yielded;
  readings : (b : Below) → IsRight b → readings_from (file_leaves b) l.fn.format 0 (take (length l.yielded) l.fn.entities.items) ≡ l.readings.items;
}
