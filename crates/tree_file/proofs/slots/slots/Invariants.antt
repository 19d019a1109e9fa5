use Rattle.std.proofs.Common.{◌≡◌, length, take, flat_map}
use Rattle.file_laws.specs.Build.{slots_of}
use Rattle.tree_file.proofs.Lying.{AreLeft}
use Rattle.tree_file.proofs.slots.slots.Given as goal

abbrev pub invariant-loop-item : goal.invariant-loop-item
invariant-loop-item l = record {
  slots : l.slots.items ≡ flat_map (slots_of l.fn.kept.items) (take (length l.yielded) l.fn.kept.items);
  count : length l.lists.items ≡ l.fn.places;
  left : AreLeft l.fn.kept.items (length l.yielded) l.lists.items;
}
