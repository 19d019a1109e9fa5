use Rattle.std.proofs.Common.{◌≡◌, ◌<◌, ℕ, length, get_or, take}
use Rattle.tree_file.proofs.Drawing.{sizes, told}
use Rattle.tree_file.proofs.numbering.put_numbers.Given as goal

abbrev pub invariant-loop-item : goal.invariant-loop-item
invariant-loop-item l = record {
  next : l.next ≡ sizes (take l.item-index l.kept);
  numbers : (p : ℕ) → p < length l.fn.numbers → get_or l.numbers p 0 ≡ told l.kept (take l.item-index l.kept) p;
}
