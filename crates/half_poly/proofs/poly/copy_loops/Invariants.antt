use Rattle.std.proofs.Common.{◌≡◌, map, take}
use Rattle.half_poly.proofs.poly.copy_loops.Given as goal

abbrev pub invariant-loop-numbers : goal.invariant-loop-numbers
invariant-loop-numbers l = map (λ l. l.items) l.copied.items ≡ map (λ l. l.items) (take l.numbers-index l.loops)
