use Rattle.std.proofs.Common.{◌≡◌, ◌++◌, map, take, drop}
use Rattle.exact_geom.specs.Planes.{parts}
use Rattle.orient48.specs.Kept.{vector_in}
use Rattle.orient48.specs.Motions.{turned}
use Rattle.orient48.specs.Orients.{matrix_of}
use Rattle.orient48.proofs.orient.Orient.apply_all.Given as goal

abbrev pub invariant-loop-place : goal.invariant-loop-place
invariant-loop-place g l =
    l.turned ≡ map (λ each. parts (turned (matrix_of l.self) (vector_in each))) (take l.place l.fn.v) ++ drop l.place l.fn.v
