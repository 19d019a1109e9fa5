use Rattle.std.proofs.Common.{◌≡◌, ℕ, List, length, map, slice_get, Some}
use Rattle.algebra.specs.Space.{HalfSpace}
use Rattle.solid_laws.specs.FaceLoop.{IsNumberedLoop}
use Rattle.half_poly.specs.Readings.{faces_of, points_of}
use Rattle.half_poly.proofs.loops.loops_of.Given as goal

abbrev pub invariant-loop-place : goal.invariant-loop-place
invariant-loop-place l = (length l.loops.items ≡ l.place) × ((k : ℕ) (f : HalfSpace) (numbers : List ℕ) → slice_get (faces_of l.shape) k ≡ Some f →
    slice_get (map (λ l. l.items) l.loops.items) k ≡ Some numbers → IsNumberedLoop (faces_of l.shape) f (points_of l.shape l.named) numbers)
