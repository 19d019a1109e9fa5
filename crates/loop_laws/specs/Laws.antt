-- The loop of a face that is computed from vertices, and what solids tell of it.
use Rattle.std.specs.Prelude.{◌≡◌, ℕ, List, Option, Some, slice_get}
use Rattle.algebra.specs.Space.{Homogeneous, HalfSpace}
use Rattle.solid_laws.specs.Names.{AreVertices}
use Rattle.solid_laws.specs.FaceLoop.{IsNumberedLoop, HasLoopVertex}
use Rattle.map_model.specs.Loops.{loop}

-- Where the numbers are the loop of a face, they are those that are computed.
abbrev pub LoopLaw : Type 0
LoopLaw = (F : List HalfSpace) (f : HalfSpace) (V : List Homogeneous) (numbers : List ℕ) → AreVertices F V → IsNumberedLoop F f V numbers → loop V f ≡ numbers

-- The number that is told of a place of a loop stands there in the computed one.
abbrev pub PlaceLaw : Type 0
PlaceLaw =
    (F : List HalfSpace) (face k : ℕ) (number : Option ℕ) (V : List Homogeneous) (f : HalfSpace) → AreVertices F V → slice_get F face ≡ Some f →
    HasLoopVertex F face k number → slice_get (loop V f) k ≡ number
