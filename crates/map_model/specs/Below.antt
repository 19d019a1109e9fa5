-- What the map level asks of the points of solids, as tests, and what each of them means.
use Rattle.std.specs.Prelude.{◌⊎◌, Bool, List}
use Rattle.std.specs.Bool.{Decides}
use Rattle.algebra.specs.Members.{◌∈◌}
use Rattle.algebra.specs.Space.{Homogeneous, HalfSpace}
use Rattle.trim_laws.specs.Solid.{Proper, Bounded}
use Rattle.trim_laws.specs.Trim.{Bears}
use Rattle.trim_laws.specs.Valid.{Valid, HasInside, NoVolume, OutOfWorld}
use Rattle.solid_laws.specs.Names.{AreVertices}

pub record Below : Type 0 where
  -- some point is behind each face
  pub is_solid : List HalfSpace → Bool
  -- no point of the larger cube is
  pub is_empty : List HalfSpace → Bool
  -- some point of the solid lies outside the world
  pub leaves_world : List HalfSpace → Bool
  -- the face bears
  pub bears : List HalfSpace → HalfSpace → Bool
  -- the vertices in the order of their names
  pub vertices : List HalfSpace → List Homogeneous

-- The tests are right: each says what points there are. Commands ask them of lists that are bounded, as those of brushes are; a file's
-- lists are first asked for their volume, and then whether they leave the world. Vertices are asked of brushes alone.
pub record IsRight (b : Below) : Type 0 where
  pub is_solid : (F : List HalfSpace) → Proper F → Bounded F → Decides (b.is_solid F) (HasInside F)
  pub is_empty : (F : List HalfSpace) → Proper F → Decides (b.is_empty F) (NoVolume F)
  pub leaves_world : (F : List HalfSpace) → Proper F → Bounded F ⊎ ¬ (NoVolume F) → Decides (b.leaves_world F) (OutOfWorld F)
  pub bears : (F : List HalfSpace) (f : HalfSpace) → Proper F → Bounded F → f ∈ F → Decides (b.bears F f) (Bears F f)
  pub vertices : (F : List HalfSpace) → Valid F → AreVertices F (b.vertices F)

-- Some tests on solids are right.
pub record SomeAreRight : Type 0 where
  pub tests : Below
  pub right : IsRight tests
