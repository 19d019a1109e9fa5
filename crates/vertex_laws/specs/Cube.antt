-- Cubes as solids, and what of a solid lies in a cube.
use Rattle.std.specs.Prelude.{List, [], ◌∷◌, ◌++◌, ℤ, pos, negsuc}
use Rattle.algebra.specs.Space.{Homogeneous, HalfSpace}
use Rattle.algebra.specs.World.{InCube}
use Rattle.vertex_laws.specs.Vertex.{IsVertex}

-- The half-space of the points p with (x, y, z) . p at most c.
abbrev pub wall : ℤ → ℤ → ℤ → ℤ → HalfSpace
wall x y z c = record { normal = record { x = x; y = y; z = z }; distance = c }

-- The six faces of the cube from -c to c: right, left, far, near, top, bottom.
abbrev pub cube : ℤ → List HalfSpace
cube c = wall (pos 1) (pos 0) (pos 0) c ∷ wall (negsuc 0) (pos 0) (pos 0) c
    ∷ wall (pos 0) (pos 1) (pos 0) c ∷ wall (pos 0) (negsuc 0) (pos 0) c
    ∷ wall (pos 0) (pos 0) (pos 1) c ∷ wall (pos 0) (pos 0) (negsuc 0) c ∷ []

-- The list with the faces of the cube from -c to c before its own.
abbrev pub boxed : ℤ → List HalfSpace → List HalfSpace
boxed c F = cube c ++ F

-- Some vertex lies outside the cube from -c to c.
pub record VertexOutside (F : List HalfSpace) (c : ℤ) : Type 0 where
  pub at : Homogeneous
  pub vertex : IsVertex F at
  pub outside : ¬ (InCube c at)
