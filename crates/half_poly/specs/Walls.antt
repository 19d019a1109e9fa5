-- The cube of which polyhedra are cut: its faces by three points each, and its half-edges by the numbers of slots.
use Rattle.std.specs.Prelude.{List, [], ◌∷◌, get_or, ℕ, ◌+◌, ◌*◌, ℤ, pos, negsuc}
use Rattle.exact_geom.specs.declared.point.Point.{Point}
use Rattle.exact_geom.specs.Planes.{ThreePoints}
use Rattle.half_arena.specs.declared.ids.VertId.{VertId}
use Rattle.half_arena.specs.declared.ids.EdgeId.{EdgeId}
use Rattle.half_arena.specs.declared.ids.FaceId.{FaceId}
use Rattle.cube_laws.specs.CubeLinks.{origins, faces, twins, nexts}
use Rattle.half_poly.specs.declared.links.HalfEdge.{HalfEdge}
use Rattle.half_poly.specs.declared.links.Face.{Face}
use Rattle.half_poly.specs.Shapes.{Tagged}

abbrev pub point : ℤ → ℤ → ℤ → Point
point x y z = record { x = x; y = y; z = z }

abbrev pub points : Point → Point → Point → ThreePoints
points p0 p1 p2 = record { p0 = p0; p1 = p1; p2 = p2 }

-- The points of the faces of the cube from -4352 to 4352: right, left, far, near, top, bottom.
abbrev pub wall_points : List ThreePoints
wall_points =
    points (point (pos 4352) (pos 1) (pos 0)) (point (pos 4352) (pos 0) (pos 0)) (point (pos 4352) (pos 0) (pos 1))
    ∷ points (point (negsuc 4351) (pos 0) (pos 1)) (point (negsuc 4351) (pos 0) (pos 0)) (point (negsuc 4351) (pos 1) (pos 0))
    ∷ points (point (pos 0) (pos 4352) (pos 1)) (point (pos 0) (pos 4352) (pos 0)) (point (pos 1) (pos 4352) (pos 0))
    ∷ points (point (pos 1) (negsuc 4351) (pos 0)) (point (pos 0) (negsuc 4351) (pos 0)) (point (pos 0) (negsuc 4351) (pos 1))
    ∷ points (point (pos 1) (pos 0) (pos 4352)) (point (pos 0) (pos 0) (pos 4352)) (point (pos 0) (pos 1) (pos 4352))
    ∷ points (point (pos 0) (pos 1) (negsuc 4351)) (point (pos 0) (pos 0) (negsuc 4351)) (point (pos 1) (pos 0) (negsuc 4351))
    ∷ []

abbrev pub wall_at : ℕ → ThreePoints
wall_at number = get_or wall_points number (points (point (pos 0) (pos 0) (pos 0)) (point (pos 0) (pos 0) (pos 0)) (point (pos 0) (pos 0) (pos 0)))

-- The tag of the face with this number.
abbrev pub wall_tag : ℕ → ℕ
wall_tag number = 4294967290 + number

abbrev pub cube_face : ℕ → EdgeId → Face
cube_face number first = record { plane = wall_at number; tag = wall_tag number; first = first }

abbrev pub unbegun_walls : List Face
unbegun_walls = cube_face 0 (record { 0 = 0 }) ∷ cube_face 1 (record { 0 = 0 }) ∷ cube_face 2 (record { 0 = 0 })
    ∷ cube_face 3 (record { 0 = 0 }) ∷ cube_face 4 (record { 0 = 0 }) ∷ cube_face 5 (record { 0 = 0 }) ∷ []

-- The half-edge with number k, where these are the numbers of the corners, walls and half-edges.
abbrev pub cube_edge : List VertId → List FaceId → List EdgeId → ℕ → HalfEdge
cube_edge corner_ids wall_ids edge_ids k = record {
  origin = get_or corner_ids (get_or origins k 0) (record { 0 = 0 });
  face = get_or wall_ids (get_or faces k 0) (record { 0 = 0 });
  twin = get_or edge_ids (get_or twins k 0) (record { 0 = 0 });
  next = get_or edge_ids (get_or nexts k 0) (record { 0 = 0 });
}

-- Its face with number k begins at half-edge 4 k.
abbrev pub cube_wall : List EdgeId → ℕ → Face
cube_wall edge_ids k = cube_face k (get_or edge_ids (4 * k) (record { 0 = 0 }))

abbrev pub cube_side : ℕ → Tagged
cube_side k = record { plane = wall_at k; tag = wall_tag k }

-- The faces of the cube, with the tags 0xFFFFFFFA to 0xFFFFFFFF.
abbrev pub cube_sides : List Tagged
cube_sides = cube_side 0 ∷ cube_side 1 ∷ cube_side 2 ∷ cube_side 3 ∷ cube_side 4 ∷ cube_side 5 ∷ []
