-- How large the numbers of planes and vertices get. All of it follows from the greatest size of a point's coordinate.
use Rattle.std.specs.Prelude.{ℕ, ◌*◌}
use Rattle.algebra.specs.World.{point_limit}

-- The difference of two points, in each coordinate.
abbrev pub difference_limit : ℕ
difference_limit = 2 * point_limit

-- A normal, the cross product of two differences: 151,519,232.
abbrev pub normal_limit : ℕ
normal_limit = 2 * (difference_limit * difference_limit)

-- A distance, the dot product of a normal and a point: 1,978,235,092,992.
abbrev pub dist_limit : ℕ
dist_limit = 3 * (normal_limit * point_limit)

-- The cross product of two normals: 45,916,155,331,739,648.
abbrev pub cross_limit : ℕ
cross_limit = 2 * (normal_limit * normal_limit)

-- The weight of a vertex, the determinant of three normals: below 2.09 * 10^25.
abbrev pub weight_limit : ℕ
weight_limit = 3 * (normal_limit * cross_limit)

-- A coordinate of a vertex, three distances times cross products: below 2.73 * 10^29.
abbrev pub coordinate_limit : ℕ
coordinate_limit = 3 * (dist_limit * cross_limit)
