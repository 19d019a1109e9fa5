-- How many decimals the numbers of a map keep.
use Rattle.std.specs.Prelude.{ℕ}

-- coordinates of points, shifts of motions, origins
abbrev pub point_decimals : ℕ
point_decimals = 6

-- the parts of texture axes
abbrev pub axis_decimals : ℕ
axis_decimals = 9

-- texture offsets
abbrev pub offset_decimals : ℕ
offset_decimals = 12

-- texture rotations
abbrev pub rotation_decimals : ℕ
rotation_decimals = 6

-- texture scales
abbrev pub scale_decimals : ℕ
scale_decimals = 9

-- the values of surfaces
abbrev pub surface_decimals : ℕ
surface_decimals = 6
