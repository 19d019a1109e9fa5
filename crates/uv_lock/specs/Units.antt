-- What the counts of texture numbers stand for.
use Rattle.std.specs.Prelude.{ℕ, ◌^◌}
use Rattle.fixed_num.specs.Decimals.{axis_decimals, offset_decimals, rotation_decimals}

-- The count of one: of the parts of axes and of scales, of offsets, and of rotations.
abbrev pub axis_unit : ℕ
axis_unit = 10 ^ axis_decimals

abbrev pub offset_unit : ℕ
offset_unit = 10 ^ offset_decimals

abbrev pub degree_unit : ℕ
degree_unit = 10 ^ rotation_decimals
