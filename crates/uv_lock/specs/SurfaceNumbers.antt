-- The surface numbers of a face, as contracts see them.
use Rattle.std.specs.Prelude.{ℤ}

-- Contents and flags are whole, the value is a count of millionths.
pub record SurfaceNumbers : Type 0 where
  pub contents : ℤ
  pub flags : ℤ
  pub value : ℤ
