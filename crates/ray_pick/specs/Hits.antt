-- What it means that a ray hits a solid.
use Rattle.std.specs.Prelude.{List, Option, Some, None}
use Rattle.algebra.specs.Space.{Vector, HalfSpace}
use Rattle.ray_pick.specs.declared.picking.Hit.{Hit}
use Rattle.ray_pick.specs.Rays.{point_at, IsRatio, Reaches, Misses, IsFaceAt}

-- The ray is in the solid there for the first time, on that face.
pub record Hits (F : List HalfSpace) (from to : Vector) (hit : Hit) : Type 0 where
  pub ratio : IsRatio hit.at
  pub reaches : Reaches F from to hit.at
  pub face : IsFaceAt F (point_at from to hit.at) hit.face

-- That is its hit; or no point of the ray is in the solid.
abbrev pub IsHit : List HalfSpace → (from to : Vector) → Option Hit → Type 0
IsHit F from to None = Misses F from to
IsHit F from to (Some hit) = Hits F from to hit
