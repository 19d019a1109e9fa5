-- How far a ray goes, as points tell it and as maps compute it.
use Rattle.std.specs.Prelude.{◌≡◌, ℕ, List, Option, option_map, pos}
use Rattle.std.specs.List.{find, enumerate_from}
use Rattle.std.specs.Ordering.{int_eq}
use Rattle.algebra.specs.Space.{Vector, HalfSpace, Homogeneous, side}
use Rattle.exact_geom.specs.Planes.{half_space}
use Rattle.ray_pick.specs.declared.picking.Hit.{Hit}
use Rattle.ray_pick.specs.Rays.{Fraction as Share, IsFaceAt}
use Rattle.ray_pick.specs.Hits.{IsHit}
use Rattle.map_model.specs.Faces.{Face}
use Rattle.map_model.specs.Carry.{Fraction}
use Rattle.map_model.specs.Shape.{half_spaces}
use Rattle.map_model.specs.Rays.{reach}

-- The fraction of a hit as maps have it.
abbrev pub of_share : Share → Fraction
of_share t = record { num = t.num; den = t.den }

-- The fraction of a ray's hit is the least of those that maps compute, and there is none where the ray misses.
abbrev pub ReachLaw : Type 0
ReachLaw = (F : List HalfSpace) (from to : Vector) (hit : Option Hit) → IsHit F from to hit → reach F from to ≡ option_map (λ h. of_share h.at) hit

-- The first face whose plane has the point, by its number.
abbrev pub first_face : List Face → Homogeneous → Option ℕ
first_face fs p = option_map (λ f. f.0) (find (λ f. int_eq (side (half_space f.1.plane) p) (pos 0)) (enumerate_from 0 fs))

-- The face of a hit is that one.
abbrev pub FaceLaw : Type 0
FaceLaw = (fs : List Face) (p : Homogeneous) (face : Option ℕ) → IsFaceAt (half_spaces fs) p face → first_face fs p ≡ face
