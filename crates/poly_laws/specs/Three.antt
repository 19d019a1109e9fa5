-- Three faces of a trimmed list through one point.
use Rattle.std.specs.Prelude.{◌≡◌, List, pos, ◌<ℤ◌}
use Rattle.algebra.specs.Members.{◌∈◌}
use Rattle.algebra.specs.Space.{Homogeneous, HalfSpace, det, side}
use Rattle.trim_laws.specs.Solid.{IsInside}
use Rattle.poly_laws.specs.Stands.{Neat}

-- The normals of three faces of a trimmed list that meet in a point are independent. So the name of a vertex, the first three
-- faces with independent normals, is its first three faces.
abbrev pub ThreeFacesLaw : Type 0
ThreeFacesLaw = (F : List HalfSpace) (f g h : HalfSpace) (v o : Homogeneous) → Neat F → IsInside F o → pos 0 <ℤ v.weight → f ∈ F → g ∈ F → h ∈ F →
    side f v ≡ pos 0 → side g v ≡ pos 0 → side h v ≡ pos 0 → ¬ (f ≡ g) → ¬ (g ≡ h) → ¬ (h ≡ f) → ¬ (det f.normal g.normal h.normal ≡ pos 0)
