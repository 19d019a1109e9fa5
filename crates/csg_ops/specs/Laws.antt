-- The laws of boxes and their inner boxes.
use Rattle.std.specs.Prelude.{◌≡◌, ◌⊎◌, ◌↔◌, ℤ, pos, ◌+ℤ◌, ◌-ℤ◌, ◌≤ℤ◌, true, List, ◌++◌}
use Rattle.algebra.specs.Members.{◌∈◌, Every}
use Rattle.algebra.specs.Space.{Vector, Homogeneous, HalfSpace}
use Rattle.solid_laws.specs.Names.{AreVertices}
use Rattle.solid_brush.specs.declared.side.Side.{Side}
use Rattle.solid_brush.specs.Sides.{half_spaces, IsSolid}
use Rattle.solid_brush.specs.Blocks.{IsEmpty}
use Rattle.csg_ops.specs.Hollows.{is_box, inner_box, HasShortSide}

-- No point is inside a box and its inner box exactly where a side of the box is at most twice as long as its walls are thick.
abbrev pub ThickLaw : Type 0
ThickLaw = (t : ℤ) (a : List Side) → pos 0 ≤ℤ t → IsSolid a → is_box a ≡ true → IsEmpty (a ++ inner_box t a) ↔ HasShortSide (t +ℤ t) (half_spaces a)

-- No two of the whole points are further apart along the coordinate than the length.
abbrev pub AreNear : (Vector → ℤ) → (length : ℤ) → List Homogeneous → Type 0
AreNear coordinate length V = (v w : Homogeneous) → v ∈ V → w ∈ V → (coordinate v.vector -ℤ coordinate w.vector) ≤ℤ length

-- The vertices of a box are whole, and a side is at most so long exactly where they are no further apart along a coordinate.
pub record ShortByVertices (F : List HalfSpace) (V : List Homogeneous) : Type 0 where
  pub whole : Every (λ v. v.weight ≡ pos 1) V
  pub short : (length : ℤ) → HasShortSide length F ↔ (AreNear (λ v. v.x) length V ⊎ (AreNear (λ v. v.y) length V ⊎ AreNear (λ v. v.z) length V))

abbrev pub ShortByVerticesLaw : Type 0
ShortByVerticesLaw = (a : List Side) (V : List Homogeneous) → IsSolid a → is_box a ≡ true → AreVertices (half_spaces a) V → ShortByVertices (half_spaces a) V
