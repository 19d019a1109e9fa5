-- The laws that tell most.
use Rattle.std.specs.Prelude.{◌≡◌, ◌≤◌, ◌⊎◌, ◌↔◌, List, map, length, pos, ◌<ℤ◌}
use Rattle.algebra.specs.Members.{◌∈◌}
use Rattle.algebra.specs.Space.{Homogeneous, HalfSpace, dot, side, SameHalfSpace}
use Rattle.algebra.specs.World.{InCube, world}
use Rattle.trim_laws.specs.Solid.{IsIn, IsInside, Proper}
use Rattle.trim_laws.specs.SameHalfSpace.{InProportion, SameByNumbers}
use Rattle.trim_laws.specs.Trim.{Bears, Trim, TrimFaces}
use Rattle.trim_laws.specs.Valid.{Valid, Cause, HasCause}

-- Two half-spaces are one exactly where one is a positive multiple of the other.
abbrev pub SameLaw : Type 0
SameLaw = (f g : HalfSpace) → pos 0 <ℤ dot f.normal f.normal → pos 0 <ℤ dot g.normal g.normal → SameHalfSpace f g ↔ InProportion f g

-- Two half-spaces are one exactly where the test by numbers says so.
abbrev pub SameByNumbersLaw : Type 0
SameByNumbersLaw = (f g : HalfSpace) → pos 0 <ℤ dot f.normal f.normal → pos 0 <ℤ dot g.normal g.normal → SameHalfSpace f g ↔ SameByNumbers f g

-- A face that bears, with the point e on it.
pub record BearingFace (F : List HalfSpace) (e : Homogeneous) : Type 0 where
  pub face : HalfSpace
  pub among : face ∈ F
  pub on : side face e ≡ pos 0
  pub bears : Bears F face

-- Where the solid has a point inside: each of its points is inside, or on a face that bears.
abbrev pub BearingLaw : Type 0
BearingLaw = (F : List HalfSpace) (o e : Homogeneous) → IsInside F o → IsIn F e → IsInside F e ⊎ BearingFace F e

-- The points of the trimmed list are points of the list.
abbrev pub TrimLaw : Type 0
TrimLaw = (F G : List HalfSpace) (o p : Homogeneous) → Proper F → IsInside F o → Trim F G → IsIn G p → IsIn F p

-- The points of the list are points of the trimmed list.
abbrev pub TrimBackLaw : Type 0
TrimBackLaw = (F G : List HalfSpace) (p : Homogeneous) → Trim F G → IsIn F p → IsIn G p

-- The points inside the trimmed list are inside the list.
abbrev pub TrimInsideLaw : Type 0
TrimInsideLaw = (F G : List HalfSpace) (o p : Homogeneous) → Proper F → IsInside F o → Trim F G → IsInside G p → IsInside F p

-- There is only one trimmed list.
abbrev pub TrimUniqueLaw : Type 0
TrimUniqueLaw = (F G H : List HalfSpace) → Trim F G → Trim F H → G ≡ H

-- Trimming again changes nothing.
abbrev pub TrimAgainLaw : Type 0
TrimAgainLaw = (F G : List HalfSpace) → Trim F G → Trim G G

-- A list with a point inside and none outside the world has a valid brush as its trimmed list, if that has 4 to 128 faces.
abbrev pub ValidLaw : Type 0
ValidLaw = (F G : List HalfSpace) (o : Homogeneous) → Proper F → IsInside F o → ((p : Homogeneous) → IsIn F p → InCube world p) →
    Trim F G → 4 ≤ length G → length G ≤ 128 → Valid G

-- A list is refused for one cause.
abbrev pub OneCauseLaw : Type 0
OneCauseLaw = (F : List HalfSpace) (c d : Cause) → HasCause F c → HasCause F d → c ≡ d

-- A valid brush is refused for none.
abbrev pub NoCauseLaw : Type 0
NoCauseLaw = (F : List HalfSpace) (c : Cause) → Valid F → ¬ (HasCause F c)

-- Trimming faces is trimming their half-spaces, and it gives only one list.
pub record FacesTrimmed {A : Type 0} (plane : A → HalfSpace) (F G : List A) : Type 0 where
  pub half_spaces : Trim (map plane F) (map plane G)
  pub only : (H : List A) → TrimFaces plane F H → G ≡ H

abbrev pub TrimFacesLaw : Type 0 → Type 0
TrimFacesLaw A = (plane : A → HalfSpace) (F G : List A) → TrimFaces plane F G → FacesTrimmed plane F G
