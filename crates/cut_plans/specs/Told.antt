-- Sides whose tags tell faces.
use Rattle.std.specs.Prelude.{◌⊎◌, ℕ, ◌-◌, ◌<◌, ◌≤◌, nat_lt, cond, get_or, List, [], length, map, pos}
use Rattle.exact_geom.specs.declared.point.Point.{Point}
use Rattle.exact_geom.specs.Planes.{ThreePoints}
use Rattle.uv_lock.specs.declared.texture.Format.TheVariants.{Standard}
use Rattle.solid_brush.specs.declared.side.Side.{Side}
use Rattle.map_model.specs.Faces.{Face}
use Rattle.map_model.specs.Carry.{plain_tex}

-- What a tag tells that tells no face.
abbrev pub origin : Point
origin = record { x = pos 0; y = pos 0; z = pos 0 }

abbrev pub bare : Face
bare =
    let plane : ThreePoints = record { p0 = origin; p1 = origin; p2 = origin } in
    record { plane = plane; material = []; tex = plain_tex Standard plane }

-- The face that the tag of a side tells: below the base one of the old faces, by its place, and from there on one of the new ones.
abbrev pub told : ℕ → (old new : List Face) → Side → Face
told base old new s = cond (nat_lt s.tag base) (get_or old s.tag bare) (get_or new (s.tag - base) bare)

-- The face of a side: the fields of the face that its tag tells, on the side's own plane.
abbrev pub face_of : ℕ → (old new : List Face) → Side → Face
face_of base old new s = record (told base old new s) { plane = s.plane }

abbrev pub faces_of : ℕ → (old new : List Face) → List Side → List Face
faces_of base old new sides = map (face_of base old new) sides

-- The tag of the side tells a face.
abbrev pub IsTold : ℕ → (old new : List Face) → Side → Type 0
IsTold base old new s = ((s.tag < base) × (s.tag < length old)) ⊎ ((base ≤ s.tag) × (s.tag - base < length new))
