-- Parts of a brush by the words that spell them, or the first reason why the brush is bad. Only the contracts of the reader's inner
-- functions speak of it: no promise of `read_map` rests on it.
use Rattle.std.specs.Prelude.{ℕ, Bool, not, nat_lt, if◌then◌else◌, List, [], ◌∷◌, ◌++◌, length, Option, None, Some, Result, Ok, Err, ℤ, pos, unsigned_abs, slice_index_or}
use Rattle.exact_geom.specs.declared.point.Point.{Point}
use Rattle.exact_geom.specs.Planes.{ThreePoints, plane_of}
use Rattle.fixed_num.specs.Count.{count_of}
use Rattle.map_lex.specs.TokenList.{TokenValue}
use Rattle.uv_lock.specs.SurfaceNumbers.{SurfaceNumbers}
use Rattle.uv_lock.specs.declared.face.Face.{Face}
use Rattle.exact_geom.specs.declared.plane.PlaneFault.{PlaneFault}
use Rattle.uv_lock.specs.declared.texture.Tex.{Tex}
use Rattle.uv_lock.specs.declared.texture.Tex.TheVariants.{Standard as StandardFields, Valve as ValveFields}
use Rattle.map_text.specs.declared.document.RawBrush.{RawBrush}
use Rattle.map_text.specs.declared.document.RawBrush.TheVariants.{Faces as AllFaces, Bad}
use Rattle.map_text.specs.declared.document.Reason.{Reason}
use Rattle.map_text.specs.declared.document.Reason.TheVariants.{Point as NoWholePoint, Range, Texture, Surface, Flat, Many, Volume, World, Faces}
use Rattle.map_text.specs.Grammar.{PointText, TextureText, SurfaceText, FaceText}
use Rattle.map_text.specs.Refusals.{is_number}
use Rattle.map_text.specs.Meaning.{is_whole, whole_of, is_large, passes_limit, is_bits, has_no_surface, lies_on_line}

-- Of two reasons the first in their order.
abbrev pub first_reason : Reason → Reason → Reason
first_reason NoWholePoint b = NoWholePoint
first_reason a NoWholePoint = NoWholePoint
first_reason Range b = Range
first_reason a Range = Range
first_reason Texture b = Texture
first_reason a Texture = Texture
first_reason Surface b = Surface
first_reason a Surface = Surface
first_reason Flat b = Flat
first_reason a Flat = Flat
first_reason Many b = Many
first_reason a Many = Many
first_reason Volume b = Volume
first_reason a Volume = Volume
first_reason World b = World
first_reason a World = World
first_reason Faces Faces = Faces

-- Of two reasons the first in their order, where there may be none.
abbrev pub first_of : Option Reason → Option Reason → Option Reason
first_of None b = b
first_of (Some a) None = Some a
first_of (Some a) (Some b) = Some (first_reason a b)

-- The part, unless there is a reason against it.
abbrev pub judge : {A : Type 0} → Option Reason → A → Result A Reason
judge None part = Ok part
judge (Some reason) part = Err reason

-- Two parts, or the first of their reasons.
abbrev pub both : {A B : Type 0} → Result A Reason → Result B Reason → Result (A × B) Reason
both (Ok a) (Ok b) = Ok (a, b)
both (Ok a) (Err reason) = Err reason
both (Err reason) (Ok b) = Err reason
both (Err a) (Err b) = Err (first_reason a b)

abbrev pub and_then : {A B : Type 0} → Result A Reason → (A → Result B Reason) → Result B Reason
and_then (Ok a) next = next a
and_then (Err reason) next = Err reason

-- Why the word is no coordinate of a plane's point.
abbrev pub coordinate_reason : List ℕ → Option Reason
coordinate_reason w = if not (is_whole w) then Some NoWholePoint else (if nat_lt 4352 (unsigned_abs (whole_of w)) then Some Range else None)

abbrev pub point_reason : PointText → Option Reason
point_reason p = first_of (first_of (coordinate_reason p.x) (coordinate_reason p.y)) (coordinate_reason p.z)

abbrev pub points_reason : PointText × PointText × PointText → Option Reason
points_reason ps = first_of (first_of (point_reason ps.0) (point_reason ps.1)) (point_reason ps.2)

-- A reason, where the test holds.
abbrev pub reason_if : Bool → Reason → Option Reason
reason_if test reason = if test then Some reason else None

abbrev pub texture_reason : TextureText → Option Reason
texture_reason t = reason_if (passes_limit t) Texture

abbrev pub surface_reason : Option SurfaceText → Option Reason
surface_reason s = reason_if (has_no_surface s) Surface

-- The first of these reasons that is there.
abbrev pub or_else : Option Reason → Option Reason → Option Reason
or_else None b = b
or_else (Some a) b = Some a

-- Why a face makes its brush bad.
abbrev pub face_reason : FaceText → Option Reason
face_reason f =
    or_else (points_reason (f.p0, f.p1, f.p2))
    (or_else (or_else (texture_reason f.texture) (surface_reason f.surface)) (reason_if (lies_on_line f) Flat))

-- What a token spells, if it is a number word.
abbrev pub coordinate_in : TokenValue → Option (Result ℤ Reason)
coordinate_in t = if is_number t then Some (judge (coordinate_reason t.text) (whole_of t.text)) else None

-- What the word means as a number of so many decimals, where a large one is no part for this reason.
abbrev pub count_or : Reason → ℕ → List ℕ → Result ℤ Reason
count_or reason decimals w = judge (reason_if (is_large decimals w) reason) (count_of decimals w)

abbrev pub count_in : Reason → ℕ → TokenValue → Option (Result ℤ Reason)
count_in reason decimals t = if is_number t then Some (count_or reason decimals t.text) else None

-- What the word means as contents or flags.
abbrev pub bits_or : List ℕ → Result ℤ Reason
bits_or w = judge (reason_if (not (is_bits w)) Surface) (whole_of w)

abbrev pub bits_in : TokenValue → Option (Result ℤ Reason)
bits_in t = if is_number t then Some (bits_or t.text) else None

-- The parts made of their numbers.
abbrev pub point_from : Result ℤ Reason → Result ℤ Reason → Result ℤ Reason → Result Point Reason
point_from x y z = and_then (both (both x y) z) (λ q. Ok (record { x = q.0.0; y = q.0.1; z = q.1 }))

abbrev pub points_from : Result Point Reason → Result Point Reason → Result Point Reason → Result (List Point) Reason
points_from a b c = and_then (both (both a b) c) (λ q. Ok (q.0.0 ∷ q.0.1 ∷ q.1 ∷ []))

abbrev pub axis_from : Result ℤ Reason → Result ℤ Reason → Result ℤ Reason → Result ℤ Reason → Result (List ℤ × ℤ) Reason
axis_from x y z offset =
    and_then x (λ x. and_then y (λ y. and_then z (λ z. and_then offset (λ offset. Ok ((x ∷ y ∷ z ∷ [], offset))))))

-- A brush with one more face: it has at most 256 of them, and keeps its first reason.
abbrev pub with_face : RawBrush → Result Face Reason → RawBrush
with_face (Bad a) (Err b) = Bad (first_reason a b)
with_face (Bad a) (Ok face) = Bad a
with_face (AllFaces faces) (Err b) = Bad b
with_face (AllFaces faces) (Ok face) = if nat_lt (length faces) 256 then AllFaces (faces ++ face ∷ []) else Bad Many

abbrev pub turn_from : Result ℤ Reason → Result ℤ Reason → Result ℤ Reason → Result (ℤ × List ℤ) Reason
turn_from rotation u v = and_then rotation (λ rotation. and_then u (λ u. and_then v (λ v. Ok ((rotation, u ∷ v ∷ [])))))

abbrev pub surface_from : Result ℤ Reason → Result ℤ Reason → Result ℤ Reason → Result (Option SurfaceNumbers) Reason
surface_from contents flags value =
    and_then contents (λ contents. and_then flags (λ flags. and_then value (λ value.
    Ok (Some (record { contents = contents; flags = flags; value = value })))))

abbrev pub standard_from : Result ℤ Reason → Result ℤ Reason → Result (ℤ × List ℤ) Reason → Result (Option SurfaceNumbers) Reason
    → Result Tex Reason
standard_from u v turn surface =
    and_then u (λ u. and_then v (λ v. and_then turn (λ turn. and_then surface (λ surface. Ok (StandardFields (record {
      off = u ∷ v ∷ [];
      rotation = turn.0;
      scale = turn.1;
      surface = surface;
    }))))))

abbrev pub valve_from : Result (List ℤ × ℤ) Reason → Result (List ℤ × ℤ) Reason → Result (ℤ × List ℤ) Reason
    → Result (Option SurfaceNumbers) Reason → Result Tex Reason
valve_from u v turn surface =
    and_then u (λ u. and_then v (λ v. and_then turn (λ turn. and_then surface (λ surface. Ok (ValveFields (record {
      axis = u.0 ∷ v.0 ∷ [];
      off = u.1 ∷ v.1 ∷ [];
      rotation = turn.0;
      scale = turn.1;
      surface = surface;
    }))))))

-- Three points of a list of three.
abbrev pub three_of : List Point → ThreePoints
three_of points =
    let origin : Point = record { x = pos 0; y = pos 0; z = pos 0 } in
    record { p0 = slice_index_or points 0 origin; p1 = slice_index_or points 1 origin; p2 = slice_index_or points 2 origin }

-- The face of three points in range, or that they lie on a line.
abbrev pub flat_or : Result ThreePoints PlaneFault → List ℕ → Tex → Result Face Reason
flat_or (Ok plane) material tex = Ok (record { plane = plane; material = material; tex = tex })
flat_or (Err fault) material tex = Err Flat

abbrev pub face_from : Result (List Point) Reason → List ℕ → Result Tex Reason → Result Face Reason
face_from points material tex = and_then points (λ points. and_then tex (λ tex. flat_or (plane_of (three_of points)) material tex))
