-- The texture coordinates of points on a face.
use Rattle.std.specs.Prelude.{ℕ, zero, suc, ◌*◌, ◌==◌, Bool, cond, List, [], ◌∷◌, map, Option, None, Some, option_map, unwrap_or, slice_index_or, ℤ, pos, negsuc, ◌+ℤ◌, ◌-ℤ◌, ◌*ℤ◌, unsigned_abs, int_div, int_rem}
use Rattle.std.specs.Int.{int_rem_euclid}
use Rattle.std.specs.Ordering.{int_eq}
use Rattle.algebra.specs.Space.{Vector, Homogeneous, dot}
use Rattle.exact_geom.specs.Planes.{ThreePoints, half_space}
use Rattle.uv_lock.specs.declared.face.Face.{Face}
use Rattle.uv_lock.specs.declared.texture.Format.{Format}
use Rattle.uv_lock.specs.declared.texture.Format.TheVariants.{Standard as StandardFormat, Valve as ValveFormat}
use Rattle.uv_lock.specs.declared.texture.Tex.{Tex}
use Rattle.uv_lock.specs.declared.texture.Tex.TheVariants.{Standard, Valve}
use Rattle.uv_lock.specs.BaseAxes.{base_axes_of}
use Rattle.uv_lock.specs.Carry.{count_at, axis_at, scale_of}
use Rattle.uv_lock.specs.Fractions.{Fraction, fraction}
use Rattle.uv_lock.specs.Units.{axis_unit, offset_unit, degree_unit}

-- Axes of Standard faces. --------------------------------------------------------------------------------------------------------------

-- The rotation is a multiple of 90 degrees.
abbrev pub is_quarter : ℤ → Bool
is_quarter rotation = int_eq (int_rem rotation (pos (90 * degree_unit))) (pos 0)

-- Cosine and sine of so many quarter turns.
abbrev pub cosine : ℕ → ℤ
cosine zero = pos 1
cosine (suc zero) = pos 0
cosine (suc (suc zero)) = negsuc 0
cosine (suc (suc (suc n))) = pos 0

abbrev pub sine : ℕ → ℤ
sine zero = pos 0
sine (suc zero) = pos 1
sine (suc (suc zero)) = pos 0
sine (suc (suc (suc n))) = negsuc 0

-- The coordinate of a unit vector that isn't 0.
abbrev pub place_of : List ℤ → ℕ
place_of [] = 0
place_of (c ∷ counts) = cond (int_eq c (pos 0)) (suc (place_of counts)) 0

-- The axis turned by so many quarters in the plane of the coordinates s and t.
abbrev pub turned_axis : ℕ → ℕ → ℕ → List ℤ → List ℤ
turned_axis q s t a =
    map (λ k. cond (k == s) (cosine q *ℤ count_at a s -ℤ sine q *ℤ count_at a t) (cond (k == t) (sine q *ℤ count_at a s +ℤ cosine q *ℤ count_at a t) (pos 0)))
    (0 ∷ 1 ∷ 2 ∷ [])

abbrev pub turned_base_axes : ℕ → List (List ℤ) → List (List ℤ)
turned_base_axes q axes =
    let s = place_of (slice_index_or axes 0 []) in
    let t = place_of (slice_index_or axes 1 []) in
    map (turned_axis q s t) axes

-- The quarters of a rotation, from 0 to 3.
abbrev pub quarters_of : ℤ → ℕ
quarters_of rotation = unsigned_abs (int_rem_euclid (int_div rotation (pos (90 * degree_unit))) (pos 4))

abbrev pub in_units : List (List ℤ) → List (List ℤ)
in_units axes = map (λ axis. map (λ c. c *ℤ pos axis_unit) axis) axes

abbrev pub base_axes_of_plane : ThreePoints → List (List ℤ)
base_axes_of_plane plane = unwrap_or (base_axes_of (half_space plane).normal) []

-- The axes of a Standard face: the turned base axes of its plane as counts. At a rotation that is no multiple of 90 degrees there are none.
abbrev pub standard_axes : ThreePoints → (rotation : ℤ) → Option (List (List ℤ))
standard_axes plane rotation = cond (is_quarter rotation) (Some (in_units (turned_base_axes (quarters_of rotation) (base_axes_of_plane plane)))) None

-- The axes of a face: a Valve face's own, else the turned base axes.
abbrev pub axes_of : ThreePoints → Tex → Option (List (List ℤ))
axes_of plane (Valve t) = Some t.axis
axes_of plane (Standard t) = standard_axes plane t.rotation

-- The texture fields with the axes written out, in the Valve format.
abbrev pub valve_tex : ThreePoints → Tex → Option Tex
valve_tex plane (Valve t) = Some (Valve t)
valve_tex plane (Standard t) =
    option_map (λ axes. Valve (record { axis = axes; off = t.off; rotation = t.rotation; scale = t.scale; surface = t.surface })) (axes_of plane (Standard t))

abbrev pub to_valve : Face → Option Face
to_valve f = option_map (λ tex. record f { tex = tex }) (valve_tex f.plane f.tex)

-- Coordinates. -------------------------------------------------------------------------------------------------------------------------

abbrev pub off_of : Tex → List ℤ
off_of (Standard t) = t.off
off_of (Valve t) = t.off

abbrev pub scales_of : Tex → List ℤ
scales_of (Standard t) = t.scale
scales_of (Valve t) = t.scale

-- (x . U) / (w * s) + o / unit
abbrev pub coordinate_along : (offset scale : ℤ) → (axis : Vector) → Homogeneous → Fraction
coordinate_along offset scale axis p =
    let s = p.weight *ℤ scale_of scale in
    fraction (dot p.vector axis *ℤ pos offset_unit +ℤ offset *ℤ s) (s *ℤ pos offset_unit)

-- Along axis k of a face.
abbrev pub coordinate : Tex → List (List ℤ) → Homogeneous → ℕ → Fraction
coordinate tex axes p k = coordinate_along (count_at (off_of tex) k) (count_at (scales_of tex) k) (axis_at axes k) p

-- The coordinates u and v of a point on a face, where the face has axes.
abbrev pub coordinates : Face → Homogeneous → Option (List Fraction)
coordinates f p = option_map (λ axes. coordinate f.tex axes p 0 ∷ coordinate f.tex axes p 1 ∷ []) (axes_of f.plane f.tex)

-- Plain fields: offsets and rotation 0, scales 1, no surface; in a Valve map the base axes of the plane.
abbrev pub plain_tex : Format → ThreePoints → Tex
plain_tex StandardFormat plane =
    Standard (record { off = pos 0 ∷ pos 0 ∷ []; rotation = pos 0; scale = pos axis_unit ∷ pos axis_unit ∷ []; surface = None })
plain_tex ValveFormat plane = Valve (record {
  axis = in_units (base_axes_of_plane plane);
  off = pos 0 ∷ pos 0 ∷ [];
  rotation = pos 0;
  scale = pos axis_unit ∷ pos axis_unit ∷ [];
  surface = None;
})
