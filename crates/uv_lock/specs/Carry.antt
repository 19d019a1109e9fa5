-- What a motion does to a face, and to the way its texture lies on it.
use Rattle.std.specs.Prelude.{ℕ, ◌*◌, Bool, true, false, cond, ◌&&◌, nat_lt, List, [], ◌∷◌, map, Option, None, Some, is_some, option_map, option_and_then, slice_index_or, ℤ, pos, ◌-ℤ◌, ◌*ℤ◌, unsigned_abs, int_div}
use Rattle.std.specs.Ordering.{int_eq}
use Rattle.algebra.specs.Space.{Vector, dot}
use Rattle.exact_geom.specs.Planes.{parts}
use Rattle.orient48.specs.Motions.{Matrix, Motion, turned, moved_plane}
use Rattle.uv_lock.specs.declared.face.Face.{Face}
use Rattle.uv_lock.specs.declared.texture.Tex.{Tex}
use Rattle.uv_lock.specs.declared.texture.Tex.TheVariants.{Standard, Valve}
use Rattle.uv_lock.specs.declared.texture.ValveTex.{ValveTex}
use Rattle.uv_lock.specs.Fractions.{Fraction, fraction}
use Rattle.uv_lock.specs.Units.{axis_unit, offset_unit}

-- Numbers of a texture. ----------------------------------------------------------------------------------------------------------------

abbrev pub count_at : List ℤ → ℕ → ℤ
count_at counts k = slice_index_or counts k (pos 0)

abbrev pub axis_vector : List ℤ → Vector
axis_vector axis = record { x = count_at axis 0; y = count_at axis 1; z = count_at axis 2 }

-- The axis k of a list of axes.
abbrev pub axis_at : List (List ℤ) → ℕ → Vector
axis_at axes k = axis_vector (slice_index_or axes k [])

-- A scale of 0 counts as 1.
abbrev pub scale_of : ℤ → ℤ
scale_of s = cond (int_eq s (pos 0)) (pos axis_unit) s

-- Offsets are below 1,000,000 in size.
abbrev pub offset_limit : ℕ
offset_limit = 1000000 * offset_unit

-- The whole k with k * d = n that is below the limit in size, if there is one.
abbrev pub exact_quotient : ℤ → ℤ → ℕ → Option ℤ
exact_quotient n d limit =
    let k = int_div n d in
    cond (int_eq (k *ℤ d) n && nat_lt (unsigned_abs k) limit) (Some k) None

-- Texture lock. ------------------------------------------------------------------------------------------------------------------------

-- The offset that keeps the coordinate of each point along an axis that was turned, once the points go by the shift: its count times that of the scale.
abbrev pub kept_product : (offset scale : ℤ) → (axis shift : Vector) → ℤ
kept_product offset scale axis shift = offset *ℤ scale_of scale -ℤ pos offset_unit *ℤ dot shift axis

-- The same as a count, where it has one.
abbrev pub kept_offset : (offset scale : ℤ) → (axis shift : Vector) → Option ℤ
kept_offset offset scale axis shift = exact_quotient (kept_product offset scale axis shift) (scale_of scale) offset_limit

-- The same as a fraction.
abbrev pub exact_offset : (offset scale : ℤ) → (axis shift : Vector) → Fraction
exact_offset offset scale axis shift = fraction (kept_product offset scale axis shift) (scale_of scale *ℤ pos offset_unit)

-- Along axis k of a texture, for a motion.
abbrev pub locked_product : Motion → ValveTex → ℕ → ℤ
locked_product r t k = kept_product (count_at t.off k) (count_at t.scale k) (turned r.matrix (axis_at t.axis k)) r.shift

abbrev pub locked_offset : Motion → ValveTex → ℕ → Option ℤ
locked_offset r t k = kept_offset (count_at t.off k) (count_at t.scale k) (turned r.matrix (axis_at t.axis k)) r.shift

abbrev pub lost_offset_at : Motion → ValveTex → ℕ → Fraction
lost_offset_at r t k = exact_offset (count_at t.off k) (count_at t.scale k) (turned r.matrix (axis_at t.axis k)) r.shift

-- Carrying. ----------------------------------------------------------------------------------------------------------------------------

abbrev pub turned_by : Matrix → List (List ℤ) → List (List ℤ)
turned_by m axes = map (λ axis. parts (turned m (axis_vector axis))) axes

abbrev pub turned_axes : Motion → List (List ℤ) → List (List ℤ)
turned_axes r axes = turned_by r.matrix axes

-- What carrying makes of texture fields; with lock nothing where no count of an offset keeps the coordinates.
abbrev pub carried_tex : Bool → Motion → Tex → Option Tex
carried_tex lock r (Standard t) = Some (Standard t)
carried_tex false r (Valve t) = Some (Valve (record t { axis = turned_axes r t.axis }))
carried_tex true r (Valve t) =
    option_and_then (λ u. option_map (λ v. Valve (record t { axis = turned_axes r t.axis; off = u ∷ v ∷ [] })) (locked_offset r t 1)) (locked_offset r t 0)

-- carry lock r f: the face f moved by r.
abbrev pub carry : Bool → Motion → Face → Option Face
carry lock r f = option_map (λ tex. record f { plane = moved_plane r f.plane; tex = tex }) (carried_tex lock r f.tex)

-- The exact value of the offset that has no count: that of the first axis, else of the second.
abbrev pub lost_offset : Motion → Tex → Option Fraction
lost_offset r (Standard t) = None
lost_offset r (Valve t) =
    cond (is_some (locked_offset r t 0)) (cond (is_some (locked_offset r t 1)) None (Some (lost_offset_at r t 1))) (Some (lost_offset_at r t 0))
