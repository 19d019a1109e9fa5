-- Faces with plain fields, on any plane.
use Rattle.std.proofs.Common.{◌≡◌, ◌==◌, ◌&&◌, true, refl, ap, sym, subst, ◌∙◌, List, [], ◌∷◌, map, length, ℤ}
use Rattle.std.specs.Prelude.{unwrap_or}
use Rattle.std.specs.List.{list_all}
use Rattle.algebra.specs.Members.{◌∈◌, here, there, Every}
use Rattle.algebra.specs.Space.{Vector}
use Rattle.trim_laws.specs.Valid.{Valid}
use Rattle.exact_geom.specs.Planes.{ThreePoints, half_space, IsPlane}
use Rattle.uv_lock.specs.BaseAxes.{base_axes_of}
use Rattle.uv_lock.proofs.Quarters.{some_pair}
use Rattle.uv_lock.specs.declared.texture.Format.{Format}
use Rattle.uv_lock.specs.declared.texture.Format.TheVariants.{Standard, Valve}
use Rattle.map_text.specs.Fits.{is_format}
use Rattle.map_model.specs.Faces.{Face, axis_unit, format_of_tex}
use Rattle.map_model.specs.Shape.{FaceOk, FacesOk, half_spaces, are_below_million, is_tex_in_range}
use Rattle.map_model.specs.Carry.{plain_tex, in_units}
use Rattle.map_model.specs.Commands.{Settings}
use Rattle.map_model.specs.Rows.{current_material}
use Rattle.map_laws.specs.BoxCommand.{KeepsMaterial}

-- The axes of any normal are in range.
AreInRange : List (List ℤ) → Type 0
AreInRange axes = (length (in_units axes) == 2 && list_all (are_below_million 3 axis_unit) (in_units axes)) ≡ true

axes_in_range : (n : Vector) → (length (in_units (unwrap_or (base_axes_of n) [])) == 2 && list_all (are_below_million 3 axis_unit) (in_units (unwrap_or (base_axes_of n) []))) ≡ true
unfolding AreInRange
axes_in_range n =
    let p = some_pair AreInRange n refl refl refl in
    ap (λ o. length (in_units (unwrap_or o [])) == 2 && list_all (are_below_million 3 axis_unit) (in_units (unwrap_or o []))) p.are ∙ p.holds

tex_in_range : (format : Format) (t : ThreePoints) → is_tex_in_range (plain_tex format t) ≡ true
tex_in_range Standard t = refl
tex_in_range Valve t = ap (λ b. b && true) (axes_in_range (half_space t).normal)

tex_form : (format : Format) (t : ThreePoints) → is_format format (format_of_tex (plain_tex format t)) ≡ true
tex_form Standard t = refl
tex_form Valve t = refl

-- A face with plain fields in a map of the format.
abbrev pub plain_in : Settings → Format → ThreePoints → Face
plain_in s format t = record { plane = t; material = current_material s; tex = plain_tex format t }

pub plain_ok : (s : Settings) (format : Format) (t : ThreePoints) → KeepsMaterial s → IsPlane t → FaceOk format (plain_in s format t)
plain_ok s format t material plane = record { form = tex_form format t; plane = plane; material = material; numbers = tex_in_range format t }

pub plain_each : (s : Settings) (format : Format) (ts : List ThreePoints) → KeepsMaterial s → ((t : ThreePoints) → t ∈ ts → IsPlane t) → Every (FaceOk format) (map (plain_in s format) ts)
plain_each s format [] material planes f i = elim i [ ]
plain_each s format (t ∷ ts) material planes f here = plain_ok s format t material (planes t here)
plain_each s format (t ∷ ts) material planes f (there i) = plain_each s format ts material (λ u j. planes u (there j)) f i

plain_halves : (s : Settings) (format : Format) (ts : List ThreePoints) → half_spaces (map (plain_in s format) ts) ≡ map half_space ts
plain_halves s format [] = refl
plain_halves s format (t ∷ ts) = ap (λ l. half_space t ∷ l) (plain_halves s format ts)

-- Faces with plain fields on the planes of a brush.
pub plain_brush : (s : Settings) (format : Format) (ts : List ThreePoints) → KeepsMaterial s → ((t : ThreePoints) → t ∈ ts → IsPlane t) → Valid (map half_space ts) → FacesOk format (map (plain_in s format) ts)
plain_brush s format ts material planes valid = record { each = plain_each s format ts material planes; valid = subst Valid (sym (plain_halves s format ts)) valid }
