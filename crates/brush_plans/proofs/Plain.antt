-- Plain fields in the Valve format.
use Rattle.std.proofs.Common.{◌≡◌, List, [], ◌∷◌, None, Some, refl, ap, sym, ◌∙◌, ℤ, pos}
use Rattle.std.specs.Prelude.{unwrap_or}
use Rattle.algebra.specs.Space.{Vector}
use Rattle.exact_geom.specs.Planes.{ThreePoints, half_space}
use Rattle.uv_lock.specs.declared.face.Face.{Face}
use Rattle.uv_lock.specs.declared.texture.Format.{Format}
use Rattle.uv_lock.specs.declared.texture.Format.TheVariants.{Standard, Valve}
use Rattle.uv_lock.specs.declared.texture.Tex.{Tex}
use Rattle.uv_lock.specs.BaseAxes.{base_axes_of}
use Rattle.uv_lock.specs.Coordinates.{in_units, turned_base_axes, valve_tex, plain_tex}
use Rattle.uv_lock.proofs.Options.{of_some}
use Rattle.uv_lock.proofs.Quarters.{some_pair}

-- Base axes that aren't turned.
abbrev AreUnturned : List (List ℤ) → Type 0
AreUnturned axes = in_units (turned_base_axes 0 axes) ≡ in_units axes

unturned : (n : Vector) → in_units (turned_base_axes 0 (unwrap_or (base_axes_of n) [])) ≡ in_units (unwrap_or (base_axes_of n) [])
unturned n =
    let p = some_pair AreUnturned n refl refl refl in
    ap (λ o. in_units (turned_base_axes 0 (unwrap_or o []))) p.are ∙ p.holds ∙ sym (ap (λ o. in_units (unwrap_or o [])) p.are)

pub valve_plain : (plane : ThreePoints) → valve_tex plane (plain_tex Standard plane) ≡ Some (plain_tex Valve plane)
valve_plain plane = ap (λ axes. Some (Tex.Valve (record { axis = axes; off = pos 0 ∷ pos 0 ∷ []; rotation = pos 0; scale = pos 1000000000 ∷ pos 1000000000 ∷ []; surface = None })))
    (unturned (half_space plane).normal)

pub valve_of_plain : (plane : ThreePoints) (tex : Tex) → tex ≡ plain_tex Standard plane → valve_tex plane tex ≡ Some (plain_tex Valve plane)
valve_of_plain plane tex e = ap (valve_tex plane) e ∙ valve_plain plane

-- A plain Standard face in the Valve format.
pub written_out : (face : Face) (tex : Tex) (format : Format) → format ≡ Valve → face.tex ≡ plain_tex Standard face.plane → Some tex ≡ valve_tex face.plane face.tex →
    record face { tex = tex } ≡ record face { tex = plain_tex format face.plane }
written_out face tex format valve plain says =
    ap (λ t. record face { tex = t }) (of_some (says ∙ valve_of_plain face.plane face.tex plain) ∙ sym (ap (λ f. plain_tex f face.plane) valve))
