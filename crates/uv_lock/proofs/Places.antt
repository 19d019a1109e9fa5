-- The coordinates of points on a face, by its fields in the Valve format.
use Rattle.std.proofs.Common.{◌≡◌, List, [], ◌∷◌, Option, Some, None, option_map, ap, ℤ}
use Rattle.algebra.specs.Space.{Homogeneous}
use Rattle.exact_geom.specs.Planes.{ThreePoints}
use Rattle.uv_lock.specs.declared.texture.StandardTex.{StandardTex}
use Rattle.uv_lock.specs.declared.texture.Tex.{Tex}
use Rattle.uv_lock.specs.declared.texture.Tex.TheVariants.{Standard, Valve}
use Rattle.uv_lock.specs.declared.texture.ValveTex.{ValveTex}
use Rattle.uv_lock.specs.Carry.{count_at, axis_at}
use Rattle.uv_lock.specs.Coordinates.{axes_of, coordinate, coordinate_along, standard_axes, valve_tex}
use Rattle.uv_lock.specs.Fractions.{Fraction}
use Rattle.uv_lock.proofs.Options.{no_some, of_some}

abbrev pub places : ValveTex → Homogeneous → List Fraction
places t p = coordinate_along (count_at t.off 0) (count_at t.scale 0) (axis_at t.axis 0) p ∷ coordinate_along (count_at t.off 1) (count_at t.scale 1) (axis_at t.axis 1) p ∷ []

-- the fields of a Valve face
abbrev fields : ValveTex → Tex → ValveTex
fields other (Standard t) = other
fields other (Valve t) = t

standard_places : (s : StandardTex) (t : ValveTex) (p : Homogeneous) (o : Option (List (List ℤ))) →
    option_map (λ axes. Valve (record { axis = axes; off = s.off; rotation = s.rotation; scale = s.scale; surface = s.surface })) o ≡ Some (Valve t) →
    option_map (λ axes. coordinate (Standard s) axes p 0 ∷ coordinate (Standard s) axes p 1 ∷ []) o ≡ Some (places t p)
standard_places s t p None e = no_some e
standard_places s t p (Some axes) e = ap (λ x. Some (places (fields t x) p)) (of_some e)

pub by_fields : (plane : ThreePoints) (x : Tex) (t : ValveTex) (p : Homogeneous) → valve_tex plane x ≡ Some (Valve t) →
    option_map (λ axes. coordinate x axes p 0 ∷ coordinate x axes p 1 ∷ []) (axes_of plane x) ≡ Some (places t p)
by_fields plane (Valve s) t p e = ap (λ x. Some (places (fields t x) p)) (of_some e)
by_fields plane (Standard s) t p e = standard_places s t p (standard_axes plane s.rotation) e
