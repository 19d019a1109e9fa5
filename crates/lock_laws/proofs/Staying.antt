-- Faces that are carried by the motion that changes nothing, and by a way back.
use Rattle.std.proofs.Common.{◌≡◌, [], ◌∷◌, ap, sym, ◌∙◌, refl, ◌<◌, true, ℤ, pos, ◌-ℤ◌, ◌*ℤ◌, unsigned_abs, Some, option_map}
use Rattle.algebra.specs.Space.{Vector, dot}
use Rattle.algebra.proofs.Expr.{read}
use Rattle.algebra.proofs.Ring.{ring}
use Rattle.algebra.proofs.Orders.{eq_by}
use Rattle.algebra.proofs.Identities.{with_vector}
use Rattle.exact_geom.specs.Planes.{parts}
use Rattle.orient48.specs.Laws.{IsTurn}
use Rattle.orient48.specs.Motions.{Motion, turned, vector_at, stay, back}
use Rattle.orient48.proofs.Matrices.{turned_unturned, turn_back}
use Rattle.orient48.proofs.Following.{back_after}
use Rattle.orient48.proofs.Planes.{plane_stays}
use Rattle.uv_lock.specs.declared.face.Face.{Face}
use Rattle.uv_lock.specs.declared.texture.Tex.{Tex}
use Rattle.uv_lock.specs.declared.texture.Tex.TheVariants.{Standard, Valve}
use Rattle.uv_lock.specs.declared.texture.ValveTex.{ValveTex}
use Rattle.uv_lock.specs.Carry.{count_at, scale_of, kept_offset, kept_product, offset_limit, turned_axes, carried_tex, carry}
use Rattle.uv_lock.specs.Units.{offset_unit}
use Rattle.uv_lock.proofs.Locks.{both_kept}
use Rattle.uv_lock.proofs.Offsets.{quotient_there, scale_not_zero}
use Rattle.lock_laws.specs.Laws.{IsInLimits}
use Rattle.lock_laws.proofs.Carrying.{carry_after}

dot_none : (v : Vector) → dot (vector_at (pos 0) (pos 0) (pos 0)) v ≡ pos 0
unfolding dot
dot_none v = ring (with_vector v []) (search read depth 20) tt

less_none : (o k x : ℤ) → x ≡ pos 0 → o ≡ o -ℤ k *ℤ x
less_none o k x e = eq_by k e (ring (o ∷ k ∷ x ∷ []) (search read depth 20) tt)

offset_stays : (o s : ℤ) (axis : Vector) → unsigned_abs o < offset_limit → kept_offset o s (turned stay.matrix axis) stay.shift ≡ Some o
offset_stays o s axis l = quotient_there (kept_product o s (turned stay.matrix axis) stay.shift) (scale_of s) o offset_limit (scale_not_zero s)
    (less_none (o *ℤ scale_of s) (pos offset_unit) (dot stay.shift (turned stay.matrix axis)) (dot_none (turned stay.matrix axis))) l

axes_stay : (u v : Vector) → turned_axes stay (parts u ∷ parts v ∷ []) ≡ parts u ∷ parts v ∷ []
axes_stay u v = λ i. parts (turned_unturned u i) ∷ parts (turned_unturned v i) ∷ []

plain_stays : (t : ValveTex) (a b : Vector) (u v : ℤ) → unsigned_abs u < offset_limit → unsigned_abs v < offset_limit →
    carried_tex true stay (Valve (record t { axis = parts a ∷ parts b ∷ []; off = u ∷ v ∷ [] })) ≡ Some (Valve (record t { axis = parts a ∷ parts b ∷ []; off = u ∷ v ∷ [] }))
plain_stays t a b u v h k =
    let n = record t { axis = parts a ∷ parts b ∷ []; off = u ∷ v ∷ [] } in
    both_kept stay n u v (offset_stays u (count_at t.scale 0) a h) (offset_stays v (count_at t.scale 1) b k)
    ∙ ap (λ l. Some (Valve (record n { axis = l; off = u ∷ v ∷ [] }))) (axes_stay a b)

tex_stays : (x : Tex) → IsInLimits x → carried_tex true stay x ≡ Some x
tex_stays (Standard t) e = refl
tex_stays (Valve t) e =
    (λ i. carried_tex true stay (Valve (record t { axis = e.axes i; off = e.offsets i })))
    ∙ plain_stays t e.u_axis e.v_axis e.u e.v e.u_small e.v_small
    ∙ (λ i. Some (Valve (record t { axis = sym e.axes i; off = sym e.offsets i })))

carry_stays : (f : Face) → IsInLimits f.tex → carry true stay f ≡ Some f
carry_stays f e =
    ap (λ plane. option_map (λ tex. record f { plane = plane; tex = tex }) (carried_tex true stay f.tex)) (plane_stays f.plane)
    ∙ ap (λ o. option_map (λ tex. record f { tex = tex }) o) (tex_stays f.tex e)

pub carry_back : (r : Motion) (f g : Face) → IsTurn r.matrix → IsInLimits f.tex → carry true r f ≡ Some g → carry true (back r) g ≡ Some f
carry_back r f g t e h = carry_after r (back r) f g t (turn_back r.matrix t) h ∙ ap (λ m. carry true m f) (back_after r t) ∙ carry_stays f e
