-- Faces that are carried with lock by one motion after another.
use Rattle.std.proofs.Common.{◌≡◌, List, [], ◌∷◌, ap, sym, ◌∙◌, refl, true, ℤ, pos, ◌+ℤ◌, ◌-ℤ◌, ◌*ℤ◌, Some, option_map}
use Rattle.std.specs.Prelude.{option_and_then}
use Rattle.algebra.specs.Space.{Vector, dot}
use Rattle.algebra.proofs.Expr.{read}
use Rattle.algebra.proofs.Ring.{ring}
use Rattle.algebra.proofs.Orders.{eq_by}
use Rattle.algebra.proofs.Identities.{dot-plus_left}
use Rattle.exact_geom.specs.Planes.{parts}
use Rattle.orient48.specs.Laws.{IsTurn}
use Rattle.orient48.specs.Motions.{Motion, turned, after, moved_plane}
use Rattle.orient48.proofs.Matrices.{turned_product}
use Rattle.orient48.proofs.Planes.{plane_after}
use Rattle.orient48.proofs.Signs.{dot_turned}
use Rattle.uv_lock.specs.declared.face.Face.{Face}
use Rattle.uv_lock.specs.declared.texture.Tex.{Tex}
use Rattle.uv_lock.specs.declared.texture.Tex.TheVariants.{Standard, Valve}
use Rattle.uv_lock.specs.declared.texture.ValveTex.{ValveTex}
use Rattle.uv_lock.specs.Carry.{count_at, axis_vector, axis_at, scale_of, exact_quotient, locked_product, locked_offset, offset_limit, turned_axes, carried_tex, carry}
use Rattle.uv_lock.specs.Units.{offset_unit}
use Rattle.uv_lock.proofs.Locks.{turned_at}
use Rattle.uv_lock.proofs.Options.{of_some}
use Rattle.lock_laws.proofs.Steps.{mapped, moved_tex, Locked, locked}

axes_after : (r s : Motion) (axes : List (List ℤ)) → turned_axes s (turned_axes r axes) ≡ turned_axes (after s r) axes
axes_after r s [] = refl
axes_after r s (a ∷ axes) = ap (λ v. parts v ∷ turned_axes s (turned_axes r axes)) (sym (turned_product s.matrix r.matrix (axis_vector a))) ∙ ap (λ l. parts (turned (after s r).matrix (axis_vector a)) ∷ l) (axes_after r s axes)

-- the product of an offset and its scale, once moved by r and then by s
lock_plain : (o k x y z : ℤ) → z ≡ y +ℤ x → o -ℤ k *ℤ y -ℤ k *ℤ x ≡ o -ℤ k *ℤ z
lock_plain o k x y z e = eq_by k e (ring (o ∷ k ∷ x ∷ y ∷ z ∷ []) (search read depth 20) tt)

-- dot products with the shift of both
dot_after : (r s : Motion) (axis : Vector) → IsTurn s.matrix → dot (after s r).shift (turned (after s r).matrix axis) ≡ dot r.shift (turned r.matrix axis) +ℤ dot s.shift (turned s.matrix (turned r.matrix axis))
dot_after r s axis t =
    ap (dot (after s r).shift) (turned_product s.matrix r.matrix axis) ∙ dot-plus_left (turned s.matrix r.shift) s.shift (turned s.matrix (turned r.matrix axis))
    ∙ ap (λ d. d +ℤ dot s.shift (turned s.matrix (turned r.matrix axis))) (dot_turned s.matrix r.shift (turned r.matrix axis) t)

lock_after : (r s : Motion) (o u : ℤ) (axis next : Vector) → IsTurn s.matrix → u ≡ o -ℤ pos offset_unit *ℤ dot r.shift (turned r.matrix axis) → next ≡ turned r.matrix axis →
    u -ℤ pos offset_unit *ℤ dot s.shift (turned s.matrix next) ≡ o -ℤ pos offset_unit *ℤ dot (after s r).shift (turned (after s r).matrix axis)
lock_after r s o u axis next t e n =
    ap (λ v. u -ℤ pos offset_unit *ℤ dot s.shift (turned s.matrix v)) n ∙ ap (λ u. u -ℤ pos offset_unit *ℤ dot s.shift (turned s.matrix (turned r.matrix axis))) e
    ∙ lock_plain o (pos offset_unit) (dot s.shift (turned s.matrix (turned r.matrix axis))) (dot r.shift (turned r.matrix axis)) (dot (after s r).shift (turned (after s r).matrix axis)) (dot_after r s axis t)

-- ---- texture fields
tex_after_valve : (r s : Motion) (t : ValveTex) (y : Tex) → IsTurn s.matrix → Locked r t y → carried_tex true s y ≡ carried_tex true (after s r) (Valve t)
tex_after_valve r s t y turn l =
    let n = moved_tex r t l.u l.v in
    let p = after s r in
    let e : locked_product s n 0 ≡ locked_product p t 0 = lock_after r s (count_at t.off 0 *ℤ scale_of (count_at t.scale 0)) (l.u *ℤ scale_of (count_at t.scale 0))
    (axis_at t.axis 0) (axis_at (turned_axes r t.axis) 0) turn l.u_product (turned_at r.matrix t.axis 0) in
    let f : locked_product s n 1 ≡ locked_product p t 1 = lock_after r s (count_at t.off 1 *ℤ scale_of (count_at t.scale 1)) (l.v *ℤ scale_of (count_at t.scale 1))
    (axis_at t.axis 1) (axis_at (turned_axes r t.axis) 1) turn l.v_product (turned_at r.matrix t.axis 1) in
    let g : locked_offset s n 0 ≡ locked_offset p t 0 = ap (λ k. exact_quotient k (scale_of (count_at t.scale 0)) offset_limit) e in
    let h : locked_offset s n 1 ≡ locked_offset p t 1 = ap (λ k. exact_quotient k (scale_of (count_at t.scale 1)) offset_limit) f in
    ap (carried_tex true s) (sym l.is)
    ∙ ap (λ o. option_and_then (λ u. option_map (λ v. Valve (moved_tex s n u v)) (locked_offset s n 1)) o) g
    ∙ ap (λ q. option_and_then (λ u. option_map (λ v. Valve (moved_tex s n u v)) q) (locked_offset p t 0)) h
    ∙ ap (λ axes. option_and_then (λ u. option_map (λ v. Valve (record t { axis = axes; off = u ∷ v ∷ [] })) (locked_offset p t 1)) (locked_offset p t 0)) (axes_after r s t.axis)

tex_after : (r s : Motion) (x y : Tex) → IsTurn s.matrix → carried_tex true r x ≡ Some y → carried_tex true s y ≡ carried_tex true (after s r) x
tex_after r s (Standard t) y turn e = ap (carried_tex true s) (sym (of_some e))
tex_after r s (Valve t) y turn e = tex_after_valve r s t y turn (locked r t y e)

-- ---- faces
pub carry_after : (r s : Motion) (f g : Face) → IsTurn r.matrix → IsTurn s.matrix → carry true r f ≡ Some g → carry true s g ≡ carry true (after s r) f
carry_after r s f g t u e =
    let p = mapped (λ tex. record f { plane = moved_plane r f.plane; tex = tex }) (carried_tex true r f.tex) g e in
    ap (carry true s) (sym p.2)
    ∙ ap (λ plane. option_map (λ tex. record f { plane = plane; tex = tex }) (carried_tex true s p.0)) (plane_after r s f.plane t u)
    ∙ ap (λ o. option_map (λ tex. record f { plane = moved_plane (after s r) f.plane; tex = tex }) o) (tex_after r s f.tex p.0 u p.1)
