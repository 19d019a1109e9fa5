-- Points of a face that is carried with lock keep their texture coordinates.
use Rattle.std.proofs.Common.{◌≡◌, [], ◌∷◌, ap, sym, ◌∙◌, true, ℤ, pos, ◌+ℤ◌, ◌-ℤ◌, ◌*ℤ◌, Some}
use Rattle.algebra.specs.Space.{Vector, Homogeneous, dot, scale}
use Rattle.algebra.proofs.Expr.{read}
use Rattle.algebra.proofs.Ring.{ring}
use Rattle.algebra.proofs.Orders.{eq_by}
use Rattle.algebra.proofs.Identities.{dot-plus_left, dot-scale_left}
use Rattle.orient48.specs.Laws.{IsTurn}
use Rattle.orient48.specs.Motions.{Motion, turned, moved_plane, moved_at}
use Rattle.orient48.proofs.Signs.{dot_turned}
use Rattle.uv_lock.specs.declared.face.Face.{Face}
use Rattle.uv_lock.specs.declared.texture.Tex.{Tex}
use Rattle.uv_lock.specs.declared.texture.Tex.TheVariants.{Valve}
use Rattle.uv_lock.specs.declared.texture.ValveTex.{ValveTex}
use Rattle.uv_lock.specs.Carry.{count_at, axis_at, scale_of, kept_product, turned_axes, carried_tex, carry}
use Rattle.uv_lock.specs.Coordinates.{coordinate_along, coordinates}
use Rattle.uv_lock.specs.Fractions.{fraction}
use Rattle.uv_lock.specs.Units.{offset_unit}
use Rattle.uv_lock.proofs.Locks.{turned_at}
use Rattle.lock_laws.proofs.Steps.{mapped, Locked, locked}

-- how far a moved point is along the turned axis
along_moved : (r : Motion) (axis : Vector) (p : Homogeneous) → IsTurn r.matrix → dot (moved_at r p).vector (turned r.matrix axis) ≡ dot p.vector axis +ℤ p.weight *ℤ dot r.shift (turned r.matrix axis)
along_moved r axis p t =
    dot-plus_left (turned r.matrix p.vector) (scale p.weight r.shift) (turned r.matrix axis)
    ∙ (λ i. dot_turned r.matrix p.vector axis t i +ℤ dot-scale_left p.weight r.shift (turned r.matrix axis) i)

kept_plain : (x w e unit s o u : ℤ) → u *ℤ s ≡ o *ℤ s -ℤ unit *ℤ e → (x +ℤ w *ℤ e) *ℤ unit +ℤ u *ℤ (w *ℤ s) ≡ x *ℤ unit +ℤ o *ℤ (w *ℤ s)
kept_plain x w e unit s o u h = eq_by w h (ring (x ∷ w ∷ e ∷ unit ∷ s ∷ o ∷ u ∷ []) (search read depth 20) tt)

along_kept : (r : Motion) (o s u : ℤ) (axis next : Vector) (p : Homogeneous) → IsTurn r.matrix → next ≡ turned r.matrix axis →
    u *ℤ scale_of s ≡ kept_product o s (turned r.matrix axis) r.shift → coordinate_along u s next (moved_at r p) ≡ coordinate_along o s axis p
along_kept r o s u axis next p t n h =
    ap (λ v. coordinate_along u s v (moved_at r p)) n
    ∙ ap (λ top. fraction top (p.weight *ℤ scale_of s *ℤ pos offset_unit))
    (ap (λ d. d *ℤ pos offset_unit +ℤ u *ℤ (p.weight *ℤ scale_of s)) (along_moved r axis p t)
    ∙ kept_plain (dot p.vector axis) p.weight (dot r.shift (turned r.matrix axis)) (pos offset_unit) (scale_of s) o u h)

kept_at : (r : Motion) (f : Face) (t : ValveTex) (y : Tex) (p : Homogeneous) → IsTurn r.matrix → Locked r t y →
    coordinates (record f { plane = moved_plane r f.plane; tex = y }) (moved_at r p) ≡ coordinates (record f { tex = Valve t }) p
kept_at r f t y p turn l =
    ap (λ x. coordinates (record f { plane = moved_plane r f.plane; tex = x }) (moved_at r p)) (sym l.is)
    ∙ (λ i. Some (
    along_kept r (count_at t.off 0) (count_at t.scale 0) l.u (axis_at t.axis 0) (axis_at (turned_axes r t.axis) 0) p turn (turned_at r.matrix t.axis 0) l.u_product i
    ∷ along_kept r (count_at t.off 1) (count_at t.scale 1) l.v (axis_at t.axis 1) (axis_at (turned_axes r t.axis) 1) p turn (turned_at r.matrix t.axis 1) l.v_product i
    ∷ []))

pub coordinates_kept : (r : Motion) (f g : Face) (t : ValveTex) (p : Homogeneous) → IsTurn r.matrix → f.tex ≡ Valve t → carry true r f ≡ Some g → coordinates g (moved_at r p) ≡ coordinates f p
coordinates_kept r f g t p turn v e =
    let q = mapped (λ tex. record f { plane = moved_plane r f.plane; tex = tex }) (carried_tex true r f.tex) g e in
    ap (λ k. coordinates k (moved_at r p)) (sym q.2)
    ∙ kept_at r f t q.0 p turn (locked r t q.0 (ap (carried_tex true r) (sym v) ∙ q.1))
    ∙ ap (λ x. coordinates (record f { tex = x }) p) (sym v)
