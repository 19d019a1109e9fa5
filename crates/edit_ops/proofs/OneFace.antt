-- One face that a motion moves.
use Rattle.std.proofs.Common.{◌≡◌, ◌∷◌, [], Bool, true, false, cond, Option, None, Some, refl, ap, ◌∙◌, option_map}
use Rattle.std.specs.Prelude.{ℤ, unwrap_or, is_some, option_and_then}
use Rattle.map_model.specs.Faces.{Face, Tex, StandardFields, ValveFields}
use Rattle.map_model.specs.Motions.{Motion, moved_plane}
use Rattle.map_model.specs.Carry.{Fraction, carried_tex, turned_axes, locked_offset, lost_offset, lost_offset_at}
use Rattle.edit_ops.specs.Moving.{carried}

-- Textures. -----------------------------------------------------------------------------------------------------------------------------

some_of : {A : Type 0} (o : Option A) → is_some o ≡ true → (x : A) × (o ≡ Some x)
some_of None e = absurd (cc)
some_of (Some x) e = (x, refl)

both_there : (o p : Option ℤ) (y z : Fraction) → cond (is_some o) (cond (is_some p) None (Some y)) (Some z) ≡ None → (is_some o ≡ true) × (is_some p ≡ true)
both_there (Some a) (Some b) y z e = (refl, refl)
both_there (Some a) None y z e = absurd (cc)
both_there None p y z e = absurd (cc)

-- Without lock, or where no offset is lost, the fields are carried.
tex_there : (lock : Bool) (r : Motion) (t : Tex) → (lock ≡ true → lost_offset r t ≡ None) → (u : Tex) × (carried_tex lock r t ≡ Some u)
tex_there lock r (StandardFields t) h = (StandardFields t, refl)
tex_there false r (ValveFields t) h = (ValveFields (record t { axis = turned_axes r t.axis }), refl)
tex_there true r (ValveFields t) h =
    let k = both_there (locked_offset r t 0) (locked_offset r t 1) (lost_offset_at r t 1) (lost_offset_at r t 0) (h refl) in
    let x = some_of (locked_offset r t 0) k.0 in
    let y = some_of (locked_offset r t 1) k.1 in (
      ValveFields (record t { axis = turned_axes r t.axis; off = x.0 ∷ y.0 ∷ [] }),
      ap (option_and_then (λ u. option_map (λ v. ValveFields (record t { axis = turned_axes r t.axis; off = u ∷ v ∷ [] })) (locked_offset r t 1))) x.1
          ∙ ap (option_map (λ v. ValveFields (record t { axis = turned_axes r t.axis; off = x.0 ∷ v ∷ [] }))) y.1,
    )

-- Faces. --------------------------------------------------------------------------------------------------------------------------------

pub carried_is : (lock : Bool) (r : Motion) (f : Face) (u : Tex) → carried_tex lock r f.tex ≡ Some u → carried lock r f ≡ record f { plane = moved_plane r f.plane; tex = u }
carried_is lock r f u e = ap (λ o. unwrap_or (option_map (λ tex. record f { plane = moved_plane r f.plane; tex = tex }) o) f) e

pub carried_plane : (lock : Bool) (r : Motion) (f : Face) → (lock ≡ true → lost_offset r f.tex ≡ None) → (carried lock r f).plane ≡ moved_plane r f.plane
carried_plane lock r f h = let u = tex_there lock r f.tex h in ap (λ (g : Face). g.plane) (carried_is lock r f u.0 u.1)
