-- Texture fields that are carried with lock, step by step.
use Rattle.std.proofs.Common.{◌≡◌, [], ◌∷◌, refl, true, ℤ, ◌*ℤ◌, Option, Some, None, option_map}
use Rattle.std.specs.Prelude.{option_and_then}
use Rattle.orient48.specs.Motions.{Motion}
use Rattle.uv_lock.proofs.Options.{no_some, of_some}
use Rattle.uv_lock.specs.declared.texture.Tex.{Tex}
use Rattle.uv_lock.specs.declared.texture.Tex.TheVariants.{Valve}
use Rattle.uv_lock.specs.declared.texture.ValveTex.{ValveTex}
use Rattle.uv_lock.specs.Carry.{count_at, scale_of, locked_product, locked_offset, offset_limit, turned_axes, carried_tex}
use Rattle.lock_laws.proofs.Numbers.{quotient_is}

-- ---- options
pub mapped : {A B : Type 0} (f : A → B) (o : Option A) (y : B) → option_map f o ≡ Some y → (x : A) × (o ≡ Some x) × (f x ≡ y)
mapped f None y e = no_some e
mapped f (Some x) y e = (x, refl, of_some e)

and_thened : {A B : Type 0} (f : A → Option B) (o : Option A) (y : B) → option_and_then f o ≡ Some y → (x : A) × (o ≡ Some x) × (f x ≡ Some y)
and_thened f None y e = no_some e
and_thened f (Some x) y e = (x, refl, e)

-- ---- fields
abbrev pub moved_tex : Motion → ValveTex → ℤ → ℤ → ValveTex
moved_tex r t u v = record t { axis = turned_axes r t.axis; off = u ∷ v ∷ [] }

-- The fields are carried, with these offsets.
pub record Locked (r : Motion) (t : ValveTex) (y : Tex) : Type 0 where
  pub u : ℤ
  pub v : ℤ
  pub u_product : u *ℤ scale_of (count_at t.scale 0) ≡ locked_product r t 0
  pub v_product : v *ℤ scale_of (count_at t.scale 1) ≡ locked_product r t 1
  pub is : Valve (moved_tex r t u v) ≡ y

pub locked : (r : Motion) (t : ValveTex) (y : Tex) → carried_tex true r (Valve t) ≡ Some y → Locked r t y
locked r t y e =
    let p = and_thened (λ u. option_map (λ v. Valve (moved_tex r t u v)) (locked_offset r t 1)) (locked_offset r t 0) y e in
    let q = mapped (λ v. Valve (moved_tex r t p.0 v)) (locked_offset r t 1) y p.2 in
    record {
      u = p.0;
      v = q.0;
      u_product = (quotient_is (locked_product r t 0) (scale_of (count_at t.scale 0)) p.0 offset_limit p.1).0;
      v_product = (quotient_is (locked_product r t 1) (scale_of (count_at t.scale 1)) q.0 offset_limit q.1).0;
      is = q.2;
    }
