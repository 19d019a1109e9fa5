-- What becomes of texture fields, by the offsets that were looked for one after another.
use Rattle.std.proofs.Common.{◌<◌, zero, suc, length, get_or, subst, ◌≡◌, ◌∙◌, List, [], ◌∷◌, true, cond, Result, Err, Some, None, option_map, is_some, IfErr, sym, ap, refl, ℕ, ℤ}
use Rattle.std.specs.Prelude.{option_and_then}
use Rattle.std.specs.Result.{IsErrAnd}
use Rattle.std.proofs.lemmas.Result.{err_from_is_err_and}
use Rattle.algebra.specs.Space.{Vector}
use Rattle.exact_geom.specs.Planes.{parts}
use Rattle.orient48.specs.Kept.{vector_in}
use Rattle.orient48.specs.Motions.{Matrix, Motion, turned}
use Rattle.orient48.proofs.Following.{turned_none}
use Rattle.uv_lock.specs.declared.texture.Tex.TheVariants.{Valve}
use Rattle.uv_lock.specs.declared.texture.ValveTex.{ValveTex}
use Rattle.uv_lock.specs.Carry.{count_at, axis_vector, axis_at, kept_offset, exact_offset, locked_offset, lost_offset, lost_offset_at, turned_by, turned_axes, carried_tex}
use Rattle.uv_lock.specs.Fractions.{Fraction}
use Rattle.uv_lock.proofs.Sums.{read_at}

-- an error that is handed on
pub passed_on : {T E : Type 0} (P : E → Type 0) (r : Result T E) (why : E) → IsErrAnd r (λ y. y ≡ why) → P why → IfErr r P
passed_on {E = E} P r why e h = let made : (y : E) × (r ≡ Err y) × (y ≡ why) = err_from_is_err_and r e in rw (made.1, made.2) h

-- ---- axes once turned
pub turned_at : (m : Matrix) (axes : List (List ℤ)) (k : ℕ) → axis_at (turned_by m axes) k ≡ turned m (axis_at axes k)
turned_at m [] k = sym (turned_none m)
turned_at m (a ∷ axes) zero = refl
turned_at m (a ∷ axes) (suc k) = turned_at m axes k

-- ---- offsets
-- what was looked for is the offset along axis k
pub record Along (r : Motion) (t : ValveTex) (k : ℕ) (o s : ℤ) (axis shift : Vector) : Type 0 where
  pub kept : kept_offset o s axis shift ≡ locked_offset r t k
  pub exact : exact_offset o s axis shift ≡ lost_offset_at r t k

pub along : (r : Motion) (t : ValveTex) (k : ℕ) (axes : List (List ℤ)) (m : Matrix) (shift : List ℤ) (o s : ℤ) → length t.off ≡ 2 → length t.scale ≡ 2 → k < 2 →
    o ≡ get_or t.off k o → s ≡ get_or t.scale k s → axes ≡ turned_by m t.axis → m ≡ r.matrix → shift ≡ parts r.shift →
    Along r t k (get_or t.off k o) (get_or t.scale k s) (axis_at axes k) (vector_in shift)
along r t k axes m shift o s offs scales h e f g n l =
    let a = read_at t.off k o (subst (λ n. k < n) (sym offs) h) e in
    let b = read_at t.scale k s (subst (λ n. k < n) (sym scales) h) f in
    let c = ap (λ l. axis_at l k) (g ∙ ap (λ m. turned_by m t.axis) n) ∙ turned_at r.matrix t.axis k in
    let d = ap vector_in l in
    record { kept = λ i. kept_offset (a i) (b i) (c i) (d i); exact = λ i. exact_offset (a i) (b i) (c i) (d i) }

pub first_lost : (r : Motion) (t : ValveTex) → locked_offset r t 0 ≡ None → carried_tex true r (Valve t) ≡ None
first_lost r t e = ap (λ o. option_and_then (λ u. option_map (λ v. Valve (record t { axis = turned_axes r t.axis; off = u ∷ v ∷ [] })) (locked_offset r t 1)) o) e

pub second_lost : (r : Motion) (t : ValveTex) (u : ℤ) → locked_offset r t 0 ≡ Some u → locked_offset r t 1 ≡ None → carried_tex true r (Valve t) ≡ None
second_lost r t u e f =
    ap (λ o. option_and_then (λ u. option_map (λ v. Valve (record t { axis = turned_axes r t.axis; off = u ∷ v ∷ [] })) (locked_offset r t 1)) o) e
    ∙ ap (λ o. option_map (λ v. Valve (record t { axis = turned_axes r t.axis; off = u ∷ v ∷ [] })) o) f

pub both_kept : (r : Motion) (t : ValveTex) (u v : ℤ) → locked_offset r t 0 ≡ Some u → locked_offset r t 1 ≡ Some v →
    carried_tex true r (Valve t) ≡ Some (Valve (record t { axis = turned_axes r t.axis; off = u ∷ v ∷ [] }))
both_kept r t u v e f =
    ap (λ o. option_and_then (λ u. option_map (λ v. Valve (record t { axis = turned_axes r t.axis; off = u ∷ v ∷ [] })) (locked_offset r t 1)) o) e
    ∙ ap (λ o. option_map (λ v. Valve (record t { axis = turned_axes r t.axis; off = u ∷ v ∷ [] })) o) f

pub first_offset : (r : Motion) (t : ValveTex) (x : Fraction) → locked_offset r t 0 ≡ None → x ≡ lost_offset_at r t 0 → lost_offset r (Valve t) ≡ Some x
first_offset r t x e f =
    ap (λ o. cond (is_some o) (cond (is_some (locked_offset r t 1)) None (Some (lost_offset_at r t 1))) (Some (lost_offset_at r t 0))) e ∙ ap Some (sym f)

pub second_offset : (r : Motion) (t : ValveTex) (u : ℤ) (x : Fraction) → locked_offset r t 0 ≡ Some u → locked_offset r t 1 ≡ None → x ≡ lost_offset_at r t 1 → lost_offset r (Valve t) ≡ Some x
second_offset r t u x e f g =
    ap (λ o. cond (is_some o) (cond (is_some (locked_offset r t 1)) None (Some (lost_offset_at r t 1))) (Some (lost_offset_at r t 0))) e
    ∙ ap (λ o. cond (is_some o) None (Some (lost_offset_at r t 1))) f ∙ ap Some (sym g)
