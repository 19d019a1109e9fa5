-- A texture whose numbers are in range has two axes of three parts each, and two offsets below the limit.
use Rattle.std.proofs.Common.{◌≡◌, List, [], ◌∷◌, length, Bool, true, ◌∙◌, ◌==◌, ◌&&◌, refl, ℤ, ◌<◌, unsigned_abs, arith, eqb-true}
use Rattle.std.specs.List.{list_all}
use Rattle.std.proofs.lemmas.Bool.{and_parts, ltb-true}
use Rattle.algebra.specs.Space.{Vector}
use Rattle.exact_geom.specs.Planes.{parts}
use Rattle.map_model.specs.Faces.{Tex, StandardFields, ValveFields, axis_unit, offset_unit}
use Rattle.map_model.specs.Motions.{vector_at}
use Rattle.map_model.specs.Shape.{is_below_million, are_below_million, is_tex_in_range}
use Rattle.uv_lock.specs.Carry.{offset_limit}
use Rattle.lock_laws.specs.Laws.{IsInLimits}

three_parts : (l : List ℤ) → (length l == 3) ≡ true → (v : Vector) × (l ≡ parts v)
three_parts [] e = absurd (cc)
three_parts (a ∷ []) e = absurd (omega (arith, eqb-true (length (a ∷ [])) 3 e))
three_parts (a ∷ b ∷ []) e = absurd (omega (arith, eqb-true (length (a ∷ b ∷ [])) 3 e))
three_parts (a ∷ b ∷ c ∷ []) e = (vector_at a b c, refl)
three_parts (a ∷ b ∷ c ∷ d ∷ l) e = absurd (omega (arith, eqb-true (length (a ∷ b ∷ c ∷ d ∷ l)) 3 e))

-- Two of a list of two, each of which passes.
two_pass : {A : Type 0} (t : A → Bool) (l : List A) → (length l == 2) ≡ true → list_all t l ≡ true → (a : A) × (b : A) × (l ≡ a ∷ b ∷ []) × (t a ≡ true) × (t b ≡ true)
two_pass t [] e f = absurd (cc)
two_pass t (a ∷ []) e f = absurd (omega (arith, eqb-true (length (a ∷ [])) 2 e))
two_pass t (a ∷ b ∷ []) e f = let p = and_parts (t a) (list_all t (b ∷ [])) f in (a, b, refl, p.0, (and_parts (t b) true p.1).0)
two_pass t (a ∷ b ∷ c ∷ l) e f = absurd (omega (arith, eqb-true (length (a ∷ b ∷ c ∷ l)) 2 e))

below : (z : ℤ) → is_below_million offset_unit z ≡ true → unsigned_abs z < offset_limit
below z e = ltb-true (unsigned_abs z) offset_limit e

pub in_limits : (t : Tex) → is_tex_in_range t ≡ true → IsInLimits t
in_limits (StandardFields t) e = tt
in_limits (ValveFields t) e =
    let p = and_parts (length t.axis == 2 && list_all (are_below_million 3 axis_unit) t.axis) _ e in
    let axes = and_parts (length t.axis == 2) (list_all (are_below_million 3 axis_unit) t.axis) p.0 in
    let offsets = and_parts (length t.off == 2) (list_all (is_below_million offset_unit) t.off) (and_parts (are_below_million 2 offset_unit t.off) _ p.1).0 in
    let x = two_pass (are_below_million 3 axis_unit) t.axis axes.0 axes.1 in
    let u = three_parts x.0 (and_parts (length x.0 == 3) _ x.3).0 in
    let v = three_parts x.1 (and_parts (length x.1 == 3) _ x.4).0 in
    let o = two_pass (is_below_million offset_unit) t.off offsets.0 offsets.1 in
    record {
      u_axis = u.0;
      v_axis = v.0;
      axes = x.2 ∙ (λ i. u.1 i ∷ v.1 i ∷ []);
      u = o.0;
      v = o.1;
      offsets = o.2;
      u_small = below o.0 o.3;
      v_small = below o.1 o.4;
    }
