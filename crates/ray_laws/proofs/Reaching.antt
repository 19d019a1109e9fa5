-- A ray's hit is the least of the fractions that maps compute.
use Rattle.std.proofs.Common.{◌≡◌, ℕ, ◌*◌, ◌≤◌, Bool, true, List, ◌∷◌, map, Some, None, ℤ, pos, ◌*ℤ◌, ◌<ℤ◌, ◌≤ℤ◌, unsigned_abs, arith, sym, subst, ap, ◌∙◌, ◌⊎◌, inl, inr, ⊎_elim}
use Rattle.std.specs.Prelude.{filter, int_le}
use Rattle.std.specs.List.{list_all}
use Rattle.std.proofs.lemmas.Int.{ints}
use Rattle.algebra.specs.Members.{◌∈◌, here, there}
use Rattle.algebra.specs.Space.{Vector, HalfSpace, side, whole_point}
use Rattle.algebra.proofs.Orders.{by_order, by_sign}
use Rattle.trim_laws.specs.Solid.{IsIn}
use Rattle.ray_pick.specs.Rays.{Fraction as Share, point_at, IsOnRay, Reaches, Misses}
use Rattle.ray_pick.proofs.Crossings.{side_at}
use Rattle.map_model.specs.Carry.{Fraction}
use Rattle.map_model.specs.Rays.{on_ray, crossing, crosses_ahead, least, reach}
use Rattle.map_model.proofs.Members.{decides_most, in_filter, filter_in, in_map, map_in, all_decides}
use Rattle.ray_laws.specs.Laws.{of_share, ReachLaw}
use Rattle.ray_laws.proofs.LowestTerms.{IsPlain, same_fraction}
use Rattle.ray_laws.proofs.Before.{before, before_on_ray, before_earlier, fall, Crosses, IsInBefore, crossed_or_in}
use Rattle.ray_laws.proofs.Crossing.{tells_ahead, is_plain, crossed_ahead, crossed_at}
use Rattle.ray_laws.proofs.Least.{IsOrAfter, least_is, least_none}

abbrev share : Fraction → Share
share t = record { num = t.num; den = t.den }

module _ (F : List HalfSpace) (a b : Vector) where
  abbrev is_in : Fraction → Bool
  is_in t = list_all (λ f. int_le (side f (on_ray a b t)) (pos 0)) F

  abbrev start : Fraction
  start = record { num = pos 0; den = pos 1 }

  abbrev candidates : List Fraction
  candidates = start ∷ map (crossing a b) (filter (crosses_ahead a b) F)

  tells : (t : Fraction) → is_in t ≡ true → pos 0 <ℤ t.den → IsIn F (point_at a b (share t))
  tells t e h = record {
    weight = h;
    all = (all_decides (λ f. int_le (side f (on_ray a b t)) (pos 0)) (λ f. side f (on_ray a b t) ≤ℤ pos 0) F (λ f i. decides_most (side f (on_ray a b t)) (pos 0))).0 e;
  }

  told : (t : Fraction) → IsIn F (point_at a b (share t)) → is_in t ≡ true
  told t h = (all_decides (λ f. int_le (side f (on_ray a b t)) (pos 0)) (λ f. side f (on_ray a b t) ≤ℤ pos 0) F (λ f i. decides_most (side f (on_ray a b t)) (pos 0))).1 h.all

  -- All candidates are on the ray, and in lowest terms.
  start_plain : IsPlain start
  start_plain = record { nonneg = omega (arith, ints); positive = omega (arith, ints); reduced = λ k x y e f. grind arith }

  candidate_plain : (t : Fraction) → t ∈ candidates → IsPlain t
  candidate_plain t here = start_plain
  candidate_plain t (there i) =
      let k = in_map (crossing a b) (filter (crosses_ahead a b) F) t i in
      let l = in_filter (crosses_ahead a b) F k.0 k.1 in
      subst IsPlain (sym k.2) (is_plain (side k.0 (whole_point a)) (fall a b (share start) k.0) (tells_ahead (side k.0 (whole_point a)) (fall a b (share start) k.0) l.1))

  plain_on_ray : (t : Fraction) → IsPlain t → IsOnRay (share t)
  plain_on_ray t h = record { nonneg = h.nonneg; positive = h.positive }

  pub misses : Misses F a b → reach F a b ≡ None
  misses h = least_none (filter is_in candidates) (λ t i.
      let k = in_filter is_in candidates t i in
      let p = candidate_plain t k.0 in
      h (share t) (plain_on_ray t p) (tells t k.1 p.positive))

  module _ (t : Fraction) (plain : IsPlain t) (reaches : Reaches F a b (share t)) where
    not_less : (s : Fraction) → s ∈ filter is_in candidates → IsOrAfter t s
    not_less s i =
        let k = in_filter is_in candidates s i in
        let p = candidate_plain s k.0 in
        by_order (t.num *ℤ s.den) (s.num *ℤ t.den) (λ l. inr l) (λ e. inl (sym (same_fraction t s plain p e)))
        (λ l. absurd (reaches.not_earlier (share s) (plain_on_ray s p) l (tells s k.1 p.positive)))

    begins : t.num ≡ pos 0 → t ≡ start
    begins e =
        let one : unsigned_abs t.den ≡ 1 = plain.reduced (unsigned_abs t.den) 0 1 (nothing (unsigned_abs t.den) ∙ sym (ap unsigned_abs e)) (once (unsigned_abs t.den)) in
        λ i. record { num = e i; den = positive_one t.den plain.positive one i }
      where
        nothing : (n : ℕ) → n * 0 ≡ 0
        nothing n = omega arith

        once : (n : ℕ) → n * 1 ≡ n
        once n = omega arith

        positive_one : (d : ℤ) → pos 0 <ℤ d → unsigned_abs d ≡ 1 → d ≡ pos 1
        positive_one d h e = omega (arith, ints)

    module _ (some : pos 0 <ℤ t.num) where
      is_crossing : Crosses a b (share t) F → t ∈ candidates
      is_crossing c =
          let s = side c.face (whole_point a) in
          let on = sym (side_at c.face a b (share t)) ∙ c.on in
          there (subst (λ u. u ∈ map (crossing a b) (filter (crosses_ahead a b) F)) (sym (crossed_at s (fall a b (share t) c.face) t plain some c.falls on))
          (map_in (crossing a b) (filter (crosses_ahead a b) F) c.face
          (filter_in (crosses_ahead a b) F c.face c.member (crossed_ahead s (fall a b (share t) c.face) t plain some c.falls on))))

      is_no_way_in : IsInBefore a b (share t) F → ⊥
      is_no_way_in k =
          let on = before_on_ray (share t) k.least some plain.positive in
          reaches.not_earlier (before (share t) k.least) on (before_earlier (share t) k.least plain.positive)
          (record { weight = on.positive; all = k.is_in k.least (itself k.least) })
        where
          itself : (n : ℕ) → n ≤ n
          itself n = omega arith

      later : t ∈ candidates
      later = ⊎_elim is_crossing (λ k. absurd (is_no_way_in k)) (crossed_or_in a b (share t) F reaches.is_in.all)

    is_candidate : t ∈ candidates
    is_candidate =
        by_sign t.num (λ l. absurd (below t.num l plain.nonneg)) (λ z. subst (λ u. u ∈ candidates) (sym (begins z)) here) later
      where
        below : (x : ℤ) → x <ℤ pos 0 → pos 0 ≤ℤ x → ⊥
        below x l h = omega (arith, ints)

    pub reached : reach F a b ≡ Some t
    reached = least_is t (filter is_in candidates) (filter_in is_in candidates t is_candidate (told t reaches.is_in)) not_less

pub reach_is : ReachLaw
reach_is F a b None h = misses F a b h
reach_is F a b (Some hit) h =
    reached F a b (of_share hit.at) (record { nonneg = h.ratio.on_ray.nonneg; positive = h.ratio.on_ray.positive; reduced = h.ratio.reduced }) h.reaches
