-- The way round a ring comes by its first place.
use Rattle.std.proofs.Common.{◌≡◌, ℕ, zero, suc, ◌+◌, ◌<◌, ◌≤◌, min, true, false, ◌&&◌, nat_le, List, [], length, get_or, refl, ap, sym, ◌∙◌, subst, arith, ◌⊎◌, inl, inr}
use Rattle.std.specs.List.{list_all}
use Rattle.std.proofs.Math.Nat.{min-le_left, min-le_right, min-eq_left, min-eq_right}
use Rattle.std.proofs.lemmas.Bool.{cases_eq, cases_lt, both_ways}
use Rattle.algebra.specs.Members.{◌∈◌}
use Rattle.map_model.specs.Tree.{among}
use Rattle.file_laws.specs.Build.{places_above, breaks_ring}
use Rattle.file_laws.proofs.Rings.{Climb, climb_both, above_climbed, climbed_above, on_ring, one_end, breaks_on_ring, first_breaks, later_breaks_not}

-- So many steps lead from p to q.
abbrev pub Steps : List ℕ → ℕ → ℕ → ℕ → Type 0
Steps ps j p q = Climb (λ y. get_or ps y 0) j p q

none_above : (ps : List ℕ) (k : ℕ) → places_above ps k 0 ≡ []
none_above ps zero = refl
none_above ps (suc k) = refl

pub world_breaks_none : (ps : List ℕ) → breaks_ring ps 0 ≡ false
world_breaks_none ps = ap (λ l. among 0 l && list_all (nat_le 0) l) (none_above ps (length ps))

module _ (ps : List ℕ) where
  pub one_more : (j p q : ℕ) → Steps ps j p q → (q ≡ 0 → ⊥) → Steps ps (suc j) p (get_or ps q 0)
  one_more j p q c some = subst (λ (n : ℕ). Steps ps n p (get_or ps q 0)) (let e : j + 1 ≡ suc j = omega arith in e) (climb_both (λ y. get_or ps y 0) j 1 p q (get_or ps q 0) c (some, refl))

  -- A ring is one from each of its places.
  pub turned : (d t p q : ℕ) → Steps ps (suc d) p p → Steps ps t p q → Steps ps (suc d) q q
  turned d zero p q ring c = subst (λ (x : ℕ). Steps ps (suc d) x x) c ring
  turned d (suc t) p q ring c = turned d t (get_or ps p 0) q (one_more d (get_or ps p 0) p ring.1 ring.0) c.1

  -- What is reached from a ring leads back.
  pub back : (d t p q : ℕ) → Steps ps (suc d) p p → Steps ps t p q → (k : ℕ) × Steps ps k q p
  back d zero p q ring c = (0, sym c)
  back d (suc t) p q ring c =
      let r = back d t (get_or ps p 0) q (one_more d (get_or ps p 0) p ring.1 ring.0) c.1 in
      (r.0 + d, climb_both (λ y. get_or ps y 0) r.0 d q (get_or ps p 0) p r.1 ring.1)

  pub not_world : (d t p q : ℕ) → Steps ps (suc d) p p → Steps ps t p q → q ≡ 0 → ⊥
  not_world d t p q ring c e = (turned d t p q ring c).0 e

  -- All that is reached from a ring is reached in one turn.
  pub within_turn : (d t p q : ℕ) → Steps ps (suc d) p p → Steps ps t p q → (i : ℕ) × (suc i ≤ suc d) × Steps ps (suc i) p q
  within_turn d t p q ring c = climbed_above ps (suc d) p q (on_ring ps t d t p q (let w : t ≤ t = omega arith in w) ring c)

  not_below : (p l t : ℕ) → breaks_ring ps p ≡ true → Steps ps t p l → p ≤ l
  not_below p l t h c = elim (cases_lt l p) [
    | inl lt ↦ absurd (both_ways (breaks_ring ps p) (below lt) h)
    | inr le ↦ le
  ]
    where
      below : l < p → breaks_ring ps p ≡ false
      below lt =
          let r = breaks_on_ring ps p h in
          let few = r.1 in
          let i = within_turn r.0 t p l r.2 c in
          let fewer = i.1 in
          later_breaks_not ps p l i.0 (omega arith) i.2 lt

  -- One place of a ring breaks it.
  pub same_first : (p l t : ℕ) → breaks_ring ps p ≡ true → breaks_ring ps l ≡ true → Steps ps t p l → p ≡ l
  same_first p l t hp hl c =
      let r = breaks_on_ring ps p hp in
      let k = back r.0 t p l r.2 c in
      let a = not_below p l t hp c in
      let b = not_below l p k.0 hl k.1 in
      omega arith

  -- So many steps of the way round a ring are gone.
  pub record Round (place first above steps : ℕ) : Type 0 where
    pub within : above < length ps
    pub first_within : first < length ps
    pub climbs : Steps ps steps place above
    pub not_yet : (j : ℕ) → 0 < j → j ≤ steps → Steps ps j place place → ⊥
    pub least : (j x : ℕ) → j ≤ steps → Steps ps j place x → first ≤ x
    pub reached : (j : ℕ) × Steps ps j place first

  module _ (place : ℕ) (ring : place ∈ places_above ps (length ps) place) where
    pub begins : place < length ps → Round place place place 0
    begins w = record {
      within = w;
      first_within = w;
      climbs = refl;
      not_yet = λ j p v c. absurd (omega arith);
      least = λ j x v c. at_start j x v c;
      reached = (0, refl);
    }
      where
        at_start : (j x : ℕ) → j ≤ 0 → Steps ps j place x → place ≤ x
        at_start zero x v c = omega arith
        at_start (suc j) x v c = absurd (omega arith)

    module _ (first above steps : ℕ) (now : Round place first above steps) where
      next : Steps ps (suc steps) place (get_or ps above 0)
      next = let r = climbed_above ps (length ps) place place ring in one_more steps place above now.climbs (not_world r.0 steps place above r.2 now.climbs)

      last_or_earlier : (j x : ℕ) → j ≤ suc steps → Steps ps j place x → (x ≡ get_or ps above 0) ⊎ (j ≤ steps)
      last_or_earlier j x v c = elim (cases_eq j (suc steps)) [
        | inl e ↦ inl (one_end ps (λ y. get_or ps y 0) (suc steps) place x (get_or ps above 0) (subst (λ (n : ℕ). Steps ps n place x) e c) next)
        | inr n ↦ inr (let w : j ≤ steps = omega arith in w)
      ]

      first_or_next : (least : ℕ) → get_or ps above 0 < length ps → (get_or ps above 0 ≡ place → ⊥) → least ≤ first → least ≤ get_or ps above 0 → (least ≡ first) ⊎ (least ≡ get_or ps above 0) →
          Round place least (get_or ps above 0) (steps + 1)
      first_or_next least w other below_first below_next is = subst (λ (n : ℕ). Round place least (get_or ps above 0) n) (let e : suc steps ≡ steps + 1 = omega arith in e) (record {
        within = w;
        first_within = (let v = now.first_within in omega arith);
        climbs = next;
        not_yet = λ j p v c. no_return j p c (last_or_earlier j place v c);
        least = λ j x v c. at_most j x c (last_or_earlier j x v c);
        reached = elim is [
          | inl e ↦ (now.reached.0, subst (λ (x : ℕ). Steps ps now.reached.0 place x) (sym e) now.reached.1)
          | inr e ↦ (suc steps, subst (λ (x : ℕ). Steps ps (suc steps) place x) (sym e) next)
        ];
      })
        where
          no_return : (j : ℕ) → 0 < j → Steps ps j place place → (place ≡ get_or ps above 0) ⊎ (j ≤ steps) → ⊥
          no_return j p c (inl e) = other (sym e)
          no_return j p c (inr v) = now.not_yet j p v c

          at_most : (j x : ℕ) → Steps ps j place x → (x ≡ get_or ps above 0) ⊎ (j ≤ steps) → least ≤ x
          at_most j x c (inl e) = omega arith
          at_most j x c (inr v) = let l = now.least j x v c in omega arith

      pub goes_on : (least : ℕ) → get_or ps above 0 < length ps → (get_or ps above 0 ≡ place → ⊥) → least ≡ min first (get_or ps above 0) → Round place least (get_or ps above 0) (steps + 1)
      goes_on least w other is =
          first_or_next least w other (subst (λ (x : ℕ). x ≤ first) (sym is) (min-le_left first (get_or ps above 0))) (subst (λ (x : ℕ). x ≤ get_or ps above 0) (sym is) (min-le_right first (get_or ps above 0))) (one_of is)
        where
          one_of : least ≡ min first (get_or ps above 0) → (least ≡ first) ⊎ (least ≡ get_or ps above 0)
          one_of is = elim (cases_lt first (get_or ps above 0)) [
            | inl lt ↦ inl (is ∙ min-eq_left (let le : first ≤ get_or ps above 0 = omega arith in le))
            | inr le ↦ inr (is ∙ min-eq_right le)
          ]

      module _ (few : suc steps ≤ length ps) (closes : get_or ps above 0 ≡ place) where
        turn : Steps ps (suc steps) place place
        turn = subst (λ (x : ℕ). Steps ps (suc steps) place x) closes next

        pub on_the_ring : first ∈ places_above ps (length ps) place
        on_the_ring =
            let r = within_turn steps now.reached.0 place first turn now.reached.1 in
            let v = r.1 in
            above_climbed ps (length ps) r.0 place first r.2 (omega arith)

        pub first_found : breaks_ring ps first ≡ true
        first_found = first_breaks ps first steps few (turned steps now.reached.0 place first turn now.reached.1) (λ j q c. at_least q
            (within_turn steps (now.reached.0 + j) place q turn (climb_both (λ y. get_or ps y 0) now.reached.0 j place first q now.reached.1 c)))
          where
            at_least : (q : ℕ) → (i : ℕ) × (suc i ≤ suc steps) × Steps ps (suc i) place q → first ≤ q
            at_least q (i, v, c) = elim (last_or_earlier (suc i) q v c) [
              | inl e ↦ at_place (e ∙ closes)
              | inr w ↦ now.least (suc i) q w c
            ]
              where
                at_place : q ≡ place → first ≤ q
                at_place e = let l = now.least 0 place (omega arith) refl in omega arith

      pub closes_in_time : steps ≡ length ps → ⊥
      closes_in_time all =
          let r = climbed_above ps (length ps) place place ring in
          let few = r.1 in
          now.not_yet (suc r.0) (omega arith) (omega arith) r.2
