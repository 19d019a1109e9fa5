-- Where the first of each ring goes to the world, each place leads to the world.
use Rattle.std.proofs.Common.{◌≡◌, ℕ, zero, suc, ◌+◌, ◌-◌, ◌<◌, ◌≤◌, Bool, true, false, cond, not, ◌==◌, ◌&&◌, nat_le, List, [], ◌∷◌, ◌++◌, map, length, get_or, refl, ap, sym, ◌∙◌, subst, arith, ◌⊎◌, inl, inr}
use Rattle.std.specs.List.{list_any, list_all}
use Rattle.std.proofs.lemmas.Bool.{cases_Bool, cases_eq, cases_lt, eq-eqb, eqb-true, and_from, and_parts, or_cases, le-leb, leb-true, both_ways, false_from_ne_true, cond-true, cond-false}
use Rattle.algebra.specs.Members.{◌∈◌, here, there}
use Rattle.algebra.proofs.Members.{member_at}
use Rattle.map_model.specs.Tree.{among}
use Rattle.file_laws.specs.Build.{places_above, breaks_ring}
use Rattle.file_laws.proofs.Lists.{Distinct, head_or_tail, member_or_not, any_from}
use Rattle.file_laws.proofs.Counts.{at_most}

-- q is reached from p by so many steps, and none of them is from the world.
abbrev pub Climb : (ℕ → ℕ) → ℕ → ℕ → ℕ → Type 0
Climb step zero p q = p ≡ q
Climb step (suc j) p q = (p ≡ 0 → ⊥) × Climb step j (step p) q

pub climb_both : (step : ℕ → ℕ) (i j p q r : ℕ) → Climb step i p q → Climb step j q r → Climb step (i + j) p r
climb_both step zero j p q r a b = subst (λ (k : ℕ). Climb step k p r) (sym (Rattle.std.proofs.Common.zero-add j)) (subst (λ (x : ℕ). Climb step j x r) (sym a) b)
climb_both step (suc i) j p q r a b = subst (λ (k : ℕ). Climb step k p r) (sym (Rattle.std.proofs.Common.suc-add i j)) (a.0, climb_both step i j (step p) q r a.1 b)

-- What is reached after more steps is reached from what is reached after fewer.
climb_rest : (step : ℕ → ℕ) (i j p q r : ℕ) → Climb step i p q → Climb step (i + j) p r → Climb step j q r
climb_rest step zero j p q r a b = subst (λ (x : ℕ). Climb step j x r) a (subst (λ (k : ℕ). Climb step k p r) (Rattle.std.proofs.Common.zero-add j) b)
climb_rest step (suc i) j p q r a b = climb_rest step i j (step p) q r a.1 (subst (λ (k : ℕ). Climb step k p r) (Rattle.std.proofs.Common.suc-add i j) b).1

module _ (ps : List ℕ) where
  abbrev pub step : ℕ → ℕ
  step p = get_or ps p 0

  -- ---- the places above are those that are climbed to

  pub above_climbed : (k j p q : ℕ) → Climb (λ x. get_or ps x 0) (suc j) p q → suc j ≤ k → q ∈ places_above ps k p
  above_climbed zero j p q c w = absurd (omega arith)
  above_climbed (suc k) j zero q c w = absurd (c.0 refl)
  above_climbed (suc k) zero (suc p) q c w = subst (λ (x : ℕ). x ∈ places_above ps (suc k) (suc p)) c.1 here
  above_climbed (suc k) (suc j) (suc p) q c w = there (above_climbed k j (get_or ps (suc p) 0) q c.1 (omega arith))

  pub climbed_above : (k p q : ℕ) → q ∈ places_above ps k p → (j : ℕ) × (suc j ≤ k) × Climb (λ x. get_or ps x 0) (suc j) p q
  climbed_above zero p q i = elim i [ ]
  climbed_above (suc k) zero q i = elim i [ ]
  climbed_above (suc k) (suc p) q i = elim (head_or_tail q (get_or ps (suc p) 0) (places_above ps k (get_or ps (suc p) 0)) i) [
    | inl e ↦ (0, omega arith, ((λ z. suc_is_no_zero z), sym e))
    | inr j ↦ let r = climbed_above k (get_or ps (suc p) 0) q j in (suc r.0, (let w = r.1 in omega arith), ((λ z. suc_is_no_zero z), r.2))
  ]
    where
      suc_is_no_zero : {a : ℕ} → suc a ≡ 0 → ⊥
      suc_is_no_zero e = omega arith

  -- ---- a ring has a place that breaks it

  -- On a ring of d + 1 steps all that is reached is among the places above within d + 1 steps.
  pub on_ring : (fuel d t x q : ℕ) → t ≤ fuel → Climb (λ y. get_or ps y 0) (suc d) x x → Climb (λ y. get_or ps y 0) t x q → q ∈ places_above ps (suc d) x
  on_ring fuel d zero x q w ring c = subst (λ (y : ℕ). y ∈ places_above ps (suc d) x) c (above_climbed (suc d) d x x ring (omega arith))
  on_ring zero d (suc t) x q w ring c = absurd (omega arith)
  on_ring (suc fuel) d (suc t) x q w ring c = elim (cases_lt d (suc t)) [
    | inl l ↦ elim (cases_eq d t) [
      | inl e ↦ above_climbed (suc d) t x q c (omega arith)
      | inr n ↦
          let more : (suc d) + (t - d) ≡ suc t = omega arith in
          on_ring fuel d (t - d) x q (omega arith) ring
          (climb_rest (λ y. get_or ps y 0) (suc d) (t - d) x x q ring (subst (λ (k : ℕ). Climb (λ y. get_or ps y 0) k x q) (sym more) c))
    ]
    | inr l ↦ above_climbed (suc d) t x q c (omega arith)
  ]

  -- The least of some numbers.
  record Least (xs : List ℕ) : Type 0 where
    least : ℕ
    among_them : least ∈ xs
    below : (y : ℕ) → y ∈ xs → least ≤ y

  least_of : (x : ℕ) (xs : List ℕ) → Least (x ∷ xs)
  least_of x [] = record { least = x; among_them = here; below = λ y i. one y (head_or_tail y x [] i) }
    where
      one : (y : ℕ) → (y ≡ x) ⊎ (y ∈ []) → x ≤ y
      one y (inl e) = omega arith
      one y (inr i) = elim i [ ]
  least_of x (z ∷ xs) =
      let r = least_of z xs in
      elim (cases_lt x r.least) [
        | inl l ↦ record { least = x; among_them = here; below = λ y i. first_least y r l (head_or_tail y x (z ∷ xs) i) }
        | inr l ↦ record { least = r.least; among_them = there r.among_them; below = λ y i. rest_least y r l (head_or_tail y x (z ∷ xs) i) }
      ]
    where
      first_least : (y : ℕ) (r : Least (z ∷ xs)) → x < r.least → (y ≡ x) ⊎ (y ∈ (z ∷ xs)) → x ≤ y
      first_least y r l (inl e) = omega arith
      first_least y r l (inr i) = let w = r.below y i in omega arith

      rest_least : (y : ℕ) (r : Least (z ∷ xs)) → r.least ≤ x → (y ≡ x) ⊎ (y ∈ (z ∷ xs)) → r.least ≤ y
      rest_least y r l (inl e) = omega arith
      rest_least y r l (inr i) = r.below y i

  least_of_some : (xs : List ℕ) (x : ℕ) → x ∈ xs → Least xs
  least_of_some [] x i = elim i [ ]
  least_of_some (y ∷ ys) x i = least_of y ys

  all_at_least : (c : ℕ) (xs : List ℕ) → ((y : ℕ) → y ∈ xs → c ≤ y) → list_all (nat_le c) xs ≡ true
  all_at_least c [] h = refl
  all_at_least c (x ∷ xs) h = and_from (nat_le c x) (list_all (nat_le c) xs) (le-leb c x (h x here)) (all_at_least c xs (λ y i. h y (there i)))

  -- Of a ring some place breaks it, and that place is reached.
  record Breaks (x : ℕ) (d : ℕ) : Type 0 where
    place : ℕ
    breaks : breaks_ring ps place ≡ true
    steps : ℕ
    few : suc steps ≤ suc d
    reached : Climb (λ y. get_or ps y 0) (suc steps) x place

  ring_breaks : (x d : ℕ) → suc d ≤ length ps → Climb (λ y. get_or ps y 0) (suc d) x x → Breaks x d
  ring_breaks x d w ring =
      let l = least_of_some (places_above ps (suc d) x) x (above_climbed (suc d) d x x ring (omega arith)) in
      let r = climbed_above (suc d) x l.least l.among_them in
      let few = r.1 in
      let total : (suc r.0) + (d - r.0) ≡ suc d = omega arith in
      let back : Climb (λ y. get_or ps y 0) (d - r.0) l.least x =
      climb_rest (λ y. get_or ps y 0) (suc r.0) (d - r.0) x l.least x r.2 (subst (λ (k : ℕ). Climb (λ y. get_or ps y 0) k x x) (sym total) ring) in
      let total_back : (d - r.0) + (suc r.0) ≡ suc d = omega arith in
      let round : Climb (λ y. get_or ps y 0) (suc d) l.least l.least =
      subst (λ (k : ℕ). Climb (λ y. get_or ps y 0) k l.least l.least) total_back (climb_both (λ y. get_or ps y 0) (d - r.0) (suc r.0) l.least x l.least back r.2) in
      record {
        place = l.least;
        breaks = and_from (among l.least (places_above ps (length ps) l.least)) (list_all (nat_le l.least) (places_above ps (length ps) l.least))
            (any_from (λ k. k == l.least) (places_above ps (length ps) l.least) l.least (above_climbed (length ps) d l.least l.least round w) (eq-eqb l.least l.least refl))
            (all_at_least l.least (places_above ps (length ps) l.least) (λ q i. at_least l r.0 r.2 q (climbed_above (length ps) l.least q i)));
        steps = r.0;
        few = few;
        reached = r.2;
      }
    where
      at_least : (l : Least (places_above ps (suc d) x)) (e : ℕ) → Climb (λ y. get_or ps y 0) (suc e) x l.least → (q : ℕ) →
          (j : ℕ) × (suc j ≤ length ps) × Climb (λ y. get_or ps y 0) (suc j) l.least q → l.least ≤ q
      at_least l e to_least q r =
          l.below q (on_ring (suc e + suc r.0) d (suc e + suc r.0) x q (omega arith) ring (climb_both (λ y. get_or ps y 0) (suc e) (suc r.0) x l.least q to_least r.2))

  -- ---- with the rings broken

  abbrev pub mended : ℕ → ℕ
  mended p = cond (breaks_ring ps p) 0 (get_or ps p 0)

  -- The places from p on, k steps further.
  walk : ℕ → ℕ → List ℕ
  walk zero p = p ∷ []
  walk (suc k) p = p ∷ walk k (mended p)

  walk_length : (k p : ℕ) → length (walk k p) ≡ suc k
  unfolding walk
  walk_length zero p = refl
  walk_length (suc k) p = ap suc (walk_length k (mended p))

  -- The world is reached, or no step within k is from it.
  reaches_or_not : (k p : ℕ) → ((j : ℕ) × Climb mended j p 0) ⊎ ((q : ℕ) → q ∈ walk k p → (q ≡ 0 → ⊥))
  unfolding walk
  reaches_or_not k zero = inl (0, refl)
  reaches_or_not zero (suc p) = inr (λ q i e. only q e (head_or_tail q (suc p) [] i))
    where
      only : (q : ℕ) → q ≡ 0 → (q ≡ suc p) ⊎ (q ∈ []) → ⊥
      only q e (inl f) = omega arith
      only q e (inr i) = elim i [ ]
  reaches_or_not (suc k) (suc p) = elim (reaches_or_not k (mended (suc p))) [
    | inl r ↦ inl (suc r.0, ((λ e. no_zero e), r.1))
    | inr h ↦ inr (λ q i e. more q e h (head_or_tail q (suc p) (walk k (mended (suc p))) i))
  ]
    where
      no_zero : suc p ≡ 0 → ⊥
      no_zero e = omega arith

      more : (q : ℕ) → q ≡ 0 → ((r : ℕ) → r ∈ walk k (mended (suc p)) → (r ≡ 0 → ⊥)) → (q ≡ suc p) ⊎ (q ∈ walk k (mended (suc p))) → ⊥
      more q e h (inl f) = omega arith
      more q e h (inr i) = h q i e

  -- A step that isn't to the world is one of the file's, from a place that breaks no ring.
  record PlainStep (p : ℕ) : Type 0 where
    same : mended p ≡ get_or ps p 0
    unbroken : breaks_ring ps p ≡ false

  plain_step : (p : ℕ) → (mended p ≡ 0 → ⊥) → PlainStep p
  plain_step p h = elim (cases_Bool (breaks_ring ps p)) [
    | inl e ↦ absurd (h (cond-true (breaks_ring ps p) 0 (get_or ps p 0) e))
    | inr e ↦ record { same = cond-false (breaks_ring ps p) 0 (get_or ps p 0) e; unbroken = e }
  ]

  -- Steps of a walk that never meets the world.
  record Walked (x q : ℕ) : Type 0 where
    steps : ℕ
    climbs : Climb (λ y. get_or ps y 0) steps x q
    unbroken : (j y : ℕ) → j < steps → Climb (λ z. get_or ps z 0) j x y → breaks_ring ps y ≡ false

  walked : (k p q : ℕ) → ((r : ℕ) → r ∈ walk k p → (r ≡ 0 → ⊥)) → q ∈ walk k p → (w : Walked p q) × (w.steps ≤ k)
  unfolding walk
  walked zero p q h i = elim (head_or_tail q p [] i) [
    | inl e ↦ (record { steps = 0; climbs = sym e; unbroken = λ j y l c. absurd (omega arith) }, omega arith)
    | inr j ↦ elim j [ ]
  ]
  walked (suc k) p q h i = elim (head_or_tail q p (walk k (mended p)) i) [
    | inl e ↦ (record { steps = 0; climbs = sym e; unbroken = λ j y l c. absurd (omega arith) }, omega arith)
    | inr j ↦
        let r = walked k (mended p) q (λ y t. h y (there t)) j in
        let s = plain_step p (h (mended p) (there (walk_begins k (mended p)))) in
        one_more r s
  ]
    where
      walk_begins : (k p : ℕ) → p ∈ walk k p
      walk_begins zero p = here
      walk_begins (suc k) p = here

      one_more : (w : Walked (mended p) q) × (w.steps ≤ k) → PlainStep p → (w : Walked p q) × (w.steps ≤ suc k)
      one_more r s = (
        record {
          steps = suc r.0.steps;
          climbs = (h p here, subst (λ (x : ℕ). Climb (λ y. get_or ps y 0) r.0.steps x q) s.same r.0.climbs);
          unbroken = all_unbroken r.0 s;
        },
        (let w = r.1 in omega arith),
      )
        where
          all_unbroken : (w : Walked (mended p) q) → PlainStep p → (j y : ℕ) → j < suc w.steps → Climb (λ z. get_or ps z 0) j p y → breaks_ring ps y ≡ false
          all_unbroken w s zero y l c = ap (breaks_ring ps) (sym c) ∙ s.unbroken
          all_unbroken w s (suc j) y l c = w.unbroken j y (omega arith) (subst (λ (x : ℕ). Climb (λ z. get_or ps z 0) j x y) (sym s.same) c.1)

  -- A list with a number twice: what stands behind its first place holds it again.
  data Twice : ℕ → ℕ → Type 0 where
    repeats : (k p : ℕ) → p ∈ walk k (mended p) → Twice (suc k) p
    further : (k p : ℕ) → Twice k (mended p) → Twice (suc k) p

  twice_or_distinct : (k p : ℕ) → Twice k p ⊎ Distinct (walk k p)
  unfolding walk
  twice_or_distinct zero p = inr ((λ i. elim i [ ]), tt)
  twice_or_distinct (suc k) p = elim (member_or_not p (walk k (mended p))) [
    | inl i ↦ inl (repeats k p i)
    | inr out ↦ elim (twice_or_distinct k (mended p)) [
      | inl t ↦ inl (further k p t)
      | inr d ↦ inr (out, d)
    ]
  ]

  pub one_end : (f : ℕ → ℕ) (j p q r : ℕ) → Climb f j p q → Climb f j p r → q ≡ r
  one_end f zero p q r a b = sym a ∙ b
  one_end f (suc j) p q r a b = one_end f j (f p) q r a.1 b.1

  no_ring_walked : (j q : ℕ) → suc j ≤ length ps → (q ≡ 0 → ⊥) → (w : Walked (mended q) q) × (w.steps ≤ j) → PlainStep q → ⊥
  no_ring_walked j q a z t s = at_place (ring_breaks q t.0.steps (let w = t.1 in omega arith) ring)
    where
      in_file : Climb (λ y. get_or ps y 0) t.0.steps (get_or ps q 0) q
      in_file = subst (λ (x : ℕ). Climb (λ y. get_or ps y 0) t.0.steps x q) s.same t.0.climbs

      ring : Climb (λ y. get_or ps y 0) (suc t.0.steps) q q
      ring = (z, in_file)

      at_place : Breaks q t.0.steps → ⊥
      at_place br = elim (cases_lt br.steps t.0.steps) [
        | inl l ↦ both_ways (breaks_ring ps br.place)
            (t.0.unbroken br.steps br.place l (subst (λ (x : ℕ). Climb (λ y. get_or ps y 0) br.steps x br.place) (sym s.same) br.reached.1)) br.breaks
        | inr l ↦
            let few = br.few in
            let same : br.steps ≡ t.0.steps = omega arith in
            let is : br.place ≡ q = one_end (λ y. get_or ps y 0) t.0.steps (get_or ps q 0) br.place q
            (subst (λ (k : ℕ). Climb (λ y. get_or ps y 0) k (get_or ps q 0) br.place) same br.reached.1) in_file in
            both_ways (breaks_ring ps br.place) (ap (breaks_ring ps) is ∙ s.unbroken) br.breaks
      ]

  walk_begins : (k p : ℕ) → p ∈ walk k p
  unfolding walk
  walk_begins zero p = here
  walk_begins (suc k) p = here

  no_twice : (k p : ℕ) → k ≤ length ps → ((r : ℕ) → r ∈ walk k p → (r ≡ 0 → ⊥)) → Twice k p → ⊥
  unfolding walk
  no_twice k p a h (repeats j q i) =
      no_ring_walked j q a (h q here) (walked j (mended q) q (λ y u. h y (there u)) i) (plain_step q (h (mended q) (there (walk_begins j (mended q)))))
  no_twice k p a h (further j q t) = no_twice j (mended q) (omega arith) (λ y u. h y (there u)) t

  walk_below : ((x : ℕ) → x ∈ ps → x < length ps) → (k p : ℕ) → p < length ps → (q : ℕ) → q ∈ walk k p → q < length ps
  unfolding walk
  walk_below range zero p w q i = elim (head_or_tail q p [] i) [ inl e ↦ subst (λ (x : ℕ). x < length ps) (sym e) w | inr j ↦ elim j [ ] ]
  walk_below range (suc k) p w q i = elim (head_or_tail q p (walk k (mended p)) i) [
    | inl e ↦ subst (λ (x : ℕ). x < length ps) (sym e) w
    | inr j ↦ walk_below range k (mended p) mended_below q j
  ]
    where
      mended_below : mended p < length ps
      mended_below = elim (cases_Bool (breaks_ring ps p)) [
        | inl e ↦ subst (λ (x : ℕ). x < length ps) (sym (cond-true (breaks_ring ps p) 0 (get_or ps p 0) e)) (omega arith)
        | inr e ↦ subst (λ (x : ℕ). x < length ps) (sym (cond-false (breaks_ring ps p) 0 (get_or ps p 0) e)) (range (get_or ps p 0) (member_at ps p 0 w))
      ]

  -- Each place leads to the world.
  pub grounded : ((x : ℕ) → x ∈ ps → x < length ps) → (p : ℕ) → p < length ps → (j : ℕ) × Climb mended j p 0
  grounded range p w = elim (reaches_or_not (length ps) p) [
    | inl r ↦ r
    | inr h ↦ elim (twice_or_distinct (length ps) p) [
      | inl t ↦ absurd (no_twice (length ps) p (omega arith) h t)
      | inr d ↦ absurd (
          let a = at_most (length ps) (walk (length ps) p) d (walk_below range (length ps) p w) in
          let b = walk_length (length ps) p in
          omega arith)
    ]
  ]

  -- ---- what a search for rings has to tell

  -- Where a place breaks a ring, it lies on one.
  pub breaks_on_ring : (p : ℕ) → breaks_ring ps p ≡ true → (d : ℕ) × (suc d ≤ length ps) × Climb (λ y. get_or ps y 0) (suc d) p p
  breaks_on_ring p h =
      let a = and_parts (among p (places_above ps (length ps) p)) (list_all (nat_le p) (places_above ps (length ps) p)) h in
      let m = passes (λ k. k == p) (places_above ps (length ps) p) a.0 in
      let r = climbed_above (length ps) p m.0 m.1 in
      (r.0, r.1, subst (λ (q : ℕ). Climb (λ y. get_or ps y 0) (suc r.0) p q) (eqb-true m.0 p m.2) r.2)
    where
      passes : (t : ℕ → Bool) (xs : List ℕ) → list_any t xs ≡ true → (x : ℕ) × (x ∈ xs) × (t x ≡ true)
      passes t [] h = absurd (cc h)
      passes t (x ∷ xs) h = elim (or_cases (t x) (list_any t xs) h) [
        | inl e ↦ (x, here, e)
        | inr e ↦ let r = passes t xs e in (r.0, there r.1, r.2)
      ]

  -- The first place of a ring breaks it.
  pub first_breaks : (p d : ℕ) → suc d ≤ length ps → Climb (λ y. get_or ps y 0) (suc d) p p → ((j q : ℕ) → Climb (λ y. get_or ps y 0) j p q → p ≤ q) → breaks_ring ps p ≡ true
  first_breaks p d w ring first =
      and_from (among p (places_above ps (length ps) p)) (list_all (nat_le p) (places_above ps (length ps) p))
      (any_from (λ k. k == p) (places_above ps (length ps) p) p (above_climbed (length ps) d p p ring w) (eq-eqb p p refl))
      (all_at_least p (places_above ps (length ps) p) (λ q i. let r = climbed_above (length ps) p q i in first (suc r.0) q r.2))

  -- A later place of the ring doesn't.
  pub later_breaks_not : (p q j : ℕ) → suc j ≤ length ps → Climb (λ y. get_or ps y 0) (suc j) p q → q < p → breaks_ring ps p ≡ false
  later_breaks_not p q j w c l = false_from_ne_true (breaks_ring ps p) (λ h.
      let a = and_parts (among p (places_above ps (length ps) p)) (list_all (nat_le p) (places_above ps (length ps) p)) h in
      let i = leb-true p q (every (nat_le p) (places_above ps (length ps) p) a.1 q (above_climbed (length ps) j p q c w)) in
      above l i)
    where
      above : q < p → p ≤ q → ⊥
      above l i = omega arith

      every : (t : ℕ → Bool) (xs : List ℕ) → list_all t xs ≡ true → (x : ℕ) → x ∈ xs → t x ≡ true
      every t [] h x i = elim i [ ]
      every t (y ∷ ys) h x here = (and_parts (t y) (list_all t ys) h).0
      every t (y ∷ ys) h x (there i) = every t ys (and_parts (t y) (list_all t ys) h).1 x i

  -- What leads to the world breaks no ring.
  pub leads_to_world : (p j : ℕ) → Climb (λ y. get_or ps y 0) j p 0 → breaks_ring ps p ≡ false
  leads_to_world p j c = false_from_ne_true (breaks_ring ps p) (λ h. no_ring_to_world (breaks_on_ring p h))
    where
      no_ring_to_world : (d : ℕ) × (suc d ≤ length ps) × Climb (λ y. get_or ps y 0) (suc d) p p → ⊥
      no_ring_to_world (d, w, ring) =
          let r = climbed_above (suc d) p 0 (on_ring j d j p 0 (omega arith) ring c) in
          let few = r.1 in
          from_world (d - r.0)
          (climb_rest (λ y. get_or ps y 0) (suc r.0) (d - r.0) p 0 p r.2 (subst (λ (k : ℕ). Climb (λ y. get_or ps y 0) k p p) (let total : suc d ≡ suc r.0 + (d - r.0) = omega arith in total) ring))
        where
          from_world : (k : ℕ) → Climb (λ y. get_or ps y 0) k 0 p → ⊥
          from_world zero e = ring.0 (sym e)
          from_world (suc k) e = e.0 refl
