-- Walks that meet each place once.
use Rattle.std.proofs.Common.{◌≡◌, ℕ, zero, suc, ◌+◌, ◌<◌, ◌≤◌, ◌==◌, Bool, true, false, cond, List, length, map, get_or, set, replicate, refl, ap, sym, ◌∙◌, subst, arith, ◌⊎◌, inl, inr, zero-add}
use Rattle.std.specs.Prelude.{count_by}
use Rattle.std.proofs.lemmas.Bool.{cases_eq, cases_lt, eq-eqb, ne_eqb, false_from_ne_true}
use Rattle.std.proofs.lemmas.List.{length-map, get_or-map, get_or-replicate, length-replicate, length-set, get_or_past, get_or-set_same, get_or-set_other, ext_get_or}
use Rattle.std.proofs.lemmas.List.Sums.{sum_by-set, count_by-le-length}
use Rattle.algebra.specs.Members.{◌∈◌}
use Rattle.map_model.specs.Tree.{numbers_from}
use Rattle.file_laws.specs.Build.{places_above, breaks_ring}
use Rattle.file_laws.proofs.Rings.{climb_both, above_climbed, climbed_above, breaks_on_ring}
use Rattle.tree_file.specs.RingMarks.{IsMet, IsNew, WalkedUp, Settled}
use Rattle.tree_file.proofs.InPlaces.{numbers_length, number_at}
use Rattle.tree_file.proofs.RingWalk.{Steps, one_more, back, not_world, same_first, world_breaks_none}

-- ---- one walk

abbrev pub unmet_count : List ℕ → ℕ
unmet_count met = count_by (λ m. m == 0) met

pub fewer_unmet : (met : List ℕ) (p v : ℕ) → p < length met → get_or met p 0 ≡ 0 → (v ≡ 0 → ⊥) → suc (unmet_count (set met p v)) ≡ unmet_count met
fewer_unmet met p v lt unmet some =
    let s : unmet_count (set met p v) + cond (get_or met p 0 == 0) 1 0 ≡ unmet_count met + cond (v == 0) 1 0 = sum_by-set (λ m. cond (m == 0) 1 0) met p v 0 lt in
    let t : unmet_count (set met p v) + 1 ≡ unmet_count met + 0 = rw (eq-eqb (get_or met p 0) 0 unmet, ne_eqb v 0 some) at s in
    omega arith

module _ (ps before : List ℕ) (start : ℕ) where
  -- The walk met p, and has come to `place` since.
  record NewSoFar (after : List ℕ) (place steps p : ℕ) : Type 0 where
    unmet : get_or before p 0 ≡ 0
    now : get_or after p 0 ≡ start
    leads : (d : ℕ) × (suc d ≤ steps) × Steps ps (suc d) p place
    next : (get_or ps p 0 ≡ place) ⊎ IsMet after (get_or ps p 0)

  pub record Walking (after : List ℕ) (place : ℕ) : Type 0 where
    pub same_length : length after ≡ length before
    pub within : place < length ps
    steps : ℕ
    few : steps + unmet_count after ≤ length ps
    begun : (place ≡ start) ⊎ IsMet after start
    each : (p : ℕ) → (get_or after p 0 ≡ get_or before p 0) ⊎ NewSoFar after place steps p

  pub begins_walk : length before ≡ length ps → start < length ps → Walking before start
  begins_walk e lt = record {
    same_length = refl;
    within = lt;
    steps = 0;
    few = (let w = count_by-le-length (λ m. m == 0) before in omega arith);
    begun = inl refl;
    each = λ p. inl refl;
  }

  module _ (some : start ≡ 0 → ⊥) (after : List ℕ) (place : ℕ) (now : Walking after place) where
    module _ (up_within : get_or ps place 0 < length ps) (below : place ≡ 0 → ⊥) (unmet : get_or after place 0 ≡ 0) (lengths : length before ≡ length ps) where
      here : place < length after
      here = let a = now.same_length in let b = now.within in omega arith

      marked : get_or (set after place start) place 0 ≡ start
      marked = get_or-set_same after place start 0 here

      is_marked : (p : ℕ) → p ≡ place → get_or (set after place start) p 0 ≡ start
      is_marked p e = ap (λ x. get_or (set after place start) x 0) e ∙ marked

      stays : (p : ℕ) → (p ≡ place → ⊥) → get_or (set after place start) p 0 ≡ get_or after p 0
      stays p n = get_or-set_other after place p start 0 n

      still : (p : ℕ) → IsMet after p → IsMet (set after place start) p
      still p m z = elim (cases_eq p place) [ inl e ↦ some (sym (is_marked p e) ∙ z) | inr n ↦ m (sym (stays p n) ∙ z) ]

      longer : (p : ℕ) → (p ≡ place → ⊥) → NewSoFar after place now.steps p → NewSoFar (set after place start) (get_or ps place 0) (suc now.steps) p
      longer p n new = record {
        unmet = new.unmet;
        now = stays p n ∙ new.now;
        leads = (suc new.leads.0, (let w = new.leads.1 in omega arith), one_more ps (suc new.leads.0) p place new.leads.2 below);
        next = elim new.next [ inl e ↦ inr (λ z. some (sym (is_marked (get_or ps p 0) e) ∙ z)) | inr m ↦ inr (still (get_or ps p 0) m) ];
      }

      new_here : (p : ℕ) → p ≡ place → NewSoFar (set after place start) (get_or ps place 0) (suc now.steps) p
      new_here p e = subst (λ (x : ℕ). NewSoFar (set after place start) (get_or ps place 0) (suc now.steps) x) (sym e) (record {
        unmet = elim (now.each place) [ inl f ↦ sym f ∙ unmet | inr new ↦ absurd (some (sym new.now ∙ unmet)) ];
        now = marked;
        leads = (0, omega arith, (below, refl));
        next = inl refl;
      })

      pub walks_on : Walking (set after place start) (get_or ps place 0)
      walks_on = record {
        same_length = length-set after place start ∙ now.same_length;
        within = up_within;
        steps = suc now.steps;
        few = (let f = fewer_unmet after place start here unmet some in let w = now.few in omega arith);
        begun = inr (elim now.begun [ inl e ↦ λ z. some (sym (is_marked start (sym e)) ∙ z) | inr m ↦ still start m ]);
        each = λ p. elim (cases_eq p place) [
          | inl e ↦ inr (new_here p e)
          | inr n ↦ elim (now.each p) [ inl e ↦ inl (stays p n ∙ e) | inr new ↦ inr (longer p n new) ]
        ];
      }

    pub stops : (place ≡ 0) ⊎ IsMet after place → WalkedUp ps before start after place
    stops ended = record {
      same_length = now.same_length;
      within = now.within;
      ended = ended;
      begun = elim now.begun [
        | inl e ↦ elim ended [ inl z ↦ absurd (some (sym e ∙ z)) | inr m ↦ subst (λ (x : ℕ). IsMet after x) e m ]
        | inr m ↦ m
      ];
      each = λ p. elim (now.each p) [ inl e ↦ inl e | inr new ↦ inr (is_new p new) ];
    }
      where
        is_new : (p : ℕ) → NewSoFar after place now.steps p → IsNew ps before start after place p
        is_new p new = record {
          unmet = new.unmet;
          now = new.now;
          leads = above_climbed ps (length ps) new.leads.0 p place new.leads.2 (let w = new.leads.1 in let v = now.few in omega arith);
          next = new.next;
        }

-- ---- what is settled

from_world : (ps : List ℕ) (j q : ℕ) → Steps ps j 0 q → q ≡ 0
from_world ps zero q c = sym c
from_world ps (suc j) q c = absurd (c.0 refl)

-- Above a place that was met all are met.
met_above : (ps met : List ℕ) → ((p : ℕ) → IsMet met p → (get_or ps p 0 ≡ 0) ⊎ IsMet met (get_or ps p 0)) → (j p q : ℕ) → Steps ps j p q → (q ≡ 0 → ⊥) → IsMet met p → IsMet met q
met_above ps met closed zero p q c below m = subst (λ (x : ℕ). IsMet met x) c m
met_above ps met closed (suc j) p q c below m = elim (closed p m) [
  | inl e ↦ absurd (below (from_world ps j q (subst (λ (x : ℕ). Steps ps j x q) e c.1)))
  | inr n ↦ met_above ps met closed j (get_or ps p 0) q c.1 below n
]

module _ (ps met : List ℕ) (breaks : List Bool) (start : ℕ) (some : start ≡ 0 → ⊥) (after : List ℕ) (stop : ℕ) (settled : Settled ps start met breaks) (walk : WalkedUp ps met start after stop) where
  still_met : (p : ℕ) → IsMet met p → IsMet after p
  still_met p m = elim (walk.each p) [ inl e ↦ λ z. m (sym e ∙ z) | inr new ↦ absurd (m new.unmet) ]

  closed_after : (p : ℕ) → IsMet after p → (get_or ps p 0 ≡ 0) ⊎ IsMet after (get_or ps p 0)
  closed_after p m = elim (walk.each p) [
    | inl e ↦ elim (settled.closed p (λ z. m (e ∙ z))) [ inl w ↦ inl w | inr k ↦ inr (still_met (get_or ps p 0) k) ]
    | inr new ↦ elim new.next [
      | inl e ↦ elim walk.ended [ inl z ↦ inl (e ∙ z) | inr k ↦ inr (subst (λ (x : ℕ). IsMet after x) (sym e) k) ]
      | inr k ↦ inr k
    ]
  ]

  earlier_after : (p : ℕ) → get_or after p 0 < start + 1
  earlier_after p = elim (walk.each p) [
    | inl e ↦ let w = settled.earlier p in omega arith
    | inr new ↦ let w = new.now in omega arith
  ]

  all_met : (p : ℕ) → 0 < p → p < start + 1 → IsMet after p
  all_met p w v = elim (cases_eq p start) [
    | inl e ↦ subst (λ (x : ℕ). IsMet after x) (sym e) walk.begun
    | inr n ↦ still_met p (settled.all_below p w (omega arith))
  ]

  settles : (flags : List Bool) → length flags ≡ length ps → ((p : ℕ) → IsMet after p → get_or flags p false ≡ breaks_ring ps p) → ((p : ℕ) → get_or after p 0 ≡ 0 → get_or flags p false ≡ false) →
      Settled ps (start + 1) after flags
  settles flags l f u = record {
    length_met = walk.same_length ∙ settled.length_met;
    length_breaks = l;
    earlier = earlier_after;
    all_below = all_met;
    closed = closed_after;
    flagged = f;
    unflagged = u;
  }

  unmet_before : (p : ℕ) → get_or after p 0 ≡ 0 → get_or met p 0 ≡ 0
  unmet_before p z = elim (walk.each p) [ inl e ↦ sym e ∙ z | inr new ↦ new.unmet ]

  -- The flag of a place that the walk met, where it breaks no ring.
  flag_of_new : (p : ℕ) → IsNew ps met start after stop p → breaks_ring ps p ≡ false → get_or breaks p false ≡ breaks_ring ps p
  flag_of_new p new e = settled.unflagged p new.unmet ∙ sym e

  module _ (other : get_or after stop 0 ≡ start → ⊥) where
    stop_met_before : (stop ≡ 0 → ⊥) → IsMet met stop
    stop_met_before below = elim walk.ended [
      | inl z ↦ absurd (below z)
      | inr m ↦ elim (walk.each stop) [ inl e ↦ λ z. m (e ∙ z) | inr new ↦ absurd (other new.now) ]
    ]

    breaks_none : (p : ℕ) → IsNew ps met start after stop p → breaks_ring ps p ≡ true → ⊥
    breaks_none p new h =
        let ring = breaks_on_ring ps p h in
        let c = climbed_above ps (length ps) p stop new.leads in
        let k = back ps ring.0 (suc c.0) p stop ring.2 c.2 in
        met_above ps met settled.closed k.0 stop p k.1 ring.2.0 (stop_met_before (not_world ps ring.0 (suc c.0) p stop ring.2 c.2)) new.unmet

    pub settled_with_none : Settled ps (start + 1) after breaks
    settled_with_none = settles breaks settled.length_breaks
        (λ p m. elim (walk.each p) [
          | inl e ↦ settled.flagged p (λ z. m (e ∙ z))
          | inr new ↦ flag_of_new p new (false_from_ne_true (breaks_ring ps p) (breaks_none p new))
        ])
        (λ p z. settled.unflagged p (unmet_before p z))

  module _ (own : get_or after stop 0 ≡ start) where
    pub stop_on_ring : stop ∈ places_above ps (length ps) stop
    stop_on_ring = elim (walk.each stop) [
      | inl e ↦ absurd (let w = settled.earlier stop in let f = sym e ∙ own in omega arith)
      | inr new ↦ new.leads
    ]

    module _ (first : ℕ) (within : first < length ps) (is_first : breaks_ring ps first ≡ true) (reached : first ∈ places_above ps (length ps) stop) where
      in_flags : first < length breaks
      in_flags = let e = settled.length_breaks in omega arith

      first_met : IsMet after first
      first_met =
          let c = climbed_above ps (length ps) stop first reached in
          met_above ps after closed_after (suc c.0) stop first c.2 (breaks_on_ring ps first is_first).2.0 (λ z. some (sym own ∙ z))

      same : (p : ℕ) → IsNew ps met start after stop p → breaks_ring ps p ≡ true → p ≡ first
      same p new h =
          let c = climbed_above ps (length ps) p stop new.leads in
          let d = climbed_above ps (length ps) stop first reached in
          same_first ps p first (suc c.0 + suc d.0) h is_first (climb_both (λ y. get_or ps y 0) (suc c.0) (suc d.0) p stop first c.2 d.2)

      flag_at_first : (p : ℕ) → p ≡ first → get_or (set breaks first true) p false ≡ breaks_ring ps p
      flag_at_first p e =
          ap (λ x. get_or (set breaks first true) x false) e ∙ get_or-set_same breaks first true false in_flags ∙ sym is_first ∙ ap (breaks_ring ps) (sym e)

      flag_elsewhere : (p : ℕ) → (p ≡ first → ⊥) → get_or (set breaks first true) p false ≡ get_or breaks p false
      flag_elsewhere p n = get_or-set_other breaks first p true false n

      pub settled_with_one : Settled ps (start + 1) after (set breaks first true)
      settled_with_one = settles (set breaks first true) (length-set breaks first true ∙ settled.length_breaks)
          (λ p m. elim (cases_eq p first) [
            | inl e ↦ flag_at_first p e
            | inr n ↦ flag_elsewhere p n ∙ elim (walk.each p) [
              | inl e ↦ settled.flagged p (λ z. m (e ∙ z))
              | inr new ↦ flag_of_new p new (false_from_ne_true (breaks_ring ps p) (λ h. n (same p new h)))
            ]
          ])
          (λ p z. elim (cases_eq p first) [
            | inl e ↦ absurd (first_met (ap (λ x. get_or after x 0) (sym e) ∙ z))
            | inr n ↦ flag_elsewhere p n ∙ settled.unflagged p (unmet_before p z)
          ])

-- ---- first and last

all_same : {A : Type 0} (n p : ℕ) (d : A) → get_or (replicate n d) p d ≡ d
all_same n p d = elim (cases_lt p n) [
  | inl lt ↦ get_or-replicate n p d d lt
  | inr le ↦ get_or_past (replicate n d) p d (let e = length-replicate n d in omega arith)
]

pub none_settled : (ps met : List ℕ) (breaks : List Bool) → met ≡ replicate (length ps) 0 → breaks ≡ replicate (length ps) false → Settled ps 1 met breaks
none_settled ps met breaks e f = record {
  length_met = ap length e ∙ length-replicate (length ps) 0;
  length_breaks = ap length f ∙ length-replicate (length ps) false;
  earlier = λ p. below_one (get_or met p 0) (unmet p);
  all_below = λ p w v. absurd (omega arith);
  closed = λ p m. absurd (m (unmet p));
  flagged = λ p m. absurd (m (unmet p));
  unflagged = λ p z. ap (λ l. get_or l p false) f ∙ all_same (length ps) p false;
}
  where
    unmet : (p : ℕ) → get_or met p 0 ≡ 0
    unmet p = ap (λ l. get_or l p 0) e ∙ all_same (length ps) p 0

    below_one : (n : ℕ) → n ≡ 0 → n < 1
    below_one n z = omega arith

pub all_settled : (ps met : List ℕ) (breaks : List Bool) (next : ℕ) → length ps ≤ next → Settled ps next met breaks → breaks ≡ map (breaks_ring ps) (numbers_from 0 (length ps))
all_settled ps met breaks next all s =
    ext_get_or false breaks (map (breaks_ring ps) (numbers_from 0 (length ps)))
    (s.length_breaks ∙ sym (length-map (numbers_from 0 (length ps)) (breaks_ring ps) ∙ numbers_length 0 (length ps)))
    (λ p lt. let v : p < length ps = (let e = s.length_breaks in omega arith) in flag p v ∙ sym (flag_wanted p v))
  where
    flag : (p : ℕ) → p < length ps → get_or breaks p false ≡ breaks_ring ps p
    flag p lt = elim (cases_eq (get_or met p 0) 0) [
      | inr m ↦ s.flagged p m
      | inl z ↦ elim (cases_eq p 0) [
        | inl e ↦ s.unflagged p z ∙ sym (ap (breaks_ring ps) e ∙ world_breaks_none ps)
        | inr n ↦ absurd (s.all_below p (omega arith) (omega arith) z)
      ]
    ]

    flag_wanted : (p : ℕ) → p < length ps → get_or (map (breaks_ring ps) (numbers_from 0 (length ps))) p false ≡ breaks_ring ps p
    flag_wanted p lt =
        get_or-map (breaks_ring ps) (numbers_from 0 (length ps)) p 0 false (let e = numbers_length 0 (length ps) in omega arith)
        ∙ ap (breaks_ring ps) (number_at 0 (length ps) p 0 lt ∙ zero-add p)
