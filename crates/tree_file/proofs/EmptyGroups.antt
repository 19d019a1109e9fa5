-- Groups that go, each behind those of its children, are those that go again and again.
use Rattle.std.proofs.Common.{◌≡◌, inl, inr, ◌⊎◌, ℕ, zero, suc, ◌+◌, ◌-◌, ◌<◌, ◌≤◌, Bool, true, false, not, ◌&&◌, ◌||◌, ◌==◌, nat_lt, List, [], ◌∷◌, ◌++◌, map, filter, length, get_or, take, drop, set, replicate, refl, ap, sym, ◌∙◌, subst, arith}
use Rattle.std.specs.List.{list_any}
use Rattle.std.proofs.lemmas.Bool.{cases_Bool, cases_eq, eq-eqb, ne_eqb, eqb-true, both_ways, and_from, and_parts, and_left, and_right, or_left, or_right, or_parts, or_from, not-true, false_from_ne_true}
use Rattle.std.proofs.lemmas.List.{take_more, get_or_append_left, length_push, get_or-set_same, get_or-set_other, length-set, length-take-le, get_or-replicate, length-replicate, drop_all, take_all, append-nil}
use Rattle.std.proofs.lemmas.List.Folds.{list_any-append}
use Rattle.algebra.specs.Members.{◌∈◌, here, there}
use Rattle.algebra.proofs.Members.{member_at}
use Rattle.map_model.specs.Tree.{group, has_kind, among}
use Rattle.file_laws.specs.Numbers.{place_in}
use Rattle.file_laws.specs.Build.{Item, place_of, kept_brushes, has_child, is_empty_group, kept_items}
use Rattle.file_laws.proofs.Lists.{Distinct, distinct_append, in_map, of_map, in_filter, of_filter, in_left, in_right, in_append, filter_agrees, any_from, none_of, head_or_tail, place_within}
use Rattle.file_laws.proofs.Counts.{at_most}
use Rattle.file_laws.proofs.Standing.{numbers_distinct, filter_places, some_passes}
use Rattle.file_laws.proofs.Dropping.{IsPass, kept_by_pass}
use Rattle.tree_file.specs.Passes.{AreInPlace, is_bare_group, children_left, ChildCounts}
use Rattle.tree_file.proofs.Lists.{filter_in, filter_out}
use Rattle.tree_file.proofs.Kept.{in_list}
use Rattle.tree_file.proofs.InPlaces.{one_at_place, place_below, stands_at}

-- ---- members of lists of numbers

pub among_in : (n : ℕ) (ns : List ℕ) → n ∈ ns → among n ns ≡ true
among_in n ns t = any_from (λ k. k == n) ns n t (eq-eqb n n refl)

pub in_among : (n : ℕ) (ns : List ℕ) → among n ns ≡ true → n ∈ ns
in_among n ns h = let r = some_passes (λ k. k == n) ns h in subst (λ (k : ℕ). k ∈ ns) (eqb-true r.0 n r.2) r.1

pub out_among : (n : ℕ) (ns : List ℕ) → among n ns ≡ false → ¬ (n ∈ ns)
out_among n ns h t = both_ways (among n ns) h (among_in n ns t)

pub among_out : (n : ℕ) (ns : List ℕ) → ¬ (n ∈ ns) → among n ns ≡ false
among_out n ns out = false_from_ne_true (among n ns) (λ e. out (in_among n ns e))

-- one number more
pub among_more : (n p : ℕ) (ns : List ℕ) → (p ≡ n → ⊥) → among n (ns ++ p ∷ []) ≡ among n ns
among_more n p ns out = list_any-append (λ k. k == n) ns (p ∷ []) ∙ (λ i. among n ns || (ne_eqb p n out i || false)) ∙ or_false (among n ns)
  where
    or_false : (b : Bool) → (b || false) ≡ b
    or_false true = refl
    or_false false = refl

pub among_last : (n p : ℕ) (ns : List ℕ) → p ≡ n → among n (ns ++ p ∷ []) ≡ true
among_last n p ns e = among_in n (ns ++ p ∷ []) (in_right ns (p ∷ []) n (subst (λ (k : ℕ). k ∈ (p ∷ [])) e here))

nothing_at_last : {A : Type 0} {x y : A} → x ∈ (y ∷ []) → x ≡ y
nothing_at_last {A} {x} {y} t = elim (head_or_tail x y [] t) [ inl e ↦ e | inr u ↦ elim u [ ] ]

-- what is in a list with one more
in_more : (n p : ℕ) (ns : List ℕ) → n ∈ (ns ++ p ∷ []) → (n ∈ ns) ⊎ (n ≡ p)
in_more n p ns t = elim (in_append ns (p ∷ []) n t) [ inl u ↦ inl u | inr u ↦ inr (nothing_at_last u) ]

distinct_more : (p : ℕ) (ns : List ℕ) → Distinct ns → ¬ (p ∈ ns) → Distinct (ns ++ p ∷ [])
distinct_more p ns d out = distinct_append ns (p ∷ []) d ((λ t. elim t [ ]), tt) (λ n t u. out (subst (λ (k : ℕ). k ∈ ns) (nothing_at_last u) t))

-- where a number is first in a list
first_at : (n : ℕ) (ns : List ℕ) → n ∈ ns → get_or ns (place_in ns n) 0 ≡ n
first_at n [] t = elim t [ ]
first_at n (k ∷ ns) t = elim (cases_eq k n) [
  | inl e ↦ rw (eq-eqb k n e) e
  | inr d ↦ elim (head_or_tail n k ns t) [
    | inl e ↦ absurd (d (sym e))
    | inr u ↦ rw (ne_eqb k n d) (first_at n ns u)
  ]
]

-- what is among the first a numbers is first before place a
in_front : (n a : ℕ) (ns : List ℕ) → n ∈ take a ns → place_in ns n < a
in_front n zero ns t = elim t [ ]
in_front n (suc a) [] t = elim t [ ]
in_front n (suc a) (k ∷ ns) t = elim (cases_eq k n) [
  | inl e ↦ rw (eq-eqb k n e) (omega arith)
  | inr d ↦ elim (head_or_tail n k (take a ns) t) [
    | inl e ↦ absurd (d (sym e))
    | inr u ↦ rw (ne_eqb k n d) (let w = in_front n a ns u in omega arith)
  ]
]

of_front : (n a : ℕ) (ns : List ℕ) → n ∈ take a ns → n ∈ ns
of_front n zero ns t = elim t [ ]
of_front n (suc a) [] t = elim t [ ]
of_front n (suc a) (k ∷ ns) t = elim (head_or_tail n k (take a ns) t) [
  | inl e ↦ subst (λ (j : ℕ). j ∈ (k ∷ ns)) (sym e) here
  | inr u ↦ there (of_front n a ns u)
]

-- the front of a list that grows
same_front : (a p : ℕ) (ns : List ℕ) → a ≤ length ns → take a (ns ++ p ∷ []) ≡ take a ns
same_front zero p ns w = refl
same_front (suc a) p [] w = absurd (omega arith)
same_front (suc a) p (n ∷ ns) w = ap (λ l. n ∷ l) (same_front a p ns (omega arith))

all_front : (ns : List ℕ) → take (length ns) ns ≡ ns
all_front [] = refl
all_front (n ∷ ns) = ap (λ l. n ∷ l) (all_front ns)

not_before : (a : ℕ) (ns : List ℕ) → Distinct ns → a < length ns → ¬ (get_or ns a 0 ∈ take a ns)
not_before a [] d w t = absurd (omega arith)
not_before zero (n ∷ ns) d w t = elim t [ ]
not_before (suc a) (n ∷ ns) d w t = elim (head_or_tail (get_or ns a 0) n (take a ns) t) [
  | inl e ↦ d.0 (subst (λ (k : ℕ). k ∈ ns) e (member_at ns a 0 (omega arith)))
  | inr u ↦ not_before a ns d.1 (omega arith) u
]

-- ---- counting

some_counted : {A : Type 0} (p : A → Bool) (xs : List A) (x : A) → x ∈ xs → p x ≡ true → 0 < length (filter p xs)
some_counted p xs x t e = some_in (filter p xs) (in_filter p xs x t e)
  where
    some_in : {A : Type 0} {x : A} (xs : List A) → x ∈ xs → 0 < length xs
    some_in [] t = elim t [ ]
    some_in (y ∷ xs) t = omega arith

counted_some : {A : Type 0} (p : A → Bool) (xs : List A) → 0 < length (filter p xs) → (x : A) × (x ∈ xs) × (p x ≡ true)
counted_some {A} p xs w = by_list (filter p xs) refl
  where
    by_list : (l : List A) → filter p xs ≡ l → (x : A) × (x ∈ xs) × (p x ≡ true)
    by_list [] e = absurd (let n = ap length e in omega arith)
    by_list (x ∷ l) e = let r = of_filter p xs x (subst (λ (m : List A). x ∈ m) (sym e) here) in (x, r.0, r.1)

-- two tests that tell one item apart
one_less : (f g : Item → Bool) (xs : List Item) → Distinct (map place_of xs) → (i : Item) → i ∈ xs → f i ≡ true → g i ≡ false →
    ((j : Item) → j ∈ xs → (place_of j ≡ place_of i → ⊥) → f j ≡ g j) → length (filter f xs) ≡ suc (length (filter g xs))
one_less f g [] d i t e h same = elim t [ ]
one_less f g (x ∷ xs) d i t e h same = elim (head_or_tail i x xs t) [
  | inl is ↦
      let rest = filter_agrees f g xs (λ j u. same j (there u) (λ p. d.0 (subst (λ (k : ℕ). k ∈ map place_of xs) (p ∙ ap place_of is) (in_map place_of xs j u)))) in
      rw (ap f (sym is) ∙ e, ap g (sym is) ∙ h) (ap suc (ap length rest))
  | inr u ↦
      let rest = one_less f g xs d.1 i u e h (λ j v. same j (there v)) in
      let head = same x here (λ p. d.0 (subst (λ (k : ℕ). k ∈ map place_of xs) (sym p) (in_map place_of xs i u))) in
      elim (cases_Bool (f x)) [
        | inl a ↦ rw (a, sym head ∙ a) (ap suc rest)
        | inr a ↦ rw (a, sym head ∙ a) rest
      ]
]

-- ---- the children that are left

module _ (K : List Item) (at : AreInPlace K) where
  distinct_places : Distinct (map place_of K)
  distinct_places = subst Distinct (sym at) (numbers_distinct 0 (length K))

  abbrev is_left : List ℕ → ℕ → Item → Bool
  is_left gone q j = (j.parent == q) && not (among (place_of j) gone)

  -- an item that goes is one child less of its parent
  pub left_less : (gone : List ℕ) (i : Item) → i ∈ K → ¬ (place_of i ∈ gone) → children_left K gone i.parent ≡ suc (children_left K (gone ++ place_of i ∷ []) i.parent)
  left_less gone i t out =
      one_less (is_left gone i.parent) (is_left (gone ++ place_of i ∷ []) i.parent) K distinct_places i t
      (and_from (i.parent == i.parent) (not (among (place_of i) gone)) (eq-eqb i.parent i.parent refl) (ap not (among_out (place_of i) gone out)))
      (and_right (i.parent == i.parent) (not (among (place_of i) (gone ++ place_of i ∷ []))) (ap not (among_last (place_of i) (place_of i) gone refl)))
      (λ j u p. ap (λ b. (j.parent == i.parent) && not b) (sym (among_more (place_of j) (place_of i) gone (λ e. p (sym e)))))

  -- and no child less of any other
  pub left_same : (gone : List ℕ) (i : Item) → i ∈ K → (q : ℕ) → (i.parent ≡ q → ⊥) → children_left K (gone ++ place_of i ∷ []) q ≡ children_left K gone q
  left_same gone i t q other = ap length (filter_agrees (is_left (gone ++ place_of i ∷ []) q) (is_left gone q) K (λ j u. elim (cases_Bool (j.parent == q)) [
    | inl e ↦ ap (λ b. (j.parent == q) && not b) (among_more (place_of j) (place_of i) gone (λ p. other (ap (λ x. x.parent) (one_at_place place_of K at i j t u p) ∙ eqb-true j.parent q e)))
    | inr e ↦ and_left (j.parent == q) (not (among (place_of j) (gone ++ place_of i ∷ []))) e ∙ sym (and_left (j.parent == q) (not (among (place_of j) gone)) e)
  ]))

  none_left : (gone : List ℕ) (q : ℕ) → children_left K gone q ≡ 0 → (j : Item) → j ∈ K → j.parent ≡ q → place_of j ∈ gone
  none_left gone q none j t e = elim (cases_Bool (among (place_of j) gone)) [
    | inl h ↦ in_among (place_of j) gone h
    | inr h ↦ absurd (
        let w = some_counted (is_left gone q) K j t (and_from (j.parent == q) (not (among (place_of j) gone)) (eq-eqb j.parent q e) (ap not h)) in
        omega arith)
  ]

  some_left : (gone : List ℕ) (q : ℕ) → 0 < children_left K gone q → (j : Item) × (j ∈ K) × (j.parent == q ≡ true) × (among (place_of j) gone ≡ false)
  some_left gone q w =
      let r = counted_some (is_left gone q) K w in
      let a = and_parts (r.0.parent == q) (not (among (place_of r.0) gone)) r.2 in
      (r.0, r.1, a.0, not-true (among (place_of r.0) gone) a.1)

  -- ---- empty groups by their counts

  bare_empty : (i : Item) → children_left K [] (place_of i) ≡ 0 → is_bare_group i ≡ true → is_empty_group K i ≡ true
  bare_empty i none h =
      let a = and_parts (has_kind group i.reading.node) (not (nat_lt 0 (length (kept_brushes i.reading)))) h in
      and_from (has_kind group i.reading.node) (not (has_child K i)) a.0
      (ap not (or_from (nat_lt 0 (length (kept_brushes i.reading))) (list_any (λ j. j.parent == place_of i) K)
      (not-true (nat_lt 0 (length (kept_brushes i.reading))) a.1)
      (none_of (λ j. j.parent == place_of i) K (λ j t. false_from_ne_true (j.parent == place_of i) (λ e.
      elim (none_left [] (place_of i) none j t (eqb-true j.parent (place_of i) e)) [ ])))))

  empty_bare : (i : Item) → is_empty_group K i ≡ true → (is_bare_group i ≡ true) × (children_left K [] (place_of i) ≡ 0)
  empty_bare i h =
      let a = and_parts (has_kind group i.reading.node) (not (has_child K i)) h in
      let b = or_parts (nat_lt 0 (length (kept_brushes i.reading))) (list_any (λ j. j.parent == place_of i) K) (not-true (has_child K i) a.1) in
      (and_from (has_kind group i.reading.node) (not (nat_lt 0 (length (kept_brushes i.reading)))) a.0 (ap not b.0), none_counted b.1 (children_left K [] (place_of i)) refl)
    where
      none_counted : list_any (λ (j : Item). j.parent == place_of i) K ≡ false → (n : ℕ) → children_left K [] (place_of i) ≡ n → n ≡ 0
      none_counted h zero e = refl
      none_counted h (suc n) e = absurd (
          let r = some_left [] (place_of i) (omega arith) in
          both_ways (list_any (λ (j : Item). j.parent == place_of i) K) h (any_from (λ (j : Item). j.parent == place_of i) K r.0 r.1 r.2))

  pub empty_by_count : (counts : List ℕ) → ChildCounts (length K) K [] counts → (i : Item) → i ∈ K → (t : Bool) → t ≡ (is_bare_group i && (get_or counts (place_of i) 0 == 0)) → is_empty_group K i ≡ t
  empty_by_count counts c i u true e =
      let a = and_parts (is_bare_group i) (get_or counts (place_of i) 0 == 0) (sym e) in
      bare_empty i (sym (c.number (place_of i) (place_below place_of K at i u)) ∙ eqb-true (get_or counts (place_of i) 0) 0 a.1) a.0
  empty_by_count counts c i u false e = false_from_ne_true (is_empty_group K i) (λ h.
      let b = empty_bare i h in
      both_ways (is_bare_group i && (get_or counts (place_of i) 0 == 0)) (sym e)
      (and_from (is_bare_group i) (get_or counts (place_of i) 0 == 0) b.0 (eq-eqb (get_or counts (place_of i) 0) 0 (c.number (place_of i) (place_below place_of K at i u) ∙ b.1))))

-- ---- the pass

-- The first few of the groups that go have left their parents. The counts are of the children that are left.
pub record Going (K : List Item) (next : ℕ) (goes counts : List ℕ) : Type 0 where
  pub front : next ≤ length goes
  pub counted : ChildCounts (length K) K (take next goes) counts
  pub distinct : Distinct goes
  pub below : (p : ℕ) → p ∈ goes → p < length K
  pub bare : (i : Item) → i ∈ K → place_of i ∈ goes → is_bare_group i ≡ true
  pub none : (p : ℕ) → p ∈ goes → children_left K (take next goes) p ≡ 0
  pub some : (i : Item) → i ∈ K → is_bare_group i ≡ true → ¬ (place_of i ∈ goes) → 0 < children_left K (take next goes) (place_of i)
  pub before : (a : ℕ) → a < length goes → (j : Item) → j ∈ K → j.parent ≡ get_or goes a 0 → place_of j ∈ take a goes

module _ (K : List Item) (at : AreInPlace K) where
  pub going_few : (next : ℕ) (goes counts : List ℕ) → Going K next goes counts → length goes ≤ length K
  going_few next goes counts g = at_most (length K) goes g.distinct g.below

  pub goes_first : (goes counts : List ℕ) → ChildCounts (length K) K [] counts → goes ≡ map place_of (filter (is_empty_group K) K) → Going K 0 goes counts
  goes_first goes counts c e = record {
    front = omega arith;
    counted = c;
    distinct = subst Distinct (sym e) (filter_places (is_empty_group K) K (distinct_places K at));
    below = λ p t. let r = of_goes p t in subst (λ (n : ℕ). n < length K) (sym r.2) (place_below place_of K at r.0 r.1.0);
    bare = λ i t u.
        let r = of_goes (place_of i) u in
        let same = one_at_place place_of K at i r.0 t r.1.0 r.2 in
        subst (λ (x : Item). is_bare_group x ≡ true) (sym same) (empty_bare K at r.0 r.1.1).0;
    none = none_at;
    some = λ i t h out. elim (Rattle.std.proofs.lemmas.Bool.cases_lt 0 (children_left K [] (place_of i))) [
      | inl w ↦ w
      | inr w ↦ absurd (out (subst (λ (l : List ℕ). place_of i ∈ l) (sym e)
          (in_map place_of (filter (is_empty_group K) K) i (in_filter (is_empty_group K) K i t (bare_empty K at i (omega arith) h)))))
    ];
    before = λ a w j t u. elim (none_left K at [] (get_or goes a 0) (none_at (get_or goes a 0) (member_at goes a 0 w)) j t u) [ ];
  }
    where
      of_goes : (p : ℕ) → p ∈ goes → (i : Item) × ((i ∈ K) × (is_empty_group K i ≡ true)) × (p ≡ place_of i)
      of_goes p t =
          let r = of_map place_of (filter (is_empty_group K) K) p (subst (λ (l : List ℕ). p ∈ l) e t) in
          let f = of_filter (is_empty_group K) K r.0 r.1 in
          (r.0, (f.0, f.1), r.2)

      none_at : (p : ℕ) → p ∈ goes → children_left K [] p ≡ 0
      none_at p t = let r = of_goes p t in subst (λ (n : ℕ). children_left K [] n ≡ 0) (sym r.2) (empty_bare K at r.0 r.1.1).1

  -- ---- one more leaves its parent

  module _ (next : ℕ) (goes counts : List ℕ) (g : Going K next goes counts) (w : next < length goes) (i : Item) (t : i ∈ K) (is : place_of i ≡ get_or goes next 0) where
    abbrev gone : List ℕ
    gone = take next goes

    gone_more : take (next + 1) goes ≡ take next goes ++ place_of i ∷ []
    gone_more = take_more goes next 0 w ∙ ap (λ p. take next goes ++ p ∷ []) (sym is)

    not_gone : ¬ (place_of i ∈ take next goes)
    not_gone u = not_before next goes g.distinct w (subst (λ (p : ℕ). p ∈ take next goes) is u)

    pub parent_less : children_left K (take next goes) i.parent ≡ suc (children_left K (take (next + 1) goes) i.parent)
    parent_less = left_less K at (take next goes) i t not_gone ∙ ap (λ l. suc (children_left K l i.parent)) (sym gone_more)

    other_same : (q : ℕ) → (i.parent ≡ q → ⊥) → children_left K (take (next + 1) goes) q ≡ children_left K (take next goes) q
    other_same q other = ap (λ l. children_left K l q) gone_more ∙ left_same K at (take next goes) i t q other

    -- the parent doesn't go yet
    parent_stays : ¬ (i.parent ∈ goes)
    parent_stays u = let a = g.none i.parent u in let b = parent_less in omega arith

    module _ (less : List ℕ) (lowered : less ≡ set counts i.parent (get_or counts i.parent 0 - 1)) (parent_in : i.parent < length K) where
      lowered_counts : ChildCounts (length K) K (take (next + 1) goes) less
      lowered_counts = record { count = ap length lowered ∙ length-set counts i.parent (get_or counts i.parent 0 - 1) ∙ g.counted.count; number = number_at }
        where
          number_at : (p : ℕ) → p < length K → get_or less p 0 ≡ children_left K (take (next + 1) goes) p
          number_at p v = elim (cases_eq i.parent p) [
            | inl e ↦
                let c = g.counted.count in
                let n = g.counted.number i.parent parent_in in
                let l = parent_less in
                ap (λ l. get_or l p 0) lowered ∙ ap (λ q. get_or (set counts i.parent (get_or counts i.parent 0 - 1)) q 0) (sym e)
                ∙ get_or-set_same counts i.parent (get_or counts i.parent 0 - 1) 0 (omega arith)
                ∙ (omega arith) ∙ ap (children_left K (take (next + 1) goes)) e
            | inr d ↦
                ap (λ l. get_or l p 0) lowered ∙ get_or-set_other counts i.parent p (get_or counts i.parent 0 - 1) 0 (λ e. d (sym e))
                ∙ g.counted.number p v ∙ sym (other_same p d)
          ]

      none_still : (p : ℕ) → p ∈ goes → children_left K (take (next + 1) goes) p ≡ 0
      none_still p u = other_same p (λ e. parent_stays (subst (λ (q : ℕ). q ∈ goes) (sym e) u)) ∙ g.none p u

      -- an item that doesn't stand where the first parent was
      some_still : (j : Item) → j ∈ K → is_bare_group j ≡ true → ¬ (place_of j ∈ goes) → (i.parent ≡ place_of j → ⊥) → 0 < children_left K (take (next + 1) goes) (place_of j)
      some_still j u h out other = let s = g.some j u h out in let e = other_same (place_of j) other in omega arith

      pub goes_on : (q : Item) → q ∈ K → place_of q ≡ i.parent → (is_bare_group q && (get_or less (place_of q) 0 == 0)) ≡ false → Going K (next + 1) goes less
      goes_on q v e h = record {
        front = omega arith;
        counted = lowered_counts;
        distinct = g.distinct;
        below = g.below;
        bare = g.bare;
        none = none_still;
        some = λ j u b out. elim (cases_eq i.parent (place_of j)) [
          | inl p ↦ at_parent j u b p (one_at_place place_of K at q j v u (e ∙ p))
          | inr p ↦ some_still j u b out p
        ];
        before = g.before;
      }
        where
          at_parent : (j : Item) → j ∈ K → is_bare_group j ≡ true → i.parent ≡ place_of j → q ≡ j → 0 < children_left K (take (next + 1) goes) (place_of j)
          at_parent j u b p same = elim (Rattle.std.proofs.lemmas.Bool.cases_lt 0 (children_left K (take (next + 1) goes) (place_of j))) [
            | inl w ↦ w
            | inr w ↦ absurd (both_ways (is_bare_group q && (get_or less (place_of q) 0 == 0)) h
                (and_from (is_bare_group q) (get_or less (place_of q) 0 == 0) (ap is_bare_group same ∙ b)
                (eq-eqb (get_or less (place_of q) 0) 0 (ap (λ n. get_or less n 0) (ap place_of same) ∙ lowered_counts.number (place_of j) (place_below place_of K at j u) ∙ (omega arith)))))
          ]

      pub goes_too : (q : Item) → q ∈ K → place_of q ≡ i.parent → (is_bare_group q && (get_or less (place_of q) 0 == 0)) ≡ true → Going K (next + 1) (goes ++ i.parent ∷ []) less
      goes_too q v e h =
          let long = length_push goes i.parent in
          record {
            front = omega arith;
            counted = subst (λ (l : List ℕ). ChildCounts (length K) K l less) (sym front_same) lowered_counts;
            distinct = distinct_more i.parent goes g.distinct parent_stays;
            below = λ p u. elim (in_more p i.parent goes u) [ inl t ↦ g.below p t | inr s ↦ subst (λ (n : ℕ). n < length K) (sym s) parent_in ];
            bare = λ j u s. elim (in_more (place_of j) i.parent goes s) [
              | inl t ↦ g.bare j u t
              | inr p ↦ ap is_bare_group (one_at_place place_of K at j q u v (p ∙ sym e)) ∙ (and_parts (is_bare_group q) (get_or less (place_of q) 0 == 0) h).0
            ];
            none = λ p u. ap (λ l. children_left K l p) front_same ∙ elim (in_more p i.parent goes u) [
              | inl t ↦ none_still p t
              | inr s ↦ ap (children_left K (take (next + 1) goes)) s ∙ parent_none
            ];
            some = λ j u b out. subst (λ (l : List ℕ). 0 < children_left K l (place_of j)) (sym front_same)
                (some_still j u b (λ s. out (in_left goes (i.parent ∷ []) (place_of j) s))
                (λ p. out (in_right goes (i.parent ∷ []) (place_of j) (subst (λ (n : ℕ). n ∈ (i.parent ∷ [])) p here))));
            before = before_each;
          }
        where
          front_same : take (next + 1) (goes ++ i.parent ∷ []) ≡ take (next + 1) goes
          front_same = same_front (next + 1) i.parent goes (omega arith)

          parent_none : children_left K (take (next + 1) goes) i.parent ≡ 0
          parent_none =
              sym (lowered_counts.number i.parent parent_in) ∙ ap (λ n. get_or less n 0) (sym e)
              ∙ eqb-true (get_or less (place_of q) 0) 0 (and_parts (is_bare_group q) (get_or less (place_of q) 0 == 0) h).1

          before_each : (a : ℕ) → a < length (goes ++ i.parent ∷ []) → (j : Item) → j ∈ K → j.parent ≡ get_or (goes ++ i.parent ∷ []) a 0 → place_of j ∈ take a (goes ++ i.parent ∷ [])
          before_each a l j u p = elim (Rattle.std.proofs.lemmas.Bool.cases_lt a (length goes)) [
            | inl s ↦ subst (λ (m : List ℕ). place_of j ∈ m) (sym (same_front a i.parent goes (omega arith)))
                (g.before a s j u (p ∙ get_or_append_left goes (i.parent ∷ []) 0 a s))
            | inr s ↦
                let long = length_push goes i.parent in
                let last : a ≡ length goes = omega arith in
                let up : j.parent ≡ i.parent = p ∙ ap (λ n. get_or (goes ++ i.parent ∷ []) n 0) last ∙ Rattle.std.proofs.Math.Seq.get_or-append_seam goes i.parent [] 0 in
                subst (λ (n : ℕ). place_of j ∈ take n (goes ++ i.parent ∷ [])) (sym last)
                (subst (λ (m : List ℕ). place_of j ∈ m) (sym (same_front (length goes) i.parent goes (omega arith) ∙ all_front goes))
                (of_front (place_of j) (next + 1) goes (none_left K at (take (next + 1) goes) i.parent parent_none j u up)))
          ]

  -- ---- all have left

  pub all_gone : (next : ℕ) (goes counts : List ℕ) → Going K next goes counts → length goes ≤ next → kept_items K ≡ filter (λ i. not (among (place_of i) goes)) K
  all_gone next goes counts g done = kept_by_pass K (λ i. not (among (place_of i) goes)) (λ i. place_in goes (place_of i)) pass
    where
      all : take next goes ≡ goes
      all = ap (λ n. take n goes) (let f = g.front in let e : next ≡ length goes = omega arith in e) ∙ all_front goes

      goes_in : (i : Item) → not (among (place_of i) goes) ≡ false → place_of i ∈ goes
      goes_in i h = in_among (place_of i) goes (Rattle.std.proofs.lemmas.Bool.not-false (among (place_of i) goes) h)

      parts : (i : Item) → i ∈ K → not (among (place_of i) goes) ≡ false → (has_kind group i.reading.node ≡ true) × (not (nat_lt 0 (length (kept_brushes i.reading))) ≡ true)
      parts i t h = and_parts (has_kind group i.reading.node) (not (nat_lt 0 (length (kept_brushes i.reading)))) (g.bare i t (goes_in i h))

      child : (i : Item) → i ∈ K → not (among (place_of i) goes) ≡ true → has_kind group i.reading.node ≡ true → has_child (filter (λ j. not (among (place_of j) goes)) K) i ≡ true
      child i t h k = elim (cases_Bool (nat_lt 0 (length (kept_brushes i.reading)))) [
        | inl b ↦ or_left (nat_lt 0 (length (kept_brushes i.reading))) (list_any (λ j. j.parent == place_of i) (filter (λ j. not (among (place_of j) goes)) K)) b
        | inr b ↦
            let s = g.some i t (and_from (has_kind group i.reading.node) (not (nat_lt 0 (length (kept_brushes i.reading)))) k (ap not b)) (out_among (place_of i) goes (not-true (among (place_of i) goes) h)) in
            let r = some_left K at goes (place_of i) (subst (λ (l : List ℕ). 0 < children_left K l (place_of i)) all s) in
            or_right (nat_lt 0 (length (kept_brushes i.reading))) (list_any (λ j. j.parent == place_of i) (filter (λ j. not (among (place_of j) goes)) K))
            (any_from (λ j. j.parent == place_of i) (filter (λ j. not (among (place_of j) goes)) K) r.0
            (in_filter (λ j. not (among (place_of j) goes)) K r.0 r.1 (ap not r.3)) r.2)
      ]

      earlier : (i j : Item) → i ∈ K → not (among (place_of i) goes) ≡ false → j ∈ K → (j.parent == place_of i) ≡ true → (not (among (place_of j) goes) ≡ false) × (place_in goes (place_of j) < place_in goes (place_of i))
      earlier i j t h u e =
          let p = goes_in i h in
          let b = g.before (place_in goes (place_of i)) (place_within (place_of i) goes p) j u (eqb-true j.parent (place_of i) e ∙ sym (first_at (place_of i) goes p)) in
          (ap not (among_in (place_of j) goes (of_front (place_of j) (place_in goes (place_of i)) goes b)), in_front (place_of j) (place_in goes (place_of i)) goes b)

      pass : IsPass K (λ i. not (among (place_of i) goes)) (λ i. place_in goes (place_of i))
      pass = record {
        kept = child;
        dropped_group = λ i t h. (parts i t h).0;
        dropped_bare = λ i t h. not-true (nat_lt 0 (length (kept_brushes i.reading))) (parts i t h).1;
        before = earlier;
        few = λ i t h. let a = place_within (place_of i) goes (goes_in i h) in let b = going_few next goes counts g in omega arith;
      }

-- ---- counting the children

filter_most : {A : Type 0} (p : A → Bool) (xs : List A) → length (filter p xs) ≤ length xs
filter_most p [] = omega arith
filter_most p (x ∷ xs) = let w = filter_most p xs in elim (cases_Bool (p x)) [
  | inl e ↦ rw e (omega arith)
  | inr e ↦ rw e (omega arith)
]

pub counted_few : (K : List Item) (i : ℕ) (counts : List ℕ) → i ≤ length K → ChildCounts (length K) (take i K) [] counts → (p : ℕ) → p < length K → get_or counts p 0 ≤ i
counted_few K i counts v c p w =
    let e = c.number p w in
    let m = filter_most (λ (j : Item). (j.parent == p) && not (among (place_of j) [])) (take i K) in
    let l = length-take-le i K v in
    omega arith

pub none_counted : (n : ℕ) → ChildCounts n [] [] (replicate n 0)
none_counted n = record { count = length-replicate n 0; number = λ p w. get_or-replicate n p 0 0 w }

pub counted_more : (K : List Item) (i : ℕ) (x : Item) (counts : List ℕ) → i < length K → x ≡ get_or K i x → x.parent < length K → ChildCounts (length K) (take i K) [] counts
    → ChildCounts (length K) (take (i + 1) K) [] (set counts x.parent (get_or counts x.parent 0 + 1))
counted_more K i x counts w is v c = record { count = length-set counts x.parent (get_or counts x.parent 0 + 1) ∙ c.count; number = number_at }
  where
    number_at : (p : ℕ) → p < length K → get_or (set counts x.parent (get_or counts x.parent 0 + 1)) p 0 ≡ children_left (take (i + 1) K) [] p
    number_at p u = elim (cases_eq x.parent p) [
      | inl e ↦
          let long = c.count in
          let n = c.number p u in
          let f = ap length (filter_in (λ (j : Item). (j.parent == p) && not (among (place_of j) [])) K i x w is (and_from (x.parent == p) true (eq-eqb x.parent p e) refl)) in
          let g = length_push (filter (λ (j : Item). (j.parent == p) && not (among (place_of j) [])) (take i K)) x in
          ap (λ q. get_or (set counts q (get_or counts q 0 + 1)) p 0) e ∙ get_or-set_same counts p (get_or counts p 0 + 1) 0 (omega arith)
          ∙ (omega arith)
      | inr d ↦
          get_or-set_other counts x.parent p (get_or counts x.parent 0 + 1) 0 (λ e. d (sym e)) ∙ c.number p u
          ∙ sym (ap length (filter_out (λ (j : Item). (j.parent == p) && not (among (place_of j) [])) K i x w is (and_left (x.parent == p) true (ne_eqb x.parent p d))))
    ]

-- ---- one step of the pass, as a loop makes it

-- what a list with a front written anew is, where its length stays
pub written_back : (n : ℕ) (old new : List ℕ) → length new ≡ n → length old ≡ n → take n (new ++ drop (length new) old) ≡ new
written_back n old new a b =
    ap (λ l. take n (new ++ l)) (drop_all (length new) old (omega arith)) ∙ ap (take n) (append-nil new) ∙ take_all n new (omega arith)

pub lowered_by : (n : ℕ) (counts now new : List ℕ) (place up : ℕ) → now ≡ counts → new ≡ set now place (get_or now place 0 - 1) → place ≡ up → length counts ≡ n
    → take n (new ++ drop (length new) counts) ≡ set counts up (get_or counts up 0 - 1)
lowered_by n counts now new place up a b c d =
    written_back n counts new (ap length b ∙ length-set now place (get_or now place 0 - 1) ∙ ap length a ∙ d) d
    ∙ b ∙ (λ j. set (a j) (c j) (get_or (a j) (c j) 0 - 1))

same_at : (xs : List ℕ) (i d e : ℕ) → i < length xs → get_or xs i d ≡ get_or xs i e
same_at [] i d e w = absurd (omega arith)
same_at (x ∷ xs) zero d e w = refl
same_at (x ∷ xs) (suc i) d e w = same_at xs i d e (omega arith)

module _ (K : List Item) (at : AreInPlace K) (next : ℕ) (goes counts : List ℕ) (g : Going K next goes counts) (w : next < length goes) (p : ℕ) (is : p ≡ get_or goes next p) where
  pub leaves_within : p < length K
  leaves_within = g.below p (subst (λ (n : ℕ). n ∈ goes) (sym (is ∙ same_at goes next p 0 w)) (member_at goes next 0 w))

  module _ (i : Item) (i_is : i ≡ get_or K p i) where
    pub leaves_in : i ∈ K
    leaves_in = in_list K p i leaves_within i_is

    pub leaves_at : place_of i ≡ get_or goes next 0
    leaves_at = stands_at place_of K at p i leaves_within i_is ∙ is ∙ same_at goes next p 0 w

    pub child_counted : i.parent < length K → 0 < get_or counts i.parent 0
    child_counted v =
        let a = parent_less K at next goes counts g w i leaves_in leaves_at in
        let b = g.counted.number i.parent v in
        omega arith
