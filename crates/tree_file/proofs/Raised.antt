-- Flags by place, and what they keep.
use Rattle.std.proofs.Common.{◌≡◌, inl, inr, ℕ, ◌+◌, ◌<◌, Bool, true, false, cond, not, ◌==◌, List, [], ◌∷◌, ◌++◌, map, filter, length, get_or, take, drop, set, replicate, refl, ap, sym, ◌∙◌, arith, zero-add}
use Rattle.std.proofs.lemmas.Bool.{cases_Bool, cases_eq, eq-eqb, eqb-true, both_ways, false_from_ne_true}
use Rattle.std.proofs.lemmas.List.{take_more, get_or-map, length-map, get_or-set_same, get_or-set_other, length-set, ext_get_or, get_or-replicate, length-replicate, drop_all, take_all, append-nil, append_assoc, map-append}
use Rattle.algebra.specs.Members.{◌∈◌}
use Rattle.map_model.specs.Tree.{among, numbers_from}
use Rattle.file_laws.specs.Build.{Note, Item, noted, place_of, kept_items, is_dropped}
use Rattle.file_laws.proofs.Lists.{map_of_map, map_agree, in_filter, of_filter, any_from, none_of, filter_agrees}
use Rattle.tree_file.specs.Passes.{AreInPlace, Tells}
use Rattle.tree_file.proofs.Lists.{filter_in, filter_out}
use Rattle.tree_file.proofs.InPlaces.{numbers_length, number_at, one_at_place, stands_at, kept_is}
use Rattle.tree_file.proofs.EmptyGroups.{among_more, among_last}

-- one flag more is up
pub raised : (n : ℕ) (places : List ℕ) (i p : ℕ) (flags : List Bool) → i < length places → p ≡ get_or places i 0 → p < n → Tells n (take i places) flags → Tells n (take (i + 1) places) (set flags p true)
raised n places i p flags w is v t = record { count = length-set flags p true ∙ t.count; flag = flag_at }
  where
    more : take (i + 1) places ≡ take i places ++ p ∷ []
    more = take_more places i 0 w ∙ ap (λ q. take i places ++ q ∷ []) (sym is)

    flag_at : (q : ℕ) → q < n → get_or (set flags p true) q false ≡ among q (take (i + 1) places)
    flag_at q u = elim (cases_eq p q) [
      | inl e ↦
          let c = t.count in
          ap (λ k. get_or (set flags p true) k false) (sym e) ∙ get_or-set_same flags p true false (omega arith)
          ∙ sym (ap (among q) more ∙ among_last q p (take i places) e)
      | inr d ↦
          get_or-set_other flags p q true false (λ e. d (sym e)) ∙ t.flag q u
          ∙ sym (ap (among q) more ∙ among_more q p (take i places) d)
    ]

pub none_raised : (n : ℕ) → Tells n [] (replicate n false)
none_raised n = record { count = length-replicate n false; flag = λ p w. get_or-replicate n p false false w }

told : (n : ℕ) (places : List ℕ) (flags : List Bool) → Tells n places flags → flags ≡ map (λ p. among p places) (numbers_from 0 n)
told n places flags t =
    let c = t.count in
    let a = length-map (numbers_from 0 n) (λ p. among p places) in
    let b = numbers_length 0 n in
    ext_get_or false flags (map (λ p. among p places) (numbers_from 0 n)) (omega arith) (λ p w.
    t.flag p (omega arith)
    ∙ sym (get_or-map (λ p. among p places) (numbers_from 0 n) p 0 false (omega arith) ∙ ap (λ q. among q places) (number_at 0 n p 0 (omega arith) ∙ zero-add p)))

not_not : (b : Bool) → not (not b) ≡ b
not_not true = refl
not_not false = refl

-- an item is dropped where its test fails
dropped_is : (K : List Item) → AreInPlace K → (q : Item → Bool) (i : Item) → i ∈ K → is_dropped (filter q K) i ≡ not (q i)
dropped_is K at q i t = ap not (elim (cases_Bool (q i)) [
  | inl e ↦ any_from (λ j. place_of j == place_of i) (filter q K) i (in_filter q K i t e) (eq-eqb (place_of i) (place_of i) refl) ∙ sym e
  | inr e ↦ none_of (λ j. place_of j == place_of i) (filter q K) (λ j u. false_from_ne_true (place_of j == place_of i) (λ s.
      let f = of_filter q K j u in
      both_ways (q i) e (ap q (one_at_place place_of K at i j t f.0 (sym (eqb-true (place_of j) (place_of i) s))) ∙ f.1))) ∙ sym e
])

pub dropped_flags : (K : List Item) → AreInPlace K → (goes : List ℕ) (flags : List Bool) → kept_items K ≡ filter (λ i. not (among (place_of i) goes)) K → Tells (length K) goes flags
    → flags ≡ map (is_dropped (kept_items K)) K
dropped_flags K at goes flags e t =
    told (length K) goes flags t ∙ ap (map (λ p. among p goes)) (sym at) ∙ map_of_map (λ p. among p goes) place_of K
    ∙ map_agree (λ i. among (place_of i) goes) (is_dropped (kept_items K)) K (λ i u.
    sym (ap (λ l. is_dropped l i) e ∙ dropped_is K at (λ j. not (among (place_of j) goes)) i u ∙ not_not (among (place_of i) goes)))

pub not_dropped_kept : (K : List Item) → AreInPlace K → filter (λ i. not (is_dropped (kept_items K) i)) K ≡ kept_items K
not_dropped_kept K at =
    let q = kept_is K in
    filter_agrees (λ i. not (is_dropped (kept_items K) i)) q.0 K (λ i t.
    ap not (ap (λ l. is_dropped l i) q.1 ∙ dropped_is K at q.0 i t) ∙ not_not (q.0 i)) ∙ sym q.1

-- the flag of an item
pub flag_of : (K : List Item) → AreInPlace K → (f : Item → Bool) (flags : List Bool) → flags ≡ map f K → (i : ℕ) (x : Item) → i < length K → x ≡ get_or K i x → get_or flags (place_of x) false ≡ f x
flag_of K at f flags e i x w is =
    ap (λ n. get_or flags n false) (stands_at place_of K at i x w is) ∙ ap (λ l. get_or l i false) e ∙ get_or-map f K i x false w ∙ ap f (sym is)

-- one item more, which stays unless it is dropped
pub kept_next : (f : Item → Bool) (K : List Item) (i : ℕ) (x : Item) (t : Bool) (kept more : List Item) → i < length K → x ≡ get_or K i x → t ≡ f x → kept ≡ filter (λ j. not (f j)) (take i K)
    → more ≡ cond t kept (kept ++ x ∷ []) → more ≡ filter (λ j. not (f j)) (take (i + 1) K)
kept_next f K i x true kept more w is e k m = m ∙ k ∙ sym (filter_out (λ j. not (f j)) K i x w is (ap not (sym e)))
kept_next f K i x false kept more w is e k m = m ∙ ap (λ l. l ++ x ∷ []) k ∙ sym (filter_in (λ j. not (f j)) K i x w is (ap not (sym e)))

-- ---- notes on items, one more at a time

pub noted_one : (note : ℕ → Note) (p : Item → Bool) (K : List Item) (i : ℕ) (x : Item) (start : List Note) → i < length K → x ≡ get_or K i x → p x ≡ true
    → (start ++ noted note (map place_of (filter p (take i K)))) ++ note (place_of x) ∷ [] ≡ start ++ noted note (map place_of (filter p (take (i + 1) K)))
noted_one note p K i x start w is t =
    append_assoc start (noted note (map place_of (filter p (take i K)))) (note (place_of x) ∷ [])
    ∙ ap (λ l. start ++ l) (sym (ap (λ l. noted note (map place_of l)) (filter_in p K i x w is t)
    ∙ ap (map note) (map-append place_of (filter p (take i K)) (x ∷ [])) ∙ map-append note (map place_of (filter p (take i K))) (place_of x ∷ [])))

pub noted_none : (note : ℕ → Note) (p : Item → Bool) (K : List Item) (i : ℕ) (x : Item) (start : List Note) → i < length K → x ≡ get_or K i x → p x ≡ false
    → start ++ noted note (map place_of (filter p (take i K))) ≡ start ++ noted note (map place_of (filter p (take (i + 1) K)))
noted_none note p K i x start w is t = ap (λ l. start ++ noted note (map place_of l)) (sym (filter_out p K i x w is t))

pub flags_back : (n : ℕ) (old new : List Bool) → length new ≡ n → length old ≡ n → take n (new ++ drop (length new) old) ≡ new
flags_back n old new a b =
    ap (λ l. take n (new ++ l)) (drop_all (length new) old (omega arith)) ∙ ap (take n) (append-nil new) ∙ take_all n new (omega arith)
