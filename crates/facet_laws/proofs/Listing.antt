-- The first of each kind of triples that rise.
use Rattle.std.proofs.Common.{◌≡◌, ℕ, List, [], ◌∷◌, map, Bool, true, false, not, cond, refl, ap, ap₂, sym, ◌∙◌, subst, true≢false}
use Rattle.std.specs.Prelude.{filter}
use Rattle.std.specs.Bool.{Decides}
use Rattle.algebra.specs.Members.{◌∈◌, here, there}
use Rattle.hull_laws.specs.Facets.{Triple, Before, Rising, Listed, no_triples, one_more_triple}
use Rattle.hull_laws.proofs.Unique.{not_before_itself}
use Rattle.map_model.specs.Brushes.{first_of_each}
use Rattle.map_model.proofs.Members.{in_filter, filter_in}
use Rattle.map_laws.proofs.Tests.{not_true}

-- Tests of what items are taken to. --------------------------------------------------------------------------------------------------------

pub map_filter : {A B : Type 0} (f : A → B) (p : B → Bool) (xs : List A) → map f (filter (λ x. p (f x)) xs) ≡ filter p (map f xs)
map_filter f p [] = refl
map_filter {A} f p (x ∷ xs) = by (p (f x)) ∙ ap (λ l. cond (p (f x)) (f x ∷ l) l) (map_filter f p xs)
  where
    by : (t : Bool) → map f (cond t (x ∷ filter (λ y. p (f y)) xs) (filter (λ y. p (f y)) xs)) ≡ cond t (f x ∷ map f (filter (λ y. p (f y)) xs)) (map f (filter (λ y. p (f y)) xs))
    by true = refl
    by false = refl

pub map_chosen : {A B : Type 0} (f : A → B) (same : B → B → Bool) (xs : List A) → map f (first_of_each (λ x y. same (f x) (f y)) xs) ≡ first_of_each same (map f xs)
map_chosen f same [] = refl
map_chosen f same (x ∷ xs) =
    ap (λ l. f x ∷ l) (map_filter f (λ y. not (same (f x) y)) (first_of_each (λ x y. same (f x) (f y)) xs) ∙ ap (filter (λ y. not (same (f x) y))) (map_chosen f same xs))

-- Lists that rise. -------------------------------------------------------------------------------------------------------------------------

pub rising_filter : (p : Triple → Bool) (ts : List Triple) → Rising ts → Rising (filter p ts)
rising_filter p [] r = no_triples
rising_filter p (t ∷ ts) (one_more_triple b r) = by (p t) (rising_filter p ts r)
  where
    by : (k : Bool) → Rising (filter p ts) → Rising (cond k (t ∷ filter p ts) (filter p ts))
    by true later = one_more_triple (λ u i. b u (in_filter p ts u i).0) later
    by false later = later

module _ (alike : Triple → Triple → Bool) where
  pub chosen_in : (ts : List Triple) (t : Triple) → t ∈ first_of_each alike ts → t ∈ ts
  chosen_in [] t i = elim i [ ]
  chosen_in (x ∷ xs) t here = here
  chosen_in (x ∷ xs) t (there i) = there (chosen_in xs t (in_filter (λ y. not (alike x y)) (first_of_each alike xs) t i).0)

  rising_chosen : (ts : List Triple) → Rising ts → Rising (first_of_each alike ts)
  rising_chosen [] r = no_triples
  rising_chosen (t ∷ ts) (one_more_triple b r) = one_more_triple
      (λ u i. b u (chosen_in ts u (in_filter (λ y. not (alike t y)) (first_of_each alike ts) u i).0))
      (rising_filter (λ y. not (alike t y)) (first_of_each alike ts) (rising_chosen ts r))

  module _ (Good : Triple → Type 0) (Alike : Triple → Triple → Type 0) (decides : (s t : Triple) → Good s → Good t → Decides (alike s t) (Alike s t))
      (same : (t : Triple) → Alike t t) (back : (s t : Triple) → Alike s t → Alike t s) (onward : (s t u : Triple) → Alike s t → Alike t u → Alike s u) where
    record Stands (ts : List Triple) (t : Triple) : Type 0 where
      it : Triple
      among : it ∈ ts
      alike_it : Alike it t

    stands : (ts : List Triple) → ((u : Triple) → u ∈ ts → Good u) → (t : Triple) → t ∈ ts → Stands (first_of_each alike ts) t
    stands [] each t i = elim i [ ]
    stands (x ∷ xs) each t here = record { it = x; among = here; alike_it = same x }
    stands (x ∷ xs) each t (there i) = by (stands xs (λ u j. each u (there j)) t i)
      where
        by : Stands (first_of_each alike xs) t → Stands (first_of_each alike (x ∷ xs)) t
        by s = pick (alike x s.it) refl
          where
            pick : (k : Bool) → alike x s.it ≡ k → Stands (first_of_each alike (x ∷ xs)) t
            pick true e = record { it = x; among = here; alike_it = onward x s.it t ((decides x s.it (each x here) (each s.it (there (chosen_in xs s.it s.among)))).0 e) s.alike_it }
            pick false e = record { it = s.it; among = there (filter_in (λ y. not (alike x y)) (first_of_each alike xs) s.it s.among (ap not e)); alike_it = s.alike_it }

    none_before : (ts : List Triple) → Rising ts → ((u : Triple) → u ∈ ts → Good u) → (s t : Triple) → s ∈ first_of_each alike ts → t ∈ ts → Alike s t → Before t s → ⊥
    none_before [] r each s t i j a l = elim i [ ]
    none_before (x ∷ xs) (one_more_triple b r) each s t here here a l = not_before_itself s t l l
    none_before (x ∷ xs) (one_more_triple b r) each s t here (there j) a l = not_before_itself s t (b t j) l
    none_before (x ∷ xs) (one_more_triple b r) each s t (there i) here a l =
        let k = in_filter (λ y. not (alike x y)) (first_of_each alike xs) s i in
        true≢false (sym ((decides x s (each x here) (each s (there (chosen_in xs s k.0)))).1 (back s x a)) ∙ not_true (alike x s) k.1)
    none_before (x ∷ xs) (one_more_triple b r) each s t (there i) (there j) a l =
        none_before xs r (λ u k. each u (there k)) s t (in_filter (λ y. not (alike x y)) (first_of_each alike xs) s i).0 j a l

    pub listed : (ts : List Triple) → Rising ts → ((u : Triple) → u ∈ ts → Good u) → ((u : Triple) → Good u → u ∈ ts) → Listed Good Alike (first_of_each alike ts)
    listed ts r each all = record {
      each = λ t i. each t (chosen_in ts t i);
      all = λ t g. let s = stands ts each t (all t g) in (s.it, s.among, s.alike_it);
      first = λ s t i g a l. none_before ts r each s t i (all t g) a l;
      rising = rising_chosen ts r;
    }
