-- Properties in which no key stands twice.
use Rattle.std.proofs.Common.{◌≡◌, ℕ, Bool, true, false, not, cond, ◌&&◌, List, [], ◌∷◌, filter, ap, ap₂, subst, ◌∙◌, refl}
use Rattle.std.specs.List.{list_all}
use Rattle.std.specs.Str.{bytes_eq}
use Rattle.std.proofs.lemmas.Bool.{false≢true}
use Rattle.std.proofs.lemmas.Slice.Eq.{bytes_eq-Decides}
use Rattle.map_text.specs.Meaning.{put_property}
use Rattle.map_text.specs.Spelled.{keys_are_distinct}
use Rattle.map_nodes.specs.Pairs.{without_key}
use Rattle.map_nodes.proofs.Copies.{bytes_eq-flipped}

first_of : (a b : Bool) → (a && b) ≡ true → a ≡ true
first_of true b h = refl
first_of false b h = h

second_of : (a b : Bool) → (a && b) ≡ true → b ≡ true
second_of true b h = h
second_of false b h = absurd (false≢true h)

-- a list of pairs at whose first one a test is asked
module _ (t : (List ℕ × List ℕ) → Bool) where
  -- a test of keys that all of them pass, where it looks at keys alone
  put_passes : ((p q : List ℕ × List ℕ) → p.0 ≡ q.0 → t p ≡ t q) → (key value : List ℕ) (ps : List (List ℕ × List ℕ)) → t (key, value) ≡ true → list_all t ps ≡ true → list_all t (put_property key value ps) ≡ true
  put_passes by_key key value [] k h = ap (λ b. b && true) k
  put_passes by_key key value (p ∷ ps) k h = by (bytes_eq p.0 key) refl (put_passes by_key key value ps k (second_of (t p) (list_all t ps) h))
    where
      by : (b : Bool) → bytes_eq p.0 key ≡ b → list_all t (put_property key value ps) ≡ true → list_all t (put_property key value (p ∷ ps)) ≡ true
      by true e more = ap (λ b. list_all t (cond b ((key, value) ∷ ps) (p ∷ put_property key value ps))) e ∙ ap₂ (λ a b. a && b) k (second_of (t p) (list_all t ps) h)
      by false e more = ap (λ b. list_all t (cond b ((key, value) ∷ ps) (p ∷ put_property key value ps))) e ∙ ap₂ (λ a b. a && b) (first_of (t p) (list_all t ps) h) more

  filter_passes : (f : (List ℕ × List ℕ) → Bool) (ps : List (List ℕ × List ℕ)) → list_all t ps ≡ true → list_all t (filter f ps) ≡ true
  filter_passes f [] h = refl
  filter_passes f (p ∷ ps) h = by (f p) refl (filter_passes f ps (second_of (t p) (list_all t ps) h))
    where
      by : (b : Bool) → f p ≡ b → list_all t (filter f ps) ≡ true → list_all t (filter f (p ∷ ps)) ≡ true
      by true e more = ap (λ b. list_all t (cond b (p ∷ filter f ps) (filter f ps))) e ∙ ap₂ (λ a b. a && b) (first_of (t p) (list_all t ps) h) more
      by false e more = ap (λ b. list_all t (cond b (p ∷ filter f ps) (filter f ps))) e ∙ more

-- no other key is that of p
abbrev differs_from : (List ℕ × List ℕ) → (List ℕ × List ℕ) → Bool
differs_from p q = not (bytes_eq q.0 p.0)

pub put_distinct : (key value : List ℕ) (ps : List (List ℕ × List ℕ)) → keys_are_distinct ps ≡ true → keys_are_distinct (put_property key value ps) ≡ true
put_distinct key value [] h = refl
put_distinct key value (p ∷ ps) h = by (bytes_eq p.0 key) refl (put_distinct key value ps (second_of (list_all (differs_from p) ps) (keys_are_distinct ps) h))
  where
    others : list_all (differs_from p) ps ≡ true
    others = first_of (list_all (differs_from p) ps) (keys_are_distinct ps) h

    by : (b : Bool) → bytes_eq p.0 key ≡ b → keys_are_distinct (put_property key value ps) ≡ true → keys_are_distinct (put_property key value (p ∷ ps)) ≡ true
    by true e more = ap (λ b. keys_are_distinct (cond b ((key, value) ∷ ps) (p ∷ put_property key value ps))) e
        ∙ ap₂ (λ a b. a && b) (subst (λ k. list_all (λ q. not (bytes_eq q.0 k)) ps ≡ true) ((bytes_eq-Decides p.0 key).0 e) others) (second_of (list_all (differs_from p) ps) (keys_are_distinct ps) h)
    by false e more = ap (λ b. keys_are_distinct (cond b ((key, value) ∷ ps) (p ∷ put_property key value ps))) e
        ∙ ap₂ (λ a b. a && b) (put_passes (differs_from p) (λ q r k. ap (λ x. not (bytes_eq x p.0)) k) key value ps (ap not (bytes_eq-flipped key p.0 ∙ e)) others) more

filter_distinct : (f : (List ℕ × List ℕ) → Bool) (ps : List (List ℕ × List ℕ)) → keys_are_distinct ps ≡ true → keys_are_distinct (filter f ps) ≡ true
filter_distinct f [] h = refl
filter_distinct f (p ∷ ps) h = by (f p) refl (filter_distinct f ps (second_of (list_all (differs_from p) ps) (keys_are_distinct ps) h))
  where
    others : list_all (differs_from p) ps ≡ true
    others = first_of (list_all (differs_from p) ps) (keys_are_distinct ps) h

    by : (b : Bool) → f p ≡ b → keys_are_distinct (filter f ps) ≡ true → keys_are_distinct (filter f (p ∷ ps)) ≡ true
    by true e more = ap (λ b. keys_are_distinct (cond b (p ∷ filter f ps) (filter f ps))) e ∙ ap₂ (λ a b. a && b) (filter_passes (differs_from p) f ps others) more
    by false e more = ap (λ b. keys_are_distinct (cond b (p ∷ filter f ps) (filter f ps))) e ∙ more

pub without_distinct : (key : List ℕ) (ps : List (List ℕ × List ℕ)) → keys_are_distinct ps ≡ true → keys_are_distinct (without_key key ps) ≡ true
without_distinct key ps h = filter_distinct (λ p. not (bytes_eq p.0 key)) ps h
