-- Properties as they are held: what is put in, taken out, found and copied.
use Rattle.std.proofs.Common.{◌≡◌, ℕ, Bool, true, false, not, cond, List, [], ◌∷◌, Option, Some, None, is_some, option_map, Vec, vec_len, ap, ap₂, sym, ◌∙◌, refl}
use Rattle.std.specs.Str.{bytes_eq}
use Rattle.std.specs.List.{AllZip, each_same}
use Rattle.std.specs.Map.{lookup}
use Rattle.std.proofs.lemmas.Bool.{false≢true}
use Rattle.std.proofs.lemmas.Slice.Eq.{bytes_eq-Decides}
use Rattle.indexmap.specs.IndexMap.{insert_entry, shift_remove_entry}
use Rattle.map_text.specs.Meaning.{put_property, value_of_key}
use Rattle.map_nodes.specs.Pairs.{pairs_of, without_key}

pub bytes_eq-flipped : (a b : List ℕ) → bytes_eq a b ≡ bytes_eq b a
bytes_eq-flipped a b = by (bytes_eq a b) (bytes_eq b a) refl refl
  where
    by : (x y : Bool) → bytes_eq a b ≡ x → bytes_eq b a ≡ y → x ≡ y
    by true true e h = refl
    by false false e h = refl
    by true false e h = absurd (false≢true (sym h ∙ (bytes_eq-Decides b a).1 (sym ((bytes_eq-Decides a b).0 e))))
    by false true e h = absurd (false≢true (sym e ∙ (bytes_eq-Decides a b).1 (sym ((bytes_eq-Decides b a).0 h))))

some_is_none : {A : Type 0} {x : A} → ¬ (Some x ≡ None)
some_is_none h = absurd (cc)

-- what a clone of a key or a value is
abbrev pub IsCloneVec : {A : Type 0} → Vec ℕ A → Vec ℕ A → Type 0
IsCloneVec v w = AllZip (λ x y. y ≡ x) v.items w.items × (vec_len w ≡ vec_len v)

-- how the map tells keys apart
abbrev pub same_vec : {A : Type 0} → Vec ℕ A → Vec ℕ A → Bool
same_vec a b = bytes_eq a.items b.items

pub inserted : {A : Type 0} (es : List (Vec ℕ A × Vec ℕ A)) (k v : Vec ℕ A) → pairs_of (insert_entry same_vec es k v) ≡ put_property k.items v.items (pairs_of es)
inserted [] k v = refl
inserted (e ∷ es) k v = by (bytes_eq k.items e.0.items) refl (inserted es k v)
  where
    by : (b : Bool) → bytes_eq k.items e.0.items ≡ b → pairs_of (insert_entry same_vec es k v) ≡ put_property k.items v.items (pairs_of es)
        → pairs_of (insert_entry same_vec (e ∷ es) k v) ≡ put_property k.items v.items (pairs_of (e ∷ es))
    by true h more =
        ap (λ b. pairs_of (cond b ((e.0, v) ∷ es) (e ∷ insert_entry same_vec es k v))) h
        ∙ ap (λ n. (n, v.items) ∷ pairs_of es) (sym ((bytes_eq-Decides k.items e.0.items).0 h))
        ∙ ap (λ b. cond b ((k.items, v.items) ∷ pairs_of es) ((e.0.items, e.1.items) ∷ put_property k.items v.items (pairs_of es))) (sym (bytes_eq-flipped e.0.items k.items ∙ h))
    by false h more =
        ap (λ b. pairs_of (cond b ((e.0, v) ∷ es) (e ∷ insert_entry same_vec es k v))) h
        ∙ ap (λ ps. (e.0.items, e.1.items) ∷ ps) more
        ∙ ap (λ b. cond b ((k.items, v.items) ∷ pairs_of es) ((e.0.items, e.1.items) ∷ put_property k.items v.items (pairs_of es))) (sym (bytes_eq-flipped e.0.items k.items ∙ h))

-- what a look-up finds
pub found : {A : Type 0} (key : List ℕ) (es : List (Vec ℕ A × Vec ℕ A)) → option_map (λ v. v.items) (lookup (λ k. bytes_eq key k.items) es) ≡ value_of_key key (pairs_of es)
found key [] = refl
found key (e ∷ es) = by (bytes_eq key e.0.items) refl (found key es)
  where
    by : (b : Bool) → bytes_eq key e.0.items ≡ b → option_map (λ v. v.items) (lookup (λ k. bytes_eq key k.items) es) ≡ value_of_key key (pairs_of es)
        → option_map (λ v. v.items) (lookup (λ k. bytes_eq key k.items) (e ∷ es)) ≡ value_of_key key (pairs_of (e ∷ es))
    by true h more = ap (λ b. option_map (λ v. v.items) (cond b (Some e.1) (lookup (λ k. bytes_eq key k.items) es))) h
        ∙ ap (λ b. cond b (Some e.1.items) (value_of_key key (pairs_of es))) (sym (bytes_eq-flipped e.0.items key ∙ h))
    by false h more = ap (λ b. option_map (λ v. v.items) (cond b (Some e.1) (lookup (λ k. bytes_eq key k.items) es))) h
        ∙ more ∙ ap (λ b. cond b (Some e.1.items) (value_of_key key (pairs_of es))) (sym (bytes_eq-flipped e.0.items key ∙ h))

pub is_found : {A : Type 0} (key : List ℕ) (es : List (Vec ℕ A × Vec ℕ A)) → is_some (lookup (λ k. bytes_eq key k.items) es) ≡ is_some (value_of_key key (pairs_of es))
is_found {A} key es = by (lookup (λ k. bytes_eq key k.items) es) ∙ ap is_some (found key es)
  where
    by : (o : Option (Vec ℕ A)) → is_some o ≡ is_some (option_map (λ v. v.items) o)
    by None = refl
    by (Some v) = refl

-- where no key is the one, all stay
all_kept : {A : Type 0} (key : List ℕ) (es : List (Vec ℕ A × Vec ℕ A)) → lookup (λ k. bytes_eq key k.items) es ≡ None → without_key key (pairs_of es) ≡ pairs_of es
all_kept key [] h = refl
all_kept key (e ∷ es) h = by (all_kept key es) (bytes_eq key e.0.items) refl
  where
    by : (lookup (λ k. bytes_eq key k.items) es ≡ None → without_key key (pairs_of es) ≡ pairs_of es) → (b : Bool) → bytes_eq key e.0.items ≡ b → without_key key (pairs_of (e ∷ es)) ≡ pairs_of (e ∷ es)
    by more true t = absurd (some_is_none (sym (ap (λ b. cond b (Some e.1) (lookup (λ k. bytes_eq key k.items) es)) t) ∙ h))
    by more false t = ap (λ b. cond (not b) ((e.0.items, e.1.items) ∷ without_key key (pairs_of es)) (without_key key (pairs_of es))) (bytes_eq-flipped e.0.items key ∙ t)
        ∙ ap (λ l. (e.0.items, e.1.items) ∷ l) (more (sym (ap (λ b. cond b (Some e.1) (lookup (λ k. bytes_eq key k.items) es)) t) ∙ h))

-- the pair that is taken out was the only one with its key
pub taken_out : {A : Type 0} (key : List ℕ) (es : List (Vec ℕ A × Vec ℕ A)) → lookup (λ k. bytes_eq key k.items) (shift_remove_entry (λ k. bytes_eq key k.items) es) ≡ None
    → pairs_of (shift_remove_entry (λ k. bytes_eq key k.items) es) ≡ without_key key (pairs_of es)
taken_out key [] h = refl
taken_out {A} key (e ∷ es) h = by (taken_out key es) (bytes_eq key e.0.items) refl
  where
    left : Bool → List (Vec ℕ A × Vec ℕ A)
    left b = cond b es (e ∷ shift_remove_entry (λ k. bytes_eq key k.items) es)

    by : (lookup (λ k. bytes_eq key k.items) (shift_remove_entry (λ k. bytes_eq key k.items) es) ≡ None → pairs_of (shift_remove_entry (λ k. bytes_eq key k.items) es) ≡ without_key key (pairs_of es))
        → (b : Bool) → bytes_eq key e.0.items ≡ b → pairs_of (shift_remove_entry (λ k. bytes_eq key k.items) (e ∷ es)) ≡ without_key key (pairs_of (e ∷ es))
    by more true t = ap (λ b. pairs_of (left b)) t ∙ sym (all_kept key es (sym (ap (λ b. lookup (λ k. bytes_eq key k.items) (left b)) t) ∙ h))
        ∙ ap (λ b. cond (not b) ((e.0.items, e.1.items) ∷ without_key key (pairs_of es)) (without_key key (pairs_of es))) (sym (bytes_eq-flipped e.0.items key ∙ t))
    by more false t = ap (λ b. pairs_of (left b)) t
        ∙ ap (λ l. (e.0.items, e.1.items) ∷ l) (more (sym (ap (λ b. cond b (Some e.1) (lookup (λ k. bytes_eq key k.items) (shift_remove_entry (λ k. bytes_eq key k.items) es))) t) ∙ sym (ap (λ b. lookup (λ k. bytes_eq key k.items) (left b)) t) ∙ h))
        ∙ ap (λ b. cond (not b) ((e.0.items, e.1.items) ∷ without_key key (pairs_of es)) (without_key key (pairs_of es))) (sym (bytes_eq-flipped e.0.items key ∙ t))

-- clones have the same pairs
pub cloned : {A : Type 0} (es fs : List (Vec ℕ A × Vec ℕ A)) → AllZip (λ p q. IsCloneVec p.0 q.0 × IsCloneVec p.1 q.1) es fs → pairs_of fs ≡ pairs_of es
cloned [] [] h = refl
cloned [] (f ∷ fs) h = absurd h
cloned (e ∷ es) [] h = absurd h
cloned (e ∷ es) (f ∷ fs) h = ap₂ (λ p ps. p ∷ ps) (ap₂ (λ k v. (k, v)) (each_same e.0.items f.0.items h.0.0.0) (each_same e.1.items f.1.items h.0.1.0)) (cloned es fs h.1)
