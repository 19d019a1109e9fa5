-- The parts of a saved entity.
use Rattle.std.proofs.Common.{◌≡◌, ℕ, zero, suc, ◌+◌, ◌<◌, Bool, true, false, cond, nat_lt, nat_eq, ◌==◌, List, [], ◌∷◌, ◌++◌, length, get_or, take, drop, Option, Some, option_map, unwrap_or, codes, refl, ap, sym, ◌∙◌, arith, add-one, drop-cons, append_assoc}
use Rattle.std.specs.HashMap.{HashMap, get}
use Rattle.std.specs.List.{join_with_byte}
use Rattle.std.proofs.lemmas.List.{take_more}
use Rattle.std.proofs.lemmas.Bool.{lt-ltb}
use Rattle.map_model.specs.Tree.{Whole, Node, Layer, Group, World, Entity, Brush, at, layer, group, has_kind, is_kind}
use Rattle.map_model.specs.Saved.{count_to, id_of, parent_props, protected_props}
use Rattle.map_model.specs.Shape.{joined_keys}
use Rattle.tree_file.specs.Saving.{with_key}

-- the table counts the numbers from place l + 1 on, and then also that of place l
pub counts_more : {S : Type 0} (old new : HashMap ℕ ℕ S) (ns : List ℕ) (l big key v x past n : ℕ) → big ≡ l + 1 → l < length ns
    → get nat_eq new n ≡ cond (nat_eq key n) (Some v) (get nat_eq old n) → key ≡ get_or ns l x → v ≡ big
    → unwrap_or (get nat_eq old n) past ≡ big + count_to n (drop big ns) → unwrap_or (get nat_eq new n) past ≡ l + count_to n (drop l ns)
counts_more old new ns l big key v x past n e lt added at_key at_v so_far =
    ap (λ o. unwrap_or o past) added
    ∙ ap (λ k. unwrap_or (cond (nat_eq k n) (Some v) (get nat_eq old n)) past) at_key
    ∙ by_test (nat_eq (get_or ns l x) n)
    ∙ sym (ap (λ d. l + count_to n d) (drop-cons ns l x lt))
  where
    by_test : (t : Bool) → unwrap_or (cond t (Some v) (get nat_eq old n)) past ≡ l + cond t 1 (count_to n (drop (suc l) ns) + 1)
    by_test true = at_v ∙ e
    by_test false =
        so_far ∙ ap (λ k. k + count_to n (drop k ns)) (e ∙ add-one l) ∙ (let d = count_to n (drop (suc l) ns) in omega arith)

-- what the keys are that tell a node's parent
pub parent_layer : (m : Whole) (p : ℕ) {name : List ℕ} {frozen : Bool} {ps : List (List ℕ × List ℕ)} {bs os : List ℕ} → at m p ≡ Some (Layer name frozen ps bs os) →
    parent_props m p ≡ (codes "_tb_layer", id_of m p) ∷ []
parent_layer m p e =
    ap (λ o. cond (unwrap_or (option_map (has_kind layer) o) false) ((codes "_tb_layer", id_of m p) ∷ [])
    (cond (unwrap_or (option_map (has_kind group) o) false) ((codes "_tb_group", id_of m p) ∷ []) [])) e

pub parent_group : (m : Whole) (p : ℕ) {q : ℕ} {k : Option ℕ} {name : List ℕ} {l : Option Rattle.map_model.specs.Tree.Link} {ps : List (List ℕ × List ℕ)} {bs os : List ℕ} → at m p ≡ Some (Group q k name l ps bs os) →
    parent_props m p ≡ (codes "_tb_group", id_of m p) ∷ []
parent_group m p e =
    ap (λ o. cond (unwrap_or (option_map (has_kind layer) o) false) ((codes "_tb_layer", id_of m p) ∷ [])
    (cond (unwrap_or (option_map (has_kind group) o) false) ((codes "_tb_group", id_of m p) ∷ []) [])) e

-- one key more is joined
some_length : {A : Type 0} (x : A) (xs : List A) → nat_lt 0 (length (x ∷ xs)) ≡ true
some_length x xs = lt-ltb 0 (length (x ∷ xs)) (omega arith)

join_one : (xs : List (List ℕ)) (x : List ℕ) → join_with_byte 59 (xs ++ x ∷ []) ≡ with_key (nat_lt 0 (length xs)) (join_with_byte 59 xs) x
join_one [] x = refl
join_one (y ∷ []) x = sym (append_assoc y (59 ∷ []) x)
join_one (y ∷ z ∷ xs) x =
    let J = join_with_byte 59 (z ∷ xs) in
    ap (λ l. y ++ 59 ∷ l) (join_one (z ∷ xs) x ∙ ap (λ b. with_key b J x) (some_length z xs) ∙ append_assoc J (59 ∷ []) x)
    ∙ sym (ap (λ b. with_key b (y ++ 59 ∷ J) x) (some_length y (z ∷ xs)) ∙ append_assoc (y ++ 59 ∷ J) (59 ∷ []) x ∙ append_assoc y (59 ∷ J) (59 ∷ x))

taken_some : (xs : List (List ℕ)) (i : ℕ) → i < length xs → nat_lt 0 (length (take i xs)) ≡ nat_lt 0 i
taken_some xs zero lt = refl
taken_some [] (suc i) lt = absurd (omega arith)
taken_some (x ∷ xs) (suc i) lt = some_length x (take i xs) ∙ sym (lt-ltb 0 (suc i) (omega arith))

pub join_more : (ks : List (List ℕ)) (i : ℕ) (x text : List ℕ) (later : Bool) → i < length ks → x ≡ get_or ks i x → later ≡ nat_lt 0 i → text ≡ joined_keys (take i ks) →
    with_key later text x ≡ joined_keys (take (i + 1) ks)
join_more ks i x text later lt is l so_far =
    ap (λ b. with_key b text x) (l ∙ sym (taken_some ks i lt))
    ∙ ap (λ t. with_key (nat_lt 0 (length (take i ks))) t x) so_far
    ∙ sym (join_one (take i ks) x)
    ∙ ap (λ y. joined_keys (take i ks ++ y ∷ [])) is
    ∙ sym (ap joined_keys (take_more ks i x lt))

-- four pairs that are pushed one after another
pub four_pushed : {A : Type 0} (old p1 p2 p3 p4 : List A) (a b c d : A) → p1 ≡ old ++ a ∷ [] → p2 ≡ p1 ++ b ∷ [] → p3 ≡ p2 ++ c ∷ [] → p4 ≡ p3 ++ d ∷ [] → p4 ≡ old ++ a ∷ b ∷ c ∷ d ∷ []
four_pushed old p1 p2 p3 p4 a b c d e1 e2 e3 e4 =
    e4 ∙ ap (λ l. l ++ d ∷ []) (e3 ∙ ap (λ l. l ++ c ∷ []) (e2 ∙ ap (λ l. l ++ b ∷ []) e1))
    ∙ append_assoc ((old ++ a ∷ []) ++ b ∷ []) (c ∷ []) (d ∷ []) ∙ append_assoc (old ++ a ∷ []) (b ∷ []) (c ∷ d ∷ []) ∙ append_assoc old (a ∷ []) (b ∷ c ∷ d ∷ [])

pub protected_some : (keys : List (List ℕ)) → (length keys == 0) ≡ false → protected_props keys ≡ (codes "_tb_protected_properties", joined_keys keys) ∷ []
protected_some [] e = absurd (cc e)
protected_some (key ∷ keys) e = refl
