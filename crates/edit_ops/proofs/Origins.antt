-- Properties with a moved origin.
use Rattle.std.proofs.Common.{◌≡◌, ℕ, List, [], ◌∷◌, Bool, true, false, not, cond, Option, None, Some, refl, ap, sym, subst, ◌∙◌}
use Rattle.std.specs.List.{list_all}
use Rattle.std.specs.Str.{bytes_eq}
use Rattle.std.proofs.lemmas.Bool.{and_parts}
use Rattle.std.proofs.lemmas.Slice.Eq.{bytes_eq-Decides}
use Rattle.map_text.specs.Spelled.{keys_are_distinct}
use Rattle.map_model.specs.Motions.{Motion}
use Rattle.map_model.specs.Tree.{Node, World, Layer, Group, Entity, Brush, Props, entity, kind_of, props_of, with_props}
use Rattle.map_model.specs.Props.{value_at, set_value, origin}
use Rattle.map_model.specs.Origins.{moved_origin, moved_value, moved_props}
use Rattle.map_model.specs.Own.{moved_node}
use Rattle.map_laws.proofs.Slots.{by_bool}

some_is : {A : Type 0} {x y : A} → Some x ≡ Some y → x ≡ y
some_is {A} {x} {y} e = cc

not_true : (b : Bool) → not b ≡ true → b ≡ false
not_true true e = absurd (cc)
not_true false e = refl

-- A value of another key stays, and one that can't be moved does.
other_stays : (r : Motion) (p : List ℕ × List ℕ) → bytes_eq p.0 origin ≡ false → moved_value r p ≡ p.1
other_stays r p e = ap (λ b. cond b (elim (moved_origin r p.1) [ None ↦ p.1 | Some text ↦ text ]) p.1) e

origin_goes : (r : Motion) (p : List ℕ × List ℕ) (new : List ℕ) → bytes_eq p.0 origin ≡ true → moved_origin r p.1 ≡ Some new → moved_value r p ≡ new
origin_goes r p new e f =
    ap (λ b. cond b (elim (moved_origin r p.1) [ None ↦ p.1 | Some text ↦ text ]) p.1) e ∙ ap (λ (o : Option (List ℕ)). elim o as (λ o. List ℕ) [ None ↦ p.1 | Some text ↦ text ]) f

origin_stays : (r : Motion) (p : List ℕ × List ℕ) → bytes_eq p.0 origin ≡ true → moved_origin r p.1 ≡ None → moved_value r p ≡ p.1
origin_stays r p e f =
    ap (λ b. cond b (elim (moved_origin r p.1) [ None ↦ p.1 | Some text ↦ text ]) p.1) e ∙ ap (λ (o : Option (List ℕ)). elim o as (λ o. List ℕ) [ None ↦ p.1 | Some text ↦ text ]) f

-- No key of the list is the origin's.
abbrev Without : Props → Type 0
Without ps = list_all (λ q. not (bytes_eq q.0 origin)) ps ≡ true

all_stay : (r : Motion) (ps : Props) → Without ps → moved_props r ps ≡ ps
all_stay r [] h = refl
all_stay r (p ∷ ps) h =
    let k = and_parts (not (bytes_eq p.0 origin)) (list_all (λ q. not (bytes_eq q.0 origin)) ps) h in
    λ i. (p.0, other_stays r p (not_true (bytes_eq p.0 origin) k.0) i) ∷ all_stay r ps k.1 i

rest_without : (p : List ℕ × List ℕ) (ps : Props) → bytes_eq p.0 origin ≡ true → keys_are_distinct (p ∷ ps) ≡ true → Without ps
rest_without p ps e h =
    subst (λ k. list_all (λ q. not (bytes_eq q.0 k)) ps ≡ true) ((bytes_eq-Decides p.0 origin).0 e) (and_parts (list_all (λ q. not (bytes_eq q.0 p.0)) ps) (keys_are_distinct ps) h).0

rest_distinct : (p : List ℕ × List ℕ) (ps : Props) → keys_are_distinct (p ∷ ps) ≡ true → keys_are_distinct ps ≡ true
rest_distinct p ps h = (and_parts (list_all (λ q. not (bytes_eq q.0 p.0)) ps) (keys_are_distinct ps) h).1

-- What the origin's value tells at the front of a list.
value_here : (p : List ℕ × List ℕ) (ps : Props) (o : Option (List ℕ)) → bytes_eq p.0 origin ≡ true → value_at origin (p ∷ ps) ≡ o → Some p.1 ≡ o
value_here p ps o e v = sym (ap (λ b. cond b (Some p.1) (value_at origin ps)) e) ∙ v

value_later : (p : List ℕ × List ℕ) (ps : Props) (o : Option (List ℕ)) → bytes_eq p.0 origin ≡ false → value_at origin (p ∷ ps) ≡ o → value_at origin ps ≡ o
value_later p ps o e v = sym (ap (λ b. cond b (Some p.1) (value_at origin ps)) e) ∙ v

-- Without an origin, the properties stay.
pub no_origin : (r : Motion) (ps : Props) → value_at origin ps ≡ None → moved_props r ps ≡ ps
no_origin r [] v = refl
no_origin r (p ∷ ps) v = by_bool (bytes_eq p.0 origin) (λ e. absurd (never (value_here p ps None e v)))
    (λ e. λ i. (p.0, other_stays r p e i) ∷ no_origin r ps (value_later p ps None e v) i)
  where
    never : Some p.1 ≡ None → ⊥
    never e = cc

-- With one that can't be moved they stay.
pub stuck_origin : (r : Motion) (ps : Props) (old : List ℕ) → keys_are_distinct ps ≡ true → value_at origin ps ≡ Some old → moved_origin r old ≡ None → moved_props r ps ≡ ps
stuck_origin r [] old h v f = refl
stuck_origin r (p ∷ ps) old h v f = by_bool (bytes_eq p.0 origin)
    (λ e. λ i. (p.0, origin_stays r p e (ap (moved_origin r) (some_is (value_here p ps (Some old) e v)) ∙ f) i) ∷ all_stay r ps (rest_without p ps e h) i)
    (λ e. λ i. (p.0, other_stays r p e i) ∷ stuck_origin r ps old (rest_distinct p ps h) (value_later p ps (Some old) e v) f i)

-- With one that can, it has its new value.
pub new_origin : (r : Motion) (ps : Props) (old new : List ℕ) → keys_are_distinct ps ≡ true → value_at origin ps ≡ Some old → moved_origin r old ≡ Some new → set_value origin new ps ≡ moved_props r ps
new_origin r [] old new h v f = absurd (never v)
  where
    never : {x : List ℕ} → None ≡ Some x → ⊥
    never {x} e = cc
new_origin r (p ∷ ps) old new h v f = by_bool (bytes_eq p.0 origin)
    (λ e. ap (λ b. cond b ((origin, new) ∷ ps) (p ∷ set_value origin new ps)) e
    ∙ (λ i. (sym ((bytes_eq-Decides p.0 origin).0 e) i, sym (origin_goes r p new e (ap (moved_origin r) (some_is (value_here p ps (Some old) e v)) ∙ f)) i) ∷ sym (all_stay r ps (rest_without p ps e h)) i))
    (λ e. ap (λ b. cond b ((origin, new) ∷ ps) (p ∷ set_value origin new ps)) e
    ∙ (λ i. (p.0, sym (other_stays r p e) i) ∷ new_origin r ps old new (rest_distinct p ps h) (value_later p ps (Some old) e v) f i))

-- Entities. -------------------------------------------------------------------------------------------------------------------------------

pub entity_moved : (lock : Bool) (r : Motion) (x : Node) (ps : Props) → kind_of x ≡ entity → ps ≡ moved_props r (props_of x) → with_props ps x ≡ moved_node lock r x
entity_moved lock r (World format props brushes others) ps k e = absurd (cc)
entity_moved lock r (Layer name frozen props brushes others) ps k e = absurd (cc)
entity_moved lock r (Group parent mark name link props brushes others) ps k e = absurd (cc)
entity_moved lock r (Entity parent mark props protected brushes) ps k e = ap (λ l. Entity parent mark l protected brushes) e
entity_moved lock r (Brush parent mark faces) ps k e = absurd (cc)

pub entity_same : (lock : Bool) (r : Motion) (x : Node) → kind_of x ≡ entity → moved_props r (props_of x) ≡ props_of x → x ≡ moved_node lock r x
entity_same lock r (World format props brushes others) k e = absurd (cc)
entity_same lock r (Layer name frozen props brushes others) k e = absurd (cc)
entity_same lock r (Group parent mark name link props brushes others) k e = absurd (cc)
entity_same lock r (Entity parent mark props protected brushes) k e = ap (λ l. Entity parent mark l protected brushes) (sym e)
entity_same lock r (Brush parent mark faces) k e = absurd (cc)

module _ (r : Motion) (x : Node) (ps : Props) (k : kind_of x ≡ entity) (is : ps ≡ props_of x) where
  pub entity_without : None ≡ value_at origin ps → (lock : Bool) → x ≡ moved_node lock r x
  entity_without none lock = entity_same lock r x k (subst (λ l. moved_props r l ≡ l) is (no_origin r ps (sym none)))

  module _ (distinct : keys_are_distinct ps ≡ true) (old : List ℕ) (value : Some old ≡ value_at origin ps) where
    pub entity_stuck : None ≡ moved_origin r old → (lock : Bool) → x ≡ moved_node lock r x
    entity_stuck stuck lock = entity_same lock r x k (subst (λ l. moved_props r l ≡ l) is (stuck_origin r ps old distinct (sym value) (sym stuck)))

    pub entity_goes : (new : List ℕ) (copy after : Node) → Some new ≡ moved_origin r old → copy ≡ x → after ≡ with_props (set_value origin new (props_of copy)) copy → (lock : Bool) → after ≡ moved_node lock r x
    entity_goes new copy after moved same e lock =
        e ∙ ap (λ y. with_props (set_value origin new (props_of y)) y) same
        ∙ entity_moved lock r x (set_value origin new (props_of x)) k (subst (λ l. set_value origin new l ≡ moved_props r l) is (new_origin r ps old new distinct (sym value) (sym moved)))
