-- Forests: of a map only the kinds, the parents, and how often each number stands in each list. The laws of edits are proved on these.
use Rattle.std.proofs.Common.{◌≡◌, ◌≢◌, ℕ, ◌+◌, Bool, true, false, cond, not, ◌&&◌, inl, inr, refl, ap, sym, ◌∙◌, arith, Option, Some, None, subst}
use Rattle.std.proofs.lemmas.Bool.{ne_eqb, false_from_ne_true, cases_Bool}
use Rattle.map_model.specs.Tree.{Kind, world, layer, group, entity, brush, is_one_number}
use Rattle.map_model.specs.Shape.{may_hold}
use Rattle.map_laws.proofs.Lists.{by_eq, same_test}
use Rattle.map_laws.proofs.Beneath.{Beneath, some_one, itself, under}

abbrev pub bit : Bool → ℕ
bit b = cond b 1 0

abbrev pub brush_kind : Kind → Bool
brush_kind world = false
brush_kind layer = false
brush_kind group = false
brush_kind entity = false
brush_kind brush = true

abbrev pub is_brush_kind : Option Kind → Bool
is_brush_kind None = false
is_brush_kind (Some k) = brush_kind k

abbrev pub holds : Option Kind → Option Kind → Bool
holds None k = false
holds (Some j) None = false
holds (Some j) (Some k) = may_hold j k

-- At true a kind fits a list of brushes, at false a list of others.
abbrev pub fits_list : Bool → Option Kind → Bool
fits_list true k = is_brush_kind k
fits_list false k = not (is_brush_kind k)

-- How often a number with the parent u and the kind k is to stand in the list b of r.
abbrev pub place_bit : Option ℕ → ℕ → Bool → Option Kind → ℕ
place_bit u r b k = bit (is_one_number u (Some r) && fits_list b k)

pub record Forest : Type 0 where
  pub kinds : ℕ → Option Kind
  pub ups : ℕ → Option ℕ
  pub lists : Bool → ℕ → ℕ → ℕ

pub record Grown (F : Forest) : Type 0 where
  pub world_stands : F.kinds 0 ≡ Some world
  pub one_world : (n : ℕ) → F.kinds n ≡ Some world → n ≡ 0
  pub top : F.ups 0 ≡ None
  pub absent : (n : ℕ) → F.kinds n ≡ None → F.ups n ≡ None
  pub places : (b : Bool) (r q : ℕ) → F.lists b r q ≡ place_bit (F.ups q) r b (F.kinds q)
  pub fit : (r q : ℕ) → F.ups q ≡ Some r → is_brush_kind (F.kinds q) ≡ false → holds (F.kinds r) (F.kinds q) ≡ true
  pub rooted : (n : ℕ) (k : Kind) → F.kinds n ≡ Some k → Beneath F.ups 0 n

pub same_place_bit : {u v : Option ℕ} (r : ℕ) (b : Bool) {k l : Option Kind} → u ≡ v → k ≡ l → place_bit u r b k ≡ place_bit v r b l
same_place_bit r b e f = λ i. place_bit (e i) r b (f i)

pub no_place : {u : Option ℕ} (r : ℕ) (b : Bool) (k : Option Kind) → u ≡ None → place_bit u r b k ≡ 0
no_place r b k e = ap (λ u. place_bit u r b k) e

pub own_place : {u : Option ℕ} (r : ℕ) (b : Bool) (k : Option Kind) → u ≡ Some r → place_bit u r b k ≡ bit (fits_list b k)
own_place r b k e = ap (λ u. place_bit u r b k) e ∙ ap (λ t. bit (t && fits_list b k)) (same_test r)

pub other_place : {u : Option ℕ} (p r : ℕ) (b : Bool) (k : Option Kind) → u ≡ Some p → r ≢ p → place_bit u r b k ≡ 0
other_place p r b k e ne = ap (λ u. place_bit u r b k) e ∙ ap (λ t. bit (t && fits_list b k)) (ne_eqb p r (λ s. ne (sym s)))

pub not_none : {A : Type 0} {o : Option A} {x : A} → o ≡ Some x → o ≡ None → ⊥
not_none {A} {o} {x} f g = cc

pub live_or_not : {P : Type 0} (o : Option Kind) → (o ≡ None → P) → ((k : Kind) → o ≡ Some k → P) → P
live_or_not None f g = f refl
live_or_not (Some k) f g = g k refl

pub up_or_not : {P : Type 0} (o : Option ℕ) → (o ≡ None → P) → ((p : ℕ) → o ≡ Some p → P) → P
up_or_not None f g = f refl
up_or_not (Some p) f g = g p refl

-- A node with a parent is there, and so is the parent.
pub with_parent_live : {F : Forest} (h : Grown F) (n p : ℕ) → F.ups n ≡ Some p → Beneath F.ups 0 n
with_parent_live {F} h n p e = live_or_not (F.kinds n) (λ none. absurd (clash (h.absent n none) e)) (λ k is. h.rooted n k is)
  where
    clash : F.ups n ≡ None → F.ups n ≡ Some p → ⊥
    clash f g = cc

pub parent_beneath : {F : Forest} (h : Grown F) {n : ℕ} (p : ℕ) → Beneath F.ups 0 n → F.ups n ≡ Some p → Beneath F.ups 0 p
parent_beneath h p itself e = absurd (cc h.top)
parent_beneath {F} h p (under n q f b) e = subst (λ x. Beneath F.ups 0 x) (some_one f e) b

-- n is in no list, and all else is as before.
pub record TakenOut (n : ℕ) (F G : Forest) : Type 0 where
  pub kinds : (q : ℕ) → G.kinds q ≡ F.kinds q
  pub ups : (q : ℕ) → G.ups q ≡ F.ups q
  pub others : (b : Bool) (r q : ℕ) → q ≢ n → G.lists b r q ≡ F.lists b r q
  pub out : (b : Bool) (r : ℕ) → G.lists b r n ≡ 0

-- n stands once more in p's list of its kind, with p as its parent.
pub record PutIn (p n : ℕ) (F G : Forest) : Type 0 where
  pub kinds : (q : ℕ) → G.kinds q ≡ F.kinds q
  pub own_up : G.ups n ≡ Some p
  pub ups : (q : ℕ) → q ≢ n → G.ups q ≡ F.ups q
  pub others : (b : Bool) (r q : ℕ) → q ≢ n → G.lists b r q ≡ F.lists b r q
  pub elsewhere : (b : Bool) (r : ℕ) → r ≢ p → G.lists b r n ≡ F.lists b r n
  pub own : (b : Bool) → G.lists b p n ≡ F.lists b p n + bit (fits_list b (F.kinds n))

-- A node goes with all beneath it to the end of another.
module _ {F G H : Forest} (h : Grown F) (p n : ℕ) (t : TakenOut n F G) (i : PutIn p n G H) (low : n ≢ 0) (there : (k : Kind) × (F.kinds n ≡ Some k)) (rooted : Beneath F.ups 0 p) (apart : Beneath F.ups n p → ⊥)
    (fits : is_brush_kind (F.kinds n) ≡ false → holds (F.kinds p) (F.kinds n) ≡ true) where
  kinds : (q : ℕ) → H.kinds q ≡ F.kinds q
  kinds q = i.kinds q ∙ t.kinds q

  ups : (q : ℕ) → q ≢ n → H.ups q ≡ F.ups q
  ups q ne = i.ups q ne ∙ t.ups q

  -- what doesn't stand beneath n keeps its way up
  kept : {q : ℕ} → Beneath F.ups 0 q → (Beneath F.ups n q → ⊥) → Beneath H.ups 0 q
  kept itself out = itself
  kept (under q r e b) out = under q r (ups q (λ s. out (subst (λ x. Beneath F.ups n x) (sym s) itself)) ∙ e) (kept b (λ c. out (under q r e c)))

  all_rooted : {q : ℕ} → Beneath F.ups 0 q → Beneath H.ups 0 q
  all_rooted itself = itself
  all_rooted (under q r e b) = by_eq q n
      (λ s. subst (λ x. Beneath H.ups 0 x) (sym s) (under n p i.own_up (kept rooted apart)))
      (λ ne. under q r (ups q ne ∙ e) (all_rooted b))

  places : (b : Bool) (r q : ℕ) → H.lists b r q ≡ place_bit (H.ups q) r b (H.kinds q)
  places b r q = by_eq q n
      (λ s. subst (λ x. H.lists b r x ≡ place_bit (H.ups x) r b (H.kinds x)) (sym s) (by_eq r p
      (λ e. subst (λ y. H.lists b y n ≡ place_bit (H.ups n) y b (H.kinds n)) (sym e)
      (omega (arith, i.own b, t.out b p, own_place p b (H.kinds n) i.own_up, ap (λ k. bit (fits_list b k)) (i.kinds n))))
      (λ ne. i.elsewhere b r ne ∙ t.out b r ∙ sym (other_place p r b (H.kinds n) i.own_up ne))))
      (λ ne. i.others b r q ne ∙ t.others b r q ne ∙ h.places b r q ∙ same_place_bit r b (sym (ups q ne)) (sym (kinds q)))

  fit : (r q : ℕ) → H.ups q ≡ Some r → is_brush_kind (H.kinds q) ≡ false → holds (H.kinds r) (H.kinds q) ≡ true
  fit r q e f = by_eq q n
      (λ s. (λ j. holds (kinds (some_one (subst (λ x. H.ups x ≡ Some r) s e) i.own_up j) j) (kinds (s j) j)) ∙ fits (sym (ap is_brush_kind (kinds n)) ∙ ap (λ x. is_brush_kind (H.kinds x)) (sym s) ∙ f))
      (λ ne. (λ j. holds (kinds r j) (kinds q j)) ∙ h.fit r q (sym (ups q ne) ∙ e) (ap is_brush_kind (sym (kinds q)) ∙ f))

  pub moved : Grown H
  moved = record {
    world_stands = kinds 0 ∙ h.world_stands;
    one_world = λ q e. h.one_world q (sym (kinds q) ∙ e);
    top = ups 0 (λ s. low (sym s)) ∙ h.top;
    absent = λ q e. by_eq q n
        (λ s. absurd (not_none there.1 (subst (λ x. F.kinds x ≡ None) s (sym (kinds q) ∙ e))))
        (λ ne. ups q ne ∙ h.absent q (sym (kinds q) ∙ e));
    places = places;
    fit = fit;
    rooted = λ q k e. all_rooted (h.rooted q k (sym (kinds q) ∙ e));
  }

-- Of G nothing is left at the numbers of S.
pub record Forgotten (S : ℕ → Bool) (G H : Forest) : Type 0 where
  pub gone_kinds : (q : ℕ) → S q ≡ true → H.kinds q ≡ None
  pub gone_ups : (q : ℕ) → S q ≡ true → H.ups q ≡ None
  pub gone_lists : (b : Bool) (r q : ℕ) → S r ≡ true → H.lists b r q ≡ 0
  pub kinds : (q : ℕ) → S q ≡ false → H.kinds q ≡ G.kinds q
  pub ups : (q : ℕ) → S q ≡ false → H.ups q ≡ G.ups q
  pub lists : (b : Bool) (r q : ℕ) → S r ≡ false → H.lists b r q ≡ G.lists b r q

-- A node is out of its list and forgotten with all beneath it.
module _ {F G H : Forest} (h : Grown F) (n : ℕ) (S : ℕ → Bool) (t : TakenOut n F G) (o : Forgotten S G H) (low : n ≢ 0)
    (into : (q : ℕ) → Beneath F.ups n q → S q ≡ true) (from : (q : ℕ) → S q ≡ true → Beneath F.ups n q) where
  by_set : {P : Type 0} (q : ℕ) → (S q ≡ true → P) → (S q ≡ false → P) → P
  by_set {P} q f g = elim (cases_Bool (S q)) [ inl e ↦ f e | inr e ↦ g e ]

  both : (q : ℕ) → S q ≡ true → S q ≡ false → ⊥
  both q e f = cc

  left_kinds : (q : ℕ) → S q ≡ false → H.kinds q ≡ F.kinds q
  left_kinds q e = o.kinds q e ∙ t.kinds q

  left_ups : (q : ℕ) → S q ≡ false → H.ups q ≡ F.ups q
  left_ups q e = o.ups q e ∙ t.ups q

  -- the parent of what is left is left, and a child of what is gone is gone
  parent_left : (q p : ℕ) → F.ups q ≡ Some p → S q ≡ false → S p ≡ false
  parent_left q p e f = false_from_ne_true (S p) (λ g. both q (into q (under q p e (from p g))) f)

  other_gone : (q p : ℕ) → F.ups q ≡ Some p → S q ≡ true → q ≢ n → S p ≡ true
  other_gone q p e g ne = above_in p e (from q g) ne
    where
      above_in : {x : ℕ} (p : ℕ) → F.ups x ≡ Some p → Beneath F.ups n x → x ≢ n → S p ≡ true
      above_in p e itself ne = absurd (ne refl)
      above_in p e (under q r f b) ne = subst (λ x. S x ≡ true) (some_one f e) (into r b)

  world_left : S 0 ≡ false
  world_left = false_from_ne_true (S 0) (λ g. top_alone (from 0 g) refl)
    where
      top_alone : {x : ℕ} → Beneath F.ups n x → x ≡ 0 → ⊥
      top_alone itself e = low e
      top_alone (under q r f b) e = not_none f (ap F.ups e ∙ h.top)

  left_rooted : {q : ℕ} → Beneath F.ups 0 q → S q ≡ false → Beneath H.ups 0 q
  left_rooted itself e = itself
  left_rooted (under q p e b) f = under q p (left_ups q f ∙ e) (left_rooted b (parent_left q p e f))

  kept_list : (b : Bool) (r q : ℕ) → S r ≡ false → H.lists b r q ≡ place_bit (H.ups q) r b (H.kinds q)
  kept_list b r q e = by_set q
      (λ g. o.lists b r q e ∙ by_eq q n
      (λ s. ap (λ x. G.lists b r x) s ∙ t.out b r)
      (λ ne. t.others b r q ne ∙ h.places b r q ∙ up_or_not (F.ups q)
      (λ none. no_place r b (F.kinds q) none)
      (λ p is. other_place p r b (F.kinds q) is (λ s. both p (other_gone q p is g ne) (subst (λ x. S x ≡ false) s e))))
      ∙ sym (no_place r b (H.kinds q) (o.gone_ups q g)))
      (λ f. o.lists b r q e ∙ t.others b r q (λ s. both n (into n itself) (subst (λ x. S x ≡ false) s f)) ∙ h.places b r q
      ∙ same_place_bit r b (sym (left_ups q f)) (sym (left_kinds q f)))

  gone_list : (b : Bool) (r q : ℕ) → S r ≡ true → H.lists b r q ≡ place_bit (H.ups q) r b (H.kinds q)
  gone_list b r q g = o.gone_lists b r q g ∙ sym (by_set q
      (λ e. no_place r b (H.kinds q) (o.gone_ups q e))
      (λ f. up_or_not (F.ups q)
      (λ none. no_place r b (H.kinds q) (left_ups q f ∙ none))
      (λ p is. other_place p r b (H.kinds q) (left_ups q f ∙ is) (λ s. both p (subst (λ x. S x ≡ true) s g) (parent_left q p is f)))))

  pub removed : Grown H
  removed = record {
    world_stands = left_kinds 0 world_left ∙ h.world_stands;
    one_world = λ q e. by_set q (λ g. absurd (not_none e (o.gone_kinds q g))) (λ f. h.one_world q (sym (left_kinds q f) ∙ e));
    top = left_ups 0 world_left ∙ h.top;
    absent = λ q e. by_set q (λ g. o.gone_ups q g) (λ f. left_ups q f ∙ h.absent q (sym (left_kinds q f) ∙ e));
    places = λ b r q. by_set r (gone_list b r q) (kept_list b r q);
    fit = λ r q e f. by_set q
        (λ g. absurd (not_none e (o.gone_ups q g)))
        (λ left.
        let up : F.ups q ≡ Some r = sym (left_ups q left) ∙ e in
        (λ j. holds (left_kinds r (parent_left q r up left) j) (left_kinds q left j)) ∙ h.fit r q up (ap is_brush_kind (sym (left_kinds q left)) ∙ f));
    rooted = λ q k e. by_set q
        (λ g. absurd (not_none e (o.gone_kinds q g)))
        (λ f. left_rooted (h.rooted q k (sym (left_kinds q f) ∙ e)) f);
  }

-- New leaves of one kind, at the numbers of D, stand in p's list of their kind.
pub record PutNew (p : ℕ) (D : ℕ → Bool) (k : Kind) (F H : Forest) : Type 0 where
  pub new_kinds : (q : ℕ) → D q ≡ true → H.kinds q ≡ Some k
  pub new_ups : (q : ℕ) → D q ≡ true → H.ups q ≡ Some p
  pub empty : (b : Bool) (r q : ℕ) → D r ≡ true → H.lists b r q ≡ 0
  pub own : (b : Bool) (q : ℕ) → D q ≡ true → H.lists b p q ≡ bit (fits_list b (Some k))
  pub elsewhere : (b : Bool) (r q : ℕ) → D q ≡ true → D r ≡ false → r ≢ p → H.lists b r q ≡ 0
  pub kinds : (q : ℕ) → D q ≡ false → H.kinds q ≡ F.kinds q
  pub ups : (q : ℕ) → D q ≡ false → H.ups q ≡ F.ups q
  pub lists : (b : Bool) (r q : ℕ) → D r ≡ false → D q ≡ false → H.lists b r q ≡ F.lists b r q

module _ {F H : Forest} (h : Grown F) (p : ℕ) (D : ℕ → Bool) (k : Kind) (i : PutNew p D k F H) (fresh : (q : ℕ) → D q ≡ true → F.kinds q ≡ None)
    (no_world : k ≢ world) (place : (j : Kind) × (F.kinds p ≡ Some j)) (fits : brush_kind k ≡ false → holds (F.kinds p) (Some k) ≡ true) where
  by_new : {P : Type 0} (q : ℕ) → (D q ≡ true → P) → (D q ≡ false → P) → P
  by_new {P} q f g = elim (cases_Bool (D q)) [ inl e ↦ f e | inr e ↦ g e ]

  clash : (q : ℕ) → D q ≡ true → D q ≡ false → ⊥
  clash q e f = cc

  old_live : (q : ℕ) (j : Kind) → F.kinds q ≡ Some j → D q ≡ false
  old_live q j e = false_from_ne_true (D q) (λ g. not_none e (fresh q g))

  old : {q : ℕ} → Beneath F.ups 0 q → D q ≡ false
  old itself = old_live 0 world h.world_stands
  old (under q r e b) = false_from_ne_true (D q) (λ g. not_none e (h.absent q (fresh q g)))

  old_rooted : {q : ℕ} → Beneath F.ups 0 q → Beneath H.ups 0 q
  old_rooted itself = itself
  old_rooted (under q r e b) = under q r (i.ups q (old (under q r e b)) ∙ e) (old_rooted b)

  old_place : D p ≡ false
  old_place = old_live p place.0 place.1

  old_parent : (q r : ℕ) → F.ups q ≡ Some r → D r ≡ false
  old_parent q r e = old (parent_beneath h r (with_parent_live h q r e) e)

  places_new : (b : Bool) (r q : ℕ) → D q ≡ true → H.lists b r q ≡ place_bit (H.ups q) r b (H.kinds q)
  places_new b r q g = by_eq r p
      (λ s. subst (λ x. H.lists b x q ≡ place_bit (H.ups q) x b (H.kinds q)) (sym s)
      (i.own b q g ∙ ap (λ x. bit (fits_list b x)) (sym (i.new_kinds q g)) ∙ sym (own_place p b (H.kinds q) (i.new_ups q g))))
      (λ ne. by_new r (λ e. i.empty b r q e) (λ e. i.elsewhere b r q g e ne) ∙ sym (other_place p r b (H.kinds q) (i.new_ups q g) ne))

  places_old : (b : Bool) (r q : ℕ) → D q ≡ false → H.lists b r q ≡ place_bit (H.ups q) r b (H.kinds q)
  places_old b r q f = by_new r
      (λ g. i.empty b r q g ∙ sym (up_or_not (F.ups q)
      (λ none. no_place r b (H.kinds q) (i.ups q f ∙ none))
      (λ s is. other_place s r b (H.kinds q) (i.ups q f ∙ is) (λ e. clash r g (subst (λ x. D x ≡ false) (sym e) (old_parent q s is))))))
      (λ e. i.lists b r q e f ∙ h.places b r q ∙ same_place_bit r b (sym (i.ups q f)) (sym (i.kinds q f)))

  pub put_new : Grown H
  put_new = record {
    world_stands = i.kinds 0 (old itself) ∙ h.world_stands;
    one_world = λ q e. by_new q (λ g. absurd (no_world (some_one (i.new_kinds q g) e))) (λ f. h.one_world q (sym (i.kinds q f) ∙ e));
    top = i.ups 0 (old itself) ∙ h.top;
    absent = λ q e. by_new q (λ g. absurd (not_none (i.new_kinds q g) e)) (λ f. i.ups q f ∙ h.absent q (sym (i.kinds q f) ∙ e));
    places = λ b r q. by_new q (places_new b r q) (places_old b r q);
    fit = λ r q e f. by_new q
        (λ g. (λ j. holds (H.kinds (some_one e (i.new_ups q g) j)) (i.new_kinds q g j)) ∙ (λ j. holds (i.kinds p old_place j) (Some k))
        ∙ fits (ap is_brush_kind (sym (i.new_kinds q g)) ∙ f))
        (λ o.
        let up : F.ups q ≡ Some r = sym (i.ups q o) ∙ e in
        (λ j. holds (i.kinds r (old_parent q r up) j) (i.kinds q o j)) ∙ h.fit r q up (ap is_brush_kind (sym (i.kinds q o)) ∙ f));
    rooted = λ q j e. by_new q
        (λ g. under q p (i.new_ups q g) (old_rooted (h.rooted p place.0 place.1)))
        (λ f. old_rooted (h.rooted q j (sym (i.kinds q f) ∙ e)));
  }
