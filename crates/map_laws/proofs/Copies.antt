-- A copy of a node with all beneath it.
use Rattle.std.proofs.Common.{◌≡◌, ◌≢◌, ℕ, Bool, true, false, refl, ap, sym, ◌∙◌, subst, arith, Option, Some, None, option_map}
use Rattle.std.proofs.lemmas.Bool.{false_from_ne_true}
use Rattle.map_model.specs.Tree.{Kind, world}
use Rattle.map_laws.proofs.Lists.{by_eq}
use Rattle.map_laws.proofs.Beneath.{Beneath, some_one, no_circle, itself, under}
use Rattle.map_laws.proofs.Forest.{Forest, Grown, PutIn, bit, is_brush_kind, holds, fits_list, place_bit, same_place_bit, no_place, own_place, other_place, not_none, up_or_not, with_parent_live, parent_beneath}
use Rattle.map_laws.proofs.Skeleton.{not_both}
use Rattle.map_laws.proofs.Slots.{by_bool}

-- G has besides F, at the numbers of D, the nodes from n down under the numbers s.
pub record Copied (n : ℕ) (s : ℕ → ℕ) (D : ℕ → Bool) (F G : Forest) : Type 0 where
  pub new : (a : ℕ) → Beneath F.ups n a → D (s a) ≡ true
  pub back : (q : ℕ) → D q ≡ true → (a : ℕ) × Beneath F.ups n a × (s a ≡ q)
  pub one : (a c : ℕ) → Beneath F.ups n a → Beneath F.ups n c → s a ≡ s c → a ≡ c
  pub fresh : (q : ℕ) → D q ≡ true → F.kinds q ≡ None
  pub new_kinds : (a : ℕ) → Beneath F.ups n a → G.kinds (s a) ≡ F.kinds a
  pub new_ups : (a : ℕ) → Beneath F.ups n a → G.ups (s a) ≡ option_map s (F.ups a)
  pub new_lists : (b : Bool) (a c : ℕ) → Beneath F.ups n a → Beneath F.ups n c → G.lists b (s a) (s c) ≡ F.lists b a c
  pub no_others : (b : Bool) (a q : ℕ) → Beneath F.ups n a → D q ≡ false → G.lists b (s a) q ≡ 0
  pub kinds : (q : ℕ) → D q ≡ false → G.kinds q ≡ F.kinds q
  pub ups : (q : ℕ) → D q ≡ false → G.ups q ≡ F.ups q
  pub lists : (b : Bool) (r q : ℕ) → D r ≡ false → G.lists b r q ≡ F.lists b r q

-- A node beneath n, other than n, has a parent there.
pub parent_within : {up : ℕ → Option ℕ} {n c : ℕ} → Beneath up n c → c ≢ n → (r : ℕ) × (up c ≡ Some r) × Beneath up n r
parent_within itself ne = absurd (ne refl)
parent_within (under c r e b) ne = (r, e, b)

module _ {F G H : Forest} (h : Grown F) (p n : ℕ) (s : ℕ → ℕ) (D : ℕ → Bool) (C : Copied n s D F G) (i : PutIn p (s n) G H) (low : n ≢ 0)
    (there : (k : Kind) × (F.kinds n ≡ Some k)) (place : (j : Kind) × (F.kinds p ≡ Some j)) (fits : is_brush_kind (F.kinds n) ≡ false → holds (F.kinds p) (F.kinds n) ≡ true) where
  by_new : {P : Type 0} (q : ℕ) → (D q ≡ true → P) → (D q ≡ false → P) → P
  by_new {P} q f g = by_bool (D q) f g

  live_old : (q : ℕ) (j : Kind) → F.kinds q ≡ Some j → D q ≡ false
  live_old q j e = false_from_ne_true (D q) (λ g. not_none e (C.fresh q g))

  old : {q : ℕ} → Beneath F.ups 0 q → D q ≡ false
  old itself = live_old 0 world h.world_stands
  old (under q r e b) = false_from_ne_true (D q) (λ g. not_none e (h.absent q (C.fresh q g)))

  old_place : D p ≡ false
  old_place = live_old p place.0 place.1

  old_parent : (q r : ℕ) → F.ups q ≡ Some r → D r ≡ false
  old_parent q r e = old (parent_beneath h r (with_parent_live h q r e) e)

  n_rooted : Beneath F.ups 0 n
  n_rooted = h.rooted n there.0 there.1

  -- an old number isn't that of the copy
  other : (q : ℕ) → D q ≡ false → q ≢ s n
  other q f e = not_both (D q) (subst (λ x. D x ≡ true) (sym e) (C.new n itself)) f

  kinds_old : (q : ℕ) → D q ≡ false → H.kinds q ≡ F.kinds q
  kinds_old q f = i.kinds q ∙ C.kinds q f

  ups_old : (q : ℕ) → D q ≡ false → H.ups q ≡ F.ups q
  ups_old q f = i.ups q (other q f) ∙ C.ups q f

  kinds_new : (a : ℕ) → Beneath F.ups n a → H.kinds (s a) ≡ F.kinds a
  kinds_new a b = i.kinds (s a) ∙ C.new_kinds a b

  ups_new : (a r : ℕ) → Beneath F.ups n a → a ≢ n → F.ups a ≡ Some r → H.ups (s a) ≡ Some (s r)
  ups_new a r b ne e = i.ups (s a) (λ t. ne (C.one a n b itself t)) ∙ C.new_ups a b ∙ ap (option_map s) e

  old_rooted : {q : ℕ} → Beneath F.ups 0 q → Beneath H.ups 0 q
  old_rooted itself = itself
  old_rooted (under q r e b) = under q r (ups_old q (old (under q r e b)) ∙ e) (old_rooted b)

  top_copied : Beneath H.ups 0 (s n)
  top_copied = under (s n) p i.own_up (old_rooted (h.rooted p place.0 place.1))

  rooted_new : {a : ℕ} → Beneath F.ups n a → Beneath H.ups 0 (s a)
  rooted_new itself = top_copied
  rooted_new (under a r e b) = by_eq a n
      (λ t. subst (λ x. Beneath H.ups 0 (s x)) (sym t) top_copied)
      (λ ne. under (s a) (s r) (ups_new a r (under a r e b) ne e) (rooted_new b))

  nowhere : (b : Bool) (r q : ℕ) → D q ≡ true → F.lists b r q ≡ 0
  nowhere b r q g = h.places b r q ∙ no_place r b (F.kinds q) (h.absent q (C.fresh q g))

  -- the copy's top
  places_top : (b : Bool) (r : ℕ) → H.lists b r (s n) ≡ place_bit (H.ups (s n)) r b (H.kinds (s n))
  places_top b r = by_eq r p
      (λ t. subst (λ x. H.lists b x (s n) ≡ place_bit (H.ups (s n)) x b (H.kinds (s n))) (sym t)
      (omega (arith, i.own b, C.lists b p (s n) old_place, nowhere b p (s n) (C.new n itself), own_place p b (H.kinds (s n)) i.own_up, ap (λ k. bit (fits_list b k)) (i.kinds (s n)))))
      (λ ne. i.elsewhere b r ne ∙ by_new r
      (λ g. let a = C.back r g in
      subst (λ x. G.lists b x (s n) ≡ 0) a.2 (C.new_lists b a.0 n a.1 itself ∙ h.places b a.0 n ∙ up_or_not (F.ups n)
      (λ none. no_place a.0 b (F.kinds n) none)
      (λ q is. other_place q a.0 b (F.kinds n) is (λ t. no_circle h.top (parent_beneath h q n_rooted is) is (subst (λ x. Beneath F.ups n x) t a.1)))))
      (λ f. C.lists b r (s n) f ∙ nowhere b r (s n) (C.new n itself))
      ∙ sym (other_place p r b (H.kinds (s n)) i.own_up ne))

  -- what is beneath it
  places_within : (b : Bool) (r c : ℕ) → Beneath F.ups n c → c ≢ n → H.lists b r (s c) ≡ place_bit (H.ups (s c)) r b (H.kinds (s c))
  places_within b r c w ne =
      let q = parent_within w ne in
      let up : H.ups (s c) ≡ Some (s q.0) = ups_new c q.0 w ne q.1 in
      i.others b r (s c) (λ t. ne (C.one c n w itself t)) ∙ by_new r
      (λ g. let a = C.back r g in
      subst (λ x. G.lists b x (s c) ≡ place_bit (H.ups (s c)) x b (H.kinds (s c))) a.2
      (C.new_lists b a.0 c a.1 w ∙ h.places b a.0 c ∙ by_eq a.0 q.0
      (λ t. own_place a.0 b (F.kinds c) (q.1 ∙ ap Some (sym t)) ∙ ap (λ k. bit (fits_list b k)) (sym (kinds_new c w)) ∙ sym (own_place (s a.0) b (H.kinds (s c)) (up ∙ ap (λ x. Some (s x)) (sym t))))
      (λ t. other_place q.0 a.0 b (F.kinds c) q.1 t ∙ sym (other_place (s q.0) (s a.0) b (H.kinds (s c)) up (λ u. t (C.one a.0 q.0 a.1 q.2 u))))))
      (λ f. C.lists b r (s c) f ∙ nowhere b r (s c) (C.new c w)
      ∙ sym (other_place (s q.0) r b (H.kinds (s c)) up (λ t. not_both (D r) (subst (λ x. D x ≡ true) (sym t) (C.new q.0 q.2)) f)))

  places_new : (b : Bool) (r q : ℕ) → D q ≡ true → H.lists b r q ≡ place_bit (H.ups q) r b (H.kinds q)
  places_new b r q g =
      let c = C.back q g in
      subst (λ x. H.lists b r x ≡ place_bit (H.ups x) r b (H.kinds x)) c.2 (by_eq c.0 n
      (λ t. subst (λ x. H.lists b r (s x) ≡ place_bit (H.ups (s x)) r b (H.kinds (s x))) (sym t) (places_top b r))
      (λ ne. places_within b r c.0 c.1 ne))

  places_old : (b : Bool) (r q : ℕ) → D q ≡ false → H.lists b r q ≡ place_bit (H.ups q) r b (H.kinds q)
  places_old b r q f = i.others b r q (other q f) ∙ by_new r
      (λ g. let a = C.back r g in
      subst (λ x. G.lists b x q ≡ 0) a.2 (C.no_others b a.0 q a.1 f) ∙ sym (up_or_not (F.ups q)
      (λ none. no_place r b (H.kinds q) (ups_old q f ∙ none))
      (λ t is. other_place t r b (H.kinds q) (ups_old q f ∙ is) (λ e. not_both (D r) g (subst (λ x. D x ≡ false) (sym e) (old_parent q t is))))))
      (λ e. C.lists b r q e ∙ h.places b r q ∙ same_place_bit r b (sym (ups_old q f)) (sym (kinds_old q f)))

  fit_new : (r c : ℕ) → Beneath F.ups n c → H.ups (s c) ≡ Some r → is_brush_kind (H.kinds (s c)) ≡ false → holds (H.kinds r) (H.kinds (s c)) ≡ true
  fit_new r c w e f = by_eq c n
      (λ t. (λ j. holds (H.kinds (some_one e (ap (λ x. H.ups (s x)) t ∙ i.own_up) j)) (H.kinds (s c))) ∙ (λ j. holds (kinds_old p old_place j) (kinds_new c w j))
      ∙ (λ j. holds (F.kinds p) (F.kinds (t j))) ∙ fits (ap (λ x. is_brush_kind (F.kinds x)) (sym t) ∙ ap is_brush_kind (sym (kinds_new c w)) ∙ f))
      (λ ne. let q = parent_within w ne in
      (λ j. holds (H.kinds (some_one e (ups_new c q.0 w ne q.1) j)) (H.kinds (s c))) ∙ (λ j. holds (kinds_new q.0 q.2 j) (kinds_new c w j))
      ∙ h.fit q.0 c q.1 (ap is_brush_kind (sym (kinds_new c w)) ∙ f))

  pub copied_grown : Grown H
  copied_grown = record {
    world_stands = kinds_old 0 (old itself) ∙ h.world_stands;
    one_world = λ q e. by_new q
        (λ g. let a = C.back q g in
        absurd (no_world a.0 a.1 (h.one_world a.0 (sym (kinds_new a.0 a.1) ∙ ap H.kinds a.2 ∙ e))))
        (λ f. h.one_world q (sym (kinds_old q f) ∙ e));
    top = ups_old 0 (old itself) ∙ h.top;
    absent = λ q e. by_new q
        (λ g. let a = C.back q g in absurd (live_within a.0 a.1 (sym (kinds_new a.0 a.1) ∙ ap H.kinds a.2 ∙ e)))
        (λ f. ups_old q f ∙ h.absent q (sym (kinds_old q f) ∙ e));
    places = λ b r q. by_new q (places_new b r q) (places_old b r q);
    fit = λ r q e f. by_new q
        (λ g. let a = C.back q g in
        ap (λ x. holds (H.kinds r) (H.kinds x)) (sym a.2) ∙ fit_new r a.0 a.1 (ap H.ups a.2 ∙ e) (ap (λ x. is_brush_kind (H.kinds x)) a.2 ∙ f))
        (λ o.
        let up : F.ups q ≡ Some r = sym (ups_old q o) ∙ e in
        (λ j. holds (kinds_old r (old_parent q r up) j) (kinds_old q o j)) ∙ h.fit r q up (ap is_brush_kind (sym (kinds_old q o)) ∙ f));
    rooted = λ q k e. by_new q
        (λ g. let a = C.back q g in subst (λ x. Beneath H.ups 0 x) a.2 (rooted_new a.1))
        (λ f. old_rooted (h.rooted q k (sym (kinds_old q f) ∙ e)));
  }
    where
      no_world : (a : ℕ) → Beneath F.ups n a → a ≡ 0 → ⊥
      no_world a itself e = low e
      no_world a (under q r f b) e = not_none f (ap F.ups e ∙ h.top)

      live_within : (a : ℕ) → Beneath F.ups n a → F.kinds a ≡ None → ⊥
      live_within a itself e = not_none there.1 e
      live_within a (under q r f b) e = not_none f (h.absent a e)
