-- What a member's content is once it is put there, and that other contents stay.
use Rattle.std.proofs.Common.{◌≡◌, ◌≢◌, inl, inr, ℕ, zero, suc, ◌+◌, List, [], ◌∷◌, ◌++◌, map, flat_map, Bool, true, false, refl, ap, sym, ◌∙◌, subst, arith, Option, Some, None, option_map}
use Rattle.std.specs.Prelude.{unwrap_or}
use Rattle.std.proofs.lemmas.Bool.{false_from_ne_true}
use Rattle.algebra.specs.Members.{◌∈◌, here, there}
use Rattle.map_model.specs.Motions.{Motion}
use Rattle.map_model.specs.Tree.{Whole, Node, World, Layer, Group, Entity, Brush, Link, group, at, up, children, content, preorder, preorder_by, link_of, link_at}
use Rattle.map_model.specs.Edits.{renumber}
use Rattle.map_model.specs.Links.{image, old_node, new_images, leads}
use Rattle.map_laws.specs.Placed.{Bounded}
use Rattle.map_laws.proofs.Lists.{by_eq, flat-agree}
use Rattle.map_laws.proofs.Beneath.{Beneath, itself, under, beneath_both}
use Rattle.map_laws.proofs.Fuel.{Chains, preorder_enough}
use Rattle.map_laws.proofs.Forest.{Grown, not_none}
use Rattle.map_laws.proofs.Skeleton.{kind_at, list_at, forest, planted, children_are, not_both}
use Rattle.map_laws.proofs.Slots.{slot_list, by_bool, among_member}
use Rattle.map_laws.proofs.Placing.{chains}
use Rattle.link_laws.proofs.Contents.{SameContent, linear}
use Rattle.link_laws.proofs.Putting.{Pair, with_lists, from_content, in_content, olds, s, t, D, O, k, s_top, s_in, at_new, at_h, at_gone, at_other, lists_new, grafted, put_placed, D_out, t_cases, D_h, O_h, kind_plain}

map-append : (f : ℕ → ℕ) (xs ys : List ℕ) → map f (xs ++ ys) ≡ map f xs ++ map f ys
map-append f [] ys = refl
map-append f (x ∷ xs) ys = ap (λ l. f x ∷ l) (map-append f xs ys)

flat-map : (f : ℕ → ℕ) (g h : ℕ → List ℕ) (xs : List ℕ) → ((x : ℕ) → x ∈ xs → h (f x) ≡ map f (g x)) → flat_map h (map f xs) ≡ map f (flat_map g xs)
flat-map f g h [] e = refl
flat-map f g h (x ∷ xs) e = (λ i. e x here i ++ flat_map h (map f xs)) ∙ ap (λ l. map f (g x) ++ l) (flat-map f g h xs (λ y i. e y (there i))) ∙ sym (map-append f (g x) (flat_map g xs))

-- A member h of n whose content is that of g in m, by images.
pub record Member (m n : Whole) (g h : ℕ) : Type 0 where
  pub number : ℕ → ℕ
  pub content_is : content n h ≡ map number (content m g)
  pub nodes : (q : ℕ) → q ∈ content m g → at n (number q) ≡ option_map (λ x. renumber number (image (leads m g h) x (old_node m h q))) (at m q)
  pub lists : (c : Bool) → list_at c n h ≡ map number (list_at c m g)

module _ (m : Whole) (g h : ℕ) (P : Pair m g h) where
  fm : Grown (forest m)
  fm = planted P.placed

  cm : Chains m
  cm = chains m fm P.bound

  rg : Beneath (up m) 0 g
  rg = fm.rooted g group P.g_group

  rh : Beneath (up m) 0 h
  rh = fm.rooted h group P.h_group

  pub children_new : (a : ℕ) → Beneath (up m) g a → children (k m g h P) (s m g h P a) ≡ map (s m g h P) (children m a)
  children_new a w =
      children_are (k m g h P) (s m g h P a) ∙ (λ i. lists_new m g h P true a w i ++ lists_new m g h P false a w i)
      ∙ sym (map-append (s m g h P) (list_at true m a) (list_at false m a)) ∙ ap (map (s m g h P)) (sym (children_are m a))

  preorder_new : (j a : ℕ) → Beneath (up m) g a → preorder_by j (k m g h P) (s m g h P a) ≡ map (s m g h P) (preorder_by j m a)
  preorder_new zero a w = refl
  preorder_new (suc j) a w =
      ap (λ l. s m g h P a ∷ flat_map (preorder_by j (k m g h P)) l) (children_new a w)
      ∙ ap (λ l. s m g h P a ∷ l) (flat-map (s m g h P) (preorder_by j m) (preorder_by j (k m g h P)) (children m a) (λ c i. preorder_new j c (under c a (cm.child_up a c i) w)))

  next_is : (k m g h P).next ≡ new_images m g h + m.next
  next_is = omega arith

  pub content_new : content (k m g h P) h ≡ map (s m g h P) (content m g)
  content_new =
      ap (content (k m g h P)) (sym (s_top m g h P))
      ∙ ap (flat_map (preorder (k m g h P))) (children_new g itself)
      ∙ flat-map (s m g h P) (preorder_by (k m g h P).next m) (preorder (k m g h P)) (children m g) (λ c i. preorder_new (k m g h P).next c (under c g (cm.child_up g c i) itself))
      ∙ ap (map (s m g h P)) (flat-agree (preorder_by (k m g h P).next m) (preorder m) (children m g) (λ c i.
      preorder_enough cm (new_images m g h) (k m g h P).next c (under c g (cm.child_up g c i) rg) next_is))

  pub member_new : Member m (k m g h P) g h
  member_new = record {
    number = s m g h P;
    content_is = content_new;
    nodes = λ q i. ap (at (k m g h P)) (s_in m g h P q i) ∙ at_new m g h P q i;
    lists = λ c. ap (list_at c (k m g h P)) (sym (s_top m g h P)) ∙ lists_new m g h P c g itself;
  }

  pub bound_new : Bounded (k m g h P)
  bound_new q far = by_bool (D m g h P q)
      (λ e. let w = D_out m g h P q e in t_cases m g h P w.0 w.1
      (λ lo hi. absurd (omega (arith, far, hi, w.2, next_is)))
      (λ i. absurd (omega (arith, far, w.2, next_is, cm.below (t m g h P w.0) (beneath_both rh (from_content m P.placed P.bound h rh (t m g h P w.0) i).0)))))
      (λ d. by_bool (O m g h P q)
      (λ o. at_gone m g h P q d o)
      (λ o. at_other m g h P q d o (λ e. omega (arith, far, e, next_is, cm.below h rh)) ∙ P.bound q (omega (arith, far, next_is))))

  -- ---- what doesn't stand beneath h, and where h doesn't stand beneath
  low : (q : ℕ) → Beneath (up m) 0 q → (Beneath (up m) h q → ⊥) → (D m g h P q ≡ false) × (O m g h P q ≡ false)
  low q r out = (
    false_from_ne_true (D m g h P q) (λ e. let w = D_out m g h P q e in t_cases m g h P w.0 w.1
        (λ lo hi. omega (arith, lo, w.2, cm.below q r))
        (λ i. out (subst (λ z. Beneath (up m) h z) w.2 (from_content m P.placed P.bound h rh (t m g h P w.0) i).0))),
    false_from_ne_true (O m g h P q) (λ e. out (from_content m P.placed P.bound h rh q (among_member q (olds m g h P) e)).0),
  )

  pub stays : (q : ℕ) → Beneath (up m) 0 q → (Beneath (up m) h q → ⊥) → at (k m g h P) q ≡ at m q
  stays q r out = let w = low q r out in at_other m g h P q w.0 w.1 (λ e. out (subst (λ z. Beneath (up m) h z) (sym e) itself))

  pub others_stay : (p : ℕ) → Beneath (up m) 0 p → (Beneath (up m) h p → ⊥) → (Beneath (up m) p h → ⊥) → SameContent p m (k m g h P)
  others_stay p r out away = record {
    lists = λ b. ap (slot_list b) (stays p r out);
    nodes = λ q b ne. stays q (beneath_both r b) (λ w. elim (linear w b refl) [ inl x ↦ out x | inr x ↦ away x ]);
  }

  -- nothing that stood elsewhere stands beneath h now
  pub still_out : (p : ℕ) → Beneath (up m) 0 p → (Beneath (up m) h p → ⊥) → p ≢ h → Beneath (up (k m g h P)) h p → ⊥
  still_out p r out ne b =
      let f = planted (put_placed m g h P) in
      let i = in_content (k m g h P) (put_placed m g h P) bound_new h (f.rooted h group kind_h) p b ne in
      let w = in_map (s m g h P) p (content m g) (subst (λ l. p ∈ l) content_new i) in
      not_both (D m g h P p) (ap (D m g h P) (sym w.2) ∙ in_row w.0 w.1) (low p r out).0
    where
      kind_h : kind_at (k m g h P) h ≡ Some group
      kind_h = kind_plain m g h P h (D_h m g h P) (O_h m g h P) ∙ P.h_group

      in_map : (t : ℕ → ℕ) (q : ℕ) (l : List ℕ) → q ∈ map t l → (n : ℕ) × (n ∈ l) × (t n ≡ q)
      in_map t q [] i = elim i [ ]
      in_map t q (n ∷ l) here = (n, here, refl)
      in_map t q (n ∷ l) (there i) = let w = in_map t q l i in (w.0, there w.1, w.2)

      in_row : (n : ℕ) → n ∈ content m g → D m g h P (s m g h P n) ≡ true
      in_row n i = let w = from_content m P.placed P.bound g rg n i in (grafted m g h P).new n w.0 w.1

  -- ---- links
  link-image : (r : Motion) (f : ℕ → ℕ) (x : Node) (b : Option Node) → link_of (renumber f (image r x b)) ≡ link_of x
  link-image r f (World format props brushes others) b = refl
  link-image r f (Layer name frozen props brushes others) b = refl
  link-image r f (Group parent mark name link props brushes others) b = refl
  link-image r f (Entity parent mark props protected brushes) b = refl
  link-image r f (Brush parent mark faces) b = refl

  link-lists : (bs os : List ℕ) (x : Node) → link_of (with_lists bs os x) ≡ link_of x
  link-lists bs os (World format props brushes others) = refl
  link-lists bs os (Layer name frozen props brushes others) = refl
  link-lists bs os (Group parent mark name link props brushes others) = refl
  link-lists bs os (Entity parent mark props protected brushes) = refl
  link-lists bs os (Brush parent mark faces) = refl

  link_lists : (bs os : List ℕ) (o : Option Node) → unwrap_or (option_map link_of (option_map (with_lists bs os) o)) None ≡ unwrap_or (option_map link_of o) None
  link_lists bs os None = refl
  link_lists bs os (Some x) = link-lists bs os x

  link_image : (f : ℕ → ℕ) (o b : Option Node) → unwrap_or (option_map link_of (option_map (λ x. renumber f (image (leads m g h) x b)) o)) None ≡ unwrap_or (option_map link_of o) None
  link_image f None b = refl
  link_image f (Some x) b = link-image (leads m g h) f x b

  pub link_h : link_at (k m g h P) h ≡ link_at m h
  link_h = ap (λ o. unwrap_or (option_map link_of o) None) (at_h m g h P) ∙ link_lists _ _ (at m h)

  no_link_none : {l : Link} → unwrap_or (option_map link_of None) None ≡ Some l → ⊥
  no_link_none e = cc

  -- no node has a link that had none, where no node beneath g has one
  pub links_back : ((q : ℕ) → q ∈ content m g → link_at m q ≡ None) → (q : ℕ) (l : Link) → link_at (k m g h P) q ≡ Some l → link_at m q ≡ Some l
  links_back bare q l e = by_bool (D m g h P q)
      (λ d. let w = D_out m g h P q d in
      absurd (not_none e (ap (link_at (k m g h P)) (sym w.2) ∙ ap (λ o. unwrap_or (option_map link_of o) None) (at_new m g h P w.0 w.1) ∙ link_image (s m g h P) (at m w.0) (old_node m h w.0) ∙ bare w.0 w.1)))
      (λ d. by_bool (O m g h P q)
      (λ o. absurd (no_link_none (sym (ap (λ o. unwrap_or (option_map link_of o) None) (at_gone m g h P q d o)) ∙ e)))
      (λ o. by_eq q h
      (λ x. ap (link_at m) x ∙ sym link_h ∙ ap (link_at (k m g h P)) (sym x) ∙ e)
      (λ ne. ap (λ o. unwrap_or (option_map link_of o) None) (sym (at_other m g h P q d o ne)) ∙ e)))
