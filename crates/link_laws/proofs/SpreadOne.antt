-- After a spread each two members of the set are one content.
use Rattle.std.proofs.Common.{◌≡◌, ◌≢◌, inl, inr, ℕ, ◌==◌, List, [], ◌∷◌, map, filter, length, Bool, true, false, cond, not, ◌&&◌, refl, ap, sym, ◌∙◌, subst, arith, Option, Some, None, option_map}
use Rattle.std.specs.Prelude.{unwrap_or, Result, Ok, Err}
use Rattle.std.proofs.lemmas.Bool.{and_parts, and_from, true≢false, eq-eqb, ne_eqb, not-true, cases_lt}
use Rattle.algebra.specs.Members.{◌∈◌, here, there}
use Rattle.map_model.specs.Faces.{same_list}
use Rattle.map_model.specs.Motions.{stay, back, between}
use Rattle.map_model.specs.Tree.{Whole, Node, at, content, link_at, set_at, is_one_number, all_numbers, numbers_from, other_members, format_of}
use Rattle.map_model.specs.Edits.{renumber}
use Rattle.map_model.specs.Shape.{Shape}
use Rattle.map_model.specs.Below.{Below}
use Rattle.map_model.specs.Replies.{Refusal}
use Rattle.map_model.specs.Links.{at_both, content_agrees, same_counts_of_children, IsOneContent, One, motion_at, leads, image, old_node, spread_fault, put_contents, spread, OthersAgree}
use Rattle.map_laws.proofs.Lists.{by_eq, tally-member}
use Rattle.map_laws.proofs.Skeleton.{list_at}
use Rattle.map_laws.proofs.Slots.{by_bool}
use Rattle.map_laws.proofs.Replacing.{tally-numbers_in, tally-numbers_out}
use Rattle.link_laws.proofs.Filtering.{filter_member, member_filter}
use Rattle.link_laws.proofs.Contents.{same_content}
use Rattle.orient48.specs.Laws.{IsTurn}
use Rattle.link_laws.specs.Spreading.{SpreadOne, SpreadOneLaw}
use Rattle.orient48.proofs.Following.{back_between, cancelled}
use Rattle.lock_laws.proofs.Steps.{mapped}
use Rattle.link_laws.proofs.Images.{length-map, image_onto, image_back, images_across}
use Rattle.link_laws.proofs.Pairs.{Once, once_by}
use Rattle.link_laws.proofs.Putting.{one_number, from_content}
use Rattle.link_laws.proofs.Spreading.{Spreads, spreads}
use Rattle.link_laws.proofs.Ones.{one_by, turns_at, turns_between, member_carries, Linked, linked_of, field, source, in_place, old_ok, old_values, root, cm, fm}

-- ---- other members
pub once_filter : (F : ℕ → Bool) (l : List ℕ) → Once l → Once (filter F l)
once_filter F [] o = tt
once_filter F (y ∷ l) o = by_bool (F y)
    (λ e. subst (λ b. Once (cond b (y ∷ filter F l) (filter F l))) (sym e) ((λ i. o.0 (filter_member F y l i).0), once_filter F l o.1))
    (λ e. subst (λ b. Once (cond b (y ∷ filter F l) (filter F l))) (sym e) (once_filter F l o.1))

pub once_numbers : (n : ℕ) → Once (numbers_from 0 n)
once_numbers n = once_by (numbers_from 0 n) (λ q. elim (cases_lt q n) [
  | inl lt ↦ omega (arith, tally-numbers_in 0 n q (omega arith) (omega arith))
  | inr far ↦ omega (arith, tally-numbers_out 0 n q (inr (omega arith)))
])

not_itself : (h g : ℕ) → not (h == g) ≡ true → h ≢ g
not_itself h g e s = true≢false (sym (eq-eqb h g s) ∙ not-true (h == g) e)

pub set_linked : (m : Whole) (h s : ℕ) → set_at m h ≡ Some s → Linked m h
set_linked m h s e = let w = mapped (λ l. l.set) (link_at m h) s e in linked_of m h w.0 w.1

pub record Other (m : Whole) (g h : ℕ) : Type 0 where
  pub apart : h ≢ g
  pub set : ℕ
  pub own : set_at m h ≡ Some set
  pub same : set_at m g ≡ Some set

pub other_is : (m : Whole) (g h : ℕ) → h ∈ other_members m g → Other m g h
other_is m g h i =
    let w = filter_member (λ h. not (h == g) && is_one_number (set_at m h) (set_at m g)) h (all_numbers m) i in
    let p = and_parts (not (h == g)) _ w.1 in
    let k = one_number (set_at m h) (set_at m g) p.1 in
    record { apart = not_itself h g p.0; set = k.0; own = k.1; same = k.2 }

map-itself : (l : List ℕ) → l ≡ map (λ q. q) l
map-itself [] = refl
map-itself (x ∷ l) = ap (λ k. x ∷ k) (map-itself l)

abbrev pub slot_at_both : (Node → Node → Bool) → Option Node → Option Node → Bool
slot_at_both test o p = elim o as (λ o. Bool) [ None ↦ false | Some a ↦ elim p as (λ o. Bool) [ None ↦ false | Some b ↦ test a b ] ]

pub same_tests : (m n : Whole) (test : Node → Node → Bool) (l k : List ℕ) → ((q : ℕ) → q ∈ l → at n q ≡ at m q) → ((q : ℕ) → q ∈ k → at n q ≡ at m q) →
    same_list (at_both n test) l k ≡ same_list (at_both m test) l k
same_tests m n test [] [] e f = refl
same_tests m n test [] (y ∷ k) e f = refl
same_tests m n test (x ∷ l) [] e f = refl
same_tests m n test (x ∷ l) (y ∷ k) e f =
    (λ z. slot_at_both test (e x here z) (f y here z) && same_list (at_both n test) l k) ∙ ap (λ r. at_both m test x y && r) (same_tests m n test l k (λ q i. e q (there i)) (λ q i. f q (there i)))

module _ (b : Below) (m : Whole) (g : ℕ) (shape : Shape m) (linked : Linked m g) (agree : OthersAgree m g) (none : spread_fault b m g ≡ None) where
  abbrev hs : List ℕ
  hs = other_members m g

  abbrev n : Whole
  n = put_contents g (other_members m g) m

  linked_h : (h : ℕ) → h ∈ other_members m g → Linked m h
  linked_h h i = let o = other_is m g h i in set_linked m h o.set o.own

  g_out : g ∈ other_members m g → ⊥
  g_out i = (other_is m g g i).apart refl

  S : Spreads (Linked m) m (put_contents g (other_members m g) m) g (other_members m g)
  S = spreads (Linked m) g (other_members m g) m (field m shape) (source m shape g linked) linked linked_h (once_filter _ (all_numbers m) (once_numbers m.next)) g_out

  leads_n : (i j : ℕ) → Linked m i → Linked m j → leads n i j ≡ leads m i j
  leads_n i j x y = λ z. between (unwrap_or (option_map (λ l. l.motion) (S.links i x z)) stay) (unwrap_or (option_map (λ l. l.motion) (S.links j y z)) stay)

  content_p : (p : ℕ) → Linked m p → (p ∈ other_members m g → ⊥) → content n p ≡ content m p
  content_p p x far = same_content (S.others p x far) (fm m shape) (cm m shape) (root m shape p x) S.next

  node_p : (p q : ℕ) → Linked m p → (p ∈ other_members m g → ⊥) → q ∈ content m p → at n q ≡ at m q
  node_p p q x far i = let w = from_content m (field m shape).placed (field m shape).bound p (root m shape p x) q i in (S.others p x far).nodes q w.0 w.1

  image_node : (h q : ℕ) (i : h ∈ other_members m g) (x : Node) → q ∈ content m g → at m q ≡ Some x →
      at n ((S.members h i).number q) ≡ Some (renumber (S.members h i).number (image (leads m g h) x (old_node m h q)))
  image_node h q i x j e = (S.members h i).nodes q j ∙ ap (option_map (λ x. renumber (S.members h i).number (image (leads m g h) x (old_node m h q)))) e

  turn : (i j : ℕ) → IsTurn (leads m i j).matrix
  turn i j = turns_between m shape.each_node i j

  lengths_h : (h : ℕ) (i : h ∈ other_members m g) (c : Bool) → length (list_at c n h) ≡ length (list_at c m g)
  lengths_h h i c = ap length ((S.members h i).lists c) ∙ length-map (S.members h i).number (list_at c m g)

  lengths_g : (c : Bool) → length (list_at c n g) ≡ length (list_at c m g)
  lengths_g c = ap length ((S.others g linked g_out).lists c)

  one_across : (h j : ℕ) → h ∈ other_members m g → j ∈ other_members m g → h ≢ j → One n h j
  one_across h j x y ne = subst (λ r. IsOneContent n true r h j) (sym (leads_n h j (linked_h h x) (linked_h j y)))
      (one_by n (leads m h j) h j (S.members h x).number (S.members j y).number (content m g) (S.members h x).content_is (S.members j y).content_is
      (S.field_now.groups h (linked_h h x)) (S.field_now.groups j (linked_h j y)) (λ c. lengths_h h x c ∙ sym (lengths_h j y c))
      (λ q i. let w = in_place m shape g q linked i in record {
        first = renumber (S.members h x).number (image (leads m g h) w.0 (old_node m h q));
        second = renumber (S.members j y).number (image (leads m g j) w.0 (old_node m j q));
        at_first = image_node h q x w.0 i w.1;
        at_second = image_node j q y w.0 i w.1;
        agree = images_across (format_of m) (leads m g h) (leads m g j) (leads m h j) w.0 (old_node m h q) (old_node m j q) (S.members h x).number (S.members j y).number
            (cancelled (back (motion_at m g)) (motion_at m h) (motion_at m j) (turns_at m shape.each_node h)) (turn g h) (turn g j) (turn h j)
            (shape.each_node q w.0 w.1) (old_ok m shape h q) (old_ok m shape j q) (member_carries b m g h q w.0 none x i w.1) (member_carries b m g j q w.0 none y i w.1)
            (old_values m shape h j q (agree h j x y ne));
      }))

  one_onto : (h : ℕ) → h ∈ other_members m g → One n g h
  one_onto h x = subst (λ r. IsOneContent n true r g h) (sym (leads_n g h linked (linked_h h x)))
      (one_by n (leads m g h) g h (λ q. q) (S.members h x).number (content m g) (content_p g linked g_out ∙ map-itself (content m g)) (S.members h x).content_is
      (S.field_now.groups g linked) (S.field_now.groups h (linked_h h x)) (λ c. lengths_g c ∙ sym (lengths_h h x c))
      (λ q i. let w = in_place m shape g q linked i in record {
        first = w.0;
        second = renumber (S.members h x).number (image (leads m g h) w.0 (old_node m h q));
        at_first = node_p g q linked g_out i ∙ w.1;
        at_second = image_node h q x w.0 i w.1;
        agree = image_onto (format_of m) (leads m g h) w.0 (old_node m h q) (S.members h x).number (turn g h) (shape.each_node q w.0 w.1) (old_ok m shape h q) (member_carries b m g h q w.0 none x i w.1);
      }))

  one_back : (h : ℕ) → h ∈ other_members m g → One n h g
  one_back h x = subst (λ r. IsOneContent n true r h g) (back_between (motion_at m g) (motion_at m h) (turns_at m shape.each_node g) (turns_at m shape.each_node h) ∙ sym (leads_n h g (linked_h h x) linked))
      (one_by n (back (leads m g h)) h g (S.members h x).number (λ q. q) (content m g) (S.members h x).content_is (content_p g linked g_out ∙ map-itself (content m g))
      (S.field_now.groups h (linked_h h x)) (S.field_now.groups g linked) (λ c. lengths_h h x c ∙ sym (lengths_g c))
      (λ q i. let w = in_place m shape g q linked i in record {
        first = renumber (S.members h x).number (image (leads m g h) w.0 (old_node m h q));
        second = w.0;
        at_first = image_node h q x w.0 i w.1;
        at_second = node_p g q linked g_out i ∙ w.1;
        agree = image_back (format_of m) (leads m g h) w.0 (old_node m h q) (S.members h x).number (turn g h) (shape.each_node q w.0 w.1) (old_ok m shape h q) (member_carries b m g h q w.0 none x i w.1);
      }))

  -- members now are members before
  set_before : (p s : ℕ) → set_at n p ≡ Some s → set_at m p ≡ Some s
  set_before p s e = let w = mapped (λ l. l.set) (link_at n p) s e in ap (option_map (λ l. l.set)) (S.no_more p w.0 w.1) ∙ ap Some w.2

  in_others : (h s : ℕ) → h ≢ g → set_at m g ≡ Some s → set_at m h ≡ Some s → h ∈ other_members m g
  in_others h s ne e f =
      let low = (cm m shape).below h (root m shape h (set_linked m h s f)) in
      member_filter (λ h. not (h == g) && is_one_number (set_at m h) (set_at m g)) h (all_numbers m)
      (tally-member h (all_numbers m) (omega (arith, tally-numbers_in 0 m.next h (omega arith) (omega (arith, low)))))
      (and_from (not (h == g)) _ (ap not (ne_eqb h g ne)) ((λ i. is_one_number (f i) (e i)) ∙ eq-eqb s s refl))

  one_now : (s h k : ℕ) → set_at m g ≡ Some s → set_at n h ≡ Some s → set_at n k ≡ Some s → h ≢ k → One n h k
  one_now s h k e f i ne = by_eq h g
      (λ x. subst (λ z. One n z k) (sym x) (one_onto k (in_others k s (λ y. ne (x ∙ sym y)) e (set_before k s i))))
      (λ x. by_eq k g
      (λ y. subst (λ z. One n h z) (sym y) (one_back h (in_others h s x e (set_before h s f))))
      (λ y. one_across h k (in_others h s x e (set_before h s f)) (in_others k s y e (set_before k s i)) ne))

  not_other : (h s : ℕ) → set_at m g ≢ Some s → set_at m h ≡ Some s → h ∈ other_members m g → ⊥
  not_other h s ne e i = let o = other_is m g h i in ne (o.same ∙ sym o.own ∙ e)

  others_now : (s h k : ℕ) → set_at m g ≢ Some s → set_at n h ≡ Some s → set_at n k ≡ Some s → One m h k → One n h k
  others_now s h k ne e f one =
      let x = set_linked m h s (set_before h s e) in let y = set_linked m k s (set_before k s f) in
      let far = not_other h s ne (set_before h s e) in let away = not_other k s ne (set_before k s f) in
      let tests : (test : Node → Node → Bool) → content_agrees m test h k ≡ true → content_agrees n test h k ≡ true = λ test t.
      (λ z. same_list (at_both n test) (content_p h x far z) (content_p k y away z))
      ∙ same_tests m n test (content m h) (content m k) (λ q i. node_p h q x far i) (λ q i. node_p k q y away i) ∙ t in
      subst (λ r. IsOneContent n true r h k) (sym (leads_n h k x y)) (record {
        tops = (λ z. slot_at_both same_counts_of_children (S.stand h x far z) (S.stand k y away z)) ∙ one.tops;
        places = tests _ one.places;
        faces = tests _ one.faces;
        groups = tests _ one.groups;
        origins = tests _ one.origins;
        values = tests _ one.values;
      })

  pub all_one : SpreadOne m (put_contents g (other_members m g) m) g
  all_one = record { placed = S.field_now.placed; bounded = S.field_now.bound; one = one_now; others = others_now }

abbrev Answer : Type 0
Answer = Result Whole Refusal

ok_is : {x y : Whole} → ◌≡◌ {A = Answer} (Ok x) (Ok y) → x ≡ y
ok_is {x} {y} e = cc

no_ok : {r : Refusal} {y : Whole} → ◌≡◌ {A = Answer} (Err r) (Ok y) → ⊥
no_ok {r} {y} e = cc

pub spread_cases : (b : Below) (m n : Whole) (g : ℕ) → spread b g m ≡ Ok n → (spread_fault b m g ≡ None) × (put_contents g (other_members m g) m ≡ n)
spread_cases b m n g e = by (spread_fault b m g) refl
  where
    by : (o : Option Refusal) → spread_fault b m g ≡ o → (spread_fault b m g ≡ None) × (put_contents g (other_members m g) m ≡ n)
    by None f = (f, ok_is (sym (ap (λ o. elim o as (λ o. Answer) [ None ↦ Ok (put_contents g (other_members m g) m) | Some r ↦ Err r ]) f) ∙ e))
    by (Some r) f = absurd (no_ok (sym (ap (λ o. elim o as (λ o. Answer) [ None ↦ Ok (put_contents g (other_members m g) m) | Some r ↦ Err r ]) f) ∙ e))

pub spread_one_is : SpreadOneLaw
spread_one_is b m n g shape linked agree e =
    let w = spread_cases b m n g e in
    subst (λ z. SpreadOne m z g) w.1 (all_one b m g shape linked agree w.0)
