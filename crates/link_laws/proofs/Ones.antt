-- Members of whose contents each is an image of one are one content.
use Rattle.std.proofs.Common.{◌≡◌, ◌≢◌, ℕ, ◌+◌, List, [], ◌∷◌, map, length, Bool, true, false, cond, refl, ap, sym, ◌∙◌, Option, Some, None, option_map}
use Rattle.std.specs.Prelude.{unwrap_or, option_and_then, is_some, is_none, IsTrue}
use Rattle.std.proofs.lemmas.Bool.{and_parts, and_from, true≢false, eq-eqb}
use Rattle.algebra.specs.Members.{◌∈◌, here, there}
use Rattle.map_model.specs.Faces.{Face, same_list}
use Rattle.map_model.specs.Motions.{Motion, stay, unturned, back, is_kept_motion, moved_plane}
use Rattle.map_model.specs.Tree.{Whole, Node, World, Layer, Group, Entity, Brush, Link, group, at, up, over, content, kind_of, parent_of, link_of, link_at, mark_at, is_linked, is_one_number, other_members, format_of}
use Rattle.map_model.specs.Shape.{Shape, EachNode}
use Rattle.map_model.specs.Carry.{carry}
use Rattle.map_model.specs.Origins.{is_origin_stuck}
use Rattle.map_model.specs.Below.{Below}
use Rattle.map_model.specs.Brushes.{first_place, first_beyond}
use Rattle.map_model.specs.Replies.{Refusal}
use Rattle.map_model.specs.Links.{at_both, content_agrees, same_counts_of_children, same_place, are_image_faces, same_group, origin_agrees, values_agree, IsOneContent, motion_at, leads, old_number, old_node, fault_at, fault_if, image_fault, image_fault_at, first_fault, member_fault, spread_fault, AgreeInValues}
use Rattle.map_laws.specs.Placed.{Placed}
use Rattle.map_laws.proofs.Beneath.{Beneath, beneath_both}
use Rattle.map_laws.proofs.Fuel.{Chains}
use Rattle.map_laws.proofs.Forest.{Grown, not_none}
use Rattle.map_laws.proofs.Skeleton.{kind_at, list_at, forest, planted, placed_of}
use Rattle.map_laws.proofs.Slots.{slot_list}
use Rattle.map_laws.proofs.Placing.{chains}
use Rattle.link_laws.proofs.Edited.{group_linked}
use Rattle.map_laws.proofs.Renewing.{linked_is}
use Rattle.link_laws.proofs.Untouched.{over_is}
use Rattle.orient48.specs.Laws.{IsTurn}
use Rattle.link_laws.specs.Images.{NodesAgree, CanCarry, OldOk, OldAgree}
use Rattle.orient48.proofs.Matrices.{is_turn, turn_back, turn_product}
use Rattle.link_laws.proofs.Grafts.{parent_within}
use Rattle.link_laws.proofs.Pairs.{none_or_some}
use Rattle.link_laws.proofs.Putting.{old_is, from_content}
use Rattle.link_laws.proofs.Spreading.{Field, Source}

-- ---- nodes that agree place by place
pub record Both (n : Whole) (r : Motion) (x y : ℕ) : Type 0 where
  pub first : Node
  pub second : Node
  pub at_first : at n x ≡ Some first
  pub at_second : at n y ≡ Some second
  pub agree : NodesAgree r first second

same_list_two : (test : ℕ → ℕ → Bool) (u v : ℕ → ℕ) (l : List ℕ) → ((q : ℕ) → q ∈ l → test (u q) (v q) ≡ true) → same_list test (map u l) (map v l) ≡ true
same_list_two test u v [] h = refl
same_list_two test u v (q ∷ l) h = and_from (test (u q) (v q)) (same_list test (map u l) (map v l)) (h q here) (same_list_two test u v l (λ x i. h x (there i)))

both_true : (n : Whole) (test : Node → Node → Bool) (x y : ℕ) (a b : Node) → at n x ≡ Some a → at n y ≡ Some b → test a b ≡ true → at_both n test x y ≡ true
both_true n test x y a b e f h =
    ap (λ o. elim o as (λ o. Bool) [ None ↦ false | Some a ↦ elim (at n y) as (λ o. Bool) [ None ↦ false | Some b ↦ test a b ] ]) e
    ∙ ap (λ o. elim o as (λ o. Bool) [ None ↦ false | Some b ↦ test a b ]) f ∙ h

there_is : {A : Type 0} (f : Node → A) (o : Option Node) (k : A) → option_map f o ≡ Some k → (x : Node) × (o ≡ Some x)
there_is f None k e = absurd (cc)
there_is f (Some x) k e = (x, refl)

module _ (n : Whole) (r : Motion) (i j : ℕ) (u v : ℕ → ℕ) (l : List ℕ) (e : content n i ≡ map u l) (f : content n j ≡ map v l)
    (kind_i : kind_at n i ≡ Some group) (kind_j : kind_at n j ≡ Some group) (lengths : (c : Bool) → length (list_at c n i) ≡ length (list_at c n j)) (both : (q : ℕ) → q ∈ l → Both n r (u q) (v q)) where
  all_agree : (test : Node → Node → Bool) → ((a b : Node) → NodesAgree r a b → test a b ≡ true) → content_agrees n test i j ≡ true
  all_agree test h = (λ z. same_list (at_both n test) (e z) (f z))
      ∙ same_list_two (at_both n test) u v l (λ q x. let w = both q x in both_true n test (u q) (v q) w.first w.second w.at_first w.at_second (h w.first w.second w.agree))

  tops_agree : at_both n same_counts_of_children i j ≡ true
  tops_agree =
      let a = there_is kind_of (at n i) group kind_i in let b = there_is kind_of (at n j) group kind_j in
      both_true n same_counts_of_children i j a.0 b.0 a.1 b.1
      (and_from _ _ (eq-eqb _ _ (ap (λ o. length (slot_list true o)) (sym a.1) ∙ lengths true ∙ ap (λ o. length (slot_list true o)) b.1))
      (eq-eqb _ _ (ap (λ o. length (slot_list false o)) (sym a.1) ∙ lengths false ∙ ap (λ o. length (slot_list false o)) b.1)))

  pub one_by : IsOneContent n true r i j
  one_by = record {
    tops = tops_agree;
    places = all_agree (same_place true) (λ a b w. w.place);
    faces = all_agree (are_image_faces r) (λ a b w. w.faces);
    groups = all_agree same_group (λ a b w. w.group);
    origins = all_agree (origin_agrees r) (λ a b w. w.origin);
    values = all_agree values_agree (λ a b w. w.values);
  }

-- ---- motions of groups
stay_turns : IsTurn unturned
stay_turns = is_turn unturned refl

link_turns : (l : Option Link) → (elim l as (λ l. Type 0) [ None ↦ Unit {0} | Some l ↦ IsTrue (is_kept_motion l.motion) ]) → IsTurn (unwrap_or (option_map (λ l. l.motion) l) stay).matrix
link_turns None h = stay_turns
link_turns (Some l) h = is_turn l.motion.matrix (and_parts _ _ h).0

pub turns_at : (m : Whole) → EachNode m → (p : ℕ) → IsTurn (motion_at m p).matrix
turns_at m each p = by (at m p) refl
  where
    by : (o : Option Node) → at m p ≡ o → IsTurn (unwrap_or (option_map (λ l. l.motion) (unwrap_or (option_map link_of o) None)) stay).matrix
    by None e = stay_turns
    by (Some (World format props brushes others)) e = stay_turns
    by (Some (Layer name frozen props brushes others)) e = stay_turns
    by (Some (Group parent mark name link props brushes others)) e = link_turns link (each p (Group parent mark name link props brushes others) e).1
    by (Some (Entity parent mark props protected brushes)) e = stay_turns
    by (Some (Brush parent mark faces)) e = stay_turns

pub turns_between : (m : Whole) → EachNode m → (a b : ℕ) → IsTurn (leads m a b).matrix
turns_between m each a b = turn_product (motion_at m b).matrix (back (motion_at m a)).matrix (turns_at m each b) (turn_back (motion_at m a).matrix (turns_at m each a))

-- ---- what no fault says
first_head : (o : Option Refusal) (rest : List (Option Refusal)) → first_fault (o ∷ rest) ≡ None → (o ≡ None) × (first_fault rest ≡ None)
first_head None rest e = (refl, e)
first_head (Some r) rest e = absurd (cc)

pub no_first : {A : Type 0} (f : A → Option Refusal) (l : List A) → first_fault (map f l) ≡ None → (x : A) → x ∈ l → f x ≡ None
no_first f [] e x i = elim i [ ]
no_first f (y ∷ l) e x here = (first_head (f y) (map f l) e).0
no_first f (y ∷ l) e x (there i) = no_first f l (first_head (f y) (map f l) e).1 x i

pub no_if : (b : Bool) (r : Refusal) (next : Option Refusal) → fault_if b r next ≡ None → (b ≡ false) × (next ≡ None)
no_if true r next e = absurd (cc)
no_if false r next e = (refl, e)

pub no_at : (f : ℕ → Refusal) (o : Option ℕ) (next : Option Refusal) → fault_at f o next ≡ None → (o ≡ None) × (next ≡ None)
no_at f None next e = (refl, e)
no_at f (Some k) next e = absurd (cc)

place_head : (b : Bool) (k : ℕ) (rest : Option ℕ) → cond b (Some k) rest ≡ None → (b ≡ false) × (rest ≡ None)
place_head true k rest e = absurd (cc)
place_head false k rest e = (refl, e)

no_place : (test : Face → Bool) (k : ℕ) (fs : List Face) → first_place test k fs ≡ None → (f : Face) → f ∈ fs → test f ≡ false
no_place test k [] e f i = elim i [ ]
no_place test k (g ∷ fs) e f here = (place_head (test g) k (first_place test (k + 1) fs) e).0
no_place test k (g ∷ fs) e f (there i) = no_place test (k + 1) fs (place_head (test g) k (first_place test (k + 1) fs) e).1 f i

some_of : (o : Option Face) → is_none o ≡ false → is_some o ≡ true
some_of None e = absurd (true≢false e)
some_of (Some f) e = refl

pub can_carry : (b : Below) (h q : ℕ) (r : Motion) (x : Node) → image_fault b h r q x ≡ None → CanCarry r x
can_carry b h q r (World format props brushes others) e = record { faces = λ f i. elim i [ ]; origin = λ t. absurd (true≢false (sym t)) }
can_carry b h q r (Layer name frozen props brushes others) e = record { faces = λ f i. elim i [ ]; origin = λ t. absurd (true≢false (sym t)) }
can_carry b h q r (Group parent mark name link props brushes others) e = record { faces = λ f i. elim i [ ]; origin = λ t. absurd (true≢false (sym t)) }
can_carry b h q r (Entity parent mark props protected brushes) e = record { faces = λ f i. elim i [ ]; origin = λ t. (no_if (is_origin_stuck r props) _ None e).0 }
can_carry b h q r (Brush parent mark faces) e =
    let s = no_at _ (first_beyond (moved_plane r) faces) _ e in
    let u = no_if _ _ _ s.1 in
    let v = no_at _ (first_place (λ f. is_none (carry true r f)) 0 faces) None u.1 in
    record { faces = λ f i. some_of (carry true r f) (no_place (λ f. is_none (carry true r f)) 0 faces v.0 f i); origin = λ t. absurd (true≢false (sym t)) }

pub fault_of : (b : Below) (m : Whole) (h q : ℕ) (r : Motion) (x : Node) → at m q ≡ Some x → image_fault_at b m h r q ≡ None → image_fault b h r q x ≡ None
fault_of b m h q r x e f = ap (λ o. elim o as (λ o. Option Refusal) [ None ↦ None | Some x ↦ image_fault b h r q x ]) (sym e) ∙ f

pub member_carries : (b : Below) (m : Whole) (g h q : ℕ) (x : Node) → spread_fault b m g ≡ None → h ∈ other_members m g → q ∈ content m g → at m q ≡ Some x → CanCarry (leads m g h) x
member_carries b m g h q x e i j f =
    let s = no_first (member_fault b m g) (other_members m g) e h i in
    let t = no_if _ _ _ s in
    can_carry b h q (leads m g h) x (fault_of b m h q (leads m g h) x f (no_first (image_fault_at b m h (leads m g h)) (content m g) t.1 q j))

-- ---- linked groups
abbrev pub Linked : Whole → ℕ → Type 0
Linked m p = is_linked m p ≡ true

pub linked_of : (m : Whole) (p : ℕ) (l : Link) → link_at m p ≡ Some l → Linked m p
linked_of m p l e = linked_is m p ∙ ap is_some e

module _ (m : Whole) (shape : Shape m) where
  pub placed : Placed m
  placed = placed_of shape.standing

  pub fm : Grown (forest m)
  fm = planted placed

  pub cm : Chains m
  cm = chains m fm shape.numbers.nodes

  pub root : (p : ℕ) → Linked m p → Beneath (up m) 0 p
  root p l = fm.rooted p group (group_linked m p l)

  -- what stands beneath a linked group, other than the group
  over_beneath : (p q : ℕ) → Linked m p → Beneath (up m) 0 q → Beneath (up m) p q → q ≢ p → over m q ≡ Some p
  over_beneath p q l r b ne = let w = parent_within b ne in over_is m cm shape.marks.not_nested p q w.0 r w.1 w.2 l

  pub apart : (p q : ℕ) → Linked m p → Linked m q → p ≢ q → Beneath (up m) p q → ⊥
  apart p q l k ne b = not_none (over_beneath p q l (root q k) b (λ e. ne (sym e))) (shape.marks.not_nested q k)

  pub field : Field (Linked m) m
  field = record { placed = placed; bound = shape.numbers.nodes; groups = λ p l. group_linked m p l; apart = apart }

  pub over_content : (p q : ℕ) → Linked m p → q ∈ content m p → over m q ≡ Some p
  over_content p q l i = let w = from_content m placed shape.numbers.nodes p (root p l) q i in over_beneath p q l (beneath_both (root p l) w.0) w.0 w.1

  pub source : (g : ℕ) → Linked m g → Source m g
  source g l = record {
    marks = λ a d k i j e f. shape.marks.distinct g a d (over_content g a l i) (over_content g d l j) (e ∙ sym f);
    bare = λ q i. none_or_some (link_at m q) (λ e. e) (λ k e. absurd (not_none (over_content g q l i) (shape.marks.not_nested q (linked_of m q k e))));
  }

  -- a node of a content is there
  pub in_place : (p q : ℕ) → Linked m p → q ∈ content m p → (x : Node) × (at m q ≡ Some x)
  in_place p q l i = let w = from_content m placed shape.numbers.nodes p (root p l) q i in slot_up (at m q) (parent_within w.0 w.1).0 (parent_within w.0 w.1).1
    where
      slot_up : (o : Option Node) (p : ℕ) → option_and_then parent_of o ≡ Some p → (x : Node) × (o ≡ Some x)
      slot_up None p e = absurd (cc)
      slot_up (Some x) p e = (x, refl)

  pub old_ok : (h q : ℕ) → OldOk (format_of m) (old_node m h q)
  old_ok h q = by (old_number m h q)
    where
      slot : (x : ℕ) (o : Option Node) → at m x ≡ o → OldOk (format_of m) o
      slot x None e = tt
      slot x (Some y) e = shape.each_node x y e

      by : (o : Option ℕ) → OldOk (format_of m) (elim o as (λ o. Option Node) [ None ↦ None | Some k ↦ at m k ])
      by None = tt
      by (Some x) = slot x (at m x) refl

  both_values : (x y : ℕ) (o p : Option Node) → at m x ≡ o → at m y ≡ p → at_both m values_agree x y ≡ true → OldAgree o p
  both_values x y None p e f h = tt
  both_values x y (Some a) None e f h = tt
  both_values x y (Some a) (Some b) e f h =
      sym (ap (λ o. elim o as (λ o. Bool) [ None ↦ false | Some a ↦ elim (at m y) as (λ o. Bool) [ None ↦ false | Some b ↦ values_agree a b ] ]) e
      ∙ ap (λ o. elim o as (λ o. Bool) [ None ↦ false | Some b ↦ values_agree a b ]) f) ∙ h

  same_mark_test : (a b : Option ℕ) (k : ℕ) → a ≡ Some k → b ≡ Some k → is_one_number a b ≡ true
  same_mark_test a b k e f = (λ i. is_one_number (e i) (f i)) ∙ eq-eqb k k refl

  -- what stood before in two others agrees
  pub old_values : (h j q : ℕ) → AgreeInValues m h j → OldAgree (old_node m h q) (old_node m j q)
  old_values h j q agree = by (old_number m h q) (old_number m j q) refl refl
    where
      by : (o p : Option ℕ) → old_number m h q ≡ o → old_number m j q ≡ p → OldAgree (elim o as (λ o. Option Node) [ None ↦ None | Some k ↦ at m k ]) (elim p as (λ o. Option Node) [ None ↦ None | Some k ↦ at m k ])
      by None p e f = tt
      by (Some x) None e f = none_agrees (at m x)
        where
          none_agrees : (o : Option Node) → OldAgree o None
          none_agrees None = tt
          none_agrees (Some b) = tt
      by (Some x) (Some y) e f =
          let a = old_is m h q x e in let b = old_is m j q y f in
          both_values x y (at m x) (at m y) refl refl (agree x y a.among b.among (same_mark_test (mark_at m x) (mark_at m y) a.mark a.there_is (b.there_is ∙ sym b.here_is ∙ a.here_is)))
