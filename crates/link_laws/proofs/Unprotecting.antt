-- Members that are one content stay so where a key is protected no more and gets the value that the first other member has.
use Rattle.std.proofs.Common.{◌≡◌, ◌≢◌, ℕ, List, [], ◌∷◌, Bool, true, false, cond, not, ◌||◌, refl, ap, sym, ◌∙◌, subst, Option, Some, None, option_map}
use Rattle.std.specs.Prelude.{unwrap_or, is_some}
use Rattle.std.specs.List.{find}
use Rattle.std.specs.Str.{bytes_eq}
use Rattle.std.proofs.lemmas.Bool.{and_parts, or_parts, or_from, true≢false, eq-eqb}
use Rattle.algebra.specs.Members.{◌∈◌, here, there}
use Rattle.map_model.specs.Motions.{Motion, stay, between}
use Rattle.map_model.specs.Tree.{Whole, Node, World, Layer, Group, Entity, Brush, entity, group, at, content, over, kind_of, has_kind, same_kind, mark_of, mark_at, marked_in, other_members, is_one_number, set_at, props_of, protected_of}
use Rattle.map_model.specs.Edits.{renew}
use Rattle.map_model.specs.Props.{value_at, is_text_among, origin}
use Rattle.map_model.specs.Shape.{Shape}
use Rattle.map_model.specs.Own.{value_from, without_text, free_entity, first_free, others_over}
use Rattle.map_model.specs.Links.{at_both, same_counts_of_children, is_image_origin, values_agree, same_values, same_group, IsOneContent, AllOne, leads}
use Rattle.map_laws.proofs.Lists.{by_eq}
use Rattle.map_laws.proofs.Beneath.{some_one}
use Rattle.map_laws.proofs.Nodes.{same_kind_is}
use Rattle.map_laws.proofs.Skeleton.{kind_at}
use Rattle.map_laws.proofs.Slots.{at-renew_same, at-renew_other}
use Rattle.map_laws.proofs.Renewing.{Alike, renew_alike, same_children, same_set}
use Rattle.link_laws.specs.Images.{NodesAgree}
use Rattle.link_laws.proofs.Values.{by_bool, text_is, same_values_of, of_same_values}
use Rattle.link_laws.proofs.Planes.{same_bytes}
use Rattle.link_laws.proofs.ProtectedKeys.{still_without}
use Rattle.link_laws.proofs.FreedValues.{freed, keeps_freed, value_taken, value_left}
use Rattle.link_laws.proofs.Protecting.{at_both_is, at_both_from, one_from, content_alike}
use Rattle.link_laws.proofs.Putting.{found, one_number}
use Rattle.link_laws.proofs.Ones.{Both, Linked, over_content}
use Rattle.link_laws.proofs.SpreadOne.{set_linked}
use Rattle.link_laws.proofs.SpreadNodes.{is_other}
use Rattle.link_laws.proofs.Agreeing.{place_marks, others_is}
use Rattle.link_laws.proofs.Edited.{group_linked}

-- The node agrees with a node that has the value already, or protects the key.
module _ (key : List ℕ) (plain : bytes_eq key origin ≡ false) (source : Option Node) where
  abbrev Taken : Node → Node → Type 0
  Taken x b = is_text_among key (protected_of b) ≡ false → value_at key (value_from key source (props_of x)) ≡ value_at key (props_of b)

  flip : (k : List ℕ) → bytes_eq key k ≡ false → bytes_eq k key ≡ false
  flip k e = by_bool (bytes_eq k key) (λ f. absurd (true≢false (sym (ap (bytes_eq key) (text_is k key f) ∙ same_bytes key) ∙ e))) (λ f. f)

  same_origin : (ps : List (List ℕ × List ℕ)) → value_at origin (value_from key source ps) ≡ value_at origin ps
  same_origin ps = value_left origin key source ps plain (flip origin plain)

  values_first : (p : ℕ) (k : Option ℕ) (ps : List (List ℕ × List ℕ)) (pr : List (List ℕ)) (bs : List ℕ) (b : Node) → Taken (Entity p k ps pr bs) b →
      same_values (Entity p k ps pr bs) b ≡ true → same_values (freed key source (Entity p k ps pr bs)) b ≡ true
  values_first p k ps pr bs b taken h = same_values_of (freed key source (Entity p k ps pr bs)) b (λ j o e.
      let w = or_parts (is_text_among j (without_text key pr)) (is_text_among j (protected_of b)) e in
      by_bool (bytes_eq key j)
      (λ f. let s = text_is key j f in
      ap (λ t. value_at t (value_from key source ps)) (sym s) ∙ taken (ap (λ t. is_text_among t (protected_of b)) s ∙ w.1) ∙ ap (λ t. value_at t (props_of b)) s)
      (λ f. value_left j key source ps f (flip j f) ∙ of_same_values (Entity p k ps pr bs) b h j o (or_from _ _ (still_without j key pr (flip j f) w.0) w.1)))

  values_second : (t : Bool) (a : Node) (p : ℕ) (k : Option ℕ) (ps : List (List ℕ × List ℕ)) (pr : List (List ℕ)) (bs : List ℕ) → Taken (Entity p k ps pr bs) a →
      (not t || same_values a (Entity p k ps pr bs)) ≡ true → (not t || same_values a (freed key source (Entity p k ps pr bs))) ≡ true
  values_second false a p k ps pr bs taken h = refl
  values_second true a p k ps pr bs taken h = same_values_of a (freed key source (Entity p k ps pr bs)) (λ j o e.
      let w = or_parts (is_text_among j (protected_of a)) (is_text_among j (without_text key pr)) e in
      by_bool (bytes_eq key j)
      (λ f. let s = text_is key j f in
      sym (ap (λ t. value_at t (value_from key source ps)) (sym s) ∙ taken (ap (λ t. is_text_among t (protected_of a)) s ∙ w.0) ∙ ap (λ t. value_at t (props_of a)) s))
      (λ f. of_same_values a (Entity p k ps pr bs) h j o (or_from _ _ w.0 (still_without j key pr (flip j f) w.1)) ∙ sym (value_left j key source ps f (flip j f))))

  pub freed_first : (r : Motion) (a b : Node) → kind_of a ≡ entity → Taken a b → NodesAgree r a b → NodesAgree r (freed key source a) b
  freed_first r (World c d e f) b is taken h = absurd (cc)
  freed_first r (Layer c d e f g) b is taken h = absurd (cc)
  freed_first r (Group c d e f g i j) b is taken h = absurd (cc)
  freed_first r (Entity p k ps pr bs) b is taken h = record {
    place = h.place;
    faces = h.faces;
    group = refl;
    origin = ap (λ o. is_image_origin r o (value_at origin (props_of b))) (same_origin ps) ∙ h.origin;
    values = values_first p k ps pr bs b taken h.values;
  }
  freed_first r (Brush c d e) b is taken h = absurd (cc)

  pub freed_second : (r : Motion) (a b : Node) → kind_of b ≡ entity → Taken b a → NodesAgree r a b → NodesAgree r a (freed key source b)
  freed_second r a (World c d e f) is taken h = absurd (cc)
  freed_second r a (Layer c d e f g) is taken h = absurd (cc)
  freed_second r a (Group c d e f g i j) is taken h = absurd (cc)
  freed_second r a (Entity p k ps pr bs) is taken h = record {
    place = h.place;
    faces = h.faces;
    group = group_freed a;
    origin = ap (λ o. not (has_kind entity a) || is_image_origin r (value_at origin (props_of a)) o) (same_origin ps) ∙ h.origin;
    values = values_second (has_kind entity a) a p k ps pr bs taken h.values;
  }
    where
      group_freed : (a : Node) → same_group a (freed key source (Entity p k ps pr bs)) ≡ true
      group_freed (World f q cs os) = refl
      group_freed (Layer n z q cs os) = refl
      group_freed (Group q j n l qs cs os) = refl
      group_freed (Entity q j qs pr cs) = refl
      group_freed (Brush q j fs) = refl
  freed_second r a (Brush c d e) is taken h = absurd (cc)

-- The value that is taken. ---------------------------------------------------------------------------------------------------------------

find_in : (p : ℕ → Bool) (l : List ℕ) (y : ℕ) → y ∈ l → p y ≡ true → (z : ℕ) × (find p l ≡ Some z)
find_in p [] y i e = elim i [ ]
find_in p (x ∷ l) y here e = (x, ap (λ b. cond b (Some x) (find p l)) e)
find_in p (x ∷ l) y (there i) e = by_bool (p x)
    (λ f. (x, ap (λ b. cond b (Some x) (find p l)) f))
    (λ f. let w = find_in p l y i e in (w.0, ap (λ b. cond b (Some x) (find p l)) f ∙ w.1))

-- What stands in a member for a node, if it leaves the key free.
record Free (m : Whole) (n : ℕ) (key : List ℕ) (h : ℕ) (x : Node) : Type 0 where
  number : ℕ
  marked : marked_in m h (mark_at m n) ≡ Some number
  node : at m number ≡ Some x
  free : is_text_among key (protected_of x) ≡ false

free_from : (m : Whole) (n : ℕ) (key : List ℕ) (h : ℕ) (x : Node) → free_entity m n key h ≡ Some x → Free m n key h x
free_from m n key h x e = by (marked_in m h (mark_at m n)) refl e
  where
    some_is : {a b : Node} → Some a ≡ Some b → a ≡ b
    some_is {a} {b} e = cc

    kept : (z : ℕ) (y : Node) (b : Bool) → marked_in m h (mark_at m n) ≡ Some z → at m z ≡ Some y → is_text_among key (protected_of y) ≡ b → cond b None (Some y) ≡ Some x → Free m n key h x
    kept z y true f g i e = absurd (cc)
    kept z y false f g i e = record { number = z; marked = f; node = g ∙ e; free = ap (λ w. is_text_among key (protected_of w)) (sym (some_is e)) ∙ i }

    node : (z : ℕ) (p : Option Node) → marked_in m h (mark_at m n) ≡ Some z → at m z ≡ p →
        (elim p as (λ p. Option Node) [ None ↦ None | Some x ↦ cond (is_text_among key (protected_of x)) None (Some x) ]) ≡ Some x → Free m n key h x
    node z None f g e = absurd (cc)
    node z (Some y) f g e = kept z y (is_text_among key (protected_of y)) f g refl e

    by : (o : Option ℕ) → marked_in m h (mark_at m n) ≡ o →
        (elim o as (λ o. Option Node) [ None ↦ None | Some k ↦ elim (at m k) as (λ p. Option Node) [ None ↦ None | Some x ↦ cond (is_text_among key (protected_of x)) None (Some x) ] ]) ≡ Some x → Free m n key h x
    by None f e = absurd (cc)
    by (Some z) f e = node z (at m z) f refl e

free_to : (m : Whole) (n : ℕ) (key : List ℕ) (h : ℕ) (x : Node) → Free m n key h x → free_entity m n key h ≡ Some x
free_to m n key h x w =
    ap (λ o. elim o as (λ o. Option Node) [ None ↦ None | Some k ↦ elim (at m k) as (λ p. Option Node) [ None ↦ None | Some x ↦ cond (is_text_among key (protected_of x)) None (Some x) ] ]) w.marked
    ∙ ap (λ p. elim p as (λ p. Option Node) [ None ↦ None | Some x ↦ cond (is_text_among key (protected_of x)) None (Some x) ]) w.node
    ∙ ap (λ b. cond b None (Some x)) w.free

record Source (m : Whole) (n : ℕ) (key : List ℕ) (hs : List ℕ) : Type 0 where
  member : ℕ
  among : member ∈ hs
  node : Node
  is_free : Free m n key member node
  first : first_free m n key hs ≡ Some node

later_member : (h x : ℕ) (hs : List ℕ) → h ∈ (x ∷ hs) → (h ≡ x → ⊥) → h ∈ hs
later_member h x hs here ne = absurd (ne refl)
later_member h x hs (there i) ne = i

source_of : (m : Whole) (n : ℕ) (key : List ℕ) (hs : List ℕ) (h : ℕ) (x : Node) → h ∈ hs → free_entity m n key h ≡ Some x → Source m n key hs
source_of m n key [] h x i e = elim i [ ]
source_of m n key (h1 ∷ hs) h x i e = by (free_entity m n key h1) refl (λ j. source_of m n key hs h x j e)
  where
    rest : free_entity m n key h1 ≡ None → h ∈ hs
    rest f = later_member h h1 hs i (λ s. clash (sym e ∙ ap (free_entity m n key) s ∙ f))
      where
        clash : Some x ≡ None → ⊥
        clash e = cc

    by : (o : Option Node) → free_entity m n key h1 ≡ o → (h ∈ hs → Source m n key hs) → Source m n key (h1 ∷ hs)
    by (Some y) f later = record {
      member = h1;
      among = here;
      node = y;
      is_free = free_from m n key h1 y f;
      first = ap (λ o. elim o as (λ o. Option Node) [ None ↦ first_free m n key hs | Some x ↦ Some x ]) f;
    }
    by None f later =
        let w = later (rest f) in
        record {
          member = w.member;
          among = there w.among;
          node = w.node;
          is_free = w.is_free;
          first = ap (λ o. elim o as (λ o. Option Node) [ None ↦ first_free m n key hs | Some x ↦ Some x ]) f ∙ w.first;
        }

-- The value comes from a node of the map.
pub first_node : (m : Whole) (n : ℕ) (key : List ℕ) (hs : List ℕ) (y : Node) → first_free m n key hs ≡ Some y → (z : ℕ) × (at m z ≡ Some y)
first_node m n key [] y e = absurd (cc)
first_node m n key (h ∷ hs) y e = by (free_entity m n key h) refl e (first_node m n key hs y)
  where
    by : (o : Option Node) → free_entity m n key h ≡ o → (elim o as (λ o. Option Node) [ None ↦ first_free m n key hs | Some x ↦ Some x ]) ≡ Some y →
        (first_free m n key hs ≡ Some y → (z : ℕ) × (at m z ≡ Some y)) → (z : ℕ) × (at m z ≡ Some y)
    by None f e later = later e
    by (Some x) f e later = let w = free_from m n key h y (f ∙ e) in (w.number, w.node)

module _ (m : Whole) (n : ℕ) (key : List ℕ) (plain : bytes_eq key origin ≡ false) (shape : Shape m) (all : AllOne m) (is : kind_at m n ≡ Some entity) where
  abbrev source : Option Node
  source = first_free m n key (others_over m n)

  marks_at : (z t : ℕ) → mark_at m n ≡ Some t → is_one_number (mark_at m z) (mark_at m n) ≡ true → mark_at m z ≡ Some t
  marks_at z t q e = let w = one_number (mark_at m z) (mark_at m n) e in w.1 ∙ sym w.2 ∙ q

  one_mark : (x z t : ℕ) → mark_at m x ≡ Some t → mark_at m z ≡ Some t → is_one_number (mark_at m x) (mark_at m z) ≡ true
  one_mark x z t p q = (λ i. is_one_number (p i) (q i)) ∙ eq-eqb t t refl

  -- the node with the mark of n in another member
  found_in : (h y t : ℕ) → Linked m h → y ∈ content m h → mark_at m n ≡ Some t → mark_at m y ≡ Some t → marked_in m h (mark_at m n) ≡ Some y
  found_in h y t l j own mark =
      let z = find_in (λ q. is_one_number (mark_at m q) (mark_at m n)) (content m h) y j (one_mark y n t mark own) in
      let w = found (λ q. is_one_number (mark_at m q) (mark_at m n)) (content m h) z.0 z.1 in
      z.1 ∙ ap Some (shape.marks.distinct h z.0 y (over_content m shape h z.0 l w.0) (over_content m shape h y l j) (marks_at z.0 t own w.1 ∙ sym mark))

  agrees : (x z : ℕ) (a c : Node) → at m x ≡ Some a → at m z ≡ Some c → at_both m values_agree x z ≡ true → values_agree a c ≡ true
  agrees x z a c p q e = let w = at_both_is m values_agree x z e in (λ i. values_agree (some_one p w.2 i) (some_one q w.3 i)) ∙ w.4

  both_free : (a c : Node) → kind_of a ≡ entity → is_text_among key (protected_of c) ≡ false → is_text_among key (protected_of a) ≡ false → values_agree a c ≡ true → value_at key (props_of a) ≡ value_at key (props_of c)
  both_free a c k fc fa e = of_same_values a c (sym (ap (λ j. not (same_kind j entity) || same_values a c) k) ∙ e) key plain (or_from _ _ fa fc)

  -- the value of one that leaves the key free is that of each other that does
  one_value : (g h y t : ℕ) (b : Node) → h ∈ other_members m g → Linked m h → y ∈ content m h → mark_at m n ≡ Some t → mark_at m y ≡ Some t → at m y ≡ Some b → kind_of b ≡ entity → is_text_among key (protected_of b) ≡ false →
      (w : Source m n key (other_members m g)) → value_at key (props_of w.node) ≡ value_at key (props_of b)
  one_value g h y t b other l j own mark at_y kind free w =
      let u = found (λ q. is_one_number (mark_at m q) (mark_at m n)) (content m w.member) w.is_free.number w.is_free.marked in
      by_eq w.member h
      (λ e. ap (λ v. value_at key (props_of v)) (some_one w.is_free.node
      (ap (at m) (some_one (sym (ap (λ k. marked_in m k (mark_at m n)) e) ∙ w.is_free.marked) (found_in h y t l j own mark)) ∙ at_y)))
      (λ e. sym (both_free b w.node kind w.is_free.free free (agrees y w.is_free.number b w.node at_y w.is_free.node
      (others_is m g shape all h w.member other w.among (λ r. e (sym r)) y w.is_free.number j u.0 (one_mark y w.is_free.number t mark (marks_at w.is_free.number t own u.1))))))

  -- an entity in another member that corresponds to n and leaves the key free has the value that is taken
  taken : (s g h y : ℕ) (b : Node) (ps : List (List ℕ × List ℕ)) → set_at m g ≡ Some s → set_at m h ≡ Some s → h ≢ g → n ∈ content m g → y ∈ content m h → mark_at m n ≡ mark_at m y → at m y ≡ Some b → kind_of b ≡ entity →
      is_text_among key (protected_of b) ≡ false → value_at key (value_from key (first_free m n key (others_over m n)) ps) ≡ value_at key (props_of b)
  taken s g h y b ps e f ne i j marks at_y kind free =
      let over_n = over_content m shape g n (set_linked m g s e) i in
      by (mark_at m n) refl (shape.marks.marked n ∙ ap is_some over_n)
      (ap (λ o. elim o as (λ o. List ℕ) [ None ↦ [] | Some g ↦ other_members m g ]) over_n)
    where
      lh : Linked m h
      lh = set_linked m h s f

      other : h ∈ other_members m g
      other = is_other m g h shape lh (e ∙ sym f) ne

      by : (o : Option ℕ) → mark_at m n ≡ o → is_some o ≡ true → others_over m n ≡ other_members m g → value_at key (value_from key (first_free m n key (others_over m n)) ps) ≡ value_at key (props_of b)
      by None own some others = absurd (true≢false (sym some))
      by (Some t) own some others =
          let mark : mark_at m y ≡ Some t = sym marks ∙ own in
          let w = source_of m n key (other_members m g) h b other (free_to m n key h b (record { number = y; marked = found_in h y t lh j own mark; node = at_y; free = free })) in
          ap (λ hs. value_at key (value_from key (first_free m n key hs) ps)) others
          ∙ ap (λ o. value_at key (value_from key o ps)) w.first ∙ value_taken key w.node ps ∙ one_value g h y t b other lh j own mark at_y kind free w

  abbrev f : Node → Node
  f = freed key (first_free m n key (others_over m n))

  abbrev k : Whole
  k = renew n (freed key (first_free m n key (others_over m n))) m

  alike : Alike m (renew n (freed key (first_free m n key (others_over m n))) m)
  alike = renew_alike m n (freed key (first_free m n key (others_over m n))) (keeps_freed key (first_free m n key (others_over m n)))

  kind_n : (x : ℕ) (a : Node) → x ≡ n → at m x ≡ Some a → kind_of a ≡ entity
  kind_n x a s e = some_is (ap (option_map kind_of) (sym e) ∙ ap (kind_at m) s ∙ is)
    where
      some_is : Some (kind_of a) ≡ Some entity → kind_of a ≡ entity
      some_is e = cc

  changed_at : (x : ℕ) (a : Node) → x ≡ n → at m x ≡ Some a → at k x ≡ Some (f a)
  changed_at x a s e = at-renew_same m n x (freed key (first_free m n key (others_over m n))) s ∙ ap (option_map (freed key (first_free m n key (others_over m n)))) e

  left_at : (x : ℕ) (a : Node) → x ≢ n → at m x ≡ Some a → at k x ≡ Some a
  left_at x a ne e = at-renew_other m n x (freed key (first_free m n key (others_over m n))) ne ∙ e

  marks_of : (r : Motion) (x y : ℕ) (w : Both m r x y) → mark_at m x ≡ mark_at m y
  marks_of r x y w = ap (λ o. unwrap_or (option_map mark_of o) None) w.at_first ∙ place_marks w.first w.second w.agree.place ∙ sym (ap (λ o. unwrap_or (option_map mark_of o) None) w.at_second)

  same_kinds : (r : Motion) (a b : Node) → NodesAgree r a b → kind_of a ≡ kind_of b
  same_kinds r a b w = same_kind_is (kind_of a) (kind_of b) (and_parts (same_kind (kind_of a) (kind_of b)) _ w.place).0

  both_now : (s g h : ℕ) (r : Motion) → set_at m g ≡ Some s → set_at m h ≡ Some s → g ≢ h → (x y : ℕ) → x ∈ content m g → y ∈ content m h → Both m r x y → Both k r x y
  both_now s g h r e t ne x y i j w = by_eq x n
      (λ p. by_eq y n
      (λ q. absurd (ne (some_one (over_content m shape g x (set_linked m g s e) i) (ap (over m) (p ∙ sym q) ∙ over_content m shape h y (set_linked m h s t) j))))
      (λ q. record {
        first = f w.first;
        second = w.second;
        at_first = changed_at x w.first p w.at_first;
        at_second = left_at y w.second q w.at_second;
        agree = freed_first key plain (first_free m n key (others_over m n)) r w.first w.second (kind_n x w.first p w.at_first)
            (taken s g h y w.second (props_of w.first) e t (λ v. ne (sym v)) (subst (λ v. v ∈ content m g) p i) j (sym (ap (mark_at m) p) ∙ marks_of r x y w) w.at_second
            (sym (same_kinds r w.first w.second w.agree) ∙ kind_n x w.first p w.at_first)) w.agree;
      }))
      (λ p. by_eq y n
      (λ q. record {
        first = w.first;
        second = f w.second;
        at_first = left_at x w.first p w.at_first;
        at_second = changed_at y w.second q w.at_second;
        agree = freed_second key plain (first_free m n key (others_over m n)) r w.first w.second (kind_n y w.second q w.at_second)
            (taken s h g x w.first (props_of w.second) t e ne (subst (λ v. v ∈ content m h) q j) i (sym (ap (mark_at m) q) ∙ sym (marks_of r x y w)) w.at_first
            (same_kinds r w.first w.second w.agree ∙ kind_n y w.second q w.at_second)) w.agree;
      })
      (λ q. record { first = w.first; second = w.second; at_first = left_at x w.first p w.at_first; at_second = left_at y w.second q w.at_second; agree = w.agree }))

  no_group : (g : ℕ) → Linked m g → g ≢ n
  no_group g l s = differ (some_one (group_linked m g l) (ap (kind_at m) s ∙ is))
    where
      differ : group ≡ entity → ⊥
      differ e = cc

  pub unprotect_is : AllOne (renew n (freed key (first_free m n key (others_over m n))) m)
  unprotect_is s g h e t ne =
      let eg = sym (same_set alike g) ∙ e in let eh = sym (same_set alike h) ∙ t in
      let one = all s g h eg eh ne in
      let w = at_both_is m same_counts_of_children g h one.tops in
      subst (λ r. IsOneContent k true r g h)
      (λ i. between (unwrap_or (option_map (λ l. l.motion) (sym (alike.links g) i)) stay) (unwrap_or (option_map (λ l. l.motion) (sym (alike.links h) i)) stay))
      (one_from m k (leads m g h) (leads m g h) g h (content_alike m k alike.next (same_children alike) g) (content_alike m k alike.next (same_children alike) h)
      (at_both_from k same_counts_of_children g h w.0 w.1 (left_at g w.0 (no_group g (set_linked m g s eg)) w.2) (left_at h w.1 (no_group h (set_linked m h s eh)) w.3) w.4)
      (λ x y i j v. both_now s g h (leads m g h) eg eh ne x y i j v) one)
