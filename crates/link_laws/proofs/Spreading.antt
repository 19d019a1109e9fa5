-- One member's content put in place of those of the others, one after another.
use Rattle.std.proofs.Common.{◌≡◌, ◌≢◌, ℕ, ◌≤◌, List, [], ◌∷◌, map, Bool, cond, refl, ap, sym, ◌∙◌, subst, arith, Option, Some, None, option_map}
use Rattle.std.specs.Prelude.{unwrap_or}
use Rattle.std.specs.List.{find}
use Rattle.algebra.specs.Members.{◌∈◌, here, there}
use Rattle.map_model.specs.Motions.{stay, between}
use Rattle.map_model.specs.Tree.{Whole, Node, Link, group, at, up, content, kind_of, mark_of, link_of, link_at, mark_at, is_one_number}
use Rattle.map_model.specs.Edits.{renumber}
use Rattle.map_model.specs.Links.{image, old_number, old_node, put_content, put_contents, leads}
use Rattle.map_laws.specs.Placed.{Placed, Bounded}
use Rattle.map_laws.proofs.Lists.{by_eq}
use Rattle.map_laws.proofs.Beneath.{Beneath}
use Rattle.map_laws.proofs.Skeleton.{kind_at, planted}
use Rattle.map_laws.proofs.Placing.{chains}
use Rattle.link_laws.proofs.Contents.{SameContent, same_itself, same_then, same_content, below_back}
use Rattle.link_laws.proofs.Pairs.{Once}
use Rattle.link_laws.proofs.Putting.{Pair, found, from_content, put_placed, D_h, O_h, kind_plain}
use Rattle.link_laws.proofs.Members.{Member, member_new, bound_new, stays, others_stay, still_out, link_h, links_back}

-- Groups of which none stands beneath another.
pub record Field (G : ℕ → Type 0) (m : Whole) : Type 0 where
  pub placed : Placed m
  pub bound : Bounded m
  pub groups : (p : ℕ) → G p → kind_at m p ≡ Some group
  pub apart : (p q : ℕ) → G p → G q → p ≢ q → Beneath (up m) p q → ⊥

-- n has the content of g as those of hs besides, by images, and the contents of all others as they were.
pub record Spreads (G : ℕ → Type 0) (m n : Whole) (g : ℕ) (hs : List ℕ) : Type 0 where
  pub field_now : Field G n
  pub next : m.next ≤ n.next
  pub others : (p : ℕ) → G p → (p ∈ hs → ⊥) → SameContent p m n
  pub stand : (p : ℕ) → G p → (p ∈ hs → ⊥) → at n p ≡ at m p
  pub members : (h : ℕ) → h ∈ hs → Member m n g h
  pub links : (p : ℕ) → G p → link_at n p ≡ link_at m p
  pub no_more : (q : ℕ) (l : Link) → link_at n q ≡ Some l → link_at m q ≡ Some l

-- Marks within the content of g are distinct, and no node of it is linked.
pub record Source (m : Whole) (g : ℕ) : Type 0 where
  pub marks : (a d k : ℕ) → a ∈ content m g → d ∈ content m g → mark_at m a ≡ Some k → mark_at m d ≡ Some k → a ≡ d
  pub bare : (q : ℕ) → q ∈ content m g → link_at m q ≡ None

module _ (G : ℕ → Type 0) (m : Whole) (F : Field G m) where
  rooted : (p : ℕ) → G p → Beneath (up m) 0 p
  rooted p i = (planted F.placed).rooted p group (F.groups p i)

  pub pair_of : (g h : ℕ) → G g → G h → g ≢ h → Source m g → Pair m g h
  pair_of g h i j ne S = record {
    placed = F.placed;
    bound = F.bound;
    g_group = F.groups g i;
    h_group = F.groups h j;
    g_out = F.apart h g j i (λ e. ne (sym e));
    h_out = F.apart g h i j ne;
    marks = S.marks;
  }

  module _ (g h : ℕ) (i : G g) (j : G h) (ne : g ≢ h) (S : Source m g) where
    P : Pair m g h
    P = pair_of g h i j ne S

    abbrev k : Whole
    k = put_content g h m

    same_p : (p : ℕ) → G p → p ≢ h → SameContent p m k
    same_p p x far = others_stay m g h P p (rooted p x) (F.apart h p j x (λ e. far (sym e))) (F.apart p h x j far)

    stays_p : (p : ℕ) → G p → p ≢ h → at k p ≡ at m p
    stays_p p x far = stays m g h P p (rooted p x) (F.apart h p j x (λ e. far (sym e)))

    pub field_next : Field G k
    field_next = record {
      placed = put_placed m g h P;
      bound = bound_new m g h P;
      groups = λ p x. by_eq p h
          (λ e. ap (kind_at k) e ∙ kind_plain m g h P h (D_h m g h P) (O_h m g h P) ∙ F.groups h j)
          (λ far. ap (option_map kind_of) (stays_p p x far) ∙ F.groups p x);
      apart = λ p q x y far b. by_eq p h
          (λ e. still_out m g h P q (rooted q y) (F.apart h q j y (λ s. far (e ∙ s))) (λ s. far (e ∙ sym s)) (subst (λ z. Beneath (up k) z q) e b))
          (λ other. F.apart p q x y far (below_back (same_p p x other) (planted F.placed) (planted (put_placed m g h P)) b));
    }

    pub content_p : (p : ℕ) → G p → p ≢ h → content k p ≡ content m p
    content_p p x far = same_content (same_p p x far) (planted F.placed) (chains m (planted F.placed) F.bound) (rooted p x) (omega arith)

    pub node_p : (p q : ℕ) → G p → p ≢ h → q ∈ content m p → at k q ≡ at m q
    node_p p q x far i = let w = from_content m F.placed F.bound p (rooted p x) q i in (same_p p x far).nodes q w.0 w.1

    pub source_next : Source k g
    source_next = record {
      marks = λ a d c x y e f. let u = subst (λ l. a ∈ l) (content_p g i ne) x in let v = subst (λ l. d ∈ l) (content_p g i ne) y in
          S.marks a d c u v (ap slot_mark (sym (node_p g a i ne u)) ∙ e) (ap slot_mark (sym (node_p g d i ne v)) ∙ f);
      bare = λ q x. let u = subst (λ l. q ∈ l) (content_p g i ne) x in ap slot_link (node_p g q i ne u) ∙ S.bare q u;
    }
      where
        slot_mark : Option Node → Option ℕ
        slot_mark o = unwrap_or (option_map mark_of o) None

        slot_link : Option Node → Option Link
        slot_link o = unwrap_or (option_map link_of o) None

    link_p : (p : ℕ) → G p → link_at k p ≡ link_at m p
    link_p p x = by_eq p h
        (λ e. ap (link_at k) e ∙ link_h m g h P ∙ ap (link_at m) (sym e))
        (λ far. ap (λ o. unwrap_or (option_map link_of o) None) (stays_p p x far))

    pub one_step : Spreads G m k g (h ∷ [])
    one_step = record {
      field_now = field_next;
      next = omega arith;
      others = λ p x out. same_p p x (λ e. out (first p e));
      stand = λ p x out. stays_p p x (λ e. out (first p e));
      members = λ p x. only p x;
      links = link_p;
      no_more = λ q l e. links_back m g h P S.bare q l e;
    }
      where
        first : (p : ℕ) → p ≡ h → p ∈ (h ∷ [])
        first p e = rw e here

        only : (p : ℕ) → p ∈ (h ∷ []) → Member m k g p
        only p here = member_new m g h P
        only p (there x) = elim x [ ]

-- ---- one after another
find_agree : (f g : ℕ → Bool) (l : List ℕ) → ((x : ℕ) → x ∈ l → f x ≡ g x) → find f l ≡ find g l
find_agree f g [] e = refl
find_agree f g (x ∷ l) e = (λ i. cond (e x here i) (Some x) (find f l)) ∙ ap (λ r. cond (g x) (Some x) r) (find_agree f g l (λ y i. e y (there i)))

abbrev node_of : Whole → Option ℕ → Option Node
node_of m None = None
node_of m (Some x) = at m x

abbrev pub slot_mark : Option Node → Option ℕ
slot_mark o = unwrap_or (option_map mark_of o) None

-- The old node is the same where the content is.
module _ (m k : Whole) (h q : ℕ) (same : content k h ≡ content m h) (nodes : (x : ℕ) → x ∈ content m h → at k x ≡ at m x) (here_is : at k q ≡ at m q) where
  pub number_same : old_number k h q ≡ old_number m h q
  number_same = ap (find (λ n. is_one_number (mark_at k n) (mark_at k q))) same
      ∙ find_agree (λ n. is_one_number (mark_at k n) (mark_at k q)) (λ n. is_one_number (mark_at m n) (mark_at m q)) (content m h)
      (λ x i z. is_one_number (slot_mark (nodes x i z)) (slot_mark (here_is z)))

  node_by : (o : Option ℕ) → old_number m h q ≡ o → node_of k o ≡ node_of m o
  node_by None e = refl
  node_by (Some x) e = nodes x (found (λ n. is_one_number (mark_at m n) (mark_at m q)) (content m h) x e).0

  pub old_same : old_node k h q ≡ old_node m h q
  old_same = ap (node_of k) number_same ∙ node_by (old_number m h q) refl

module _ (G : ℕ → Type 0) (m k n : Whole) (g h : ℕ) (hs : List ℕ) (F : Field G m) (one : Spreads G m k g (h ∷ [])) (rest : Spreads G k n g hs)
    (i : G g) (all : (p : ℕ) → p ∈ (h ∷ hs) → G p) (out : h ∈ hs → ⊥) (g_out : g ∈ (h ∷ hs) → ⊥) where
  root : (p : ℕ) → G p → Beneath (up m) 0 p
  root p x = (planted F.placed).rooted p group (F.groups p x)

  root_k : (p : ℕ) → G p → Beneath (up k) 0 p
  root_k p x = (planted one.field_now.placed).rooted p group (one.field_now.groups p x)

  content_k : (p : ℕ) → G p → (p ∈ (h ∷ []) → ⊥) → content k p ≡ content m p
  content_k p x far = same_content (one.others p x far) (planted F.placed) (chains m (planted F.placed) F.bound) (root p x) one.next

  node_k : (p q : ℕ) → G p → (p ∈ (h ∷ []) → ⊥) → q ∈ content m p → at k q ≡ at m q
  node_k p q x far j = let w = from_content m F.placed F.bound p (root p x) q j in (one.others p x far).nodes q w.0 w.1

  g_not_h : g ∈ (h ∷ []) → ⊥
  g_not_h j = g_out (to_front g j)
    where
      to_front : (p : ℕ) → p ∈ (h ∷ []) → p ∈ (h ∷ hs)
      to_front p here = here
      to_front p (there x) = elim x [ ]

  leads_k : (p : ℕ) → G p → leads k g p ≡ leads m g p
  leads_k p x = λ z. between (unwrap_or (option_map (λ l. l.motion) (one.links g i z)) stay) (unwrap_or (option_map (λ l. l.motion) (one.links p x z)) stay)

  -- the first member stays as it was put
  first_member : Member m n g h
  first_member =
      let M = one.members h here in
      let j = all h here in
      let S = rest.others h j out in
      let fk = planted one.field_now.placed in
      let same : content n h ≡ content k h = same_content S fk (chains k fk one.field_now.bound) (root_k h j) rest.next in
      record {
        number = M.number;
        content_is = same ∙ M.content_is;
        nodes = λ q x.
            let w = from_content k one.field_now.placed one.field_now.bound h (root_k h j) (M.number q) (subst (λ l. M.number q ∈ l) (sym M.content_is) (to_map M.number q (content m g) x)) in
            S.nodes (M.number q) w.0 w.1 ∙ M.nodes q x;
        lists = λ c. S.lists c ∙ M.lists c;
      }
    where
      to_map : (t : ℕ → ℕ) (n : ℕ) (l : List ℕ) → n ∈ l → t n ∈ map t l
      to_map t n [] i = elim i [ ]
      to_map t n (k ∷ l) here = here
      to_map t n (k ∷ l) (there i) = there (to_map t n l i)

  later_member : (p : ℕ) → p ∈ hs → Member m n g p
  later_member p j =
      let M = rest.members p j in
      let x = all p (there j) in
      let far : p ∈ (h ∷ []) → ⊥ = λ e. out (subst (λ z. z ∈ hs) (is_head p e) j) in
      record {
        number = M.number;
        content_is = M.content_is ∙ ap (map M.number) (content_k g i g_not_h);
        nodes = λ q y. M.nodes q (subst (λ l. q ∈ l) (sym (content_k g i g_not_h)) y)
            ∙ (λ z. option_map (λ x. renumber M.number (image (leads_k p (all p (there j)) z) x (old_same m k p q (content_k p (all p (there j)) far) (λ x e. node_k p x (all p (there j)) far e) (node_k g q i g_not_h y) z))) (node_k g q i g_not_h y z));
        lists = λ c. M.lists c ∙ ap (map M.number) ((one.others g i g_not_h).lists c);
      }
    where
      is_head : (p : ℕ) → p ∈ (h ∷ []) → p ≡ h
      is_head p here = refl
      is_head p (there x) = elim x [ ]

  pub next_step : Spreads G m n g (h ∷ hs)
  next_step = record {
    field_now = rest.field_now;
    next = omega (arith, one.next, rest.next);
    others = λ p x far. same_then (one.others p x (λ j. far (front p j))) (rest.others p x (λ j. far (there j)));
    stand = λ p x far. rest.stand p x (λ j. far (there j)) ∙ one.stand p x (λ j. far (front p j));
    members = each;
    links = λ p x. rest.links p x ∙ one.links p x;
    no_more = λ q l e. one.no_more q l (rest.no_more q l e);
  }
    where
      front : (p : ℕ) → p ∈ (h ∷ []) → p ∈ (h ∷ hs)
      front p here = here
      front p (there x) = elim x [ ]

      each : (p : ℕ) → p ∈ (h ∷ hs) → Member m n g p
      each p here = first_member
      each p (there j) = later_member p j

pub spreads : (G : ℕ → Type 0) (g : ℕ) (hs : List ℕ) (m : Whole) → Field G m → Source m g → G g → ((p : ℕ) → p ∈ hs → G p) → Once hs → (g ∈ hs → ⊥) → Spreads G m (put_contents g hs m) g hs
spreads G g [] m F S i all o out = record {
  field_now = F;
  next = omega arith;
  others = λ p x far. same_itself p m;
  stand = λ p x far. refl;
  members = λ h j. elim j [ ];
  links = λ p x. refl;
  no_more = λ q l e. e;
}
spreads G g (h ∷ hs) m F S i all o out =
    let ne : g ≢ h = λ e. out (first g e) in
    next_step G m (put_content g h m) (put_contents g hs (put_content g h m)) g h hs F (one_step G m F g h i (all h here) ne S)
    (spreads G g hs (put_content g h m) (field_next G m F g h i (all h here) ne S) (source_next G m F g h i (all h here) ne S) i (λ p j. all p (there j)) o.1 (λ j. out (there j)))
    i all o.0 out
  where
    first : (p : ℕ) → p ≡ h → p ∈ (h ∷ hs)
    first p e = rw e here
