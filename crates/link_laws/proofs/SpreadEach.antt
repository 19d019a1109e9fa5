-- The edited groups are spread one after another: then each two members of each set are one content, and the map has its shape.
use Rattle.std.proofs.Common.{◌≡◌, ◌≢◌, ℕ, ◌+◌, ◌≤◌, List, [], ◌∷◌, map, Bool, true, false, not, ◌==◌, ◌&&◌, refl, ap, sym, ◌∙◌, subst, arith, Option, Some, None, option_map}
use Rattle.std.specs.Prelude.{Result, Ok, Err, sum, is_some, filter, unwrap_or}
use Rattle.algebra.specs.Members.{◌∈◌, here, there}
use Rattle.map_model.specs.Tree.{Whole, Link, link_of, at, content, link_at, set_at, other_members, all_numbers, is_one_number}
use Rattle.map_model.specs.Shape.{Shape}
use Rattle.map_model.specs.Below.{Below, IsRight}
use Rattle.map_model.specs.Replies.{Refusal}
use Rattle.map_model.specs.Links.{One, AllOne, OthersAgree, new_images, put_contents, spread, spread_all}
use Rattle.map_model.specs.Apply.{images_of}
use Rattle.map_laws.proofs.Lists.{by_eq}
use Rattle.map_laws.proofs.Renewing.{linked_is}
use Rattle.link_laws.proofs.Contents.{same_content}
use Rattle.link_laws.proofs.Pairs.{Once, none_or_some}
use Rattle.link_laws.proofs.Putting.{from_content}
use Rattle.link_laws.proofs.Spreading.{Spreads, spreads}
use Rattle.link_laws.proofs.Ones.{Linked, linked_of, field, source, root, cm, fm}
use Rattle.link_laws.proofs.SpreadOne.{other_is, set_linked, once_filter, once_numbers, spread_cases, all_one}
use Rattle.link_laws.proofs.SpreadTree.{tree_kept}
use Rattle.link_laws.proofs.SpreadNodes.{each_spread}
use Rattle.link_laws.proofs.SpreadNumbers.{sum_first, map_same, images_same, contents_next, numbers_pass}
use Rattle.link_laws.proofs.Agreeing.{agree_from_one}

-- ---- one spread
module _ (m : Whole) (g : ℕ) (shape : Shape m) (linked : Linked m g) where
  abbrev n : Whole
  n = put_contents g (other_members m g) m

  linked_h : (h : ℕ) → h ∈ other_members m g → Linked m h
  linked_h h i = let o = other_is m g h i in set_linked m h o.set o.own

  g_out : g ∈ other_members m g → ⊥
  g_out i = (other_is m g g i).apart refl

  once : Once (other_members m g)
  once = once_filter (λ h. not (h == g) && is_one_number (set_at m h) (set_at m g)) (all_numbers m) (once_numbers m.next)

  S : Spreads (Linked m) m (put_contents g (other_members m g) m) g (other_members m g)
  S = spreads (Linked m) g (other_members m g) m (field m shape) (source m shape g linked) linked linked_h once g_out

  pub next_spread : (put_contents g (other_members m g) m).next ≡ m.next + images_of m g
  next_spread = contents_next (Linked m) g (other_members m g) m (field m shape) (source m shape g linked) linked linked_h once g_out

  pub links_spread : (q : ℕ) → link_at (put_contents g (other_members m g) m) q ≡ link_at m q
  links_spread q = none_or_some (link_at m q)
      (λ e. none_or_some (link_at (put_contents g (other_members m g) m) q) (λ f. f ∙ sym e) (λ l f. f ∙ sym (S.no_more q l f)))
      (λ l e. S.links q (linked_of m q l e))

  away : (p : ℕ) → set_at m p ≢ set_at m g → p ∈ other_members m g → ⊥
  away p ne i = let o = other_is m g p i in ne (o.own ∙ sym o.same)

  pub content_spread : (p : ℕ) → Linked m p → set_at m p ≢ set_at m g → content (put_contents g (other_members m g) m) p ≡ content m p
  content_spread p l ne = same_content (S.others p l (away p ne)) (fm m shape) (cm m shape) (root m shape p l) S.next

  pub nodes_spread : (p q : ℕ) → Linked m p → set_at m p ≢ set_at m g → q ∈ content m p → at (put_contents g (other_members m g) m) q ≡ at m q
  nodes_spread p q l ne i =
      let w = from_content m (field m shape).placed (field m shape).bound p (root m shape p l) q i in
      (S.others p l (away p ne)).nodes q w.0 w.1

  -- the groups of other sets draw as many numbers as before
  others_spread : (p : ℕ) → other_members (put_contents g (other_members m g) m) p ≡ other_members m p
  others_spread p =
      (λ i. keep (λ q. ap (option_map (λ l. l.set)) (links_spread q)) i)
      ∙ numbers_pass (λ h. not (h == p) && is_one_number (set_at m h) (set_at m p)) m.next (put_contents g (other_members m g) m).next S.next (λ q far. none_there q far)
    where
      keep : ((q : ℕ) → set_at (put_contents g (other_members m g) m) q ≡ set_at m q) → other_members (put_contents g (other_members m g) m) p
          ≡ filter (λ h. not (h == p) && is_one_number (set_at m h) (set_at m p)) (all_numbers (put_contents g (other_members m g) m))
      keep e = λ i. filter (λ h. not (h == p) && is_one_number (e h i) (e p i)) (all_numbers (put_contents g (other_members m g) m))

      none_there : (q : ℕ) → m.next ≤ q → (not (q == p) && is_one_number (set_at m q) (set_at m p)) ≡ false
      none_there q far = by (not (q == p)) (set_at m q) (ap (λ o. option_map (λ (l : Link). l.set) (unwrap_or (option_map link_of o) None)) (shape.numbers.nodes q far))
        where
          by : (b : Bool) (o : Option ℕ) → o ≡ None → (b && is_one_number o (set_at m p)) ≡ false
          by false o e = refl
          by true o e = ap (λ o. is_one_number o (set_at m p)) e

  pub images_spread : (p : ℕ) → Linked m p → set_at m p ≢ set_at m g → images_of (put_contents g (other_members m g) m) p ≡ images_of m p
  images_spread p l ne =
      ap (λ hs. sum (map (new_images (put_contents g (other_members m g) m) p) hs)) (others_spread p)
      ∙ ap sum (map_same (new_images (put_contents g (other_members m g) m) p) (new_images m p) (other_members m p) (λ h i.
      let o = other_is m p h i in
      let lh = set_linked m h o.set o.own in
      let nh : set_at m h ≢ set_at m g = λ e. ne (o.same ∙ sym o.own ∙ e) in
      images_same m (put_contents g (other_members m g) m) p h (content_spread p l ne) (λ q j. nodes_spread p q l ne j) (content_spread h lh nh) (λ q j. nodes_spread h q lh nh j)))

-- What is known of the map n after a spread from g in m.
pub record AfterOne (m n : Whole) (g : ℕ) : Type 0 where
  pub shape : Shape n
  pub links : (q : ℕ) → link_at n q ≡ link_at m q
  pub one : (s h k : ℕ) → set_at m g ≡ Some s → set_at n h ≡ Some s → set_at n k ≡ Some s → h ≢ k → One n h k
  pub others : (s h k : ℕ) → set_at m g ≢ Some s → set_at n h ≡ Some s → set_at n k ≡ Some s → One m h k → One n h k
  pub images : (p : ℕ) → Linked m p → set_at m p ≢ set_at m g → images_of n p ≡ images_of m p
  pub next : n.next ≡ m.next + images_of m g

pub after_one : (b : Below) (m n : Whole) (g : ℕ) → IsRight b → Shape m → Linked m g → OthersAgree m g → spread b g m ≡ Ok n → m.next + images_of m g ≤ 65536 → AfterOne m n g
after_one b m n g right shape linked agree e most =
    let w = spread_cases b m n g e in
    let t = tree_kept m g shape linked in
    let o = all_one b m g shape linked agree w.0 in
    subst (λ n. AfterOne m n g) w.1 (record {
      shape = record { standing = t.standing; each_node = each_spread b m g right shape linked w.0; numbers = t.numbers (omega (arith, most, next_spread m g shape linked)); marks = t.marks };
      links = links_spread m g shape linked;
      one = o.one;
      others = o.others;
      images = images_spread m g shape linked;
      next = next_spread m g shape linked;
    })

-- ---- one after another
-- What holds of a map from which the groups are spread: they are linked and in sets of their own, and members that aren't among them are one content.
pub record ToSpread (m : Whole) (gs : List ℕ) : Type 0 where
  pub shape : Shape m
  pub linked : (g : ℕ) → g ∈ gs → Linked m g
  pub distinct : Once gs
  pub apart : (g h : ℕ) → g ∈ gs → h ∈ gs → set_at m g ≡ set_at m h → g ≡ h
  pub one : (s h k : ℕ) → set_at m h ≡ Some s → set_at m k ≡ Some s → h ≢ k → (h ∈ gs → ⊥) → (k ∈ gs → ⊥) → One m h k

abbrev Answer : Type 0
Answer = Result Whole Refusal

ok_is : {x y : Whole} → ◌≡◌ {A = Answer} (Ok x) (Ok y) → x ≡ y
ok_is {x} {y} e = cc

all_cases : (b : Below) (g : ℕ) (gs : List ℕ) (m n : Whole) → spread_all b (g ∷ gs) m ≡ Ok n → (k : Whole) × (spread b g m ≡ Ok k) × (spread_all b gs k ≡ Ok n)
all_cases b g gs m n e = by (spread b g m) refl e
  where
    by : (r : Answer) → spread b g m ≡ r → (elim r as (λ r. Answer) [ Ok k ↦ spread_all b gs k | Err r ↦ Err r ]) ≡ Ok n → (k : Whole) × (spread b g m ≡ Ok k) × (spread_all b gs k ≡ Ok n)
    by (Ok k) f h = (k, f, h)
    by (Err r) f h = absurd (no_ok h)
      where
        no_ok : ◌≡◌ {A = Answer} (Err r) (Ok n) → ⊥
        no_ok e = cc

by_set : {P : Type 0} (o : Option ℕ) (s : ℕ) → (o ≡ Some s → P) → (o ≢ Some s → P) → P
by_set None s f g = g (λ e. cc)
by_set (Some a) s f g = by_eq a s (λ e. f (ap Some e)) (λ ne. g (λ e. ne (some_is e)))
  where
    some_is : Some a ≡ Some s → a ≡ s
    some_is e = cc

module _ (b : Below) (right : IsRight b) (m k : Whole) (g : ℕ) (gs : List ℕ) (t : ToSpread m (g ∷ gs)) (a : AfterOne m k g) where
  set_same : (q : ℕ) → set_at k q ≡ set_at m q
  set_same q = ap (option_map (λ l. l.set)) (a.links q)

  pub other_set : (x : ℕ) → x ∈ gs → set_at m x ≢ set_at m g
  other_set x i e = t.distinct.0 (subst (λ z. z ∈ gs) (t.apart x g (there i) here e) i)

  pub to_spread_next : ToSpread k gs
  to_spread_next = record {
    shape = a.shape;
    linked = λ x i. linked_is k x ∙ ap is_some (a.links x) ∙ sym (linked_is m x) ∙ t.linked x (there i);
    distinct = t.distinct.1;
    apart = λ x y i j e. t.apart x y (there i) (there j) (sym (set_same x) ∙ e ∙ set_same y);
    one = λ s h j e f ne oh oj. by_set (set_at m g) s
        (λ is. a.one s h j is e f ne)
        (λ far. a.others s h j far e f (t.one s h j (sym (set_same h) ∙ e) (sym (set_same j) ∙ f) ne
        (out s far h (sym (set_same h) ∙ e) oh) (out s far j (sym (set_same j) ∙ f) oj)));
  }
    where
      out : (s : ℕ) → set_at m g ≢ Some s → (h : ℕ) → set_at m h ≡ Some s → (h ∈ gs → ⊥) → h ∈ (g ∷ gs) → ⊥
      out s far h e none here = far e
      out s far h e none (there i) = none i

  pub images_next : sum (map (images_of k) gs) ≡ sum (map (images_of m) gs)
  images_next = ap sum (map_same (images_of k) (images_of m) gs (λ x i. a.images x (t.linked x (there i)) (other_set x i)))

-- Two other members agree in values.
agrees : (m : Whole) (g : ℕ) (gs : List ℕ) → ToSpread m (g ∷ gs) → OthersAgree m g
agrees m g gs t h k i j ne =
    let o = other_is m g h i in let p = other_is m g k j in
    agree_from_one m h k t.shape (set_linked m h o.set o.own) (set_linked m k p.set p.own)
    (t.one o.set h k o.own (p.own ∙ sym p.same ∙ o.same) ne (λ x. o.apart (t.apart h g x here (o.own ∙ sym o.same))) (λ x. p.apart (t.apart k g x here (p.own ∙ sym p.same))))

pub spread_each : (b : Below) → IsRight b → (gs : List ℕ) (m n : Whole) → ToSpread m gs → spread_all b gs m ≡ Ok n → m.next + sum (map (images_of m) gs) ≤ 65536 → Shape n × AllOne n
spread_each b right [] m n t e most =
    subst (λ n. Shape n × AllOne n) (ok_is e) (t.shape, (λ s h k f i ne. t.one s h k f i ne (λ x. elim x [ ]) (λ x. elim x [ ])))
spread_each b right (g ∷ gs) m n t e most =
    let w = all_cases b g gs m n e in
    let a = after_one b m w.0 g right t.shape (t.linked g here) (agrees m g gs t) w.1 (omega (arith, most, sum_first (images_of m) g gs)) in
    spread_each b right gs w.0 n (to_spread_next b right m w.0 g gs t a) w.2 (omega (arith, most, sum_first (images_of m) g gs, a.next, images_next b right m w.0 g gs t a))
