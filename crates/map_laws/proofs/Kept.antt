-- What nodes keep through edits of lists and parents, so that each stays right and numbers stay apart.
use Rattle.std.proofs.Common.{◌≡◌, ◌≢◌, ℕ, ◌<◌, ◌≤◌, List, [], ◌∷◌, ◌++◌, Bool, true, false, cond, ◌⊎◌, inl, inr, refl, ap, sym, ◌∙◌, subst, arith, Option, Some, None, option_map}
use Rattle.std.specs.Prelude.{unwrap_or}
use Rattle.std.proofs.lemmas.Bool.{cases_lt, eq-eqb, ne_eqb}
use Rattle.uv_lock.specs.declared.texture.Format.{Format}
use Rattle.uv_lock.specs.declared.texture.Format.TheVariants.{Standard}
use Rattle.map_model.specs.Tree.{Whole, Node, World, Layer, Group, Entity, Brush, Link, world, at, up, part_at, kind_of, link_of, mark_of, link_at, mark_at, set_at, is_brush, with_parent, format_of, format_of_node, among, preorder}
use Rattle.map_model.specs.Edits.{renew, relist, draw, without, take_out, put_in, put_last, forget, delete}
use Rattle.map_model.specs.Shape.{NodeOk, EachNode, Numbers}
use Rattle.map_laws.specs.Placed.{Placed, Bounded, NewOk}
use Rattle.map_laws.proofs.Lists.{by_eq}
use Rattle.map_laws.proofs.Forest.{not_none, up_or_not}
use Rattle.map_laws.proofs.Beneath.{some_one}
use Rattle.map_laws.proofs.Skeleton.{kind_is}
use Rattle.map_laws.proofs.Slots.{at-renew_same, at-renew_other, take_out-is, take_out-none, next-take_out, at-forget, next-forget}

-- A node without its lists and its parent.
abbrev pub bare : Node → Node
bare (World format props brushes others) = World format props [] []
bare (Layer name frozen props brushes others) = Layer name frozen props [] []
bare (Group parent mark name link props brushes others) = Group 0 mark name link props [] []
bare (Entity parent mark props protected brushes) = Entity 0 mark props protected []
bare (Brush parent mark faces) = Brush 0 mark faces

pub bare-relist : (b : Bool) (f : List ℕ → List ℕ) (x : Node) → bare (relist b f x) ≡ bare x
bare-relist true f x = elim x as (λ x. bare (relist true f x) ≡ bare x) [ World a b c d ↦ refl | _ ↦ refl ]
bare-relist false f x = elim x as (λ x. bare (relist false f x) ≡ bare x) [ World a b c d ↦ refl | _ ↦ refl ]

pub bare-with_parent : (p : ℕ) (x : Node) → bare (with_parent p x) ≡ bare x
bare-with_parent p x = elim x as (λ x. bare (with_parent p x) ≡ bare x) [ World a b c d ↦ refl | _ ↦ refl ]

ok_to : (f : Format) (x : Node) → NodeOk f x → NodeOk f (bare x)
ok_to f (World a b c d) h = h
ok_to f (Layer a b c d e) h = h
ok_to f (Group a b c d e g i) h = h
ok_to f (Entity a b c d e) h = h
ok_to f (Brush a b c) h = h

ok_from : (f : Format) (x : Node) → NodeOk f (bare x) → NodeOk f x
ok_from f (World a b c d) h = h
ok_from f (Layer a b c d e) h = h
ok_from f (Group a b c d e g i) h = h
ok_from f (Entity a b c d e) h = h
ok_from f (Brush a b c) h = h

pub ok_alike : (f : Format) (x y : Node) → bare x ≡ bare y → NodeOk f x → NodeOk f y
ok_alike f x y e h = ok_from f y (subst (NodeOk f) e (ok_to f x h))

-- A word that doesn't read lists and parents.
pub record Bare {A : Type 0} (w : Node → A) : Type 0 where
  pub same : (x : Node) → w (bare x) ≡ w x

pub bare_link : Bare link_of
bare_link = record { same = λ x. elim x as (λ x. link_of (bare x) ≡ link_of x) [ World a b c d ↦ refl | _ ↦ refl ] }

pub bare_mark : Bare mark_of
bare_mark = record { same = λ x. elim x as (λ x. mark_of (bare x) ≡ mark_of x) [ World a b c d ↦ refl | _ ↦ refl ] }

pub bare_format : Bare format_of_node
bare_format = record { same = λ x. elim x as (λ x. format_of_node (bare x) ≡ format_of_node x) [ World a b c d ↦ refl | _ ↦ refl ] }

abbrev pub bare_slot : Option Node → Option Node
bare_slot o = option_map bare o

pub alike : {A : Type 0} (w : Node → A) → Bare w → (x y : Node) → bare x ≡ bare y → w x ≡ w y
alike w h x y e = sym (h.same x) ∙ ap w e ∙ h.same y

pub slot_alike : (o p : Option Node) (x : Node) → bare_slot o ≡ bare_slot p → o ≡ Some x → (y : Node) × (p ≡ Some y) × (bare x ≡ bare y)
slot_alike o None x e f = absurd (clash (sym (ap bare_slot f) ∙ e))
  where
    clash : Some (bare x) ≡ None → ⊥
    clash e = cc
slot_alike o (Some y) x e f = (y, refl, some_is (sym (ap bare_slot f) ∙ e))
  where
    some_is : Some (bare x) ≡ Some (bare y) → bare x ≡ bare y
    some_is e = cc

part_bare : {A : Type 0} (w : Node → A) (none : A) (h : Bare w) (o : Option Node) → unwrap_or (option_map w (bare_slot o)) none ≡ unwrap_or (option_map w o) none
part_bare w none h None = refl
part_bare w none h (Some x) = h.same x

pub part_alike : {A : Type 0} (w : Node → A) (none : A) (h : Bare w) (o p : Option Node) → bare_slot o ≡ bare_slot p → unwrap_or (option_map w o) none ≡ unwrap_or (option_map w p) none
part_alike w none h o p e = sym (part_bare w none h o) ∙ ap (λ x. unwrap_or (option_map w x) none) e ∙ part_bare w none h p

-- The slot o came to be p: nothing, or the same but for lists and parent.
abbrev pub KeptAt : Option Node → Option Node → Type 0
KeptAt o p = (p ≡ None) ⊎ (bare_slot p ≡ bare_slot o)

pub kept_then : (o p q : Option Node) → KeptAt o p → KeptAt p q → KeptAt o q
kept_then o p q a (inl e) = inl e
kept_then o p q (inl e) (inr f) = inl (none_from q (f ∙ ap bare_slot e))
  where
    none_from : (q : Option Node) → bare_slot q ≡ None → q ≡ None
    none_from None e = refl
    none_from (Some x) e = absurd (cc)
kept_then o p q (inr e) (inr f) = inr (f ∙ e)

-- The nodes of k came from those of m, and new ones are right.
pub record Comes (f : Format) (m k : Whole) : Type 0 where
  pub next : m.next ≤ k.next
  pub old : (q : ℕ) → q < m.next → KeptAt (at m q) (at k q)
  pub new : (q : ℕ) (x : Node) → m.next ≤ q → at k q ≡ Some x → NewOk f x
  pub past : (q : ℕ) → k.next ≤ q → at k q ≡ None

pub new_alike : (f : Format) (x y : Node) → bare x ≡ bare y → NewOk f x → NewOk f y
new_alike f x y e h = record {
  ok = ok_alike f x y e h.ok;
  no_link = sym (alike link_of bare_link x y e) ∙ h.no_link;
  no_mark = sym (alike mark_of bare_mark x y e) ∙ h.no_mark;
}

pub comes_then : {f : Format} {m k l : Whole} → Comes f m k → Comes f k l → Comes f m l
comes_then {f} {m} {k} {l} a b = record {
  next = omega (arith, a.next, b.next);
  old = λ q lt. kept_then (at m q) (at k q) (at l q) (a.old q lt) (b.old q (omega (arith, a.next)));
  new = λ q x far e. elim (cases_lt q k.next) [ inl lt ↦ new_by q x far e (b.old q lt) | inr past ↦ b.new q x past e ];
  past = b.past;
}
  where
    new_by : (q : ℕ) (x : Node) → m.next ≤ q → at l q ≡ Some x → KeptAt (at k q) (at l q) → NewOk f x
    new_by q x far e (inl none) = absurd (not_none e none)
    new_by q x far e (inr same) = let y = slot_alike (at l q) (at k q) x same e in new_alike f y.0 x (sym y.2) (a.new q y.0 far y.1)

-- Where the next number stays.
pub comes_by : (f : Format) (m k : Whole) → Bounded m → k.next ≡ m.next → ((q : ℕ) → KeptAt (at m q) (at k q)) → Comes f m k
comes_by f m k bound e kept = record {
  next = omega arith;
  old = λ q lt. kept q;
  new = λ q x far is. absurd (not_none is (none_kept q (kept q) (bound q far)));
  past = λ q far. none_kept q (kept q) (bound q (omega arith));
}
  where
    none_from : (q : Option Node) → bare_slot q ≡ None → q ≡ None
    none_from None e = refl
    none_from (Some x) e = absurd (cc)

    none_kept : (q : ℕ) → KeptAt (at m q) (at k q) → at m q ≡ None → at k q ≡ None
    none_kept q (inl e) f = e
    none_kept q (inr e) f = none_from (at k q) (e ∙ ap bare_slot f)

pub bounded_by : {f : Format} {m k : Whole} → Comes f m k → Bounded k
bounded_by c n far = c.past n far

map_bare : (g : Node → Node) → ((x : Node) → bare (g x) ≡ bare x) → (o : Option Node) → bare_slot (option_map g o) ≡ bare_slot o
map_bare g h None = refl
map_bare g h (Some x) = ap Some (h x)

pub renew_kept : (g : Node → Node) → ((x : Node) → bare (g x) ≡ bare x) → (m : Whole) (n q : ℕ) → bare_slot (at (renew n g m) q) ≡ bare_slot (at m q)
renew_kept g h m n q = by_eq q n (λ e. ap bare_slot (at-renew_same m n q g e) ∙ map_bare g h (at m q)) (λ ne. ap bare_slot (at-renew_other m n q g ne))

pub take_out_comes : (f : Format) (m : Whole) (n : ℕ) → Bounded m → Comes f m (take_out n m)
take_out_comes f m n bound = comes_by f m (take_out n m) bound (next-take_out m n) (λ q. inr (up_or_not (up m n)
    (λ e. ap (λ k. bare_slot (at k q)) (take_out-none m n e))
    (λ p e. ap (λ k. bare_slot (at k q)) (take_out-is m n p e) ∙ renew_kept (relist (is_brush m n) (without n)) (bare-relist (is_brush m n) (without n)) m p q)))

pub put_in_kept : (m : Whole) (p n q : ℕ) → bare_slot (at (put_in p n m) q) ≡ bare_slot (at m q)
put_in_kept m p n q = renew_kept (with_parent p) (bare-with_parent p) (renew p (relist (is_brush m n) (λ l. l ++ n ∷ [])) m) n q
    ∙ renew_kept (relist (is_brush m n) (λ l. l ++ n ∷ [])) (bare-relist (is_brush m n) (λ l. l ++ n ∷ [])) m p q

pub put_in_comes : (f : Format) (m : Whole) (p n : ℕ) → Bounded m → Comes f m (put_in p n m)
put_in_comes f m p n bound = comes_by f m (put_in p n m) bound refl (λ q. inr (put_in_kept m p n q))

pub forget_comes : (f : Format) (m : Whole) (ns : List ℕ) → Bounded m → Comes f m (forget ns m)
forget_comes f m ns bound = comes_by f m (forget ns m) bound (next-forget ns m) (λ q. kept q (among q ns) refl)
  where
    kept : (q : ℕ) (b : Bool) → among q ns ≡ b → KeptAt (at m q) (at (forget ns m) q)
    kept q true e = inl (at-forget ns m q ∙ ap (λ b. cond b None (at m q)) e)
    kept q false e = inr (ap bare_slot (at-forget ns m q ∙ ap (λ b. cond b None (at m q)) e))

pub move_comes : (f : Format) (m : Whole) (p n : ℕ) → Bounded m → Comes f m (put_in p n (take_out n m))
move_comes f m p n bound = let t = take_out_comes f m n bound in comes_then t (put_in_comes f (take_out n m) p n (bounded_by t))

pub delete_comes : (f : Format) (m : Whole) (n : ℕ) → Bounded m → Comes f m (delete n m)
delete_comes f m n bound = let t = take_out_comes f m n bound in comes_then t (forget_comes f (take_out n m) (preorder m n) (bounded_by t))

pub draw_comes : (f : Format) (m : Whole) (x : Node) → Bounded m → NewOk f x → Comes f m (draw x m)
draw_comes f m x bound ok = record {
  next = omega arith;
  old = λ q lt. inr (ap bare_slot (other q (λ e. omega arith)));
  new = λ q y far e. by_eq q m.next
      (λ s. subst (NewOk f) (some_one (same q s) e) ok)
      (λ ne. absurd (not_none e (other q ne ∙ bound q far)));
  past = λ q far. other q (λ e. omega arith) ∙ bound q (omega arith);
}
  where
    same : (q : ℕ) → q ≡ m.next → at (draw x m) q ≡ Some x
    same q e = ap (λ b. cond b (Some x) (at m q)) (eq-eqb q m.next e)

    other : (q : ℕ) → q ≢ m.next → at (draw x m) q ≡ at m q
    other q ne = ap (λ b. cond b (Some x) (at m q)) (ne_eqb q m.next ne)

pub put_last_comes : (f : Format) (m : Whole) (p : ℕ) (x : Node) → Bounded m → NewOk f x → Comes f m (put_last p x m)
put_last_comes f m p x bound ok =
    let d = draw_comes f m (with_parent p x) bound (new_alike f x (with_parent p x) (sym (bare-with_parent p x)) ok) in
    comes_then d (put_in_comes f (draw (with_parent p x) m) p m.next (bounded_by d))

pub comes_itself : (f : Format) (m : Whole) → Bounded m → Comes f m m
comes_itself f m bound = comes_by f m m bound refl (λ q. inr refl)

-- The map's format stays where its world does.
pub format_kept : {f : Format} {m k : Whole} → Comes f m k → Placed m → Placed k → Bounded m → format_of k ≡ format_of m
format_kept {f} {m} {k} c placed after bound = by (c.old 0 world_below)
  where
    world_below : 0 < m.next
    world_below = elim (cases_lt 0 m.next) [ inl lt ↦ lt | inr far ↦ absurd (not_none (kind_is m world 0 placed.world_stands) (ap (option_map kind_of) (bound 0 far))) ]

    by : KeptAt (at m 0) (at k 0) → format_of k ≡ format_of m
    by (inl none) = absurd (not_none (kind_is k world 0 after.world_stands) (ap (option_map kind_of) none))
    by (inr e) = part_alike format_of_node Standard bare_format (at k 0) (at m 0) e

pub each_node_kept : {m k : Whole} → Comes (format_of m) m k → format_of k ≡ format_of m → EachNode m → EachNode k
each_node_kept {m} {k} c e each n x is = subst (λ f. NodeOk f x) (sym e) (elim (cases_lt n m.next) [ inl lt ↦ old_ok (c.old n lt) | inr far ↦ (c.new n x far is).ok ])
  where
    old_ok : KeptAt (at m n) (at k n) → NodeOk (format_of m) x
    old_ok (inl none) = absurd (not_none is none)
    old_ok (inr same) = let y = slot_alike (at k n) (at m n) x same is in ok_alike (format_of m) y.0 x (sym y.2) (each n y.0 y.1)

-- A set or a mark of k is that of m.
old_part : {A : Type 0} {f : Format} {m k : Whole} (w : Node → Option A) (h : Bare w) → ((x : Node) → NewOk f x → w x ≡ None) → Comes f m k → (n : ℕ) (s : A) →
    part_at w None k n ≡ Some s → (n < m.next) × (part_at w None m n ≡ Some s)
old_part {A} {f} {m} {k} w h none c n s e = elim (cases_lt n m.next) [ inl lt ↦ (lt, old_by (c.old n lt)) | inr far ↦ absurd (past_by far (at k n) refl) ]
  where
    old_by : KeptAt (at m n) (at k n) → part_at w None m n ≡ Some s
    old_by (inl gone) = absurd (not_none e (ap (λ o. unwrap_or (option_map w o) None) gone))
    old_by (inr same) = sym (part_alike w None h (at k n) (at m n) same) ∙ e

    past_by : m.next ≤ n → (o : Option Node) → at k n ≡ o → ⊥
    past_by far None is = not_none e (ap (λ o. unwrap_or (option_map w o) None) is)
    past_by far (Some x) is = not_none e (ap (λ o. unwrap_or (option_map w o) None) is ∙ none x (c.new n x far is))

set_from : (m : Whole) (g s : ℕ) → set_at m g ≡ Some s → (l : Link) × (link_at m g ≡ Some l) × (l.set ≡ s)
set_from m g s e = by (link_at m g) e
  where
    by : (o : Option Link) → option_map (λ l. l.set) o ≡ Some s → (l : Link) × (o ≡ Some l) × (l.set ≡ s)
    by None e = absurd (cc)
    by (Some l) e = (l, refl, some_is e)
      where
        some_is : Some l.set ≡ Some s → l.set ≡ s
        some_is e = cc

pub old_set : {f : Format} {m k : Whole} → Comes f m k → (g s : ℕ) → set_at k g ≡ Some s → set_at m g ≡ Some s
old_set {f} {m} {k} c g s e =
    let l = set_from k g s e in
    ap (option_map (λ l. l.set)) (old_part link_of bare_link (λ x h. h.no_link) c g l.0 l.1).1 ∙ ap Some l.2

pub old_mark : {f : Format} {m k : Whole} → Comes f m k → (n s : ℕ) → mark_at k n ≡ Some s → mark_at m n ≡ Some s
old_mark c n s e = (old_part mark_of bare_mark (λ x h. h.no_mark) c n s e).1

pub numbers_kept : {f : Format} {m k : Whole} → Comes f m k → k.next ≤ 65536 → Numbers m → Numbers k
numbers_kept {f} {m} {k} c most h = record {
  most = most;
  nodes = c.past;
  sets = λ g s e. omega (arith, c.next, h.sets g s (old_set c g s e));
  marks = λ n s e. omega (arith, c.next, h.marks n s (old_mark c n s e));
  set_is_no_node = λ g s e. still (h.sets g s (old_set c g s e)) (h.set_is_no_node g s (old_set c g s e));
  mark_is_no_node = λ n s e. still (h.marks n s (old_mark c n s e)) (h.mark_is_no_node n s (old_mark c n s e));
  mark_is_no_set = λ g n s t e f. h.mark_is_no_set g n s t (old_set c g s e) (old_mark c n t f);
}
  where
    none_from : (q : Option Node) → bare_slot q ≡ None → q ≡ None
    none_from None e = refl
    none_from (Some x) e = absurd (cc)

    still_by : {q : ℕ} → KeptAt (at m q) (at k q) → at m q ≡ None → at k q ≡ None
    still_by (inl e) f = e
    still_by {q} (inr e) f = none_from (at k q) (e ∙ ap bare_slot f)

    still : {q : ℕ} → q < m.next → at m q ≡ None → at k q ≡ None
    still {q} lt e = still_by (c.old q lt) e
