-- What nodes keep where brushes get other faces, go, or are new: where they stand, their links and their marks.
use Rattle.std.proofs.Common.{◌≡◌, ◌≢◌, ℕ, ◌<◌, ◌≤◌, List, [], ◌∷◌, map, length, Bool, true, false, cond, ◌⊎◌, inl, inr, refl, ap, sym, ◌∙◌, subst, arith, Option, Some, None, option_map}
use Rattle.std.specs.Prelude.{unwrap_or, option_and_then, is_some}
use Rattle.std.proofs.lemmas.Bool.{cases_lt}
use Rattle.map_model.specs.Faces.{Face}
use Rattle.map_model.specs.Tree.{Whole, Node, World, Layer, Group, Entity, Brush, Kind, brush, at, up, among, kind_of, parent_of, link_of, is_linked, mark_of, faces_of, preorder, with_faces, is_brush, numbers_from}
use Rattle.map_model.specs.Edits.{renew, relist, draw, each_in_turn, without, in_place, take_out, put_at, forget, delete, replace_by, put_after}
use Rattle.map_laws.specs.Placed.{Bounded}
use Rattle.map_laws.proofs.Lists.{by_eq}
use Rattle.map_laws.proofs.Forest.{not_none}
use Rattle.map_laws.proofs.Skeleton.{kind_at}
use Rattle.map_laws.proofs.Slots.{at-set_same, at-set_other, at-renew_same, at-renew_other, at-forget, next-forget}
use Rattle.map_laws.proofs.Kept.{bare}

-- A node without its lists and its faces.
abbrev pub stem : Node → Node
stem (World format props brushes others) = World format props [] []
stem (Layer name frozen props brushes others) = Layer name frozen props [] []
stem (Group parent mark name link props brushes others) = Group parent mark name link props [] []
stem (Entity parent mark props protected brushes) = Entity parent mark props protected []
stem (Brush parent mark faces) = Brush parent mark []

-- Words that don't read lists and faces.
pub stem_kind : (x : Node) → kind_of (stem x) ≡ kind_of x
stem_kind x = elim x as (λ x. kind_of (stem x) ≡ kind_of x) [ World a b c d ↦ refl | _ ↦ refl ]

pub stem_parent : (x : Node) → parent_of (stem x) ≡ parent_of x
stem_parent x = elim x as (λ x. parent_of (stem x) ≡ parent_of x) [ World a b c d ↦ refl | _ ↦ refl ]

pub stem_link : (x : Node) → link_of (stem x) ≡ link_of x
stem_link x = elim x as (λ x. link_of (stem x) ≡ link_of x) [ World a b c d ↦ refl | _ ↦ refl ]

pub stem_mark : (x : Node) → mark_of (stem x) ≡ mark_of x
stem_mark x = elim x as (λ x. mark_of (stem x) ≡ mark_of x) [ World a b c d ↦ refl | _ ↦ refl ]

pub same_stems : {A : Type 0} (w : Node → A) → ((x : Node) → w (stem x) ≡ w x) → (x y : Node) → stem x ≡ stem y → w x ≡ w y
same_stems w h x y e = sym (h x) ∙ ap w e ∙ h y

-- A node with the faces of another of its stem is the other, but for lists and parents.
pub bare_stems : (x y : Node) → stem y ≡ stem x → bare y ≡ bare (with_faces (faces_of y) x)
bare_stems x y e = own y ∙ ap (λ z. bare (with_faces (faces_of y) z)) e ∙ sym (other (faces_of y) x)
  where
    own : (y : Node) → bare y ≡ bare (with_faces (faces_of y) (stem y))
    own y = elim y as (λ y. bare y ≡ bare (with_faces (faces_of y) (stem y))) [ World a b c d ↦ refl | _ ↦ refl ]

    other : (fs : List Face) (x : Node) → bare (with_faces fs x) ≡ bare (with_faces fs (stem x))
    other fs x = elim x as (λ x. bare (with_faces fs x) ≡ bare (with_faces fs (stem x))) [ World a b c d ↦ refl | _ ↦ refl ]

pub stem_relist : (b : Bool) (f : List ℕ → List ℕ) (x : Node) → stem (relist b f x) ≡ stem x
stem_relist true f x = elim x as (λ x. stem (relist true f x) ≡ stem x) [ World a b c d ↦ refl | _ ↦ refl ]
stem_relist false f x = elim x as (λ x. stem (relist false f x) ≡ stem x) [ World a b c d ↦ refl | _ ↦ refl ]

pub stem_faces : (fs : List Face) (x : Node) → stem (with_faces fs x) ≡ stem x
stem_faces fs x = elim x as (λ x. stem (with_faces fs x) ≡ stem x) [ World a b c d ↦ refl | _ ↦ refl ]

-- The slot o came to be p: nothing, or a node of the same stem.
abbrev pub StemAt : Option Node → Option Node → Type 0
StemAt o p = (p ≡ None) ⊎ (option_map stem p ≡ option_map stem o)

-- A node that comes is a brush with no mark.
pub record IsNew (x : Node) : Type 0 where
  pub kind : kind_of x ≡ brush
  pub mark : mark_of x ≡ None
  pub link : link_of x ≡ None

pub record KeepsStems (m k : Whole) : Type 0 where
  pub next : m.next ≤ k.next
  pub old : (q : ℕ) → q < m.next → StemAt (at m q) (at k q)
  pub new : (q : ℕ) (x : Node) → m.next ≤ q → at k q ≡ Some x → IsNew x
  pub past : Bounded k

pub stem_slot : (o p : Option Node) (y : Node) → StemAt o p → p ≡ Some y → (x : Node) × (o ≡ Some x) × (stem y ≡ stem x)
stem_slot o p y (inl none) e = absurd (not_none e none)
stem_slot None p y (inr same) e = absurd (clash (sym (ap (option_map stem) e) ∙ same))
  where
    clash : Some (stem y) ≡ None → ⊥
    clash e = cc
stem_slot (Some x) p y (inr same) e = (x, refl, some_is (sym (ap (option_map stem) e) ∙ same))
  where
    some_is : Some (stem y) ≡ Some (stem x) → stem y ≡ stem x
    some_is e = cc

stems_at : (o p q : Option Node) → StemAt o p → StemAt p q → StemAt o q
stems_at o p q a (inl none) = inl none
stems_at o p q (inl none) (inr e) = inl (none_from q (e ∙ ap (option_map stem) none))
  where
    none_from : (q : Option Node) → option_map stem q ≡ None → q ≡ None
    none_from None e = refl
    none_from (Some x) e = absurd (cc)
stems_at o p q (inr e) (inr f) = inr (f ∙ e)

pub stems_then : {m k l : Whole} → KeepsStems m k → KeepsStems k l → KeepsStems m l
stems_then {m} {k} {l} a b = record {
  next = omega (arith, a.next, b.next);
  old = λ q lt. stems_at (at m q) (at k q) (at l q) (a.old q lt) (b.old q (omega (arith, a.next)));
  new = λ q x far e. elim (cases_lt q k.next) [ inl lt ↦ was q x far e (stem_slot (at k q) (at l q) x (b.old q lt) e) | inr past ↦ b.new q x past e ];
  past = b.past;
}
  where
    was : (q : ℕ) (x : Node) → m.next ≤ q → at l q ≡ Some x → (y : Node) × (at k q ≡ Some y) × (stem x ≡ stem y) → IsNew x
    was q x far e y =
        let n = a.new q y.0 far y.1 in
        record {
          kind = same_stems kind_of stem_kind x y.0 y.2 ∙ n.kind;
          mark = same_stems mark_of stem_mark x y.0 y.2 ∙ n.mark;
          link = same_stems link_of stem_link x y.0 y.2 ∙ n.link;
        }

-- Where the next number stays.
stems_by : (m k : Whole) → Bounded m → k.next ≡ m.next → ((q : ℕ) → StemAt (at m q) (at k q)) → KeepsStems m k
stems_by m k bound e h = record {
  next = omega arith;
  old = λ q lt. h q;
  new = λ q x far is. absurd (not_none is (none q far));
  past = λ q far. none q (omega arith);
}
  where
    none_by : (o p : Option Node) → o ≡ None → StemAt o p → p ≡ None
    none_by o p e (inl none) = none
    none_by o None e (inr same) = refl
    none_by o (Some x) e (inr same) = absurd (clash (same ∙ ap (option_map stem) e))
      where
        clash : Some (stem x) ≡ None → ⊥
        clash e = cc

    none : (q : ℕ) → m.next ≤ q → at k q ≡ None
    none q far = none_by (at m q) (at k q) (bound q far) (h q)

pub stems_itself : (m : Whole) → Bounded m → KeepsStems m m
stems_itself m bound = stems_by m m bound refl (λ q. inr refl)

-- The edits.
pub renew_stems : (m : Whole) (n : ℕ) (g : Node → Node) → ((x : Node) → stem (g x) ≡ stem x) → Bounded m → KeepsStems m (renew n g m)
renew_stems m n g h bound = stems_by m (renew n g m) bound refl (λ q. inr (by_eq q n
    (λ e. ap (option_map stem) (at-renew_same m n q g e) ∙ by (at m q))
    (λ ne. ap (option_map stem) (at-renew_other m n q g ne))))
  where
    by : (o : Option Node) → option_map stem (option_map g o) ≡ option_map stem o
    by None = refl
    by (Some x) = ap Some (h x)

pub forget_stems : (ns : List ℕ) (m : Whole) → Bounded m → KeepsStems m (forget ns m)
forget_stems ns m bound = stems_by m (forget ns m) bound (next-forget ns m) (λ q. by q (among q ns) (at-forget ns m q))
  where
    by : (q : ℕ) (b : Bool) → at (forget ns m) q ≡ cond b None (at m q) → StemAt (at m q) (at (forget ns m) q)
    by q true e = inl e
    by q false e = inr (ap (option_map stem) e)

pub draw_stems : (x : Node) (m : Whole) → IsNew x → Bounded m → KeepsStems m (draw x m)
draw_stems x m new bound = record {
  next = omega arith;
  old = λ q lt. inr (ap (option_map stem) (other q (λ e. omega arith)));
  new = λ q y far e. by_eq q m.next
      (λ s. subst IsNew (some_is (sym (own q s) ∙ e)) new)
      (λ ne. absurd (not_none e (other q ne ∙ bound q far)));
  past = λ q far. other q (λ e. omega arith) ∙ bound q (omega arith);
}
  where
    own : (q : ℕ) → q ≡ m.next → at (draw x m) q ≡ Some x
    own q e = at-set_same m m.next q (Some x) e

    other : (q : ℕ) → q ≢ m.next → at (draw x m) q ≡ at m q
    other q ne = at-set_other m m.next q (Some x) ne

    some_is : {x y : Node} → Some x ≡ Some y → x ≡ y
    some_is {x} {y} e = cc

-- A parent's list is changed, where there is a parent.
parent_stems : (b : Bool) (f : List ℕ → List ℕ) (m : Whole) (o : Option ℕ) → Bounded m → KeepsStems m (unwrap_or (option_map (λ p. renew p (relist b f) m) o) m)
parent_stems b f m None bound = stems_itself m bound
parent_stems b f m (Some p) bound = renew_stems m p (relist b f) (stem_relist b f) bound

pub take_out_stems : (n : ℕ) (m : Whole) → Bounded m → KeepsStems m (take_out n m)
take_out_stems n m bound = parent_stems (is_brush m n) (without n) m (up m n) bound

pub put_at_stems : (old : ℕ) (ks : List ℕ) (m : Whole) → Bounded m → KeepsStems m (put_at old ks m)
put_at_stems old ks m bound = parent_stems (is_brush m old) (in_place old ks) m (up m old) bound

pub delete_stems : (n : ℕ) (m : Whole) → Bounded m → KeepsStems m (delete n m)
delete_stems n m bound = let t = take_out_stems n m bound in stems_then t (forget_stems (preorder m n) (take_out n m) t.past)

pub draws_stems : (p : ℕ) (results : List (List Face)) (m : Whole) → Bounded m → KeepsStems m (each_in_turn draw (map (Brush p None) results) m)
draws_stems p [] m bound = stems_itself m bound
draws_stems p (fs ∷ results) m bound =
    let d = draw_stems (Brush p None fs) m (record { kind = refl; mark = refl; link = refl }) bound in
    stems_then d (draws_stems p results (draw (Brush p None fs) m) d.past)

pub replace_stems : (a : ℕ) (results : List (List Face)) (m : Whole) → Bounded m → KeepsStems m (replace_by a results m)
replace_stems a results m bound =
    let p = unwrap_or (up m a) 0 in
    let js = numbers_from m.next (length results) in
    let drawn = each_in_turn draw (map (Brush p None) results) m in
    let d = draws_stems p results m bound in
    let s = stems_then d (put_at_stems a js drawn d.past) in
    stems_then s (forget_stems (a ∷ []) (put_at a js drawn) s.past)

pub put_after_stems : (a : ℕ) (faces : List Face) (m : Whole) → Bounded m → KeepsStems m (put_after a faces m)
put_after_stems a faces m bound =
    let x = Brush (unwrap_or (up m a) 0) None faces in
    let d = draw_stems x m (record { kind = refl; mark = refl; link = refl }) bound in
    stems_then d (put_at_stems a (a ∷ m.next ∷ []) (draw x m) d.past)

-- What is kept, read off. ------------------------------------------------------------------------------------------------------------------

module _ {m k : Whole} (s : KeepsStems m k) where
  pub kinds_kept : (q : ℕ) (j : Kind) → q < m.next → kind_at k q ≡ Some j → kind_at m q ≡ Some j
  kinds_kept q j lt e = by (at k q) refl e
    where
      by : (p : Option Node) → at k q ≡ p → option_map kind_of p ≡ Some j → kind_at m q ≡ Some j
      by None is e = absurd (cc)
      by (Some y) is e = let x = stem_slot (at m q) (at k q) y (s.old q lt) is in ap (option_map kind_of) x.1 ∙ sym (ap Some (same_stems kind_of stem_kind y x.0 x.2)) ∙ e

  pub ups_kept : (q p : ℕ) → q < m.next → up k q ≡ Some p → up m q ≡ Some p
  ups_kept q p lt e = by (at k q) refl e
    where
      by : (o : Option Node) → at k q ≡ o → option_and_then parent_of o ≡ Some p → up m q ≡ Some p
      by None is e = absurd (cc)
      by (Some y) is e = let x = stem_slot (at m q) (at k q) y (s.old q lt) is in ap (option_and_then parent_of) x.1 ∙ sym (same_stems parent_of stem_parent y x.0 x.2) ∙ e

  pub linked_kept : (q : ℕ) → q < m.next → is_linked k q ≡ true → is_linked m q ≡ true
  linked_kept q lt e = by (at k q) refl e
    where
      by : (o : Option Node) → at k q ≡ o → unwrap_or (option_map (λ x. is_some (link_of x)) o) false ≡ true → is_linked m q ≡ true
      by None is e = absurd (cc)
      by (Some y) is e =
          let x = stem_slot (at m q) (at k q) y (s.old q lt) is in
          ap (λ o. unwrap_or (option_map (λ x. is_some (link_of x)) o) false) x.1 ∙ sym (ap is_some (same_stems link_of stem_link y x.0 x.2)) ∙ e
