-- Maps in which no group is linked and no node has a mark, on the way of a command: they are placed, and each node is right.
use Rattle.std.proofs.Common.{◌≡◌, ℕ, ◌≤◌, [], Bool, true, false, refl, ap, sym, ◌∙◌, subst, Option, Some, None, option_map, inl, inr, ◌⊎◌}
use Rattle.std.specs.Prelude.{unwrap_or, is_some}
use Rattle.std.proofs.lemmas.Bool.{cases_lt}
use Rattle.algebra.specs.Members.{◌∈◌}
use Rattle.uv_lock.specs.declared.texture.Format.{Format}
use Rattle.map_model.specs.Tree.{Whole, Node, group, at, children, is_kind, is_linked, link_of, mark_of, mark_at, set_at, format_of}
use Rattle.map_model.specs.Edits.{renew}
use Rattle.map_model.specs.Commands.{Command}
use Rattle.map_model.specs.Shape.{Shape, NodeOk}
use Rattle.map_model.specs.Apply.{prune}
use Rattle.map_laws.specs.Placed.{Placed, Bounded, NoEmptyGroup, KeepsAll, NewOk}
use Rattle.map_laws.specs.Unlinked.{Unlinked}
use Rattle.map_laws.proofs.Lists.{by_eq}
use Rattle.map_laws.proofs.Forest.{not_none}
use Rattle.map_laws.proofs.Skeleton.{not_both, placed_of, standing_of}
use Rattle.map_laws.proofs.Slots.{at-renew_same, at-renew_other}
use Rattle.map_laws.proofs.Kept.{Comes, KeptAt, slot_alike, new_alike, bounded_by, format_kept}
use Rattle.map_laws.proofs.Renewing.{renew_alike, alike_placed, renewed_slot}
use Rattle.map_laws.proofs.Pruning.{Upwards, ToDo, HadChildren, prunes, prune-walk, prune_placed}
use Rattle.map_laws.proofs.Pruned.{chain_list, drops_come}
use Rattle.map_laws.proofs.Unlinking.{Outcome, is_none_by, no_marks, unlinked_marks}

pub record Fair (f : Format) (m : Whole) : Type 0 where
  pub placed : Placed m
  pub bound : Bounded m
  pub each : (q : ℕ) (x : Node) → at m q ≡ Some x → NewOk f x
  pub format : format_of m ≡ f

pub fair_of : (m : Whole) → Shape m → Unlinked m → Fair (format_of m) m
fair_of m shape u = record {
  placed = placed_of shape.standing;
  bound = shape.numbers.nodes;
  each = λ q x e. record {
    ok = shape.each_node q x e;
    no_link = is_none_by (link_of x) (sym (ap (λ o. unwrap_or (option_map (λ y. is_some (link_of y)) o) false) e) ∙ u q);
    no_mark = sym (ap (λ o. unwrap_or (option_map mark_of o) None) e) ∙ no_marks m shape.marks u q;
  };
  format = refl;
}

-- Edits that leave what nodes are.
pub fair_comes : (f : Format) (m k : Whole) → Fair f m → Placed k → Comes f m k → Fair f k
fair_comes f m k fair placed c = record {
  placed = placed;
  bound = bounded_by c;
  each = λ q x e. elim (cases_lt q m.next) [ inl lt ↦ old q x e (c.old q lt) | inr far ↦ c.new q x far e ];
  format = format_kept c fair.placed placed fair.bound ∙ fair.format;
}
  where
    old : (q : ℕ) (x : Node) → at k q ≡ Some x → KeptAt (at m q) (at k q) → NewOk f x
    old q x e (inl none) = absurd (not_none e none)
    old q x e (inr same) = let y = slot_alike (at k q) (at m q) x same e in new_alike f y.0 x (sym y.2) (fair.each q y.0 y.1)

-- A node with another part.
pub fair_renew : (f : Format) (m : Whole) (n : ℕ) (g : Node → Node) → KeepsAll g → Fair f m → ((x : Node) → at m n ≡ Some x → NodeOk f (g x)) → Fair f (renew n g m)
fair_renew f m n g keeps fair ok =
    let a = renew_alike m n g keeps in
    record {
      placed = alike_placed a fair.placed;
      bound = λ q far. by_eq q n (λ s. at-renew_same m n q g s ∙ ap (option_map g) (fair.bound q far)) (λ ne. at-renew_other m n q g ne ∙ fair.bound q far);
      each = λ q y e. by_eq q n (λ s. own q y s e) (λ ne. fair.each q y (sym (at-renew_other m n q g ne) ∙ e));
      format = a.formats ∙ fair.format;
    }
  where
    own : (q : ℕ) (y : Node) → q ≡ n → at (renew n g m) q ≡ Some y → NewOk f y
    own q y s e =
        let x = renewed_slot g (at m q) y (sym (at-renew_same m n q g s) ∙ e) in
        let was = fair.each q x.0 x.1 in
        subst (NewOk f) x.2 (record { ok = ok x.0 (ap (at m) (sym s) ∙ x.1); no_link = keeps.link x.0 ∙ was.no_link; no_mark = keeps.mark x.0 ∙ was.no_mark })

pub fair_unlinked : {f : Format} {m : Whole} → Fair f m → Unlinked m
fair_unlinked {f} {m} fair n = by (at m n) (λ x e. fair.each n x e)
  where
    by : (o : Option Node) → ((x : Node) → o ≡ Some x → NewOk f x) → unwrap_or (option_map (λ x. is_some (link_of x)) o) false ≡ false
    by None h = refl
    by (Some x) h = ap is_some (h x refl).no_link

fair_unmarked : {f : Format} {m : Whole} → Fair f m → (n : ℕ) → mark_at m n ≡ None
fair_unmarked {f} {m} fair n = by (at m n) (λ x e. fair.each n x e)
  where
    by : (o : Option Node) → ((x : Node) → o ≡ Some x → NewOk f x) → unwrap_or (option_map mark_of o) None ≡ None
    by None h = refl
    by (Some x) h = (h x refl).no_mark

fair_no_set : {f : Format} {m : Whole} → Fair f m → (n : ℕ) → set_at m n ≡ None
fair_no_set {f} {m} fair n = ap (option_map (λ l. l.set)) (by (at m n) (λ x e. fair.each n x e))
  where
    by : (o : Option Node) → ((x : Node) → o ≡ Some x → NewOk f x) → unwrap_or (option_map link_of o) None ≡ None
    by None h = refl
    by (Some x) h = (h x refl).no_link

pub fair_shape : {f : Format} {m : Whole} → Fair f m → NoEmptyGroup m → m.next ≤ 65536 → Shape m
fair_shape {f} {m} fair some most = record {
  standing = standing_of fair.placed some;
  each_node = λ n x e. subst (λ g. NodeOk g x) (sym fair.format) (fair.each n x e).ok;
  numbers = record {
    most = most;
    nodes = fair.bound;
    sets = λ g s e. absurd (not_none e (fair_no_set fair g));
    marks = λ n k e. absurd (not_none e (fair_unmarked fair n));
    set_is_no_node = λ g s e. absurd (not_none e (fair_no_set fair g));
    mark_is_no_node = λ n k e. absurd (not_none e (fair_unmarked fair n));
    mark_is_no_set = λ g n s k e d. absurd (not_none e (fair_no_set fair g));
  };
  marks = unlinked_marks m (fair_unlinked fair) (fair_unmarked fair);
}

-- Pruning.
pub fair_pruned : (f : Format) (m : Whole) (c : Command) (k : Whole) → Fair f k → Fair f (prune m c k)
fair_pruned f m c k fair = fair_comes f k (prune m c k) fair (prune_placed m c k fair.placed) (subst (Comes f k) (sym (prune-walk m c k)) (drops_come f m (chain_list m c) k fair.bound))

none_left : (f : Format) (m : Whole) (c : Command) (k : Whole) → Fair f k → Upwards k (chain_list m c) → HadChildren m k (chain_list m c) → ToDo (chain_list m c) k (chain_list m c) → NoEmptyGroup (prune m c k)
none_left f m c k fair upwards had todo g is none =
    let e = prune-walk m c k in
    done (prunes m (chain_list m c) (chain_list m c) k (λ g i. i) fair.placed upwards had todo g (ap (λ x. is_kind x group g) (sym e) ∙ is) (ap (λ x. children x g) (sym e) ∙ none))
    (ap (λ x. is_linked x g) (sym e) ∙ fair_unlinked (fair_pruned f m c k fair) g)
  where
    done : {l : Bool} → ((l ≡ true) × (g ∈ chain_list m c)) ⊎ (g ∈ []) → l ≡ false → ⊥
    done {l} (inl h) e = not_both l h.0 e
    done (inr i) e = elim i [ ]

pub fair_outcome : (f : Format) (m : Whole) (c : Command) (k : Whole) → Fair f k → Upwards k (chain_list m c) → HadChildren m k (chain_list m c) → ToDo (chain_list m c) k (chain_list m c) → Outcome m c k
fair_outcome f m c k fair upwards had todo =
    let p = fair_pruned f m c k fair in
    record { unlinked = fair_unlinked p; unmarked = fair_unmarked p; shape = λ most. fair_shape p (none_left f m c k fair upwards had todo) most }
