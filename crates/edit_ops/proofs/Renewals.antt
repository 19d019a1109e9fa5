-- Nodes of a map that are renewed one after another, each once.
use Rattle.std.proofs.Common.{◌≡◌, ◌≢◌, ℕ, suc, ◌+◌, ◌<◌, ◌≤◌, List, ◌∷◌, length, drop, get_or, Bool, true, false, cond, ◌==◌, Option, None, Some, refl, ap, sym, subst, ◌∙◌, arith, drop-cons, add-one, option_map}
use Rattle.std.specs.Prelude.{count_by, unwrap_or, is_some}
use Rattle.std.proofs.lemmas.List.{drop_all}
use Rattle.algebra.specs.Members.{◌∈◌, here, there}
use Rattle.map_model.specs.Tree.{Whole, Node, World, Layer, Group, Entity, Brush, Props, Link, at, link_of}
use Rattle.map_model.specs.Faces.{Face}
use Rattle.map_model.specs.Edits.{each_in_turn, renew, set}
use Rattle.map_model.specs.Motions.{Motion}
use Rattle.map_model.specs.Own.{moved_node}
use Rattle.tree_node.specs.Held.{IsMap}
use Rattle.map_laws.proofs.Lists.{by_eq, tally, tally-head, member-tally, count-tally}
use Rattle.map_laws.proofs.Slots.{same_whole, at-renew_same, at-renew_other}

-- The nodes of the first k numbers are renewed, and the others are as they were.
pub record Renewing (g : Node → Node) (m : Whole) (ns : List ℕ) (k : ℕ) (now : Whole) : Type 0 where
  pub rest : each_in_turn (λ q. renew q g) (drop k ns) now ≡ each_in_turn (λ q. renew q g) ns m
  pub same : (q : ℕ) → q ∈ drop k ns → at now q ≡ at m q
  pub once : (q : ℕ) → tally q (drop k ns) ≤ 1

pub renewing : (g : Node → Node) (m now : Whole) (ns : List ℕ) → now ≡ m → ((q : ℕ) → count_by (λ k. k == q) ns ≤ 1) → Renewing g m ns 0 now
renewing g m now ns e once = record {
  rest = ap (each_in_turn (λ q. renew q g) ns) e;
  same = λ q i. ap (λ w. at w q) e;
  once = λ q. omega (arith, once q, count-tally q ns);
}

less : (a x : ℕ) (xs : List ℕ) → tally a xs ≤ tally a (x ∷ xs)
less a x xs = elim (x == a) as (λ b. tally a xs ≤ cond b (suc (tally a xs)) (tally a xs)) [ true ↦ omega arith | false ↦ omega arith ]

not_again : (a q : ℕ) (qs : List ℕ) → tally q (q ∷ qs) ≤ 1 → a ∈ qs → a ≢ q
not_again a q qs once i s = omega (arith, once, tally-head q qs, member-tally a qs i, ap (λ z. tally z qs) s)

-- One step over a list that is cut at its front.
module _ (g : Node → Node) (m now : Whole) (all front : List ℕ) (n : ℕ) (rest : List ℕ) (cut : front ≡ n ∷ rest)
    (tail : each_in_turn (λ q. renew q g) front now ≡ each_in_turn (λ q. renew q g) all m) (same : (q : ℕ) → q ∈ front → at now q ≡ at m q) (once : (q : ℕ) → tally q front ≤ 1) where
  same_first : at now n ≡ at m n
  same_first = same n (subst (λ l. n ∈ l) (sym cut) here)

  next_tail : each_in_turn (λ q. renew q g) rest (renew n g now) ≡ each_in_turn (λ q. renew q g) all m
  next_tail = sym (ap (λ l. each_in_turn (λ q. renew q g) l now) cut) ∙ tail

  next_same : (q : ℕ) → q ∈ rest → at (renew n g now) q ≡ at m q
  next_same q i = at-renew_other now n q g (not_again q n rest (subst (λ l. tally n l ≤ 1) cut (once n)) i) ∙ same q (subst (λ l. q ∈ l) (sym cut) (there i))

  next_once : (q : ℕ) → tally q rest ≤ 1
  next_once q = omega (arith, subst (λ l. tally q l ≤ 1) cut (once q), less q n rest)

module _ (g : Node → Node) (m : Whole) (ns : List ℕ) (k n : ℕ) (now : Whole) (lt : k < length ns) (is : n ≡ get_or ns k n) (r : Renewing g m ns k now) where
  cut_at : drop k ns ≡ n ∷ drop (suc k) ns
  cut_at = drop-cons ns k n lt ∙ ap (λ x. x ∷ drop (suc k) ns) (sym is)

  pub is_same : at now n ≡ at m n
  is_same = same_first g m now ns (drop k ns) n (drop (suc k) ns) cut_at r.rest r.same r.once

  next : Renewing g m ns (suc k) (renew n g now)
  next = record {
    rest = next_tail g m now ns (drop k ns) n (drop (suc k) ns) cut_at r.rest r.same r.once;
    same = next_same g m now ns (drop k ns) n (drop (suc k) ns) cut_at r.rest r.same r.once;
    once = next_once g m now ns (drop k ns) n (drop (suc k) ns) cut_at r.rest r.same r.once;
  }

  pub renewed_one : (new : Whole) → new ≡ renew n g now → Renewing g m ns (k + 1) new
  renewed_one new e = subst (λ j. Renewing g m ns j new) (sym (add-one k)) (subst (λ w. Renewing g m ns (suc k) w) (sym e) next)

pub renewed_all : (g : Node → Node) (m : Whole) (ns : List ℕ) (k : ℕ) (now : Whole) → length ns ≤ k → Renewing g m ns k now → now ≡ each_in_turn (λ q. renew q g) ns m
renewed_all g m ns k now le r = sym (ap (λ l. each_in_turn (λ q. renew q g) l now) (drop_all k ns le)) ∙ r.rest

-- One node. ------------------------------------------------------------------------------------------------------------------------------

-- A node that a change leaves as it is.
pub renew_same : (g : Node → Node) (m : Whole) (n : ℕ) → option_map g (at m n) ≡ at m n → m ≡ renew n g m
renew_same g m n e = sym (same_whole (renew n g m) m refl (λ q. by_eq q n (λ s. at-renew_same m n q g s ∙ ap (λ x. option_map g (at m x)) s ∙ e ∙ sym (ap (at m) s)) (λ ne. at-renew_other m n q g ne)))

pub renew_put : (g : Node → Node) (m : Whole) (n : ℕ) (x new : Node) → at m n ≡ Some x → new ≡ g x → set m n (Some new) ≡ renew n g m
renew_put g m n x new is e = ap (set m n) (ap Some e ∙ sym (ap (option_map g) is))

-- A node in no set stays as it is, if it is no brush and no entity.
pub stays : (lock : Bool) (r : Motion) (x : Node) → link_of x ≡ None → ((parent : ℕ) (mark : Option ℕ) (props : Props) (protected : List (List ℕ)) (brushes : List ℕ) → x ≡ Entity parent mark props protected brushes → ⊥) →
    ((parent : ℕ) (mark : Option ℕ) (faces : List Face) → x ≡ Brush parent mark faces → ⊥) → x ≡ moved_node lock r x
stays lock r (World format props brushes others) e no_entity no_brush = refl
stays lock r (Layer name frozen props brushes others) e no_entity no_brush = refl
stays lock r (Group parent mark name None props brushes others) e no_entity no_brush = refl
stays lock r (Group parent mark name (Some l) props brushes others) e no_entity no_brush = absurd (cc)
stays lock r (Entity parent mark props protected brushes) e no_entity no_brush = absurd (no_entity parent mark props protected brushes refl)
stays lock r (Brush parent mark faces) e no_entity no_brush = absurd (no_brush parent mark faces refl)

-- The same for the node that a look-up finds, which the change has left as it was.
pub gone_stays : (g : Node → Node) (m now : Whole) (n : ℕ) → at now n ≡ at m n → None ≡ at m n → now ≡ renew n g now
gone_stays g m now n same none = let e = same ∙ sym none in renew_same g now n (ap (option_map g) e ∙ sym e)

pub node_stays : (g : Node → Node) (m now : Whole) (n : ℕ) (x : Node) → at now n ≡ at m n → Some x ≡ at m n → x ≡ g x → now ≡ renew n g now
node_stays g m now n x same some e = let there = same ∙ sym some in renew_same g now n (ap (option_map g) there ∙ ap Some (sym e) ∙ sym there)

pub node_goes : (g : Node → Node) (m now : Whole) (n : ℕ) (x new : Node) → at now n ≡ at m n → Some x ≡ at m n → new ≡ g x → (after : Whole) → after ≡ set now n (Some new) → after ≡ renew n g now
node_goes g m now n x new same some e after is = is ∙ renew_put g now n x new (same ∙ sym some) e

-- No node of a map is in a set.
pub unlinked_node : (m : Whole) → IsMap m → (n : ℕ) (x : Node) → Some x ≡ at m n → link_of x ≡ None
unlinked_node m map n x some = by (link_of x) (ap (λ o. unwrap_or (option_map (λ y. is_some (link_of y)) o) false) some ∙ map.unlinked n)
  where
    by : (l : Option Link) → is_some l ≡ false → l ≡ None
    by None e = refl
    by (Some l) e = absurd (cc)
