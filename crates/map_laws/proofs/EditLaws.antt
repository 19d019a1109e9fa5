-- The laws of walks and edits, as they are stated.
use Rattle.std.proofs.Common.{◌≡◌, ℕ, ◌+◌, ◌≤◌, List, [], ◌∷◌, flat_map, Bool, true, false, cond, not, ◌&&◌, ◌⊎◌, inl, inr, refl, ap, sym, ◌∙◌, subst, arith, Option, Some, None, option_map}
use Rattle.std.specs.Prelude.{is_some}
use Rattle.map_laws.proofs.Slots.{next-take_out, next-forget}
use Rattle.algebra.specs.Members.{◌∈◌, here, there}
use Rattle.map_model.specs.Tree.{Whole, Node, Kind, brush, at, up, above, preorder, kind_of, is_linked, format_of}
use Rattle.map_model.specs.Edits.{each_in_turn, put_in, take_out, put_last, delete, forget, replace_by, put_after, copy_last}
use Rattle.map_model.specs.Rows.{named}
use Rattle.map_model.specs.Apply.{is_emptied, drop_emptied}
use Rattle.map_laws.specs.Placed.{Placed, Sound, IsNode}
use Rattle.map_laws.specs.Walking.{WalksLaw}
use Rattle.map_laws.specs.Editing.{PutLastLaw, MoveLaw, DeleteLaw, ReplaceLaw, PutAfterLaw, CopyLaw, RenewLaw, PruneLaw}
use Rattle.map_laws.proofs.Lists.{count-tally}
use Rattle.map_laws.proofs.Beneath.{Beneath, itself, under}
use Rattle.map_laws.proofs.Fuel.{Chains, preorder-step, preorder_enough, in_preorder, from_preorder, preorder_once, above-step, above-top, in_above, from_above, parent_rooted}
use Rattle.map_laws.proofs.Skeleton.{kind_at, planted, kind_is}
use Rattle.map_laws.proofs.Placing.{chains, put_last_placed, move_placed, delete_placed}
use Rattle.map_laws.proofs.Replacing.{replace_placed, put_after_placed}
use Rattle.map_laws.proofs.Pruning.{drop_all_placed, prune-walk}
use Rattle.map_laws.proofs.CopyLast.{copy_placed}
use Rattle.map_laws.proofs.Kept.{Comes, move_comes, delete_comes, put_last_comes, format_kept, each_node_kept, numbers_kept}
use Rattle.map_laws.proofs.Renewing.{renew_shape}
use Rattle.map_laws.proofs.Pruned.{drops_come, rooted_child}
use Rattle.map_laws.proofs.Drawing.{replace_comes, put_after_comes, copy_comes}
use Rattle.map_laws.proofs.Holding.{movable_says}

slot_kind : (o : Option Node) → is_some o ≡ true → (k : Kind) × (option_map kind_of o ≡ Some k)
slot_kind None e = absurd (cc)
slot_kind (Some x) e = (kind_of x, refl)

node_rooted : (m : Whole) → Placed m → (n : ℕ) → IsNode m n → Beneath (up m) 0 n
node_rooted m placed n e = let k = slot_kind (at m n) e in (planted placed).rooted n k.0 k.1

pub walks : WalksLaw
walks m placed bound =
    let c = chains m (planted placed) bound in
    record {
      preorder_steps = λ n e. preorder-step c n (node_rooted m placed n e);
      preorder_fuel = λ j n e. preorder_enough c j (j + m.next) n (node_rooted m placed n e) refl;
      preorder_lists = λ n q e f. ((λ i. listed c n q (node_rooted m placed q f) (from_preorder c m.next n q i)), (λ o. in_preorder c n (node_rooted m placed n e) (beneath_by c n q (node_rooted m placed q f) o)));
      preorder_once = λ n q e. subst (λ x. x ≤ 1) (sym (count-tally q (preorder m n))) (preorder_once c n q (node_rooted m placed n e));
      above_steps = λ n p e. above-step c n p e (parent_rooted c p (rooted_child m placed bound n p e) e);
      above_world = above-top c;
    }
  where
    listed : {m : Whole} (c : Chains m) (n q : ℕ) → Beneath (up m) 0 q → Beneath (up m) n q → (q ≡ n) ⊎ (n ∈ above m q)
    listed c n q r itself = inl refl
    listed c n q r (under t p e b) = inr (in_above c n q p (parent_rooted c p r e) e b)

    beneath_by : {m : Whole} (c : Chains m) (n q : ℕ) → Beneath (up m) 0 q → (q ≡ n) ⊎ (n ∈ above m q) → Beneath (up m) n q
    beneath_by {m} c n q r (inl e) = subst (λ x. Beneath (up m) n x) (sym e) itself
    beneath_by c n q r (inr i) = let w = from_above c n q r i in under q w.0 w.1 w.2

sound_by : (m k : Whole) → Sound m → Placed k → Comes (format_of m) m k → k.next ≤ 65536 → Sound k
sound_by m k s placed c most = record {
  placed = placed;
  each_node = each_node_kept c (format_kept c s.placed placed s.numbers.nodes) s.each_node;
  numbers = numbers_kept c most s.numbers;
}

kind_slot : (m : Whole) (n : ℕ) (x : Node) → at m n ≡ Some x → kind_at m n ≡ Some (kind_of x)
kind_slot m n x e = ap (option_map kind_of) e

pub put_last_is : PutLastLaw
put_last_is m p x y s is held gets no_brushes no_others new most =
    sound_by m (put_last p x m) s (put_last_placed m p x (kind_of y) s.placed s.numbers.nodes (kind_slot m p y is) held gets no_brushes no_others)
    (put_last_comes (format_of m) m p x s.numbers.nodes new) (omega arith)

pub move_is : MoveLaw
move_is m p n x y s is_p is_n held movable apart =
    let c = chains m (planted s.placed) s.numbers.nodes in
    let r = (planted s.placed).rooted p (kind_of y) (kind_slot m p y is_p) in
    sound_by m (put_in p n (take_out n m)) s
    (move_placed m p n (kind_of y) (kind_of x) s.placed (kind_slot m p y is_p) (kind_slot m n x is_n) held (movable_says (kind_of x) movable) (λ b. apart (listed m c n p r b)))
    (move_comes (format_of m) m p n s.numbers.nodes) (subst (λ k. k ≤ 65536) (sym (next-take_out m n)) s.numbers.most)
  where
    listed : (m : Whole) → Chains m → (n p : ℕ) → Beneath (up m) 0 p → Beneath (up m) n p → n ∈ (p ∷ above m p)
    listed m c n p r itself = here
    listed m c n p r (under t q e b) = there (in_above c n p q (parent_rooted c q r e) e b)

pub delete_is : DeleteLaw
delete_is m n s low e =
    let k = slot_kind (at m n) e in
    sound_by m (delete n m) s (delete_placed m n k.0 s.placed s.numbers.nodes low k.1) (delete_comes (format_of m) m n s.numbers.nodes)
    (subst (λ k. k ≤ 65536) (sym (next-forget (preorder m n) (take_out n m) ∙ next-take_out m n)) s.numbers.most)

pub replace_is : ReplaceLaw
replace_is m a p results s u e ok most =
    sound_by m (replace_by a results m) s (replace_placed m s.placed s.numbers.nodes a p u (kind_is m brush a e) results) (replace_comes (format_of m) m a results s.numbers.nodes ok) most

pub put_after_is : PutAfterLaw
put_after_is m a p faces s u e ok most =
    sound_by m (put_after a faces m) s (put_after_placed m a p faces s.placed s.numbers.nodes u (kind_is m brush a e)) (put_after_comes (format_of m) m a faces s.numbers.nodes ok) most

pub copy_is : CopyLaw
copy_is m p n f x y s is_p is_n held movable keeps new most =
    sound_by m (copy_last p f n m) s
    (copy_placed m p n f (kind_of y) (kind_of x) s.placed s.numbers.nodes (kind_slot m p y is_p) (kind_slot m n x is_n) held (movable_says (kind_of x) movable) keeps)
    (copy_comes (format_of m) m p f n s.numbers.nodes new) most

pub renew_is : RenewLaw
renew_is = renew_shape

next-dropped : (before : Whole) (ns : List ℕ) (m : Whole) → (each_in_turn (drop_emptied before) ns m).next ≡ m.next
next-dropped before [] m = refl
next-dropped before (n ∷ ns) m = next-dropped before ns (drop_emptied before n m) ∙ by (is_emptied before m n && not (is_linked m n))
  where
    by : (b : Bool) → (cond b (forget (n ∷ []) (take_out n m)) m).next ≡ m.next
    by true = next-forget (n ∷ []) (take_out n m) ∙ next-take_out m n
    by false = refl

pub prune_is : PruneLaw
prune_is before c m s =
    let walk = flat_map (above before) (named c) in
    subst Sound (sym (prune-walk before c m))
    (sound_by m (each_in_turn (drop_emptied before) walk m) s (drop_all_placed before walk m s.placed) (drops_come (format_of m) before walk m s.numbers.nodes) (subst (λ k. k ≤ 65536) (sym (next-dropped before walk m)) s.numbers.most))
