-- Where nodes stand after moves.
use Rattle.std.proofs.Common.{◌≡◌, ◌≢◌, ℕ, suc, ◌≤◌, ◌==◌, true, cond, [], ◌∷◌, arith, List, ◌⊎◌, ◌++◌, Bool, inl, inr, ap, sym, ◌∙◌, subst, Some, refl, false, None, Option, option_map}
use Rattle.std.specs.Prelude.{is_none, option_and_then}
use Rattle.algebra.specs.Members.{◌∈◌, here, there}
use Rattle.map_model.specs.Tree.{Whole, Node, World, Layer, Group, Entity, Brush, Kind, at, up, above, is_brush, kind_of, parent_of, with_parent, lies_beneath}
use Rattle.map_model.specs.Edits.{relist, without, take_out, put_in, move_all}
use Rattle.map_model.specs.Commands.{Delete}
use Rattle.map_model.specs.Shape.{Standing}
use Rattle.map_laws.specs.Placed.{Bounded}
use Rattle.map_laws.proofs.Lists.{by_eq, tally, tally-head, member-tally, tally-no_member}
use Rattle.map_laws.proofs.Beneath.{Beneath, itself, under, some_one}
use Rattle.map_laws.proofs.Forest.{up_or_not}
use Rattle.map_laws.proofs.Nodes.{list-with_parent}
use Rattle.map_laws.proofs.Skeleton.{kind_at, list_at, placed_of, not_both}
use Rattle.map_laws.proofs.Slots.{slot_list, member_among, take_out-none, take_out-is, at-renew_same, at-renew_other, renew-keeps, relisted, up-relisted, list-relisted_elsewhere}
use Rattle.map_laws.proofs.InTurn.{MovedAll, Apart, by_member}
use Rattle.map_laws.proofs.Refused.{NodesFit}
use Rattle.map_laws.proofs.Pruned.{is_above}

-- take_out changes the parent alone.
pub taken_at : (m : Whole) (n q : ℕ) → (up m n ≡ Some q → ⊥) → at (take_out n m) q ≡ at m q
taken_at m n q far = up_or_not (up m n)
    (λ e. ap (λ k. at k q) (take_out-none m n e))
    (λ p e. ap (λ k. at k q) (take_out-is m n p e) ∙ at-renew_other m p q (relist (is_brush m n) (without n)) (λ s. far (e ∙ ap Some (sym s))))

-- What stands above a node after a move did so before, or stands above the place to which something over it went.
pub moved_beneath : (m : Whole) (p : ℕ) (ns : List ℕ) (k : Whole) → MovedAll p ns m k → {h q : ℕ} → Beneath (up k) h q → Beneath (up m) h q ⊎ ((n : ℕ) × (n ∈ ns) × Beneath (up m) n q × Beneath (up k) h p)
moved_beneath m p ns k moved itself = inl itself
moved_beneath m p ns k moved {h} (under q s e b) = by_member q ns
    (λ i. inr (q, i, itself, subst (λ x. Beneath (up k) h x) (some_one e (moved.ups_in q i)) b))
    (λ out.
    let u : up m q ≡ Some s = sym (moved.ups_out q out) ∙ e in
    elim (moved_beneath m p ns k moved b) [ inl w ↦ inl (under q s u w) | inr r ↦ inr (r.0, r.1, under q s u r.2, r.3) ])

pub live_kind : (m : Whole) (n : ℕ) → is_none (at m n) ≡ false → (k : Kind) × (kind_at m n ≡ Some k)
live_kind m n e = by (at m n) e
  where
    by : (o : Option Node) → is_none o ≡ false → (k : Kind) × (option_map kind_of o ≡ Some k)
    by None e = absurd (cc)
    by (Some x) e = (kind_of x, refl)

-- Named nodes of which none is beneath another stand apart, each named once.
module _ (m : Whole) (ns : List ℕ) (standing : Standing m) (bound : Bounded m) (fit : NodesFit m (Delete ns)) where
  nested : (n q : ℕ) → n ∈ ns → q ∈ ns → n ≢ q → Beneath (up m) n q → ⊥
  nested n q i j ne itself = ne refl
  nested n q i j ne (under t p e b) = not_both (lies_beneath m q n) (member_among n (above m q) (is_above m (placed_of standing) bound q p n e b)) (fit.apart q n j i)

  apart_by : (l : List ℕ) → ((x : ℕ) → x ∈ l → x ∈ ns) → ((x : ℕ) → tally x l ≤ 1) → Apart m l
  apart_by [] all once = tt
  apart_by (x ∷ xs) all once = (
    (λ q i b. nested x q (all x here) (all q (there i)) (λ s. omega (arith, once x, tally-head x xs, member-tally q xs i, ap (λ z. tally z xs) s)) b),
    apart_by xs (λ y i. all y (there i)) (λ y. omega (arith, once y, less y x xs)),
  )
    where
      less : (a x : ℕ) (xs : List ℕ) → tally a xs ≤ tally a (x ∷ xs)
      less a x xs = elim (x == a) as (λ b. tally a xs ≤ cond b (suc (tally a xs)) (tally a xs)) [ true ↦ omega arith | false ↦ omega arith ]

  pub delete_apart : Apart m ns
  delete_apart = apart_by ns (λ x i. i) (λ x. by_member x ns (λ i. fit.once x i) (λ none. omega (arith, tally-no_member x ns none)))

-- A node moved, with no more said of the map: what it leaves as it was.
up_taken : (m : Whole) (n q : ℕ) → up (take_out n m) q ≡ up m q
up_taken m n q = up_or_not (up m n)
    (λ e. ap (λ k. up k q) (take_out-none m n e))
    (λ p e. ap (λ k. up k q) (take_out-is m n p e) ∙ up-relisted m p (is_brush m n) (without n) q)

other_up : (m : Whole) (p n q : ℕ) → q ≢ n → up (put_in p n (take_out n m)) q ≡ up m q
other_up m p n q ne =
    ap (option_and_then parent_of) (at-renew_other (relisted p (is_brush (take_out n m) n) (λ l. l ++ n ∷ []) (take_out n m)) n q (with_parent p) ne)
    ∙ up-relisted (take_out n m) p (is_brush (take_out n m) n) (λ l. l ++ n ∷ []) q
    ∙ up_taken m n q

own_up : (m : Whole) (p n q : ℕ) → up (put_in p n (take_out n m)) n ≡ Some q → q ≢ p → up m n ≡ Some q
own_up m p n q e ne =
    sym (up-relisted (take_out n m) p (is_brush (take_out n m) n) (λ l. l ++ n ∷ []) n ∙ up_taken m n n)
    ∙ by (at (relisted p (is_brush (take_out n m) n) (λ l. l ++ n ∷ []) (take_out n m)) n)
    (sym (ap (option_and_then parent_of) (at-renew_same (relisted p (is_brush (take_out n m) n) (λ l. l ++ n ∷ []) (take_out n m)) n n (with_parent p) refl)) ∙ e)
  where
    other : Some p ≡ Some q → ⊥
    other f = ne (sym (some_one refl f))

    by : (o : Option Node) → option_and_then parent_of (option_map (with_parent p) o) ≡ Some q → option_and_then parent_of o ≡ Some q
    by None f = absurd (cc)
    by (Some (World a b c d)) f = absurd (cc)
    by (Some (Layer a b c d g)) f = f
    by (Some (Group a b c d g h i)) f = absurd (other f)
    by (Some (Entity a b c d g)) f = absurd (other f)
    by (Some (Brush a b c)) f = absurd (other f)

parent_list : (c : Bool) (p : ℕ) (o : Option Node) → slot_list c (option_map (with_parent p) o) ≡ slot_list c o
parent_list c p None = refl
parent_list c p (Some x) = list-with_parent c p x

one_list : (m : Whole) (p n : ℕ) (b : Bool) (q : ℕ) → q ≢ p → (up m n ≡ Some q → ⊥) → list_at b (put_in p n (take_out n m)) q ≡ list_at b m q
one_list m p n b q other far =
    renew-keeps (slot_list b) (with_parent p) (parent_list b p) (relisted p (is_brush (take_out n m) n) (λ l. l ++ n ∷ []) (take_out n m)) n q
    ∙ list-relisted_elsewhere (take_out n m) p (is_brush (take_out n m) n) (λ l. l ++ n ∷ []) b q other
    ∙ ap (slot_list b) (taken_at m n q far)

one_at : (m : Whole) (p n q : ℕ) → q ≢ n → q ≢ p → (up m n ≡ Some q → ⊥) → at (put_in p n (take_out n m)) q ≡ at m q
one_at m p n q ne other far =
    at-renew_other (relisted p (is_brush (take_out n m) n) (λ l. l ++ n ∷ []) (take_out n m)) n q (with_parent p) ne
    ∙ at-renew_other (take_out n m) p q (relist (is_brush (take_out n m) n) (λ l. l ++ n ∷ [])) other
    ∙ taken_at m n q far

still : (m : Whole) (p n : ℕ) (ns : List ℕ) (q : ℕ) → q ≢ p → ((a : ℕ) → a ∈ (n ∷ ns) → up m a ≡ Some q → ⊥) → (a : ℕ) → a ∈ ns → up (put_in p n (take_out n m)) a ≡ Some q → ⊥
still m p n ns q ne far a i e = by_eq a n
    (λ s. far n here (own_up m p n q (ap (up (put_in p n (take_out n m))) (sym s) ∙ e) ne))
    (λ o. far a (there i) (sym (other_up m p n a o) ∙ e))

-- Nodes that go to p: a node that isn't one of them, isn't p, and isn't the parent of one stays; so do the lists of each that isn't p nor such a parent.
pub move_all_at : (p : ℕ) (ns : List ℕ) (m : Whole) (q : ℕ) → (q ∈ ns → ⊥) → q ≢ p → ((n : ℕ) → n ∈ ns → up m n ≡ Some q → ⊥) → at (move_all p ns m) q ≡ at m q
move_all_at p [] m q none ne far = refl
move_all_at p (n ∷ ns) m q none ne far =
    move_all_at p ns (put_in p n (take_out n m)) q (λ l. none (there l)) ne (still m p n ns q ne far) ∙ one_at m p n q (λ s. none (first_is s)) ne (far n here)
  where
    first_is : q ≡ n → q ∈ (n ∷ ns)
    first_is e = rw e here

pub move_all_lists : (p : ℕ) (ns : List ℕ) (m : Whole) (b : Bool) (q : ℕ) → q ≢ p → ((n : ℕ) → n ∈ ns → up m n ≡ Some q → ⊥) → list_at b (move_all p ns m) q ≡ list_at b m q
move_all_lists p [] m b q ne far = refl
move_all_lists p (n ∷ ns) m b q ne far = move_all_lists p ns (put_in p n (take_out n m)) b q ne (still m p n ns q ne far) ∙ one_list m p n b q ne (far n here)
