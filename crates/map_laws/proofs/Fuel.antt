-- That there is fuel enough: the words for what stands above and beneath compute as they should.
use Rattle.std.proofs.Common.{◌≡◌, ℕ, zero, suc, ◌+◌, ◌<◌, ◌≤◌, [], ◌∷◌, flat_map, refl, ap, sym, ◌∙◌, arith, Some, None, subst}
use Rattle.algebra.specs.Members.{◌∈◌, here, there}
use Rattle.map_model.specs.Tree.{Whole, up, children, above, above_by, preorder, preorder_by}
use Rattle.map_laws.proofs.Lists.{by_eq, tally, tally-head, tally-skip, tally-member, tally-no_member, member-flat, member-from_flat, flat-agree, tally-flat}
use Rattle.map_laws.proofs.Beneath.{Beneath, steps, beneath_both, steps_bound, one_at_depth, no_circle, some_one, itself, under}

-- What of a map's shape the chains of parents need.
pub record Chains (m : Whole) : Type 0 where
  pub top : up m 0 ≡ None
  pub below : (a : ℕ) → Beneath (up m) 0 a → a < m.next
  pub child_up : (p n : ℕ) → n ∈ children m p → up m n ≡ Some p
  pub up_child : (p n : ℕ) → up m n ≡ Some p → tally n (children m p) ≡ 1

pub preorder_more : {m : Whole} (h : Chains m) (k n : ℕ) (r : Beneath (up m) 0 n) → m.next ≤ k + steps r → preorder_by k m n ≡ preorder_by (suc k) m n
preorder_more {m} h zero n r e = absurd (omega (arith, steps_bound h.top m.next h.below r))
preorder_more {m} h (suc k) n r e =
    ap (λ l. n ∷ l) (flat-agree (preorder_by k m) (preorder_by (suc k) m) (children m n) (λ c i. preorder_more h k c (under c n (h.child_up n c i) r) (omega arith)))

-- More fuel than the next number changes nothing.
pub preorder_enough : {m : Whole} (h : Chains m) (j l n : ℕ) (r : Beneath (up m) 0 n) → l ≡ j + m.next → preorder_by l m n ≡ preorder m n
preorder_enough {m} h zero l n r e = ap (λ k. preorder_by k m n) (omega arith)
preorder_enough {m} h (suc j) zero n r e = absurd (omega arith)
preorder_enough {m} h (suc j) (suc l) n r e = sym (preorder_more h l n r (omega arith)) ∙ preorder_enough h j l n r (omega arith)

step_by : {m : Whole} (h : Chains m) (k n : ℕ) (r : Beneath (up m) 0 n) → m.next ≡ k → preorder_by k m n ≡ n ∷ flat_map (preorder_by k m) (children m n)
step_by {m} h zero n r e = absurd (omega (arith, h.below n r))
step_by {m} h (suc k) n r e =
    ap (λ l. n ∷ l) (flat-agree (preorder_by k m) (preorder_by (suc k) m) (children m n) (λ c i. preorder_more h k c (under c n (h.child_up n c i) r) (omega arith)))

-- A node stands before its children, each with all beneath it.
pub preorder-step : {m : Whole} (h : Chains m) (n : ℕ) → Beneath (up m) 0 n → preorder m n ≡ n ∷ flat_map (preorder m) (children m n)
preorder-step {m} h n r = step_by h m.next n r refl

above_more : {m : Whole} (h : Chains m) {n : ℕ} (k : ℕ) (r : Beneath (up m) 0 n) → steps r ≤ k → above_by k m (up m n) ≡ above_by (suc k) m (up m n)
above_more {m} h zero itself e = rw h.top refl
above_more {m} h (suc k) itself e = rw h.top refl
above_more {m} h zero (under n p u r) e = absurd (omega arith)
above_more {m} h (suc k) (under n p u r) e = rw u (ap (λ l. p ∷ l) (above_more h k r (omega arith)))

above_by_step : {m : Whole} (h : Chains m) (k p : ℕ) (r : Beneath (up m) 0 p) → steps r < k → above_by k m (Some p) ≡ p ∷ above_by k m (up m p)
above_by_step h zero p r e = absurd (omega arith)
above_by_step h (suc k) p r e = ap (λ l. p ∷ l) (above_more h k r (omega arith))

-- Above a node stand its parent and all that stand above that.
pub above-step : {m : Whole} (h : Chains m) (n p : ℕ) → up m n ≡ Some p → Beneath (up m) 0 p → above m n ≡ p ∷ above m p
above-step {m} h n p u r = ap (above_by m.next m) u ∙ above_by_step h m.next p r (steps_bound h.top m.next h.below r)

pub above-top : {m : Whole} (h : Chains m) → above m 0 ≡ []
above-top {m} h = ap (above_by m.next m) h.top ∙ nothing m.next
  where
    nothing : (k : ℕ) → above_by k m None ≡ []
    nothing zero = refl
    nothing (suc k) = refl

-- The preorder lists the nodes beneath.
pub from_preorder : {m : Whole} (h : Chains m) (k n q : ℕ) → q ∈ preorder_by k m n → Beneath (up m) n q
from_preorder h zero n q i = elim i [ ]
from_preorder h (suc k) n q here = itself
from_preorder {m} h (suc k) n q (there i) =
    let r = member-from_flat (preorder_by k m) q (children m n) i in
    beneath_both (under r.0 n (h.child_up n r.0 r.1) itself) (from_preorder h k r.0 q r.2)

child_next : (m : Whole) (k p q c : ℕ) → q ∈ preorder_by k m p → c ∈ children m q → c ∈ preorder_by (suc k) m p
child_next m zero p q c i j = elim i [ ]
child_next m (suc k) p q c here j = there (member-flat (preorder_by (suc k) m) c c (children m p) j here)
child_next m (suc k) p q c (there i) j =
    let r = member-from_flat (preorder_by k m) q (children m p) i in
    there (member-flat (preorder_by (suc k) m) c r.0 (children m p) r.1 (child_next m k r.0 q c r.2 j))

pub in_preorder : {m : Whole} (h : Chains m) (n : ℕ) (r : Beneath (up m) 0 n) {q : ℕ} → Beneath (up m) n q → q ∈ preorder m n
in_preorder h n r itself = rw (preorder-step h n r) here
in_preorder {m} h n r (under q p e b) =
    let i = child_next m m.next n p q (in_preorder h n r b) (tally-member q (children m p) (omega (arith, h.up_child p q e))) in
    subst (λ l. q ∈ l) (preorder_enough h 1 (suc m.next) n r (omega arith)) i

once_by : {m : Whole} (h : Chains m) (k n q : ℕ) → Beneath (up m) 0 n → tally q (preorder_by k m n) ≤ 1
once_by h zero n q r = omega arith
once_by {m} h (suc k) n q r = by_eq n q
    (λ e. omega (
      arith,
      ap (λ x. tally x (n ∷ flat_map (preorder_by k m) (children m n))) (sym e),
      tally-head n (flat_map (preorder_by k m) (children m n)),
      tally-no_member n (flat_map (preorder_by k m) (children m n)) (λ i.
          let c = member-from_flat (preorder_by k m) n (children m n) i in
          no_circle h.top r (h.child_up n c.0 c.1) (from_preorder h k c.0 n c.2)),
    ))
    (λ ne. omega (
      arith,
      tally-skip q n (flat_map (preorder_by k m) (children m n)) ne,
      tally-flat (preorder_by k m) q (children m n)
          (λ c i. once_by h k c q (under c n (h.child_up n c i) r))
          (λ c d i j a b. one_at_depth h.top (under c n (h.child_up n c i) r) (under d n (h.child_up n d j) r) refl (from_preorder h k c q a) (from_preorder h k d q b) refl)
          (λ c. by_eq (tally c (children m n)) 0 (λ e. omega arith) (λ some. omega (arith, h.up_child n c (h.child_up n c (tally-member c (children m n) (omega arith)))))),
    ))

-- Each of them once.
pub preorder_once : {m : Whole} (h : Chains m) (n q : ℕ) → Beneath (up m) 0 n → tally q (preorder m n) ≤ 1
preorder_once {m} h n q r = once_by h m.next n q r

pub parent_rooted : {m : Whole} (h : Chains m) {q : ℕ} (p : ℕ) → Beneath (up m) 0 q → up m q ≡ Some p → Beneath (up m) 0 p
parent_rooted h p itself e = absurd (cc h.top)
parent_rooted h p (under q t f c) e = rw (some_one e f) c

-- What stands above a node, in the list and by parents.
pub in_above : {m : Whole} (h : Chains m) (n q p : ℕ) → Beneath (up m) 0 p → up m q ≡ Some p → Beneath (up m) n p → n ∈ above m q
in_above h n q p r u itself = rw (above-step h q p u r) here
in_above h n q p r u (under t s e b) = rw (above-step h q p u r) (there (in_above h n p s (parent_rooted h s r e) e b))

pub from_above : {m : Whole} (h : Chains m) (n q : ℕ) → Beneath (up m) 0 q → n ∈ above m q → (p : ℕ) × (up m q ≡ Some p) × Beneath (up m) n p
from_above {m} h n q itself i = elim (subst (λ l. n ∈ l) (above-top h) i) [ ]
from_above {m} h n q (under t p e r) i = cases p e r (subst (λ l. n ∈ l) (above-step h q p e r) i) (from_above h n p r)
  where
    cases : (p : ℕ) → up m q ≡ Some p → Beneath (up m) 0 p → n ∈ (p ∷ above m p) → (n ∈ above m p → (s : ℕ) × (up m p ≡ Some s) × Beneath (up m) n s) → (p : ℕ) × (up m q ≡ Some p) × Beneath (up m) n p
    cases p e r here more = (p, e, itself)
    cases p e r (there i) more = let w = more i in (p, e, under p w.0 w.1 w.2)
