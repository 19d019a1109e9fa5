-- Several nodes renewed, each once; and the nodes that a command moves with all beneath them.
use Rattle.std.proofs.Common.{◌≡◌, ◌≢◌, ℕ, suc, ◌≤◌, List, [], ◌∷◌, flat_map, Bool, true, false, cond, ◌==◌, ◌⊎◌, inl, inr, refl, ap, sym, ◌∙◌, subst, arith, Option, Some}
use Rattle.algebra.specs.Members.{◌∈◌, here, there}
use Rattle.map_model.specs.Tree.{Whole, Node, at, up, above, preorder, lies_beneath, format_of}
use Rattle.map_model.specs.Edits.{each_in_turn, renew}
use Rattle.map_model.specs.Shape.{Shape, NodeOk}
use Rattle.map_model.specs.Motions.{Motion}
use Rattle.map_model.specs.Own.{moved_node}
use Rattle.map_laws.specs.Placed.{Placed, Bounded, KeepsAll}
use Rattle.map_laws.specs.Unlinked.{Unlinked}
use Rattle.map_laws.proofs.Lists.{tally, tally-head, member-tally, tally-flat}
use Rattle.map_laws.proofs.Beneath.{Beneath, itself, under, some_one}
use Rattle.map_laws.proofs.Fuel.{Chains, from_preorder, preorder_once}
use Rattle.map_laws.proofs.Skeleton.{planted, not_both}
use Rattle.map_laws.proofs.Slots.{at-renew_other, member_among}
use Rattle.map_laws.proofs.Placing.{chains}
use Rattle.map_laws.proofs.Pruned.{is_above}
use Rattle.map_laws.proofs.Renewing.{Alike, renew_alike, renew_shape, same_linked}
use Rattle.map_laws.proofs.MovedNodes.{moved_unlinked, keeps_moved, renew_unlinked}

-- Renewals. -------------------------------------------------------------------------------------------------------------------------

alike_itself : (m : Whole) → Alike m m
alike_itself m = record { next = refl; kinds = λ q. refl; ups = λ q. refl; lists = λ b q. refl; links = λ q. refl; formats = refl }

alike_then : {m k l : Whole} → Alike m k → Alike k l → Alike m l
alike_then a b = record {
  next = b.next ∙ a.next;
  kinds = λ q. b.kinds q ∙ a.kinds q;
  ups = λ q. b.ups q ∙ a.ups q;
  lists = λ c q. b.lists c q ∙ a.lists c q;
  links = λ q. b.links q ∙ a.links q;
  formats = b.formats ∙ a.formats;
}

pub record Renewed (m k : Whole) : Type 0 where
  pub shape : Shape k
  pub alike : Alike m k

pub less : (a x : ℕ) (xs : List ℕ) → tally a xs ≤ tally a (x ∷ xs)
less a x xs = elim (x == a) as (λ b. tally a xs ≤ cond b (suc (tally a xs)) (tally a xs)) [ true ↦ omega arith | false ↦ omega arith ]

pub not_again : (a q : ℕ) (qs : List ℕ) → ((x : ℕ) → tally x (q ∷ qs) ≤ 1) → a ∈ qs → a ≢ q
not_again a q qs once i s = omega (arith, once q, tally-head q qs, member-tally a qs i, ap (λ z. tally z qs) s)

-- Each of the numbers stands once in the list, and its node is right once it is changed.
pub renew_once : (g : ℕ → Node → Node) → ((q : ℕ) → KeepsAll (g q)) → (qs : List ℕ) (m : Whole) → ((q : ℕ) → tally q qs ≤ 1) →
    ((q : ℕ) (x : Node) → q ∈ qs → at m q ≡ Some x → NodeOk (format_of m) (g q x)) → Shape m → Renewed m (each_in_turn (λ q. renew q (g q)) qs m)
renew_once g keeps [] m once ok shape = record { shape = shape; alike = alike_itself m }
renew_once g keeps (q ∷ qs) m once ok shape =
    let a = renew_alike m q (g q) (keeps q) in
    let rest = renew_once g keeps qs (renew q (g q) m) (λ x. omega (arith, once x, less x q qs))
    (λ n x i e. subst (λ f. NodeOk f (g n x)) (sym a.formats) (ok n x (there i) (sym (at-renew_other m q n (g q) (not_again n q qs once i)) ∙ e)))
    (renew_shape m q (g q) (keeps q) shape (λ x e. ok q x here e)) in
    record { shape = rest.shape; alike = alike_then a rest.alike }

-- Where no group is linked, no link is moved.
pub moves_unlinked : (lock : ℕ → Bool) (r : Motion) (qs : List ℕ) (m : Whole) → Unlinked m →
    each_in_turn (λ q. renew q (moved_node (lock q) r)) qs m ≡ each_in_turn (λ q. renew q (moved_unlinked (lock q) r)) qs m
moves_unlinked lock r [] m u = refl
moves_unlinked lock r (q ∷ qs) m u =
    ap (each_in_turn (λ q. renew q (moved_node (lock q) r)) qs) (renew_unlinked (lock q) r m q (u q))
    ∙ moves_unlinked lock r qs (renew q (moved_unlinked (lock q) r) m) (λ n. same_linked (renew_alike m q (moved_unlinked (lock q) r) (keeps_moved (lock q) r)) n ∙ u n)

-- Nodes with all beneath them. ------------------------------------------------------------------------------------------------------

-- Of two that stand above one node, one stands above the other.
one_way : {up : ℕ → Option ℕ} {c d q r : ℕ} → Beneath up c q → Beneath up d r → q ≡ r → Beneath up c d ⊎ Beneath up d c
one_way {up} {c} {d} {q} itself w s = inr (subst (λ x. Beneath up d x) (sym s) w)
one_way {up} {c} {d} (under q p e v) itself s = inl (subst (λ x. Beneath up c x) s (under q p e v))
one_way {up} (under q p e v) (under r t f w) s = one_way v w (some_one e (ap up s ∙ f))

module _ (m : Whole) (placed : Placed m) (bound : Bounded m) (ns : List ℕ) (rooted : (n : ℕ) → n ∈ ns → Beneath (up m) 0 n)
    (nested : (a b : ℕ) → a ∈ ns → b ∈ ns → lies_beneath m a b ≡ false) (once : (n : ℕ) → tally n ns ≤ 1) where
  c : Chains m
  c = chains m (planted placed) bound

  pub tops_apart : (a b : ℕ) → a ∈ ns → b ∈ ns → Beneath (up m) a b → a ≡ b
  tops_apart a b i j itself = refl
  tops_apart a b i j (under t p e w) = absurd (not_both (lies_beneath m b a) (member_among a (above m b) (is_above m placed bound b p a e w)) (nested b a j i))

  same_top : (q a b : ℕ) → a ∈ ns → b ∈ ns → q ∈ preorder m a → q ∈ preorder m b → a ≡ b
  same_top q a b i j k l = elim (one_way (from_preorder c m.next a q k) (from_preorder c m.next b q l) refl) [
    | inl w ↦ tops_apart a b i j w
    | inr w ↦ sym (tops_apart b a j i w)
  ]

  -- No node is listed twice.
  pub moved_once : (q : ℕ) → tally q (flat_map (preorder m) ns) ≤ 1
  moved_once q = tally-flat (preorder m) q ns (λ n i. preorder_once c n q (rooted n i)) (λ a b i j k l. same_top q a b i j k l) once
