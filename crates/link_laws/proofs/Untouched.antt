-- Which contents a command of the tree leaves: those of linked groups that it doesn't edit.
use Rattle.std.proofs.Common.{◌≡◌, ◌≢◌, ℕ, List, [], ◌∷◌, flat_map, Bool, true, false, cond, refl, ap, sym, ◌∙◌, subst, Some, None}
use Rattle.std.specs.List.{find}
use Rattle.uv_lock.specs.declared.texture.Format.{Format}
use Rattle.algebra.specs.Members.{◌∈◌, here, there}
use Rattle.map_model.specs.Tree.{Whole, Node, Kind, world, group, at, up, above, over, children, is_linked, container, kind_of, with_parent, parent_of}
use Rattle.map_model.specs.Edits.{each_in_turn, delete}
use Rattle.map_model.specs.Shape.{Marks}
use Rattle.map_model.specs.Apply.{prune}
use Rattle.map_model.specs.Commands.{Command}
use Rattle.map_model.specs.Rows.{named}
use Rattle.map_laws.specs.Placed.{Placed, Bounded}
use Rattle.map_laws.proofs.Beneath.{Beneath, itself, under, beneath_both}
use Rattle.map_laws.proofs.Fuel.{Chains, above-step, parent_rooted}
use Rattle.map_laws.proofs.Forest.{not_none}
use Rattle.map_laws.proofs.Skeleton.{planted}
use Rattle.map_laws.proofs.Slots.{by_bool}
use Rattle.map_laws.proofs.Placing.{chains, delete_placed}
use Rattle.map_laws.proofs.Pruning.{prune-walk}
use Rattle.map_laws.proofs.Kept.{bounded_by, delete_comes}
use Rattle.map_laws.proofs.InTurn.{AreNodes, Apart, beneath_sub, up_before, kind-deleted, apart_sub}
use Rattle.map_laws.proofs.Pruned.{chain_list, in_chain}
use Rattle.link_laws.proofs.Contents.{SameContent, same_itself, same_then, below_back, delete_same, drops_same}

find_at : (p : ℕ → Bool) (x : ℕ) (xs : List ℕ) → p x ≡ true → find p (x ∷ xs) ≡ Some x
find_at p x xs e = ap (λ b. cond b (Some x) (find p xs)) e

find_past : (p : ℕ → Bool) (x : ℕ) (xs : List ℕ) → p x ≡ false → find p (x ∷ xs) ≡ find p xs
find_past p x xs e = ap (λ b. cond b (Some x) (find p xs)) e

-- The linked group above a node is the only one.
pub over_is : (m : Whole) (c : Chains m) → ((g : ℕ) → is_linked m g ≡ true → over m g ≡ None) → (h n p : ℕ) → Beneath (up m) 0 n → up m n ≡ Some p → Beneath (up m) h p → is_linked m h ≡ true → over m n ≡ Some h
over_is m c apart h n p r e itself l = ap (find (is_linked m)) (above-step c n p e (parent_rooted c p r e)) ∙ find_at (is_linked m) p (above m p) l
over_is m c apart h n p r e (under t s f b) l =
    let low = over_is m c apart h p s (parent_rooted c p r e) f b l in
    ap (find (is_linked m)) (above-step c n p e (parent_rooted c p r e)) ∙ by_bool (is_linked m p)
    (λ t. absurd (not_none low (apart p t)))
    (λ t. find_past (is_linked m) p (above m p) t ∙ low)

-- h is a linked group that stands over none of the numbers.
pub record Unedited (m : Whole) (h : ℕ) (ns : List ℕ) : Type 0 where
  pub linked : is_linked m h ≡ true
  pub not_over : (n : ℕ) → n ∈ ns → over m n ≡ Some h → ⊥

module _ (m : Whole) (standing : Placed m) (bound : Bounded m) (marks : Marks m) (h : ℕ) (ns : List ℕ) (u : Unedited m h ns) (rooted : (n : ℕ) → n ∈ ns → Beneath (up m) 0 n) where
  c : Chains m
  c = chains m (planted standing) bound

  -- none of them stands beneath h
  pub not_beneath : (n : ℕ) → n ∈ ns → Beneath (up m) h n → n ≢ h → ⊥
  not_beneath n i b ne = by b (rooted n i) (λ e. u.not_over n i e)
    where
      by : Beneath (up m) h n → Beneath (up m) 0 n → (over m n ≡ Some h → ⊥) → ⊥
      by b r none = at_parent b refl
        where
          at_parent : {q : ℕ} → Beneath (up m) h q → q ≡ n → ⊥
          at_parent itself e = ne (sym e)
          at_parent (under q p f w) e = none (over_is m c marks.not_nested h n p r (ap (up m) (sym e) ∙ f) w u.linked)

  pub not_parent : (n p : ℕ) → n ∈ ns → up m n ≡ Some p → Beneath (up m) h p → ⊥
  not_parent n p i e b = u.not_over n i (over_is m c marks.not_nested h n p (rooted n i) e b u.linked)

  pub not_chain : (q : ℕ) → q ∈ flat_map (above m) ns → Beneath (up m) h q → ⊥
  not_chain q i b =
      let w = in_chain m standing bound ns rooted q i in
      not_parent w.0 w.1 w.2 w.3 (beneath_both b w.4)

  -- Pruning leaves the content that the own changes left.
  pub pruned_same : (k : Whole) (cmd : Command) → named cmd ≡ ns → Placed k → SameContent h m k → SameContent h m (prune m cmd k)
  pruned_same k cmd e placed s = subst (SameContent h m) (sym (prune-walk m cmd k)) (same_then s (drops_same m h (chain_list m cmd) k placed
      (λ q i b. not_chain q (subst (λ l. q ∈ flat_map (above m) l) e i) (below_back s (planted standing) (planted placed) b))))

-- delete.
pub delete_all_same : (ns : List ℕ) (m : Whole) (h : ℕ) → Placed m → Bounded m → AreNodes m ns → Apart m ns → ((n : ℕ) → n ∈ ns → Beneath (up m) n h → ⊥) → ((n : ℕ) → n ∈ ns → Beneath (up m) h n → ⊥) →
    SameContent h m (each_in_turn delete ns m)
delete_all_same [] m h placed bound nodes apart low high = same_itself h m
delete_all_same (n ∷ ns) m h placed bound nodes apart low high =
    let w = nodes n here in
    let back = up_before m n w.0 placed bound w.1 in
    let f = format_any m in
    same_then (delete_same m n h w.0 placed bound w.1 (low n here) (high n here))
    (delete_all_same ns (delete n m) h (delete_placed m n w.0 placed bound w.2 w.1) (bounded_by (delete_comes f m n bound))
    (λ q i. let x = nodes q (there i) in (x.0, kind-deleted m n w.0 placed bound w.1 q (apart.0 q i) ∙ x.1, x.2))
    (apart_sub m (delete n m) back ns apart.1)
    (λ q i b. low q (there i) (beneath_sub back b)) (λ q i b. high q (there i) (beneath_sub back b)))
  where
    format_any : Whole → Format
    format_any m = Rattle.map_model.specs.Tree.format_of m
