-- That no linked group comes to lie beneath another.
use Rattle.std.proofs.Common.{◌≡◌, ◌≢◌, ℕ, zero, suc, ◌<◌, ◌≤◌, List, [], ◌∷◌, Bool, true, false, cond, not, ◌&&◌, ◌||◌, inl, inr, refl, ap, sym, ◌∙◌, subst, Option, Some, None, option_map}
use Rattle.std.specs.Prelude.{unwrap_or, option_and_then, is_some}
use Rattle.std.specs.List.{list_any}
use Rattle.std.proofs.lemmas.Bool.{cases_lt}
use Rattle.uv_lock.specs.declared.texture.Format.{Format}
use Rattle.algebra.specs.Members.{◌∈◌, here, there}
use Rattle.map_model.specs.Tree.{Whole, Node, group, at, up, above, above_by, over, preorder, is_linked, parent_of, link_of}
use Rattle.map_model.specs.Edits.{each_in_turn, take_out, forget}
use Rattle.map_model.specs.Shape.{Shape}
use Rattle.map_model.specs.Below.{Below}
use Rattle.map_model.specs.Commands.{Command, Settings}
use Rattle.map_model.specs.Rows.{first, rows, no_node, repeated, wrong_kind, nested_ids, locked_layer, two_members, reserved_key, no_key, not_linked, nested_link, is_in_link, holds_link}
use Rattle.map_model.specs.Apply.{is_emptied, drop_emptied, prune}
use Rattle.map_laws.specs.Placed.{Placed}
use Rattle.map_laws.proofs.Lists.{by_eq}
use Rattle.map_laws.proofs.Beneath.{Beneath, itself, under, beneath_both, no_circle}
use Rattle.map_laws.proofs.Copies.{parent_within}
use Rattle.map_laws.proofs.Fuel.{Chains, from_above, in_preorder, parent_rooted}
use Rattle.map_laws.proofs.Forest.{not_none, up_or_not, with_parent_live}
use Rattle.map_laws.proofs.Skeleton.{planted, placed_of, not_both}
use Rattle.map_laws.proofs.Placing.{chains}
use Rattle.map_laws.proofs.Pruning.{prune-walk, dropped, drop_emptied_placed}
use Rattle.map_laws.proofs.Kept.{Comes, KeptAt, bounded_by, part_alike}
use Rattle.map_laws.proofs.InTurn.{beneath_sub}
use Rattle.map_laws.proofs.Refused.{first_none}
use Rattle.map_laws.proofs.Pruned.{chain_list, rooted_at}
use Rattle.link_laws.proofs.Edited.{group_linked}
use Rattle.link_laws.proofs.Untouched.{over_is}
use Rattle.link_laws.proofs.Filtering.{find_is}
use Rattle.link_laws.proofs.Remarked.{by_option, linked_word}

-- Pruning leaves the parents of what is left.
drops_ups : (before : Whole) (ns : List ℕ) (m : Whole) → Placed m → (q p : ℕ) → up (each_in_turn (drop_emptied before) ns m) q ≡ Some p → up m q ≡ Some p
drops_ups before [] m placed q p e = e
drops_ups before (n ∷ ns) m placed q p e =
    one (is_emptied before m n && not (is_linked m n)) (drops_ups before ns (drop_emptied before n m) (drop_emptied_placed before n m placed) q p e)
  where
    one : (b : Bool) → up (cond b (forget (n ∷ []) (take_out n m)) m) q ≡ Some p → up m q ≡ Some p
    one true e =
        let d = dropped m n (planted placed) in
        by_eq q n (λ s. absurd (not_none e (ap (up (forget (n ∷ []) (take_out n m))) s ∙ ap (λ o. option_and_then parent_of o) d.gone))) (λ ne. sym (d.ups q ne) ∙ e)
    one false e = e

pub pruned_beneath : (before k : Whole) (c : Command) → Placed k → {h q : ℕ} → Beneath (up (prune before c k)) h q → Beneath (up k) h q
pruned_beneath before k c placed b = beneath_sub (λ q p e. drops_ups before (chain_list before c) k placed q p (ap (λ l. up l q) (sym (prune-walk before c k)) ∙ e)) b

-- A linked group of P was one of B.
pub linked_before : {f : Format} (B P : Whole) → Comes f B P → (g : ℕ) → is_linked P g ≡ true → is_linked B g ≡ true
linked_before B P comes g l = elim (cases_lt g B.next) [
  | inl lt ↦ old lt (comes.old g lt)
  | inr far ↦ absurd (by far (at P g) refl l)
]
  where
    old : g < B.next → KeptAt (at B g) (at P g) → is_linked B g ≡ true
    old lt (inl gone) = absurd (by_none (at P g) gone l)
      where
        by_none : (o : Option Node) → o ≡ None → unwrap_or (option_map (λ x. is_some (link_of x)) o) false ≡ true → ⊥
        by_none None e l = cc
        by_none (Some x) e l = cc
    old lt (inr same) = sym (part_alike (λ x. is_some (link_of x)) false linked_word (at P g) (at B g) same) ∙ l

    by : B.next ≤ g → (o : Option Node) → at P g ≡ o → unwrap_or (option_map (λ x. is_some (link_of x)) o) false ≡ true → ⊥
    by far None e l = cc
    by far (Some x) e l = not_both (is_some (link_of x)) l (ap is_some (comes.new g x far e).no_link)

-- Where a linked group that stands above another did so before, none does.
pub apart_by : {f : Format} (B P : Whole) → Shape B → Placed P → Comes f B P → ((h g : ℕ) → is_linked P h ≡ true → is_linked P g ≡ true → h ≢ g → Beneath (up P) h g → Beneath (up B) h g) → (g : ℕ) → is_linked P g ≡ true → over P g ≡ None
apart_by B P shape placed comes before g l = by_option (over P g) (λ e. e) (λ h e. absurd (nested h e))
  where
    c : Chains P
    c = chains P (planted placed) (bounded_by comes)

    nothing : (f : ℕ) → above_by f P None ≡ []
    nothing zero = refl
    nothing (suc f) = refl

    no_above : (h : ℕ) → h ∈ [] → ⊥
    no_above h i = elim i [ ]

    above_it : (h : ℕ) → h ∈ above P g → (p : ℕ) × (up P g ≡ Some p) × Beneath (up P) h p
    above_it h i = up_or_not (up P g)
        (λ none. absurd (no_above h (subst (λ l. h ∈ l) (ap (above_by P.next P) none ∙ nothing P.next) i)))
        (λ q u. from_above c h g (with_parent_live (planted placed) g q u) i)

    nested : (h : ℕ) → over P g ≡ Some h → ⊥
    nested h e =
        let r = find_is (is_linked P) h (above P g) e in
        let w = above_it h r.0 in
        let differ : h ≢ g = λ t. no_circle (planted placed).top (parent_rooted c w.0 (with_parent_live (planted placed) g w.0 w.1) w.1) w.1 (subst (λ x. Beneath (up P) x w.0) t w.2) in
        let b = before h g r.1 l differ (under g w.0 w.1 w.2) in
        let p = parent_within b (λ t. differ (sym t)) in
        let lh = linked_before B P comes h r.1 in
        let rooted = rooted_at B (placed_of shape.standing) shape.numbers.nodes h group (group_linked B h lh) in
        not_none (over_is B (chains B (planted (placed_of shape.standing)) shape.numbers.nodes) shape.marks.not_nested h g p.0 (beneath_both rooted b) p.1 p.2 lh)
        (shape.marks.not_nested g (linked_before B P comes g l))

-- The row of nested links.
pub link_row : (b : Below) (s : Settings) (m : Whole) (c : Command) → first (rows b s m c) ≡ None → nested_link m c ≡ None
link_row b s m c e =
    let a1 = first_none (no_node m c) _ e in
    let a2 = first_none (repeated c) _ a1.1 in
    let a3 = first_none (wrong_kind m c) _ a2.1 in
    let a4 = first_none (nested_ids m c) _ a3.1 in
    let a5 = first_none (locked_layer m c) _ a4.1 in
    let a6 = first_none (two_members m c) _ a5.1 in
    let a7 = first_none (reserved_key c) _ a6.1 in
    let a8 = first_none (no_key m c) _ a7.1 in
    let a9 = first_none (not_linked m c) _ a8.1 in
    (first_none (nested_link m c) _ a9.1).0

any_is : (p : ℕ → Bool) (x : ℕ) (xs : List ℕ) → x ∈ xs → p x ≡ true → list_any p xs ≡ true
any_is p x [] i e = elim i [ ]
any_is p x (y ∷ ys) here e = ap (λ b. b || list_any p ys) e
any_is p x (y ∷ ys) (there i) e = or_true (p y) (any_is p x ys i e)
  where
    or_true : (b : Bool) {c : Bool} → c ≡ true → (b || c) ≡ true
    or_true true e = refl
    or_true false e = e

-- Where the row doesn't hold, nothing with a linked group in it goes into one.
pub not_into_link : (m : Whole) (shape : Shape m) (place n h g : ℕ) → (is_in_link m place && holds_link m n) ≡ false → Beneath (up m) h place → is_linked m h ≡ true → Beneath (up m) 0 n → Beneath (up m) n g → is_linked m g ≡ true → ⊥
not_into_link m shape place n h g row b lh r w lg =
    not_both (is_in_link m place && holds_link m n)
    (λ i. in_link b i && any_is (is_linked m) g (preorder m n) (in_preorder c n r w) lg i) row
  where
    c : Chains m
    c = chains m (planted (placed_of shape.standing)) shape.numbers.nodes

    or_second : (a : Bool) {d : Bool} → d ≡ true → (a || d) ≡ true
    or_second true e = refl
    or_second false e = e

    in_link : {q : ℕ} → Beneath (up m) h q → is_in_link m q ≡ true
    in_link itself = ap (λ t. t || is_some (over m h)) lh
    in_link (under q p e v) = or_second (is_linked m q)
        (ap is_some (over_is m c shape.marks.not_nested h q p (with_parent_live (planted (placed_of shape.standing)) q p e) e v lh))
