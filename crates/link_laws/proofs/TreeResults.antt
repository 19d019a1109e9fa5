-- What is known of the maps that commands of the tree make by their own changes: what is pruned of them, which contents they leave, and what stands above linked groups.
use Rattle.std.proofs.Common.{◌≡◌, ℕ, List, ◌∷◌, true, false, ◌&&◌, ◌⊎◌, inl, inr, refl, ap, sym, ◌∙◌, Some, None}
use Rattle.algebra.specs.Members.{◌∈◌, there}
use Rattle.map_model.specs.Tree.{Whole, Kind, world, layer, group, entity, brush, up, over, is_linked, format_of, container}
use Rattle.map_model.specs.Edits.{each_in_turn, delete, move_all}
use Rattle.map_model.specs.Shape.{Shape}
use Rattle.map_model.specs.Below.{Below}
use Rattle.map_model.specs.Own.{own, ungroup, untie}
use Rattle.map_laws.proofs.Texts.{name_value}
use Rattle.map_model.specs.Commands.{IsGood, Settings, Delete, Into, Ungroup, Untie, Tie, Group as MakeGroup}
use Rattle.map_model.specs.Replies.{NestedLink}
use Rattle.map_model.specs.Rows.{edits, rows, first, refuse, is_in_link, holds_link}
use Rattle.map_laws.specs.Placed.{Placed, can_hold}
use Rattle.map_laws.proofs.Beneath.{Beneath, itself, under, some_one}
use Rattle.map_laws.proofs.Forest.{not_none}
use Rattle.map_laws.proofs.Skeleton.{kind_at, placed_of, kind_is}
use Rattle.map_laws.proofs.InTurn.{MovedAll, beneath_sub}
use Rattle.link_laws.proofs.Moves.{moved_beneath}
use Rattle.map_laws.proofs.Refused.{NodesFit, nodes_fit, each_none, refuse_none}
use Rattle.map_laws.proofs.Pruned.{rooted_at}
use Rattle.map_laws.proofs.Deleting.{delete_pruned, deleted}
use Rattle.map_laws.proofs.GoingInto.{into_pruned, into_gone, into_rooted, not_above_place}
use Rattle.map_laws.proofs.Dissolving.{ungroup_pruned}
use Rattle.link_laws.proofs.Freed.{ungrouped, untied}
use Rattle.map_laws.proofs.Holding.{kind_q, parent_holds}
use Rattle.link_laws.proofs.Gathers.{group_gathers, tie_gathers}
use Rattle.map_laws.proofs.Untying.{untie_pruned}
use Rattle.link_laws.proofs.Renewals.{new_group, new_entity}
use Rattle.link_laws.proofs.Edited.{unpruned, group_linked, delete_content, into_content, ungroup_content, untie_content, not_over_by, in_option}
use Rattle.link_laws.proofs.Nested.{pruned_beneath, link_row, not_into_link}
use Rattle.link_laws.proofs.BeforeSpread.{Result, named_rooted}

-- Each command's result.
pub delete_result : (b : Below) (s : Settings) (m : Whole) (ns : List ℕ) → Shape m → NodesFit m (Delete ns) → Result m (Delete ns) (each_in_turn delete ns m)
delete_result b s m ns shape fit =
    let d = deleted (format_of m) m ns shape.standing shape.numbers.nodes fit in
    record {
      pruned = delete_pruned (format_of m) m ns shape.standing shape.numbers.nodes fit;
      content = λ h l out j live. delete_content m shape.standing shape.numbers.nodes shape.marks h l ns fit out j live;
      before = λ h g lh lg w. beneath_sub d.without.ups (pruned_beneath m (each_in_turn delete ns m) (Delete ns) d.placed w);
    }

pub into_result : (b : Below) (s : Settings) (m : Whole) (place : ℕ) (ns : List ℕ) → Shape m → NodesFit m (Into place ns) → first (rows b s m (Into place ns)) ≡ None → Result m (Into place ns) (move_all place ns m)
into_result b s m place ns shape fit none = record {
  pruned = into_pruned (format_of m) m place ns shape.standing shape.numbers.nodes fit;
  content = λ h l out j live. into_content m shape.standing shape.numbers.nodes shape.marks h l place ns fit out;
  before = λ h g lh lg w. elim (moved_beneath m place ns (move_all place ns m) moved (pruned_beneath m (move_all place ns m) (Into place ns) placed w)) [
    | inl v ↦ v
    | inr r ↦ absurd (not_into_link m shape place r.0 h g (row r.0 r.1) (in_old h (moved_beneath m place ns (move_all place ns m) moved r.3)) lh
        (into_rooted (format_of m) m place ns shape.standing shape.numbers.nodes fit r.0 (there r.1)) r.2 lg)
  ];
}
  where
    placed : Placed (move_all place ns m)
    placed = (into_gone (format_of m) m place ns shape.standing shape.numbers.nodes fit).placed

    moved : MovedAll place ns m (move_all place ns m)
    moved = (into_gone (format_of m) m place ns shape.standing shape.numbers.nodes fit).moved

    row : (n : ℕ) → n ∈ ns → (is_in_link m place && holds_link m n) ≡ false
    row n i = refuse_none (is_in_link m place && holds_link m n) (NestedLink n) (each_none ns (λ n. refuse (is_in_link m place && holds_link m n) (NestedLink n)) (link_row b s m (Into place ns) none) n i)

    in_old : (h : ℕ) → Beneath (up m) h place ⊎ ((n : ℕ) × (n ∈ ns) × Beneath (up m) n place × Beneath (up (move_all place ns m)) h place) → Beneath (up m) h place
    in_old h (inl v) = v
    in_old h (inr r) = absurd (not_above_place (format_of m) m place ns shape.standing shape.numbers.nodes fit r.0 r.1 r.2)

pub ungroup_result : (m : Whole) (ns : List ℕ) → Shape m → NodesFit m (Ungroup ns) → Result m (Ungroup ns) (each_in_turn ungroup ns m)
ungroup_result m ns shape fit =
    let d = ungrouped (format_of m) m ns shape.standing shape.numbers.nodes fit in
    record {
      pruned = ungroup_pruned (format_of m) m ns shape.standing shape.numbers.nodes fit;
      content = λ h l out j live. ungroup_content m shape.standing shape.numbers.nodes shape.marks h l ns fit out (λ i. not_none (unpruned m (each_in_turn ungroup ns m) (Ungroup ns) h j d.base.placed live) (d.gone h i));
      before = λ h g lh lg w. d.ancestors h g (pruned_beneath m (each_in_turn ungroup ns m) (Ungroup ns) d.base.placed w);
    }

pub untie_result : (m : Whole) (ns : List ℕ) → Shape m → NodesFit m (Untie ns) → Result m (Untie ns) (each_in_turn untie ns m)
untie_result m ns shape fit =
    let d = untied (format_of m) m ns shape.standing shape.numbers.nodes fit in
    record {
      pruned = untie_pruned (format_of m) m ns shape.standing shape.numbers.nodes fit;
      content = λ h l out j live. untie_content m shape.standing shape.numbers.nodes shape.marks h l ns fit out;
      before = λ h g lh lg w. d.ancestors h g (pruned_beneath m (each_in_turn untie ns m) (Untie ns) d.base.placed w);
    }

linked_rooted : (m : Whole) → Shape m → (h : ℕ) → is_linked m h ≡ true → Beneath (up m) 0 h
linked_rooted m shape h l = rooted_at m (placed_of shape.standing) shape.numbers.nodes h group (group_linked m h l)

pub group_result : (b : Below) (s : Settings) (m : Whole) (name : List ℕ) (n : ℕ) (ns : List ℕ) → Shape m → IsGood (MakeGroup name (n ∷ ns)) → first (rows b s m (MakeGroup name (n ∷ ns))) ≡ None →
    Result m (MakeGroup name (n ∷ ns)) (own b s m (MakeGroup name (n ∷ ns)))
group_result b s m name n ns shape words none =
    let fit = nodes_fit b s m (MakeGroup name (n ∷ ns)) none in
    let g = group_gathers (format_of m) m name n ns shape.standing shape.numbers.nodes fit (new_group (format_of m) name (name_value name words.texts)) in
    record {
      pruned = g.pruned;
      content = λ h l out j live. g.content shape.marks h (linked_rooted m shape h l) (record { linked = l; not_over = not_over_by m h (edits m (MakeGroup name (n ∷ ns))) (n ∷ ns) (λ a e. in_option (over m a) h e) out });
      before = λ h q lh lq w. g.before (λ a h q i v lh w lq. not_into_link m shape (container m n) a h q (row a i) v lh (named_rooted b s m (MakeGroup name (n ∷ ns)) shape none a i) w lq)
          h q (linked_rooted m shape h lh) (linked_rooted m shape q lq) lh lq (pruned_beneath m (own b s m (MakeGroup name (n ∷ ns))) (MakeGroup name (n ∷ ns)) g.placed w);
    }
  where
    row : (a : ℕ) → a ∈ (n ∷ ns) → (is_in_link m (container m n) && holds_link m a) ≡ false
    row a i = refuse_none (is_in_link m (container m n) && holds_link m a) (NestedLink a)
        (each_none (n ∷ ns) (λ a. refuse (is_in_link m (container m n) && holds_link m a) (NestedLink a)) (link_row b s m (MakeGroup name (n ∷ ns)) none) a i)

-- Nothing stands beneath a brush.
brush_alone : (m : Whole) → Placed m → (a : ℕ) → kind_at m a ≡ Some brush → {q : ℕ} → Beneath (up m) a q → q ≡ a
brush_alone m placed a k itself = refl
brush_alone m placed a k (under q p e b) =
    let u : up m q ≡ Some a = e ∙ ap Some (brush_alone m placed a k b) in
    let j = kind_q m placed q a u in
    absurd (none j.0 (parent_holds m placed q a u brush j.0 k j.1))
  where
    none : (k : Kind) → can_hold brush k ≡ true → ⊥
    none world e = cc
    none layer e = cc
    none group e = cc
    none entity e = cc
    none brush e = cc

pub tie_result : (b : Below) (s : Settings) (m : Whole) (class : List ℕ) (n : ℕ) (ns : List ℕ) → Shape m → IsGood (Tie class (n ∷ ns)) → first (rows b s m (Tie class (n ∷ ns))) ≡ None →
    Result m (Tie class (n ∷ ns)) (own b s m (Tie class (n ∷ ns)))
tie_result b s m class n ns shape words none =
    let fit = nodes_fit b s m (Tie class (n ∷ ns)) none in
    let g = tie_gathers (format_of m) m class n ns shape.standing shape.numbers.nodes fit (new_entity (format_of m) class (name_value class words.texts)) in
    record {
      pruned = g.pruned;
      content = λ h l out j live. g.content shape.marks h (linked_rooted m shape h l) (record { linked = l; not_over = not_over_by m h (edits m (Tie class (n ∷ ns))) (n ∷ ns) (λ a e. in_option (over m a) h e) out });
      before = λ h q lh lq w. g.before (λ a h q i v lh w lq. differ (some_one (kind_is m brush a (fit.fit a i)) (ap (kind_at m) (sym (brush_alone m (placed_of shape.standing) a (kind_is m brush a (fit.fit a i)) w)) ∙ group_linked m q lq)))
          h q (linked_rooted m shape h lh) (linked_rooted m shape q lq) lh lq (pruned_beneath m (own b s m (Tie class (n ∷ ns))) (Tie class (n ∷ ns)) g.placed w);
    }
  where
    differ : brush ≡ group → ⊥
    differ e = cc
