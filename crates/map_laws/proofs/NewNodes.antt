-- A command that puts a new node, which is no group, at the end of the world.
use Rattle.std.proofs.Common.{◌≡◌, ◌≢◌, ℕ, [], true, false, ◌==◌, ap, sym, ◌∙◌, arith, Some, None}
use Rattle.std.proofs.lemmas.Bool.{eq-eqb, ne_eqb}
use Rattle.map_model.specs.Tree.{Whole, Node, Kind, world, group, at, kind_of, parent_of, brushes_of, others_of, with_parent, format_of}
use Rattle.map_model.specs.Edits.{put_last}
use Rattle.map_model.specs.Shape.{Shape}
use Rattle.map_model.specs.Commands.{Command}
use Rattle.map_laws.specs.Placed.{Placed, Bounded, NewOk, can_hold}
use Rattle.map_laws.specs.Unlinked.{Unlinked}
use Rattle.map_laws.proofs.Forest.{PutNew, brush_kind, not_none}
use Rattle.map_laws.proofs.Lists.{by_eq}
use Rattle.map_laws.proofs.Skeleton.{kind_at, forest, planted, placed_of}
use Rattle.map_laws.proofs.Slots.{takes_kind}
use Rattle.map_laws.proofs.Placing.{put_new_last, put_last_placed, held-takes, no_slot}
use Rattle.map_laws.proofs.Kept.{put_last_comes}
use Rattle.map_laws.proofs.Pruned.{kept_pruned}
use Rattle.map_laws.proofs.Unlinking.{Outcome, outcome_of}

pub put_in_world : (m : Whole) (c : Command) (x : Node) → Shape m → Unlinked m → can_hold world (kind_of x) ≡ true → parent_of (with_parent 0 x) ≡ Some 0 → brushes_of x ≡ [] → others_of x ≡ [] →
    (kind_of x ≡ group → ⊥) → NewOk (format_of m) x → Outcome m c (put_last 0 x m)
put_in_world m c x shape unlinked held gets no_brushes no_others no_group new =
    outcome_of m c (put_last 0 x m) shape unlinked (kept_pruned (format_of m) m (put_last 0 x m) c shape.standing (record {
      placed = put_last_placed m 0 x world placed bound is_world held gets no_brushes no_others;
      comes = put_last_comes (format_of m) m 0 x bound new;
      groups = λ q e. by_eq q m.next
          (λ s. absurd (no_group (some_kind (sym (i.new_kinds q (eq-eqb q m.next s)) ∙ e))))
          (λ ne. sym (i.kinds q (differs q ne)) ∙ e);
      children = λ a q j e live. (q, i.ups q (differs q (λ s. not_none e ((planted placed).absent q (ap (kind_at m) s ∙ no_slot (at m m.next) free)))) ∙ e);
    }))
  where
    placed : Placed m
    placed = placed_of shape.standing

    bound : Bounded m
    bound = shape.numbers.nodes

    free : at m m.next ≡ None
    free = bound m.next (omega arith)

    is_world : kind_at m 0 ≡ Some world
    is_world = (planted placed).world_stands

    apart : 0 ≢ m.next
    apart s = not_none is_world (ap (kind_at m) s ∙ no_slot (at m m.next) free)

    i : PutNew 0 (λ q. q == m.next) (kind_of x) (forest m) (forest (put_last 0 x m))
    i = put_new_last m (planted placed) 0 x free apart (ap (takes_kind (brush_kind (kind_of x))) is_world ∙ held-takes world (kind_of x) held) gets no_brushes no_others

    differs : (q : ℕ) → q ≢ m.next → (q == m.next) ≡ false
    differs q ne = ne_eqb q m.next ne

    some_kind : {j k : Kind} → Some j ≡ Some k → j ≡ k
    some_kind {j} {k} e = cc
