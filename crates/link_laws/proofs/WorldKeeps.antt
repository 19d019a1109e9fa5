-- The commands that put a new node into the world, or change nothing of the map, keep the sets of linked groups: entity, layer and material.
use Rattle.std.proofs.Common.{◌≡◌, ◌≢◌, ℕ, List, ℤ, [], ◌∷◌, true, false, ◌==◌, refl, ap, sym, ◌∙◌, subst, arith, Some, None}
use Rattle.std.proofs.lemmas.Bool.{eq-eqb, ne_eqb}
use Rattle.map_model.specs.Tree.{Whole, Node, Kind, world, group, Layer as LayerNode, Entity as EntityNode, at, up, is_linked, kind_of, parent_of, brushes_of, others_of, with_parent, format_of}
use Rattle.map_model.specs.Edits.{put_last}
use Rattle.map_model.specs.Props.{classname, origin}
use Rattle.map_model.specs.Shape.{Shape}
use Rattle.map_model.specs.Commands.{Command, Entity, Layer, Material, point_in}
use Rattle.map_model.specs.Own.{own, point_text}
use Rattle.map_model.specs.Apply.{prune}
use Rattle.map_laws.specs.Placed.{Placed, Bounded, NewOk, can_hold}
use Rattle.map_laws.proofs.Lists.{by_eq}
use Rattle.map_laws.proofs.Beneath.{Beneath, itself, under}
use Rattle.map_laws.proofs.Fuel.{parent_rooted}
use Rattle.map_laws.proofs.Forest.{PutNew, brush_kind, not_none}
use Rattle.map_laws.proofs.Skeleton.{kind_at, forest, planted, placed_of}
use Rattle.map_laws.proofs.Slots.{takes_kind}
use Rattle.map_laws.proofs.Placing.{chains, put_new_last, put_last_placed, held-takes, no_slot}
use Rattle.map_laws.proofs.Kept.{put_last_comes, comes_itself}
use Rattle.map_laws.proofs.Pruned.{Pruned, kept_pruned, rooted_at}
use Rattle.map_laws.proofs.Texts.{name_value, place_value}
use Rattle.link_laws.specs.Keeping.{KeepsAllOne}
use Rattle.link_laws.proofs.Contents.{SameContent, same_itself, put_last_same}
use Rattle.link_laws.proofs.Edited.{group_linked}
use Rattle.link_laws.proofs.Renewals.{new_layer, new_point_entity}
use Rattle.link_laws.proofs.BeforeSpread.{Result, named_rooted, to_spread}
use Rattle.link_laws.proofs.TwoMembers.{one_edited}
use Rattle.link_laws.proofs.Finishing.{keeps}

-- A new node, which is no group, at the end of the world.
module _ (m : Whole) (c : Command) (x : Node) (shape : Shape m) (held : can_hold world (kind_of x) ≡ true) (gets : parent_of (with_parent 0 x) ≡ Some 0) (no_brushes : brushes_of x ≡ []) (no_others : others_of x ≡ [])
    (no_group : kind_of x ≡ group → ⊥) (new : NewOk (format_of m) x) (unpruned : prune m c (put_last 0 x m) ≡ put_last 0 x m) where
  placed : Placed m
  placed = placed_of shape.standing

  bound : Bounded m
  bound = shape.numbers.nodes

  free : at m m.next ≡ None
  free = bound m.next (omega arith)

  is_world : kind_at m 0 ≡ Some world
  is_world = (planted placed).world_stands

  apart : 0 ≢ m.next
  apart s = not_none is_world (ap (kind_at m) s ∙ no_slot (at m m.next) free)

  i : PutNew 0 (λ q. q == m.next) (kind_of x) (forest m) (forest (put_last 0 x m))
  i = put_new_last m (planted placed) 0 x free apart (ap (takes_kind (brush_kind (kind_of x))) is_world ∙ held-takes world (kind_of x) held) gets no_brushes no_others

  differs : (q : ℕ) → q ≢ m.next → (q == m.next) ≡ false
  differs q ne = ne_eqb q m.next ne

  some_kind : {j k : Kind} → Some j ≡ Some k → j ≡ k
  some_kind {j} {k} e = cc

  pruned : Pruned (format_of m) m c (put_last 0 x m)
  pruned = kept_pruned (format_of m) m (put_last 0 x m) c shape.standing (record {
    placed = put_last_placed m 0 x world placed bound is_world held gets no_brushes no_others;
    comes = put_last_comes (format_of m) m 0 x bound new;
    groups = λ q e. by_eq q m.next
        (λ s. absurd (no_group (some_kind (sym (i.new_kinds q (eq-eqb q m.next s)) ∙ e))))
        (λ ne. sym (i.kinds q (differs q ne)) ∙ e);
    children = λ a q j e live. (q, i.ups q (differs q (λ s. not_none e ((planted placed).absent q (ap (kind_at m) s ∙ no_slot (at m m.next) free)))) ∙ e);
  })

  old : {q : ℕ} → Beneath (up m) 0 q → q ≢ m.next
  old itself = apart
  old (under q t e b) = λ s. not_none e ((planted placed).absent q (ap (kind_at m) s ∙ no_slot (at m m.next) free))

  rooted : (h : ℕ) → is_linked m h ≡ true → Beneath (up m) 0 h
  rooted h l = rooted_at m placed bound h group (group_linked m h l)

  -- a linked group doesn't stand above the world
  not_world : (h : ℕ) → is_linked m h ≡ true → {q : ℕ} → Beneath (up m) h q → q ≡ 0 → ⊥
  not_world h l itself s = differ (sym (group_linked m h l) ∙ ap (kind_at m) s ∙ is_world)
    where
      differ : Some group ≡ Some world → ⊥
      differ e = cc
  not_world h l (under q p e b) s = not_none e (ap (up m) s ∙ (planted placed).top)

  beneath_old : (h : ℕ) → Beneath (up m) 0 h → {q : ℕ} → Beneath (up m) h q → Beneath (up m) 0 q
  beneath_old h r itself = r
  beneath_old h r (under q p e b) = under q p e (beneath_old h r b)

  back : (h q : ℕ) → Beneath (up m) 0 q → Beneath (up (put_last 0 x m)) h q → Beneath (up m) h q
  back h q r itself = itself
  back h q r (under t s e b) =
      let u : up m q ≡ Some s = sym (i.ups q (differs q (old r))) ∙ e in
      under q s u (back h s (parent_rooted (chains m (planted placed) bound) s r u) b)

  pub world_result : Result m c (put_last 0 x m)
  world_result = record {
    pruned = pruned;
    content = λ h l out j live. subst (SameContent h m) (sym unpruned) (put_last_same m 0 h x (λ q w. old (beneath_old h (rooted h l) w)) (λ w. not_world h l w refl));
    before = λ h g lh lg w. back h g (rooted g lg) (subst (λ k. Beneath (up k) h g) unpruned w);
  }

pub entity_keeps : (class : List ℕ) (point : List ℤ) → KeepsAllOne (Entity class point)
entity_keeps class point b s m a right good shape all e =
    keeps b s m (Entity class point) a right refl
    (λ none empty most. to_spread m (Entity class point) (own b s m (Entity class point)) shape (named_rooted b s m (Entity class point) shape none)
    (world_result m (Entity class point) (EntityNode 0 None ((classname, class) ∷ (origin, point_text (point_in point)) ∷ []) [] []) shape refl refl refl refl (λ e. cc)
    (new_point_entity (format_of m) class (point_text (point_in point)) (name_value class good.texts) (place_value point good.ranges)) refl)
    refl all (one_edited b s m (Entity class point) none) empty most)
    e

pub layer_keeps : (name : List ℕ) → KeepsAllOne (Layer name)
layer_keeps name b s m a right good shape all e =
    keeps b s m (Layer name) a right refl
    (λ none empty most. to_spread m (Layer name) (own b s m (Layer name)) shape (named_rooted b s m (Layer name) shape none)
    (world_result m (Layer name) (LayerNode name false [] [] []) shape refl refl refl refl (λ e. cc) (new_layer (format_of m) name (name_value name good.texts)) refl)
    refl all (one_edited b s m (Layer name) none) empty most)
    e

-- A map that stays.
same_result : (m : Whole) (c : Command) → Shape m → prune m c m ≡ m → Result m c m
same_result m c shape unpruned = record {
  pruned = kept_pruned (format_of m) m m c shape.standing (record {
    placed = placed_of shape.standing;
    comes = comes_itself (format_of m) m shape.numbers.nodes;
    groups = λ q e. e;
    children = λ a q j e live. (q, e);
  });
  content = λ h l out j live. subst (SameContent h m) (sym unpruned) (same_itself h m);
  before = λ h g lh lg w. subst (λ k. Beneath (up k) h g) unpruned w;
}

pub material_keeps : (name : List ℕ) → KeepsAllOne (Material name)
material_keeps name b s m a right good shape all e =
    keeps b s m (Material name) a right refl
    (λ none empty most. to_spread m (Material name) m shape (named_rooted b s m (Material name) shape none) (same_result m (Material name) shape refl)
    refl all (one_edited b s m (Material name) none) empty most)
    e
