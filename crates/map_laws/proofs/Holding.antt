-- Which kinds stand in which, and the kinds of a parent and a child.
use Rattle.std.proofs.Common.{◌≡◌, ℕ, Bool, true, false, refl, ap, sym, ◌∙◌, arith, Option, Some, None, option_map}
use Rattle.std.specs.Prelude.{option_and_then}
use Rattle.map_model.specs.Tree.{Whole, Node, Kind, world, layer, group, entity, brush, at, up, kind_of, parent_of, World, Layer, Group, Entity, Brush}
use Rattle.map_model.specs.Rows.{is_movable}
use Rattle.map_model.specs.Shape.{may_hold}
use Rattle.map_laws.specs.Placed.{Placed, can_hold}
use Rattle.map_laws.proofs.Lists.{tally}
use Rattle.map_laws.proofs.Beneath.{Beneath, itself, under}
use Rattle.map_laws.proofs.Forest.{Grown, bit, brush_kind, is_brush_kind, holds, own_place, not_none, live_or_not, with_parent_live, parent_beneath}
use Rattle.map_laws.proofs.Nodes.{says_parent}
use Rattle.map_laws.proofs.Skeleton.{kind_at, forest, planted, not_both}
use Rattle.map_laws.proofs.Slots.{by_bool, takes_kind, no_slot_list}

pub movable_says : (k : Kind) → is_movable k ≡ true → says_parent k ≡ true
movable_says world e = absurd (cc)
movable_says layer e = absurd (cc)
movable_says group e = refl
movable_says entity e = refl
movable_says brush e = refl

-- Nodes that hold groups.
abbrev pub is_container : Kind → Bool
is_container world = true
is_container layer = true
is_container group = true
is_container entity = false
is_container brush = false

pub container-holds : (j k : Kind) → is_container j ≡ true → says_parent k ≡ true → can_hold j k ≡ true
container-holds world group e f = refl
container-holds world entity e f = refl
container-holds world brush e f = refl
container-holds layer group e f = refl
container-holds layer entity e f = refl
container-holds layer brush e f = refl
container-holds group group e f = refl
container-holds group entity e f = refl
container-holds group brush e f = refl
container-holds entity world e f = absurd (cc)
container-holds brush world e f = absurd (cc)
container-holds j k e f = absurd (cc)

holder-container : (j k : Kind) → can_hold j k ≡ true → brush_kind k ≡ false → is_container j ≡ true
holder-container world layer e f = refl
holder-container world group e f = refl
holder-container world entity e f = refl
holder-container layer group e f = refl
holder-container layer entity e f = refl
holder-container group group e f = refl
holder-container group entity e f = refl
holder-container entity world e f = absurd (cc)
holder-container brush world e f = absurd (cc)
holder-container j k e f = absurd (cc)

-- A node that says its parent has one.
pub parent_said : (m : Whole) (n : ℕ) (k : Kind) → kind_at m n ≡ Some k → says_parent k ≡ true → (p : ℕ) × (up m n ≡ Some p)
parent_said m n k e says = by (at m n) e
  where
    by : (o : Option Node) → option_map kind_of o ≡ Some k → (p : ℕ) × (option_and_then parent_of o ≡ Some p)
    by None e = absurd (cc)
    by (Some (World a b c d)) e = absurd (not_both (says_parent k) says (ap says_at (sym e)))
      where
        says_at : Option Kind → Bool
        says_at None = false
        says_at (Some k) = says_parent k
    by (Some (Layer a b c d g)) e = (0, refl)
    by (Some (Group a b c d g h i)) e = (a, refl)
    by (Some (Entity a b c d g)) e = (a, refl)
    by (Some (Brush a b c)) e = (a, refl)

-- The kinds of a parent and a child.
module _ (m : Whole) (placed : Placed m) (q p : ℕ) (u : up m q ≡ Some p) where
  h : Grown (forest m)
  h = planted placed

  pub kind_p : (j : Kind) × (kind_at m p ≡ Some j)
  kind_p = live_or_not (kind_at m p) (λ none. absurd (dead (parent_beneath h p (with_parent_live h q p u) u) none)) (λ k e. (k, e))
    where
      dead : {x : ℕ} → Beneath (up m) 0 x → kind_at m x ≡ None → ⊥
      dead itself e = not_none h.world_stands e
      dead (under x t f b) e = not_none f (h.absent x e)

  pub kind_q : (k : Kind) × (kind_at m q ≡ Some k)
  kind_q = live_or_not (kind_at m q) (λ none. absurd (not_none u (h.absent q none))) (λ k e. (k, e))

  -- a parent takes brushes, where it has one
  pub parent_takes : is_brush_kind (kind_at m q) ≡ true → takes_kind true (kind_at m p) ≡ true
  parent_takes b = by_bool (takes_kind true (kind_at m p)) (λ e. e)
      (λ e. absurd (omega (arith, h.places true p q, own_place p true (kind_at m q) u, ap bit b, ap (tally q) (no_slot_list true (at m p) e))))

  pub parent_holds : (j k : Kind) → kind_at m p ≡ Some j → kind_at m q ≡ Some k → can_hold j k ≡ true
  parent_holds j k e f = by_bool (brush_kind k)
      (λ b. holds_brush j k b (sym (ap (takes_kind true) e) ∙ parent_takes (ap is_brush_kind f ∙ b)))
      (λ b. held_other j k b (sym (λ i. holds (e i) (f i)) ∙ h.fit p q u (ap is_brush_kind f ∙ b)))
    where
      holds_brush : (j k : Kind) → brush_kind k ≡ true → takes_kind true (Some j) ≡ true → can_hold j k ≡ true
      holds_brush world brush e f = refl
      holds_brush layer brush e f = refl
      holds_brush group brush e f = refl
      holds_brush entity brush e f = refl
      holds_brush brush world e f = absurd (cc)
      holds_brush j k e f = absurd (cc)

      held_other : (j k : Kind) → brush_kind k ≡ false → may_hold j k ≡ true → can_hold j k ≡ true
      held_other world brush e f = absurd (cc)
      held_other layer brush e f = absurd (cc)
      held_other group brush e f = absurd (cc)
      held_other entity brush e f = absurd (cc)
      held_other brush brush e f = absurd (cc)
      held_other j k e f = f

  pub group_parent : kind_at m q ≡ Some group → (j : Kind) × (kind_at m p ≡ Some j) × (is_container j ≡ true)
  group_parent e = (kind_p.0, kind_p.1, holder-container kind_p.0 group (parent_holds kind_p.0 group kind_p.1 e) refl)

  pub entity_parent : kind_at m q ≡ Some entity → (j : Kind) × (kind_at m p ≡ Some j) × (is_container j ≡ true)
  entity_parent e = (kind_p.0, kind_p.1, holder-container kind_p.0 entity (parent_holds kind_p.0 entity kind_p.1 e) refl)

  pub child_of_group : kind_at m p ≡ Some group → (k : Kind) × (kind_at m q ≡ Some k) × (says_parent k ≡ true)
  child_of_group e = (kind_q.0, kind_q.1, by kind_q.0 (parent_holds group kind_q.0 e kind_q.1))
    where
      by : (k : Kind) → can_hold group k ≡ true → says_parent k ≡ true
      by world e = absurd (cc)
      by layer e = absurd (cc)
      by group e = refl
      by entity e = refl
      by brush e = refl

  pub child_of_entity : kind_at m p ≡ Some entity → (k : Kind) × (kind_at m q ≡ Some k) × (says_parent k ≡ true)
  child_of_entity e = (kind_q.0, kind_q.1, by kind_q.0 (parent_holds entity kind_q.0 e kind_q.1))
    where
      by : (k : Kind) → can_hold entity k ≡ true → says_parent k ≡ true
      by world e = absurd (cc)
      by layer e = absurd (cc)
      by group e = absurd (cc)
      by entity e = absurd (cc)
      by brush e = refl
