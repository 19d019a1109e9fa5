-- Changes of parts that no other node sees: the properties, and whether a layer is frozen.
use Rattle.std.proofs.Common.{◌≡◌, ℕ, List, Bool, refl}
use Rattle.uv_lock.specs.declared.texture.Format.{Format}
use Rattle.map_model.specs.Tree.{Node, World, Layer, Group, Entity, Brush, kind_of, parent_of, brushes_of, others_of, link_of, mark_of, with_props, with_frozen, format_of_node}
use Rattle.map_model.specs.Shape.{NodeOk}
use Rattle.map_laws.specs.Placed.{KeepsAll}

pub keeps_props : (h : Node → List (List ℕ × List ℕ)) → KeepsAll (λ x. with_props (h x) x)
keeps_props h = record {
  place = record {
    kind = λ x. kind x (h x);
    parent = λ x. parent x (h x);
    brushes = λ x. brushes x (h x);
    others = λ x. others x (h x);
  };
  link = λ x. link x (h x);
  mark = λ x. mark x (h x);
  format = λ x. format x (h x);
}
  where
    kind : (x : Node) (ps : List (List ℕ × List ℕ)) → kind_of (with_props ps x) ≡ kind_of x
    kind x ps = elim x as (λ x. kind_of (with_props ps x) ≡ kind_of x) [ World a b c d ↦ refl | _ ↦ refl ]

    parent : (x : Node) (ps : List (List ℕ × List ℕ)) → parent_of (with_props ps x) ≡ parent_of x
    parent x ps = elim x as (λ x. parent_of (with_props ps x) ≡ parent_of x) [ World a b c d ↦ refl | _ ↦ refl ]

    brushes : (x : Node) (ps : List (List ℕ × List ℕ)) → brushes_of (with_props ps x) ≡ brushes_of x
    brushes x ps = elim x as (λ x. brushes_of (with_props ps x) ≡ brushes_of x) [ World a b c d ↦ refl | _ ↦ refl ]

    others : (x : Node) (ps : List (List ℕ × List ℕ)) → others_of (with_props ps x) ≡ others_of x
    others x ps = elim x as (λ x. others_of (with_props ps x) ≡ others_of x) [ World a b c d ↦ refl | _ ↦ refl ]

    link : (x : Node) (ps : List (List ℕ × List ℕ)) → link_of (with_props ps x) ≡ link_of x
    link x ps = elim x as (λ x. link_of (with_props ps x) ≡ link_of x) [ World a b c d ↦ refl | _ ↦ refl ]

    mark : (x : Node) (ps : List (List ℕ × List ℕ)) → mark_of (with_props ps x) ≡ mark_of x
    mark x ps = elim x as (λ x. mark_of (with_props ps x) ≡ mark_of x) [ World a b c d ↦ refl | _ ↦ refl ]

    format : (x : Node) (ps : List (List ℕ × List ℕ)) → format_of_node (with_props ps x) ≡ format_of_node x
    format x ps = elim x as (λ x. format_of_node (with_props ps x) ≡ format_of_node x) [ World a b c d ↦ refl | _ ↦ refl ]

pub keeps_frozen : (b : Bool) → KeepsAll (with_frozen b)
keeps_frozen b = record {
  place = record {
    kind = λ x. elim x as (λ x. kind_of (with_frozen b x) ≡ kind_of x) [ World a b c d ↦ refl | _ ↦ refl ];
    parent = λ x. elim x as (λ x. parent_of (with_frozen b x) ≡ parent_of x) [ World a b c d ↦ refl | _ ↦ refl ];
    brushes = λ x. elim x as (λ x. brushes_of (with_frozen b x) ≡ brushes_of x) [ World a b c d ↦ refl | _ ↦ refl ];
    others = λ x. elim x as (λ x. others_of (with_frozen b x) ≡ others_of x) [ World a b c d ↦ refl | _ ↦ refl ];
  };
  link = λ x. elim x as (λ x. link_of (with_frozen b x) ≡ link_of x) [ World a b c d ↦ refl | _ ↦ refl ];
  mark = λ x. elim x as (λ x. mark_of (with_frozen b x) ≡ mark_of x) [ World a b c d ↦ refl | _ ↦ refl ];
  format = λ x. elim x as (λ x. format_of_node (with_frozen b x) ≡ format_of_node x) [ World a b c d ↦ refl | _ ↦ refl ];
}

pub frozen_ok : (f : Format) (b : Bool) (x : Node) → NodeOk f x → NodeOk f (with_frozen b x)
frozen_ok f b (World a c d e) h = h
frozen_ok f b (Layer a c d e g) h = h
frozen_ok f b (Group a c d e g i j) h = h
frozen_ok f b (Entity a c d e g) h = h
frozen_ok f b (Brush a c d) h = h
