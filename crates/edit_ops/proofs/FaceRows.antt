-- The rows on a node and its face.
use Rattle.std.proofs.Common.{◌≡◌, ℕ, ◌<◌, List, [], ◌∷◌, length, Bool, true, false, not, Option, None, Some, refl, ap, sym, ◌∙◌, arith, option_map}
use Rattle.std.specs.Prelude.{is_none, nat_lt, unwrap_or}
use Rattle.std.proofs.lemmas.Bool.{ltb-true}
use Rattle.map_model.specs.Faces.{Face}
use Rattle.map_model.specs.Tree.{Whole, Node, World, Layer, Group, Entity, Brush, at, faces_of, with_faces}
use Rattle.map_model.specs.Own.{change_at}
use Rattle.map_model.specs.Replies.{NoNode, WrongKind, LockedLayer}
use Rattle.map_model.specs.Rows.{first, refuse, has_face, is_in_frozen}
use Rattle.edit_ops.specs.Texturing.{face_rows}

module _ (m : Whole) (n k : ℕ) where
  pub absent : None ≡ at m n → first (face_rows m n k) ≡ Some (NoNode n)
  absent none = ap (λ o. first (refuse (is_none o) (NoNode n) ∷ refuse (not (has_face m n k)) (WrongKind n) ∷ refuse (is_in_frozen m n) (LockedLayer n) ∷ [])) (sym none)

  module _ (x : Node) (there : Some x ≡ at m n) (has : Bool) (tested : has ≡ nat_lt k (length (faces_of x))) where
    has_it : has_face m n k ≡ has
    has_it = ap (λ o. nat_lt k (length (unwrap_or (option_map faces_of o) []))) (sym there) ∙ sym tested

    stands : first (face_rows m n k) ≡ first (refuse (not has) (WrongKind n) ∷ refuse (is_in_frozen m n) (LockedLayer n) ∷ [])
    stands = λ i. first (refuse (is_none (sym there i)) (NoNode n) ∷ refuse (not (has_it i)) (WrongKind n) ∷ refuse (is_in_frozen m n) (LockedLayer n) ∷ [])

    pub no_face : has ≡ false → first (face_rows m n k) ≡ Some (WrongKind n)
    no_face e = stands ∙ ap (λ t. first (refuse (not t) (WrongKind n) ∷ refuse (is_in_frozen m n) (LockedLayer n) ∷ [])) e

    module _ (yes : has ≡ true) where
      pub frozen : is_in_frozen m n ≡ true → first (face_rows m n k) ≡ Some (LockedLayer n)
      frozen e = stands ∙ (λ i. first (refuse (not (yes i)) (WrongKind n) ∷ refuse (e i) (LockedLayer n) ∷ []))

      pub passes : is_in_frozen m n ≡ false → first (face_rows m n k) ≡ None
      passes e = stands ∙ (λ i. first (refuse (not (yes i)) (WrongKind n) ∷ refuse (e i) (LockedLayer n) ∷ []))

      pub is_face : k < length (faces_of x)
      is_face = ltb-true k (length (faces_of x)) (sym tested ∙ yes)

-- A node that has a face is a brush.
pub only_brush : (x : Node) (k : ℕ) → k < length (faces_of x) → ((parent : ℕ) (mark : Option ℕ) (faces : List Face) → ¬ (x ≡ Brush parent mark faces)) → ⊥
only_brush (World a b c d) k lt never = absurd (omega arith)
only_brush (Layer a b c d e) k lt never = absurd (omega arith)
only_brush (Group a b c d e f g) k lt never = absurd (omega arith)
only_brush (Entity a b c d e) k lt never = absurd (omega arith)
only_brush (Brush parent mark faces) k lt never = never parent mark faces refl

pub brush_is : (f : Face → Face) (x : Node) (k parent : ℕ) (mark : Option ℕ) (faces new : List Face) → x ≡ Brush parent mark faces → new ≡ change_at k f faces → Brush parent mark new ≡ with_faces (change_at k f (faces_of x)) x
brush_is f x k parent mark faces new is e = ap (Brush parent mark) e ∙ sym (ap (λ y. with_faces (change_at k f (faces_of y)) y) is)

pub in_brush : (x : Node) (k parent : ℕ) (mark : Option ℕ) (faces : List Face) → x ≡ Brush parent mark faces → k < length (faces_of x) → k < length faces
in_brush x k parent mark faces is lt = let e = ap (λ y. length (faces_of y)) is in omega (arith, lt, e)
