-- Brushes among nodes.
use Rattle.std.proofs.Common.{◌≡◌, ℕ, List, [], IsTrue, Option, None, Some, true, false, refl, ap, sym, subst, ◌∙◌, true≢false, option_map, unwrap_or}
use Rattle.map_model.specs.Faces.{Face}
use Rattle.map_model.specs.Tree.{Node, World, Layer, Group, Entity, Brush, brush, has_kind, faces_of}

abbrev brush_in : Option Node → Type 0
brush_in o = IsTrue (unwrap_or (option_map (has_kind brush) o) false)

pub some_brush : (o : Option Node) → None ≡ o → brush_in o → ⊥
some_brush o e is = let h : brush_in None = subst brush_in (sym e) is in true≢false (sym h)

pub that_brush : (o : Option Node) (x : Node) → Some x ≡ o → brush_in o → IsTrue (has_kind brush x)
that_brush o x e is = subst brush_in (sym e) is

pub its_faces : (o : Option Node) (x : Node) (fs : List Face) → Some x ≡ o → fs ≡ faces_of x → fs ≡ unwrap_or (option_map faces_of o) []
its_faces o x fs e is = is ∙ ap (λ p. unwrap_or (option_map faces_of p) []) e

pub only_brush : (x : Node) → IsTrue (has_kind brush x) → ((parent : ℕ) (mark : Option ℕ) (faces : List Face) → ¬ (x ≡ Brush parent mark faces)) → ⊥
only_brush (World a b c d) is none = true≢false (sym is)
only_brush (Layer a b c d e) is none = true≢false (sym is)
only_brush (Group a b c d e f g) is none = true≢false (sym is)
only_brush (Entity a b c d e) is none = true≢false (sym is)
only_brush (Brush a b c) is none = none a b c refl
