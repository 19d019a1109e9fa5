-- The commands that remake the brushes that they name keep the sets of linked groups.
use Rattle.std.proofs.Common.{◌≡◌, ℕ, [], flat_map, length, true, ◌&&◌, refl, ap, ◌∙◌, subst, arith, Option, None, Some, option_map, filter}
use Rattle.std.specs.Prelude.{option_to_list, nat_lt, unwrap_or}
use Rattle.std.proofs.lemmas.Bool.{ltb-true}
use Rattle.algebra.specs.Members.{◌∈◌}
use Rattle.map_model.specs.Tree.{Whole, Node, World, Layer, Group, Entity, Brush, brush, at, over, among, is_linked, kind_of, faces_of, all_numbers}
use Rattle.map_model.specs.Shape.{Shape}
use Rattle.map_model.specs.Below.{Below}
use Rattle.map_model.specs.Commands.{Command, Settings, Tex, Clip, Subtract, Intersect, Hollow, Hull, Merge, Vertex, Snap}
use Rattle.map_model.specs.Rows.{rows, first, named, edits}
use Rattle.map_model.specs.Own.{own}
use Rattle.map_model.specs.Apply.{apply_accepted, finish, edited, prune}
use Rattle.map_laws.specs.Reshaping.{is_reshaping_command, HasPairs, ReshapingRowsLaw, ReshapingApplyLaw, ReshapingCommandLaw}
use Rattle.map_laws.proofs.Skeleton.{kind_at}
use Rattle.map_laws.proofs.Refused.{nodes_fit}
use Rattle.map_laws.proofs.BrushRows.{named_brushes}
use Rattle.link_laws.specs.Keeping.{KeepsWithMaterial, ReshapingKeepsLaw}
use Rattle.link_laws.proofs.TwoMembers.{one_edited}
use Rattle.link_laws.proofs.Finishing.{keeps}
use Rattle.link_laws.proofs.Erasing.{erase}
use Rattle.link_laws.proofs.ErasedShape.{erased_shape, erased_unlinked}
use Rattle.link_laws.proofs.ErasedRows.{rows_erased, reshaping_pass}
use Rattle.link_laws.proofs.ErasedResult.{pruned_few, shape_by_law}
use Rattle.link_laws.proofs.BrushCommands.{remakes_brushes, brush_command}
use Rattle.link_laws.proofs.RemadeSpread.{without_links, remade_spread}
use Rattle.link_laws.proofs.NewBrushKeeps.{hull_keeps}

-- Commands that end by spreading the groups over the nodes that they name.
record EndsSo (c : Command) : Type 0 where
  accepted : (b : Below) (s : Settings) (m : Whole) → apply_accepted b s m c ≡ finish b m c (own b s m c)
  own_edits : (m : Whole) (n : ℕ) → edits m c n ≡ option_to_list (over m n)
  groups : (m p : Whole) → edited m c p ≡ filter (λ g. is_linked p g && among g (flat_map (edits m c) (named c))) (all_numbers m)

-- Only a brush has faces.
brush_slot : (o : Option Node) (k : ℕ) → nat_lt k (length (unwrap_or (option_map faces_of o) [])) ≡ true → option_map kind_of o ≡ Some brush
brush_slot None k e = absurd (no_face k e)
  where
    no_face : (k : ℕ) → nat_lt k 0 ≡ true → ⊥
    no_face k e = let lt = ltb-true k 0 e in omega arith
brush_slot (Some x) k e = by x e
  where
    no_face : nat_lt k 0 ≡ true → ⊥
    no_face e = let lt = ltb-true k 0 e in omega arith

    by : (x : Node) → nat_lt k (length (faces_of x)) ≡ true → Some (kind_of x) ≡ Some brush
    by (World a b c d) e = absurd (no_face e)
    by (Layer a b c d f) e = absurd (no_face e)
    by (Group a b c d f g h) e = absurd (no_face e)
    by (Entity a b c d f) e = absurd (no_face e)
    by (Brush a b c) e = refl

by_laws : ReshapingRowsLaw → ReshapingApplyLaw → ReshapingCommandLaw → (c : Command) → is_reshaping_command c ≡ true → remakes_brushes c ≡ true → HasPairs c → EndsSo c →
    ((b : Below) (s : Settings) (m : Whole) → first (rows b s m c) ≡ None → (n : ℕ) → n ∈ named c → kind_at m n ≡ Some brush) → KeepsWithMaterial c
by_laws rows_law apply_law command_law c is remakes two ends brushes b s m a right material good shape all e =
    keeps b s m c a right (ends.accepted b s m) (λ none empty most.
    let d = brush_command b s c remakes in
    let named_are = brushes b s m none in
    let passes : first (rows b s (erase m) c) ≡ None = rows_law b s (erase m) c is (erased_unlinked m) ∙ ap first (rows_erased b s m c is) ∙ reshaping_pass b s m c is none in
    let same : prune (erase m) c (own b s (erase m) c) ≡ erase (prune m c (own b s m c)) = without_links m c (λ x. own b s x c) shape d named_are ends.own_edits ends.groups empty in
    let few = pruned_few m c (own b s m c) most in
    let there_is = shape_by_law b s (erase m) c (apply_law b s (erase m) c right material is good two (erased_shape m shape) (erased_unlinked m)) passes
    (λ a e. command_law b s (erase m) c a right material is good two (erased_shape m shape) (erased_unlinked m) e) (omega (arith, ap (λ x. x.next) same, few)) in
    remade_spread m c (λ x. own b s x c) shape d named_are ends.own_edits ends.groups (subst Shape same there_is) all (one_edited b s m c none) empty most) e

module _ (rows_law : ReshapingRowsLaw) (apply_law : ReshapingApplyLaw) (command_law : ReshapingCommandLaw) where
  pub reshaping_keeps : ReshapingKeepsLaw
  reshaping_keeps (Tex n face name off rotation scale surface) is two =
      by_laws rows_law apply_law command_law (Tex n face name off rotation scale surface) refl refl two (record { accepted = λ b s m. refl; own_edits = λ m n. refl; groups = λ m p. refl })
      (λ b s m e k i. brush_slot (at m k) face ((nodes_fit b s m (Tex n face name off rotation scale surface) e).fit k i))
  reshaping_keeps (Clip part plane ns) is two =
      by_laws rows_law apply_law command_law (Clip part plane ns) refl refl two (record { accepted = λ b s m. refl; own_edits = λ m n. refl; groups = λ m p. refl }) (λ b s m e. named_brushes b s m (Clip part plane ns) (λ n. refl) e)
  reshaping_keeps (Subtract by ns) is two =
      by_laws rows_law apply_law command_law (Subtract by ns) refl refl two (record { accepted = λ b s m. refl; own_edits = λ m n. refl; groups = λ m p. refl }) (λ b s m e. named_brushes b s m (Subtract by ns) (λ n. refl) e)
  reshaping_keeps (Intersect ns) is two =
      by_laws rows_law apply_law command_law (Intersect ns) refl refl two (record { accepted = λ b s m. refl; own_edits = λ m n. refl; groups = λ m p. refl }) (λ b s m e. named_brushes b s m (Intersect ns) (λ n. refl) e)
  reshaping_keeps (Hollow thickness ns) is two =
      by_laws rows_law apply_law command_law (Hollow thickness ns) refl refl two (record { accepted = λ b s m. refl; own_edits = λ m n. refl; groups = λ m p. refl }) (λ b s m e. named_brushes b s m (Hollow thickness ns) (λ n. refl) e)
  reshaping_keeps (Hull points) is two = hull_keeps rows_law apply_law command_law points
  reshaping_keeps (Merge ns) is two =
      by_laws rows_law apply_law command_law (Merge ns) refl refl two (record { accepted = λ b s m. refl; own_edits = λ m n. refl; groups = λ m p. refl }) (λ b s m e. named_brushes b s m (Merge ns) (λ n. refl) e)
  reshaping_keeps (Vertex n shift picks) is two =
      by_laws rows_law apply_law command_law (Vertex n shift picks) refl refl two (record { accepted = λ b s m. refl; own_edits = λ m n. refl; groups = λ m p. refl }) (λ b s m e. named_brushes b s m (Vertex n shift picks) (λ k. refl) e)
  reshaping_keeps (Snap grid ns) is two =
      by_laws rows_law apply_law command_law (Snap grid ns) refl refl two (record { accepted = λ b s m. refl; own_edits = λ m n. refl; groups = λ m p. refl }) (λ b s m e. named_brushes b s m (Snap grid ns) (λ n. refl) e)
  reshaping_keeps c is two = absurd (cc)
