-- The commands that make a brush in the world keep the sets of linked groups: box and hull.
use Rattle.std.proofs.Common.{◌≡◌, List, ℤ, [], ◌∷◌, map, refl, ap, ◌∙◌, subst, None}
use Rattle.map_model.specs.Tree.{Brush}
use Rattle.map_model.specs.Edits.{put_last}
use Rattle.map_model.specs.Shape.{Shape}
use Rattle.map_model.specs.Brushes.{box_planes, facets, distinct_points}
use Rattle.map_model.specs.Commands.{Box, Hull, point_in, points_in}
use Rattle.map_model.specs.Rows.{rows, first, beyond, plain_face, point_range, no_volume, out_of_world}
use Rattle.map_model.specs.Own.{own}
use Rattle.map_laws.specs.BoxCommand.{BoxRowsLaw, BoxApplyLaw, BoxCommandLaw}
use Rattle.map_laws.specs.Reshaping.{ReshapingRowsLaw, ReshapingApplyLaw, ReshapingCommandLaw}
use Rattle.map_laws.proofs.TreeRows.{skip}
use Rattle.map_laws.proofs.RowsPass.{rows_pass}
use Rattle.link_laws.specs.Keeping.{BoxKeepsLaw, KeepsWithMaterial}
use Rattle.link_laws.proofs.BeforeSpread.{named_rooted, to_spread}
use Rattle.link_laws.proofs.TwoMembers.{one_edited}
use Rattle.link_laws.proofs.WorldKeeps.{world_result}
use Rattle.link_laws.proofs.Finishing.{keeps}
use Rattle.link_laws.proofs.Erasing.{erase}
use Rattle.link_laws.proofs.ErasedShape.{erased_shape, erased_unlinked}
use Rattle.link_laws.proofs.ErasedRows.{rows_erased, reshaping_pass}
use Rattle.link_laws.proofs.ErasedResult.{pruned_few, shape_by_law, new_brush_ok}
use Rattle.link_laws.proofs.BrushCommands.{erased_plain}

pub box_keeps : BoxRowsLaw → BoxApplyLaw → BoxCommandLaw → BoxKeepsLaw
box_keeps rows_law apply_law command_law x y b s m a right material good shape all e =
    let c = Box x y in
    let planes = box_planes (point_in x) (point_in y) in
    keeps b s m c a right refl (λ none empty most.
    let r = rows_pass b s m c none in
    let passes : first (rows b s (erase m) c) ≡ None = rows_law b s (erase m) x y
    ∙ skip (point_range s (erase m) c) (no_volume b (erase m) c ∷ out_of_world b s (erase m) c ∷ []) [] (ap (λ plain. beyond 0 (λ t. t) (map plain planes)) (erased_plain s m) ∙ r.points)
    (skip (no_volume b (erase m) c) (out_of_world b s (erase m) c ∷ []) [] r.volume (skip (out_of_world b s (erase m) c) [] [] r.world refl)) in
    let is = shape_by_law b s (erase m) c (apply_law b s (erase m) x y right material good (erased_shape m shape) (erased_unlinked m)) passes
    (λ a e. command_law b s (erase m) x y a right material good (erased_shape m shape) (erased_unlinked m) e) (pruned_few m c (own b s m c) most) in
    let new = new_brush_ok m (map (plain_face s m) planes) shape (subst (λ plain. Shape (put_last 0 (Brush 0 None (map plain planes)) (erase m))) (erased_plain s m) is) in
    to_spread m c (own b s m c) shape (named_rooted b s m c shape none)
    (world_result m c (Brush 0 None (map (plain_face s m) planes)) shape refl refl refl refl (λ e. cc) new refl) refl all (one_edited b s m c none) empty most) e

pub hull_keeps : ReshapingRowsLaw → ReshapingApplyLaw → ReshapingCommandLaw → (points : List (List ℤ)) → KeepsWithMaterial (Hull points)
hull_keeps rows_law apply_law command_law points b s m a right material good shape all e =
    let c = Hull points in
    let planes = facets (distinct_points (points_in points)) in
    keeps b s m c a right refl (λ none empty most.
    let passes : first (rows b s (erase m) c) ≡ None = rows_law b s (erase m) c refl (erased_unlinked m) ∙ ap first (rows_erased b s m c refl) ∙ reshaping_pass b s m c refl none in
    let is = shape_by_law b s (erase m) c (apply_law b s (erase m) c right material refl good tt (erased_shape m shape) (erased_unlinked m)) passes
    (λ a e. command_law b s (erase m) c a right material refl good tt (erased_shape m shape) (erased_unlinked m) e) (pruned_few m c (own b s m c) most) in
    let new = new_brush_ok m (map (plain_face s m) planes) shape (subst (λ plain. Shape (put_last 0 (Brush 0 None (map plain planes)) (erase m))) (erased_plain s m) is) in
    to_spread m c (own b s m c) shape (named_rooted b s m c shape none)
    (world_result m c (Brush 0 None (map (plain_face s m) planes)) shape refl refl refl refl (λ e. cc) new refl) refl all (one_edited b s m c none) empty most) e
