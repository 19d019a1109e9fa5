use Rattle.std.proofs.Common.{◌≡◌, ◌≤◌, ◌∷◌, length, None, Ok, Err, ap, sym, subst, ◌∙◌}
use Rattle.algebra.specs.Members.{here, there}
use Rattle.map_model.specs.Tree.{whole}
use Rattle.map_model.specs.Below.{Below, IsRight}
use Rattle.map_model.specs.Rows.{first}
use Rattle.tree_ops.specs.Passing.{passes}
use Rattle.brush_plans.specs.NamedRows.{brush_rows}
use Rattle.brush_plans.specs.Saying.{Says}
use Rattle.brush_plans.proofs.RowLoops.{no_row}
use Rattle.cut_plans.specs.Subtracts.{apart_any, AreParted}
use Rattle.cut_plans.proofs.ClipRows.{are_brushes}
use Rattle.cut_plans.proofs.OneSide.{few_faces}
use Rattle.cut_plans.proofs.SubtractRows.{meet_each, stops_named, stops_apart, subtracts}
use Rattle.cut_plans.proofs.subtract_plans.subtracted.Goals as goal

pub returns-in_err-refuse_brushes : goal.returns-in_err-refuse_brushes
returns-in_err-refuse_brushes c =
    let m = whole c.args.map.now in
    stops_named c.args.set.now m c.args.by c.args.ids.now c.in_err-refuse_brushes.field-0.0 c.from_residual.result c.from_residual.ensures.1
    (sym c.in_err-refuse_brushes.was ∙ c.refuse_brushes.ensures ∙ ap (λ l. passes (first (brush_rows m l))) c.requires.named)

pub cutter_at-requires : goal.cutter_at-requires
cutter_at-requires c =
    let m = whole c.args.map.now in
    let named = c.in_ok-refuse_brushes.ensures ∙ ap (λ l. passes (first (brush_rows m l))) c.requires.named in
    record { brush = are_brushes m (c.args.by ∷ c.args.ids.now) (no_row (first (brush_rows m (c.args.by ∷ c.args.ids.now))) named) c.args.by here }

pub refuse_apart-requires-clause-brushes : goal.refuse_apart-requires-clause-brushes
refuse_apart-requires-clause-brushes c = λ n i.
    let m = whole c.args.map.now in
    let named = c.in_ok-refuse_brushes.ensures ∙ ap (λ l. passes (first (brush_rows m l))) c.requires.named in
    are_brushes m (c.args.by ∷ c.args.ids.now) (no_row (first (brush_rows m (c.args.by ∷ c.args.ids.now))) named) n (there i)

pub returns-in_err-refuse_apart : goal.returns-in_err-refuse_apart
returns-in_err-refuse_apart c =
    let m = whole c.args.map.now in
    let named = c.in_ok-refuse_brushes.ensures ∙ ap (λ l. passes (first (brush_rows m l))) c.requires.named in
    stops_apart c.args.set.now m c.args.by c.args.ids.now named c.in_err-refuse_apart.field-0.0 c.from_residual-in_err-refuse_apart.result c.from_residual-in_err-refuse_apart.ensures.1
    (subst (λ l. Says (apart_any m l c.args.ids.now) (Err c.in_err-refuse_apart.field-0.0)) c.in_ok-cutter.ensures.body c.in_err-refuse_apart.ensures)

pub part_all-requires-clause-brushes : goal.part_all-requires-clause-brushes
part_all-requires-clause-brushes c = λ n i.
    let m = whole c.args.map.now in
    let named = c.in_ok-refuse_brushes.ensures ∙ ap (λ l. passes (first (brush_rows m l))) c.requires.named in
    are_brushes m (c.args.by ∷ c.args.ids.now) (no_row (first (brush_rows m (c.args.by ∷ c.args.ids.now))) named) n (there i)

pub part_all-requires-clause-some : goal.part_all-requires-clause-some
part_all-requires-clause-some c = meet_each (whole c.args.map.now) c.in_ok-cutter.cutter.body c.args.ids.now c.in_ok-refuse_apart.ensures

pub returns : goal.returns
returns c =
    let m = whole c.args.map.now in
    let named = c.in_ok-refuse_brushes.ensures ∙ ap (λ l. passes (first (brush_rows m l))) c.requires.named in
    let body = c.in_ok-cutter.ensures.body in
    subtracts c.args.set.now m c.args.by c.args.ids.now named (subst (λ l. (b : Below) → IsRight b → apart_any m l c.args.ids.now b ≡ None) body c.in_ok-refuse_apart.ensures) c.part_all.result
    (subst (λ l. length l ≤ 128) body (few_faces c.in_ok-cutter.cutter.body c.is_valid.ensures)) (subst (λ l. AreParted m l c.args.ids.now c.part_all.result) body c.part_all.ensures)
