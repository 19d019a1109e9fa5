use Rattle.std.specs.Prelude.{not}
use Rattle.std.proofs.Common.{ap, ◌∙◌, Err}
use Rattle.map_model.specs.Tree.{whole, faces_at}
use Rattle.map_model.specs.Brushes.{is_box}
use Rattle.map_model.specs.Replies.{NotBox}
use Rattle.tree_ops.proofs.RowLoops.{refused_at, passed_one, passed_all, refused_where, passed_where}
use Rattle.brush_plans.proofs.Lists.{is_member}
use Rattle.hollow_plans.proofs.boxes.refuse_other_brushes.Goals as goal

pub body_at-requires : goal.body_at-requires
body_at-requires c = record { brush = c.requires.brushes c.id-item.result (is_member c.args.ids.now c.loop-id.id-index c.id-item.result c.loop-id-test.true c.id-item.is) }

pub loop-id-preserved : goal.loop-id-preserved
loop-id-preserved c = passed_one (λ n. not (is_box (faces_at (whole c.args.map.now) n))) NotBox c.args.ids.now c.loop-id.id-index c.id-item.result c.loop-id-test.true c.id-item.is c.loop-id.invariant
    (passed_where (c.is_box.ensures ∙ ap is_box (c.faces.ensures.faces ∙ c.body_at.ensures)) c.if-not-is_box.false)

pub returns-then-not-is_box : goal.returns-then-not-is_box
returns-then-not-is_box c = ap (λ n. Err (NotBox n)) c.number.ensures ∙ refused_at (λ n. not (is_box (faces_at (whole c.args.map.now) n))) NotBox c.args.ids.now c.loop-id.id-index c.id-item.result
    c.loop-id-test.true c.id-item.is c.loop-id.invariant (refused_where (c.is_box.ensures ∙ ap is_box (c.faces.ensures.faces ∙ c.body_at.ensures)) c.if-not-is_box.true)

pub returns : goal.returns
returns c = passed_all (λ n. not (is_box (faces_at (whole c.args.map.now) n))) NotBox c.args.ids.now c.loop-id.id-index c.loop-id-test.false c.loop-id.invariant
