use Rattle.std.proofs.Common.{ap, sym, ◌∙◌, Err, arith, option_map}
use Rattle.std.specs.Prelude.{not, is_none}
use Rattle.exact_geom.specs.Planes.{first_out_of_range}
use Rattle.map_model.specs.Faces.{Face}
use Rattle.map_model.specs.Motions.{moved_plane}
use Rattle.map_model.specs.Replies.{PointRange}
use Rattle.tree_ops.specs.Passing.{passes}
use Rattle.edit_ops.proofs.FaceLoops.{found, not_found, none_found}
use Rattle.edit_ops.proofs.faces.beyond.Goals as goal

pub loop-place-preserved : goal.loop-place-preserved
loop-place-preserved c =
    not_found (λ (f : Face). not (is_none (first_out_of_range (moved_plane c.args.motion.now f.plane)))) c.args.faces.now c.loop-place.place c.index-faces-place.result (omega arith) c.index-faces-place.is
    c.loop-place.invariant (sym c.is_beyond.ensures ∙ c.if-is_beyond.false)

pub returns-then-is_beyond : goal.returns-then-is_beyond
returns-then-is_beyond c =
    ap (λ n. Err (PointRange n c.loop-place.place)) c.number.ensures
    ∙ ap (λ o. passes (option_map (PointRange c.args.id) o))
    (sym (found (λ (f : Face). not (is_none (first_out_of_range (moved_plane c.args.motion.now f.plane)))) c.args.faces.now c.loop-place.place c.index-faces-place.result (omega arith) c.index-faces-place.is
    c.loop-place.invariant (sym c.is_beyond.ensures ∙ c.if-is_beyond.true)))

pub returns : goal.returns
returns c =
    ap (λ o. passes (option_map (PointRange c.args.id) o))
    (sym (none_found (λ (f : Face). not (is_none (first_out_of_range (moved_plane c.args.motion.now f.plane)))) c.args.faces.now c.loop-place.place (omega arith) c.loop-place.invariant))
