use Rattle.std.proofs.Common.{ap, sym, ◌∙◌, Some, Err, arith, option_map}
use Rattle.map_model.specs.Replies.{kept, LockOffset}
use Rattle.map_model.proofs.KeptFractions.{kept_law}
use Rattle.tree_ops.specs.Passing.{passes}
use Rattle.edit_ops.specs.Moving.{lost_of}
use Rattle.edit_ops.proofs.FaceLoops.{stopped_face, passed_face, passed_faces}
use Rattle.edit_ops.proofs.faces.lost.Goals as goal

pub loop-place-preserved : goal.loop-place-preserved
loop-place-preserved c =
    passed_face (lost_of c.args.motion.now c.args.id) c.args.faces.now c.loop-place.place c.index-faces-place.result (omega arith) c.index-faces-place.is c.loop-place.invariant
    (ap (option_map (λ offset. LockOffset c.args.id c.loop-place.place (kept offset))) (sym c.in-None.ensures))

pub returns-in-Some : goal.returns-in-Some
returns-in-Some c =
    ap (λ n. Err (LockOffset n c.loop-place.place c.in-Some.offset)) c.number.ensures
    ∙ ap passes (sym (stopped_face (lost_of c.args.motion.now c.args.id) c.args.faces.now c.loop-place.place c.index-faces-place.result (omega arith) c.index-faces-place.is c.loop-place.invariant
    (LockOffset c.args.id c.loop-place.place c.in-Some.offset)
    (ap (option_map (λ offset. LockOffset c.args.id c.loop-place.place (kept offset))) (sym c.in-Some.ensures) ∙ ap (λ k. Some (LockOffset c.args.id c.loop-place.place k)) (kept_law c.in-Some.offset))))

pub returns : goal.returns
returns c = ap passes (sym (passed_faces (lost_of c.args.motion.now c.args.id) c.args.faces.now c.loop-place.place (omega arith) c.loop-place.invariant))
