use Rattle.std.proofs.Common.{◌+◌, ◌++◌, ◌∷◌, [], ap, sym, ◌∙◌}
use Rattle.brush_plans.proofs.Sides.{sides_more}
use Rattle.brush_plans.proofs.bodies.sides_of.Goals as goal

pub loop-face-preserved : goal.loop-face-preserved
loop-face-preserved c =
    let i = c.loop-face.invariant in
    record {
      place = ap (λ n. n + 1) i.place;
      sides = c.in_ok-push.ensures.items ∙ (λ j. i.sides j ++ record { plane = c.face-item.result.plane; tag = i.place j } ∷ [])
          ∙ sym (sides_more c.args.faces.now c.loop-face.face-index c.face-item.result c.loop-face-test.true c.face-item.is);
    }
