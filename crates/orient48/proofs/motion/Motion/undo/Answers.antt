use Rattle.std.proofs.Common.{◌≡◌, true, ap, ◌∙◌, rules, negsuc}
use Rattle.orient48.specs.Kept.{vector_in}
use Rattle.orient48.specs.Motions.{turned, transposed, back, is_short}
use Rattle.orient48.specs.Orients.{matrix_of}
use Rattle.orient48.proofs.Following.{motion_by}
use Rattle.orient48.proofs.Matrices.{turned_scale}
use Rattle.orient48.proofs.Moves.{minus_short, plus_zero, turned_short}
use Rattle.orient48.proofs.motion.Motion.undo.Goals as goal

pub moved-shift-requires-clause-v : goal.moved-shift-requires-clause-v
moved-shift-requires-clause-v c = ap is_short c.minus.ensures ∙ minus_short (vector_in c.self.inside.shift) c.self.invariant.short

pub invariant_of-result : goal.invariant_of-result
invariant_of-result c =
    let v = vector_in c.minus.result in
    let short : is_short v ≡ true = ap is_short c.minus.ensures ∙ minus_short (vector_in c.self.inside.shift) c.self.invariant.short in
    let m = matrix_of c.inverse-orient.result in
    record {
      three = search rules;
      short = ap is_short (c.moved-shift.ensures.moved ∙ plus_zero (turned m v)) ∙ turned_short m v c.moved-shift.ensures.signed short;
    }

pub returns : goal.returns
returns c =
    let t = vector_in c.self.inside.shift in
    let m = transposed (matrix_of c.self.inside.orient) in
    motion_by c.inverse-orient.ensures.transposed
    (c.moved-shift.ensures.moved ∙ plus_zero (turned (matrix_of c.inverse-orient.result) (vector_in c.minus.result))
    ∙ (λ i. turned (c.inverse-orient.ensures.transposed i) (c.minus.ensures i)) ∙ turned_scale m (negsuc 0) t)
    ∙ ap back c.self.view_is
