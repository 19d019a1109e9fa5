use Rattle.orient48.specs.Orients.{matrix_of}
use Rattle.uv_lock.proofs.Sums.{turned_kept}
use Rattle.uv_lock.proofs.carrying.turned_axis.Goals as goal

pub invariant_of-result : goal.invariant_of-result
invariant_of-result c =
    (turned_kept (matrix_of c.args.orient) c.apply.result c.x.inside.0 c.y.inside.0 c.z.inside.0 c.apply.ensures.signed c.x.invariant c.y.invariant c.z.invariant c.apply.ensures.turned).x

pub invariant_of-result-2 : goal.invariant_of-result-2
invariant_of-result-2 c =
    (turned_kept (matrix_of c.args.orient) c.apply.result c.x.inside.0 c.y.inside.0 c.z.inside.0 c.apply.ensures.signed c.x.invariant c.y.invariant c.z.invariant c.apply.ensures.turned).y

pub invariant_of-result-3 : goal.invariant_of-result-3
invariant_of-result-3 c =
    (turned_kept (matrix_of c.args.orient) c.apply.result c.x.inside.0 c.y.inside.0 c.z.inside.0 c.apply.ensures.signed c.x.invariant c.y.invariant c.z.invariant c.apply.ensures.turned).z
