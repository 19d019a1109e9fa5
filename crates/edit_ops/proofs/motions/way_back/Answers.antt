use Rattle.std.proofs.Common.{◌≡◌, true, get_or, pos, sym, subst}
use Rattle.exact_geom.specs.Planes.{parts}
use Rattle.orient48.specs.Kept.{vector_in}
use Rattle.orient48.specs.Orients.{matrix_of}
use Rattle.orient48.specs.Motions.{is_short}
use Rattle.edit_ops.proofs.WaysBack.{IsTurned, is_turned, near, near_part, near_x, near_y, near_z, way_is, way_short}
use Rattle.edit_ops.proofs.motions.way_back.Goals as goal

pub difference-requires-clause-a : goal.difference-requires-clause-a
difference-requires-clause-a c = near_part (get_or c.args.point 0 (pos 0)) (near c.args.point c.requires).x

pub difference-requires-clause-b : goal.difference-requires-clause-b
difference-requires-clause-b c =
    near_x (matrix_of c.args.orient) (vector_in c.args.point) c.apply.result
    (is_turned (matrix_of c.args.orient) c.args.point c.apply.result c.from.result c.from-2.result c.from-3.result c.requires c.apply.ensures.signed c.from.ensures c.from-2.ensures c.from-3.ensures c.apply.ensures.turned)

pub difference-requires-2-clause-a : goal.difference-requires-2-clause-a
difference-requires-2-clause-a c = near_part (get_or c.args.point 1 (pos 0)) (near c.args.point c.requires).y

pub difference-requires-2-clause-b : goal.difference-requires-2-clause-b
difference-requires-2-clause-b c =
    near_y (matrix_of c.args.orient) (vector_in c.args.point) c.apply.result
    (is_turned (matrix_of c.args.orient) c.args.point c.apply.result c.from.result c.from-2.result c.from-3.result c.requires c.apply.ensures.signed c.from.ensures c.from-2.ensures c.from-3.ensures c.apply.ensures.turned)

pub difference-requires-3-clause-a : goal.difference-requires-3-clause-a
difference-requires-3-clause-a c = near_part (get_or c.args.point 2 (pos 0)) (near c.args.point c.requires).z

pub difference-requires-3-clause-b : goal.difference-requires-3-clause-b
difference-requires-3-clause-b c =
    near_z (matrix_of c.args.orient) (vector_in c.args.point) c.apply.result
    (is_turned (matrix_of c.args.orient) c.args.point c.apply.result c.from.result c.from-2.result c.from-3.result c.requires c.apply.ensures.signed c.from.ensures c.from-2.ensures c.from-3.ensures c.apply.ensures.turned)

pub returns-clause-back : goal.returns-clause-back
returns-clause-back c =
    way_is (matrix_of c.args.orient) c.args.point c.apply.result c.difference.result c.difference-2.result c.difference-3.result c.requires
    (is_turned (matrix_of c.args.orient) c.args.point c.apply.result c.from.result c.from-2.result c.from-3.result c.requires c.apply.ensures.signed c.from.ensures c.from-2.ensures c.from-3.ensures c.apply.ensures.turned)
    c.difference.ensures c.difference-2.ensures c.difference-3.ensures

pub returns-clause-short : goal.returns-clause-short
returns-clause-short c =
    let t = is_turned (matrix_of c.args.orient) c.args.point c.apply.result c.from.result c.from-2.result c.from-3.result c.requires c.apply.ensures.signed c.from.ensures c.from-2.ensures c.from-3.ensures c.apply.ensures.turned in
    subst (λ v. is_short v ≡ true)
    (sym (way_is (matrix_of c.args.orient) c.args.point c.apply.result c.difference.result c.difference-2.result c.difference-3.result c.requires t c.difference.ensures c.difference-2.ensures c.difference-3.ensures))
    (way_short (matrix_of c.args.orient) c.args.point c.apply.result c.requires t)
