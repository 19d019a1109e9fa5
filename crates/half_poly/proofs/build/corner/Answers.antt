use Rattle.std.proofs.Common.{refl, arith}
use Rattle.half_poly.proofs.Making.{same_value}
use Rattle.half_poly.proofs.Corners.{corner_is}
use Rattle.half_poly.proofs.build.corner.Goals as goal

pub returns : goal.returns
returns c = λ l. corner_is c.args.number c.in_ok-a.a c.in_ok-b.b c.in_ok-c.c c.meet.result l
    (same_value refl (c.in_ok-a.ensures (omega arith))) (same_value refl (c.in_ok-b.ensures (omega arith))) (same_value refl (c.in_ok-c.ensures (omega arith)))
    c.meet.ensures.none.0 c.meet.ensures.some
