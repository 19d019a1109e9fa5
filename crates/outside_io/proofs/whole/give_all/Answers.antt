use Rattle.std.proofs.Common.{◌+◌, ◌<◌, length, take, drop, ap, sym, ◌∙◌, subst, arith, length-drop, take-add, pos_of_ne-zero}
use Rattle.outside_io.specs.Moved.{Grew}
use Rattle.outside_io.proofs.Grown.{Grew-then, rest_after}
use Rattle.outside_io.proofs.whole.give_all.Goals as goal

pub loop-rest-preserved : goal.loop-rest-preserved
loop-rest-preserved g c =
    let i = c.loop-rest.invariant in
    let e = c.in_ok-n.ensures in
    let bytes = c.args.bytes.now in
    let given : Grew (g.R.Sink.given c.loop-rest.sink) (g.R.Sink.given c.give.new.self) (take c.in_ok-n.n (drop i.0.0 bytes)) =
    subst (λ l. Grew (g.R.Sink.given c.loop-rest.sink) (g.R.Sink.given c.give.new.self) (take c.in_ok-n.n l)) i.0.2 e.bytes in
    let some : 0 < c.in_ok-n.n = pos_of_ne-zero c.if-n-eq0.false in (
      (
        i.0.0 + c.in_ok-n.n,
        omega (arith, ap length i.0.2, length-drop i.0.0 bytes, e.within, i.0.1),
        rest_after bytes c.loop-rest.rest.now i.0.0 c.in_ok-n.n i.0.2,
        subst (λ l. Grew (g.R.Sink.given c.args.sink.now) (g.R.Sink.given c.give.new.self) l) (sym (take-add i.0.0 c.in_ok-n.n bytes))
            (Grew-then _ _ _ _ _ i.0.3 given),
      ),
      e.quiet some ∙ i.1,
    )
