use Rattle.std.proofs.Common.{◌≡◌, ◌+◌, sym, subst, arith}
use Rattle.exact_geom.specs.Planes.{vector}
use Rattle.map_model.specs.Tree.{whole}
use Rattle.tree_session.specs.Picks.{IsNearest}
use Rattle.tree_session.proofs.Picks.{begins, one_more}
use Rattle.tree_session.proofs.picking.first_met.Goals as goal

pub loop-node-init : goal.loop-node-init
loop-node-init c = (begins (whole c.args.map.now) (vector c.args.from) (vector c.args.to), omega arith)

pub loop-node-preserved : goal.loop-node-preserved
loop-node-preserved c =
    let m = whole c.args.map.now in
    let a = vector c.args.from in
    let b = vector c.args.to in
    let k = c.loop-node.node in (
      subst (IsNearest m a b (k + 1)) (sym c.earliest-best.ensures) (one_more m a b k c.loop-node.best c.hit_at-hit.result c.loop-node.invariant.0 c.hit_at-hit.ensures),
      omega (arith, c.loop-node-test.true, c.next-node-end.ensures),
    )

pub returns : goal.returns
returns c =
    let m = whole c.args.map.now in
    let end : c.loop-node.node ≡ c.args.map.now.next = omega (arith, c.loop-node-test.false, c.loop-node.invariant.1, c.next-node-end.ensures) in
    subst (λ k. IsNearest m (vector c.args.from) (vector c.args.to) k c.loop-node.best) end c.loop-node.invariant.0
