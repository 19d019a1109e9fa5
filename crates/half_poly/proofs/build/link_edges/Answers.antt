use Rattle.std.proofs.Common.{map}
use Rattle.half_arena.specs.declared.ids.EdgeId.{EdgeId}
use Rattle.half_arena.specs.Slots.{contents}
use Rattle.half_poly.specs.Walls.{cube_edge}
use Rattle.half_poly.proofs.Putting.{writing_none, writing_more, writing_all, written_id}
use Rattle.half_poly.proofs.build.link_edges.Goals as goal

pub loop-edge-init : goal.loop-edge-init
loop-edge-init c = writing_none (map (λ (i : EdgeId). i.0) c.args.ids.now) (cube_edge c.args.corners.now c.args.walls.now c.args.ids.now) (contents c.args.edges.now) 24 c.requires.live

pub loop-edge-preserved : goal.loop-edge-preserved
loop-edge-preserved c =
    writing_more (map (λ (i : EdgeId). i.0) c.args.ids.now) (cube_edge c.args.corners.now c.args.walls.now c.args.ids.now) (contents c.loop-edge.edges) (contents c.write.new.arena) c.loop-edge.edge 24 c.nth-id.result.0 c.half_edge.result
    c.loop-edge.invariant c.loop-edge-test.true (written_id (λ (i : EdgeId). i.0) c.args.ids.now c.loop-edge.edge 24 c.at.result c.nth-id.result c.loop-edge-test.true c.loop-edge.invariant.live.long c.nth-id.ensures)
    (c.half_edge.ensures c.loop-edge-test.true) c.write.ensures

pub returns : goal.returns
returns c = writing_all (map (λ (i : EdgeId). i.0) c.args.ids.now) (cube_edge c.args.corners.now c.args.walls.now c.args.ids.now) (contents c.loop-edge.edges) c.loop-edge.edge 24 c.loop-edge-test.false c.loop-edge.invariant
