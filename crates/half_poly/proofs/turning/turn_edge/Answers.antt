use Rattle.std.proofs.Common.{◌≡◌, Some, rules}
use Rattle.half_arena.specs.Slots.{contents}
use Rattle.half_poly.specs.Turned.{turned}
use Rattle.half_poly.proofs.ChangedSlot.{holds_changed, others_stay}
use Rattle.half_poly.proofs.turning.turn_edge.Goals as goal

pub returns-in-Some-clause-here : goal.returns-in-Some-clause-here
returns-in-Some-clause-here c =
    let i : c.at-id.result.0 ≡ c.args.place = search rules in
    let e : contents c.args.edges.now c.args.place ≡ Some c.in-Some.edge = search rules in
    holds_changed (contents c.args.edges.now) (contents c.write.new.arena) c.args.place c.at-id.result.0 c.in-Some.edge c.turned.result i e c.write.ensures (turned (contents c.args.old.now) c.args.before.now c.args.place) c.turned.ensures

pub returns-in-Some-clause-others : goal.returns-in-Some-clause-others
returns-in-Some-clause-others c =
    let i : c.at-id.result.0 ≡ c.args.place = search rules in
    let e : contents c.args.edges.now c.args.place ≡ Some c.in-Some.edge = search rules in
    others_stay (contents c.args.edges.now) (contents c.write.new.arena) c.args.place c.at-id.result.0 c.in-Some.edge c.turned.result i e c.write.ensures
