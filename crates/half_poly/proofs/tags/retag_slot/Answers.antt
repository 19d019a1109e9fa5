use Rattle.std.proofs.Common.{◌≡◌, Some, rules}
use Rattle.half_arena.specs.Slots.{contents}
use Rattle.half_poly.proofs.Retagging.{retag_here, retag_others}
use Rattle.half_poly.proofs.tags.retag_slot.Goals as goal

pub returns-in-Some-clause-here : goal.returns-in-Some-clause-here
returns-in-Some-clause-here c =
    let i : c.at-id.result.0 ≡ c.args.place = search rules in
    let e : contents c.args.faces.now c.args.place ≡ Some c.in-Some.face = search rules in
    retag_here c.args.base (contents c.args.faces.now) (contents c.write.new.arena) c.args.place c.at-id.result.0 c.in-Some.face c.retagged.result i e c.retagged.ensures c.write.ensures

pub returns-in-Some-clause-others : goal.returns-in-Some-clause-others
returns-in-Some-clause-others c =
    let i : c.at-id.result.0 ≡ c.args.place = search rules in
    let e : contents c.args.faces.now c.args.place ≡ Some c.in-Some.face = search rules in
    retag_others c.args.base (contents c.args.faces.now) (contents c.write.new.arena) c.args.place c.at-id.result.0 c.in-Some.face c.retagged.result i e c.retagged.ensures c.write.ensures
