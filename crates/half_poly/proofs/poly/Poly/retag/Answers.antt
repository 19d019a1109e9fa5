use Rattle.half_poly.proofs.Copying.{room_all, retagged_sides, retagged_poly}
use Rattle.half_poly.proofs.poly.Poly.retag.Goals as goal

pub retag_all-requires : goal.retag_all-requires
retag_all-requires c = record { room = room_all c.self.invariant c.args.base c.args.self.now c.self.view_is c.requires.room }

pub invariant_of-self : goal.invariant_of-self
invariant_of-self c = retagged_poly c.self.invariant c.args.base c.args.self.now c.self.view_is c.requires.room c.retag_all.new.faces c.retag_all.ensures

pub returns : goal.returns
returns c = record { tags = retagged_sides c.self.invariant c.args.base c.args.self.now c.self.view_is c.requires.room c.retag_all.new.faces c.retag_all.ensures }
