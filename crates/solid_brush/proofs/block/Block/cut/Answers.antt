use Rattle.std.proofs.Common.{◌≡◌, map, not, refl, sym, ap, subst}
use Rattle.algebra.specs.Members.{Every}
use Rattle.solid_brush.specs.Cutting.{untagged}
use Rattle.solid_brush.proofs.Blocks.{new_tag, block_after, is_cut}
use Rattle.solid_brush.proofs.block.Block.cut.Goals as goal

pub cut_poly-requires : goal.cut_poly-requires
cut_poly-requires c = record { new = new_tag c.self.inside.poly c.args.self.now c.args.side.now.tag c.self.view_is c.requires.new }

pub invariant_of-self-2 : goal.invariant_of-self-2
invariant_of-self-2 c = block_after c.self.inside.poly c.cut_poly.new.poly c.args.side.now c.self.invariant c.cut_poly.ensures.proper c.in_ok-cut.cut c.in_ok-cut.ensures.says
    (subst (Every (λ s. ¬ (s.tag ≡ c.args.side.now.tag))) (sym c.self.view_is) c.requires.new) c.requires.small

pub returns-clause-cut : goal.returns-clause-cut
returns-clause-cut c = is_cut c.self.inside.poly c.cut_poly.new.poly c.args.self.now (map untagged c.cut_poly.new.poly) c.args.side.now c.in_ok-cut.cut (not c.is_gone.result) c.self.invariant c.self.view_is refl
    c.cut_poly.ensures.proper c.in_ok-cut.ensures.says (ap not c.is_gone.ensures)
