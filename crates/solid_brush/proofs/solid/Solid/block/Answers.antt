use Rattle.std.proofs.Common.{map, subst}
use Rattle.solid_brush.specs.Cutting.{untagged}
use Rattle.solid_brush.specs.Blocks.{IsTrimmedTo}
use Rattle.solid_brush.proofs.Blocks.{trimmed_self}
use Rattle.solid_brush.proofs.Meeting.{block_of_solid, block_is}
use Rattle.solid_brush.proofs.solid.Solid.block.Goals as goal

pub invariant_of-result : goal.invariant_of-result
invariant_of-result c = block_of_solid c.self.inside.sides.items c.self.inside.poly c.in_ok-copy.field-0 c.self.invariant c.in_ok-copy.ensures.equal

pub returns : goal.returns
returns c =
    let is = block_is c.self.inside.sides.items c.self.inside.poly c.in_ok-copy.field-0 c.args.self.now c.self.invariant c.in_ok-copy.ensures.equal c.self.view_is in record {
      same = is;
      trimmed = subst (λ l. IsTrimmedTo l (map untagged c.in_ok-copy.field-0)) is
          (trimmed_self c.in_ok-copy.field-0 (block_of_solid c.self.inside.sides.items c.self.inside.poly c.in_ok-copy.field-0 c.self.invariant c.in_ok-copy.ensures.equal));
    }
