use Rattle.std.proofs.Common.{rules, sym, subst}
use Rattle.solid_brush.specs.Sides.{HaveTags}
use Rattle.solid_brush.specs.Blocks.{IsBlock}
use Rattle.solid_brush.proofs.Meeting.{sides_is, few_sides, solid_of_block}
use Rattle.solid_brush.proofs.block.Block.solid.Goals as goal

pub overflow_cast-result : goal.overflow_cast-result
overflow_cast-result c =
    let f = few_sides c.in_ok-sides.sides.items (subst HaveTags (sym (sides_is c.in_ok-sides.ensures c.self.view_is)) (subst HaveTags c.self.view_is c.self.invariant.tags)) in
    let l = c.len-then-len-gt-MOST_FACES.ensures in search rules

pub invariant_of-result : goal.invariant_of-result
invariant_of-result c = record {
  solid = solid_of_block (subst IsBlock (sym (sides_is c.in_ok-sides.ensures c.self.view_is)) (subst IsBlock c.self.view_is c.self.invariant)) (let t = c.if-len-gt-MOST_FACES.false in let l = c.len.ensures in search rules);
  same = sym c.in_ok-sides.ensures;
}

pub returns-clause-same : goal.returns-clause-same
returns-clause-same c = sides_is c.in_ok-sides.ensures c.self.view_is

pub returns-clause-solid : goal.returns-clause-solid
returns-clause-solid c = solid_of_block (subst IsBlock (sym (sides_is c.in_ok-sides.ensures c.self.view_is)) (subst IsBlock c.self.view_is c.self.invariant)) (let t = c.if-len-gt-MOST_FACES.false in let l = c.len.ensures in search rules)
