use Rattle.std.proofs.Common.{◌++◌, ◌<◌, ap, refl, true, false, sym, subst, ◌∙◌}
use Rattle.std.specs.Option.{option_map}
use Rattle.algebra.specs.Members.{Every}
use Rattle.solid_brush.specs.declared.side.Side.{Side}
use Rattle.solid_brush.specs.Sides.{HaveTags}
use Rattle.solid_brush.specs.Blocks.{IsTrimmedTo}
use Rattle.csg_ops.specs.Hollows.{is_box, inner_box}
use Rattle.csg_ops.proofs.MovedPlanes.{thickness_kept}
use Rattle.csg_ops.proofs.Hollows.{hollow_tags, axes_of_box, few_walls, some_inner, none_thick, told_box}
use Rattle.csg_ops.proofs.ShortSides.{thick_short, long_common}
use Rattle.csg_ops.proofs.Pieces.{has_pieces, none_carved, remainder_of}
use Rattle.csg_ops.proofs.hollowing.hollow.Goals as goal

pub returns-then-not-is_box-clause-fault : goal.returns-then-not-is_box-clause-fault
returns-then-not-is_box-clause-fault c = told_box c.args.a.now c.sides-sides.result.now c.is_box.result c.sides-sides.ensures.sides c.is_box.ensures false c.if-not-is_box.true

pub inner_box-requires-clause-along : goal.inner_box-requires-clause-along
inner_box-requires-clause-along c = axes_of_box c.sides-sides.result.now (sym c.is_box.ensures ∙ c.if-not-is_box.false)

pub inner_box-requires-clause-small : goal.inner_box-requires-clause-small
inner_box-requires-clause-small c = subst (Every (λ s. s.tag < 1073741824)) (sym c.sides-sides.ensures.sides) c.requires.tags

pub returns-in_default-clause-fault : goal.returns-in_default-clause-fault
returns-in_default-clause-fault c = (
  told_box c.args.a.now c.sides-sides.result.now c.is_box.result c.sides-sides.ensures.sides c.is_box.ensures true c.if-not-is_box.false,
  thick_short c.args.thickness c.args.a.now c.requires.thickness c.sides-sides.ensures.solid (told_box c.args.a.now c.sides-sides.result.now c.is_box.result c.sides-sides.ensures.sides c.is_box.ensures true c.if-not-is_box.false)
      (none_thick c.args.thickness _ c.args.a.now c.sides-sides.result.now (option_map (λ sides. sides.items) c.in_ok-inner.field-0) (thickness_kept c.args.thickness c.requires.thickness) c.sides-sides.ensures.sides c.sides-sides.ensures.solid c.in_ok-inner.ensures (ap (option_map (λ sides. sides.items)) c.in_default.is)),
)

pub carve-requires : goal.carve-requires
carve-requires c =
    let inner = c.deref.ensures.value ∙ some_inner c.args.thickness _ c.args.a.now c.sides-sides.result.now (option_map (λ sides. sides.items) c.in_ok-inner.field-0) c.in-Some.inner.items (thickness_kept c.args.thickness c.requires.thickness) c.sides-sides.ensures.sides c.in_ok-inner.ensures (ap (option_map (λ sides. sides.items)) c.in-Some.is) in record {
      block = subst (λ l. IsTrimmedTo l c.in_ok-block.block) (sym c.in_ok-block.ensures.same) c.in_ok-block.ensures.trimmed;
      tags = subst (λ s. HaveTags (c.in_ok-block.block ++ s)) (sym inner) (subst (λ l. HaveTags (l ++ inner_box c.args.thickness c.args.a.now)) (sym c.in_ok-block.ensures.same) (hollow_tags c.args.thickness c.args.a.now c.sides-sides.ensures.solid.tags c.requires.tags));
    }

pub returns-in_default-2-clause-fault : goal.returns-in_default-2-clause-fault
returns-in_default-2-clause-fault c =
    let inner = c.deref.ensures.value ∙ some_inner c.args.thickness _ c.args.a.now c.sides-sides.result.now (option_map (λ sides. sides.items) c.in_ok-inner.field-0) c.in-Some.inner.items (thickness_kept c.args.thickness c.requires.thickness) c.sides-sides.ensures.sides c.in_ok-inner.ensures (ap (option_map (λ sides. sides.items)) c.in-Some.is) in (
      told_box c.args.a.now c.sides-sides.result.now c.is_box.result c.sides-sides.ensures.sides c.is_box.ensures true c.if-not-is_box.false,
      thick_short c.args.thickness c.args.a.now c.requires.thickness c.sides-sides.ensures.solid (told_box c.args.a.now c.sides-sides.result.now c.is_box.result c.sides-sides.ensures.sides c.is_box.ensures true c.if-not-is_box.false)
          (none_carved c.in_ok-block.block c.args.a.now c.deref.result.now (inner_box c.args.thickness c.args.a.now) (option_map (λ blocks. blocks.items) c.in_ok-blocks.field-0) c.in_ok-block.ensures.same inner c.in_ok-blocks.ensures (ap (option_map (λ blocks. blocks.items)) c.in_default-2.is)),
    )

pub few_solids_of-requires : goal.few_solids_of-requires
few_solids_of-requires c =
    let inner = c.deref.ensures.value ∙ some_inner c.args.thickness _ c.args.a.now c.sides-sides.result.now (option_map (λ sides. sides.items) c.in_ok-inner.field-0) c.in-Some.inner.items (thickness_kept c.args.thickness c.requires.thickness) c.sides-sides.ensures.sides c.in_ok-inner.ensures (ap (option_map (λ sides. sides.items)) c.in-Some.is) in
    let p = has_pieces c.in_ok-block.block c.args.a.now c.deref.result.now (inner_box c.args.thickness c.args.a.now) (option_map (λ blocks. blocks.items) c.in_ok-blocks.field-0) c.in-Some-2.blocks.items c.in-Some-2.blocks.items c.in_ok-block.ensures.same inner c.in_ok-blocks.ensures (ap (option_map (λ blocks. blocks.items)) c.in-Some-2.is) refl in
    record { few = few_walls c.args.thickness c.args.a.now c.in-Some-2.blocks.items (told_box c.args.a.now c.sides-sides.result.now c.is_box.result c.sides-sides.ensures.sides c.is_box.ensures true c.if-not-is_box.false) p }

pub returns : goal.returns
returns c =
    let inner = c.deref.ensures.value ∙ some_inner c.args.thickness _ c.args.a.now c.sides-sides.result.now (option_map (λ sides. sides.items) c.in_ok-inner.field-0) c.in-Some.inner.items (thickness_kept c.args.thickness c.requires.thickness) c.sides-sides.ensures.sides c.in_ok-inner.ensures (ap (option_map (λ sides. sides.items)) c.in-Some.is) in
    let p = has_pieces c.in_ok-block.block c.args.a.now c.deref.result.now (inner_box c.args.thickness c.args.a.now) (option_map (λ blocks. blocks.items) c.in_ok-blocks.field-0) c.in-Some-2.blocks.items c.in_ok-few_solids_of.field-0.items c.in_ok-block.ensures.same inner c.in_ok-blocks.ensures (ap (option_map (λ blocks. blocks.items)) c.in-Some-2.is) c.in_ok-few_solids_of.ensures.same in record {
      shape = told_box c.args.a.now c.sides-sides.result.now c.is_box.result c.sides-sides.ensures.sides c.is_box.ensures true c.if-not-is_box.false;
      long = long_common c.args.thickness c.args.a.now c.requires.thickness c.sides-sides.ensures.solid (told_box c.args.a.now c.sides-sides.result.now c.is_box.result c.sides-sides.ensures.sides c.is_box.ensures true c.if-not-is_box.false) p.common;
      common = p.common;
      pieces = p.pieces_are;
      remainder = remainder_of c.args.a.now (inner_box c.args.thickness c.args.a.now) c.in_ok-few_solids_of.field-0.items p;
      solids = c.in_ok-few_solids_of.ensures.solids;
      fault = tt;
    }
