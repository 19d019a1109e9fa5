use Rattle.std.proofs.Common.{◌≡◌, Some, map, ap, sym, subst, ◌∙◌, arith}
use Rattle.piece_laws.specs.Pieces.{ArePieces}
use Rattle.solid_brush.specs.Sides.{bounds}
use Rattle.csg_ops.specs.Cuts.{reversed, IsNoDifferenceFor}
use Rattle.map_model.specs.Tree.{whole}
use Rattle.map_model.specs.Replies.{TooManyFaces}
use Rattle.cut_plans.specs.Told.{faces_of}
use Rattle.cut_plans.proofs.PieceResults.{brush_tags, brush_not_apart, brush_told, brush_parted, brush_overfull}
use Rattle.cut_plans.proofs.subtracting.part.Goals as goal

pub subtract-requires : goal.subtract-requires
subtract-requires c = record {
  tags = brush_tags c.body_at-body.result.now c.args.cutter.now.body c.is_valid.ensures c.is_valid-2.ensures c.solid.result.now c.args.cutter.now.solid c.solid.ensures.sides c.requires.cutter;
}

pub piece_bodies-requires : goal.piece_bodies-requires
piece_bodies-requires c =
    brush_told (whole c.args.map.now) c.args.cutter.now.body c.args.id c.body_at-body.result.now c.body_at-body.ensures c.is_valid.ensures c.is_valid-2.ensures c.solid.result.now c.args.cutter.now.solid
    c.solid.ensures.sides c.requires.cutter c.faces.result.now c.faces-in-Ok.result.now c.faces.ensures.faces c.faces-in-Ok.ensures.faces c.deref.result.now
    (subst (ArePieces bounds reversed c.solid.result.now c.args.cutter.now.solid) (sym c.deref.ensures.value) c.in-Ok.ensures.pieces)

pub unreachable-requires : goal.unreachable-requires
unreachable-requires c =
    brush_not_apart (whole c.args.map.now) c.args.cutter.now.body c.args.id c.body_at-body.result.now c.body_at-body.ensures c.is_valid.ensures c.is_valid-2.ensures c.solid.result.now c.args.cutter.now.solid
    c.solid.ensures.sides c.requires.cutter c.requires.some
    (subst (IsNoDifferenceFor c.solid.result.now c.args.cutter.now.solid) c.in-Err-Apart.field-0-is c.in-Err-Apart.ensures.fault)

pub returns-in_ok-pieces-in-Ok : goal.returns-in_ok-pieces-in-Ok
returns-in_ok-pieces-in-Ok c =
    brush_parted (whole c.args.map.now) c.args.cutter.now.body c.args.id c.body_at-body.result.now c.body_at-body.ensures c.is_valid.ensures c.is_valid-2.ensures c.solid.result.now c.args.cutter.now.solid
    c.solid.ensures.sides c.requires.cutter c.faces.result.now c.faces-in-Ok.result.now c.faces.ensures.faces c.faces-in-Ok.ensures.faces c.in-Ok.solids.items c.in_ok-pieces-in-Ok.pieces
    c.in-Ok.ensures.pieces c.in-Ok.ensures.solids (c.in_ok-pieces-in-Ok.ensures ∙ ap (map (faces_of 128 c.faces.result.now c.faces-in-Ok.result.now)) c.deref.ensures.value)

pub returns-in-Err-TooManyFaces : goal.returns-in-Err-TooManyFaces
returns-in-Err-TooManyFaces c = λ b right.
    let count : c.in-Err-TooManyFaces.count ≡ c.from.result = omega (arith, c.from.ensures, c.in-Err-TooManyFaces.count-is) in
    let many = rw c.in-Err-TooManyFaces.field-0-is at c.in-Err-TooManyFaces.ensures.fault in
    brush_overfull (whole c.args.map.now) c.args.cutter.now.body c.args.id c.body_at-body.result.now c.body_at-body.ensures c.is_valid.ensures c.is_valid-2.ensures c.solid.result.now c.args.cutter.now.solid
    c.solid.ensures.sides c.requires.cutter c.in-Err-TooManyFaces.count many b right
    ∙ (λ i. Some (TooManyFaces (sym c.number.ensures i) (count i)))
