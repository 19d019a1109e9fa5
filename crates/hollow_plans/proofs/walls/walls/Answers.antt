use Rattle.std.proofs.Common.{◌≡◌, Some, refl, false, true≢false, sym, subst, ap, ◌∙◌, ◌^◌, ◌<◌, map, ◌+ℤ◌, w32}
use Rattle.std.proofs.lemmas.Int.{to_z-of_z}
use Rattle.algebra.specs.Members.{Every}
use Rattle.piece_laws.specs.Pieces.{ArePieces}
use Rattle.solid_brush.specs.Sides.{bounds, half_spaces}
use Rattle.csg_ops.specs.Cuts.{reversed}
use Rattle.csg_ops.specs.Hollows.{is_box, inner_box, HasShortSide}
use Rattle.map_model.specs.Replies.{Thick}
use Rattle.cut_plans.specs.Told.{IsTold, faces_of}
use Rattle.hollow_plans.proofs.BoxTests.{box_sides}
use Rattle.hollow_plans.proofs.BoxWalls.{small_tags, solids_told, have_walls}
use Rattle.hollow_plans.proofs.ShortSides.{thick_row}
use Rattle.hollow_plans.proofs.walls.walls.Goals as goal

pub hollow-requires-clause-tags : goal.hollow-requires-clause-tags
hollow-requires-clause-tags c = subst (Every (λ s. s.tag < 2 ^ 30)) (sym c.solid.ensures.sides) (small_tags c.args.body.now c.is_valid.ensures)

pub bodies-requires : goal.bodies-requires
bodies-requires c = record {
  told = subst (Every (Every (IsTold (2 ^ 30) c.args.body.now c.args.body.now))) (sym c.deref.ensures.value)
      (solids_told (2 ^ 30) refl c.args.thickness c.args.body.now c.is_valid.ensures c.requires.proper c.in-Ok.solids.items
      (subst (λ l. ArePieces bounds reversed l (inner_box c.args.thickness l) c.in-Ok.solids.items) c.solid.ensures.sides
      (subst (λ t. ArePieces bounds reversed c.solid.result.now (inner_box t c.solid.result.now) c.in-Ok.solids.items) (to_z-of_z w32 c.args.thickness c.ranges.thickness) c.in-Ok.ensures.pieces)));
}

pub returns-in_ok-bodies-in-Ok : goal.returns-in_ok-bodies-in-Ok
returns-in_ok-bodies-in-Ok c =
    have_walls (2 ^ 30) refl c.args.thickness c.args.body.now c.is_valid.ensures c.requires.proper c.in-Ok.solids.items
    (subst (λ l. ArePieces bounds reversed l (inner_box c.args.thickness l) c.in-Ok.solids.items) c.solid.ensures.sides
    (subst (λ t. ArePieces bounds reversed c.solid.result.now (inner_box t c.solid.result.now) c.in-Ok.solids.items) (to_z-of_z w32 c.args.thickness c.ranges.thickness) c.in-Ok.ensures.pieces))
    c.args.id c.in_ok-bodies-in-Ok.field-0 c.requires.boxed
    (subst (λ l. ¬ (HasShortSide (c.args.thickness +ℤ c.args.thickness) (half_spaces l))) c.solid.ensures.sides
    (subst (λ t. ¬ (HasShortSide (t +ℤ t) (half_spaces c.solid.result.now))) (to_z-of_z w32 c.args.thickness c.ranges.thickness) c.in-Ok.ensures.long))
    (c.in_ok-bodies-in-Ok.ensures ∙ ap (map (faces_of (2 ^ 30) c.args.body.now c.args.body.now)) c.deref.ensures.value)

pub unreachable-requires : goal.unreachable-requires
unreachable-requires c =
    let no_box = rw c.in-Err-NotBox.field-0-is at c.in-Err-NotBox.ensures.fault in
    true≢false (sym (box_sides c.args.body.now c.requires.boxed) ∙ subst (λ l. is_box l ≡ false) c.solid.ensures.sides no_box)

pub returns-in-Err-Thick : goal.returns-in-Err-Thick
returns-in-Err-Thick c = λ b right.
    let thick = rw c.in-Err-Thick.field-0-is at c.in-Err-Thick.ensures.fault in
    thick_row c.args.body.now c.is_valid.ensures c.requires.boxed b right c.args.thickness c.args.id
    (subst (λ l. HasShortSide (c.args.thickness +ℤ c.args.thickness) (half_spaces l)) c.solid.ensures.sides
    (subst (λ t. HasShortSide (t +ℤ t) (half_spaces c.solid.result.now)) (to_z-of_z w32 c.args.thickness c.ranges.thickness) thick.1))
    ∙ ap (λ n. Some (Thick n)) (sym c.number.ensures)
