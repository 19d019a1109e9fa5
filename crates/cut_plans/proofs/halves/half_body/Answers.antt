use Rattle.std.proofs.Common.{◌≡◌, ◌++◌, Some, refl, length, ap, sym, subst, ◌∙◌, arith, true≢false}
use Rattle.std.specs.Prelude.{is_some}
use Rattle.algebra.specs.Members.{Every}
use Rattle.map_nodes.specs.Seen.{sides_of}
use Rattle.map_model.specs.Replies.{TooManyFaces}
use Rattle.cut_plans.specs.Told.{faces_of, IsTold}
use Rattle.cut_plans.proofs.OneSide.{few_faces, not_none, left_solid, left_told, result_is, overfull_is}
use Rattle.cut_plans.proofs.halves.half_body.Goals as goal

pub unreachable-requires : goal.unreachable-requires
unreachable-requires c =
    let e = not_none c.args.body.now c.args.new.now c.in_ok-block.field-0 c.is_valid.ensures c.in_ok-block.ensures.proper c.in_ok-block.ensures.left c.requires.some in
    true≢false (sym e ∙ ap is_some c.in_default.is)

pub overflow_cast-old : goal.overflow_cast-old
overflow_cast-old c = let few = few_faces c.args.body.now c.is_valid.ensures in let e = ap length c.faces-old.ensures.faces in omega arith

pub body_of_solid-requires : goal.body_of_solid-requires
body_of_solid-requires c =
    let t = left_solid (sides_of (c.args.body.now ++ c.args.new.now)) c.in_ok-block.field-0 c.in-Some.block c.in-Ok.solid c.in_ok-block.ensures.left c.in-Some.is c.in-Ok.ensures.same in
    subst (λ l. Every (IsTold (length l) l c.args.new.now) c.in-Ok.solid) (sym c.faces-old.ensures.faces) (left_told c.args.body.now c.args.new.now c.in-Ok.solid t)

pub returns-in_ok-body_of_solid-in-Ok : goal.returns-in_ok-body_of_solid-in-Ok
returns-in_ok-body_of_solid-in-Ok c =
    let t = left_solid (sides_of (c.args.body.now ++ c.args.new.now)) c.in_ok-block.field-0 c.in-Some.block c.in-Ok.solid c.in_ok-block.ensures.left c.in-Some.is c.in-Ok.ensures.same in
    result_is c.args.id c.args.body.now c.args.new.now c.in_ok-body_of_solid-in-Ok.field-0 c.in-Ok.solid c.is_valid.ensures t c.in-Ok.ensures.solid
    (c.in_ok-body_of_solid-in-Ok.ensures ∙ (λ i. faces_of (length (c.faces-old.ensures.faces i)) (c.faces-old.ensures.faces i) c.args.new.now c.in-Ok.solid))

pub returns-in-Err-TooManyFaces : goal.returns-in-Err-TooManyFaces
returns-in-Err-TooManyFaces c = λ b right.
    let t = left_solid (sides_of (c.args.body.now ++ c.args.new.now)) c.in_ok-block.field-0 c.in-Some.block c.in-Some.block c.in_ok-block.ensures.left c.in-Some.is refl in
    let count : c.in-Err-TooManyFaces.count ≡ c.from.result = omega (arith, c.from.ensures, c.in-Err-TooManyFaces.count-is) in
    let many = rw c.in-Err-TooManyFaces.field-0-is at c.in-Err-TooManyFaces.ensures.fault in
    overfull_is c.args.id c.in-Err-TooManyFaces.count c.args.body.now c.args.new.now c.in-Some.block c.is_valid.ensures t many.0 many.1 b right
    ∙ (λ i. Some (TooManyFaces (sym c.number.ensures i) (count i)))
