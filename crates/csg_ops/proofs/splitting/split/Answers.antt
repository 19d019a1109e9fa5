use Rattle.std.proofs.Common.{[], ◌∷◌, ◌++◌, length, ◌≤◌, refl, sym, subst, inl, inr}
use Rattle.solid_brush.specs.Sides.{HaveTags}
use Rattle.solid_brush.specs.Blocks.{IsLeft}
use Rattle.solid_brush.proofs.Meeting.{met_left, none_left, passed_on}
use Rattle.csg_ops.specs.Faults.{split_fault_of}
use Rattle.csg_ops.specs.Cuts.{reversed, IsNotSplitFor}
use Rattle.csg_ops.proofs.Halving.{tags_turned, few_of_solid, back_overfull, front_overfull}
use Rattle.csg_ops.proofs.splitting.split.Goals as goal

pub meet-requires : goal.meet-requires
meet-requires c = record { tags = subst (λ l. HaveTags (l ++ c.args.cut ∷ [])) (sym c.in_ok-block.ensures.same) c.requires.tags }

pub meet-requires-2 : goal.meet-requires-2
meet-requires-2 c = record {
  tags = subst (λ s. HaveTags (c.in_ok-other.other ++ s ∷ [])) (sym c.reversed.ensures)
      (subst (λ l. HaveTags (l ++ reversed c.args.cut ∷ [])) (sym c.in_ok-other.ensures.same) (tags_turned c.args.a.now c.args.cut c.requires.tags));
}

pub returns-in_default-clause-fault : goal.returns-in_default-clause-fault
returns-in_default-clause-fault c = inl (none_left c.in_ok-block.block c.args.a.now (c.args.cut ∷ []) c.in_ok-back.field-0 c.in_ok-block.ensures.same c.in_ok-back.ensures.left c.in_default.is)

pub returns-in_default-2-clause-fault : goal.returns-in_default-2-clause-fault
returns-in_default-2-clause-fault c = inr (none_left c.in_ok-other.other c.args.a.now (reversed c.args.cut ∷ []) c.in_ok-front.field-0 c.in_ok-other.ensures.same
    (subst (λ s. IsLeft (c.in_ok-other.other ++ s ∷ []) c.in_ok-front.field-0) c.reversed.ensures c.in_ok-front.ensures.left) c.in_default-2.is)

pub returns-in_err-solid-clause-fault : goal.returns-in_err-solid-clause-fault
returns-in_err-solid-clause-fault c =
    let back = met_left c.in_ok-block.block c.args.a.now (c.args.cut ∷ []) c.in_ok-back.field-0 c.in-Some.back c.in-Some.back c.in_ok-block.ensures.same c.in_ok-back.ensures.left c.in-Some.is refl in
    let front = met_left c.in_ok-other.other c.args.a.now (reversed c.args.cut ∷ []) c.in_ok-front.field-0 c.in-Some-2.front c.in-Some-2.front c.in_ok-other.ensures.same (subst (λ s. IsLeft (c.in_ok-other.other ++ s ∷ []) c.in_ok-front.field-0) c.reversed.ensures c.in_ok-front.ensures.left) c.in-Some-2.is refl in
    let why = c.in_err-solid.field-0.0 in
    passed_on (IsNotSplitFor c.args.a.now c.args.cut) c.from_residual-in_err-solid.result (split_fault_of why) c.from_residual-in_err-solid.ensures.1
    (back_overfull c.args.a.now c.args.cut back front why c.in_err-solid.ensures.fault)

pub returns-in_err-solid-2-clause-fault : goal.returns-in_err-solid-2-clause-fault
returns-in_err-solid-2-clause-fault c =
    let back = met_left c.in_ok-block.block c.args.a.now (c.args.cut ∷ []) c.in_ok-back.field-0 c.in-Some.back c.in-Some.back c.in_ok-block.ensures.same c.in_ok-back.ensures.left c.in-Some.is refl in
    let front = met_left c.in_ok-other.other c.args.a.now (reversed c.args.cut ∷ []) c.in_ok-front.field-0 c.in-Some-2.front c.in-Some-2.front c.in_ok-other.ensures.same (subst (λ s. IsLeft (c.in_ok-other.other ++ s ∷ []) c.in_ok-front.field-0) c.reversed.ensures c.in_ok-front.ensures.left) c.in-Some-2.is refl in
    let few = subst (λ l. length l ≤ 128) c.in_ok-solid.ensures.same (few_of_solid c.in_ok-solid.ensures.solid) in
    let why = c.in_err-solid-2.field-0.0 in
    passed_on (IsNotSplitFor c.args.a.now c.args.cut) c.from_residual-in_err-solid-2.result (split_fault_of why) c.from_residual-in_err-solid-2.ensures.1
    (front_overfull c.args.a.now c.args.cut back front few why c.in_err-solid-2.ensures.fault)

pub returns : goal.returns
returns c = record {
  back = met_left c.in_ok-block.block c.args.a.now (c.args.cut ∷ []) c.in_ok-back.field-0 c.in-Some.back c.in_ok-solid.field-0 c.in_ok-block.ensures.same c.in_ok-back.ensures.left c.in-Some.is c.in_ok-solid.ensures.same;
  front = met_left c.in_ok-other.other c.args.a.now (reversed c.args.cut ∷ []) c.in_ok-front.field-0 c.in-Some-2.front c.in_ok-solid-2.field-0 c.in_ok-other.ensures.same (subst (λ s. IsLeft (c.in_ok-other.other ++ s ∷ []) c.in_ok-front.field-0) c.reversed.ensures c.in_ok-front.ensures.left) c.in-Some-2.is c.in_ok-solid-2.ensures.same;
  solids = (c.in_ok-solid.ensures.solid, c.in_ok-solid-2.ensures.solid);
  fault = tt;
}
