use Rattle.hull_plans.proofs.corners.add.Goals as goal

pub returns : goal.returns
returns c = c.in_ok-extend_from_slice.ensures.items
