use Rattle.cut_plans.proofs.PartedPlacing.{Counting}
use Rattle.cut_plans.proofs.subtract_plans.drawn_by.Given as goal

abbrev pub invariant-loop-one : goal.invariant-loop-one
invariant-loop-one l = Counting l.parted l.one-index l.made
