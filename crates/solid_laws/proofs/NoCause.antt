-- A list whose trimmed list is a valid brush is refused for no cause.
use Rattle.std.proofs.Common.{ap, length, arith}
use Rattle.trim_laws.specs.Valid.{is_no_volume, is_out_of_world, is_too_many}
use Rattle.trim_laws.proofs.Bearing.{in_of_inside}
use Rattle.trim_laws.proofs.Trimmed.{trim_back}
use Rattle.trim_laws.proofs.Once.{trim_unique}
use Rattle.trim_laws.proofs.Cause.{in_reach}
use Rattle.solid_laws.specs.Laws.{NoCauseOfTrimLaw}

pub no_cause_of_trim : NoCauseOfTrimLaw
no_cause_of_trim F G o c r i t v (is_no_volume n) = n o (in_reach o i.weight (v.within o (trim_back F G o t (in_of_inside i)))) i
no_cause_of_trim F G o c r i t v (is_out_of_world k e) = e.outside (v.within e.at (trim_back F G e.at t e.is_in))
no_cause_of_trim F G o c r i t v (is_too_many k l n) =
    let e = ap length (trim_unique F n.kept G n.trim t) in let a = n.count in let b = n.above in let d = v.most in absurd (omega arith)
