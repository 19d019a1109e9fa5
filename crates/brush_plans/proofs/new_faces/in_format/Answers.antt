use Rattle.brush_plans.proofs.Plain.{written_out}
use Rattle.brush_plans.proofs.new_faces.in_format.Goals as goal

pub returns-in-Some : goal.returns-in-Some
returns-in-Some c = written_out c.args.face c.in-Some.tex c.args.format c.in-Valve.is c.requires.plain c.in-Some.ensures
