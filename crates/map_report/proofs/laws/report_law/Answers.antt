use Rattle.map_report.proofs.Beginnings.{none_says}
use Rattle.map_report.proofs.laws.report_law.Goals as goal

pub returns : goal.returns
returns c = none_says
