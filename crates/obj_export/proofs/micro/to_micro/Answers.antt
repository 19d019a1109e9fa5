use Rattle.obj_export.proofs.Millionths.{all_near}
use Rattle.obj_export.proofs.micro.to_micro.Goals as goal

pub returns-clause-nearest : goal.returns-clause-nearest
returns-clause-nearest c = all_near c.args.v.now c.parts.ensures.vertex.positive
