use Rattle.loop_laws.proofs.FaceLoops.{loop_is}
use Rattle.loop_laws.proofs.loop_law.Goals as goal

pub returns : goal.returns
returns c F f V numbers vertices its = loop_is F f V numbers vertices its
