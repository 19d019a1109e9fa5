use Rattle.uv_lock.proofs.Directions.{winner_gives_axes}
use Rattle.uv_lock.proofs.axes.base_axes_law.Goals as goal

pub returns : goal.returns
returns c = winner_gives_axes
