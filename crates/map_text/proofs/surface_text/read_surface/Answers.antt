use Rattle.map_text.proofs.SurfaceTexts.{surface_read}
use Rattle.map_text.proofs.surface_text.read_surface.Goals as goal

pub returns-clause-read : goal.returns-clause-read
returns-clause-read c =
    rw c.surface_from.ensures (surface_read (rw c.in-Some.is at c.in_ok-contents.ensures.read) c.in_ok-flags.ensures.read c.in_ok-value.ensures.read)
