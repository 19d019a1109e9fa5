use Rattle.std.proofs.Common.{arith}
use Rattle.half_arena.proofs.SlotLaws.{live_within}
use Rattle.half_arena.proofs.arena.Arena.place_limit.Goals as goal

pub returns-clause-above : goal.returns-clause-above
returns-clause-above g c =
    rw (← c.self.view_is) (λ place live.
    omega (arith, live_within (record { slots = c.self.inside.slab.slots; spare = c.self.inside.spare }) place live, c.capacity.ensures.slots))
