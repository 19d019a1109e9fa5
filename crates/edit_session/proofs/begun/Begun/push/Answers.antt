use Rattle.std.proofs.Common.{ap, ◌∙◌, ◌∷◌, ◌++◌, [], take, arith, length, length-take}
use Rattle.edit_session.proofs.Held.{held_more, held_full}
use Rattle.edit_session.proofs.begun.Begun.push.Goals as goal

pub returns-then-self-lt-HELD : goal.returns-then-self-lt-HELD
returns-then-self-lt-HELD c =
    held_more c.self.inside.held c.self.inside.len 4097 c.args.byte c.if-self-lt-HELD.true (omega (arith, c.self.invariant, c.self.told))
    ∙ ap (λ l. take 4097 (l ++ c.args.byte ∷ [])) c.self.view_is

pub returns-else-self-lt-HELD : goal.returns-else-self-lt-HELD
returns-else-self-lt-HELD c =
    held_full c.args.self.now 4097 c.args.byte
    (omega (arith, ap length c.self.view_is, length-take c.self.inside.len c.self.inside.held, c.self.told, c.if-self-lt-HELD.false, c.self.invariant))
