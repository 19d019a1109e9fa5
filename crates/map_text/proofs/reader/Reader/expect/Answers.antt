use Rattle.map_text.proofs.reader.Reader.expect.Goals as goal

pub returns-then-take_bracket-clause-read : goal.returns-then-take_bracket-clause-read
returns-then-take_bracket-clause-read c = c.take_bracket.ensures.taken c.if-take_bracket.true c.args.what
