use Rattle.std.proofs.Common.{sym, ◌∙◌}
use Rattle.map_lex.proofs.Reading.{quoted_stray, quoted_clean, open_stray, open_clean}
use Rattle.map_lex.proofs.lexer.quoted.Goals as goal

pub returns-then-has_stray-clause-left : goal.returns-then-has_stray-clause-left
returns-then-has_stray-clause-left c = open_stray c.args.line c.args.text.now _ c.in_default.ensures.open c.line_len.ensures.line (sym c.has_stray.ensures ∙ c.if-has_stray.true)

pub returns-in_default-clause-left : goal.returns-in_default-clause-left
returns-in_default-clause-left c = open_clean c.args.line c.args.text.now _ c.in_default.ensures.open c.line_len.ensures.line (sym c.has_stray.ensures ∙ c.if-has_stray.false)

pub returns-then-has_stray-2-clause-left : goal.returns-then-has_stray-2-clause-left
returns-then-has_stray-2-clause-left c =
    let found = c.in-Some.ensures.found in quoted_stray c.args.line c.args.text.now _ found.0 found.1 (sym c.has_stray-2.ensures ∙ c.if-has_stray-2.true)

pub returns-clause-left : goal.returns-clause-left
returns-clause-left c =
    let found = c.in-Some.ensures.found in quoted_clean c.args.line c.args.text.now _ found.0 found.1 (sym c.has_stray-2.ensures ∙ c.if-has_stray-2.false)
