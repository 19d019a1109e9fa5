use Rattle.std.proofs.Common.{ap, ◌∙◌, arith}
use Rattle.map_lex.specs.TokenList.{tokens_left, token_list, AreTokensOf}
use Rattle.map_lex.proofs.Reading.{token_list-are, count_left}
use Rattle.map_lex.proofs.lexer.Tokens.new.Goals as goal

pub returns-clause-tokens : goal.returns-clause-tokens
unfolding token_list
returns-clause-tokens c = ap (tokens_left 1) c.without_mark.ensures.rest

pub returns-clause-cut : goal.returns-clause-cut
unfolding token_list
returns-clause-cut c =
    let whole : AreTokensOf (token_list c.args.text.now) c.args.text.now = token_list-are c.args.text.now in
    (whole.0, whole.1, ap (tokens_left 1) c.without_mark.ensures.rest ∙ whole.2)

pub returns-clause-count : goal.returns-clause-count
returns-clause-count c = omega (arith, count_left 1 c.without_mark.result.now)
