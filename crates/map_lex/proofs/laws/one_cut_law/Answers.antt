use Rattle.std.proofs.Common.{sym, ◌∙◌}
use Rattle.map_lex.specs.Pieces.{pieces_of}
use Rattle.map_lex.proofs.Cuts.{pieces_of-cut, pieces_of-only}
use Rattle.map_lex.proofs.Reading.{token_list-are, token_list-only}
use Rattle.map_lex.proofs.laws.one_cut_law.Goals as goal

pub returns-clause-cut : goal.returns-clause-cut
returns-clause-cut c = λ text. (pieces_of text, pieces_of-cut text)

pub returns-clause-only_cut : goal.returns-clause-only_cut
returns-clause-only_cut c = λ text a b first second. pieces_of-only text a first ∙ sym (pieces_of-only text b second)

pub returns-clause-tokens : goal.returns-clause-tokens
returns-clause-tokens c = token_list-are

pub returns-clause-only_tokens : goal.returns-clause-only_tokens
returns-clause-only_tokens c = token_list-only
