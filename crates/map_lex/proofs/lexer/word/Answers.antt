use Rattle.std.proofs.Common.{ap, ◌∙◌}
use Rattle.std.specs.List.{list_any}
use Rattle.map_lex.specs.Bytes.{is_stray}
use Rattle.map_lex.proofs.Reading.{word_stray, word_clean}
use Rattle.map_lex.proofs.lexer.word.Goals as goal

pub returns-in_default-clause-left : goal.returns-in_default-clause-left
returns-in_default-clause-left c = word_stray c.args.line c.args.text.now c.requires c.in_default.ensures.stray

pub returns-clause-left : goal.returns-clause-left
returns-clause-left c =
    word_clean c.args.line (record { is_front = c.split_at.ensures.front; is_rest = c.split_at.ensures.back }) c.requires c.in-Some.ensures.word.1
    (ap (list_any is_stray) c.split_at.ensures.front ∙ c.in-Some.ensures.clean)
