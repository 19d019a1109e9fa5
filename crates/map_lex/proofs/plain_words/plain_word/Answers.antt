use Rattle.std.proofs.Common.{ap, ◌∙◌}
use Rattle.std.specs.List.{list_any}
use Rattle.map_lex.specs.Bytes.{is_stray}
use Rattle.map_lex.proofs.Reading.{word_clean}
use Rattle.map_lex.proofs.plain_words.plain_word.Goals as goal

pub returns : goal.returns
returns c = record {
  left = c.behind_blank-line.ensures.left
      ∙ word_clean c.behind_blank-line.result.line (record { is_front = c.split_at.ensures.front; is_rest = c.split_at.ensures.back }) (c.begins_plainly.ensures.word c.if-not-begins_plainly.false) c.in_ok-plain_len.ensures.word
      (ap (list_any is_stray) c.split_at.ensures.front ∙ c.in_ok-plain_len.ensures.clean);
}
