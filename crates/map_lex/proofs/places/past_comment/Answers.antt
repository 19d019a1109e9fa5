use Rattle.std.proofs.Common.{sym, ◌∙◌}
use Rattle.map_lex.proofs.Reading.{comment_stray, comment_clean}
use Rattle.map_lex.proofs.places.past_comment.Goals as goal

pub returns-then-has_stray-clause-left : goal.returns-then-has_stray-clause-left
returns-then-has_stray-clause-left c =
    comment_stray c.args.line (record { is_front = c.split_at.ensures.front; is_rest = c.split_at.ensures.back }) c.line_len.ensures.line (sym c.has_stray.ensures ∙ c.if-has_stray.true)

pub returns-clause-left : goal.returns-clause-left
returns-clause-left c =
    comment_clean c.args.line (record { is_front = c.split_at.ensures.front; is_rest = c.split_at.ensures.back }) c.line_len.ensures.line (sym c.has_stray.ensures ∙ c.if-has_stray.false)
