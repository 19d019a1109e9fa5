use Rattle.std.proofs.Common.{◌≡◌, sym, ap, ◌∙◌, subst, arith}
use Rattle.cmd_text.specs.Reading.{IsRead, Read, is_silent, words_read, line_read}
use Rattle.cmd_text.proofs.LineLaws.{read_too_long, read_silent, read_as_words}
use Rattle.cmd_text.specs.Kept.{KeepsCounts, KeepsTexts}
use Rattle.cmd_text.proofs.Sizes.{counts_kept}
use Rattle.cmd_text.proofs.Texts.{texts_kept, kept_by_words}
use Rattle.cmd_text.proofs.reading.read_line.Goals as goal

pub returns-then-line-gt-MOST_BYTES-clause-value : goal.returns-then-line-gt-MOST_BYTES-clause-value
returns-then-line-gt-MOST_BYTES-clause-value c = sym (read_too_long c.args.line.now (omega arith))

pub returns-then-is_silent-clause-value : goal.returns-then-is_silent-clause-value
returns-then-is_silent-clause-value c =
    sym (read_silent c.args.line.now (omega arith) (ap is_silent (sym c.without_return-line.ensures.rest) ∙ sym c.is_silent.ensures ∙ c.if-is_silent.true))

pub returns-clause-value : goal.returns-clause-value
returns-clause-value c =
    let line = c.without_return-line.ensures.rest in
    let e : line_read c.args.line.now ≡ words_read c.without_return-line.result.now =
    read_as_words c.args.line.now (omega arith) (ap is_silent (sym line) ∙ sym c.is_silent.ensures ∙ c.if-is_silent.false) ∙ ap words_read (sym line) in
    subst (λ (r : Read). IsRead r c.read_words.result) (sym e) c.read_words.ensures.value

pub returns-clause-counts : goal.returns-clause-counts
returns-clause-counts c =
    kept_by_words KeepsCounts c.without_return-line.result.now c.read_words.result (sym c.is_silent.ensures ∙ c.if-is_silent.false) c.read_words.ensures.value
    (λ verb words right texts. counts_kept verb words right)

pub returns-clause-texts : goal.returns-clause-texts
returns-clause-texts c =
    kept_by_words KeepsTexts c.without_return-line.result.now c.read_words.result (sym c.is_silent.ensures ∙ c.if-is_silent.false) c.read_words.ensures.value
    texts_kept
