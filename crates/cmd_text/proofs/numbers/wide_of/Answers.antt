use Rattle.std.proofs.Common.{Some, w64, rules, ap, sym, ◌∙◌}
use Rattle.std.proofs.lemmas.Int.{to_z-of_z}
use mir.Val.{SFits}
use Rattle.cmd_text.proofs.Wides.{read_whole, wide_is}
use Rattle.cmd_text.proofs.numbers.wide_of.Goals as goal

pub returns-in-Ok-clause-wide : goal.returns-in-Ok-clause-wide
returns-in-Ok-clause-wide c =
    let fits : SFits w64 c.in-Ok.whole = search rules in
    let e = c.read_wide.ensures in
    ap Some (to_z-of_z w64 c.in-Ok.whole fits) ∙ ap read_whole (sym c.in-Ok.is)
    ∙ wide_is c.args.word.now c.read_wide.result e.ok e.not_number e.not_whole e.too_large

pub returns-in-Err-clause-wide : goal.returns-in-Err-clause-wide
returns-in-Err-clause-wide c =
    let e = c.read_wide.ensures in
    ap read_whole (sym c.in-Err.is) ∙ wide_is c.args.word.now c.read_wide.result e.ok e.not_number e.not_whole e.too_large
