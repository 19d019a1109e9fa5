use Rattle.std.proofs.Common.{◌≡◌, arith, ◌∙◌}
use Rattle.fixed_num.specs.Scan.{scan, scan_unsigned}
use Rattle.fixed_num.proofs.Cuts.{HasParts-from_scan, no_word_from_scan}
use Rattle.fixed_num.proofs.Steps.{IsReadable-from_parts, weaker, scan-short}
use Rattle.fixed_num.proofs.word.read_number.Goals as goal

pub returns-clause-parts : goal.returns-clause-parts
returns-clause-parts c =
    let cut : scan c.args.word.now ≡ scan_unsigned c.split_sign-negative.result.0 c.split_sign-negative.result.1.now =
    scan-short _ _ _ (omega arith) c.split_sign-negative.ensures.negative c.split_sign-negative.ensures.rest in
    weaker _ _ _ _ c.unsigned_number.result (λ none. no_word_from_scan c.args.word.now (cut ∙ none)) (λ n some. HasParts-from_scan c.args.word.now _ (cut ∙ some)) c.unsigned_number.ensures

pub returns-clause-readable : goal.returns-clause-readable
returns-clause-readable c =
    let cut : scan c.args.word.now ≡ scan_unsigned c.split_sign-negative.result.0 c.split_sign-negative.result.1.now =
    scan-short _ _ _ (omega arith) c.split_sign-negative.ensures.negative c.split_sign-negative.ensures.rest in
    weaker _ _ _ _ c.unsigned_number.result (λ _. tt) (λ n some. IsReadable-from_parts c.args.word.now n.negative n.whole.now n.fraction.now n.exponent.lowers n.exponent.size (HasParts-from_scan c.args.word.now _ (cut ∙ some))) c.unsigned_number.ensures
