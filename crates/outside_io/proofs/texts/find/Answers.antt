use Rattle.std.proofs.Common.{◌≡◌, Bool, true, false, Some, ap, sym, ◌∙◌, arith}
use Rattle.std.specs.Prelude.{option_copied, string_bytes}
use Rattle.std.specs.Str.{bytes_eq}
use Rattle.outside_io.proofs.texts.find.Goals as goal
use Rattle.outside_io.proofs.texts.find.Goals.{then-eq, else-eq}
use Rattle.outside_io.proofs.Named.{text_named-step}

pub loop-text-preserved : goal.loop-text-preserved
loop-text-preserved c =
    let name = c.args.name.now in
    let test : bytes_eq (string_bytes c.text-item.result.0) name ≡ c.eq.result =
    ap (λ other. bytes_eq other name) (sym c.as_str.ensures.value) ∙ sym c.eq.ensures in
    let step = λ (same : Bool) (e : c.eq.result ≡ same).
    text_named-step c.args.texts.now c.loop-text.text-index c.text-item.result name same (omega arith) c.text-item.is (test ∙ e) in
    elim c.if-eq.branch [
      | then-eq w ↦ ap option_copied w.found-is ∙ ap Some w.as_slice.ensures.value ∙ sym (step true w.if-eq.true)
      | else-eq w ↦ ap option_copied w.found-is ∙ c.loop-text.invariant ∙ sym (step false w.if-eq.false)
    ]
