use Rattle.std.proofs.Common.{◌++◌, ◌∷◌, [], ap, ◌∙◌}
use Rattle.cmd_text.specs.Lines.{spaced, fields_of, line_text}
use Rattle.cmd_text.proofs.reply_buf.ReplyBuf.write.Goals as goal

pub returns : goal.returns
unfolding line_text
returns c =
    let fields = spaced (fields_of c.args.line.fields) in
    let named = c.push.ensures ∙ ap (λ l. l ++ c.bytes.result.now) c.clear.ensures ∙ c.bytes.ensures.text in
    c.push-2.ensures ∙ ap (λ l. l ++ 10 ∷ []) (c.push_fields.ensures.text ∙ ap (λ l. l ++ fields) named)
