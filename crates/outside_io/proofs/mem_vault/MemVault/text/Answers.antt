use Rattle.std.proofs.Common.{◌≡◌, Some, None, ap, sym, ◌∙◌}
use Rattle.std.specs.Option.{option_or}
use Rattle.outside_io.specs.Texts.{text_named, texts_of}
use Rattle.outside_io.proofs.Named.{text_named-append}
use Rattle.outside_io.proofs.mem_vault.MemVault.text.Goals as goal

pub returns-in-Some : goal.returns-in-Some
returns-in-Some c =
    let texts = texts_of c.self.inside.texts.items in
    let kept = texts_of c.self.inside.kept.items in
    let name = c.args.name.now in
    let found : Some c.in-Some.bytes.now ≡ text_named kept name =
    c.in-Some.ensures ∙ ap (λ pairs. text_named (texts_of pairs) name) c.as_slice.ensures.value in
    ap (λ o. option_or o (text_named texts name)) found ∙ sym (text_named-append texts kept name)
    ∙ ap (λ v. text_named v.texts name) c.self.view_is

pub returns-in-None : goal.returns-in-None
returns-in-None c =
    let texts = texts_of c.self.inside.texts.items in
    let kept = texts_of c.self.inside.kept.items in
    let name = c.args.name.now in
    let none : None ≡ text_named kept name =
    c.in-None.ensures ∙ ap (λ pairs. text_named (texts_of pairs) name) c.as_slice.ensures.value in
    c.find-in-None.ensures ∙ ap (λ pairs. text_named (texts_of pairs) name) c.as_slice-in-None.ensures.value
    ∙ ap (λ o. option_or o (text_named texts name)) none ∙ sym (text_named-append texts kept name)
    ∙ ap (λ v. text_named v.texts name) c.self.view_is
