use Rattle.std.proofs.Common.{◌≡◌, subst, sym, ap, ◌∙◌, ◌∷◌, [], string_bytes, IsTrue, true, Bool, arith}
use Rattle.edit_session.specs.Words.{AreNames}
use Rattle.edit_session.proofs.WordLists.{three_words}
use Rattle.edit_session.proofs.words.read_form.Goals as goal

if_not : {b : Bool} → b ≡ true → IsTrue b
if_not e = e

pub returns-clause-form : goal.returns-clause-form
returns-clause-form c =
    let words = three_words string_bytes c.args.words.now c.word-item.result c.map-item.result c.out-item.result (omega (arith, c.in-len3.len_at_least, c.in-len3.len_below))
    c.word-item.is c.map-item.is c.out-item.is in
    let edit : string_bytes c.word-item.result ≡ c.args.form.now = sym c.as_str.ensures.value ∙ c.is_form.ensures.0 (if_not c.if-not-is_form.false) in
    let names = c.are_names.ensures.0 (if_not c.if-not-are_names.false) in
    record {
      words_are = words ∙ ap (λ w. w ∷ string_bytes c.map-item.result ∷ string_bytes c.out-item.result ∷ []) edit
          ∙ ap (λ w. c.args.form.now ∷ w ∷ string_bytes c.out-item.result ∷ []) (sym c.as_str-4.ensures.value)
          ∙ ap (λ w. c.args.form.now ∷ c.as_str-4.result.now ∷ w ∷ []) (sym c.as_str-5.ensures.value);
      names = subst (λ m. AreNames m c.as_str-5.result.now) (c.as_str-2.ensures.value ∙ sym c.as_str-4.ensures.value)
          (subst (λ o. AreNames c.as_str-2.result.now o) (c.as_str-3.ensures.value ∙ sym c.as_str-5.ensures.value) names);
    }
