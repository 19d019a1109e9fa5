use Rattle.std.proofs.Common.{◌≡◌, ◌≢◌, subst, sym, ap, ◌∙◌, ◌∷◌, [], string_bytes, codes, IsTrue, true, Bool, arith}
use Rattle.edit_session.proofs.WordLists.{two_words}
use Rattle.edit_session.proofs.words.read_check.Goals as goal

if_not : {b : Bool} → b ≡ true → IsTrue b
if_not e = e

pub returns-clause-check : goal.returns-clause-check
returns-clause-check c =
    let words = two_words string_bytes c.args.words.now c.form-item.result c.map-item.result (omega (arith, c.in-len2.len_at_least, c.in-len2.len_below)) c.form-item.is c.map-item.is in
    let check : string_bytes c.form-item.result ≡ codes "check" = sym c.as_str.ensures.value ∙ c.is_check.ensures.0 (if_not c.if-not-is_check.false) in
    let name = c.is_name.ensures.0 (if_not c.if-not-is_name.false) in
    record {
      words_are = words ∙ ap (λ w. w ∷ string_bytes c.map-item.result ∷ []) check ∙ ap (λ w. codes "check" ∷ w ∷ []) (sym c.as_str-3.ensures.value);
      has_map = subst (λ m. m ≢ []) (c.as_str-2.ensures.value ∙ sym c.as_str-3.ensures.value) name;
    }
