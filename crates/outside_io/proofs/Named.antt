-- Laws of texts under names.
use Rattle.std.proofs.Common.{◌≡◌, ◌≢◌, ℕ, ◌+◌, ◌<◌, Bool, true, false, List, [], ◌∷◌, ◌++◌, length, take, get_or, Option, Some, None, String, Vec, refl, ap, sym, ◌∙◌, if◌then◌else◌}
use Rattle.std.specs.Prelude.{string_bytes}
use Rattle.std.proofs.lemmas.List.{take_more, map-append}
use Rattle.std.specs.Option.{option_or}
use Rattle.std.specs.Str.{bytes_eq}
use Rattle.std.proofs.lemmas.Slice.Eq.{bytes_eq-Decides}
use Rattle.outside_io.specs.Texts.{Texts, text_named, HoldsUnder, texts_of}

or_none : {A : Type 0} (p : Option A) → option_or p None ≡ p
or_none None = refl
or_none (Some x) = refl

or_assoc : {A : Type 0} (p q r : Option A) → option_or (option_or p q) r ≡ option_or p (option_or q r)
or_assoc None q r = refl
or_assoc (Some x) q r = refl

-- In texts after others, a name has the bytes of the later ones, and else those of the earlier.
pub text_named-append : (xs ys : Texts) (name : List ℕ) →
    text_named (xs ++ ys) name ≡ option_or (text_named ys name) (text_named xs name)
text_named-append [] ys name = sym (or_none (text_named ys name))
text_named-append (x ∷ xs) ys name =
    let here = if bytes_eq x.0 name then Some x.1 else None in
    ap (λ o. option_or o here) (text_named-append xs ys name)
    ∙ or_assoc (text_named ys name) (text_named xs name) here

not_equal : (a b : List ℕ) → a ≢ b → bytes_eq a b ≡ false
not_equal a b apart =
    let goes : (t : Bool) → bytes_eq a b ≡ t → t ≡ false =
    elim [ true ↦ λ e. absurd (apart ((bytes_eq-Decides a b).0 e)) | false ↦ λ e. refl ] in
    goes (bytes_eq a b) refl

-- One text alone has its own name and no other.
pub text_named-same : (name bytes : List ℕ) → text_named ((name, bytes) ∷ []) name ≡ Some bytes
text_named-same name bytes =
    ap (λ b. if b then Some bytes else None) ((bytes_eq-Decides name name).1 refl)

pub text_named-other : (name bytes other : List ℕ) → other ≢ name → text_named ((name, bytes) ∷ []) other ≡ None
text_named-other name bytes other apart =
    ap (λ b. if b then Some bytes else None) (not_equal name other (λ e. apart (sym e)))

-- A text added at the end stands under its name, and all others are as before.
pub holds_added : (texts : Texts) (name bytes : List ℕ) → HoldsUnder texts (texts ++ (name, bytes) ∷ []) name bytes
holds_added texts name bytes = record {
  named = text_named-append texts ((name, bytes) ∷ []) name
      ∙ ap (λ o. option_or o (text_named texts name)) (text_named-same name bytes);
  others = λ other apart. text_named-append texts ((name, bytes) ∷ []) other
      ∙ ap (λ o. option_or o (text_named texts other)) (text_named-other name bytes other apart);
}

-- One more pair of those in memory, whose name was compared.
pub text_named-step : {A : Type 0} (pairs : List (String A × Vec ℕ A)) (i : ℕ) (x : String A × Vec ℕ A) (name : List ℕ) (same : Bool) →
    i < length pairs → x ≡ get_or pairs i x → bytes_eq (string_bytes x.0) name ≡ same →
    text_named (texts_of (take (i + 1) pairs)) name
    ≡ option_or (if same then Some x.1.items else None) (text_named (texts_of (take i pairs)) name)
text_named-step {A} pairs i x name same h e test =
    let pair : String A × Vec ℕ A → List ℕ × List ℕ = λ p. (string_bytes p.0, p.1.items) in
    let before = text_named (texts_of (take i pairs)) name in
    ap (λ ps. text_named (texts_of ps) name) (take_more pairs i x h ∙ ap (λ p. take i pairs ++ p ∷ []) (sym e))
    ∙ ap (λ ts. text_named ts name) (map-append pair (take i pairs) (x ∷ []))
    ∙ text_named-append (texts_of (take i pairs)) (pair x ∷ []) name
    ∙ ap (λ b. option_or (if b then Some x.1.items else None) before) test
