-- What a vault holds: texts under names, and what its two calls answer.
use Rattle.std.specs.Prelude.{◌≡◌, ◌≢◌, ℕ, List, [], ◌∷◌, map, String, string_bytes, Vec, Option, Some, None, Result, Ok, Err, if◌then◌else◌, ⊤}
use Rattle.std.specs.Option.{option_or}
use Rattle.std.specs.Str.{bytes_eq}
use Rattle.outside_io.specs.declared.faults.FetchEnd.{FetchEnd}
use Rattle.outside_io.specs.declared.faults.FetchEnd.TheVariants.{Failed, TooLong, Memory}

-- Texts: names, and the bytes under each.
abbrev pub Texts : Type 0
Texts = List (List ℕ × List ℕ)

-- The names and bytes of pairs in memory.
abbrev pub texts_of : {A : Type 0} → List (String A × Vec ℕ A) → Texts
texts_of pairs = map (λ pair. (string_bytes pair.0, pair.1.items)) pairs

-- The bytes under a name, where there are any. Of equal names the last one counts.
abbrev pub text_named : Texts → List ℕ → Option (List ℕ)
text_named [] name = None
text_named (text ∷ texts) name =
    option_or (text_named texts name) (if bytes_eq text.0 name then Some text.1 else None)

-- Now these bytes stand under this name, and all other texts are as before.
pub record HoldsUnder (before now : Texts) (name bytes : List ℕ) : Type 0 where
  pub named : text_named now name ≡ Some bytes
  pub others : (other : List ℕ) → other ≢ name → text_named now other ≡ text_named before other

-- A fact for the answer Failed of a fetch.
abbrev pub OnFailed : Result (Unit {0}) FetchEnd → Type 0 → Type 0
OnFailed (Err Failed) P = P
OnFailed (Err TooLong) P = ⊤
OnFailed (Err Memory) P = ⊤
OnFailed (Ok u) P = ⊤

-- A fact for the answer TooLong of a fetch.
abbrev pub OnTooLong : Result (Unit {0}) FetchEnd → Type 0 → Type 0
OnTooLong (Err Failed) P = ⊤
OnTooLong (Err TooLong) P = P
OnTooLong (Err Memory) P = ⊤
OnTooLong (Ok u) P = ⊤

-- A fact for every answer of a fetch but Failed.
abbrev pub UnlessFailed : Result (Unit {0}) FetchEnd → Type 0 → Type 0
UnlessFailed (Err Failed) P = ⊤
UnlessFailed (Err TooLong) P = P
UnlessFailed (Err Memory) P = P
UnlessFailed (Ok u) P = P
