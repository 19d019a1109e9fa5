-- What the forms over memory hold: bytes, texts, and which of their calls are to fail.
use Rattle.std.specs.Prelude.{ℕ, ◌==◌, Bool, List, Option, Some, None, if◌then◌else◌}
use Rattle.std.specs.List.{list_any}
use Rattle.outside_io.specs.Texts.{Texts}

-- Whether the call of this number is to fail.
abbrev pub fails_at : List ℕ → ℕ → Bool
fails_at fails number = list_any (λ n. n == number) fails

-- A source over memory: the bytes left, at most how many a call gives, the numbers of the calls
-- that are to fail, and how many calls were made and failed.
pub record SourceState : Type 0 where
  pub left : List ℕ
  pub piece : ℕ
  pub fails : List ℕ
  pub calls : ℕ
  pub faults : ℕ

-- A sink over memory: the bytes given, the numbers of the calls that are to fail, and how many
-- calls were made and failed.
pub record SinkState : Type 0 where
  pub given : List ℕ
  pub fails : List ℕ
  pub calls : ℕ
  pub faults : ℕ

-- A vault over memory: its texts, the pairs kept, the numbers of the calls that are to fail, how
-- many calls were made, and how many of each kind failed.
pub record VaultState : Type 0 where
  pub texts : Texts
  pub kept : Texts
  pub fails : List ℕ
  pub calls : ℕ
  pub fetch_faults : ℕ
  pub keep_faults : ℕ

-- A vault that never fails: the texts that it was made with, and whether nothing was kept yet.
pub record SureState : Type 0 where
  pub texts : Texts
  pub untouched : Bool

-- Its texts, told until the first keep.
abbrev pub told_texts : SureState → Option Texts
told_texts vault = if vault.untouched then Some vault.texts else None
