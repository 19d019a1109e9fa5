-- What the adapters over streams hold, and what it means that a stream was read whole.
use Rattle.std.specs.Prelude.{◌≡◌, ℕ, ◌<◌, ◌≤◌, List, length, Bool, true, false}

-- A stream, and how often it failed.
pub record Counted (S : Type 0) : Type 0 where
  pub stream : S
  pub faults : ℕ

-- Either these bytes are at most limit and out is all of them, or they are more than limit.
abbrev pub IsWhole : List ℕ → ℕ → List ℕ → Bool → Type 0
IsWhole bytes limit out true = (length bytes ≤ limit) × (out ≡ bytes)
IsWhole bytes limit out false = limit < length bytes
