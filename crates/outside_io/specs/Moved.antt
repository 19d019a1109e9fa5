-- What a call of a source or a sink moved, and what it means that a count of faults rose.
use Rattle.std.specs.Prelude.{◌≡◌, ◌⊎◌, ℕ, ◌<◌, ◌≤◌, ◌^◌, ◌+◌, ◌-◌, min, List, ◌++◌, [], take, drop, length, Option, Some, IfSome, Result, Ok, Err}
use Rattle.outside_io.specs.declared.faults.Failed.{Failed}

-- A count of faults rose, or stands at its last value.
abbrev pub Rose : ℕ → ℕ → Type 0
Rose before now = (before < now) ⊎ (now ≡ 2 ^ 64 - 1)

-- A count one higher, or still at its last value.
abbrev pub after : ℕ → ℕ
after count = min (count + 1) (2 ^ 64 - 1)

-- How many bytes a call moved.
abbrev pub moved : Result ℕ Failed → ℕ
moved (Ok n) = n
moved (Err e) = 0

-- The bytes left went into the front of buf, as many as were moved. None are moved only by a fault or at the end.
pub record Took (result : Result ℕ Failed) (left : List ℕ) (now : Option (List ℕ)) (buf : List ℕ) : Type 0 where
  pub enough : moved result ≤ length left
  pub rest : now ≡ Some (drop (moved result) left)
  pub bytes : take (moved result) buf ≡ take (moved result) left
  pub end : result ≡ Ok 0 → left ≡ []

-- What is told has grown by these.
abbrev pub Grew : {A : Type 0} → Option (List A) → Option (List A) → List A → Type 0
Grew before now more = IfSome before (λ b. now ≡ Some (b ++ more))
