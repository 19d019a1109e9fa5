-- Machines over lines, and what it means that bytes are a machine's replies.
use Rattle.std.specs.Prelude.{◌≡◌, ◌≢◌, ◌⊎◌, ℕ, List, [], ◌∷◌, ◌++◌, take, codes}

-- What a machine does at a line: its reply and its next state. A silent line has no reply.
pub record Step (S : Type 0) : Type 0 where
  pub reply : S → List ℕ → List ℕ
  pub next : S → List ℕ → S

-- A machine over lines.
pub record Machine (S : Type 0) : Type 0 where
  pub start : S
  pub step : Step S

-- The answer to a line that is not served for want of memory.
abbrev pub memory_line : List ℕ
memory_line = codes "memory" ++ 10 ∷ []

-- A line is answered as the machine says, or, where it is not silent, by the line memory, which changes nothing.
abbrev pub Answers : {S : Type 0} → Step S → S → List ℕ → List ℕ → S → Type 0
Answers m s line bytes t =
    ((bytes ≡ m.reply s line) × (t ≡ m.next s line)) ⊎ ((m.reply s line ≢ []) × (bytes ≡ memory_line) × (t ≡ s))

-- The replies r answer the lines, one after another, from the state s to the state t.
abbrev pub Follows : {S : Type 0} → Step S → S → List (List ℕ) → List ℕ → S → Type 0
Follows m s [] r t = (r ≡ []) × (t ≡ s)
Follows {S} m s (line ∷ lines) r t =
    (bytes : List ℕ) × (rest : List ℕ) × (mid : S) × Answers m s line bytes mid × (r ≡ bytes ++ rest) × Follows m mid lines rest t

-- The replies r are as far as they go: more of them would answer all the lines.
abbrev pub SoFar : {S : Type 0} → Step S → S → List (List ℕ) → List ℕ → Type 0
SoFar {S} m s lines r = (more : List ℕ) × (t : S) × Follows m s lines (r ++ more) t

-- No reply begins as the line memory does, so the replies tell which lines were answered by it.
abbrev pub NeverSaysMemory : {S : Type 0} → Step S → Type 0
NeverSaysMemory {S} m =
    (s : S) (line x y : List ℕ) → m.reply s line ≢ [] → m.reply s line ++ x ≡ memory_line ++ y → ⊥

-- The replies to the lines leave no choice of states.
abbrev pub OneEnd : {S : Type 0} → Step S → Type 0
OneEnd {S} m = (s : S) (lines : List (List ℕ)) (r : List ℕ) (t u : S) → Follows m s lines r t → Follows m s lines r u → t ≡ u

-- A line is answered by its first n bytes alone.
abbrev pub IsAnsweredByFront : {S : Type 0} → ℕ → Step S → Type 0
IsAnsweredByFront {S} n m = (s : S) (line : List ℕ) → (m.reply s (take n line) ≡ m.reply s line) × (m.next s (take n line) ≡ m.next s line)
