-- Replies that were given to a sink, where it tells what it was given.
use Rattle.std.specs.Prelude.{ℕ, List, Option, take}
use Rattle.outside_io.specs.Moved.{Grew}
use Rattle.line_machine.specs.Machine.{Step, Answers, Follows, SoFar}

-- The bytes given between before and now answer all the lines, from the state s to the state t.
pub record Served {S : Type 0} (m : Step S) (s : S) (lines : List (List ℕ)) (t : S) (before now : Option (List ℕ)) : Type 0 where
  pub bytes : List ℕ
  pub follows : Follows m s lines bytes t
  pub grew : Grew before now bytes

-- The bytes given between before and now answer the lines as far as they go.
pub record ServedSoFar {S : Type 0} (m : Step S) (s : S) (lines : List (List ℕ)) (before now : Option (List ℕ)) : Type 0 where
  pub bytes : List ℕ
  pub so_far : SoFar m s lines bytes
  pub grew : Grew before now bytes

-- The bytes given answer one line.
pub record Answered {S : Type 0} (m : Step S) (s : S) (line : List ℕ) (t : S) (before now : Option (List ℕ)) : Type 0 where
  pub bytes : List ℕ
  pub answers : Answers m s line bytes t
  pub grew : Grew before now bytes

-- The bytes given are the front of an answer to one line.
pub record AnsweredInPart {S : Type 0} (m : Step S) (s : S) (line : List ℕ) (before now : Option (List ℕ)) : Type 0 where
  pub bytes : List ℕ
  pub sent : ℕ
  pub state : S
  pub answers : Answers m s line bytes state
  pub grew : Grew before now (take sent bytes)
