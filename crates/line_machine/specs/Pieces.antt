-- A script that comes in pieces, of which the reader holds only the front of the line that has begun.
use Rattle.std.specs.Prelude.{◌≡◌, ℕ, ◌≤◌, List, [], ◌++◌, take, drop, length, Option, Some}
use Rattle.line_machine.specs.Lines.{whole_from, rest_from}
use Rattle.line_machine.specs.Machine.{Step}
use Rattle.line_machine.specs.Served.{Served}

-- The lines that end in the piece are answered, from s to t; begun is the front of the line that does not end in it. The first
-- line began with the bytes before.
pub record InPiece {S : Type 0} (m : Step S) (held : ℕ) (before piece : List ℕ) (s t : S) (begun : List ℕ) (g0 g1 : Option (List ℕ)) : Type 0 where
  pub served : Served m s (whole_from before piece) t g0 g1
  pub begun_is : begun ≡ take held (rest_from before piece)

-- n bytes more were taken of the bytes that were left, and the lines that end in them are answered. 0 is the end of the script.
pub record Goes {S : Type 0} (m : Step S) (held n : ℕ) (bytes : List ℕ) (now : Option (List ℕ)) (s : S) (begun : List ℕ) (t : S) (next : List ℕ) (g0 g1 : Option (List ℕ)) : Type 0 where
  pub enough : n ≤ length bytes
  pub rest : now ≡ Some (drop n bytes)
  pub end : n ≡ 0 → bytes ≡ []
  pub answered : (before : List ℕ) → begun ≡ take held before → InPiece m held before (take n bytes) s t next g0 g1

-- What was taken of the script so far is answered up to its last line feed.
pub record Taken {S : Type 0} (m : Step S) (held : ℕ) (all : List ℕ) (now : Option (List ℕ)) (count : ℕ) (s t : S) (begun : List ℕ) (g0 g1 : Option (List ℕ)) : Type 0 where
  pub taken : List ℕ
  pub left : List ℕ
  pub now_is : now ≡ Some left
  pub all_is : all ≡ taken ++ left
  pub count_is : length taken ≡ count
  pub answered : InPiece m held [] taken s t begun g0 g1
