use Rattle.std.proofs.Common.{◌≡◌, ℕ, List, take}
use Rattle.line_machine.specs.Pieces.{InPiece}
use Rattle.tree_session.specs.Sitting.{state_of}
use Rattle.edit_session.specs.Tests.{Tests, step_by}
use Rattle.edit_session.proofs.piece.serve_piece.Given as goal

-- the lines that ended so far are answered
abbrev pub invariant-loop-byte : goal.invariant-loop-byte
invariant-loop-byte g l = record {
  answered : (tests : Tests) (before : List ℕ) → l.fn.begun ≡ take 4097 before →
      InPiece (step_by tests) 4097 before (take l.byte-index l.piece) (state_of l.fn.session) (state_of l.session) l.begun (g.R.Sink.given l.fn.replies) (g.R.Sink.given l.replies);
  quiet : g.R.Sink.faults l.replies ≡ g.R.Sink.faults l.fn.replies;
}
