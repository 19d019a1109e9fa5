use Rattle.std.proofs.Common.{◌-◌, ◌≡◌, ◌≤◌, IfSome}
use Rattle.line_machine.specs.Pieces.{Taken}
use Rattle.tree_session.specs.Sitting.{state_of}
use Rattle.edit_session.specs.Tests.{Tests, step_by}
use Rattle.edit_session.proofs.serve.serve_lines.Given as goal

abbrev pub invariant-loop-taken : goal.invariant-loop-taken
invariant-loop-taken g l = record {
  small : l.taken ≤ 67108864;
  told : (tests : Tests) → IfSome (g.C.Source.left l.initial.script)
      (λ all. Taken (step_by tests) 4097 all (g.C.Source.left l.script) l.taken (state_of l.initial.session) (state_of l.session) l.begun (g.R.Sink.given l.initial.replies) (g.R.Sink.given l.replies));
  script_quiet : g.C.Source.faults l.script ≡ g.C.Source.faults l.initial.script;
  replies_quiet : g.R.Sink.faults l.replies ≡ g.R.Sink.faults l.initial.replies;
}

abbrev pub decreases-loop-taken : goal.decreases-loop-taken
decreases-loop-taken g l = 67108864 - l.taken
