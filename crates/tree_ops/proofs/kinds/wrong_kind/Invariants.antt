use Rattle.std.specs.Prelude.{not}
use Rattle.map_model.specs.Tree.{whole}
use Rattle.map_model.specs.Rows.{fits}
use Rattle.map_model.specs.Replies.{WrongKind}
use Rattle.tree_ops.proofs.RowLoops.{Passed}
use Rattle.tree_ops.proofs.kinds.wrong_kind.Given as goal

abbrev pub invariant-loop-id : goal.invariant-loop-id
invariant-loop-id l = Passed (λ n. not (fits (whole l.map) l.c n)) WrongKind l.ids l.id-index
