-- The machine of a session, by right tests on solids.
use Rattle.std.specs.Prelude.{ℕ, List}
use Rattle.line_machine.specs.Machine.{Step, Machine}
use Rattle.map_write.specs.Written.{written_text}
use Rattle.map_model.specs.Tree.{Whole}
use Rattle.map_model.specs.Below.{Below, IsRight}
use Rattle.map_model.specs.Machine.{State, open_at, current}
use Rattle.map_model.specs.Saved.{saved}
use Rattle.tree_session.specs.Built.{built_session}

-- Tests that are right.
pub record Tests : Type 0 where
  pub below : Below
  pub right : IsRight below

-- What a session does at a line.
abbrev pub step_by : Tests → Step State
step_by tests = built_session tests.below

-- The machine that begins with a map.
abbrev pub machine_by : Tests → Whole → Machine State
machine_by tests m = record { start = open_at m; step = step_by tests }

-- The text that a map is kept as, and that of the current map.
abbrev pub map_text : Whole → List ℕ
map_text m = written_text (saved m)

abbrev pub state_text : State → List ℕ
state_text s = map_text (current s)
