-- What a session holds, the state of the machine for which it stands, and what its calls promise in these words.
use Rattle.std.specs.Prelude.{◌≡◌, ◌⊎◌, ℕ, List, IsTrue, Some, Ok}
use Rattle.map_model.specs.Tree.{Held, whole}
use Rattle.map_model.specs.Below.{Below, IsRight}
use Rattle.map_model.specs.Commands.{Settings, Command}
use Rattle.map_model.specs.Replies.{Memory}
use Rattle.map_model.specs.History.{Records}
use Rattle.map_model.specs.Machine.{State, Answer, Silent, Short, Long}
use Rattle.map_model.specs.Promises.{IsStopped, may_want_memory}
use Rattle.undo_log.specs.Log.{maps_of, place_of}
use Rattle.tree_session.specs.declared.answer.Answer.{Answer as Given}
use Rattle.tree_session.specs.declared.answer.Answer.TheVariants as given
use Rattle.tree_session.specs.Built.{obey_built, built_step}

-- The current map, the history's records and the settings.
pub record Sitting : Type 0 where
  pub map : Held
  pub records : Records
  pub settings : Settings

-- The whole maps for which the records stand beside the map, and its place among them.
abbrev pub state_at : Held → Records → Settings → State
state_at map records settings = record { maps = maps_of records (whole map); place = place_of records; settings = settings }

abbrev pub state_of : Sitting → State
state_of s = state_at s.map s.records s.settings

-- An answer as the machine gives it.
abbrev pub answer_of : Given → Answer
answer_of given.Silent = Silent
answer_of (given.Short reply) = Short reply
answer_of (given.Long text) = Long text

-- The machine of the words that are built answers the command so, or the line, and is in the state t then, by whatever right tests.
abbrev pub Obeys : State → Command → Answer → State → Type 0
Obeys s c answer t = (b : Below) → IsRight b → obey_built b s c ≡ record { state = t; answer = answer }

abbrev pub Steps : State → List ℕ → Answer → State → Type 0
Steps s line answer t = (b : Below) → IsRight b → built_step b s line ≡ record { state = t; answer = answer }

-- Memory is wanting for the command, which is one that may want it: that is the answer, and the state stays.
pub record Stops (s : State) (c : Command) (answer : Answer) (t : State) : Type 0 where
  pub says_so : answer ≡ Short Memory
  pub stays : t ≡ s
  pub may_want : IsTrue (may_want_memory (Ok (Some c)))

-- The line is answered as the machine answers it, or memory is wanting.
abbrev pub Answers : State → List ℕ → Answer → State → Type 0
Answers s line answer t = Steps s line answer t ⊎ IsStopped s line answer t

abbrev pub ObeysOrStops : State → Command → Answer → State → Type 0
ObeysOrStops s c answer t = Obeys s c answer t ⊎ Stops s c answer t
