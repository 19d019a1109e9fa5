-- The words that are built so far, and the session as the machine that knows them alone.
use Rattle.std.specs.Prelude.{ℕ, ◌<◌, Bool, true, cond, ◌||◌, List, Some, None, Ok, Err}
use Rattle.line_machine.specs.Machine.{Step, NeverSaysMemory, IsAnsweredByFront}
use Rattle.cmd_text.specs.declared.reply.Refusal.TheVariants.{NotBuilt}
use Rattle.cmd_text.specs.Reading.{Read, line_read}
use Rattle.map_model.specs.Below.{Below}
use Rattle.map_model.specs.Commands.{Command, Material, Lock, Uv, Undo, Redo, Show, Tree, Pick}
use Rattle.map_model.specs.Machine.{State, Answered, Silent, Short, answer_text, only, refused, fault_reply, obey}
use Rattle.tree_ops.specs.TreeCommands.{is_tree_command}
use Rattle.edit_ops.specs.EditCommands.{is_edit_command}

-- The commands that change the map: those of the tree, and those that make brushes.
abbrev pub changes_map : Command → Bool
changes_map c = is_tree_command c || is_edit_command c

-- The session does what the command says: it changes the map, or is the session's own.
abbrev pub is_built : Command → Bool
is_built (Material name) = true
is_built (Lock on) = true
is_built (Uv n face p) = true
is_built Undo = true
is_built Redo = true
is_built (Show n) = true
is_built Tree = true
is_built (Pick from to) = true
is_built c = changes_map c

-- What a command makes of a state: what the machine of all words says, where it is built. Else it is refused as not built.
abbrev pub obey_built : Below → State → Command → Answered
obey_built b s c = cond (is_built c) (obey b s c) (refused s NotBuilt)

abbrev pub answer_read : Below → State → Read → Answered
answer_read b s (Ok None) = only s Silent
answer_read b s (Ok (Some c)) = obey_built b s c
answer_read b s (Err fault) = only s (Short (fault_reply fault))

-- The next state and the answer to a line.
abbrev pub built_step : Below → State → List ℕ → Answered
built_step b s line = answer_read b s (line_read line)

-- The same as a machine over lines.
abbrev pub built_session : Below → Step State
built_session b = record { reply = λ s line. answer_text (built_step b s line).answer; next = λ s line. (built_step b s line).state }

-- No reply can be taken for the line memory.
abbrev pub BuiltRepliesLaw : Type 0
BuiltRepliesLaw = (b : Below) → NeverSaysMemory (built_session b)

-- Of any line the first 4,097 bytes, or more of them, decide the answer.
abbrev pub BuiltFrontLaw : Type 0
BuiltFrontLaw = (b : Below) (n : ℕ) → 4096 < n → IsAnsweredByFront n (built_session b)
