-- What the words do to the parts of a session, in the machine's words.
use Rattle.std.specs.Prelude.{◌≡◌, ◌⊎◌, ℕ, Bool, true, false, not, List, Option, None, Some, ℤ}
use Rattle.uv_lock.specs.declared.texture.Format.{Format}
use Rattle.uv_lock.specs.declared.texture.Format.TheVariants.{Standard, Valve}
use Rattle.map_model.specs.Tree.{Whole, Held, Node, whole, at, format_of, kind_of}
use Rattle.map_model.specs.Edits.{Changes, swap}
use Rattle.map_model.specs.Below.{Below, IsRight}
use Rattle.map_model.specs.Commands.{Settings, Command, Show, Tree, Uv, Pick}
use Rattle.map_model.specs.Replies.{Refusal, Reply, Done, Memory, NoNode, WrongKind}
use Rattle.map_model.specs.History.{Records}
use Rattle.map_model.specs.Rows.{refuse, may_be_shown}
use Rattle.map_model.specs.Apply.{apply}
use Rattle.map_model.specs.Machine.{State, Answer, Short, only, current, lock_answer, undo_answer, redo_answer, applied_answer, obey}
use Rattle.std.specs.Prelude.{nat_lt, ◌+◌, length}
use Rattle.undo_log.specs.Log.{HasOneMore, place_of}
use Rattle.tree_session.specs.Sitting.{state_at}

abbrev pub is_standard : Format → Bool
is_standard Standard = true
is_standard Valve = false

-- `material`: the name is the current material; or memory is wanting, and the settings stay.
abbrev pub TakesMaterial : List ℕ → (old : Settings) → Reply → (new : Settings) → Type 0
TakesMaterial name old reply new = ((reply ≡ Done) × (new ≡ record old { material = name })) ⊎ ((reply ≡ Memory) × (new ≡ old))

-- `lock` in a map, whatever the other parts of the state are.
abbrev pub SetsLock : Whole → Bool → (old : Settings) → Reply → (new : Settings) → Type 0
SetsLock m on old reply new =
    (maps : List Whole) (place : ℕ) →
    lock_answer (record { maps = maps; place = place; settings = old }) on (format_of m)
    ≡ record { state = record { maps = maps; place = place; settings = new }; answer = Short reply }

-- `undo` and `redo`, whatever the settings are.
abbrev pub GoesBackBy : Records → Held → Reply → Records → Held → Type 0
GoesBackBy old before reply new after =
    (settings : Settings) →
    undo_answer (state_at before old settings) (place_of old) ≡ record { state = state_at after new settings; answer = Short reply }

abbrev pub GoesOnBy : Records → Held → Reply → Records → Held → Type 0
GoesOnBy old before reply new after =
    (settings : Settings) → let s = state_at before old settings in
    redo_answer s (nat_lt (s.place + 1) (length s.maps)) ≡ record { state = state_at after new settings; answer = Short reply }

-- A planned change is made, with its reply; or memory is wanting, and all is as before.
abbrev pub Carries : Changes → Reply → Records → Held → Reply → Records → Held → Type 0
Carries c reply old before result new after =
    ((result ≡ reply) × (whole after ≡ swap (whole before) c) × HasOneMore old before new after)
    ⊎ ((result ≡ Memory) × (new ≡ old) × (whole after ≡ whole before))

-- A command that changes the map is answered as the machine answers it; or memory is wanting, and the state is as before.
abbrev pub ChangesBy : Settings → Command → Records → Held → Reply → Records → Held → Type 0
ChangesBy settings c old before reply new after =
    ((b : Below) → IsRight b → applied_answer (state_at before old settings) (apply b settings (whole before) c) ≡ record { state = state_at after new settings; answer = Short reply })
    ⊎ ((reply ≡ Memory) × (state_at after new settings ≡ state_at before old settings))

-- Why a node can't be shown.
abbrev pub shown : ℕ → Option Node → Option Refusal
shown n None = Some (NoNode n)
shown n (Some x) = refuse (not (may_be_shown (kind_of x))) (WrongKind n)

abbrev pub show_refusal : Whole → ℕ → Option Refusal
show_refusal m n = shown n (at m n)

-- `show` and `tree` at the map m, whatever state has it as its current map; or memory is wanting.
abbrev pub Lists : Whole → Command → Answer → Type 0
Lists m c answer =
    ((s : State) → current s ≡ m → (b : Below) → IsRight b → obey b s c ≡ only s answer) ⊎ (answer ≡ Short Memory)

abbrev pub ListsNode : Whole → ℕ → Answer → Type 0
ListsNode m n answer = Lists m (Show n) answer

abbrev pub ListsTree : Whole → Answer → Type 0
ListsTree m answer = Lists m Tree answer

-- `uv` at the map m, whatever state has it as its current map.
abbrev pub AnswersPoint : Whole → (n face : ℕ) → List ℤ → Reply → Type 0
AnswersPoint m n face p reply = (s : State) → current s ≡ m → (b : Below) → IsRight b → obey b s (Uv n face p) ≡ only s (Short reply)

-- `pick` at the map m, whatever state has it as its current map.
abbrev pub AnswersRay : Whole → (from to : List ℤ) → Reply → Type 0
AnswersRay m from to reply = (s : State) → current s ≡ m → (b : Below) → IsRight b → obey b s (Pick from to) ≡ only s (Short reply)
