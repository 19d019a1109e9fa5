-- What a session answers, as bytes that its machine answers by.
use Rattle.std.proofs.Common.{◌≡◌, ◌≢◌, refl, ap, sym, ◌∙◌, true≢false, ℕ, zero, suc, ◌+◌, Bool, true, false, cond, List, [], ◌∷◌, ◌++◌, length, Option, Some, None, Ok, Err, IsTrue, Result, inl, inr, ⊎_elim, arith, nat_lt}
use Rattle.line_machine.specs.Machine.{Answers, IsAnsweredByFront, memory_line}
use Rattle.cmd_text.specs.declared.reply.Refusal.TheVariants.{NotBuilt}
use Rattle.cmd_text.specs.Lines.{Words, spaced, line_text}
use Rattle.cmd_text.specs.Reading.{Read, line_read}
use Rattle.cmd_text.specs.Replies.{reply_words}
use Rattle.uv_lock.specs.declared.texture.Format.{Format}
use Rattle.uv_lock.specs.declared.texture.Format.TheVariants.{Standard, Valve}
use Rattle.map_model.specs.Tree.{format_of}
use Rattle.map_model.specs.Below.{Below}
use Rattle.map_model.specs.Commands.{Command, Material, Lock, Uv, Undo, Redo, Show, Tree, Pick, Touching}
use Rattle.map_model.specs.Replies.{Refusal, Reply, reply_line, Memory}
use Rattle.map_model.specs.Apply.{Applied, apply}
use Rattle.map_model.specs.Rows.{rows, first}
use Rattle.map_model.specs.Promises.{IsStopped, may_want_memory}
use Rattle.map_model.specs.Machine.{State, Answer, Answered, Short, answer_text, refused, past_rows, lock_answer, undo_answer, redo_answer, applied_answer, obey, current}
use Rattle.tree_session.specs.Built.{is_built, answer_read}
use Rattle.tree_session.specs.Sitting.{Steps, Answers as Promised}
use Rattle.tree_session.proofs.Serving.{built_front}
use Rattle.edit_session.specs.Tests.{Tests, step_by}

-- Some byte is there.
filled : List ℕ → Bool
filled [] = false
filled (b ∷ text) = true

filled_some : (text : List ℕ) → filled text ≡ true → text ≢ []
unfolding filled
filled_some [] e none = true≢false (sym e)
filled_some (b ∷ text) e none = true≢false (ap filled none)

behind : (a l : List ℕ) → filled l ≡ true → filled (a ++ l) ≡ true
unfolding filled
behind [] l e = e
behind (b ∷ a) l e = refl

line_filled : (w : Words) → filled (line_text w) ≡ true
unfolding filled line_text
line_filled w = behind (w.name ++ spaced w.fields) (10 ∷ []) refl

reply_filled : (r : Reply) → filled (reply_line r) ≡ true
unfolding reply_line
reply_filled r = line_filled (reply_words r)

-- A command is never answered by nothing.
Says : Answered → Type 0
Says a = filled (answer_text a.answer) ≡ true

refused_says : (s : State) (r : Refusal) → Says (refused s r)
unfolding Says
refused_says s r = reply_filled _

past_says : (s : State) (o : Option Refusal) (next : Answered) → Says next → Says (past_rows s o next)
past_says s None next h = h
past_says s (Some r) next h = refused_says s r

lock_says : (s : State) (on : Bool) (format : Format) → Says (lock_answer s on format)
unfolding Says
lock_says s true Standard = reply_filled _
lock_says s true Valve = reply_filled _
lock_says s false format = reply_filled _

undo_says : (s : State) (place : ℕ) → Says (undo_answer s place)
unfolding Says
undo_says s zero = reply_filled _
undo_says s (suc place) = reply_filled _

redo_says : (s : State) (t : Bool) → Says (redo_answer s t)
unfolding Says
redo_says s true = reply_filled _
redo_says s false = reply_filled _

applied_says : (s : State) (r : Result Applied Refusal) → Says (applied_answer s r)
unfolding Says
applied_says s (Ok r) = reply_filled r.reply
applied_says s (Err refusal) = reply_filled _

obey_says : (b : Below) (s : State) (c : Command) → Says (obey b s c)
unfolding Says
obey_says b s (Material name) = reply_filled _
obey_says b s (Lock on) = lock_says s on (format_of (current s))
obey_says b s (Uv n face p) = past_says s (first (rows b s.settings (current s) (Uv n face p))) _ (reply_filled _)
obey_says b s Undo = undo_says s s.place
obey_says b s Redo = redo_says s (nat_lt (s.place + 1) (length s.maps))
obey_says b s (Show n) = past_says s (first (rows b s.settings (current s) (Show n))) _ (behind _ _ (reply_filled _))
obey_says b s Tree = behind _ _ (reply_filled _)
obey_says b s (Pick from to) = reply_filled _
obey_says b s (Touching n) = past_says s (first (rows b s.settings (current s) (Touching n))) _ (behind _ _ (reply_filled _))
obey_says b s c = applied_says s (apply b s.settings (current s) c)

by_built : (b : Below) (s : State) (c : Command) (t : Bool) → Says (cond t (obey b s c) (refused s NotBuilt))
by_built b s c true = obey_says b s c
by_built b s c false = refused_says s NotBuilt

read_says : (b : Below) (s : State) (r : Read) → IsTrue (may_want_memory r) → Says (answer_read b s r)
read_says b s (Ok None) may = absurd (true≢false (sym may))
read_says b s (Ok (Some c)) may = by_built b s c (is_built c)
read_says b s (Err fault) may = absurd (true≢false (sym may))

-- The bytes of an answer are those of the machine, or the line memory.
stepped : (tests : Tests) (s : State) (line : List ℕ) (answer : Answer) (t : State) → Steps s line answer t → Answers (step_by tests) s line (answer_text answer) t
stepped tests s line answer t h =
    let e = h tests.below tests.right in inl (ap (λ a. answer_text a.answer) (sym e), ap (λ a. a.state) (sym e))

says_memory : answer_text (Short Memory) ≡ memory_line
unfolding reply_line line_text
says_memory = refl

stopped : (tests : Tests) (s : State) (line : List ℕ) (answer : Answer) (t : State) → IsStopped s line answer t → Answers (step_by tests) s line (answer_text answer) t
unfolding Says
stopped tests s line answer t h =
    inr (
      filled_some _ (read_says tests.below s (line_read line) h.may_want),
      ap answer_text h.says_so ∙ says_memory,
      h.stays,
    )

pub answered : (tests : Tests) (s : State) (line : List ℕ) (answer : Answer) (t : State) → Promised s line answer t → Answers (step_by tests) s line (answer_text answer) t
answered tests s line answer t h = ⊎_elim (stepped tests s line answer t) (stopped tests s line answer t) h

-- A line is answered by its first 4,097 bytes.
pub front : (tests : Tests) → IsAnsweredByFront 4097 (step_by tests)
front tests = built_front tests.below 4097 (omega arith)
