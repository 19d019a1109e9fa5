-- Which commands the session answers by its own words, by changing the map, or as not built.
use Rattle.std.proofs.Common.{◌≡◌, ℕ, Bool, true, false, cond, List, Some, Ok, refl, ap, sym, ◌∙◌, true≢false, ◌||◌}
use Rattle.std.proofs.Common.{List, subst, inl, inr, ⊎_elim}
use Rattle.std.specs.Prelude.{IsTrue, None, Err, ℤ}
use Rattle.cmd_text.specs.Reading.{Read, line_read, keeps_read}
use Rattle.cmd_text.specs.declared.reply.Refusal.TheVariants.{NotBuilt}
use Rattle.map_model.specs.Below.{Below}
use Rattle.map_model.specs.Commands.{Command, Material, Lock, Uv, Undo, Redo, Show, Tree, Pick, Touching}
use Rattle.map_model.specs.Apply.{apply}
use Rattle.map_model.specs.Machine.{State, Answer, current, refused, applied_answer, obey}
use Rattle.map_model.specs.Promises.{may_want_memory}
use Rattle.tree_ops.specs.TreeCommands.{is_tree_command}
use Rattle.edit_ops.specs.EditCommands.{is_edit_command}
use Rattle.tree_session.specs.Built.{changes_map, is_built, obey_built, answer_read}
use Rattle.tree_session.specs.Sitting.{Obeys, Stops, Answers, ObeysOrStops}

-- A command that changes the map is built, and the machine of all words applies it.
changing_built : (c : Command) → changes_map c ≡ true → is_built c ≡ true
changing_built (Material name) e = refl
changing_built (Lock on) e = refl
changing_built (Uv n face p) e = refl
changing_built Undo e = refl
changing_built Redo e = refl
changing_built (Show n) e = refl
changing_built Tree e = refl
changing_built (Pick from to) e = refl
changing_built c e = e

applies_changing : (b : Below) (s : State) (c : Command) → changes_map c ≡ true → obey b s c ≡ applied_answer s (apply b s.settings (current s) c)
applies_changing b s (Material name) e = absurd (true≢false (sym e))
applies_changing b s (Lock on) e = absurd (true≢false (sym e))
applies_changing b s (Uv n face p) e = absurd (true≢false (sym e))
applies_changing b s Undo e = absurd (true≢false (sym e))
applies_changing b s Redo e = absurd (true≢false (sym e))
applies_changing b s (Show n) e = absurd (true≢false (sym e))
applies_changing b s Tree e = absurd (true≢false (sym e))
applies_changing b s (Pick from to) e = absurd (true≢false (sym e))
applies_changing b s (Touching n) e = absurd (true≢false (sym e))
applies_changing b s c e = refl

pub obeys_changing : (b : Below) (s : State) (c : Command) → changes_map c ≡ true → obey_built b s c ≡ applied_answer s (apply b s.settings (current s) c)
obeys_changing b s c e = ap (λ t. cond t (obey b s c) (refused s NotBuilt)) (changing_built c e) ∙ applies_changing b s c e

pub changing_may_want : (c : Command) → changes_map c ≡ true → IsTrue (may_want_memory (Ok (Some c)))
changing_may_want (Lock on) e = absurd (true≢false (sym e))
changing_may_want Undo e = absurd (true≢false (sym e))
changing_may_want Redo e = absurd (true≢false (sym e))
changing_may_want c e = refl

-- Of these commands, one that isn't of the tree makes brushes.
pub edits_brushes : (c : Command) → changes_map c ≡ true → is_tree_command c ≡ false → is_edit_command c ≡ true
edits_brushes c changes other = ap (λ t. t || is_edit_command c) (sym other) ∙ changes

-- None of the session's own words.
pub record IsOther (c : Command) : Type 0 where
  pub not_material : (name : List ℕ) → ¬ (c ≡ Material name)
  pub not_lock : (on : Bool) → ¬ (c ≡ Lock on)
  pub not_uv : (n face : ℕ) (p : List ℤ) → ¬ (c ≡ Uv n face p)
  pub not_undo : ¬ (c ≡ Undo)
  pub not_redo : ¬ (c ≡ Redo)
  pub not_show : (n : ℕ) → ¬ (c ≡ Show n)
  pub not_tree : ¬ (c ≡ Tree)
  pub not_pick : (from to : List ℤ) → ¬ (c ≡ Pick from to)

not_built : (c : Command) → IsOther c → changes_map c ≡ false → is_built c ≡ false
not_built (Material name) other e = absurd (other.not_material name refl)
not_built (Lock on) other e = absurd (other.not_lock on refl)
not_built (Uv n face p) other e = absurd (other.not_uv n face p refl)
not_built Undo other e = absurd (other.not_undo refl)
not_built Redo other e = absurd (other.not_redo refl)
not_built (Show n) other e = absurd (other.not_show n refl)
not_built Tree other e = absurd (other.not_tree refl)
not_built (Pick from to) other e = absurd (other.not_pick from to refl)
not_built c other e = e

pub refuses_other : (b : Below) (s : State) (c : Command) → IsOther c → changes_map c ≡ false → obey_built b s c ≡ refused s NotBuilt
refuses_other b s c other e = ap (λ t. cond t (obey b s c) (refused s NotBuilt)) (not_built c other e)

-- A line that reads as a command that keeps a text or a list may want memory.
pub kept_may_want : (r : Read) → keeps_read r ≡ true → IsTrue (may_want_memory r)
kept_may_want (Err fault) e = absurd (true≢false (sym e))
kept_may_want (Ok None) e = absurd (true≢false (sym e))
kept_may_want (Ok (Some (Lock on))) e = absurd (true≢false (sym e))
kept_may_want (Ok (Some Undo)) e = absurd (true≢false (sym e))
kept_may_want (Ok (Some Redo)) e = absurd (true≢false (sym e))
kept_may_want (Ok (Some c)) e = refl

-- What a command is answered is what its line is answered.
pub step_of : (s : State) (line : List ℕ) (c : Command) (answer : Answer) (t : State) → Ok (Some c) ≡ line_read line → ObeysOrStops s c answer t → Answers s line answer t
step_of s line c answer t e =
    ⊎_elim
    (λ (obeys : Obeys s c answer t). inl (λ b right. ap (answer_read b s) (sym e) ∙ obeys b right))
    (λ (stops : Stops s c answer t). inr (record { says_so = stops.says_so; stays = stops.stays; may_want = subst (λ r. IsTrue (may_want_memory r)) e stops.may_want }))
