-- The machine of the words that are built: its replies can't be taken for the line memory, and a line is answered by its first bytes.
use Rattle.std.proofs.Common.{◌≡◌, ◌≢◌, refl, ap, sym, ◌∙◌, ℕ, ◌<◌, ◌≤◌, Bool, true, false, cond, List, [], ◌++◌, length, take, Some, None, Ok, Err, arith, ⊎_elim, take_all, length-take}
use Rattle.std.proofs.lemmas.Bool.{cases_lt}
use Rattle.line_machine.specs.Machine.{memory_line}
use Rattle.cmd_text.specs.declared.reply.Refusal.TheVariants.{NotBuilt}
use Rattle.cmd_text.specs.Reading.{Read, line_read}
use Rattle.cmd_text.proofs.LineLaws.{read_too_long}
use Rattle.cmd_text.proofs.ReplyLaws.{only_want}
use Rattle.map_model.specs.Below.{Below}
use Rattle.map_model.specs.Commands.{Command}
use Rattle.map_model.specs.Replies.{No}
use Rattle.map_model.specs.Machine.{State, answer_text, answer_line, obey, refused}
use Rattle.map_model.proofs.Serving.{replies_law}
use Rattle.tree_session.specs.Built.{is_built, answer_read, BuiltRepliesLaw, BuiltFrontLaw}

module _ (b : Below) (s : State) (line x y : List ℕ) where
  -- Where the machine of all words says the same, its law serves.
  same_reply : (r : Read) → line_read line ≡ r → answer_text (answer_line b s r).answer ≢ [] → answer_text (answer_line b s r).answer ++ x ≡ memory_line ++ y → ⊥
  same_reply r e some eq =
      let same = ap (λ q. answer_text (answer_line b s q).answer) e in
      replies_law b s line x y (λ none. some (sym same ∙ none)) (ap (λ t. t ++ x) same ∙ eq)

  by_built : (c : Command) (t : Bool) → line_read line ≡ Ok (Some c) → answer_text (cond t (obey b s c) (refused s NotBuilt)).answer ≢ [] →
      answer_text (cond t (obey b s c) (refused s NotBuilt)).answer ++ x ≡ memory_line ++ y → ⊥
  by_built c true e some eq = same_reply (Ok (Some c)) e some eq
  by_built c false e some eq = only_want (No NotBuilt) x y (λ is. cc) eq

  by_read : (r : Read) → line_read line ≡ r → answer_text (answer_read b s r).answer ≢ [] → answer_text (answer_read b s r).answer ++ x ≡ memory_line ++ y → ⊥
  by_read (Ok None) e some eq = some refl
  by_read (Ok (Some c)) e some eq = by_built c (is_built c) e some eq
  by_read (Err fault) e some eq = same_reply (Err fault) e some eq

pub built_replies : BuiltRepliesLaw
built_replies b s line x y some eq = by_read b s line x y (line_read line) refl some eq

front_read : (n : ℕ) → 4096 < n → (line : List ℕ) → line_read (take n line) ≡ line_read line
front_read n some line =
    ⊎_elim
    (λ (less : n < length line). read_too_long (take n line) (omega (arith, some, less, length-take n line)) ∙ sym (read_too_long line (omega (arith, some, less))))
    (λ (whole : length line ≤ n). ap line_read (take_all n line whole)) (cases_lt n (length line))

pub built_front : BuiltFrontLaw
built_front b n some s line =
    (ap (λ r. answer_text (answer_read b s r).answer) (front_read n some line), ap (λ r. (answer_read b s r).state) (front_read n some line))
