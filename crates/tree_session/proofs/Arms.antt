-- What each word makes of the parts of a session is what the machine makes of the state.
use Rattle.std.proofs.Common.{◌≡◌, ℕ, Bool, true, false, List, ℤ, refl, ap, ap₂, sym, ◌∙◌, inl, inr, ⊎_elim}
use Rattle.cmd_text.specs.declared.reply.Refusal.TheVariants.{NotBuilt}
use Rattle.map_model.specs.Tree.{Held, whole, format_of}
use Rattle.map_model.specs.Below.{Below, IsRight}
use Rattle.map_model.specs.Commands.{Settings, Command, Material, Lock, Uv, Undo, Redo, Show, Tree, Pick}
use Rattle.map_model.specs.Replies.{Reply, Done, No, Memory}
use Rattle.map_model.specs.History.{Records}
use Rattle.map_model.specs.Apply.{apply}
use Rattle.map_model.specs.Machine.{State, Answer, Short, current, only, lock_answer, applied_answer, obey}
use Rattle.undo_log.specs.Log.{maps_of, place_of}
use Rattle.tree_session.specs.Built.{changes_map}
use Rattle.tree_session.specs.Sitting.{state_at, ObeysOrStops}
use Rattle.tree_session.specs.Words.{TakesMaterial, SetsLock, GoesBackBy, GoesOnBy, ChangesBy, ListsNode, ListsTree, AnswersPoint, AnswersRay}
use Rattle.tree_session.proofs.States.{current_is}
use Rattle.tree_session.proofs.WhichWords.{IsOther, obeys_changing, changing_may_want, refuses_other}

module _ (before : Held) (old : Records) (settings : Settings) where
  abbrev s : State
  s = state_at before old settings

  pub changes : (c : Command) (result : Reply) (new : Records) (after : Held) → changes_map c ≡ true → ChangesBy settings c old before result new after →
      ObeysOrStops s c (Short result) (state_at after new settings)
  changes c result new after e =
      ⊎_elim
      (λ (answers : (b : Below) → IsRight b → applied_answer s (apply b settings (whole before) c) ≡ record { state = state_at after new settings; answer = Short result }).
      inl (λ b right. obeys_changing b s c e ∙ ap (λ m. applied_answer s (apply b settings m c)) (current_is before old settings) ∙ answers b right))
      (λ (wants : (result ≡ Memory) × (state_at after new settings ≡ s)).
      inr (record { says_so = ap Short wants.0; stays = wants.1; may_want = changing_may_want c e }))

  pub takes_material : (name : List ℕ) (reply : Reply) (new : Settings) → TakesMaterial name settings reply new → ObeysOrStops s (Material name) (Short reply) (state_at before old new)
  takes_material name reply new =
      ⊎_elim
      (λ (takes : (reply ≡ Done) × (new ≡ record settings { material = name })).
      inl (λ b right. ap₂ (λ t r. record { state = state_at before old t; answer = Short r }) (sym takes.1) (sym takes.0)))
      (λ (wants : (reply ≡ Memory) × (new ≡ settings)).
      inr (record { says_so = ap Short wants.0; stays = ap (state_at before old) wants.1; may_want = refl }))

  pub locks : (on : Bool) (result : Reply) (new : Settings) → SetsLock (whole before) on settings result new → ObeysOrStops s (Lock on) (Short result) (state_at before old new)
  locks on result new e =
      inl (λ b right. ap (λ m. lock_answer s on (format_of m)) (current_is before old settings) ∙ e (maps_of old (whole before)) (place_of old))

  pub goes_back : (result : Reply) (new : Records) (after : Held) → GoesBackBy old before result new after → ObeysOrStops s Undo (Short result) (state_at after new settings)
  goes_back result new after e = inl (λ b right. e settings)

  pub goes_on : (result : Reply) (new : Records) (after : Held) → GoesOnBy old before result new after → ObeysOrStops s Redo (Short result) (state_at after new settings)
  goes_on result new after e = inl (λ b right. e settings)

  pub answers_point : (n face : ℕ) (p : List ℤ) (reply : Reply) → AnswersPoint (whole before) n face p reply → ObeysOrStops s (Uv n face p) (Short reply) s
  answers_point n face p reply e = inl (λ b right. e s (current_is before old settings) b right)

  pub answers_ray : (from to : List ℤ) (reply : Reply) → AnswersRay (whole before) from to reply → ObeysOrStops s (Pick from to) (Short reply) s
  answers_ray from to reply e = inl (λ b right. e s (current_is before old settings) b right)

  pub shows : (n : ℕ) (answer : Answer) → ListsNode (whole before) n answer → ObeysOrStops s (Show n) answer s
  shows n answer =
      ⊎_elim
      (λ (lists : (t : State) → current t ≡ whole before → (b : Below) → IsRight b → obey b t (Show n) ≡ only t answer).
      inl (λ b right. lists s (current_is before old settings) b right))
      (λ (wants : answer ≡ Short Memory). inr (record { says_so = wants; stays = refl; may_want = refl }))

  pub lists_tree : (answer : Answer) → ListsTree (whole before) answer → ObeysOrStops s Tree answer s
  lists_tree answer =
      ⊎_elim
      (λ (lists : (t : State) → current t ≡ whole before → (b : Below) → IsRight b → obey b t Tree ≡ only t answer).
      inl (λ b right. lists s (current_is before old settings) b right))
      (λ (wants : answer ≡ Short Memory). inr (record { says_so = wants; stays = refl; may_want = refl }))

  pub refuses : (c : Command) → IsOther c → changes_map c ≡ false → ObeysOrStops s c (Short (No NotBuilt)) s
  refuses c other e = inl (λ b right. refuses_other b s c other e)
