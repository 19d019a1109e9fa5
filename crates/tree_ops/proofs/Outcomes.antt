-- What comes of a command of the tree, from its rows and what follows them.
use Rattle.std.proofs.Common.{◌≡◌, ℕ, ◌+◌, ◌-◌, ◌≤◌, List, [], Bool, true, false, cond, Option, None, Some, IsTrue, Result, Ok, Err, refl, ap, ap₂, sym, subst, ◌∙◌, ◌<◌}
use Rattle.std.specs.Prelude.{nat_lt, IsErrAnd, IfErr}
use Rattle.std.proofs.lemmas.Bool.{ltb-false, ltb-true}
use Rattle.tree_node.specs.declared.change.Full.{Full}
use Rattle.map_model.specs.Tree.{Whole, Held, whole, above}
use Rattle.map_model.specs.Edits.{Changes, swap, each_in_turn}
use Rattle.map_model.specs.Below.{Below}
use Rattle.map_model.specs.Commands.{Command, Settings, IsGood}
use Rattle.map_model.specs.Replies.{Refusal, Full as TooManyNumbers}
use Rattle.map_model.specs.Rows.{first, named}
use Rattle.map_model.specs.Own.{own}
use Rattle.map_model.specs.Apply.{Applied, apply, unless, prune, drop_emptied}
use Rattle.map_model.specs.Promises.{Applies, Refuses}
use Rattle.map_laws.specs.Unlinked.{finish_unlinked, tree_rows}
use Rattle.map_laws.proofs.TreeCommands.{unlinked_apply, unlinked_rows, tree_command}
use Rattle.tree_node.specs.Held.{IsMap, changed}
use Rattle.tree_ops.specs.TreeCommands.{is_tree_command}
use Rattle.tree_ops.specs.Passing.{passes}
use Rattle.tree_ops.specs.Planning.{Ends, made_by}
use Rattle.tree_ops.proofs.Numbers.{ends_full}
use Rattle.tree_ops.specs.Faults.{RefusesRightly}
use Rattle.tree_ops.specs.declared.planned.Planned.{Planned}
use Rattle.tree_ops.specs.declared.fault.OpFault.{OpFault}
use Rattle.tree_ops.specs.declared.fault.OpFault.TheVariants.{No, Memory}

no_row : (r : Option Refusal) → Ok tt ≡ passes r → r ≡ None
no_row None e = refl
no_row (Some refusal) e = absurd (cc)

that_row : (r : Option Refusal) (refusal : Refusal) → Err refusal ≡ passes r → r ≡ Some refusal
that_row None refusal e = absurd (cc)
that_row (Some other) refusal e = cc

module _ (s : Settings) (m : Whole) (c : Command) (t : IsTrue (is_tree_command c)) (good : IsGood c) (map : IsMap m) where
  applied : (b : Below) (r : Option Refusal) → first (tree_rows m c) ≡ r → apply b s m c ≡ unless r (finish_unlinked m c (own b s m c))
  applied b r e =
      unlinked_apply b s m c t good map.shape map.unlinked ∙ ap (λ o. unless o (finish_unlinked m c (own b s m c))) (unlinked_rows b s m c t map.unlinked ∙ e)

  pub refuses : (refusal : Refusal) → Err refusal ≡ passes (first (tree_rows m c)) → Refuses s m c refusal
  refuses refusal e b right = applied b (Some refusal) (that_row (first (tree_rows m c)) refusal e)

  module _ (passed : Ok tt ≡ passes (first (tree_rows m c))) where
    pub applies : (a : Applied) → ((b : Below) (s : Settings) → finish_unlinked m c (own b s m c) ≡ Ok a) → Applies s m c (Ok a)
    applies a ends b right = applied b None (no_row (first (tree_rows m c)) passed) ∙ ends b s

    pub refuses_late : (fault : OpFault) → Ends m c (Err fault) → RefusesRightly s m c fault
    refuses_late (No refusal) ends = λ b right. applied b None (no_row (first (tree_rows m c)) passed) ∙ ends b s
    refuses_late Memory ends = tt

    -- Which tests there are plays no part in the shape.
    any_tests : Below
    any_tests = record { is_solid = λ F. false; is_empty = λ F. false; leaves_world = λ F. false; bears = λ F f. false; vertices = λ F. [] }

    pub stays_map : (a : Applied) → ((b : Below) (s : Settings) → finish_unlinked m c (own b s m c) ≡ Ok a) → IsMap a.map
    stays_map a ends =
        let kept = tree_command any_tests s m c a t good map.shape map.unlinked (applied any_tests None (no_row (first (tree_rows m c)) passed) ∙ ends any_tests s) in
        record { shape = kept.0; unlinked = kept.1 }

-- What is answered where so many numbers would be drawn in all.
abbrev pub asked_room : ℕ → Full → Result (Unit {0}) Full
asked_room n total = cond (nat_lt 65535 n) (Err total) (Ok tt)

answered_by : (n : ℕ) (total : Full) (b : Bool) → nat_lt 65535 n ≡ b → asked_room n total ≡ cond b (Err total) (Ok tt)
answered_by n total b is = ap (λ y. cond y (Err total) (Ok tt)) is

pub room_left : (n : ℕ) (total : Full) (answer : Result (Unit {0}) Full) → answer ≡ asked_room n total → answer ≡ Ok tt → n ≤ 65535
room_left n total answer says passed = by (nat_lt 65535 n) refl
  where
    differ : Err total ≡ answer → n ≤ 65535
    differ e = absurd (cc)

    by : (b : Bool) → nat_lt 65535 n ≡ b → n ≤ 65535
    by true is = differ (sym (says ∙ answered_by n total true is))
    by false is = ltb-false 65535 n is

-- Too many numbers would be drawn.
pub room_gone : (n : ℕ) (total full : Full) (answer : Result (Unit {0}) Full) → answer ≡ asked_room n total → answer ≡ Err full → (65535 < n) × (full ≡ total)
room_gone n total full answer says stopped = by (nat_lt 65535 n) refl
  where
    same : answer ≡ Err total → full ≡ total
    same e = cc

    differ : answer ≡ Ok tt → (65535 < n) × (full ≡ total)
    differ e = absurd (cc)

    by : (b : Bool) → nat_lt 65535 n ≡ b → (65535 < n) × (full ≡ total)
    by true is = (ltb-true 65535 n is, same (says ∙ answered_by n total true is))
    by false is = differ (says ∙ answered_by n total false is)

pub ends_for_want_of_numbers : (m : Whole) (c : Command) → IsTrue (is_tree_command c) → (made next drawn : ℕ) (full : Full) (answer : Result (Unit {0}) Full) → made ≡ made_by c → next ≡ m.next →
    drawn ≡ made → answer ≡ asked_room ((next - 1) + drawn) (record { 0 = (next - 1) + drawn }) → answer ≡ Err full → Ends m c (Err (No (TooManyNumbers full.0)))
ends_for_want_of_numbers m c t made next drawn full answer is begins draws says stopped =
    let gone = room_gone ((next - 1) + drawn) (record { 0 = (next - 1) + drawn }) full answer says stopped in
    let total : (next - 1) + drawn ≡ (m.next - 1) + made = ap₂ (λ k d. (k - 1) + d) begins draws in
    subst (λ n. Ends m c (Err (No (TooManyNumbers n)))) (sym (ap (λ f. f.0) gone.1 ∙ total)) (λ b s. ends_full b s m c t made is (subst (λ n. 65535 < n) total gone.0))

-- A fault that is made of another one.
pub err_is : {T E : Type 0} (r : Result T E) (why : E) → IsErrAnd r (λ e. e ≡ why) → r ≡ Err why
err_is (Ok x) why h = absurd h
err_is (Err e) why h = ap Err h

pub ends_by : (m : Whole) (c : Command) (r : Result Planned OpFault) (why : OpFault) → IsErrAnd r (λ e. e ≡ why) → Ends m c (Err why) → Ends m c r
ends_by m c r why h ends = subst (Ends m c) (sym (err_is r why h)) ends

pub fault_is : {T E : Type 0} (r : Result T E) (P : E → Type 0) (why : E) → IsErrAnd r (λ e. e ≡ why) → P why → IfErr r P
fault_is (Ok x) P why h p = absurd h
fault_is (Err e) P why h p = subst P (sym h) p

-- What a change makes of the map, once it is made of the command's own changes, pruned and tightened.
pub pruned_own : (map : Held) (c : Command) (b : Below) (s : Settings) (begun owned pruned tight : Changes) (ids : List ℕ) → begun ≡ record { entries = []; next = map.next } → ids ≡ named c →
    changed map owned ≡ own b s (changed map begun) c → changed map pruned ≡ each_in_turn (λ n. each_in_turn (drop_emptied (whole map)) (above (whole map) n)) ids (changed map owned) →
    changed map tight ≡ changed map pruned → swap (whole map) tight ≡ prune (whole map) c (own b s (whole map) c)
pruned_own map c b s begun owned pruned tight ids starts these owns prunes same =
    let edit = λ (l : List ℕ) (k : Whole). each_in_turn (λ n. each_in_turn (drop_emptied (whole map)) (above (whole map) n)) l k in
    same ∙ prunes ∙ ap (λ l. edit l (changed map owned)) these ∙ ap (edit (named c)) (owns ∙ ap (λ d. own b s (changed map d) c) starts)
