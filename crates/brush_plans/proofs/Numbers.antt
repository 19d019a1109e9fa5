-- One number more.
use Rattle.std.proofs.Common.{◌≡◌, ℕ, ◌+◌, ◌-◌, ◌<◌, ◌≤◌, true, false, List, Ok, Err, Result, ap, sym, subst, ◌∙◌, arith}
use Rattle.std.specs.Prelude.{nat_lt, IsErrAnd}
use Rattle.std.proofs.lemmas.Bool.Decides.{nat_tests}
use Rattle.tree_node.specs.declared.change.Full.{Full as Asked}
use Rattle.map_model.specs.Apply.{Applied, full, unless}
use Rattle.map_model.specs.Replies.{Refusal, Full}
use Rattle.map_model.specs.Rows.{refuse}
use Rattle.map_model.specs.Tree.{Whole}
use Rattle.map_model.specs.Faces.{Face}
use Rattle.tree_ops.specs.declared.fault.OpFault.{OpFault}
use Rattle.tree_ops.specs.declared.fault.OpFault.TheVariants.{No}
use Rattle.tree_ops.specs.declared.planned.Planned.{Planned}
use Rattle.brush_plans.specs.NewBrush.{IsPut}
use Rattle.tree_ops.proofs.Outcomes.{err_is, asked_room, room_left, room_gone}

-- There is a number left, or not.
pub one_left : (next drawn : ℕ) (answer : Result (Unit {0}) Asked) → drawn ≡ 1 → answer ≡ asked_room ((next - 1) + drawn) (record { 0 = (next - 1) + drawn }) → answer ≡ Ok tt → next ≤ 65535
one_left next drawn answer one says passed =
    let left = room_left ((next - 1) + drawn) (record { 0 = (next - 1) + drawn }) answer says passed in omega arith

pub none_left : (next drawn : ℕ) (given : Asked) (answer : Result (Unit {0}) Asked) → drawn ≡ 1 → answer ≡ asked_room ((next - 1) + drawn) (record { 0 = (next - 1) + drawn }) → answer ≡ Err given →
    (given.0 ≡ next) × (65535 < next)
none_left next drawn given answer one says stopped =
    let gone = room_gone ((next - 1) + drawn) (record { 0 = (next - 1) + drawn }) given answer says stopped in
    let many = gone.0 in let is : given.0 ≡ (next - 1) + drawn = ap (λ f. f.0) gone.1 in
    (omega arith, omega arith)

-- What the row of numbers says then.
few : (n : ℕ) → n ≤ 65535 → nat_lt 65535 n ≡ false
few n le = grind (arith, nat_tests)

many : (n : ℕ) → 65535 < n → nat_lt 65535 n ≡ true
many n lt = grind (arith, nat_tests)

pub numbers_fit : (n : ℕ) (next : Result Applied Refusal) → n ≤ 65535 → unless (full ((n + 1) - 1)) next ≡ next
numbers_fit n next le = ap (λ k. unless (full k) next) (let e : (n + 1) - 1 ≡ n = omega arith in e) ∙ ap (λ t. unless (refuse t (Full n)) next) (few n le)

pub numbers_end : (n : ℕ) (next : Result Applied Refusal) → 65535 < n → unless (full ((n + 1) - 1)) next ≡ Err (Full n)
numbers_end n next lt = ap (λ k. unless (full k) next) (let e : (n + 1) - 1 ≡ n = omega arith in e) ∙ ap (λ t. unless (refuse t (Full n)) next) (many n lt)

pub not_put : (m : Whole) (faces : List Face) (next : ℕ) (given : Asked) (r : Result Planned OpFault) → next ≡ m.next → (given.0 ≡ next) × (65535 < next) → IsErrAnd r (λ e. e ≡ No (Full given.0)) → IsPut m faces r
not_put m faces next given r is gone e =
    subst (IsPut m faces) (sym (err_is r (No (Full given.0)) e)) (ap Full (gone.0 ∙ is), subst (λ n. 65535 < n) is gone.1)
