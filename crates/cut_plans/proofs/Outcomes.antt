-- What comes of a command, from its rows, its own changes and what follows them.
use Rattle.std.proofs.Common.{◌≡◌, ℕ, ◌+◌, ◌-◌, ◌<◌, ◌≤◌, List, Option, None, Some, IsTrue, Result, Ok, Err, Bool, true, false, refl, ap, ap₂, sym, subst, ◌∙◌, arith}
use Rattle.std.specs.Prelude.{nat_lt}
use Rattle.std.proofs.lemmas.Bool.Decides.{nat_tests}
use Rattle.map_model.specs.Tree.{Whole}
use Rattle.map_model.specs.Edits.{Changes, swap}
use Rattle.map_model.specs.Below.{Below, IsRight}
use Rattle.map_model.specs.Commands.{Command, Settings, IsGood}
use Rattle.map_model.specs.Replies.{Refusal, Reply, Full}
use Rattle.map_model.specs.Rows.{first, named, refuse}
use Rattle.map_model.specs.Own.{own}
use Rattle.map_model.specs.Apply.{Applied, apply, unless, full, prune, reply_of}
use Rattle.map_model.specs.Promises.{Applies, Plans, Refuses}
use Rattle.map_laws.specs.Unlinked.{finish_unlinked}
use Rattle.map_laws.specs.Reshaping.{is_reshaping_command, reshaping_rows, HasPairs}
use Rattle.map_laws.specs.BoxCommand.{KeepsMaterial}
use Rattle.tree_node.specs.Held.{IsMap}
use Rattle.tree_ops.specs.Faults.{RefusesRightly}
use Rattle.tree_ops.specs.declared.fault.OpFault.{OpFault}
use Rattle.tree_ops.specs.declared.fault.OpFault.TheVariants.{No, Memory}
use Rattle.tree_ops.specs.declared.planned.Planned.{Planned}
use Rattle.tree_ops.proofs.Numbers.{prune-next}
use Rattle.cut_plans.specs.Ending.{pruned, Makes, Ends}
use Rattle.cut_plans.proofs.Laws.{applied_is, stays_map, some_number, some_are_right}

few : (n : ℕ) → n ≤ 65535 → nat_lt 65535 n ≡ false
few n le = grind (arith, nat_tests)

many : (n : ℕ) → 65535 < n → nat_lt 65535 n ≡ true
many n lt = grind (arith, nat_tests)

module _ (s : Settings) (m : Whole) (c : Command) (material : KeepsMaterial s) (is : IsTrue (is_reshaping_command c)) (pairs : HasPairs c) (good : IsGood c) (map : IsMap m) where
  applied : (b : Below) → IsRight b → (r : Option Refusal) → first (reshaping_rows b s m c) ≡ r → apply b s m c ≡ unless r (finish_unlinked m c (own b s m c))
  applied b right r e = applied_is b s m c right material is pairs good map ∙ ap (λ o. unless o (finish_unlinked m c (own b s m c))) e

  -- A row refuses it.
  pub refuses : (refusal : Refusal) → ((b : Below) → IsRight b → first (reshaping_rows b s m c) ≡ Some refusal) → Refuses s m c refusal
  refuses refusal says = λ b right. applied b right (Some refusal) (says b right)

  module _ (pass : (b : Below) → IsRight b → first (reshaping_rows b s m c) ≡ None) (made : Whole) (drawn : ℕ) (reply : Reply) (own_is : (b : Below) → IsRight b → own b s m c ≡ made) (next_is : made.next ≡ m.next + drawn)
      (reply_is : reply_of m c drawn ≡ reply) where
    last : (prune m c made).next - 1 ≡ (m.next - 1) + drawn
    last = omega (arith, prune-next m c made, next_is, some_number m map)

    finished : (b : Below) → IsRight b → (t : Bool) → nat_lt 65535 ((m.next - 1) + drawn) ≡ t →
        finish_unlinked m c (own b s m c) ≡ unless (refuse t (Full ((m.next - 1) + drawn))) (Ok (record { map = prune m c made; reply = reply }))
    finished b right t e =
        ap (finish_unlinked m c) (own_is b right)
        ∙ ap (λ n. unless (full n) (Ok (record { map = prune m c made; reply = reply_of m c (made.next - m.next) }))) last
        ∙ ap (λ u. unless (refuse u (Full ((m.next - 1) + drawn))) (Ok (record { map = prune m c made; reply = reply_of m c (made.next - m.next) }))) e
        ∙ ap (λ n. unless (refuse t (Full ((m.next - 1) + drawn))) (Ok (record { map = prune m c made; reply = reply_of m c n }))) (let k : made.next - m.next ≡ drawn = omega (arith, next_is) in k)
        ∙ ap (λ r. unless (refuse t (Full ((m.next - 1) + drawn))) (Ok (record { map = prune m c made; reply = r }))) reply_is

    -- There are no numbers for it.
    pub refuses_late : (fault : OpFault) → Ends m (named c) made drawn reply (Err fault) → RefusesRightly s m c fault
    refuses_late (No refusal) ends = subst (Refuses s m c) (sym ends.0) (λ b right. applied b right None (pass b right) ∙ finished b right true (many ((m.next - 1) + drawn) ends.1))
    refuses_late Memory ends = tt

    module _ (p : Planned) (makes : Makes m (named c) made drawn reply p) where
      applies : Applies s m c (Ok (record { map = swap m p.change; reply = p.reply }))
      applies b right =
          applied b right None (pass b right) ∙ finished b right false (few ((m.next - 1) + drawn) makes.room)
          ∙ ap₂ (λ k r. Ok (record { map = k; reply = r })) (sym makes.map) (sym makes.reply_is)

      pub plans : Plans s m c p.change p.reply
      plans = record { applies = applies; tight = makes.tight }

      pub is_map : IsMap (swap m p.change)
      is_map = stays_map some_are_right.tests s m c (record { map = swap m p.change; reply = p.reply }) some_are_right.right material is pairs good map (applies some_are_right.tests some_are_right.right)
