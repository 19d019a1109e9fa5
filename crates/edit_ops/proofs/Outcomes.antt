-- What comes of the command that makes a box, from its rows and what follows them.
use Rattle.std.proofs.Common.{◌≡◌, ℕ, ◌+◌, ◌-◌, List, Option, None, Some, Ok, Err, ap, ap₂, sym, subst, ◌∙◌, arith, ℤ}
use Rattle.map_model.specs.Tree.{Whole}
use Rattle.map_model.specs.Faces.{Face}
use Rattle.map_model.specs.Edits.{Changes, swap}
use Rattle.map_model.specs.Below.{Below, IsRight}
use Rattle.map_model.specs.Commands.{Settings, IsGood, Box}
use Rattle.map_model.specs.Replies.{Refusal, Reply, Made}
use Rattle.map_model.specs.Rows.{first}
use Rattle.map_model.specs.Own.{own}
use Rattle.map_model.specs.Apply.{apply, unless}
use Rattle.map_model.specs.Promises.{Applies, Plans, Refuses}
use Rattle.map_model.proofs.SomeRight.{some_are_right}
use Rattle.map_laws.specs.Unlinked.{finish_unlinked}
use Rattle.map_laws.specs.BoxCommand.{KeepsMaterial}
use Rattle.map_laws.proofs.BoxCommand.{box_apply, box_command}
use Rattle.map_laws.proofs.MovingRows.{box_rows_are}
use Rattle.tree_node.specs.Held.{IsMap}
use Rattle.tree_ops.specs.Faults.{RefusesRightly}
use Rattle.tree_ops.specs.declared.fault.OpFault.{OpFault}
use Rattle.tree_ops.specs.declared.fault.OpFault.TheVariants.{No, Memory}
use Rattle.brush_plans.specs.NewBrush.{Puts, IsPut}
use Rattle.edit_ops.specs.Boxes.{box_faces, box_rows, RowsSay, IsBox}
use Rattle.brush_plans.proofs.Numbers.{numbers_fit, numbers_end}

module _ (s : Settings) (m : Whole) (x y : List ℤ) (material : KeepsMaterial s) (good : IsGood (Box x y)) (map : IsMap m) where
  applied : (b : Below) → IsRight b → (r : Option Refusal) → first (box_rows b s m x y) ≡ r → apply b s m (Box x y) ≡ unless r (finish_unlinked m (Box x y) (own b s m (Box x y)))
  applied b right r e =
      box_apply b s m x y right material good map.shape map.unlinked ∙ ap (λ o. unless o (finish_unlinked m (Box x y) (own b s m (Box x y)))) (box_rows_are b s m x y ∙ e)

  pub refuses : (fault : OpFault) → IsBox s m x y (Err fault) → RefusesRightly s m (Box x y) fault
  refuses (No refusal) says = λ b right. applied b right (Some refusal) (says b right)
  refuses Memory says = tt

  module _ (pass : RowsSay s m x y None) where
    pub refuses_late : (faces : List Face) (fault : OpFault) → IsPut m faces (Err fault) → RefusesRightly s m (Box x y) fault
    refuses_late faces (No refusal) full = subst (Refuses s m (Box x y)) (sym full.0) (λ b right.
        applied b right None (pass b right) ∙ numbers_end m.next (Ok (record { map = own b s m (Box x y); reply = Made ((m.next + 1) - m.next) m.next })) full.1)
    refuses_late faces Memory full = tt

    made_one : (n : ℕ) → Made ((n + 1) - n) n ≡ Made 1 n
    made_one n = ap (λ k. Made k n) (let e : (n + 1) - n ≡ 1 = omega arith in e)

    applies : (change : Changes) (reply : Reply) → Puts m (box_faces s m x y) change reply → Applies s m (Box x y) (Ok (record { map = swap m change; reply = reply }))
    applies change reply puts b right =
        applied b right None (pass b right)
        ∙ numbers_fit m.next (Ok (record { map = own b s m (Box x y); reply = Made ((m.next + 1) - m.next) m.next })) puts.room
        ∙ ap₂ (λ k r. Ok (record { map = k; reply = r })) (sym puts.map) (made_one m.next ∙ sym puts.reply_is)

    module _ (change : Changes) (reply : Reply) (faces : List Face) (is : faces ≡ box_faces s m x y) (puts : Puts m faces change reply) where
      puts_box : Puts m (box_faces s m x y) change reply
      puts_box = subst (λ l. Puts m l change reply) is puts

      pub plans : Plans s m (Box x y) change reply
      plans = record { applies = applies change reply puts_box; tight = puts.tight }

      pub stays_map : IsMap (swap m change)
      stays_map =
          let kept = box_command some_are_right.tests s m x y (record { map = swap m change; reply = reply }) some_are_right.right material good map.shape map.unlinked
          (applies change reply puts_box some_are_right.tests some_are_right.right) in
          record { shape = kept.0; unlinked = kept.1 }
