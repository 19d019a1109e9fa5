-- What comes of `subtract`.
use Rattle.std.proofs.Common.{◌≡◌, ℕ, ◌+◌, List, [], ◌∷◌, length, map, Ok, Err, refl, ap, sym, ◌∙◌}
use Rattle.std.proofs.lemmas.List.{length-map}
use Rattle.map_model.specs.Tree.{Whole, faces_at}
use Rattle.map_model.specs.Edits.{swap, each_in_turn, delete}
use Rattle.map_model.specs.Below.{Below, IsRight}
use Rattle.map_model.specs.Commands.{Settings, Subtract, IsGood}
use Rattle.map_model.specs.Replies.{Made}
use Rattle.map_model.specs.Own.{own}
use Rattle.map_model.specs.Promises.{Plans}
use Rattle.map_laws.specs.BoxCommand.{KeepsMaterial}
use Rattle.tree_node.specs.Held.{IsMap}
use Rattle.tree_ops.specs.Faults.{RefusesRightly}
use Rattle.tree_ops.specs.declared.fault.OpFault.{OpFault}
use Rattle.tree_ops.specs.declared.fault.OpFault.TheVariants.{No, Memory}
use Rattle.tree_ops.specs.declared.planned.Planned.{Planned}
use Rattle.cut_plans.specs.declared.subtracting.Parted.{Parted}
use Rattle.cut_plans.specs.Ending.{Makes, Ends}
use Rattle.cut_plans.specs.Subtracts.{parted_by, put_parted, drawn_by, subtracted, AreSubtracted, IsSubtracted}
use Rattle.cut_plans.proofs.Laws.{some_are_right}
use Rattle.cut_plans.proofs.Outcomes as outcome
use Rattle.cut_plans.proofs.PartedPlacing.{subtracted-next}

in_turn : {A : Type 0} (f : A → Parted) (xs : List A) (m : Whole) → each_in_turn (λ x. put_parted (f x)) xs m ≡ each_in_turn put_parted (map f xs) m
in_turn f [] m = refl
in_turn f (x ∷ xs) m = in_turn f xs (put_parted (f x) m)

module _ (s : Settings) (m : Whole) (by : ℕ) (ns : List ℕ) (material : KeepsMaterial s) (good : IsGood (Subtract by ns)) (map_is : IsMap m) where
  pub refuses : (fault : OpFault) → IsSubtracted s m by ns (Err fault) → RefusesRightly s m (Subtract by ns) fault
  refuses (No refusal) says = outcome.refuses s m (Subtract by ns) material refl tt good map_is refusal says
  refuses Memory says = tt

  module _ (list : List Parted) (made : AreSubtracted s m by ns list) where
    pub one_each : length list ≡ length ns
    one_each = sym (ap length (made.made some_are_right.tests some_are_right.right)) ∙ length-map ns (parted_by m (faces_at m by) some_are_right.tests)

    own_is : (b : Below) → IsRight b → own b s m (Subtract by ns) ≡ subtracted by list m
    own_is b right = ap (delete by) (in_turn (parted_by m (faces_at m by) b) ns m ∙ ap (λ l. each_in_turn put_parted l m) (made.made b right))

    pub refuses_late : (fault : OpFault) → Ends m (by ∷ ns) (subtracted by list m) (drawn_by list) (Made (drawn_by list) m.next) (Err fault) → RefusesRightly s m (Subtract by ns) fault
    refuses_late fault ends =
        outcome.refuses_late s m (Subtract by ns) material refl tt good map_is made.passes (subtracted by list m) (drawn_by list) (Made (drawn_by list) m.next)
        own_is (subtracted-next by list m) refl fault ends

    module _ (p : Planned) (makes : Makes m (by ∷ ns) (subtracted by list m) (drawn_by list) (Made (drawn_by list) m.next) p) where
      pub plans : Plans s m (Subtract by ns) p.change p.reply
      plans = outcome.plans s m (Subtract by ns) material refl tt good map_is made.passes (subtracted by list m) (drawn_by list) (Made (drawn_by list) m.next)
          own_is (subtracted-next by list m) refl p makes

      pub is_map : IsMap (swap m p.change)
      is_map = outcome.is_map s m (Subtract by ns) material refl tt good map_is made.passes (subtracted by list m) (drawn_by list) (Made (drawn_by list) m.next)
          own_is (subtracted-next by list m) refl p makes
