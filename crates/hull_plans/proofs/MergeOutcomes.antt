-- What comes of `merge`.
use Rattle.std.proofs.Common.{◌≡◌, ℕ, ◌+◌, ◌-◌, ◌<◌, List, [], ◌∷◌, length, take, drop, get_or, Ok, Err, refl, ap, sym, ◌∙◌, arith}
use Rattle.std.proofs.lemmas.List.{take_all}
use Rattle.map_model.specs.Faces.{Face}
use Rattle.map_model.specs.Tree.{Whole, with_faces}
use Rattle.map_model.specs.Edits.{swap, each_in_turn, delete, renew}
use Rattle.map_model.specs.Below.{Below, IsRight}
use Rattle.map_model.specs.Commands.{Settings, Merge, IsGood}
use Rattle.map_model.specs.Replies.{Done}
use Rattle.map_model.specs.Own.{own, keep_first}
use Rattle.map_model.specs.Promises.{Plans}
use Rattle.map_laws.specs.BoxCommand.{KeepsMaterial}
use Rattle.tree_node.specs.Held.{IsMap}
use Rattle.tree_ops.specs.Faults.{RefusesRightly}
use Rattle.tree_ops.specs.declared.fault.OpFault.{OpFault}
use Rattle.tree_ops.specs.declared.fault.OpFault.TheVariants.{No, Memory}
use Rattle.tree_ops.specs.declared.planned.Planned.{Planned}
use Rattle.cut_plans.specs.Ending.{Makes, Ends}
use Rattle.cut_plans.proofs.Outcomes as outcome
use Rattle.cut_plans.proofs.PartedPlacing.{subtracted-next}
use Rattle.hull_plans.specs.Merges.{AreMerged, IsMerged}

-- The first of the brushes changes, and the others go.
pub kept : (body : List Face) (ns rest : List ℕ) (n : ℕ) (m : Whole) → 0 < length ns → n ≡ get_or ns 0 n → rest ≡ take (length ns - 1) (drop 1 ns) →
    each_in_turn delete rest (renew n (with_faces body) m) ≡ keep_first body ns m
kept body [] rest n m lt is e = absurd (omega (arith, lt))
kept body (q ∷ ns) rest n m lt is e =
    (λ i. each_in_turn delete ((e ∙ take_all (length (q ∷ ns) - 1) ns (omega arith)) i) (renew (is i) (with_faces body) m))

-- No number is drawn.
gone : (ns : List ℕ) (m : Whole) → (each_in_turn delete ns m).next ≡ m.next
gone [] m = refl
gone (n ∷ ns) m = gone ns (delete n m) ∙ subtracted-next n [] m ∙ (let e : m.next + 0 ≡ m.next = omega arith in e)

kept-next : (body : List Face) (ns : List ℕ) (m : Whole) → (keep_first body ns m).next ≡ m.next + 0
kept-next body [] m = omega arith
kept-next body (n ∷ ns) m = gone ns (renew n (with_faces body) m) ∙ (let e : m.next ≡ m.next + 0 = omega arith in e)

module _ (s : Settings) (m : Whole) (ns : List ℕ) (material : KeepsMaterial s) (good : IsGood (Merge ns)) (map_is : IsMap m) where
  pub refuses : (fault : OpFault) → IsMerged s m ns (Err fault) → RefusesRightly s m (Merge ns) fault
  refuses (No refusal) says = outcome.refuses s m (Merge ns) material refl tt good map_is refusal says
  refuses Memory says = tt

  module _ (body : List Face) (made : AreMerged s m ns body) where
    own_is : (b : Below) → IsRight b → own b s m (Merge ns) ≡ keep_first body ns m
    own_is b right = ap (λ l. keep_first l ns m) (made.made b right)

    pub refuses_late : (fault : OpFault) → Ends m ns (keep_first body ns m) 0 Done (Err fault) → RefusesRightly s m (Merge ns) fault
    refuses_late fault ends = outcome.refuses_late s m (Merge ns) material refl tt good map_is made.passes (keep_first body ns m) 0 Done own_is (kept-next body ns m) refl fault ends

    module _ (p : Planned) (makes : Makes m ns (keep_first body ns m) 0 Done p) where
      pub plans : Plans s m (Merge ns) p.change p.reply
      plans = outcome.plans s m (Merge ns) material refl tt good map_is made.passes (keep_first body ns m) 0 Done own_is (kept-next body ns m) refl p makes

      pub is_map : IsMap (swap m p.change)
      is_map = outcome.is_map s m (Merge ns) material refl tt good map_is made.passes (keep_first body ns m) 0 Done own_is (kept-next body ns m) refl p makes
