-- What comes of `intersect`.
use Rattle.std.proofs.Common.{◌≡◌, ℕ, suc, ◌+◌, ◌-◌, ◌<◌, ◌≤◌, List, [], ◌∷◌, length, take, drop, get_or, Ok, Err, refl, ap, sym, ◌∙◌, arith}
use Rattle.std.proofs.lemmas.List.{take_all}
use Rattle.map_model.specs.Faces.{Face}
use Rattle.map_model.specs.Tree.{Whole, preorder, with_faces}
use Rattle.map_model.specs.Edits.{swap, each_in_turn, renew, delete, take_out}
use Rattle.map_model.specs.Below.{Below, IsRight}
use Rattle.map_model.specs.Commands.{Settings, Intersect, IsGood}
use Rattle.map_model.specs.Replies.{Done}
use Rattle.map_model.specs.Own.{own, keep_first}
use Rattle.map_model.specs.Promises.{Plans}
use Rattle.map_laws.specs.BoxCommand.{KeepsMaterial}
use Rattle.map_laws.proofs.Slots.{next-forget, next-take_out}
use Rattle.tree_node.specs.Held.{IsMap}
use Rattle.tree_ops.specs.Faults.{RefusesRightly}
use Rattle.tree_ops.specs.declared.fault.OpFault.{OpFault}
use Rattle.tree_ops.specs.declared.fault.OpFault.TheVariants.{No, Memory}
use Rattle.tree_ops.specs.declared.planned.Planned.{Planned}
use Rattle.cut_plans.specs.Ending.{Makes, Ends}
use Rattle.cut_plans.specs.Intersects.{IsIntersection, IsIntersected}
use Rattle.cut_plans.proofs.Outcomes as outcome

-- No number is drawn.
deleted-next : (ns : List ℕ) (m : Whole) → (each_in_turn delete ns m).next ≡ m.next
deleted-next [] m = refl
deleted-next (n ∷ ns) m = deleted-next ns (delete n m) ∙ next-forget (preorder m n) (take_out n m) ∙ next-take_out m n

kept-next : (body : List Face) (ns : List ℕ) (m : Whole) → (keep_first body ns m).next ≡ m.next + 0
kept-next body [] m = omega arith
kept-next body (n ∷ ns) m = deleted-next ns (renew n (with_faces body) m) ∙ (let e : m.next ≡ m.next + 0 = omega arith in e)

-- The first one renewed, and the others deleted.
pub kept_first : (d : ℕ) (body : List Face) (ns : List ℕ) (m middle new : Whole) (n : ℕ) → 0 < length ns → n ≡ get_or ns 0 d → middle ≡ renew n (with_faces body) m →
    new ≡ each_in_turn delete (take (length ns - 1) (drop 1 ns)) middle → new ≡ keep_first body ns m
kept_first d body [] m middle new n lt is e more = absurd (omega arith)
kept_first d body (q ∷ ns) m middle new n lt is e more =
    let rest : take (length (q ∷ ns) - 1) ns ≡ ns = take_all (length (q ∷ ns) - 1) ns (omega arith) in
    more ∙ (λ i. each_in_turn delete (rest i) (e i)) ∙ ap (λ k. each_in_turn delete ns (renew k (with_faces body) m)) is

module _ (s : Settings) (m : Whole) (ns : List ℕ) (material : KeepsMaterial s) (good : IsGood (Intersect ns)) (map_is : IsMap m) where
  pub refuses : (fault : OpFault) → IsIntersected s m ns (Err fault) → RefusesRightly s m (Intersect ns) fault
  refuses (No refusal) says = outcome.refuses s m (Intersect ns) material refl tt good map_is refusal says
  refuses Memory says = tt

  module _ (body : List Face) (made : IsIntersection s m ns body) where
    own_is : (b : Below) → IsRight b → own b s m (Intersect ns) ≡ keep_first body ns m
    own_is b right = ap (λ l. keep_first l ns m) (made.made b right)

    pub refuses_late : (fault : OpFault) → Ends m ns (keep_first body ns m) 0 Done (Err fault) → RefusesRightly s m (Intersect ns) fault
    refuses_late fault ends = outcome.refuses_late s m (Intersect ns) material refl tt good map_is made.passes (keep_first body ns m) 0 Done own_is (kept-next body ns m) refl fault ends

    module _ (p : Planned) (makes : Makes m ns (keep_first body ns m) 0 Done p) where
      pub plans : Plans s m (Intersect ns) p.change p.reply
      plans = outcome.plans s m (Intersect ns) material refl tt good map_is made.passes (keep_first body ns m) 0 Done own_is (kept-next body ns m) refl p makes

      pub is_map : IsMap (swap m p.change)
      is_map = outcome.is_map s m (Intersect ns) material refl tt good map_is made.passes (keep_first body ns m) 0 Done own_is (kept-next body ns m) refl p makes
