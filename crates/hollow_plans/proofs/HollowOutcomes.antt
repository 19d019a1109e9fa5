-- What comes of `hollow`.
use Rattle.std.proofs.Common.{◌≡◌, ℕ, ◌+◌, ◌*◌, ◌<◌, ◌≤◌, List, [], ◌∷◌, length, map, Err, true, refl, ap, sym, ◌∙◌, arith, ℤ}
use Rattle.std.proofs.lemmas.List.{length-map}
use Rattle.algebra.specs.Members.{◌∈◌, here, there}
use Rattle.map_model.specs.Tree.{Whole, faces_at}
use Rattle.map_model.specs.Edits.{swap, each_in_turn, replace_by}
use Rattle.map_model.specs.Below.{Below, IsRight}
use Rattle.map_model.specs.Brushes.{inward, is_box}
use Rattle.map_model.specs.Commands.{Settings, Hollow, IsGood}
use Rattle.map_model.specs.Replies.{Made}
use Rattle.map_model.specs.Rows.{at_each}
use Rattle.map_model.specs.Own.{own}
use Rattle.map_model.specs.Promises.{Plans}
use Rattle.map_laws.specs.BoxCommand.{KeepsMaterial}
use Rattle.map_laws.proofs.Refused.{first_none}
use Rattle.tree_node.specs.Held.{IsMap}
use Rattle.tree_ops.specs.Faults.{RefusesRightly}
use Rattle.tree_ops.specs.Passing.{passes}
use Rattle.tree_ops.specs.declared.fault.OpFault.{OpFault}
use Rattle.tree_ops.specs.declared.fault.OpFault.TheVariants.{No, Memory}
use Rattle.tree_ops.specs.declared.planned.Planned.{Planned}
use Rattle.brush_plans.specs.NamedRows.{brush_rows}
use Rattle.cut_plans.specs.Ending.{Makes, Ends}
use Rattle.cut_plans.proofs.Laws.{some_are_right}
use Rattle.cut_plans.proofs.Outcomes as outcome
use Rattle.cut_plans.proofs.ClipRows.{front_passes, front_none}
use Rattle.hollow_plans.specs.declared.walls.Hollowed.{Hollowed}
use Rattle.hollow_plans.specs.Walls.{walls_of, hollowed_by, no_box, thick_any, HaveWalls, IsHollow, put_walls, wall_count}
use Rattle.hollow_plans.proofs.BoxTests.{six}
use Rattle.hollow_plans.proofs.Pieces.{few_pieces}
use Rattle.hollow_plans.proofs.HollowRows.{are_boxes}
use Rattle.hollow_plans.proofs.PuttingWalls.{all_put-next}

-- The walls in the map.
own_puts : (b : Below) (m : Whole) (t : ℤ) (ns : List ℕ) (now : Whole) → each_in_turn (λ n. replace_by n (walls_of t b (faces_at m n))) ns now ≡ each_in_turn put_walls (map (hollowed_by m t b) ns) now
own_puts b m t [] now = refl
own_puts b m t (n ∷ ns) now = own_puts b m t ns (replace_by n (walls_of t b (faces_at m n)) now)

-- Each box has at most six.
few_each : (m : Whole) (t : ℤ) (b : Below) (ns : List ℕ) → ((n : ℕ) → n ∈ ns → is_box (faces_at m n) ≡ true) → wall_count (map (hollowed_by m t b) ns) ≤ 6 * length ns
few_each m t b [] box = omega arith
few_each m t b (n ∷ ns) box =
    omega (arith, few_pieces b (faces_at m n) (map (inward t) (faces_at m n)), length-map (faces_at m n) (inward t), six (faces_at m n) (box n here), few_each m t b ns (λ k i. box k (there i)))

module _ (s : Settings) (m : Whole) (t : ℤ) (ns : List ℕ) (material : KeepsMaterial s) (good : IsGood (Hollow t ns)) (map_is : IsMap m) where
  pub refuses : (fault : OpFault) → IsHollow m t ns (Err fault) → RefusesRightly s m (Hollow t ns) fault
  refuses (No refusal) says = outcome.refuses s m (Hollow t ns) material refl tt good map_is refusal says
  refuses Memory says = tt

  module _ (list : List Hollowed) (have : HaveWalls m t ns list) where
    boxes : (n : ℕ) → n ∈ ns → is_box (faces_at m n) ≡ true
    boxes =
        let b = some_are_right.tests in
        let pass = have.passes b some_are_right.right in
        let later = at_each ns (no_box m) ∷ thick_any m t ns b ∷ [] in
        are_boxes m ns (sym (ap passes (first_none (at_each ns (no_box m)) (thick_any m t ns b ∷ []) (sym (front_passes (brush_rows m ns) later (front_none (brush_rows m ns) later pass)) ∙ pass)).0))

    pub few : wall_count list < 65536
    few =
        let b = some_are_right.tests in
        omega (arith, ap wall_count (have.made b some_are_right.right), few_each m t b ns boxes, good.ranges.1.1)

    own_is : (b : Below) → IsRight b → own b s m (Hollow t ns) ≡ each_in_turn put_walls list m
    own_is b right = own_puts b m t ns m ∙ ap (λ l. each_in_turn put_walls l m) (have.made b right)

    next_is : (each_in_turn put_walls list m).next ≡ m.next + wall_count list
    next_is = all_put-next list m

    pub refuses_late : (fault : OpFault) → Ends m ns (each_in_turn put_walls list m) (wall_count list) (Made (wall_count list) m.next) (Err fault) → RefusesRightly s m (Hollow t ns) fault
    refuses_late fault ends =
        outcome.refuses_late s m (Hollow t ns) material refl tt good map_is have.passes (each_in_turn put_walls list m) (wall_count list) (Made (wall_count list) m.next)
        own_is next_is refl fault ends

    module _ (p : Planned) (makes : Makes m ns (each_in_turn put_walls list m) (wall_count list) (Made (wall_count list) m.next) p) where
      pub plans : Plans s m (Hollow t ns) p.change p.reply
      plans = outcome.plans s m (Hollow t ns) material refl tt good map_is have.passes (each_in_turn put_walls list m) (wall_count list) (Made (wall_count list) m.next) own_is next_is refl p makes

      pub is_map : IsMap (swap m p.change)
      is_map = outcome.is_map s m (Hollow t ns) material refl tt good map_is have.passes (each_in_turn put_walls list m) (wall_count list) (Made (wall_count list) m.next) own_is next_is refl p makes
