-- What comes of a command that moves nodes as they stand, where nothing refuses it.
use Rattle.std.proofs.Common.{◌≡◌, ℕ, ◌-◌, ◌≤◌, List, [], ◌∷◌, ◌++◌, map, flat_map, filter, Bool, true, false, cond, ◌==◌, ◌&&◌, ◌||◌, Option, None, Some, Result, Ok, Err, refl, ap, sym, subst, ◌∙◌, arith, option_map}
use Rattle.std.specs.Prelude.{unwrap_or, nat_lt, count_by}
use Rattle.std.proofs.lemmas.Bool.Decides.{nat_tests}
use Rattle.algebra.specs.Members.{◌∈◌}
use Rattle.exact_geom.specs.Planes.{half_space}
use Rattle.map_model.specs.Faces.{Face}
use Rattle.map_model.specs.Motions.{Motion, is_signed_permutation, moved_plane}
use Rattle.map_model.specs.Tree.{Whole, Node, World, Layer, Group, Entity, Brush, entity, brush, at, preorder, has_kind, is_kind, faces_of, faces_at, props_of, props_at, format_of, among, lies_beneath}
use Rattle.map_model.specs.Edits.{Changes, swap, each_in_turn, renew}
use Rattle.map_model.specs.Shape.{Shape}
use Rattle.map_model.specs.Below.{Below, IsRight}
use Rattle.map_model.specs.Commands.{Command, IsGood, Settings, Move, Turn, Flip}
use Rattle.map_model.specs.Replies.{Refusal, Done, Full, OutOfWorld, Origin}
use Rattle.map_model.specs.Rows.{rows, first, refuse, at_each, at_each_face_from, named, moved_nodes, all_moved, motion_of, moves_links, is_locked, is_movable, beyond, kind_passes}
use Rattle.map_model.specs.Origins.{is_origin_stuck}
use Rattle.map_model.specs.Own.{own, moved_node, move_node}
use Rattle.map_model.specs.Apply.{apply, full, unless, reply_of}
use Rattle.map_model.specs.Promises.{Applies, Refuses}
use Rattle.map_laws.specs.Placed.{Placed}
use Rattle.map_laws.specs.Unlinked.{Unlinked, finish_unlinked}
use Rattle.map_laws.specs.MovingCommands.{is_moving_command, moving_rows}
use Rattle.map_laws.proofs.Lists.{tally, tally-no_member, count-tally}
use Rattle.map_laws.proofs.Skeleton.{placed_of}
use Rattle.map_laws.proofs.InTurn.{by_member}
use Rattle.map_laws.proofs.Pruning.{in_turn_flat}
use Rattle.map_laws.proofs.Refused.{NodesFit, nodes_fit}
use Rattle.map_laws.proofs.RowsPass.{rows_pass}
use Rattle.map_laws.proofs.Pruned.{not_emptied, prune_none, test_kind, rooted_at}
use Rattle.map_laws.proofs.Renewing.{same_children}
use Rattle.map_laws.proofs.TreeRows.{both}
use Rattle.map_laws.proofs.Unlinking.{none_over, no_row}
use Rattle.map_laws.proofs.MovingRows.{moving_rows_are}
use Rattle.map_laws.proofs.MovedFaces.{brush_carried}
use Rattle.map_laws.proofs.MovedNodes.{moved_unlinked, keeps_moved, CanBeMoved, node_moved}
use Rattle.map_laws.proofs.MovedMaps.{Renewed, renew_once, moves_unlinked, moved_once}
use Rattle.map_laws.proofs.MovingCommands.{can_be_moved, moving_apply, moving_command}
use Rattle.map_model.proofs.SomeRight.{some_are_right}
use Rattle.tree_node.specs.Held.{IsMap}
use Rattle.tree_ops.specs.Passing.{passes}
use Rattle.tree_ops.specs.Faults.{RefusesRightly}
use Rattle.tree_ops.specs.declared.fault.OpFault.{OpFault}
use Rattle.tree_ops.specs.declared.fault.OpFault.TheVariants.{No, Memory}
use Rattle.brush_plans.specs.Saying.{Says}
use Rattle.brush_plans.specs.NamedRows.{node_rows}
use Rattle.edit_ops.specs.Moving.{is_motion, points_of, world_of, offsets_of, lost_of, origin_of, points_row, world_row, offsets_row, origins_row, motion_rows, CanMoveNode}
use Rattle.brush_plans.proofs.RowLoops.{none_drawn}
use Rattle.edit_ops.proofs.MovingRefusals.{beneath, lock_is, applied, behind, all_once, can_move}

-- What the motions do. -----------------------------------------------------------------------------------------------------------------------

record Moves (b : Below) (s : Settings) (m : Whole) (c : Command) : Type 0 where
  moving : is_moving_command c ≡ true
  own_is : own b s m c ≡ each_in_turn (λ n k. each_in_turn (move_node s m c) (preorder m n) k) (named c) m
  reply : (made : ℕ) → reply_of m c made ≡ Done

moves : (b : Below) (s : Settings) (m : Whole) (c : Command) → is_motion c ≡ true → Moves b s m c
moves b s m (Move shift ns) is = record { moving = refl; own_is = refl; reply = λ made. refl }
moves b s m (Turn axis quarters about ns) is = record { moving = refl; own_is = refl; reply = λ made. refl }
moves b s m (Flip axis place ns) is = record { moving = refl; own_is = refl; reply = λ made. refl }
moves b s m c is = absurd (cc)

pub is_moving : (c : Command) → is_motion c ≡ true → is_moving_command c ≡ true
is_moving (Move shift ns) is = refl
is_moving (Turn axis quarters about ns) is = refl
is_moving (Flip axis place ns) is = refl
is_moving c is = absurd (cc)

module _ (s : Settings) (m : Whole) (c : Command) (is : is_motion c ≡ true) (good : IsGood c) (p : is_signed_permutation (motion_of c).matrix ≡ true) (map : IsMap m) (nodes : Ok tt ≡ passes (first (node_rows m (named c))))
    (motions : Says (λ b. first (motion_rows s.lock (motion_of c) m (beneath m c) b)) (Ok tt)) where
  -- The map after it.
  abbrev pub after : Whole
  after = each_in_turn (λ q. renew q (moved_node s.lock (motion_of c))) (beneath m c) m

  own_after : (b : Below) → own b s m c ≡ after
  own_after b =
      let k = moves b s m c is in
      k.own_is ∙ in_turn_flat (move_node s m c) (preorder m) (named c) m
      ∙ (λ i. each_in_turn (λ q. renew q (moved_node (lock_is s m c map.unlinked q i) (motion_of c))) (beneath m c) m)

  renewed : (b : Below) → IsRight b → Renewed m after
  renewed b right =
      subst (Renewed m) (sym (moves_unlinked (λ q. s.lock) (motion_of c) (beneath m c) m map.unlinked))
      (renew_once (λ q. moved_unlinked s.lock (motion_of c)) (λ q. keeps_moved s.lock (motion_of c)) (beneath m c) m (all_once s m c (is_moving c is) good p map nodes motions)
      (λ q x i e. node_moved b s.lock (motion_of c) (format_of m) x right p (map.shape.each_node q x e) (can_move s m c (is_moving c is) good p map nodes motions b right q x i e)) map.shape)

  finished : (b : Below) → IsRight b → finish_unlinked m c after ≡ Ok (record { map = after; reply = Done })
  finished b right =
      let k = moves b s m c is in
      let a = (renewed b right).alike in
      ap (λ w. unless (full (w.next - 1)) (Ok (record { map = w; reply = reply_of m c (after.next - m.next) })))
      (prune_none m c after (λ q. not_emptied m after q (λ had j e empty. had (sym (same_children a q) ∙ empty))))
      ∙ ap (λ t. unless (cond t (Some (Full (after.next - 1))) None) (Ok (record { map = after; reply = reply_of m c (after.next - m.next) })))
      (none_drawn after.next (omega (arith, a.next, map.shape.numbers.most)))
      ∙ ap (λ reply. Ok (record { map = after; reply = reply })) (k.reply (after.next - m.next))

  pub applies : (change : Changes) → swap m change ≡ after → Applies s m c (Ok (record { map = swap m change; reply = Done }))
  applies change e b right =
      applied s m c (is_moving c is) good p map b right None (behind s m c (is_moving c is) good p map nodes b ∙ motions b right) ∙ ap (finish_unlinked m c) (own_after b) ∙ finished b right ∙ ap (λ w. Ok (record { map = w; reply = Done })) (sym e)

  pub stays_map : (change : Changes) → swap m change ≡ after → IsMap (swap m change)
  stays_map change e =
      let tests = some_are_right in
      let k = moves tests.tests s m c is in
      let kept = moving_command tests.tests s m c (record { map = swap m change; reply = Done }) tests.right k.moving good map.shape map.unlinked (applies change e tests.tests tests.right) in
      record { shape = kept.0; unlinked = kept.1 }

-- The same under other names.
pub after_as : (s : Settings) (m : Whole) (c : Command) (lock : Bool) (r : Motion) (qs : List ℕ) → lock ≡ s.lock → r ≡ motion_of c → qs ≡ beneath m c →
    each_in_turn (λ q. renew q (moved_node lock r)) qs m ≡ each_in_turn (λ q. renew q (moved_node s.lock (motion_of c))) (beneath m c) m
after_as s m c lock r qs el er eq = λ i. each_in_turn (λ q. renew q (moved_node (el i) (er i))) (eq i) m
