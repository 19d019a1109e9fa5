-- What refuses a command that moves or copies nodes, and what holds of the nodes where nothing does.
use Rattle.std.proofs.Common.{◌≡◌, ℕ, ◌-◌, ◌≤◌, List, [], ◌∷◌, ◌++◌, map, flat_map, filter, Bool, true, false, cond, ◌==◌, ◌&&◌, ◌||◌, Option, None, Some, Result, Ok, Err, refl, ap, sym, subst, ◌∙◌, arith, option_map}
use Rattle.std.specs.Prelude.{unwrap_or, nat_lt, count_by}
use Rattle.std.proofs.lemmas.Bool.Decides.{nat_tests}
use Rattle.algebra.specs.Members.{◌∈◌}
use Rattle.exact_geom.specs.Planes.{half_space}
use Rattle.map_model.specs.Faces.{Face}
use Rattle.map_model.specs.Motions.{Motion, is_signed_permutation, moved_plane}
use Rattle.map_model.specs.Tree.{Whole, Node, Kind, World, Layer, Group, Entity, Brush, entity, brush, at, up, preorder, has_kind, is_kind, faces_of, faces_at, props_of, props_at, format_of, among, lies_beneath}
use Rattle.map_model.specs.Edits.{Changes, swap, each_in_turn, renew}
use Rattle.map_model.specs.Shape.{Shape}
use Rattle.map_model.specs.Below.{Below, IsRight}
use Rattle.map_model.specs.Commands.{Command, IsGood, Settings, Copy, Move, Turn, Flip}
use Rattle.map_model.specs.Replies.{Refusal, Done, Full, OutOfWorld, Origin}
use Rattle.map_model.specs.Rows.{rows, first, refuse, at_each, at_each_face_from, named, moved_nodes, all_moved, motion_of, moves_links, is_locked, is_movable, beyond, kind_passes}
use Rattle.map_model.specs.Origins.{is_origin_stuck}
use Rattle.map_model.specs.Own.{own, moved_node, move_node}
use Rattle.map_model.specs.Apply.{apply, full, unless, reply_of}
use Rattle.map_model.specs.Promises.{Applies, Refuses}
use Rattle.map_laws.specs.Placed.{Placed}
use Rattle.map_laws.specs.Unlinked.{Unlinked, finish_unlinked}
use Rattle.map_laws.specs.MovingCommands.{is_moving_command, moving_rows}
use Rattle.map_laws.proofs.Lists.{tally, tally-no_member, count-tally}
use Rattle.map_laws.proofs.Beneath.{Beneath}
use Rattle.map_laws.proofs.Nodes.{says_parent}
use Rattle.map_laws.proofs.Holding.{movable_says}
use Rattle.map_laws.proofs.Skeleton.{placed_of, kind_at}
use Rattle.map_laws.proofs.InTurn.{by_member}
use Rattle.map_laws.proofs.Pruning.{in_turn_flat}
use Rattle.map_laws.proofs.Refused.{NodesFit, nodes_fit}
use Rattle.map_laws.proofs.RowsPass.{rows_pass}
use Rattle.map_laws.proofs.Pruned.{not_emptied, prune_none, test_kind, rooted_at}
use Rattle.map_laws.proofs.Renewing.{same_children}
use Rattle.map_laws.proofs.TreeRows.{both}
use Rattle.map_laws.proofs.Unlinking.{none_over, no_row}
use Rattle.map_laws.proofs.MovingRows.{moving_rows_are}
use Rattle.map_laws.proofs.MovedFaces.{brush_carried}
use Rattle.map_laws.proofs.MovedNodes.{moved_unlinked, keeps_moved, CanBeMoved, node_moved}
use Rattle.map_laws.proofs.MovedMaps.{tops_apart, moved_once}
use Rattle.map_laws.proofs.MovingCommands.{can_be_moved, moving_apply, moving_command}
use Rattle.map_model.proofs.SomeRight.{some_are_right}
use Rattle.tree_node.specs.Held.{IsMap}
use Rattle.tree_ops.specs.Passing.{passes}
use Rattle.tree_ops.specs.Faults.{RefusesRightly}
use Rattle.tree_ops.specs.declared.fault.OpFault.{OpFault}
use Rattle.tree_ops.specs.declared.fault.OpFault.TheVariants.{No, Memory}
use Rattle.brush_plans.specs.Saying.{Says}
use Rattle.brush_plans.specs.NamedRows.{node_rows}
use Rattle.edit_ops.specs.Moving.{is_motion, points_of, world_of, offsets_of, lost_of, origin_of, points_row, world_row, offsets_row, origins_row, motion_rows, CanMoveNode}
use Rattle.brush_plans.proofs.RowLoops.{no_row as none_of, that_row}

-- The rows of the command, from those over all nodes that are moved. ----------------------------------------------------------------------

-- A row over the numbers that pass a test.
one_more : (p : ℕ → Bool) (row whole : ℕ → Option Refusal) (x : ℕ) (xs : List ℕ) → cond (p x) (row x) None ≡ whole x → at_each (filter p xs) row ≡ at_each xs whole → (t : Bool) → p x ≡ t →
    at_each (cond t (x ∷ filter p xs) (filter p xs)) row ≡ first (whole x ∷ map whole xs)
one_more p row whole x xs h rest true e =
    both (row x) (map row (filter p xs)) (map whole xs) rest ∙ ap (λ r. first (r ∷ map whole xs)) (sym (ap (λ t. cond t (row x) None) e) ∙ h)
one_more p row whole x xs h rest false e = rest ∙ ap (λ r. first (r ∷ map whole xs)) (sym (ap (λ t. cond t (row x) None) e) ∙ h)

filtered : (p : ℕ → Bool) (row whole : ℕ → Option Refusal) → ((n : ℕ) → cond (p n) (row n) None ≡ whole n) → (xs : List ℕ) → at_each (filter p xs) row ≡ at_each xs whole
filtered p row whole h [] = refl
filtered p row whole h (x ∷ xs) = one_more p row whole x xs (h x) (filtered p row whole h xs) (p x) refl

points_at : (r : Motion) (n : ℕ) (o : Option Node) →
    cond (unwrap_or (option_map (has_kind brush) o) false) (beyond n (moved_plane r) (unwrap_or (option_map faces_of o) [])) None ≡ points_of r n o
points_at r n None = refl
points_at r n (Some (World a b c d)) = refl
points_at r n (Some (Layer a b c d e)) = refl
points_at r n (Some (Group a b c d e f g)) = refl
points_at r n (Some (Entity a b c d e)) = refl
points_at r n (Some (Brush a b c)) = refl

world_at : (b : Below) (r : Motion) (n : ℕ) (o : Option Node) →
    cond (unwrap_or (option_map (has_kind brush) o) false) (refuse (b.leaves_world (map (λ (f : Face). half_space (moved_plane r f.plane)) (unwrap_or (option_map faces_of o) []))) (OutOfWorld n)) None ≡ world_of r n o b
world_at t r n None = refl
world_at t r n (Some (World a b c d)) = refl
world_at t r n (Some (Layer a b c d e)) = refl
world_at t r n (Some (Group a b c d e f g)) = refl
world_at t r n (Some (Entity a b c d e)) = refl
world_at t r n (Some (Brush a b c)) = refl

offsets_at : (r : Motion) (n : ℕ) (o : Option Node) →
    cond (unwrap_or (option_map (has_kind brush) o) false) (at_each_face_from 0 (unwrap_or (option_map faces_of o) []) (lost_of r n)) None ≡ offsets_of r n o
offsets_at r n None = refl
offsets_at r n (Some (World a b c d)) = refl
offsets_at r n (Some (Layer a b c d e)) = refl
offsets_at r n (Some (Group a b c d e f g)) = refl
offsets_at r n (Some (Entity a b c d e)) = refl
offsets_at r n (Some (Brush a b c)) = refl

origin_at : (r : Motion) (n : ℕ) (o : Option Node) →
    cond (unwrap_or (option_map (has_kind entity) o) false) (refuse (is_origin_stuck r (unwrap_or (option_map props_of o) [])) (Origin n)) None ≡ origin_of r n o
origin_at r n None = refl
origin_at r n (Some (World a b c d)) = refl
origin_at r n (Some (Layer a b c d e)) = refl
origin_at r n (Some (Group a b c d e f g)) = refl
origin_at r n (Some (Entity a b c d e)) = refl
origin_at r n (Some (Brush a b c)) = refl

or_nothing : (b : Bool) → (b || false) ≡ b
or_nothing true = refl
or_nothing false = refl

-- Where no group is linked, a node is locked by the setting alone.
pub lock_is : (s : Settings) (m : Whole) (c : Command) → Unlinked m → (q : ℕ) → is_locked s m c q ≡ s.lock
lock_is s m c u q = ap (λ o. s.lock || elim o as (λ o. Bool) [ None ↦ false | Some g ↦ moves_links c && among g (all_moved m c) ]) (none_over m u q) ∙ or_nothing s.lock

abbrev locked_row : Whole → Motion → Bool → ℕ → Option Refusal
locked_row m r lock n = cond lock (at_each_face_from 0 (faces_at m n) (lost_of r n)) None

offsets_all : (r : Motion) (m : Whole) (lock : Bool) (qs : List ℕ) → at_each (filter (is_kind m brush) qs) (locked_row m r lock) ≡ offsets_row lock r m qs
offsets_all r m true qs = filtered (is_kind m brush) (locked_row m r true) (λ n. offsets_of r n (at m n)) (λ n. offsets_at r n (at m n)) qs
offsets_all r m false qs = no_row (filter (is_kind m brush) qs) (locked_row m r false) (λ n. refl)

-- What the rows on motions are for a list of all the nodes.
module _ (b : Below) (s : Settings) (m : Whole) (c : Command) (u : Unlinked m) (r : Motion) (qs : List ℕ) where
  points_are : at_each (filter (is_kind m brush) qs) (λ n. beyond n (moved_plane r) (faces_at m n)) ≡ points_row r m qs
  points_are = filtered (is_kind m brush) (λ n. beyond n (moved_plane r) (faces_at m n)) (λ n. points_of r n (at m n)) (λ n. points_at r n (at m n)) qs

  world_are : at_each (filter (is_kind m brush) qs) (λ n. refuse (b.leaves_world (map (λ (f : Face). half_space (moved_plane r f.plane)) (faces_at m n))) (OutOfWorld n)) ≡ world_row r m qs b
  world_are = filtered (is_kind m brush) (λ n. refuse (b.leaves_world (map (λ (f : Face). half_space (moved_plane r f.plane)) (faces_at m n))) (OutOfWorld n)) (λ n. world_of r n (at m n) b)
      (λ n. world_at b r n (at m n)) qs

  offsets_are : at_each (filter (is_kind m brush) qs) (λ n. locked_row m r (is_locked s m c n) n) ≡ offsets_row s.lock r m qs
  offsets_are = (λ i. at_each (filter (is_kind m brush) qs) (λ n. locked_row m r (lock_is s m c u n i) n)) ∙ offsets_all r m s.lock qs

  origins_are : at_each (filter (is_kind m entity) qs) (λ n. refuse (is_origin_stuck r (props_at m n)) (Origin n)) ≡ origins_row r m qs
  origins_are = filtered (is_kind m entity) (λ n. refuse (is_origin_stuck r (props_at m n)) (Origin n)) (λ n. origin_of r n (at m n)) (λ n. origin_at r n (at m n)) qs

-- All nodes that the command moves or copies.
abbrev pub beneath : Whole → Command → List ℕ
beneath m c = flat_map (preorder m) (named c)

abbrev all_rows : Below → Settings → Whole → Command → List (Option Refusal)
all_rows b s m c = node_rows m (named c) ++ motion_rows s.lock (motion_of c) m (beneath m c) b

rows_are : (b : Below) (s : Settings) (m : Whole) (c : Command) → is_moving_command c ≡ true → Unlinked m → first (moving_rows b s m c) ≡ first (all_rows b s m c)
rows_are b s m (Copy shift ns) is u =
    let c = Copy shift ns in
    λ i. first (node_rows m ns ++ points_are b s m c u (motion_of c) (beneath m c) i ∷ world_are b s m c u (motion_of c) (beneath m c) i ∷ offsets_are b s m c u (motion_of c) (beneath m c) i ∷ origins_are b s m c u (motion_of c) (beneath m c) i ∷ [])
rows_are b s m (Move shift ns) is u =
    let c = Move shift ns in
    λ i. first (node_rows m ns ++ points_are b s m c u (motion_of c) (beneath m c) i ∷ world_are b s m c u (motion_of c) (beneath m c) i ∷ offsets_are b s m c u (motion_of c) (beneath m c) i ∷ origins_are b s m c u (motion_of c) (beneath m c) i ∷ [])
rows_are b s m (Turn axis quarters about ns) is u =
    let c = Turn axis quarters about ns in
    λ i. first (node_rows m ns ++ points_are b s m c u (motion_of c) (beneath m c) i ∷ world_are b s m c u (motion_of c) (beneath m c) i ∷ offsets_are b s m c u (motion_of c) (beneath m c) i ∷ origins_are b s m c u (motion_of c) (beneath m c) i ∷ [])
rows_are b s m (Flip axis place ns) is u =
    let c = Flip axis place ns in
    λ i. first (node_rows m ns ++ points_are b s m c u (motion_of c) (beneath m c) i ∷ world_are b s m c u (motion_of c) (beneath m c) i ∷ offsets_are b s m c u (motion_of c) (beneath m c) i ∷ origins_are b s m c u (motion_of c) (beneath m c) i ∷ [])
rows_are b s m c is u = absurd (cc)

-- What holds of each of the four commands. ------------------------------------------------------------------------------------------------

record Names (b : Below) (s : Settings) (m : Whole) (c : Command) : Type 0 where
  same : moved_nodes c ≡ named c
  fits : NodesFit m c → (n : ℕ) → n ∈ named c → kind_passes m is_movable n ≡ true
  apart : NodesFit m c → (n k : ℕ) → n ∈ named c → k ∈ named c → lies_beneath m n k ≡ false
  can : IsRight b → is_signed_permutation (motion_of c).matrix ≡ true → Shape m → Unlinked m → first (rows b s m c) ≡ None →
      (q : ℕ) (x : Node) → q ∈ all_moved m c → at m q ≡ Some x → CanBeMoved b (is_locked s m c q) (motion_of c) x

named_by : (b : Below) (s : Settings) (m : Whole) (c : Command) → is_moving_command c ≡ true → Names b s m c
named_by b s m (Copy shift ns) is = record {
  same = refl;
  fits = λ fit. fit.fit;
  apart = λ fit. fit.apart;
  can = λ right p shape u e. let fit = nodes_fit b s m (Copy shift ns) e in let r = rows_pass b s m (Copy shift ns) e in
      can_be_moved b s m (Copy shift ns) right p shape u fit fit.fit refl refl r.points r.world r.offsets;
}
named_by b s m (Move shift ns) is = record {
  same = refl;
  fits = λ fit. fit.fit;
  apart = λ fit. fit.apart;
  can = λ right p shape u e. let fit = nodes_fit b s m (Move shift ns) e in let r = rows_pass b s m (Move shift ns) e in
      can_be_moved b s m (Move shift ns) right p shape u fit fit.fit refl refl r.points r.world r.offsets;
}
named_by b s m (Turn axis quarters about ns) is = record {
  same = refl;
  fits = λ fit. fit.fit;
  apart = λ fit. fit.apart;
  can = λ right p shape u e. let fit = nodes_fit b s m (Turn axis quarters about ns) e in let r = rows_pass b s m (Turn axis quarters about ns) e in
      can_be_moved b s m (Turn axis quarters about ns) right p shape u fit fit.fit refl refl r.points r.world r.offsets;
}
named_by b s m (Flip axis place ns) is = record {
  same = refl;
  fits = λ fit. fit.fit;
  apart = λ fit. fit.apart;
  can = λ right p shape u e. let fit = nodes_fit b s m (Flip axis place ns) e in let r = rows_pass b s m (Flip axis place ns) e in
      can_be_moved b s m (Flip axis place ns) right p shape u fit fit.fit refl refl r.points r.world r.offsets;
}
named_by b s m c is = absurd (cc)

-- Rows that are passed and rows that refuse. ------------------------------------------------------------------------------------------------

first_then : (rs ts : List (Option Refusal)) → first rs ≡ None → first (rs ++ ts) ≡ first ts
first_then [] ts e = refl
first_then (None ∷ rs) ts e = first_then rs ts e
first_then (Some r ∷ rs) ts e = absurd (cc)

first_one : (rs ts : List (Option Refusal)) (refusal : Refusal) → first rs ≡ Some refusal → first (rs ++ ts) ≡ Some refusal
first_one [] ts refusal e = absurd (cc)
first_one (None ∷ rs) ts refusal e = first_one rs ts refusal e
first_one (Some r ∷ rs) ts refusal e = e

module _ (s : Settings) (m : Whole) (c : Command) (is : is_moving_command c ≡ true) (good : IsGood c) (p : is_signed_permutation (motion_of c).matrix ≡ true) (map : IsMap m) where
  pub applied : (b : Below) → IsRight b → (r : Option Refusal) → first (all_rows b s m c) ≡ r → apply b s m c ≡ unless r (finish_unlinked m c (own b s m c))
  applied b right r e =
      moving_apply b s m c right is good map.shape map.unlinked
      ∙ ap (λ o. unless o (finish_unlinked m c (own b s m c))) (moving_rows_are b s m c is map.unlinked ∙ rows_are b s m c is map.unlinked ∙ e)

  pub refuses_nodes : (refusal : Refusal) → Err refusal ≡ passes (first (node_rows m (named c))) → Refuses s m c refusal
  refuses_nodes refusal e b right =
      applied b right (Some refusal) (first_one (node_rows m (named c)) (motion_rows s.lock (motion_of c) m (beneath m c) b) refusal (that_row (first (node_rows m (named c))) refusal e))

  module _ (nodes : Ok tt ≡ passes (first (node_rows m (named c)))) where
    pub behind : (b : Below) → first (all_rows b s m c) ≡ first (motion_rows s.lock (motion_of c) m (beneath m c) b)
    behind b = first_then (node_rows m (named c)) (motion_rows s.lock (motion_of c) m (beneath m c) b) (none_of (first (node_rows m (named c))) nodes)

    pub refuses_motion : (fault : OpFault) → Says (λ b. first (motion_rows s.lock (motion_of c) m (beneath m c) b)) (Err fault) → RefusesRightly s m c fault
    refuses_motion (No refusal) says = λ b right. applied b right (Some refusal) (behind b ∙ says b right)
    refuses_motion Memory says = tt

    module _ (motions : Says (λ b. first (motion_rows s.lock (motion_of c) m (beneath m c) b)) (Ok tt)) where
      pub none : (b : Below) → IsRight b → first (rows b s m c) ≡ None
      none b right =
          moving_rows_are b s m c is map.unlinked ∙ rows_are b s m c is map.unlinked ∙ behind b ∙ motions b right

      pub placed : Placed m
      placed = placed_of map.shape.standing

      -- No node is moved twice.
      pub all_once : (q : ℕ) → tally q (beneath m c) ≤ 1
      all_once =
          let tests = some_are_right in
          let k = named_by tests.tests s m c is in
          let fit = nodes_fit tests.tests s m c (none tests.tests tests.right) in
          moved_once m placed map.shape.numbers.nodes (named c) (λ n i. let j = test_kind is_movable m n (k.fits fit n i) in rooted_at m placed map.shape.numbers.nodes n j.0 j.1) (k.apart fit)
          (λ n. by_member n (named c) (fit.once n) (λ absent. omega (arith, tally-no_member n (named c) absent)))

      pub once : (q : ℕ) → count_by (λ k. k == q) (beneath m c) ≤ 1
      once q = omega (arith, all_once q, count-tally q (beneath m c))

      -- The named nodes say where they stand, and none lies beneath another.
      pub kinds : (n : ℕ) → n ∈ named c → (k : Kind) × (kind_at m n ≡ Some k) × (says_parent k ≡ true)
      kinds n i =
          let tests = some_are_right in
          let k = named_by tests.tests s m c is in
          let j = test_kind is_movable m n (k.fits (nodes_fit tests.tests s m c (none tests.tests tests.right)) n i) in (j.0, j.1, movable_says j.0 j.2)

      pub tops : (x y : ℕ) → x ∈ named c → y ∈ named c → Beneath (up m) x y → x ≡ y
      tops =
          let tests = some_are_right in
          let k = named_by tests.tests s m c is in
          let fit = nodes_fit tests.tests s m c (none tests.tests tests.right) in
          tops_apart m placed map.shape.numbers.nodes (named c) (λ n i. let j = kinds n i in rooted_at m placed map.shape.numbers.nodes n j.0 j.1) (k.apart fit)
          (λ n. by_member n (named c) (fit.once n) (λ absent. omega (arith, tally-no_member n (named c) absent)))

      -- Each node can be moved.
      pub can_move : (b : Below) → IsRight b → (q : ℕ) (x : Node) → q ∈ beneath m c → at m q ≡ Some x → CanBeMoved b s.lock (motion_of c) x
      can_move b right q x i e =
          let k = named_by b s m c is in
          subst (λ l. CanBeMoved b l (motion_of c) x) (lock_is s m c map.unlinked q)
          (k.can right p map.shape map.unlinked (none b right) q x (subst (λ ns. q ∈ flat_map (preorder m) ns) (sym k.same) i) e)

      can_node : (b : Below) → IsRight b → (q : ℕ) → q ∈ beneath m c → (o : Option Node) → at m q ≡ o → CanMoveNode s.lock (motion_of c) o
      can_node b right q i None e = tt
      can_node b right q i (Some (World x y z w)) e = tt
      can_node b right q i (Some (Layer x y z v w)) e = tt
      can_node b right q i (Some (Group x y z t u v w)) e = tt
      can_node b right q i (Some (Entity x y z v w)) e = tt
      can_node b right q i (Some (Brush parent mark faces)) e =
          let can = can_move b right q (Brush parent mark faces) i e in
          record {
            in_range = λ f j. (can.0 f j).range;
            offsets = λ f j. (can.0 f j).offsets;
            valid = (brush_carried b s.lock (motion_of c) (format_of m) faces right p (map.shape.each_node q (Brush parent mark faces) e) can.0 can.1).valid;
          }

      pub can : (q : ℕ) → q ∈ beneath m c → CanMoveNode s.lock (motion_of c) (at m q)
      can q i = let tests = some_are_right in can_node tests.tests tests.right q i (at m q) refl

-- The same under other names. -----------------------------------------------------------------------------------------------------------------

pub rows_as : (s : Settings) (m : Whole) (c : Command) (lock : Bool) (r : Motion) (qs : List ℕ) → lock ≡ s.lock → r ≡ motion_of c → qs ≡ beneath m c → (result : Result (Unit {0}) OpFault) →
    Says (λ b. first (motion_rows lock r m qs b)) result → Says (λ b. first (motion_rows s.lock (motion_of c) m (beneath m c) b)) result
rows_as s m c lock r qs el er eq result says = subst (λ rows. Says rows result) (λ i b. first (motion_rows (el i) (er i) m (eq i) b)) says

pub can_as : (s : Settings) (m : Whole) (c : Command) (lock : Bool) (r : Motion) (qs : List ℕ) → lock ≡ s.lock → r ≡ motion_of c → qs ≡ beneath m c →
    ((q : ℕ) → q ∈ beneath m c → CanMoveNode s.lock (motion_of c) (at m q)) → (q : ℕ) → q ∈ qs → CanMoveNode lock r (at m q)
can_as s m c lock r qs el er eq h q i = subst (λ t. t) (λ j. CanMoveNode (sym el j) (sym er j) (at m q)) (h q (subst (λ l. q ∈ l) eq i))
