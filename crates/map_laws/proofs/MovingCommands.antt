-- The commands that move or copy nodes in space, where no group is linked: the rows say that each node can be moved.
use Rattle.std.proofs.Common.{◌≡◌, ℕ, zero, suc, ◌+◌, ◌≤◌, List, [], ◌∷◌, map, flat_map, filter, Bool, true, false, cond, not, refl, ap, sym, ◌∙◌, subst, arith, Option, Some, None, option_map, ◌||◌, ◌&&◌}
use Rattle.std.specs.Prelude.{ℤ, unwrap_or, is_none}
use Rattle.algebra.specs.Members.{◌∈◌, here, there}
use Rattle.algebra.specs.Space.{dot}
use Rattle.exact_geom.specs.declared.axis.Axis.{Axis}
use Rattle.exact_geom.specs.declared.axis.Axis.TheVariants.{X, Y, Z}
use Rattle.exact_geom.specs.Planes.{half_space, first_out_of_range}
use Rattle.map_model.specs.Faces.{Face}
use Rattle.map_model.specs.Motions.{is_signed_permutation, quarters, moved_plane}
use Rattle.map_model.specs.Tree.{Whole, Node, World, Layer, Group, Entity, Brush, brush, has_kind, at, up, preorder, faces_at, faces_of, is_kind, format_of, among}
use Rattle.map_model.specs.Edits.{each_in_turn, renew}
use Rattle.map_model.specs.Shape.{Shape}
use Rattle.map_model.specs.Below.{Below, IsRight}
use Rattle.map_model.specs.Commands.{Command, IsGood, Settings, Copy, Move, Turn, Flip}
use Rattle.map_model.specs.Replies.{Refusal, PointRange, OutOfWorld, LockOffset, kept}
use Rattle.map_model.specs.Brushes.{first_place, first_beyond}
use Rattle.map_model.specs.Carry.{lost_offset}
use Rattle.map_model.specs.Rows.{rows, first, refuse, at_each, at_each_face, at_each_face_from, named, taken, moved_nodes, all_moved, all_moved_of, motion_of, is_locked, is_movable, beyond, kind_passes, edits, moves_links}
use Rattle.map_model.specs.Own.{own, move_node, move_all_of}
use Rattle.map_laws.specs.Placed.{Placed, Bounded}
use Rattle.map_laws.specs.Unlinked.{Unlinked}
use Rattle.map_laws.specs.MovingCommands.{is_moving_command, MovingApplyLaw, MovingCommandLaw}
use Rattle.map_laws.proofs.Lists.{tally, tally-no_member}
use Rattle.map_laws.proofs.Beneath.{Beneath}
use Rattle.map_laws.proofs.Skeleton.{placed_of}
use Rattle.map_laws.proofs.InTurn.{by_member}
use Rattle.map_laws.proofs.Pruning.{in_turn_flat}
use Rattle.map_laws.proofs.Refused.{NodesFit, nodes_fit, first_none, refuse_none, each_none}
use Rattle.map_laws.proofs.RowsPass.{rows_pass}
use Rattle.map_laws.proofs.Pruned.{not_emptied, prune_none, test_kind, rooted_at}
use Rattle.map_laws.proofs.Renewing.{same_children, same_linked}
use Rattle.map_laws.proofs.MovedNodes.{moved_unlinked, keeps_moved, CanBeMoved, node_moved}
use Rattle.map_laws.proofs.MovedMaps.{Renewed, renew_once, moves_unlinked, tops_apart, moved_once}
use Rattle.map_laws.proofs.Holding.{movable_says}
use Rattle.map_laws.proofs.Copying.{copies_outcome}
use Rattle.map_laws.proofs.Unlinking.{none_over, Outcome, EndsPlainly, outcome_same, apply_is, accepted_shape}

-- What the rows tell of the faces of one brush. --------------------------------------------------------------------------------------

pub no_refusal : {A : Type 0} (f : A → Refusal) (o : Option A) → option_map f o ≡ None → o ≡ None
no_refusal f None e = refl
no_refusal f (Some x) e = absurd (cc)

pub none_by : {A : Type 0} (o : Option A) → not (is_none o) ≡ false → o ≡ None
none_by None e = refl
none_by (Some x) e = absurd (cc)

place_step : (test : Face → Bool) (g : Face) (fs : List Face) (later : Option ℕ) (k : ℕ) (t : Bool) → test g ≡ t → cond t (Some k) later ≡ None → ((f : Face) → f ∈ fs → later ≡ None → test f ≡ false) →
    (f : Face) → f ∈ (g ∷ fs) → test f ≡ false
place_step test g fs later k true s e rest f i = absurd (cc)
place_step test g fs later k false s e rest f here = s
place_step test g fs later k false s e rest f (there i) = rest f i e

pub no_place : (test : Face → Bool) (k : ℕ) (fs : List Face) → first_place test k fs ≡ None → (f : Face) → f ∈ fs → test f ≡ false
no_place test k [] e f i = elim i [ ]
no_place test k (g ∷ fs) e f i = place_step test g fs (first_place test (k + 1) fs) k (test g) refl e (λ f i h. no_place test (k + 1) fs h f i) f i

no_face : (row : ℕ → Face → Option Refusal) (k : ℕ) (fs : List Face) → at_each_face_from k fs row ≡ None → (f : Face) → f ∈ fs → (j : ℕ) × (row j f ≡ None)
no_face row k [] e f i = elim i [ ]
no_face row k (g ∷ fs) e f here = (k, (first_none (row k g) (at_each_face_from (k + 1) fs row ∷ []) e).0)
no_face row k (g ∷ fs) e f (there i) = no_face row (k + 1) fs (first_none (at_each_face_from (k + 1) fs row) [] (first_none (row k g) (at_each_face_from (k + 1) fs row ∷ []) e).1).0 f i

kept_member : (test : ℕ → Bool) (q : ℕ) (xs : List ℕ) → q ∈ xs → test q ≡ true → q ∈ filter test xs
kept_member test q [] i e = elim i [ ]
kept_member test q (x ∷ xs) here e = subst (λ b. x ∈ cond b (x ∷ filter test xs) (filter test xs)) (sym e) here
kept_member test q (x ∷ xs) (there i) e = elim (test x) as (λ b. q ∈ cond b (x ∷ filter test xs) (filter test xs)) [ true ↦ there (kept_member test q xs i e) | false ↦ kept_member test q xs i e ]

-- Nodes that are moved with all beneath them, by the rows. ---------------------------------------------------------------------------

module _ (b : Below) (s : Settings) (m : Whole) (c : Command) (right : IsRight b) (p : is_signed_permutation (motion_of c).matrix ≡ true) (shape : Shape m) (u : Unlinked m)
    (fit : NodesFit m c) (movable : (n : ℕ) → n ∈ named c → kind_passes m is_movable n ≡ true) (same_named : named c ≡ moved_nodes c) (same_taken : taken c ≡ moved_nodes c)
    (points : at_each (all_moved_of m brush c) (λ n. beyond n (moved_plane (motion_of c)) (faces_at m n)) ≡ None)
    (world : at_each (all_moved_of m brush c) (λ n. refuse (b.leaves_world (map (λ f. half_space (moved_plane (motion_of c) f.plane)) (faces_at m n))) (OutOfWorld n)) ≡ None)
    (offsets : at_each (all_moved_of m brush c) (λ n. cond (is_locked s m c n) (at_each_face m n (λ k f. option_map (λ offset. LockOffset n k (kept offset)) (lost_offset (motion_of c) f.tex))) None) ≡ None) where
  placed : Placed m
  placed = placed_of shape.standing

  bound : Bounded m
  bound = shape.numbers.nodes

  is_named : (n : ℕ) → n ∈ moved_nodes c → n ∈ named c
  is_named n i = subst (λ l. n ∈ l) (sym same_named) i

  is_taken : (n : ℕ) → n ∈ moved_nodes c → n ∈ taken c
  is_taken n i = subst (λ l. n ∈ l) (sym same_taken) i

  rooted : (n : ℕ) → n ∈ moved_nodes c → Beneath (up m) 0 n
  rooted n i = let k = test_kind is_movable m n (movable n (is_named n i)) in rooted_at m placed bound n k.0 k.1

  once : (n : ℕ) → tally n (moved_nodes c) ≤ 1
  once n = by_member n (moved_nodes c) (λ i. subst (λ l. tally n l ≤ 1) same_named (fit.once n (is_named n i))) (λ none. omega (arith, tally-no_member n (moved_nodes c) none))

  each_once : (q : ℕ) → tally q (all_moved m c) ≤ 1
  each_once q = moved_once m placed bound (moved_nodes c) rooted (λ a b i j. fit.apart a b (is_taken a i) (is_taken b j)) once q

  pub can_be_moved : (q : ℕ) (x : Node) → q ∈ all_moved m c → at m q ≡ Some x → CanBeMoved b (is_locked s m c q) (motion_of c) x
  can_be_moved q (World a d e f) i e1 = tt
  can_be_moved q (Layer a d e f g) i e1 = tt
  can_be_moved q (Group a d e f g h j) i e1 = tt
  can_be_moved q (Entity a d e f g) i e1 = tt
  can_be_moved q (Brush a mark faces) i e1 = (λ f j. record { range = range f j; offsets = λ l. offset f j l }, stays)
    where
      is : faces_at m q ≡ faces
      is = ap (λ o. unwrap_or (option_map faces_of o) []) e1

      is_listed : q ∈ all_moved_of m brush c
      is_listed = kept_member (is_kind m brush) q (all_moved m c) i (ap (λ o. unwrap_or (option_map (has_kind brush) o) false) e1)

      range : (f : Face) → f ∈ faces → first_out_of_range (moved_plane (motion_of c) f.plane) ≡ None
      range f j = none_by (first_out_of_range (moved_plane (motion_of c) f.plane))
          (no_place (λ f. not (is_none (first_out_of_range (moved_plane (motion_of c) f.plane)))) 0 faces
          (no_refusal (PointRange q) (first_beyond (moved_plane (motion_of c)) faces)
          (sym (ap (beyond q (moved_plane (motion_of c))) is) ∙ each_none (all_moved_of m brush c) (λ n. beyond n (moved_plane (motion_of c)) (faces_at m n)) points q is_listed)) f j)

      stays : b.leaves_world (map (λ f. half_space (moved_plane (motion_of c) f.plane)) faces) ≡ false
      stays = sym (ap (λ fs. b.leaves_world (map (λ f. half_space (moved_plane (motion_of c) f.plane)) fs)) is)
          ∙ refuse_none (b.leaves_world (map (λ f. half_space (moved_plane (motion_of c) f.plane)) (faces_at m q))) (OutOfWorld q)
          (each_none (all_moved_of m brush c) (λ n. refuse (b.leaves_world (map (λ f. half_space (moved_plane (motion_of c) f.plane)) (faces_at m n))) (OutOfWorld n)) world q is_listed)

      offset : (f : Face) → f ∈ faces → is_locked s m c q ≡ true → lost_offset (motion_of c) f.tex ≡ None
      offset f j l =
          let row = λ (k : ℕ) (f : Face). option_map (λ offset. LockOffset q k (kept offset)) (lost_offset (motion_of c) f.tex) in
          let here_none : at_each_face_from 0 (faces_at m q) row ≡ None =
          sym (ap (λ t. cond t (at_each_face m q row) None) l)
          ∙ each_none (all_moved_of m brush c) (λ n. cond (is_locked s m c n) (at_each_face m n (λ k f. option_map (λ offset. LockOffset n k (kept offset)) (lost_offset (motion_of c) f.tex))) None) offsets q is_listed in
          let k = no_face row 0 faces (sym (ap (λ fs. at_each_face_from 0 fs row) is) ∙ here_none) f j in
          no_refusal (λ offset. LockOffset q k.0 (kept offset)) (lost_offset (motion_of c) f.tex) k.1

  renewed : Renewed m (each_in_turn (λ q. renew q (moved_unlinked (is_locked s m c q) (motion_of c))) (all_moved m c) m)
  renewed = renew_once (λ q. moved_unlinked (is_locked s m c q) (motion_of c)) (λ q. keeps_moved (is_locked s m c q) (motion_of c)) (all_moved m c) m each_once
      (λ q x i e. node_moved b (is_locked s m c q) (motion_of c) (format_of m) x right p (shape.each_node q x e) (can_be_moved q x i e)) shape

  -- The own changes of the command, as one walk.
  is_one_walk : each_in_turn (move_all_of s m c) (moved_nodes c) m ≡ each_in_turn (λ q. renew q (moved_unlinked (is_locked s m c q) (motion_of c))) (all_moved m c) m
  is_one_walk = in_turn_flat (move_node s m c) (preorder m) (moved_nodes c) m ∙ moves_unlinked (is_locked s m c) (motion_of c) (all_moved m c) m u

  pub moving_outcome : Outcome m c (each_in_turn (move_all_of s m c) (moved_nodes c) m)
  moving_outcome =
      let k = each_in_turn (λ q. renew q (moved_unlinked (is_locked s m c q) (motion_of c))) (all_moved m c) m in
      subst (Outcome m c) (sym is_one_walk)
      (outcome_same m c k (prune_none m c k (λ q. not_emptied m k q (λ had j is none. had (sym (same_children renewed.alike q) ∙ none)))) renewed.shape (λ q. same_linked renewed.alike q ∙ u q))

-- Copies. ----------------------------------------------------------------------------------------------------------------------------

or_nothing : (b : Bool) → (b || false) ≡ b
or_nothing true = refl
or_nothing false = refl

-- A copy doesn't move with its group.
lock_alone : (s : Settings) (m : Whole) (c : Command) → Unlinked m → (q : ℕ) → is_locked s m c q ≡ s.lock
lock_alone s m c u q = ap (λ o. s.lock || elim o as (λ o. Bool) [ None ↦ false | Some g ↦ moves_links c && among g (all_moved m c) ]) (none_over m u q) ∙ or_nothing s.lock

copying : (b : Below) (s : Settings) (m : Whole) (shift : List ℤ) (ns : List ℕ) → IsRight b → Shape m → Unlinked m → first (rows b s m (Copy shift ns)) ≡ None → Outcome m (Copy shift ns) (own b s m (Copy shift ns))
copying b s m shift ns right shape u e =
    let r = rows_pass b s m (Copy shift ns) e in
    let fit = nodes_fit b s m (Copy shift ns) e in
    let kinds = λ (n : ℕ) (i : n ∈ ns). test_kind is_movable m n (fit.fit n i) in
    let rooted = λ (n : ℕ) (i : n ∈ ns). rooted_at m (placed_of shape.standing) shape.numbers.nodes n (kinds n i).0 (kinds n i).1 in
    let once = λ (n : ℕ). by_member n ns (λ i. fit.once n i) (λ none. omega (arith, tally-no_member n ns none)) in
    copies_outcome b s.lock (motion_of (Copy shift ns)) m ns right refl shape
    (λ n i. ((kinds n i).0, (kinds n i).1, movable_says (kinds n i).0 (kinds n i).2))
    (tops_apart m (placed_of shape.standing) shape.numbers.nodes ns rooted fit.apart once)
    (λ q x i is. subst (λ l. CanBeMoved b l (motion_of (Copy shift ns)) x) (lock_alone s m (Copy shift ns) u q)
    (can_be_moved b s m (Copy shift ns) right refl shape u fit fit.fit refl refl r.points r.world r.offsets q x i is))
    (Copy shift ns) u

-- The motions of commands keep lengths. ----------------------------------------------------------------------------------------------

pub quarters_turn : (axis : Axis) (n : ℕ) → n ≤ 3 → is_signed_permutation (quarters axis n) ≡ true
unfolding dot
quarters_turn X zero h = refl
quarters_turn X (suc zero) h = refl
quarters_turn X (suc (suc zero)) h = refl
quarters_turn X (suc (suc (suc zero))) h = refl
quarters_turn Y zero h = refl
quarters_turn Y (suc zero) h = refl
quarters_turn Y (suc (suc zero)) h = refl
quarters_turn Y (suc (suc (suc zero))) h = refl
quarters_turn Z zero h = refl
quarters_turn Z (suc zero) h = refl
quarters_turn Z (suc (suc zero)) h = refl
quarters_turn Z (suc (suc (suc zero))) h = refl
quarters_turn axis n h = absurd (omega arith)

pub flips_turn : (axis : Axis) (at : ℤ) (ns : List ℕ) → is_signed_permutation (motion_of (Flip axis at ns)).matrix ≡ true
flips_turn X at ns = refl
flips_turn Y at ns = refl
flips_turn Z at ns = refl

outcome : (b : Below) (s : Settings) (m : Whole) (c : Command) → IsRight b → is_moving_command c ≡ true → IsGood c → Shape m → Unlinked m → first (rows b s m c) ≡ None → Outcome m c (own b s m c)
outcome b s m (Copy shift ns) right is good shape u e = copying b s m shift ns right shape u e
outcome b s m (Move shift ns) right is good shape u e =
    let r = rows_pass b s m (Move shift ns) e in
    let fit = nodes_fit b s m (Move shift ns) e in
    moving_outcome b s m (Move shift ns) right refl shape u fit fit.fit refl refl r.points r.world r.offsets
outcome b s m (Turn axis quarters about ns) right is good shape u e =
    let r = rows_pass b s m (Turn axis quarters about ns) e in
    let fit = nodes_fit b s m (Turn axis quarters about ns) e in
    moving_outcome b s m (Turn axis quarters about ns) right (quarters_turn axis quarters good.ranges.0.1) shape u fit fit.fit refl refl r.points r.world r.offsets
outcome b s m (Flip axis at ns) right is good shape u e =
    let r = rows_pass b s m (Flip axis at ns) e in
    let fit = nodes_fit b s m (Flip axis at ns) e in
    moving_outcome b s m (Flip axis at ns) right (flips_turn axis at ns) shape u fit fit.fit refl refl r.points r.world r.offsets
outcome b s m c right is good shape u e = absurd (cc)

ends : (b : Below) (s : Settings) (m : Whole) (c : Command) → is_moving_command c ≡ true → EndsPlainly b s m c
ends b s m (Copy shift ns) is = record { accepted = refl; editing = flat_map (edits m (Copy shift ns)) ns; edits = λ k. refl }
ends b s m (Move shift ns) is = record { accepted = refl; editing = flat_map (edits m (Move shift ns)) ns; edits = λ k. refl }
ends b s m (Turn axis quarters about ns) is = record { accepted = refl; editing = flat_map (edits m (Turn axis quarters about ns)) ns; edits = λ k. refl }
ends b s m (Flip axis at ns) is = record { accepted = refl; editing = flat_map (edits m (Flip axis at ns)) ns; edits = λ k. refl }
ends b s m c is = absurd (cc)

pub moving_apply : MovingApplyLaw
moving_apply b s m c right is good shape u = apply_is b s m c (ends b s m c is) u (outcome b s m c right is good shape u)

pub moving_command : MovingCommandLaw
moving_command b s m c a right is good shape u e = accepted_shape b s m c a (outcome b s m c right is good shape u) (sym (moving_apply b s m c right is good shape u) ∙ e)
