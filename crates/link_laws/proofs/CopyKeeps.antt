-- copy keeps the sets of linked groups.
use Rattle.std.proofs.Common.{◌≡◌, ℕ, ◌+◌, ◌<◌, List, ℤ, [], ◌∷◌, map, flat_map, Bool, true, false, cond, not, ◌&&◌, ◌||◌, inl, inr, refl, ap, sym, ◌∙◌, subst, arith, Option, Some, None, option_map}
use Rattle.std.specs.Prelude.{is_none, unwrap_or, option_to_list, option_and_then}
use Rattle.std.proofs.lemmas.Bool.{cases_lt}
use Rattle.algebra.specs.Members.{◌∈◌, here, there}
use Rattle.exact_geom.specs.Planes.{half_space, first_out_of_range}
use Rattle.map_model.specs.Faces.{Face}
use Rattle.map_model.specs.Motions.{moved_plane}
use Rattle.map_model.specs.Tree.{Whole, Node, World, Layer, Group, Entity, Brush, Kind, brush, group, has_kind, at, up, over, parent_of, faces_at, faces_of, is_kind, is_linked, format_of, among}
use Rattle.map_model.specs.Shape.{Shape}
use Rattle.map_model.specs.Below.{Below}
use Rattle.map_model.specs.Commands.{Command, Settings, Copy}
use Rattle.map_model.specs.Replies.{Refusal, PointRange, OutOfWorld, LockOffset, kept}
use Rattle.map_model.specs.Brushes.{first_beyond}
use Rattle.map_model.specs.Carry.{lost_offset}
use Rattle.map_model.specs.Rows.{refuse, at_each, at_each_face, at_each_face_from, named, edits, all_moved, all_moved_of, motion_of, is_locked, is_movable, beyond}
use Rattle.map_model.specs.Own.{own}
use Rattle.map_model.specs.Apply.{prune}
use Rattle.map_laws.specs.Placed.{Placed, NoEmptyGroup}
use Rattle.map_laws.proofs.Lists.{tally-no_member}
use Rattle.map_laws.proofs.Beneath.{Beneath, itself, under}
use Rattle.map_laws.proofs.Forest.{not_none}
use Rattle.map_laws.proofs.Nodes.{says_parent}
use Rattle.map_laws.proofs.Skeleton.{kind_at, placed_of}
use Rattle.map_laws.proofs.Placing.{no_slot}
use Rattle.map_laws.proofs.Kept.{Comes}
use Rattle.map_laws.proofs.InTurn.{by_member}
use Rattle.map_laws.proofs.Refused.{nodes_fit, first_none, refuse_none, each_none}
use Rattle.map_laws.proofs.RowsPass.{rows_pass}
use Rattle.map_laws.proofs.Pruned.{test_kind, rooted_at}
use Rattle.map_laws.proofs.Holding.{movable_says, kind_p}
use Rattle.map_laws.proofs.MovedNodes.{CanBeMoved}
use Rattle.map_laws.proofs.MovedMaps.{tops_apart}
use Rattle.map_laws.proofs.MovingCommands.{no_refusal, none_by, no_place}
use Rattle.map_laws.proofs.Copying.{AfterCopies, begins, copies_all, nothing_pruned}
use Rattle.link_laws.specs.Keeping.{KeepsAllOne}
use Rattle.link_laws.proofs.Contents.{SameContent, same_by}
use Rattle.link_laws.proofs.Edited.{group_linked, not_over_by, in_option}
use Rattle.link_laws.proofs.Untouched.{Unedited, not_parent}
use Rattle.link_laws.proofs.Filtering.{member_filter}
use Rattle.link_laws.proofs.BeforeSpread.{Result, named_rooted, to_spread}
use Rattle.link_laws.proofs.TwoMembers.{one_edited}
use Rattle.link_laws.proofs.Finishing.{keeps}

no_face : (row : ℕ → Face → Option Refusal) (k : ℕ) (fs : List Face) → at_each_face_from k fs row ≡ None → (f : Face) → f ∈ fs → (j : ℕ) × (row j f ≡ None)
no_face row k [] e f i = elim i [ ]
no_face row k (g ∷ fs) e f here = (k, (first_none (row k g) (at_each_face_from (k + 1) fs row ∷ []) e).0)
no_face row k (g ∷ fs) e f (there i) = no_face row (k + 1) fs (first_none (at_each_face_from (k + 1) fs row) [] (first_none (row k g) (at_each_face_from (k + 1) fs row ∷ []) e).1).0 f i

or_nothing : (b : Bool) → (b || false) ≡ b
or_nothing true = refl
or_nothing false = refl

-- A copy doesn't move with its group.
lock_alone : (s : Settings) (m : Whole) (shift : List ℤ) (ns : List ℕ) (q : ℕ) → is_locked s m (Copy shift ns) q ≡ s.lock
lock_alone s m shift ns q = by (over m q) ∙ or_nothing s.lock
  where
    by : (o : Option ℕ) → (s.lock || elim o as (λ o. Bool) [ None ↦ false | Some g ↦ false && among g (all_moved m (Copy shift ns)) ]) ≡ (s.lock || false)
    by None = refl
    by (Some g) = refl

-- What the rows tell of the nodes that are copied.
module _ (b : Below) (s : Settings) (m : Whole) (shift : List ℤ) (ns : List ℕ)
    (points : at_each (all_moved_of m brush (Copy shift ns)) (λ n. beyond n (moved_plane (motion_of (Copy shift ns))) (faces_at m n)) ≡ None)
    (world : at_each (all_moved_of m brush (Copy shift ns)) (λ n. refuse (b.leaves_world (map (λ f. half_space (moved_plane (motion_of (Copy shift ns)) f.plane)) (faces_at m n))) (OutOfWorld n)) ≡ None)
    (offsets : at_each (all_moved_of m brush (Copy shift ns)) (λ n. cond (is_locked s m (Copy shift ns) n) (at_each_face m n (λ k f. option_map (λ offset. LockOffset n k (kept offset)) (lost_offset (motion_of (Copy shift ns)) f.tex))) None) ≡ None) where
  abbrev c : Command
  c = Copy shift ns

  can_be_copied : (q : ℕ) (x : Node) → q ∈ all_moved m c → at m q ≡ Some x → CanBeMoved b s.lock (motion_of c) x
  can_be_copied q (World a d e f) i e1 = tt
  can_be_copied q (Layer a d e f g) i e1 = tt
  can_be_copied q (Group a d e f g h j) i e1 = tt
  can_be_copied q (Entity a d e f g) i e1 = tt
  can_be_copied q (Brush a mark faces) i e1 = (λ f j. record { range = range f j; offsets = λ l. offset f j l }, stays)
    where
      is : faces_at m q ≡ faces
      is = ap (λ o. unwrap_or (option_map faces_of o) []) e1

      is_listed : q ∈ all_moved_of m brush c
      is_listed = member_filter (is_kind m brush) q (all_moved m c) i (ap (λ o. unwrap_or (option_map (has_kind brush) o) false) e1)

      range : (f : Face) → f ∈ faces → first_out_of_range (moved_plane (motion_of c) f.plane) ≡ None
      range f j = none_by (first_out_of_range (moved_plane (motion_of c) f.plane))
          (no_place (λ f. not (is_none (first_out_of_range (moved_plane (motion_of c) f.plane)))) 0 faces
          (no_refusal (PointRange q) (first_beyond (moved_plane (motion_of c)) faces)
          (sym (ap (beyond q (moved_plane (motion_of c))) is) ∙ each_none (all_moved_of m brush c) (λ n. beyond n (moved_plane (motion_of c)) (faces_at m n)) points q is_listed)) f j)

      stays : b.leaves_world (map (λ f. half_space (moved_plane (motion_of c) f.plane)) faces) ≡ false
      stays = sym (ap (λ fs. b.leaves_world (map (λ f. half_space (moved_plane (motion_of c) f.plane)) fs)) is)
          ∙ refuse_none (b.leaves_world (map (λ f. half_space (moved_plane (motion_of c) f.plane)) (faces_at m q))) (OutOfWorld q)
          (each_none (all_moved_of m brush c) (λ n. refuse (b.leaves_world (map (λ f. half_space (moved_plane (motion_of c) f.plane)) (faces_at m n))) (OutOfWorld n)) world q is_listed)

      offset : (f : Face) → f ∈ faces → s.lock ≡ true → lost_offset (motion_of c) f.tex ≡ None
      offset f j l =
          let row = λ (k : ℕ) (f : Face). option_map (λ offset. LockOffset q k (kept offset)) (lost_offset (motion_of c) f.tex) in
          let here_none : at_each_face_from 0 (faces_at m q) row ≡ None =
          sym (ap (λ t. cond t (at_each_face m q row) None) (lock_alone s m shift ns q ∙ l))
          ∙ each_none (all_moved_of m brush c) (λ n. cond (is_locked s m c n) (at_each_face m n (λ k f. option_map (λ offset. LockOffset n k (kept offset)) (lost_offset (motion_of c) f.tex))) None) offsets q is_listed in
          let k = no_face row 0 faces (sym (ap (λ fs. at_each_face_from 0 fs row) is) ∙ here_none) f j in
          no_refusal (λ offset. LockOffset q k.0 (kept offset)) (lost_offset (motion_of c) f.tex) k.1

-- A map that came by copies of some of the nodes.
module _ (m k : Whole) (c : Command) (shape : Shape m) (rooted : (n : ℕ) → n ∈ named c → Beneath (up m) 0 n) (other : (a : ℕ) → edits m c a ≡ option_to_list (over m a))
    (s : AfterCopies m (named c) k) (unpruned : prune m c k ≡ k) where
  placed : Placed m
  placed = placed_of shape.standing

  below : (q : ℕ) (j : Kind) → kind_at m q ≡ Some j → q < m.next
  below q j e = elim (cases_lt q m.next) [ inl lt ↦ lt | inr far ↦ absurd (not_none e (no_slot (at m q) (shape.numbers.nodes q far))) ]

  linked_low : (h : ℕ) → is_linked m h ≡ true → h < m.next
  linked_low h l = below h group (group_linked m h l)

  child_low : (q p : ℕ) → up m q ≡ Some p → q < m.next
  child_low q p e = elim (cases_lt q m.next) [ inl lt ↦ lt | inr far ↦ absurd (no_up (at m q) (shape.numbers.nodes q far) e) ]
    where
      no_up : (o : Option Node) → o ≡ None → option_and_then parent_of o ≡ Some p → ⊥
      no_up None e f = absurd (cc)
      no_up (Some x) e f = absurd (cc)

  low : (h : ℕ) → is_linked m h ≡ true → (q : ℕ) → Beneath (up m) h q → q < m.next
  low h l q itself = linked_low h l
  low h l q (under t p e b) = child_low q p e

  back : (h q : ℕ) → q < m.next → Beneath (up k) h q → Beneath (up m) h q
  back h q lt itself = itself
  back h q lt (under t p e b) =
      let u : up m q ≡ Some p = sym (s.ups q lt) ∙ e in
      let j = kind_p m placed q p u in
      under q p u (back h p (below p j.0 j.1) b)

  unedited : (h : ℕ) → is_linked m h ≡ true → (h ∈ flat_map (edits m c) (named c) → ⊥) → Unedited m h (named c)
  unedited h l out = record { linked = l; not_over = not_over_by m h (edits m c) (named c) (λ a e. subst (λ x. h ∈ x) (sym (other a)) (in_option (over m a) h e)) out }

  pub copies_result : Result m c k
  copies_result = record {
    pruned = record {
      placed = subst Placed (sym unpruned) s.placed;
      comes = subst (Comes (format_of m) m) (sym unpruned) s.comes;
      empties = λ g is none. absurd (subst NoEmptyGroup (sym unpruned) s.full g is none);
    };
    content = λ h l out j live. subst (SameContent h m) (sym unpruned) (same_by h m k (λ q b. s.nodes q (low h l q b)
        (λ n i e. not_parent m placed shape.numbers.nodes shape.marks h (named c) (unedited h l out) rooted n q i e b)));
    before = λ h g lh lg w. back h g (linked_low g lg) (subst (λ x. Beneath (up x) h g) unpruned w);
  }

pub copy_keeps : (shift : List ℤ) (ns : List ℕ) → KeepsAllOne (Copy shift ns)
copy_keeps shift ns b s m a right good shape all e =
    keeps b s m (Copy shift ns) a right refl (λ none empty most.
    let r = rows_pass b s m (Copy shift ns) none in
    let fit = nodes_fit b s m (Copy shift ns) none in
    let kinds = λ (n : ℕ) (i : n ∈ ns). test_kind is_movable m n (fit.fit n i) in
    let rooted = λ (n : ℕ) (i : n ∈ ns). rooted_at m (placed_of shape.standing) shape.numbers.nodes n (kinds n i).0 (kinds n i).1 in
    let once = λ (n : ℕ). by_member n ns (λ i. fit.once n i) (λ none. omega (arith, tally-no_member n ns none)) in
    let says : (n : ℕ) → n ∈ ns → (k : Kind) × (kind_at m n ≡ Some k) × (says_parent k ≡ true) = λ n i. ((kinds n i).0, (kinds n i).1, movable_says (kinds n i).0 (kinds n i).2) in
    let apart = tops_apart m (placed_of shape.standing) shape.numbers.nodes ns rooted fit.apart once in
    let can = can_be_copied b s m shift ns r.points r.world r.offsets in
    let after = copies_all b s.lock (motion_of (Copy shift ns)) m ns right refl shape says apart can ns (λ x i. i) m (begins b s.lock (motion_of (Copy shift ns)) m ns right refl shape says apart can) in
    to_spread m (Copy shift ns) (own b s m (Copy shift ns)) shape (named_rooted b s m (Copy shift ns) shape none)
    (copies_result m (own b s m (Copy shift ns)) (Copy shift ns) shape (named_rooted b s m (Copy shift ns) shape none) (λ a. refl) after
    (nothing_pruned b s.lock (motion_of (Copy shift ns)) m ns right refl shape says apart can (Copy shift ns) (own b s m (Copy shift ns)) after))
    refl all (one_edited b s m (Copy shift ns) none) empty most) e
