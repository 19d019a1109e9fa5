-- What comes of the command that copies nodes, where nothing but the numbers refuses it.
use Rattle.std.proofs.Common.{◌≡◌, ℕ, ◌+◌, ◌-◌, ◌<◌, ◌≤◌, List, length, take, get_or, Bool, true, false, cond, Option, None, Some, Result, Ok, Err, refl, ap, sym, subst, ◌∙◌, arith}
use Rattle.std.specs.Prelude.{nat_lt}
use Rattle.std.proofs.lemmas.Bool.Decides.{nat_tests}
use Rattle.algebra.specs.Members.{◌∈◌}
use Rattle.map_model.specs.Motions.{Motion, is_signed_permutation}
use Rattle.map_model.specs.Tree.{Whole}
use Rattle.map_model.specs.Edits.{Changes, swap, each_in_turn}
use Rattle.map_model.specs.Below.{Below, IsRight}
use Rattle.map_model.specs.Commands.{Command, IsGood, Settings, Copy}
use Rattle.map_model.specs.Replies.{Refusal, Made, Full}
use Rattle.map_model.specs.Rows.{first, refuse, named, motion_of}
use Rattle.map_model.specs.Own.{own}
use Rattle.map_model.specs.Apply.{apply, full, unless, reply_of}
use Rattle.map_model.specs.Promises.{Applies, Refuses}
use Rattle.map_model.proofs.SomeRight.{some_are_right}
use Rattle.map_laws.specs.Unlinked.{finish_unlinked}
use Rattle.map_laws.specs.MovingCommands.{is_moving_command}
use Rattle.map_laws.proofs.Beneath.{itself}
use Rattle.map_laws.proofs.Skeleton.{planted}
use Rattle.map_laws.proofs.Placing.{chains}
use Rattle.map_laws.proofs.Copying.{nothing_pruned}
use Rattle.map_laws.proofs.MovingCommands.{moving_command}
use Rattle.tree_node.specs.Held.{IsMap}
use Rattle.tree_ops.specs.Passing.{passes}
use Rattle.brush_plans.specs.Saying.{Says}
use Rattle.brush_plans.specs.NamedRows.{node_rows}
use Rattle.edit_ops.specs.Moving.{motion_rows}
use Rattle.edit_ops.specs.Copying.{is_copy, copied_by, IsNext}
use Rattle.edit_ops.proofs.MovingRefusals.{beneath, applied, behind, kinds, tops, can_move, placed}
use Rattle.edit_ops.proofs.CopiesOneByOne as copies

pub is_moving : (c : Command) → is_copy c ≡ true → is_moving_command c ≡ true
is_moving (Copy shift ns) is = refl
is_moving c is = absurd (cc)

own_is : (b : Below) (s : Settings) (m : Whole) (c : Command) → is_copy c ≡ true → own b s m c ≡ each_in_turn (copied_by s.lock (motion_of c)) (named c) m
own_is b s m (Copy shift ns) is = refl
own_is b s m c is = absurd (cc)

reply_is : (m : Whole) (c : Command) → is_copy c ≡ true → (made : ℕ) → reply_of m c made ≡ Made made m.next
reply_is m (Copy shift ns) is made = refl
reply_is m c is made = absurd (cc)

few : (n : ℕ) → n ≤ 65535 → nat_lt 65535 n ≡ false
few n le = grind (arith, nat_tests)

many : (n : ℕ) → 65535 < n → nat_lt 65535 n ≡ true
many n lt = grind (arith, nat_tests)

module _ (s : Settings) (m : Whole) (c : Command) (is : is_copy c ≡ true) (good : IsGood c) (p : is_signed_permutation (motion_of c).matrix ≡ true) (map : IsMap m) (nodes : Ok tt ≡ passes (first (node_rows m (named c))))
    (motions : Says (λ b. first (motion_rows s.lock (motion_of c) m (beneath m c) b)) (Ok tt)) where
  -- The map after it, and how many nodes are copied.
  abbrev pub after : Whole
  after = each_in_turn (copied_by s.lock (motion_of c)) (named c) m

  abbrev pub count : ℕ
  count = length (beneath m c)

  moving : is_moving_command c ≡ true
  moving = is_moving c is

  pub next : (i n : ℕ) → i < length (named c) → n ≡ get_or (named c) i n → IsNext m (named c) n (each_in_turn (copied_by s.lock (motion_of c)) (take i (named c)) m)
  next =
      let t = some_are_right in
      copies.is_next t.tests s.lock (motion_of c) m (named c) t.right p map.shape (kinds s m c moving good p map nodes motions) (tops s m c moving good p map nodes motions)
      (can_move s m c moving good p map nodes motions t.tests t.right)

  drawn : after.next ≡ m.next + count
  drawn =
      let t = some_are_right in
      copies.next_after t.tests s.lock (motion_of c) m (named c) t.right p map.shape (kinds s m c moving good p map nodes motions) (tops s m c moving good p map nodes motions)
      (can_move s m c moving good p map nodes motions t.tests t.right)

  some_number : 1 ≤ m.next
  some_number = (chains m (planted (placed s m c moving good p map nodes motions)) map.shape.numbers.nodes).below 0 itself

  total : after.next - 1 ≡ (m.next - 1) + count
  total = omega (arith, drawn, some_number)

  made : after.next - m.next ≡ count
  made = omega (arith, drawn)

  pruned : (b : Below) → IsRight b → finish_unlinked m c after ≡ unless (refuse (nat_lt 65535 ((m.next - 1) + count)) (Full ((m.next - 1) + count))) (Ok (record { map = after; reply = Made count m.next }))
  pruned b right =
      let same = nothing_pruned b s.lock (motion_of c) m (named c) right p map.shape (kinds s m c moving good p map nodes motions) (tops s m c moving good p map nodes motions)
      (can_move s m c moving good p map nodes motions b right) c after
      (copies.after b s.lock (motion_of c) m (named c) right p map.shape (kinds s m c moving good p map nodes motions) (tops s m c moving good p map nodes motions)
      (can_move s m c moving good p map nodes motions b right) (named c) (λ n i. i)) in
      (λ i. unless (full ((same i).next - 1)) (Ok (record { map = same i; reply = reply_of m c (after.next - m.next) })))
      ∙ (λ i. unless (full (total i)) (Ok (record { map = after; reply = (reply_is m c is (after.next - m.next) ∙ ap (λ k. Made k m.next) made) i })))

  comes : (b : Below) → IsRight b → (few_left : Bool) → nat_lt 65535 ((m.next - 1) + count) ≡ few_left →
      apply b s m c ≡ unless (refuse few_left (Full ((m.next - 1) + count))) (Ok (record { map = after; reply = Made count m.next }))
  comes b right few_left e =
      applied s m c moving good p map b right None (behind s m c moving good p map nodes b ∙ motions b right) ∙ ap (finish_unlinked m c) (own_is b s m c is) ∙ pruned b right
      ∙ ap (λ t. unless (refuse t (Full ((m.next - 1) + count))) (Ok (record { map = after; reply = Made count m.next }))) e

  pub refuses_full : (asked : ℕ) → asked ≡ (m.next - 1) + count → 65535 < asked → Refuses s m c (Full asked)
  refuses_full asked e lt = subst (λ n. Refuses s m c (Full n)) (sym e) (λ b right. comes b right true (many ((m.next - 1) + count) (subst (λ n. 65535 < n) e lt)))

  module _ (room : (m.next - 1) + count ≤ 65535) where
    pub applies : (change : Changes) → swap m change ≡ after → Applies s m c (Ok (record { map = swap m change; reply = Made count m.next }))
    applies change e b right =
        comes b right false (few ((m.next - 1) + count) room) ∙ ap (λ w. Ok (record { map = w; reply = Made count m.next })) (sym e)

    pub stays_map : (change : Changes) → swap m change ≡ after → IsMap (swap m change)
    stays_map change e =
        let t = some_are_right in
        let kept = moving_command t.tests s m c (record { map = swap m change; reply = Made count m.next }) t.right moving good map.shape map.unlinked (applies change e t.tests t.right) in
        record { shape = kept.0; unlinked = kept.1 }

    pub enough : m.next + count ≤ 65536
    enough = omega (arith, room)

-- The same under other names.
pub after_as : (s : Settings) (m : Whole) (c : Command) (lock : Bool) (r : Motion) (ns : List ℕ) → lock ≡ s.lock → r ≡ motion_of c → ns ≡ named c →
    each_in_turn (copied_by lock r) ns m ≡ each_in_turn (copied_by s.lock (motion_of c)) (named c) m
after_as s m c lock r ns el er en = λ i. each_in_turn (copied_by (el i) (er i)) (en i) m

pub next_as : (s : Settings) (m : Whole) (c : Command) (lock : Bool) (r : Motion) (ns : List ℕ) → lock ≡ s.lock → r ≡ motion_of c → ns ≡ named c →
    ((i n : ℕ) → i < length (named c) → n ≡ get_or (named c) i n → IsNext m (named c) n (each_in_turn (copied_by s.lock (motion_of c)) (take i (named c)) m)) →
    (i n : ℕ) → i < length ns → n ≡ get_or ns i n → IsNext m ns n (each_in_turn (copied_by lock r) (take i ns) m)
next_as s m c lock r ns el er en h =
    subst (λ t. t) (λ j. (i n : ℕ) → i < length (sym en j) → n ≡ get_or (sym en j) i n → IsNext m (sym en j) n (each_in_turn (copied_by (sym el j) (sym er j)) (take i (sym en j)) m)) h
