-- How many numbers a command of the tree draws.
use Rattle.std.proofs.Common.{◌≡◌, ℕ, ◌+◌, ◌-◌, ◌<◌, ◌≤◌, List, [], ◌∷◌, Bool, true, false, cond, Option, None, Some, IsTrue, Result, Ok, Err, refl, ap, ap₂, sym, subst, ◌∙◌, ◌&&◌, not, arith, option_map, unwrap_or}
use Rattle.std.proofs.lemmas.Bool.Decides.{nat_tests}
use Rattle.std.specs.Prelude.{nat_lt}
use Rattle.map_model.specs.Tree.{Whole, Node, up, is_brush, is_linked, preorder, above, brushes_at, children, container}
use Rattle.map_model.specs.Tree.{Entity as PlacedEntity, Group as PlacedGroup}
use Rattle.map_model.specs.Props.{classname}
use Rattle.map_model.specs.Edits.{each_in_turn, renew, relist, without, take_out, put_in, put_last, forget, delete, move_all, swap, Changes}
use Rattle.map_model.specs.Below.{Below}
use Rattle.map_model.specs.Commands.{Command, Settings, Delete, Entity, Set, Unset, Tie, Untie, Layer, Freeze, Thaw, Group, Ungroup, Into}
use Rattle.map_model.specs.Replies.{Reply, Refusal, Full, Done, Made}
use Rattle.map_model.specs.Rows.{named, first_of}
use Rattle.map_model.specs.Own.{own, untie, ungroup, gather}
use Rattle.map_model.specs.Apply.{Applied, prune, drop_emptied, is_emptied, is_maker, full, unless, reply_of}
use Rattle.map_laws.specs.Unlinked.{finish_unlinked}
use Rattle.tree_ops.specs.TreeCommands.{is_tree_command}
use Rattle.tree_ops.specs.Planning.{made_by, reply_by}

take_out-next : (n : ℕ) (m : Whole) → (take_out n m).next ≡ m.next
take_out-next n m = by (up m n)
  where
    by : (o : Option ℕ) → (unwrap_or (option_map (λ p. renew p (relist (is_brush m n) (without n)) m) o) m).next ≡ m.next
    by None = refl
    by (Some p) = refl

forget-next : (ns : List ℕ) (m : Whole) → (forget ns m).next ≡ m.next
forget-next [] m = refl
forget-next (n ∷ ns) m = forget-next ns _

delete-next : (n : ℕ) (m : Whole) → (delete n m).next ≡ m.next
delete-next n m = forget-next (preorder m n) (take_out n m) ∙ take_out-next n m

move_all-next : (p : ℕ) (ns : List ℕ) (m : Whole) → (move_all p ns m).next ≡ m.next
move_all-next p [] m = refl
move_all-next p (n ∷ ns) m = move_all-next p ns (put_in p n (take_out n m)) ∙ take_out-next n m

each-next : (edit : ℕ → Whole → Whole) → ((n : ℕ) (m : Whole) → (edit n m).next ≡ m.next) → (ns : List ℕ) (m : Whole) → (each_in_turn edit ns m).next ≡ m.next
each-next edit keeps [] m = refl
each-next edit keeps (n ∷ ns) m = each-next edit keeps ns (edit n m) ∙ keeps n m

untie-next : (n : ℕ) (m : Whole) → (untie n m).next ≡ m.next
untie-next n m = delete-next n (move_all (unwrap_or (up m n) 0) (brushes_at m n) m) ∙ move_all-next (unwrap_or (up m n) 0) (brushes_at m n) m

ungroup-next : (n : ℕ) (m : Whole) → (ungroup n m).next ≡ m.next
ungroup-next n m = delete-next n (move_all (unwrap_or (up m n) 0) (children m n) m) ∙ move_all-next (unwrap_or (up m n) 0) (children m n) m

gather-next : (x : Node) (ns : List ℕ) (m : Whole) → (gather x ns m).next ≡ m.next + 1
gather-next x ns m = move_all-next m.next ns (put_last (container m (first_of ns)) x m)

drop_emptied-next : (before : Whole) (n : ℕ) (m : Whole) → (drop_emptied before n m).next ≡ m.next
drop_emptied-next before n m = by (is_emptied before m n && not (is_linked m n))
  where
    by : (b : Bool) → (cond b (forget (n ∷ []) (take_out n m)) m).next ≡ m.next
    by true = take_out-next n m
    by false = refl

pub prune-next : (before : Whole) (c : Command) (m : Whole) → (prune before c m).next ≡ m.next
prune-next before c m = each-next (λ n. each_in_turn (drop_emptied before) (above before n)) (λ n k. each-next (drop_emptied before) (drop_emptied-next before) (above before n) k) (named c) m

same_next : (a n : ℕ) → a ≡ n → a ≡ n + 0
same_next a n e = omega arith

pub own-next : (b : Below) (s : Settings) (m : Whole) (c : Command) → IsTrue (is_tree_command c) → (own b s m c).next ≡ m.next + made_by c
own-next b s m (Delete ns) t = same_next (each_in_turn delete ns m).next m.next (each-next delete delete-next ns m)
own-next b s m (Entity class point) t = refl
own-next b s m (Set n key value) t = same_next m.next m.next refl
own-next b s m (Unset n key) t = same_next m.next m.next refl
own-next b s m (Tie class ns) t = gather-next (PlacedEntity 0 None ((classname, class) ∷ []) [] []) ns m
own-next b s m (Untie ns) t = same_next (each_in_turn untie ns m).next m.next (each-next untie untie-next ns m)
own-next b s m (Layer name) t = refl
own-next b s m (Freeze n) t = same_next m.next m.next refl
own-next b s m (Thaw n) t = same_next m.next m.next refl
own-next b s m (Group name ns) t = gather-next (PlacedGroup 0 None name None [] [] []) ns m
own-next b s m (Ungroup ns) t = same_next (each_in_turn ungroup ns m).next m.next (each-next ungroup ungroup-next ns m)
own-next b s m (Into place ns) t = same_next (move_all place ns m).next m.next (move_all-next place ns m)
own-next b s m c t = absurd (cc)

-- The row of numbers passes, or refuses.
made_few : (c : Command) → made_by c ≤ 1
made_few c = by (is_maker c)
  where
    by : (b : Bool) → cond b 1 0 ≤ 1
    by true = omega arith
    by false = omega arith

passed : (n : ℕ) → n ≤ 65535 → nat_lt 65535 n ≡ false
passed n le = grind (arith, nat_tests)

reply_is : (m : Whole) (c : Command) (made : ℕ) → made ≡ made_by c → reply_by made m.next ≡ reply_of m c made
reply_is m c made e = ap (λ k. reply_by k m.next) e ∙ by (is_maker c) ∙ sym (ap (λ k. reply_of m c k) e)
  where
    by : (b : Bool) → reply_by (cond b 1 0) m.next ≡ cond b (Made (cond b 1 0) m.next) Done
    by true = refl
    by false = refl

drawn : (n k a : ℕ) → a ≡ n + k → a - n ≡ k
drawn n k a e = omega arith

unless_full : (n : ℕ) (next : Result Applied Refusal) → 65535 < n → unless (full n) next ≡ Err (Full n)
unless_full n next lt = ap (λ y. unless (cond y (Some (Full n)) None) next) (beyond n lt)
  where
    beyond : (n : ℕ) → 65535 < n → nat_lt 65535 n ≡ true
    beyond n lt = grind (arith, nat_tests)

unless_fits : (n : ℕ) (next : Result Applied Refusal) → n ≤ 65535 → unless (full n) next ≡ next
unless_fits n next le = ap (λ y. unless (cond y (Some (Full n)) None) next) (passed n le)

all_drawn : (next made pruned : ℕ) → made ≤ 1 → pruned ≡ next + made → 65535 < (next - 1) + made → pruned - 1 ≡ (next - 1) + made
all_drawn next made pruned few e lt = omega arith

few_drawn : (next made pruned : ℕ) → made ≤ 1 → pruned ≡ next + made → (next - 1) + made ≤ 65535 → pruned - 1 ≤ 65535
few_drawn next made pruned few e le = omega arith

module _ (b : Below) (s : Settings) (m : Whole) (c : Command) (t : IsTrue (is_tree_command c)) (made : ℕ) (is : made ≡ made_by c) where
  few : made ≤ 1
  few = subst (λ k. k ≤ 1) (sym is) (made_few c)

  own_next : (own b s m c).next ≡ m.next + made
  own_next = own-next b s m c t ∙ ap (λ k. m.next + k) (sym is)

  pruned_next : (prune m c (own b s m c)).next ≡ m.next + made
  pruned_next = prune-next m c (own b s m c) ∙ own_next

  pub ends_full : 65535 < (m.next - 1) + made → finish_unlinked m c (own b s m c) ≡ Err (Full ((m.next - 1) + made))
  ends_full lt =
      let total : (prune m c (own b s m c)).next - 1 ≡ (m.next - 1) + made = all_drawn m.next made (prune m c (own b s m c)).next few pruned_next lt in
      ap (λ n. unless (full n) (Ok (record { map = prune m c (own b s m c); reply = reply_of m c ((own b s m c).next - m.next) }))) total
      ∙ unless_full ((m.next - 1) + made) (Ok (record { map = prune m c (own b s m c); reply = reply_of m c ((own b s m c).next - m.next) })) lt

  pub ends_well : (m.next - 1) + made ≤ 65535 → (d : Changes) (r : Reply) → swap m d ≡ prune m c (own b s m c) → r ≡ reply_by made m.next →
      finish_unlinked m c (own b s m c) ≡ Ok (record { map = swap m d; reply = r })
  ends_well le d r same says =
      unless_fits ((prune m c (own b s m c)).next - 1) (Ok (record { map = prune m c (own b s m c); reply = reply_of m c ((own b s m c).next - m.next) }))
      (few_drawn m.next made (prune m c (own b s m c)).next few pruned_next le)
      ∙ ap₂ (λ x y. Ok (record { map = x; reply = y })) (sym same)
      (ap (reply_of m c) (drawn m.next made (own b s m c).next own_next) ∙ sym (reply_is m c made is) ∙ sym says)
