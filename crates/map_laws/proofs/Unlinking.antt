-- Maps in which no group is linked: nothing is marked, edited or spread, so that a command is its own changes, pruned.
use Rattle.std.proofs.Common.{◌≡◌, ℕ, ◌+◌, ◌-◌, ◌≤◌, List, [], ◌∷◌, Bool, true, false, cond, ◌&&◌, refl, ap, sym, ◌∙◌, subst, arith, Option, Some, None, option_map, Ok, Err, Result, filter, map}
use Rattle.std.specs.Prelude.{unwrap_or, is_some, is_none, nat_lt, option_to_list}
use Rattle.std.specs.List.{find}
use Rattle.std.proofs.lemmas.Bool.{ltb-false, and_left}
use Rattle.uv_lock.specs.declared.texture.Format.{Format}
use Rattle.map_model.specs.Tree.{Whole, Node, World, Layer, Group, Entity, Brush, Link, at, above, over, among, mark_of, link_of, mark_at, set_at, is_linked, with_mark, all_numbers, format_of}
use Rattle.map_model.specs.Edits.{each_in_turn, renew}
use Rattle.map_model.specs.Shape.{Shape, Marks}
use Rattle.map_model.specs.Below.{Below}
use Rattle.map_model.specs.Commands.{Command, Settings}
use Rattle.map_model.specs.Replies.{Refusal, Full, EmptyLink}
use Rattle.map_model.specs.Rows.{refuse, first, at_each, named, rows}
use Rattle.map_model.specs.Links.{spread_all}
use Rattle.map_model.specs.Own.{own}
use Rattle.map_model.specs.Apply.{Applied, is_emptied, apply, apply_accepted, finish, edited, marked, unmark, total, full, empty_link, unless, with_reply, reply_of, prune}
use Rattle.map_laws.specs.Unlinked.{Unlinked, finish_unlinked, apply_unlinked}
use Rattle.map_laws.proofs.Lists.{by_eq}
use Rattle.map_laws.proofs.Forest.{not_none}
use Rattle.map_laws.proofs.Skeleton.{standing_of, not_both, placed_of}
use Rattle.map_laws.proofs.Slots.{same_whole, at-renew_same, at-renew_other, by_bool}
use Rattle.map_laws.proofs.Kept.{Comes, format_kept, each_node_kept, numbers_kept, old_set, old_mark}
use Rattle.map_laws.proofs.Refused.{accepted, refuse_none}
use Rattle.map_laws.proofs.Pruned.{Pruned}

pub filter_none : (p : ℕ → Bool) → ((x : ℕ) → p x ≡ false) → (xs : List ℕ) → filter p xs ≡ []
filter_none p h [] = refl
filter_none p h (x ∷ xs) = ap (λ b. cond b (x ∷ filter p xs) (filter p xs)) (h x) ∙ filter_none p h xs

find_none : (p : ℕ → Bool) → ((x : ℕ) → p x ≡ false) → (xs : List ℕ) → find p xs ≡ None
find_none p h [] = refl
find_none p h (x ∷ xs) = ap (λ b. cond b (Some x) (find p xs)) (h x) ∙ find_none p h xs

pub none_over : (m : Whole) → Unlinked m → (n : ℕ) → over m n ≡ None
none_over m h n = find_none (is_linked m) h (above m n)

pub no_row : (xs : List ℕ) (row : ℕ → Option Refusal) → ((x : ℕ) → row x ≡ None) → at_each xs row ≡ None
no_row [] row h = refl
no_row (x ∷ xs) row h = ap (λ r. first (r ∷ map row xs)) (h x) ∙ no_row xs row h

-- No group is left without a child, where none may be.
no_empty_link : (before : Whole) (c : Command) (m : Whole) → Unlinked before → empty_link before c m ≡ None
no_empty_link before c m u = no_row (named c) (λ n. at_each (option_to_list (over before n)) (λ g. refuse (is_emptied before m g) (EmptyLink g)))
    (λ n. ap (λ o. at_each (option_to_list o) (λ g. refuse (is_emptied before m g) (EmptyLink g))) (none_over before u n))

pub is_none_by : {A : Type 0} (o : Option A) → is_some o ≡ false → o ≡ None
is_none_by None e = refl
is_none_by (Some x) e = absurd (cc)

pub no_marks : (m : Whole) → Marks m → Unlinked m → (n : ℕ) → mark_at m n ≡ None
no_marks m h u n = is_none_by (mark_at m n) (h.marked n ∙ ap is_some (none_over m u n))

-- A link of k is one of m.
still_unlinked : {f : Format} (m k : Whole) → Comes f m k → Unlinked m → Unlinked k
still_unlinked m k c u n = by_bool (is_linked k n) (λ e. absurd (let l = linked_set (at k n) e in linked (set_at m n) (old_set c n l.0 l.1) refl)) (λ e. e)
  where
    linked_set : (o : Option Node) → unwrap_or (option_map (λ x. is_some (link_of x)) o) false ≡ true → (s : ℕ) × (option_map (λ l. l.set) (unwrap_or (option_map link_of o) None) ≡ Some s)
    linked_set None e = absurd (cc)
    linked_set (Some x) e = by (link_of x) e
      where
        by : (l : Option Link) → is_some l ≡ true → (s : ℕ) × (option_map (λ l. l.set) l ≡ Some s)
        by None e = absurd (cc)
        by (Some l) e = (l.set, refl)

    linked : {s : ℕ} (o : Option ℕ) → o ≡ Some s → set_at m n ≡ o → ⊥
    linked None e f = not_none e refl
    linked (Some s) e f = not_both (is_linked m n) (set_linked (at m n) s f) (u n)
      where
        set_linked : (o : Option Node) (s : ℕ) → option_map (λ l. l.set) (unwrap_or (option_map link_of o) None) ≡ Some s → unwrap_or (option_map (λ x. is_some (link_of x)) o) false ≡ true
        set_linked None s e = absurd (cc)
        set_linked (Some x) s e = by (link_of x) e
          where
            by : (l : Option Link) → option_map (λ l. l.set) l ≡ Some s → is_some l ≡ true
            by None e = absurd (cc)
            by (Some l) e = refl

-- Taking marks away changes nothing where there are none.
unmarked_node : (x : Node) → mark_of x ≡ None → with_mark None x ≡ x
unmarked_node (World a b c d) e = refl
unmarked_node (Layer a b c d g) e = refl
unmarked_node (Group a b c d g h i) e = ap (λ k. Group a k c d g h i) (sym e)
unmarked_node (Entity a b c d g) e = ap (λ k. Entity a k c d g) (sym e)
unmarked_node (Brush a b c) e = ap (λ k. Brush a k c) (sym e)

unmarked_slot : (o : Option Node) → unwrap_or (option_map mark_of o) None ≡ None → option_map (with_mark None) o ≡ o
unmarked_slot None e = refl
unmarked_slot (Some x) e = ap Some (unmarked_node x e)

unmark_same : (m : Whole) (n : ℕ) → mark_at m n ≡ None → unmark n m ≡ m
unmark_same m n e = by (is_none (over m n))
  where
    renewed : renew n (with_mark None) m ≡ m
    renewed = same_whole (renew n (with_mark None) m) m refl (λ q. by_eq q n
        (λ s. at-renew_same m n q (with_mark None) s ∙ unmarked_slot (at m q) (ap (mark_at m) s ∙ e))
        (λ ne. at-renew_other m n q (with_mark None) ne))

    by : (b : Bool) → cond b (renew n (with_mark None) m) m ≡ m
    by true = renewed
    by false = refl

unmark_all : (m : Whole) → ((n : ℕ) → mark_at m n ≡ None) → (ns : List ℕ) → each_in_turn unmark ns m ≡ m
unmark_all m h [] = refl
unmark_all m h (n ∷ ns) = ap (each_in_turn unmark ns) (unmark_same m n (h n)) ∙ unmark_all m h ns

-- What comes of the own changes of a command, which led from m to k.
pub record Outcome (m : Whole) (c : Command) (k : Whole) : Type 0 where
  pub unlinked : Unlinked (prune m c k)
  pub unmarked : (n : ℕ) → mark_at (prune m c k) n ≡ None
  pub shape : (prune m c k).next ≤ 65536 → Shape (prune m c k)

pub unlinked_marks : (m : Whole) → Unlinked m → ((n : ℕ) → mark_at m n ≡ None) → Marks m
unlinked_marks m u marks = record {
  not_nested = λ g l. none_over m u g;
  marked = λ n. ap is_some (marks n) ∙ sym (ap is_some (none_over m u n));
  distinct = λ g n k o1 o2 s. absurd (not_none o1 (none_over m u n));
  of_one_set = λ g h n k o1 o2 s. absurd (not_none o1 (none_over m u n));
}

pub outcome_of : (m : Whole) (c : Command) (k : Whole) → Shape m → Unlinked m → Pruned (format_of m) m c k → Outcome m c k
outcome_of m c k shape unlinked p = record {
  unlinked = u;
  unmarked = marks;
  shape = λ most. record {
    standing = standing_of p.placed (λ g is none. not_both (is_linked (prune m c k) g) (p.empties g is none).0 (u g));
    each_node = each_node_kept p.comes (format_kept p.comes (placed_of shape.standing) p.placed shape.numbers.nodes) shape.each_node;
    numbers = numbers_kept p.comes most shape.numbers;
    marks = unlinked_marks (prune m c k) u marks;
  };
}
  where
    u : Unlinked (prune m c k)
    u = still_unlinked m (prune m c k) p.comes unlinked

    marks : (n : ℕ) → mark_at (prune m c k) n ≡ None
    marks n = by (mark_at (prune m c k) n) refl
      where
        by : (o : Option ℕ) → mark_at (prune m c k) n ≡ o → o ≡ None
        by None s = refl
        by (Some j) s = absurd (not_none (old_mark p.comes n j s) (no_marks m shape.marks unlinked n))

pub outcome_same : (m : Whole) (c : Command) (k : Whole) → prune m c k ≡ k → Shape k → Unlinked k → Outcome m c k
outcome_same m c k same shape u = record {
  unlinked = subst Unlinked (sym same) u;
  unmarked = λ n. ap (λ x. mark_at x n) same ∙ no_marks k shape.marks u n;
  shape = λ most. subst Shape (sym same) shape;
}

-- Where no group is edited, what follows the own changes is pruning and the row of numbers.
pub finish_is : (b : Below) (m : Whole) (c : Command) (k : Whole) → Unlinked m → Outcome m c k → edited m c (prune m c k) ≡ [] → finish b m c k ≡ finish_unlinked m c k
finish_is b m c k u o none =
    ap (λ gs. unless (empty_link m c (prune m c k)) (unless (full (total (marked m gs (prune m c k)) gs)) (with_reply (reply_of m c (k.next - m.next)) (spread_all b gs (marked m gs (prune m c k)))))) none
    ∙ ap (λ e. unless e (unless (full (total (marked m [] (prune m c k)) [])) (with_reply (reply_of m c (k.next - m.next)) (Ok (marked m [] (prune m c k)))))) (no_empty_link m c (prune m c k) u)
    ∙ ap (λ x. unless (full ((x.next - 1) + 0)) (with_reply (reply_of m c (k.next - m.next)) (Ok x))) (unmark_all (prune m c k) o.unmarked (all_numbers (prune m c k)))
    ∙ ap (λ n. unless (full n) (with_reply (reply_of m c (k.next - m.next)) (Ok (prune m c k)))) (plus_nothing ((prune m c k).next - 1))
  where
    plus_nothing : (n : ℕ) → n + 0 ≡ n
    plus_nothing n = omega arith

-- The commands that end so: all but those that draw the marks of a new set, or that edit sets without naming a node of theirs.
pub record EndsPlainly (b : Below) (s : Settings) (m : Whole) (c : Command) : Type 0 where
  pub accepted : apply_accepted b s m c ≡ finish b m c (own b s m c)
  pub editing : List ℕ
  pub edits : (k : Whole) → edited m c k ≡ filter (λ g. is_linked k g && among g editing) (all_numbers m)

pub apply_is : (b : Below) (s : Settings) (m : Whole) (c : Command) → EndsPlainly b s m c → Unlinked m → (first (rows b s m c) ≡ None → Outcome m c (own b s m c)) → apply b s m c ≡ apply_unlinked b s m c
apply_is b s m c plain u h = by (first (rows b s m c)) refl
  where
    no_edited : Outcome m c (own b s m c) → edited m c (prune m c (own b s m c)) ≡ []
    no_edited o = plain.edits (prune m c (own b s m c)) ∙ filter_none (λ g. is_linked (prune m c (own b s m c)) g && among g plain.editing)
        (λ g. and_left (is_linked (prune m c (own b s m c)) g) (among g plain.editing) (o.unlinked g)) (all_numbers m)

    by : (r : Option Refusal) → first (rows b s m c) ≡ r → unless r (apply_accepted b s m c) ≡ unless r (finish_unlinked m c (own b s m c))
    by (Some r) e = refl
    by None e = let o = h e in plain.accepted ∙ finish_is b m c (own b s m c) u o (no_edited o)

-- The map of an accepted command.
pub accepted_shape : (b : Below) (s : Settings) (m : Whole) (c : Command) (a : Applied) → (first (rows b s m c) ≡ None → Outcome m c (own b s m c)) → apply_unlinked b s m c ≡ Ok a → Shape a.map × Unlinked a.map
accepted_shape b s m c a h e =
    let r = accepted (first (rows b s m c)) (finish_unlinked m c (own b s m c)) a e in
    let o = h r.0 in
    let f = accepted (full ((prune m c (own b s m c)).next - 1)) (Ok (record { map = prune m c (own b s m c); reply = reply_of m c ((own b s m c).next - m.next) })) a r.1 in
    let is : prune m c (own b s m c) ≡ a.map = ap (map_in (prune m c (own b s m c))) f.1 in
    let most : (prune m c (own b s m c)).next ≤ 65536 = omega (arith, ltb-false 65535 ((prune m c (own b s m c)).next - 1) (refuse_none (nat_lt 65535 ((prune m c (own b s m c)).next - 1)) (Full ((prune m c (own b s m c)).next - 1)) f.0)) in
    subst (λ x. Shape x × Unlinked x) is (o.shape most, o.unlinked)
  where
    map_in : Whole → Result Applied Refusal → Whole
    map_in x (Ok r) = r.map
    map_in x (Err r) = x
