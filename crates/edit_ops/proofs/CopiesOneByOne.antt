-- Copies that are made one after another: what lies beneath the next node is as it was, and how many numbers are drawn.
use Rattle.std.proofs.Common.{◌≡◌, ℕ, zero, suc, ◌+◌, ◌-◌, ◌<◌, ◌≤◌, List, [], ◌∷◌, ◌++◌, length, map, flat_map, take, get_or, Bool, true, refl, ap, sym, ◌∙◌, subst, arith, Option, Some, None, option_map}
use Rattle.std.specs.Prelude.{unwrap_or, is_some, filter_map}
use Rattle.std.specs.List.{cons_option}
use Rattle.std.proofs.lemmas.List.{length-map, length-append, take_more}
use Rattle.algebra.specs.Members.{◌∈◌, here, there}
use Rattle.map_model.specs.Motions.{Motion, is_signed_permutation}
use Rattle.map_model.specs.Tree.{Whole, Node, Kind, at, up, children, preorder, preorder_by, kind_of, brushes_of, others_of}
use Rattle.map_model.specs.Edits.{each_in_turn, draw, put_in, renumber, renumbered, numbered_from}
use Rattle.map_model.specs.Shape.{Shape}
use Rattle.map_model.specs.Below.{Below, IsRight}
use Rattle.map_model.specs.Own.{copied_node}
use Rattle.map_laws.proofs.Lists.{member-flat}
use Rattle.map_laws.proofs.Beneath.{Beneath, itself, under}
use Rattle.map_laws.proofs.Fuel.{from_preorder, preorder_enough}
use Rattle.map_laws.proofs.Nodes.{says_parent}
use Rattle.map_laws.proofs.Skeleton.{kind_at}
use Rattle.map_laws.proofs.CopyLast.{slot_live}
use Rattle.map_laws.proofs.MovedNodes.{CanBeMoved}
use Rattle.map_laws.proofs.Copying.{AfterCopies, placed, c, rooted, live, no_parent, copies_all, begins}
use Rattle.edit_ops.specs.Copying.{copied_by, IsNext}

-- Lists. ----------------------------------------------------------------------------------------------------------------------------------

flat_same : {A B : Type 0} (f g : A → List B) (xs : List A) → ((x : A) → x ∈ xs → f x ≡ g x) → flat_map f xs ≡ flat_map g xs
flat_same f g [] h = refl
flat_same f g (x ∷ xs) h = λ i. h x here i ++ flat_same f g xs (λ y j. h y (there j)) i

there_is : {A : Type 0} (o : Option A) → is_some o ≡ true → (x : A) × (o ≡ Some x)
there_is None e = absurd (cc)
there_is (Some x) e = (x, refl)

-- Where each is there, none is left out.
all_there : {A B : Type 0} (f : A → Option B) (xs : List A) → ((x : A) → x ∈ xs → is_some (f x) ≡ true) → length (filter_map f xs) ≡ length xs
all_there f [] h = refl
all_there f (x ∷ xs) h =
    let y = there_is (f x) (h x here) in
    ap (λ o. length (cons_option o (filter_map f xs))) y.1 ∙ ap suc (all_there f xs (λ z i. h z (there i)))

-- Numbers that are drawn. -----------------------------------------------------------------------------------------------------------------

draws_next : (xs : List Node) (m : Whole) → (each_in_turn draw xs m).next ≡ m.next + length xs
draws_next [] m = let e : m.next ≡ m.next + 0 = omega arith in e
draws_next (x ∷ xs) m = draws_next xs (draw x m) ∙ (let e : (m.next + 1) + length xs ≡ m.next + suc (length xs) = omega arith in e)

copy_next : (lock : Bool) (r : Motion) (n : ℕ) (k : Whole) → ((q : ℕ) → q ∈ preorder k n → is_some (at k q) ≡ true) → (copied_by lock r n k).next ≡ k.next + length (preorder k n)
copy_next lock r n k h =
    let ns = preorder k n in
    let g = λ (x : Node). renumber (renumbered (numbered_from k.next ns)) (copied_node lock r x) in
    draws_next (map g (filter_map (at k) ns)) k ∙ ap (λ l. k.next + l) (length-map (filter_map (at k) ns) g ∙ all_there (at k) ns h)

-- One after another. ----------------------------------------------------------------------------------------------------------------------

some_kind : (o : Option Node) (k : Kind) → option_map kind_of o ≡ Some k → is_some o ≡ true
some_kind None k e = absurd (cc)
some_kind (Some x) k e = refl

flat_part : (f : ℕ → List ℕ) (xs : List ℕ) (i n : ℕ) → i < length xs → n ≡ get_or xs i n → length (flat_map f (take i xs)) + length (f n) ≤ length (flat_map f xs)
flat_part f [] i n lt is = absurd (omega arith)
flat_part f (x ∷ xs) zero n lt is =
    let a = length-append (f x) (flat_map f xs) in
    let e = ap (λ y. length (f y)) is in omega arith
flat_part f (x ∷ xs) (suc i) n lt is =
    let h = flat_part f xs i n (omega arith) is in
    let a = length-append (f x) (flat_map f (take i xs)) in
    let d = length-append (f x) (flat_map f xs) in omega arith

member_at : (xs : List ℕ) (i n : ℕ) → i < length xs → n ≡ get_or xs i n → n ∈ xs
member_at [] i n lt is = absurd (omega arith)
member_at (x ∷ xs) zero n lt is = subst (λ y. y ∈ (x ∷ xs)) (sym is) here
member_at (x ∷ xs) (suc i) n lt is = there (member_at xs i n (omega arith) is)

member_taken : (xs : List ℕ) (i n : ℕ) → n ∈ take i xs → n ∈ xs
member_taken xs zero n h = elim h [ ]
member_taken [] (suc i) n h = elim h [ ]
member_taken (x ∷ xs) (suc i) n here = here
member_taken (x ∷ xs) (suc i) n (there h) = there (member_taken xs i n h)

module _ (b : Below) (lock : Bool) (r : Motion) (m : Whole) (all : List ℕ) (right : IsRight b) (p : is_signed_permutation r.matrix ≡ true) (shape : Shape m)
    (kinds : (n : ℕ) → n ∈ all → (k : Kind) × (kind_at m n ≡ Some k) × (says_parent k ≡ true))
    (apart : (x y : ℕ) → x ∈ all → y ∈ all → Beneath (up m) x y → x ≡ y)
    (can : (q : ℕ) (x : Node) → q ∈ flat_map (preorder m) all → at m q ≡ Some x → CanBeMoved b lock r x) where
  same_at : (k : Whole) → AfterCopies m all k → (n : ℕ) → n ∈ all → (q : ℕ) → Beneath (up m) n q → at k q ≡ at m q
  same_at k s n i q w = s.nodes q (live b lock r m all right p shape kinds apart can n q i w) (no_parent b lock r m all right p shape kinds apart can n q i w)

  -- The walk beneath a named node is as it was.
  walk_by : (l : ℕ) (k : Whole) → AfterCopies m all k → (n : ℕ) → n ∈ all → (q : ℕ) → Beneath (up m) n q → preorder_by l k q ≡ preorder_by l m q
  walk_by zero k s n i q w = refl
  walk_by (suc l) k s n i q w =
      let same = ap (λ o. unwrap_or (option_map (λ y. brushes_of y ++ others_of y) o) []) (same_at k s n i q w) in
      ap (λ ns. q ∷ ns) (ap (flat_map (preorder_by l k)) same
      ∙ flat_same (preorder_by l k) (preorder_by l m) (children m q)
      (λ t j. walk_by l k s n i t (under t q ((placed b lock r m all right p shape kinds apart can).children_stand q t j) w)))

  walk : (k : Whole) → AfterCopies m all k → (n : ℕ) → n ∈ all → preorder k n ≡ preorder m n
  walk k s n i =
      let grows = s.comes.next in
      walk_by k.next k s n i n itself
      ∙ preorder_enough (c b lock r m all right p shape kinds apart can) (k.next - m.next) k.next n (rooted b lock r m all right p shape kinds apart can n i) (omega (arith, grows))

  beneath : (n q : ℕ) → n ∈ all → q ∈ preorder m n → Beneath (up m) n q
  beneath n q i j = from_preorder (c b lock r m all right p shape kinds apart can) m.next n q j

  is_there : (n q : ℕ) → n ∈ all → Beneath (up m) n q → is_some (at m q) ≡ true
  is_there n q i itself = let k = kinds n i in some_kind (at m n) k.0 k.1
  is_there n q i (under t s e w) = let k = slot_live m q s e in some_kind (at m q) k.0 k.1

  there_now : (k : Whole) → AfterCopies m all k → (n : ℕ) → n ∈ all → (q : ℕ) → q ∈ preorder k n → is_some (at k q) ≡ true
  there_now k s n i q j =
      let w = beneath n q i (subst (λ l. q ∈ l) (walk k s n i) j) in
      ap is_some (same_at k s n i q w) ∙ is_there n q i w

  -- So many numbers are drawn.
  all_next : (ns : List ℕ) → ((n : ℕ) → n ∈ ns → n ∈ all) → (k : Whole) → AfterCopies m all k → (each_in_turn (copied_by lock r) ns k).next ≡ k.next + length (flat_map (preorder m) ns)
  all_next [] sub k s = let e : k.next ≡ k.next + 0 = omega arith in e
  all_next (n ∷ ns) sub k s =
      let i = sub n here in
      let one = copies_all b lock r m all right p shape kinds apart can (n ∷ []) (λ x j. sub x (first_one x j)) k s in
      let rest = all_next ns (λ x j. sub x (there j)) (copied_by lock r n k) one in
      let step = copy_next lock r n k (there_now k s n i) ∙ ap (λ l. k.next + length l) (walk k s n i) in
      let a = length-append (preorder m n) (flat_map (preorder m) ns) in omega arith
    where
      first_one : (x : ℕ) → x ∈ (n ∷ []) → x ∈ (n ∷ ns)
      first_one x here = here
      first_one x (there j) = elim j [ ]

  pub after : (ns : List ℕ) → ((n : ℕ) → n ∈ ns → n ∈ all) → AfterCopies m all (each_in_turn (copied_by lock r) ns m)
  after ns sub = copies_all b lock r m all right p shape kinds apart can ns sub m (begins b lock r m all right p shape kinds apart can)

  pub next_after : (each_in_turn (copied_by lock r) all m).next ≡ m.next + length (flat_map (preorder m) all)
  next_after = all_next all (λ n i. i) m (begins b lock r m all right p shape kinds apart can)

  pub is_next : (i n : ℕ) → i < length all → n ≡ get_or all i n → IsNext m all n (each_in_turn (copied_by lock r) (take i all) m)
  is_next i n lt is =
      let now = each_in_turn (copied_by lock r) (take i all) m in
      let s = after (take i all) (λ x j. member_taken all i x j) in
      let named = member_at all i n lt is in
      let same_walk = walk now s n named in
      let drawn = all_next (take i all) (λ x j. member_taken all i x j) m (begins b lock r m all right p shape kinds apart can) in
      let part = flat_part (preorder m) all i n lt is in
      let counted = ap length same_walk in
      record {
        same = λ q j. same_at now s n named q (beneath n q named (subst (λ l. q ∈ l) same_walk j));
        there = λ q j. is_there n q named (beneath n q named (subst (λ l. q ∈ l) same_walk j));
        listed = λ q j. member-flat (preorder m) q n all named (subst (λ l. q ∈ l) same_walk j);
        room = omega (arith, drawn, part, counted);
      }
