-- Boxes made hollow.
use Rattle.std.proofs.Common.{◌≡◌, ℕ, zero, suc, ◌+◌, ◌^◌, ◌<◌, ◌≤◌, Bool, true, false, ◌&&◌, nat_eq, List, [], ◌∷◌, ◌++◌, length, map, take, drop, get_or, add-one, Option, Some, None, refl, sym, ap, subst, ◌∙◌, arith, ℤ, pos, ◌<ℤ◌}
use Rattle.std.proofs.lemmas.Bool.Decides.{nat_tests}
use Rattle.std.proofs.lemmas.List.{length-map, length_push, map-append}
use Rattle.algebra.specs.Members.{◌∈◌, here, there, Every}
use Rattle.algebra.specs.Space.{Homogeneous, HalfSpace, side}
use Rattle.algebra.specs.World.{InCube, world}
use Rattle.algebra.proofs.Members.{each_of_more, each_of_none, member_at}
use Rattle.trim_laws.specs.Solid.{IsIn, IsInside}
use Rattle.trim_laws.proofs.Bearing.{in_of_inside}
use Rattle.piece_laws.specs.Pieces.{AreTrimsOf, no_lists, one_solid, one_empty, piece_lists}
use Rattle.solid_brush.specs.declared.side.Side.{Side}
use Rattle.solid_brush.specs.Sides.{bounds, half_spaces, DistinctTags, no_sides, one_more_side, HaveTags, IsSolid}
use Rattle.solid_brush.specs.Blocks.{IsEmpty}
use Rattle.solid_brush.proofs.Tags.{every_map, kept_fewer}
use Rattle.csg_ops.specs.Cuts.{reversed, HasPieces}
use Rattle.csg_ops.specs.Faults.{IsFirstOverfull, overfull, later_overfull}
use Rattle.csg_ops.specs.Hollows.{is_along_axis, are_along_axes, is_box, inward, inner_box, IsInward, IsInnerBox}
use Rattle.csg_ops.proofs.Pieces.{dropped}

-- ---- tags of the box and of its inner box
each_joined : (P : Side → Type 0) (xs ys : List Side) → Every P xs → Every P ys → Every P (xs ++ ys)
each_joined P [] ys p q = q
each_joined P (x ∷ xs) ys p q = each_of_more P x (xs ++ ys) (p x here) (each_joined P xs ys (λ s m. p s (there m)) q)

distinct_joined : (xs ys : List Side) → DistinctTags xs → DistinctTags ys → Every (λ x. Every (λ y. ¬ (x.tag ≡ y.tag)) ys) xs → DistinctTags (xs ++ ys)
distinct_joined [] ys no_sides d n = d
distinct_joined (x ∷ xs) ys (one_more_side apart others) d n =
    one_more_side (each_joined (λ y. ¬ (x.tag ≡ y.tag)) xs ys apart (n x here)) (distinct_joined xs ys others d (λ s m. n s (there m)))

-- with the difference of the tags as a variable
apart_moved : (k a b : ℕ) → ¬ (a ≡ b) → ¬ (a + k ≡ b + k)
apart_moved k a b n e = n (omega arith)

not_above : (k a b : ℕ) → a < k → ¬ (a ≡ b + k)
not_above k a b l e = absurd (omega arith)

twice : (k a : ℕ) → a < k → a + k < k + k
twice k a l = omega arith

distinct_inner : (t : ℤ) {sides : List Side} → DistinctTags sides → DistinctTags (inner_box t sides)
distinct_inner t no_sides = no_sides
distinct_inner t (one_more_side {s} {sides} apart others) =
    one_more_side (every_map (inward t) (λ y. ¬ (s.tag + 2 ^ 30 ≡ y.tag)) sides (λ y m. apart_moved (2 ^ 30) s.tag y.tag (apart y m))) (distinct_inner t others)

pub hollow_tags : (t : ℤ) (sides : List Side) → HaveTags sides → Every (λ s. s.tag < 2 ^ 30) sides → HaveTags (sides ++ inner_box t sides)
hollow_tags t sides tags low = record {
  distinct = distinct_joined sides (inner_box t sides) tags.distinct (distinct_inner t tags.distinct)
      (λ x m. every_map (inward t) (λ y. ¬ (x.tag ≡ y.tag)) sides (λ y n. not_above (2 ^ 30) x.tag y.tag (low x m)));
  small = each_joined (λ s. s.tag < 2 ^ 31) sides (inner_box t sides) tags.small (every_map (inward t) (λ s. s.tag < 2 ^ 31) sides (λ y m. twice (2 ^ 30) y.tag (low y m)));
}

-- ---- normals along the axes
pub along_first : (s : Side) (sides : List Side) → is_along_axis (bounds s).normal ≡ true → are_along_axes (s ∷ sides) ≡ are_along_axes sides
along_first s sides h = ap (λ b. b && are_along_axes sides) h

pub along_none : (s : Side) (sides : List Side) → is_along_axis (bounds s).normal ≡ false → are_along_axes (s ∷ sides) ≡ false
along_none s sides h = ap (λ b. b && are_along_axes sides) h

both : (a b : Bool) → (a && b) ≡ true → (a ≡ true) × (b ≡ true)
both true b h = (refl, h)
both false b h = cc

pub each_along : (sides : List Side) → are_along_axes sides ≡ true → Every (λ s. is_along_axis (bounds s).normal ≡ true) sides
each_along [] h = each_of_none (λ s. is_along_axis (bounds s).normal ≡ true)
each_along (s ∷ sides) h = let k = both (is_along_axis (bounds s).normal) (are_along_axes sides) h in
    each_of_more (λ s. is_along_axis (bounds s).normal ≡ true) s sides k.0 (each_along sides k.1)

pub axes_of_box : (sides : List Side) → is_box sides ≡ true → are_along_axes sides ≡ true
axes_of_box sides h = (both (nat_eq (length sides) 6) (are_along_axes sides) h).1

six_plain : (n : ℕ) → nat_eq n 6 ≡ true → n ≡ 6
six_plain n h = grind (arith, nat_tests)

six : (sides : List Side) → is_box sides ≡ true → length sides ≡ 6
six sides h = six_plain (length sides) (both (nat_eq (length sides) 6) (are_along_axes sides) h).0

-- The normals from the i-th on.
pub along_next : (sides : List Side) (i : ℕ) (s : Side) → i < length sides → s ≡ get_or sides i s → is_along_axis (bounds s).normal ≡ true → are_along_axes (drop i sides) ≡ are_along_axes sides → are_along_axes (drop (i + 1) sides) ≡ are_along_axes sides
along_next sides i s l e h q = ap (λ n. are_along_axes (drop n sides)) (add-one i) ∙ sym (along_first s (drop (suc i) sides) h) ∙ ap are_along_axes (sym (dropped sides i s l e)) ∙ q

pub along_stop : (sides : List Side) (i : ℕ) (s : Side) → i < length sides → s ≡ get_or sides i s → is_along_axis (bounds s).normal ≡ false → are_along_axes (drop i sides) ≡ are_along_axes sides → false ≡ are_along_axes sides
along_stop sides i s l e h q = sym (along_none s (drop (suc i) sides) h) ∙ ap are_along_axes (sym (dropped sides i s l e)) ∙ q

pub along_end : (sides : List Side) (i : ℕ) → length sides ≤ i → are_along_axes (drop i sides) ≡ are_along_axes sides → true ≡ are_along_axes sides
along_end sides i l q = sym (ap are_along_axes (none sides i l)) ∙ q
  where
    none : (xs : List Side) (i : ℕ) → length xs ≤ i → drop i xs ≡ []
    none [] zero l = refl
    none [] (suc i) l = refl
    none (x ∷ xs) zero l = absurd (omega arith)
    none (x ∷ xs) (suc i) l = none xs i (omega arith)

-- ---- the inner box
pub inner_more : (t : ℤ) (sides : List Side) (i : ℕ) (s moved : Side) → i < length sides → s ≡ get_or sides i s → moved ≡ inward t s → inner_box t (take i sides) ++ moved ∷ [] ≡ inner_box t (take (i + 1) sides)
inner_more t sides i s moved l e q = ap (λ m. inner_box t (take i sides) ++ m ∷ []) q ∙ next sides i l e ∙ ap (λ n. inner_box t (take n sides)) (sym (add-one i))
  where
    next : (xs : List Side) (i : ℕ) → i < length xs → s ≡ get_or xs i s → inner_box t (take i xs) ++ inward t s ∷ [] ≡ inner_box t (take (suc i) xs)
    next [] i l e = absurd (omega arith)
    next (x ∷ xs) zero l e = ap (λ y. inward t y ∷ []) e
    next (x ∷ xs) (suc i) l e = ap (λ rest. inward t x ∷ rest) (next xs i (omega arith) e)

inner_member : (t : ℤ) (sides : List Side) (s : Side) → s ∈ sides → bounds (inward t s) ∈ half_spaces (inner_box t sides)
inner_member t [] s m = elim m [ ]
inner_member t (x ∷ sides) s here = here
inner_member t (x ∷ sides) s (there m) = there (inner_member t sides s m)

-- Where no point of the world is behind one of its sides, none is inside.
pub none_inner : (t : ℤ) (sides : List Side) (s : Side) → s ∈ sides → ((p : Homogeneous) → pos 0 <ℤ p.weight → InCube world p → ¬ (side (bounds (inward t s)) p <ℤ pos 0)) →
    (p : Homogeneous) → InCube world p → ¬ (IsInside (half_spaces (inner_box t sides)) p)
none_inner t sides s m none p within i = none p i.weight within (i.all (bounds (inward t s)) (inner_member t sides s m))

left_in : (a b : List Side) (f : HalfSpace) → f ∈ half_spaces a → f ∈ half_spaces (a ++ b)
left_in [] b f m = elim m [ ]
left_in (x ∷ a) b f here = here
left_in (x ∷ a) b f (there m) = there (left_in a b f m)

pub right_in : (a b : List Side) (f : HalfSpace) → f ∈ half_spaces b → f ∈ half_spaces (a ++ b)
right_in [] b f m = m
right_in (x ∷ a) b f m = there (right_in a b f m)

pub none_hollow : (a inner : List Side) → IsSolid a → ((p : Homogeneous) → InCube world p → ¬ (IsInside (half_spaces inner) p)) → IsEmpty (a ++ inner)
none_hollow a inner s none p i =
    let outer : IsInside (half_spaces a) p = record { weight = i.weight; all = λ f m. i.all f (left_in a inner f m) } in
    none p (s.brush.within p (in_of_inside outer)) (record { weight = i.weight; all = λ f m. i.all f (right_in a inner f m) })

-- ---- pieces have few faces
pub few_kept : (n : ℕ) {lists solids : List (List Side)} → AreTrimsOf bounds lists solids → Every (λ l. length l ≤ n) lists → Every (λ l. length l ≤ n) solids
few_kept n no_lists few = each_of_none (λ l. length l ≤ n)
few_kept n (one_solid {all} {kept} {lists} {solids} t more) few =
    each_of_more (λ l. length l ≤ n) kept solids (let a = few all here in let b = kept_fewer t.trim in omega arith) (few_kept n more (λ l m. few l (there m)))
few_kept n (one_empty e more) few = few_kept n more (λ l m. few l (there m))

few_lists : (n : ℕ) (a b : List Side) → length a + length b ≤ n → Every (λ l. length l ≤ n) (piece_lists reversed a b)
few_lists n a [] h = each_of_none (λ l. length l ≤ n)
few_lists n a (f ∷ b) h =
    let p = length_push a (reversed f) in let q = length_push a f in
    each_of_more (λ l. length l ≤ n) (a ++ reversed f ∷ []) (piece_lists reversed (a ++ f ∷ []) b) (omega arith) (few_lists n (a ++ f ∷ []) b (omega arith))

pub not_overfull : (n : ℕ) {solids : List (List Side)} → IsFirstOverfull n solids → Every (λ l. length l ≤ 128) solids → ⊥
not_overfull n (overfull {solid} e l) few = let k = few solid here in absurd (omega arith)
not_overfull n (later_overfull e more) few = not_overfull n more (λ l m. few l (there m))

pub few_walls : (t : ℤ) (a : List Side) (pieces : List (List Side)) → is_box a ≡ true → HasPieces a (inner_box t a) pieces → Every (λ l. length l ≤ 128) pieces
few_walls t a pieces box p =
    let e = six a box in let f = length-map a (inward t) in
    few_kept 128 p.pieces_are (few_lists 128 a (inner_box t a) (omega arith))

pub item_in : (sides : List Side) (i : ℕ) (s : Side) → i < length sides → s ≡ get_or sides i s → s ∈ sides
item_in sides i s l e = subst (λ x. x ∈ sides) (sym e) (member_at sides i s l)

pub moved_is : (t s : ℤ) (x moved : Side) (r : Option Side) → s ≡ t → IsInward (inward s x) r → r ≡ Some moved → moved ≡ inward t x
moved_is t s x moved r o h e = subst (IsInward (inward s x)) e h ∙ ap (λ u. inward u x) o

pub none_is : (t s : ℤ) (x : Side) (r : Option Side) → s ≡ t → IsInward (inward s x) r → r ≡ None → (p : Homogeneous) → pos 0 <ℤ p.weight → InCube world p → ¬ (side (bounds (inward t x)) p <ℤ pos 0)
none_is t s x r o h e = subst (λ u. IsInward (inward u x) None) o (subst (IsInward (inward s x)) e h)

-- ---- what is told of the inner box
pub some_inner : (t s : ℤ) (a sides : List Side) (r : Option (List Side)) (inner : List Side) → s ≡ t → sides ≡ a → IsInnerBox s sides r → r ≡ Some inner → inner ≡ inner_box t a
some_inner t s a sides r inner o q h e = subst (IsInnerBox s sides) e h ∙ (λ i. inner_box (o i) (q i))

pub none_thick : (t s : ℤ) (a sides : List Side) (r : Option (List Side)) → s ≡ t → sides ≡ a → IsSolid a → IsInnerBox s sides r → r ≡ None → IsEmpty (a ++ inner_box t a)
none_thick t s a sides r o q solid h e =
    none_hollow a (inner_box t a) solid (subst (λ u. IsInnerBox u a None) o (subst (λ l. IsInnerBox s l None) q (subst (IsInnerBox s sides) e h)))

pub told_box : (a sides : List Side) (r : Bool) → sides ≡ a → r ≡ is_box sides → (b : Bool) → r ≡ b → is_box a ≡ b
told_box a sides r q e b h = sym (ap is_box q) ∙ sym e ∙ h
