-- The sides of two solids together, with tags that tell them apart.
use Rattle.std.proofs.Common.{◌≡◌, ℕ, zero, suc, ◌+◌, ◌^◌, ◌<◌, ◌≤◌, List, [], ◌∷◌, ◌++◌, length, map, take, get_or, append_assoc, zero-add, arith, refl, sym, ap, subst, ◌∙◌, ⊎_elim, ◌⊎◌, inl, inr}
use Rattle.std.proofs.lemmas.List.{map-append, length-map, length-append, length-take-le, take_all, take_more}
use Rattle.algebra.specs.Members.{◌∈◌, here, there}
use Rattle.algebra.specs.Space.{Homogeneous, HalfSpace}
use Rattle.trim_laws.specs.Solid.{IsIn, IsInside, Proper, Bounded}
use Rattle.trim_laws.specs.Valid.{HasInside}
use Rattle.solid_brush.specs.declared.side.Side.{Side}
use Rattle.solid_brush.specs.Sides.{bounds, half_spaces, DistinctTags, no_sides, one_more_side, HaveTags, IsSolid}
use Rattle.touch_laws.specs.Boxes.{ShareInside}
use Rattle.touch_index.specs.Joined.{retagged}

tag_within : (k : ℕ) (sides : List Side) (s : Side) → s ∈ retagged k sides → (k ≤ s.tag) × (s.tag < k + length sides)
tag_within k [] s i = elim i [ ]
tag_within k (x ∷ sides) s here = (omega arith, omega arith)
tag_within k (x ∷ sides) s (there i) = let r = tag_within (suc k) sides s i in let a = r.0 in let b = r.1 in (omega arith, omega arith)

tags_apart : (k : ℕ) (sides : List Side) → DistinctTags (retagged k sides)
tags_apart k [] = no_sides
tags_apart k (x ∷ sides) = one_more_side (λ t i e. apart k t (tag_within (suc k) sides t i).0 e) (tags_apart (suc k) sides)
  where
    apart : (k : ℕ) (t : Side) → suc k ≤ t.tag → k ≡ t.tag → ⊥
    apart k t w e = omega arith

pub have_tags : (sides : List Side) → length sides ≤ 256 → HaveTags (retagged 0 sides)
have_tags sides few = record { distinct = tags_apart 0 sides; small = λ s i. let r = (tag_within 0 sides s i).1 in omega arith }

pub same_spaces : (k : ℕ) (sides : List Side) → half_spaces (retagged k sides) ≡ half_spaces sides
same_spaces k [] = refl
same_spaces k (x ∷ sides) = ap (λ F. bounds x ∷ F) (same_spaces (suc k) sides)

pub joined_length : (k : ℕ) (sides : List Side) → length (retagged k sides) ≡ length sides
joined_length k [] = refl
joined_length k (x ∷ sides) = ap suc (joined_length (suc k) sides)

pub joined_is : (k : ℕ) (a b : List Side) → retagged k a ++ retagged (k + length a) b ≡ retagged k (a ++ b)
joined_is k [] b = ap (λ n. retagged n b) (let e : k + 0 ≡ k = omega arith in e)
joined_is k (x ∷ a) b = ap (λ l. record x { tag = k } ∷ l) (ap (λ n. retagged (suc k) a ++ retagged n b) (let e : k + suc (length a) ≡ suc k + length a = omega arith in e) ∙ joined_is (suc k) a b)

-- ---- points inside both
in_first : {A : Type 0} (xs ys : List A) (x : A) → x ∈ xs → x ∈ (xs ++ ys)
in_first [] ys x m = elim m [ ]
in_first (y ∷ xs) ys x here = here
in_first (y ∷ xs) ys x (there m) = there (in_first xs ys x m)

in_second : {A : Type 0} (xs ys : List A) (x : A) → x ∈ ys → x ∈ (xs ++ ys)
in_second [] ys x m = m
in_second (y ∷ xs) ys x m = there (in_second xs ys x m)

in_either : {A : Type 0} (xs ys : List A) (x : A) → x ∈ (xs ++ ys) → (x ∈ xs) ⊎ (x ∈ ys)
in_either [] ys x m = inr m
in_either (y ∷ xs) ys x here = inl here
in_either (y ∷ xs) ys x (there m) = ⊎_elim (λ l. inl (there l)) inr (in_either xs ys x m)

pub inside_both : (F G : List HalfSpace) (p : Homogeneous) → IsInside F p → IsInside G p → IsInside (F ++ G) p
inside_both F G p a b = record { weight = a.weight; all = λ f m. ⊎_elim (a.all f) (b.all f) (in_either F G f m) }

pub share_of : (F G : List HalfSpace) → HasInside (F ++ G) → ShareInside F G
share_of F G h = record {
  at = h.at;
  first = record { weight = h.inside.weight; all = λ f m. h.inside.all f (in_first F G f m) };
  second = record { weight = h.inside.weight; all = λ f m. h.inside.all f (in_second F G f m) };
}

pub both_proper : (F G : List HalfSpace) → Proper F → Proper G → Proper (F ++ G)
both_proper F G a b f m = ⊎_elim (a f) (b f) (in_either F G f m)

pub first_bounds : (F G : List HalfSpace) → Bounded F → Bounded (F ++ G)
first_bounds F G b m n = let a = b m n in record { face = a.face; among = in_first F G a.face a.among; ahead = a.ahead }

-- ---- sides that are added one after another
module _ (old more now new : List Side) (i tag : ℕ) (s : Side) (is : now ≡ old ++ retagged (length old) (take i more)) (lt : i < length more) (item : s ≡ get_or more i s) where
  now_length : length now ≡ length old + i
  now_length = ap length is ∙ length-append old (retagged (length old) (take i more)) ∙ ap (λ n. length old + n) (joined_length (length old) (take i more) ∙ length-take-le i more (omega arith))

  pub few_now : length old + length more ≤ 256 → length now < 256
  few_now few = let e = now_length in omega arith

  pub add_more : tag ≡ length now → new ≡ now ++ record { plane = s.plane; tag = tag } ∷ [] → new ≡ old ++ retagged (length old) (take (i + 1) more)
  add_more at pushed =
      pushed ∙ (λ j. is j ++ record { plane = (item j).plane; tag = (at ∙ now_length ∙ ap (λ n. length old + n) (sym (length-take-le i more (omega arith)))) j } ∷ [])
      ∙ append_assoc old (retagged (length old) (take i more)) (record { plane = (get_or more i s).plane; tag = length old + length (take i more) } ∷ [])
      ∙ ap (λ l. old ++ l) (joined_is (length old) (take i more) (get_or more i s ∷ []) ∙ ap (retagged (length old)) (sym (take_more more i s lt)))

pub all_added : (old more now : List Side) (i : ℕ) → now ≡ old ++ retagged (length old) (take i more) → length more ≤ i → now ≡ old ++ retagged (length old) more
all_added old more now i is l = is ∙ ap (λ m. old ++ retagged (length old) m) (take_all i more l)

pub joined_all : (first second a b : List Side) → first ≡ [] ++ retagged 0 a → second ≡ first ++ retagged (length first) b → second ≡ retagged 0 (a ++ b)
joined_all first second a b f g = g ∙ ap (λ l. l ++ retagged (length l) b) f ∙ ap (λ n. retagged 0 a ++ retagged n b) (joined_length 0 a ∙ sym (zero-add (length a))) ∙ joined_is 0 a b

pub few_first : (first a b : List Side) → first ≡ [] ++ retagged 0 a → length a + length b ≤ 256 → length first + length b ≤ 256
few_first first a b f few = let e = ap length f ∙ joined_length 0 a in omega arith

pub some_side : (sides now : List Side) → now ≡ sides → IsSolid sides → 0 < length now
some_side sides now e solid = subst (λ l. 0 < length l) (sym e) (let a = solid.brush.least in let b = length-map sides bounds in omega arith)

pub few_both : (a b now_a now_b : List Side) → now_a ≡ a → now_b ≡ b → IsSolid a → IsSolid b → length now_a + length now_b ≤ 256
few_both a b now_a now_b e f x y = let p = ap length e in let q = ap length f in let r = x.brush.most in let s = y.brush.most in let t = length-map a bounds in let u = length-map b bounds in omega arith

pub few_start : (items a b : List Side) → items ≡ [] → length a + length b ≤ 256 → length items + length a ≤ 256
few_start items a b e few = let p : length items ≡ 0 = ap length e in omega arith

pub from_new : (items first a : List Side) → items ≡ [] → first ≡ items ++ retagged (length items) a → first ≡ [] ++ retagged 0 a
from_new items first a e f = f ∙ ap (λ l. l ++ retagged (length l) a) e

spaces_append : (a b : List Side) → half_spaces (a ++ b) ≡ half_spaces a ++ half_spaces b
spaces_append [] b = refl
spaces_append (x ∷ a) b = ap (λ F. bounds x ∷ F) (spaces_append a b)

module _ (all items x y a b : List Side) (p : all ≡ items) (q : items ≡ retagged 0 (x ++ y)) (r : x ≡ a) (s : y ≡ b) (solid_a : IsSolid a) (solid_b : IsSolid b) where
  few_sides : length (x ++ y) ≤ 256
  few_sides = let e = length-append x y in let f = few_both a b x y r s solid_a solid_b in omega arith

  pub all_few : length all ≤ 256
  all_few = let e = ap length (p ∙ q) ∙ joined_length 0 (x ++ y) in let f = few_sides in omega arith

  pub all_tags : HaveTags all
  all_tags = subst HaveTags (sym (p ∙ q)) (have_tags (x ++ y) few_sides)

  pub all_spaces : half_spaces all ≡ half_spaces a ++ half_spaces b
  all_spaces = ap half_spaces (p ∙ q) ∙ same_spaces 0 (x ++ y) ∙ spaces_append x y ∙ (λ i. half_spaces (r i) ++ half_spaces (s i))
