-- The loop of a face as it is computed from the vertices is the one that the definition of loops tells.
use Rattle.std.proofs.Common.{◌≡◌, ◌≢◌, ℕ, zero, suc, ◌+◌, ◌<◌, ◌≤◌, Bool, true, false, cond, not, ◌&&◌, ◌||◌, ◌==◌, List, [], ◌∷◌, ◌++◌, length, map, Option, Some, None, ℤ, pos, neg_ℤ, ◌*ℤ◌, ◌<ℤ◌, refl, ap, ap₂, sym, subst, ◌∙◌, arith, true≢false, ne_eqb, eqb-true, filter, rules, eq-eqb}
use Rattle.std.specs.Prelude.{slice_get, int_lt}
use Rattle.std.specs.List.{list_all, find, enumerate_from}
use Rattle.std.specs.Ordering.{int_eq}
use Rattle.std.proofs.lemmas.Int.{ints}
use Rattle.algebra.specs.Members.{◌∈◌, here, there, Every}
use Rattle.algebra.specs.Space.{HalfSpace, Homogeneous, SamePoint, side}
use Rattle.algebra.proofs.Orders.{positive-mul}
use Rattle.algebra.proofs.Points.{same_point_refl}
use Rattle.exact_geom.proofs.Unique.{one_form}
use Rattle.vertex_laws.specs.HalfEdge.{turn}
use Rattle.vertex_laws.specs.Loop.{IsNext, at_front, later, Distinct, distinct_more}
use Rattle.vertex_laws.proofs.HalfEdge.{turn-swap}
use Rattle.solid_laws.specs.Names.{AreVertices}
use Rattle.solid_laws.specs.FaceLoop.{LeastFirst, IsNumberedLoop}
use Rattle.solid_laws.proofs.Numbered.{Picks, one_number, got_member}
use Rattle.solid_laws.proofs.Round.{next_closed}
use Rattle.map_model.specs.Loops.{number_is_on, is_next, loop_from, loop_of, loop}

-- Lists. ------------------------------------------------------------------------------------------------------------------

abbrev Numbered : Type 0
Numbered = ℕ × Homogeneous

-- What a filter keeps.
kept_either : {A : Type 0} (t : Bool) (x y : A) (ys : List A) → x ∈ ys → x ∈ cond t (y ∷ ys) ys
kept_either true x y ys i = there i
kept_either false x y ys i = i

kept : {A : Type 0} (p : A → Bool) (x : A) (xs : List A) → x ∈ xs → p x ≡ true → x ∈ filter p xs
kept p x [] i e = elim i [ ]
kept p x (y ∷ xs) here e = subst (λ t. x ∈ cond t (x ∷ filter p xs) (filter p xs)) (sym e) here
kept p x (y ∷ xs) (there i) e = kept_either (p y) x y (filter p xs) (kept p x xs i e)

record Kept {A : Type 0} (p : A → Bool) (x : A) (xs : List A) : Type 0 where
  member : x ∈ xs
  passes : p x ≡ true

kept_more : {A : Type 0} (p : A → Bool) (x y : A) (xs : List A) → Kept p x xs → Kept p x (y ∷ xs)
kept_more p x y xs k = record { member = there k.member; passes = k.passes }

kept_first : {A : Type 0} (p : A → Bool) (x y : A) (xs : List A) → (x ∈ filter p xs → Kept p x xs) → p y ≡ true → x ∈ (y ∷ filter p xs) → Kept p x (y ∷ xs)
kept_first p x y xs rest e here = record { member = here; passes = e }
kept_first p x y xs rest e (there j) = kept_more p x y xs (rest j)

kept_by : {A : Type 0} (p : A → Bool) (x y : A) (xs : List A) → (x ∈ filter p xs → Kept p x xs) → (t : Bool) → p y ≡ t → x ∈ cond t (y ∷ filter p xs) (filter p xs) → Kept p x (y ∷ xs)
kept_by p x y xs rest true e j = kept_first p x y xs rest e j
kept_by p x y xs rest false e j = kept_more p x y xs (rest j)

was_kept : {A : Type 0} (p : A → Bool) (x : A) (xs : List A) → x ∈ filter p xs → Kept p x xs
was_kept p x [] i = elim i [ ]
was_kept p x (y ∷ xs) i = kept_by p x y xs (λ j. was_kept p x xs j) (p y) refl i

not_first : {A : Type 0} (p : A → Bool) (y b : A) (xs : List A) → p b ≡ true → p y ≡ false → b ∈ (y ∷ xs) → b ∈ xs
not_first p y b xs e f here = absurd (true≢false (sym e ∙ f))
not_first p y b xs e f (there j) = j

found_by : {A : Type 0} (p : A → Bool) (y b : A) (xs : List A) (t : Bool) → p y ≡ t → (p y ≡ true → y ≡ b) → (p y ≡ false → find p xs ≡ Some b) →
    cond t (Some y) (find p xs) ≡ Some b
found_by p y b xs true e here_is later_is = ap Some (here_is e)
found_by p y b xs false e here_is later_is = later_is e

found : {A : Type 0} (p : A → Bool) (xs : List A) (b : A) → b ∈ xs → p b ≡ true → ((x : A) → x ∈ xs → p x ≡ true → x ≡ b) → find p xs ≡ Some b
found p [] b i e one = elim i [ ]
found p (y ∷ xs) b i e one =
    found_by p y b xs (p y) refl (one y here) (λ f. found p xs b (not_first p y b xs e f i) e (λ x j. one x (there j)))

all_pass : {A : Type 0} (p : A → Bool) (xs : List A) → ((x : A) → x ∈ xs → p x ≡ true) → list_all p xs ≡ true
all_pass p [] each = refl
all_pass p (x ∷ xs) each = ap₂ (λ a b. a && b) (each x here) (all_pass p xs (λ y i. each y (there i)))

both_true : (a b : Bool) → (a && b) ≡ true → (a ≡ true) × (b ≡ true)
both_true true b e = (refl, e)
both_true false b e = absurd (true≢false (sym e))

each_passes : {A : Type 0} (p : A → Bool) (xs : List A) → list_all p xs ≡ true → (x : A) → x ∈ xs → p x ≡ true
each_passes p [] e x i = elim i [ ]
each_passes p (y ∷ xs) e x here = (both_true (p x) (list_all p xs) e).0
each_passes p (y ∷ xs) e x (there i) = each_passes p xs (both_true (p y) (list_all p xs) e).1 x i

-- Lists with the same members, each once, are as long. -----------------------------------------------------------------------

abbrev Once : {A : Type 0} → List A → Type 0
Once [] = Unit {0}
Once {A} (x ∷ xs) = ((y : A) → y ∈ xs → x ≢ y) × Once xs

record Cut {A : Type 0} (x : A) (ys : List A) : Type 0 where
  left : List A
  right : List A
  is : ys ≡ left ++ x ∷ right

cut_at : {A : Type 0} (x : A) (ys : List A) → x ∈ ys → Cut x ys
cut_at x [] i = elim i [ ]
cut_at x (y ∷ ys) here = record { left = []; right = ys; is = refl }
cut_at x (y ∷ ys) (there i) = let c = cut_at x ys i in record { left = y ∷ c.left; right = c.right; is = ap (λ l. y ∷ l) c.is }

still_in : {A : Type 0} (x y : A) (left right : List A) → y ∈ (left ++ x ∷ right) → x ≢ y → y ∈ (left ++ right)
still_in x y [] right here ne = absurd (ne refl)
still_in x y [] right (there i) ne = i
still_in x y (z ∷ left) right here ne = here
still_in x y (z ∷ left) right (there i) ne = there (still_in x y left right i ne)

longer : {A : Type 0} (x : A) (left right : List A) → length (left ++ x ∷ right) ≡ suc (length (left ++ right))
longer x [] right = refl
longer x (z ∷ left) right = ap suc (longer x left right)

no_longer : {A : Type 0} (xs ys : List A) → Once xs → ((x : A) → x ∈ xs → x ∈ ys) → length xs ≤ length ys
no_longer [] ys once sub = omega arith
no_longer (x ∷ xs) ys once sub =
    let c = cut_at x ys (sub x here) in
    let less = no_longer xs (c.left ++ c.right) once.1 (λ y i. still_in x y c.left c.right (subst (λ l. y ∈ l) c.is (sub y (there i))) (once.0 y i)) in
    let more = longer x c.left c.right in let size = ap length c.is in omega arith

-- Vertices with their numbers. ------------------------------------------------------------------------------------------------

-- A number and the point that has it in the list.
abbrev Has : List Homogeneous → Numbered → Type 0
Has V x = slice_get V x.0 ≡ Some x.1

numbered_from : (i : ℕ) (V : List Homogeneous) (k : ℕ) (v : Homogeneous) → slice_get V k ≡ Some v → (i + k, v) ∈ enumerate_from i V
numbered_from i [] k v e = absurd (cc)
numbered_from i (u ∷ V) zero v e =
    let same : u ≡ v = cc in let n : i ≡ i + 0 = omega arith in
    subst (λ x. x ∈ ((i, u) ∷ enumerate_from (i + 1) V)) (ap₂ (λ m p. (m, p)) n same) here
numbered_from i (u ∷ V) (suc k) v e =
    let n : (i + 1) + k ≡ i + suc k = omega arith in
    there (subst (λ m. (m, v) ∈ enumerate_from (i + 1) V) n (numbered_from (i + 1) V k v e))

record Number (i : ℕ) (V : List Homogeneous) (x : Numbered) : Type 0 where
  place : ℕ
  number : x.0 ≡ i + place
  is : slice_get V place ≡ Some x.1

number_of : (i : ℕ) (V : List Homogeneous) (x : Numbered) → x ∈ enumerate_from i V → Number i V x
number_of i [] x j = elim j [ ]
number_of i (u ∷ V) x here = record { place = 0; number = omega arith; is = refl }
number_of i (u ∷ V) x (there j) =
    let n = number_of (i + 1) V x j in let e = n.number in
    record { place = suc n.place; number = omega arith; is = n.is }

has_number : (V : List Homogeneous) (x : Numbered) → x ∈ enumerate_from 0 V → Has V x
has_number V x j =
    let n = number_of 0 V x j in let e = n.number in let same : x.0 ≡ n.place = omega arith in
    ap (slice_get V) same ∙ n.is

-- The numbers rise.
abbrev Rise : List Numbered → Type 0
Rise [] = Unit {0}
Rise (x ∷ xs) = Every (λ y. x.0 < y.0) xs × Rise xs

all_rise : (i : ℕ) (V : List Homogeneous) → Rise (enumerate_from i V)
all_rise i [] = tt
all_rise i (v ∷ V) = (λ y j. let n = number_of (i + 1) V y j in let e = n.number in omega arith, all_rise (i + 1) V)

rise_by : (p : Numbered → Bool) (x : Numbered) (xs : List Numbered) → Every (λ y. x.0 < y.0) xs → Rise (filter p xs) → (t : Bool) → Rise (cond t (x ∷ filter p xs) (filter p xs))
rise_by p x xs low rest true = (λ y j. low y (was_kept p y xs j).member, rest)
rise_by p x xs low rest false = rest

still_rise : (p : Numbered → Bool) (xs : List Numbered) → Rise xs → Rise (filter p xs)
still_rise p [] r = tt
still_rise p (x ∷ xs) r = rise_by p x xs r.0 (still_rise p xs r.1) (p x)

rise_once : (xs : List Numbered) → Rise xs → Once xs
rise_once [] r = tt
rise_once (x ∷ xs) r = (λ y i e. let lt = r.0 y i in let n : x.0 ≡ y.0 = ap (λ (z : Numbered). z.0) e in absurd (omega arith), rise_once xs r.1)

-- The vertices of a loop with their numbers.
abbrev with_numbers : List ℕ → List Homogeneous → List Numbered
with_numbers [] points = []
with_numbers (n ∷ ns) [] = []
with_numbers (n ∷ ns) (p ∷ points) = (n, p) ∷ with_numbers ns points

abbrev numbers_of : List Numbered → List ℕ
numbers_of = map (λ x. x.0)

abbrev points_of : List Numbered → List Homogeneous
points_of = map (λ x. x.1)

numbers_back : (V : List Homogeneous) (ns : List ℕ) (points : List Homogeneous) → Picks V ns points → numbers_of (with_numbers ns points) ≡ ns
numbers_back V [] points e = refl
numbers_back V (n ∷ ns) [] e = absurd (cc)
numbers_back V (n ∷ ns) (p ∷ points) e = ap (λ l. n ∷ l) (numbers_back V ns points (cc))

points_back : (V : List Homogeneous) (ns : List ℕ) (points : List Homogeneous) → Picks V ns points → points_of (with_numbers ns points) ≡ points
points_back V [] [] e = refl
points_back V [] (p ∷ points) e = absurd (cc)
points_back V (n ∷ ns) [] e = absurd (cc)
points_back V (n ∷ ns) (p ∷ points) e = ap (λ l. p ∷ l) (points_back V ns points (cc))

each_has : (V : List Homogeneous) (ns : List ℕ) (points : List Homogeneous) → Picks V ns points → Every (Has V) (with_numbers ns points)
each_has V [] points e x i = elim i [ ]
each_has V (n ∷ ns) [] e x i = elim i [ ]
each_has V (n ∷ ns) (p ∷ points) e x here = cc
each_has V (n ∷ ns) (p ∷ points) e x (there i) = each_has V ns points (cc) x i

point_in : (x : Numbered) (L : List Numbered) → x ∈ L → x.1 ∈ points_of L
point_in x [] i = elim i [ ]
point_in x (y ∷ L) here = here
point_in x (y ∷ L) (there i) = there (point_in x L i)

number_in : (x : Numbered) (L : List Numbered) → x ∈ L → x.0 ∈ numbers_of L
number_in x [] i = elim i [ ]
number_in x (y ∷ L) here = here
number_in x (y ∷ L) (there i) = there (number_in x L i)

record Standing (p : Homogeneous) (L : List Numbered) : Type 0 where
  number : ℕ
  member : (number, p) ∈ L

stands : (p : Homogeneous) (L : List Numbered) → p ∈ points_of L → Standing p L
stands p [] i = elim i [ ]
stands p (x ∷ L) here = record { number = x.0; member = here }
stands p (x ∷ L) (there i) = let s = stands p L i in record { number = s.number; member = there s.member }

next_in : (a b : Numbered) (before after : List Numbered) → IsNext a.1 b.1 (points_of (before ++ a ∷ b ∷ after))
next_in a b [] after = at_front
next_in a b (x ∷ before) after = later (next_in a b before after)

-- Tests on numbers that stand in a rule of their own.
not_same : (a b : ℕ) → a ≢ b → (a == b) ≡ false
not_same a b ne = ne_eqb a b ne

is_positive : (z : ℤ) → pos 0 <ℤ z → int_lt (pos 0) z ≡ true
is_positive z h = search rules

is_zero : (z : ℤ) → int_eq z (pos 0) ≡ true → z ≡ pos 0
is_zero z h = search rules

positive_is : (z : ℤ) → int_lt (pos 0) z ≡ true → pos 0 <ℤ z
positive_is z h = search rules

three : (s t u : Bool) → (s ≡ false → t ≡ false → u ≡ true) → (s || (t || u)) ≡ true
three true t u h = refl
three false true u h = refl
three false false u h = h refl refl

last_of_three : (s t u : Bool) → s ≡ false → t ≡ false → (s || (t || u)) ≡ true → u ≡ true
last_of_three true t u e f h = absurd (true≢false e)
last_of_three false true u e f h = absurd (true≢false f)
last_of_three false false u e f h = h

untrue : (b : Bool) → not b ≡ true → b ≡ false
untrue true e = sym e
untrue false e = refl

other : (a b : ℕ) → (a == b) ≡ false → a ≢ b
other a b h e = true≢false (sym (eq-eqb a b e) ∙ h)

opposite : {A : Type 0} (v w s t : ℤ) → pos 0 <ℤ v → pos 0 <ℤ w → pos 0 <ℤ s → pos 0 <ℤ t → v *ℤ s ≡ neg_ℤ (w *ℤ t) → A
opposite {A} v w s t h k l m e = let x = positive-mul h l in let y = positive-mul k m in absurd (omega (arith, ints))

-- Lists that are cut in the middle. -----------------------------------------------------------------------------------------------

middle : {A : Type 0} (before after : List A) (x : A) → x ∈ (before ++ x ∷ after)
middle [] after x = here
middle (y ∷ before) after x = there (middle before after x)

after_middle : {A : Type 0} (before after : List A) (x y : A) → y ∈ after → y ∈ (before ++ x ∷ after)
after_middle [] after x y i = there i
after_middle (z ∷ before) after x y i = there (after_middle before after x y i)

one_further : {A : Type 0} (before after : List A) (x : A) → before ++ x ∷ after ≡ (before ++ x ∷ []) ++ after
one_further [] after x = refl
one_further (z ∷ before) after x = ap (λ l. z ∷ l) (one_further before after x)

apart_pair : {A : Type 0} (before after : List A) (x y : A) → Once (before ++ x ∷ y ∷ after) → x ≢ y
apart_pair [] after x y once = once.0 y here
apart_pair (z ∷ before) after x y once = apart_pair before after x y once.1

loop_point : (ns : List ℕ) (points : List Homogeneous) (x : Numbered) → x ∈ with_numbers ns points → x.1 ∈ points
loop_point [] points x i = elim i [ ]
loop_point (n ∷ ns) [] x i = elim i [ ]
loop_point (n ∷ ns) (p ∷ points) x here = here
loop_point (n ∷ ns) (p ∷ points) x (there i) = there (loop_point ns points x i)

once_of : (ns : List ℕ) (points : List Homogeneous) → Distinct points → Once (with_numbers ns points)
once_of [] points d = tt
once_of (n ∷ ns) [] d = tt
once_of (n ∷ ns) (p ∷ points) (distinct_more far d) =
    (λ y i e. far y.1 (loop_point ns points y i) (subst (λ q. SamePoint p q) (ap (λ (z : Numbered). z.1) e) (same_point_refl p)), once_of ns points d)

same_head : (a x : Numbered) (R M : List Numbered) → a ∈ (x ∷ M) → x ∈ (a ∷ R) → Every (λ y. a.0 < y.0) R → Every (λ k. x.0 < k) (numbers_of M) → a ≡ x
same_head a x R M here j r least = refl
same_head a x R M (there i) here r least = refl
same_head a x R M (there i) (there j) r least = let u = r x j in let v = least a.0 (number_in a M i) in absurd (omega arith)

last_step : (f : HalfSpace) (on : List Numbered) (a : Numbered) (o : Option Numbered) → a.0 ∷ (elim o [ None ↦ [] | Some b ↦ loop_from zero f on b ]) ≡ a.0 ∷ []
last_step f on a None = refl
last_step f on a (Some b) = refl

-- The law. ---------------------------------------------------------------------------------------------------------------------------

module _ (F : List HalfSpace) (f : HalfSpace) (V : List Homogeneous) (ns : List ℕ) (vertices : AreVertices F V) (l : IsNumberedLoop F f V ns) where
  abbrev L : List Numbered
  L = with_numbers ns l.points

  abbrev on : List Numbered
  on = filter (number_is_on f) (enumerate_from 0 V)

  positive : (x : Numbered) → Has V x → pos 0 <ℤ x.1.weight
  positive x h = (vertices.each x.1 (got_member V x.0 x.1 h)).0.inside.weight

  by_number : (x y : Numbered) → Has V x → Has V y → x.0 ≡ y.0 → x ≡ y
  by_number x y h k e =
      let p : Some x.1 ≡ Some y.1 = sym h ∙ ap (slice_get V) e ∙ k in let q : x.1 ≡ y.1 = cc in
      ap₂ (λ n v. (n, v)) e q

  by_point : (x y : Numbered) → Has V x → Has V y → SamePoint x.1 y.1 → x.0 ≡ y.0
  by_point x y h k s =
      let u = vertices.each x.1 (got_member V x.0 x.1 h) in let v = vertices.each y.1 (got_member V y.0 y.1 k) in
      let e = one_form x.1 y.1 u.0.inside.weight v.0.inside.weight u.1 v.1 s in
      one_number F V vertices.order x.0 y.0 x.1 h (k ∙ ap Some (sym e))

  has_in_loop : (x : Numbered) → x ∈ L → Has V x
  has_in_loop x i = each_has V ns l.points l.picked x i

  has_on : (x : Numbered) → x ∈ on → Has V x
  has_on x i = has_number V x (was_kept (number_is_on f) x (enumerate_from 0 V) i).member

  in_on : (x : Numbered) → x ∈ L → x ∈ on
  in_on x i =
      let n : 0 + x.0 ≡ x.0 = omega arith in
      kept (number_is_on f) x (enumerate_from 0 V)
      (subst (λ m. (m, x.1) ∈ enumerate_from 0 V) n (numbered_from 0 V x.0 x.1 (has_in_loop x i)))
      (ap (λ z. int_eq z (pos 0)) (l.is_loop.vertices x.1 (loop_point ns l.points x i)).1)

  in_loop : (x : Numbered) → x ∈ on → x ∈ L
  in_loop x i =
      let k = was_kept (number_is_on f) x (enumerate_from 0 V) i in
      let h = has_on x i in
      let a = l.is_loop.all x.1 (vertices.each x.1 (got_member V x.0 x.1 h)).0 (is_zero (side f x.1) k.passes) in
      let s = stands a.s L (subst (λ ps. a.s ∈ ps) (sym (points_back V ns l.points l.picked)) a.among) in
      subst (λ y. y ∈ L)
      (by_number (s.number, a.s) x (has_in_loop (s.number, a.s) s.member) h
      (sym (by_point x (s.number, a.s) h (has_in_loop (s.number, a.s) s.member) a.same))) s.member

  loop_once : Once L
  loop_once = once_of ns l.points l.is_loop.once

  on_rise : Rise on
  on_rise = still_rise (number_is_on f) (enumerate_from 0 V) (all_rise 0 V)

  as_long : length on ≡ length L
  as_long = let a = no_longer on L (rise_once on on_rise) in_loop in let b = no_longer L on loop_once in_on in omega arith

  module _ (before after : List Numbered) (a b : Numbered) (e : L ≡ before ++ a ∷ b ∷ after) where
    a_in : a ∈ L
    a_in = subst (λ m. a ∈ m) (sym e) (middle before (b ∷ after) a)

    b_in : b ∈ L
    b_in = subst (λ m. b ∈ m) (sym e) (after_middle before (b ∷ after) a b here)

    two : a.0 ≢ b.0
    two n = apart_pair before after a b (subst Once e loop_once) (by_number a b (has_in_loop a a_in) (has_in_loop b b_in) n)

    turns : (c : Numbered) → c ∈ L → c.0 ≢ a.0 → c.0 ≢ b.0 → pos 0 <ℤ turn f a.1 b.1 c.1
    turns c i ca cb =
        l.is_loop.turns a.1 b.1 c.1
        (next_closed a.1 b.1 l.points (subst (λ ps. IsNext a.1 b.1 ps) (ap points_of (sym e) ∙ points_back V ns l.points l.picked) (next_in a b before after)))
        (loop_point ns l.points c i)
        (λ s. ca (by_point c a (has_in_loop c i) (has_in_loop a a_in) s))
        (λ s. cb (by_point c b (has_in_loop c i) (has_in_loop b b_in) s))

    b_next : is_next f on a b ≡ true
    b_next = ap₂ (λ s t. s && t) (ap not (not_same a.0 b.0 two))
        (all_pass (λ c. a.0 == c.0 || (b.0 == c.0 || int_lt (pos 0) (turn f a.1 b.1 c.1))) on
        (λ c i. three (a.0 == c.0) (b.0 == c.0) (int_lt (pos 0) (turn f a.1 b.1 c.1))
        (λ s t. is_positive (turn f a.1 b.1 c.1) (turns c (in_loop c i) (λ n. other a.0 c.0 s (sym n)) (λ n. other b.0 c.0 t (sym n))))))

    only_b : (x : Numbered) → x ∈ on → is_next f on a x ≡ true → x ≡ b
    only_b x i h = by (x.0 == b.0) refl
      where
        parts : (not (a.0 == x.0) ≡ true) × (list_all (λ c. a.0 == c.0 || (x.0 == c.0 || int_lt (pos 0) (turn f a.1 x.1 c.1))) on ≡ true)
        parts = both_true (not (a.0 == x.0)) (list_all (λ c. a.0 == c.0 || (x.0 == c.0 || int_lt (pos 0) (turn f a.1 x.1 c.1))) on) h

        x_turn : (x.0 == b.0) ≡ false → pos 0 <ℤ turn f a.1 x.1 b.1
        x_turn t = positive_is (turn f a.1 x.1 b.1)
            (last_of_three (a.0 == b.0) (x.0 == b.0) (int_lt (pos 0) (turn f a.1 x.1 b.1)) (not_same a.0 b.0 two) t
            (each_passes (λ c. a.0 == c.0 || (x.0 == c.0 || int_lt (pos 0) (turn f a.1 x.1 c.1))) on parts.1 b (in_on b b_in)))

        b_turn : (x.0 == b.0) ≡ false → pos 0 <ℤ turn f a.1 b.1 x.1
        b_turn t = turns x (in_loop x i) (λ n. other a.0 x.0 (untrue (a.0 == x.0) parts.0) (sym n)) (other x.0 b.0 t)

        by : (t : Bool) → (x.0 == b.0) ≡ t → x ≡ b
        by true t = by_number x b (has_on x i) (has_in_loop b b_in) (eqb-true x.0 b.0 t)
        by false t = opposite b.1.weight x.1.weight (turn f a.1 x.1 b.1) (turn f a.1 b.1 x.1)
            (positive b (has_in_loop b b_in)) (positive x (has_on x i)) (x_turn t) (b_turn t) (turn-swap f a.1 x.1 b.1)

    next_found : find (is_next f on a) on ≡ Some b
    next_found = found (is_next f on a) on b (in_on b b_in) b_next only_b

  walked : (before after : List Numbered) (a : Numbered) → L ≡ before ++ a ∷ after → loop_from (length (a ∷ after)) f on a ≡ numbers_of (a ∷ after)
  walked before [] a e = last_step f on a (find (is_next f on a) on)
  walked before (b ∷ after) a e =
      ap (λ o. a.0 ∷ (elim o [ None ↦ [] | Some c ↦ loop_from (length (b ∷ after)) f on c ])) (next_found before after a b e)
      ∙ ap (λ m. a.0 ∷ m) (walked (before ++ a ∷ []) after b (e ∙ one_further before (b ∷ after) a))

  by_heads : (R M : List Numbered) → on ≡ R → L ≡ M → loop_of f R ≡ numbers_of M
  by_heads [] [] r m = refl
  by_heads [] (x ∷ M) r m = elim (subst (λ s. x ∈ s) r (in_on x (subst (λ s. x ∈ s) (sym m) here))) [ ]
  by_heads (a ∷ R) [] r m = elim (subst (λ s. a ∈ s) m (in_loop a (subst (λ s. a ∈ s) (sym r) here))) [ ]
  by_heads (a ∷ R) (x ∷ M) r m =
      let first : a ≡ x = same_head a x R M
      (subst (λ s. a ∈ s) m (in_loop a (subst (λ s. a ∈ s) (sym r) here)))
      (subst (λ s. x ∈ s) r (in_on x (subst (λ s. x ∈ s) (sym m) here)))
      (subst Rise r on_rise).0
      (subst LeastFirst (sym (numbers_back V ns l.points l.picked) ∙ ap numbers_of m) l.least_first)
      in
      let long : length (a ∷ R) ≡ length (x ∷ M) = sym (ap length r) ∙ as_long ∙ ap length m in
      ap₂ (λ k s. loop_from k f s a) long (sym r) ∙ ap (loop_from (length (x ∷ M)) f on) first ∙ walked [] M x m

  pub loop_is : loop V f ≡ ns
  loop_is = by_heads on L refl refl ∙ numbers_back V ns l.points l.picked
