-- The corners and their order.
use Rattle.std.proofs.Common.{◌≡◌, ◌≢◌, ℕ, zero, suc, ◌+◌, ◌<◌, ◌≤◌, Bool, true, false, eqb, nat_lt, nat_eq, nat_cmp, is_lt, Less, Equal, Greater, add-one, List, [], ◌∷◌, ◌++◌, length, length-append, get_or, map, Option, Some, IsSome, refl, sym, ap, subst, ◌∙◌, arith, inl, inr, ◌⊎◌, ⊎_elim}
use Rattle.std.specs.List.{IsDistinct, AllByRecursion}
use Rattle.std.specs.Ordering.{ordering_then}
use Rattle.std.specs.List.Sorted.{IsPermutation, IsSorted}
use Rattle.std.proofs.lemmas.Bool.{cases_eq}
use Rattle.std.proofs.lemmas.Bool.Decides.{nat_tests}
use Rattle.std.proofs.lemmas.List.{length-map, map-append, get_or_append_left, get_or_push}
use Rattle.std.proofs.lemmas.List.Sorted.{IsPermutation-map, IsPermutation-sym, All-permutation}
use Rattle.std.proofs.lemmas.Map.Keys.{IsDistinct-IsPermutation}
use Rattle.algebra.specs.Members.{◌∈◌}
use Rattle.algebra.proofs.Members.{member_at, at_of_member}
use Rattle.algebra.specs.Space.{Homogeneous}
use Rattle.half_poly.specs.declared.names.Name.{Name}
use Rattle.half_poly.specs.declared.names.Corner.{Corner}
use Rattle.half_poly.specs.Places.{AreDistinct}
use Rattle.half_poly.specs.Names.{no_name, AreLeast, with_number, AreCorners, NotBefore, InOrder}
use Rattle.half_poly.proofs.Making.{is_some_of}
use Rattle.half_poly.proofs.Listed.{get_map}
use Rattle.half_poly.proofs.Chain.{at_end, in_front, split_end}
use Rattle.half_poly.proofs.Least.{OneMore, name, least_first, least_second, least_third, least_same}

-- ---- one number more
less_is : {a b : ℕ} → nat_lt a b ≡ true → a < b
less_is {a} {b} h = grind (arith, nat_tests)

not_less_is : {a b : ℕ} → nat_lt a b ≡ false → b ≤ a
not_less_is {a} {b} h = grind (arith, nat_tests)

same_is : {a b : ℕ} → nat_eq a b ≡ true → a ≡ b
same_is {a} {b} h = grind (arith, nat_tests)

not_same_is : {a b : ℕ} → nat_eq a b ≡ false → ¬ (a ≡ b)
not_same_is {a} {b} h e = grind (arith, nat_tests)

bool_cases : (b : Bool) → (b ≡ true) ⊎ (b ≡ false)
bool_cases true = inl refl
bool_cases false = inr refl

abbrev Grown : (ℕ → Type 0) → ℕ → ℕ → ℕ → ℕ → ℕ → Type 0
Grown S limit a b c n = AreLeast (OneMore S n) limit (with_number (name a b c) n)

pub least_with : (S : ℕ → Type 0) (limit a b c n : ℕ) → n < limit → AreLeast S limit (name a b c) → AreLeast (OneMore S n) limit (with_number (name a b c) n)
least_with S limit a b c n w h = first (bool_cases (nat_lt n a))
  where
    third : (nat_lt n c ≡ true) ⊎ (nat_lt n c ≡ false) → nat_lt n a ≡ false → nat_eq n a ≡ false → nat_lt n b ≡ false → nat_eq n b ≡ false → Grown S limit a b c n
    third (inl t) p q r s = rw (p, q, r, s, t) (least_third S limit a b c n w h (let x = not_less_is r in let y = not_same_is s in grind arith) (less_is t))
    third (inr f) p q r s = rw (p, q, r, s, f) (least_same S limit a b c n h (inr (inr (not_less_is f))))

    same_b : (nat_eq n b ≡ true) ⊎ (nat_eq n b ≡ false) → nat_lt n a ≡ false → nat_eq n a ≡ false → nat_lt n b ≡ false → Grown S limit a b c n
    same_b (inl t) p q r = rw (p, q, r, t) (least_same S limit a b c n h (inr (inl (same_is t))))
    same_b (inr f) p q r = third (bool_cases (nat_lt n c)) p q r f

    second : (nat_lt n b ≡ true) ⊎ (nat_lt n b ≡ false) → nat_lt n a ≡ false → nat_eq n a ≡ false → Grown S limit a b c n
    second (inl t) p q = rw (p, q, t) (least_second S limit a b c n w h (let x = not_less_is p in let y = not_same_is q in grind arith) (less_is t))
    second (inr f) p q = same_b (bool_cases (nat_eq n b)) p q f

    same_a : (nat_eq n a ≡ true) ⊎ (nat_eq n a ≡ false) → nat_lt n a ≡ false → Grown S limit a b c n
    same_a (inl t) p = rw (p, t) (least_same S limit a b c n h (inl (same_is t)))
    same_a (inr f) p = second (bool_cases (nat_lt n b)) p f

    first : (nat_lt n a ≡ true) ⊎ (nat_lt n a ≡ false) → Grown S limit a b c n
    first (inl t) = rw t (least_first S limit a b c n w h (less_is t))
    first (inr f) = same_a (bool_cases (nat_eq n a)) f

-- ---- lists of numbers that differ
unequal : {a b : ℕ} → a ≢ b → eqb a b ≡ false
unequal {a} {b} h = grind (arith, nat_tests)

equal_not : {a b : ℕ} → eqb a b ≡ false → a ≢ b
equal_not {a} {b} h e = grind (arith, nat_tests)

all_differ : (x : ℕ) (ys : List ℕ) → ((k : ℕ) → k < length ys → x ≢ get_or ys k 0) → AllByRecursion (λ y. eqb x y ≡ false) ys
all_differ x [] h = tt
all_differ x (y ∷ ys) h = (unequal (h 0 (omega arith)), all_differ x ys (λ k l. h (suc k) (omega arith)))

each_differs : (x : ℕ) (ys : List ℕ) → AllByRecursion (λ y. eqb x y ≡ false) ys → (k : ℕ) → k < length ys → x ≢ get_or ys k 0
each_differs x [] a k l = absurd (omega arith)
each_differs x (y ∷ ys) a zero l = equal_not a.0
each_differs x (y ∷ ys) a (suc k) l = each_differs x ys a.1 k (omega arith)

distinct_from : (xs : List ℕ) → AreDistinct xs → IsDistinct eqb xs
unfolding IsDistinct
distinct_from [] d = tt
distinct_from (x ∷ xs) d = (all_differ x xs (λ k l. d 0 (suc k) (omega arith) (omega arith)), distinct_from xs (λ i j h l. d (suc i) (suc j) (omega arith) (omega arith)))

distinct_to : (xs : List ℕ) → IsDistinct eqb xs → AreDistinct xs
unfolding IsDistinct
distinct_to [] d i j h l = absurd (omega arith)
distinct_to (x ∷ xs) d zero zero h l = absurd (omega arith)
distinct_to (x ∷ xs) d zero (suc j) h l = each_differs x xs d.0 j (omega arith)
distinct_to (x ∷ xs) d (suc i) zero h l = absurd (omega arith)
distinct_to (x ∷ xs) d (suc i) (suc j) h l = distinct_to xs d.1 i j (omega arith) (omega arith)

eqb_flips : (x y : ℕ) → eqb x y ≡ eqb y x
eqb_flips x y = grind (arith, nat_tests)

-- ---- a list in another order
moved : {A : Type 0} (P : A → Type 0) (xs ys : List A) → IsPermutation xs ys → ((x : A) → x ∈ xs → P x) → (y : A) → y ∈ ys → P y
moved P xs ys p each y m =
    let all = All-permutation P xs ys p (λ k d l. each (get_or xs k d) (member_at xs k d l)) in
    let a = at_of_member ys y y m in subst P a.is (all a.index y a.within)

pub corners_moved : (V : ℕ → Option Homogeneous) (names : List Name) (n : ℕ) (xs ys : List Corner) → IsPermutation xs ys → AreCorners V names n xs → AreCorners V names n ys
corners_moved V names n xs ys p a = record {
  live = moved (λ (c : Corner). IsSome (V c.slot)) xs ys p a.live;
  below = moved (λ (c : Corner). c.slot < n) xs ys p a.below;
  named = moved (λ (c : Corner). c.name ≡ get_or names c.slot no_name) xs ys p a.named;
  all = λ x v l q. let c = a.all x v l q in (c.0, moved (λ c. c ∈ ys) ys xs (IsPermutation-sym xs ys p) (λ c m. m) c.0 c.1, c.2);
  once = distinct_to (map (λ (c : Corner). c.slot) ys) (IsDistinct-IsPermutation eqb eqb_flips (map (λ (c : Corner). c.slot) xs) (map (λ (c : Corner). c.slot) ys)
      (IsPermutation-map (λ (c : Corner). c.slot) xs ys p) (distinct_from (map (λ (c : Corner). c.slot) xs) a.once));
}

-- ---- one corner more
slots : List Corner → List ℕ
slots corners = map (λ (c : Corner). c.slot) corners

pub corners_more : (V : ℕ → Option Homogeneous) (names : List Name) (n : ℕ) (corners after : List Corner) (c : Corner) (v : Homogeneous) → V n ≡ Some v → c.slot ≡ n → c.name ≡ get_or names n no_name → after ≡ corners ++ c ∷ [] →
    AreCorners V names n corners → AreCorners V names (n + 1) after
corners_more V names n corners after c v q s m e a = subst (λ xs. AreCorners V names (n + 1) xs) (sym e) (record {
  live = λ x i. ⊎_elim (λ o. a.live x o) (λ o. subst (λ (y : Corner). IsSome (V y.slot)) (sym o) (subst (λ k. IsSome (V k)) (sym s) (is_some_of q))) (split_end x c corners i);
  below = λ x i. ⊎_elim (λ o. let l = a.below x o in omega arith) (λ o. subst (λ (y : Corner). y.slot < n + 1) (sym o) (omega arith)) (split_end x c corners i);
  named = λ x i. ⊎_elim (λ o. a.named x o) (λ o. subst (λ (y : Corner). y.name ≡ get_or names y.slot no_name) (sym o) (m ∙ ap (λ k. get_or names k no_name) (sym s))) (split_end x c corners i);
  all = λ x w l i. ⊎_elim (λ (o : x ≡ n). (c, at_end c corners, s ∙ sym o)) (λ (o : ¬ (x ≡ n)). let k : x < n = grind arith in let r = a.all x w k i in (r.0, in_front r.0 c corners r.1, r.2)) (cases_eq x n);
  once = λ i j h l. once i j h l (cases_eq j (length corners));
})
  where
    f : Corner → ℕ
    f d = d.slot

    once : (i j : ℕ) → i < j → j < length (map (λ (d : Corner). d.slot) (corners ++ c ∷ [])) → (j ≡ length corners) ⊎ ¬ (j ≡ length corners) →
        ¬ (get_or (map (λ (d : Corner). d.slot) (corners ++ c ∷ [])) i 0 ≡ get_or (map (λ (d : Corner). d.slot) (corners ++ c ∷ [])) j 0)
    once i j h l (inl o) = λ z.
        let k : i < length corners = omega arith in
        let x = get_or corners i c in
        let y : get_or (map (λ (d : Corner). d.slot) (corners ++ c ∷ [])) i 0 ≡ x.slot = at i k in
        let w : get_or (map (λ (d : Corner). d.slot) (corners ++ c ∷ [])) j 0 ≡ n = get_map (λ (d : Corner). d.slot) (corners ++ c ∷ []) j c 0 (subst (λ k. j < k) (length-map (corners ++ c ∷ []) (λ (d : Corner). d.slot)) l)
        ∙ ap (λ (d : Corner). d.slot) (get_or_push corners c c j (sym o)) ∙ s in
        let b = a.below x (member_at corners i c k) in omega arith
      where
        at : (i : ℕ) → i < length corners → get_or (map (λ (d : Corner). d.slot) (corners ++ c ∷ [])) i 0 ≡ (get_or corners i c).slot
        at i k = get_map (λ (d : Corner). d.slot) (corners ++ c ∷ []) i c 0 (let e = length-append corners (c ∷ []) in omega arith) ∙ ap (λ (d : Corner). d.slot) (get_or_append_left corners (c ∷ []) c i k)
    once i j h l (inr o) =
        let e = length-append corners (c ∷ []) in let g = length-map (corners ++ c ∷ []) (λ (d : Corner). d.slot) in
        let k : j < length corners = omega arith in
        let p = map-append (λ (d : Corner). d.slot) corners (c ∷ []) in
        let t = length-map corners (λ (d : Corner). d.slot) in
        λ z. a.once i j h (omega arith) (sym (front i (omega arith)) ∙ z ∙ front j k)
      where
        front : (i : ℕ) → i < length corners → get_or (map (λ (d : Corner). d.slot) (corners ++ c ∷ [])) i 0 ≡ get_or (map (λ (d : Corner). d.slot) corners) i 0
        front i k = get_map (λ (d : Corner). d.slot) (corners ++ c ∷ []) i c 0 (let e = length-append corners (c ∷ []) in omega arith)
            ∙ ap (λ (d : Corner). d.slot) (get_or_append_left corners (c ∷ []) c i k) ∙ sym (get_map (λ (d : Corner). d.slot) corners i c 0 k)

-- ---- the order of the names
cmp_cases : (x y : ℕ) → ((nat_cmp x y ≡ Less) × (x < y)) ⊎ (((nat_cmp x y ≡ Equal) × (x ≡ y)) ⊎ ((nat_cmp x y ≡ Greater) × (y < x)))
cmp_cases x y = by (bool_cases (nat_lt x y)) (bool_cases (nat_eq x y))
  where
    by : (nat_lt x y ≡ true) ⊎ (nat_lt x y ≡ false) → (nat_eq x y ≡ true) ⊎ (nat_eq x y ≡ false) → ((nat_cmp x y ≡ Less) × (x < y)) ⊎ (((nat_cmp x y ≡ Equal) × (x ≡ y)) ⊎ ((nat_cmp x y ≡ Greater) × (y < x)))
    by (inl t) e = inl (rw t refl, less_is t)
    by (inr f) (inl t) = inr (inl (rw (f, t) refl, same_is t))
    by (inr f) (inr g) = inr (inr (rw (f, g) refl, let a = not_less_is f in let b = not_same_is g in grind arith))

-- a corner that the sort leaves after another does not come before it
not_before_plain : (a b d x y z s t : ℕ) → is_lt (ordering_then (ordering_then (nat_cmp x a) (ordering_then (nat_cmp y b) (nat_cmp z d))) (nat_cmp t s)) ≡ false →
    (a < x) ⊎ ((a ≡ x) × ((b < y) ⊎ ((b ≡ y) × (d ≤ z))))
not_before_plain a b d x y z s t h = first (cmp_cases x a)
  where
    third : ((nat_cmp z d ≡ Less) × (z < d)) ⊎ (((nat_cmp z d ≡ Equal) × (z ≡ d)) ⊎ ((nat_cmp z d ≡ Greater) × (d < z))) → nat_cmp x a ≡ Equal → nat_cmp y b ≡ Equal → d ≤ z
    third (inl q) e f = let g = rw (e, f, q.0) at h in absurd (cc)
    third (inr (inl q)) e f = let k = q.1 in omega arith
    third (inr (inr q)) e f = let k = q.1 in omega arith

    second : ((nat_cmp y b ≡ Less) × (y < b)) ⊎ (((nat_cmp y b ≡ Equal) × (y ≡ b)) ⊎ ((nat_cmp y b ≡ Greater) × (b < y))) → nat_cmp x a ≡ Equal → (b < y) ⊎ ((b ≡ y) × (d ≤ z))
    second (inl q) e = let g = rw (e, q.0) at h in absurd (cc)
    second (inr (inl q)) e = inr (sym q.1, third (cmp_cases z d) e q.0)
    second (inr (inr q)) e = inl q.1

    first : ((nat_cmp x a ≡ Less) × (x < a)) ⊎ (((nat_cmp x a ≡ Equal) × (x ≡ a)) ⊎ ((nat_cmp x a ≡ Greater) × (a < x))) → (a < x) ⊎ ((a ≡ x) × ((b < y) ⊎ ((b ≡ y) × (d ≤ z))))
    first (inl q) = let g = rw q.0 at h in absurd (cc)
    first (inr (inl q)) = inr (sym q.1, second (cmp_cases y b) q.0)
    first (inr (inr q)) = inl q.1

not_before_trans : (a b d x y z p q r : ℕ) → (a < x) ⊎ ((a ≡ x) × ((b < y) ⊎ ((b ≡ y) × (d ≤ z)))) → (x < p) ⊎ ((x ≡ p) × ((y < q) ⊎ ((y ≡ q) × (z ≤ r)))) → (a < p) ⊎ ((a ≡ p) × ((b < q) ⊎ ((b ≡ q) × (d ≤ r))))
not_before_trans a b d x y z p q r h k = grind arith

pub in_order : (cs : List Corner) → IsSorted (λ (x y : Corner). ordering_then (ordering_then (nat_cmp x.name.first y.name.first) (ordering_then (nat_cmp x.name.second y.name.second) (nat_cmp x.name.third y.name.third))) (nat_cmp x.slot y.slot)) cs → InOrder cs
in_order cs sorted i zero d h l = absurd (omega arith)
in_order cs sorted i (suc j) d h l = ⊎_elim
    (λ (e : i ≡ j). subst (λ k. NotBefore (get_or cs k d).name (get_or cs (suc j) d).name) (sym e) adjacent)
    (λ (n : ¬ (i ≡ j)). not_before_trans (get_or cs i d).name.first (get_or cs i d).name.second (get_or cs i d).name.third (get_or cs j d).name.first (get_or cs j d).name.second (get_or cs j d).name.third
    (get_or cs (suc j) d).name.first (get_or cs (suc j) d).name.second (get_or cs (suc j) d).name.third (in_order cs sorted i j d (grind arith) (omega arith)) adjacent)
    (cases_eq i j)
  where
    adjacent : NotBefore (get_or cs j d).name (get_or cs (suc j) d).name
    adjacent = not_before_plain (get_or cs j d).name.first (get_or cs j d).name.second (get_or cs j d).name.third (get_or cs (suc j) d).name.first (get_or cs (suc j) d).name.second (get_or cs (suc j) d).name.third
        (get_or cs j d).slot (get_or cs (suc j) d).slot (subst (λ k. is_lt (ordering_then (ordering_then (nat_cmp (get_or cs k d).name.first (get_or cs j d).name.first)
        (ordering_then (nat_cmp (get_or cs k d).name.second (get_or cs j d).name.second) (nat_cmp (get_or cs k d).name.third (get_or cs j d).name.third))) (nat_cmp (get_or cs k d).slot (get_or cs j d).slot)) ≡ false)
        (add-one j) (sorted j d (omega arith) (omega arith)))
