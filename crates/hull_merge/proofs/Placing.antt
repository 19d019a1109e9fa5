-- The places at which distinct points first stand, found from the front.
use Rattle.std.proofs.Common.{◌≡◌, ◌≤◌, refl, ℕ, Bool, true, false, if◌then◌else◌, not, ◌||◌, ◌&&◌, int_eq, ◌<◌, ◌+◌, ◌^◌, List, [], ◌∷◌, ◌++◌, length, get_or, take, filter, map, ap, ◌∙◌, sym, subst, arith, zero, suc, ◌⊎◌, inl, inr}
use Rattle.std.proofs.lemmas.List.{take_all, append-nil, map_push, get_or_push, get_or_append_left, get_or_default, length-append, get_or-take, length-take-le, length-map}
use Rattle.std.proofs.lemmas.Bool.{false≢true}
use Rattle.std.proofs.lemmas.Cmp.{int_eq_equiv}
use Rattle.std.proofs.lemmas.List.Elements.{filter-append}
use Rattle.std.proofs.Math.Seq.{take-suc, take-length}
use Rattle.algebra.specs.Space.{Vector}
use Rattle.exact_geom.specs.declared.point.Point.{Point}
use Rattle.exact_geom.specs.Planes.{vector}
use Rattle.hull_search.specs.declared.spot.Spot.{Spot}
use Rattle.hull_search.specs.Slopes.{spot, spots}
use Rattle.hull_laws.specs.Facets.{firsts}
use Rattle.hull_laws.specs.Moved.{same_point}
use Rattle.hull_merge.specs.Hulls.{AreFirstPlaces, distinct, zero_point, spot_of}

-- Whether an element stands in the list that is the same as z.
abbrev pub has : {A : Type 0} → (A → A → Bool) → List A → A → Bool
has same [] z = false
has same (x ∷ xs) z = same x z || has same xs z

-- z, but where it is known.
abbrev pub unless : {A : Type 0} → Bool → A → List A
unless true z = []
unless false z = z ∷ []

-- What `==` returns of points.
abbrev pub same_at : Point → Point → Bool
same_at p q = int_eq p.x q.x && (int_eq p.y q.y && int_eq p.z q.z)

and_both : (a b c : Bool) → (a && (b && c)) ≡ ((a && b) && c)
and_both true b c = refl
and_both false b c = refl

same_is : (p q : Point) → same_at p q ≡ same_point (vector p) (vector q)
same_is p q = and_both (int_eq p.x q.x) (int_eq p.y q.y) (int_eq p.z q.z)

kept_by : {A : Type 0} (same : A → A → Bool) (x z : A) (a b : Bool) → same x z ≡ a → filter (λ y. not (same x y)) (unless b z) ≡ unless (a || b) z
kept_by same x z true true h = refl
kept_by same x z false true h = refl
kept_by same x z true false h = rw h refl
kept_by same x z false false h = rw h refl

-- One more element.
pub firsts_push : {A : Type 0} (same : A → A → Bool) (xs : List A) (z : A) → firsts same (xs ++ z ∷ []) ≡ firsts same xs ++ unless (has same xs z) z
firsts_push same [] z = refl
firsts_push same (x ∷ xs) z = ap (λ l. x ∷ filter (λ y. not (same x y)) l) (firsts_push same xs z)
    ∙ ap (λ l. x ∷ l) (filter-append (λ y. not (same x y)) (firsts same xs) (unless (has same xs z) z)
    ∙ ap (λ l. filter (λ y. not (same x y)) (firsts same xs) ++ l) (kept_by same x z (same x z) (has same xs z) refl))

filter_fewer : {A : Type 0} (p : A → Bool) (xs : List A) → length (filter p xs) ≤ length xs
filter_fewer p [] = omega arith
filter_fewer p (x ∷ xs) = by_bool (p x) (filter_fewer p xs)
  where
    by_bool : (b : Bool) → length (filter p xs) ≤ length xs → length (if b then x ∷ filter p xs else filter p xs) ≤ suc (length xs)
    by_bool true h = omega arith
    by_bool false h = omega arith

pub firsts_fewer : (xs : List Vector) → length (firsts same_point xs) ≤ length xs
firsts_fewer [] = omega arith
firsts_fewer (x ∷ xs) = let a = filter_fewer (λ y. not (same_point x y)) (firsts same_point xs) in let b = firsts_fewer xs in omega arith

-- The first n points are done.
pub record Placed (points : List Point) (n : ℕ) (places : List ℕ) (seen : Point → Bool) : Type 0 where
  pub knows : (q : Point) → seen q ≡ has same_at (take n points) q
  pub count : length places ≡ length (distinct (take n points))
  pub each : (k : ℕ) (d : Point) (e : Vector) → k < length places → vector (get_or points (get_or places k 0) d) ≡ get_or (distinct (take n points)) k e
  pub rising : (j k : ℕ) → j < k → k < length places → get_or places j 0 < get_or places k 0
  pub within : (k : ℕ) → k < length places → get_or places k 0 < n
  pub first : (k j : ℕ) → k < length places → j < get_or places k 0 → ¬ (spot_of points j ≡ spot_of points (get_or places k 0))

pub none_placed : (points : List Point) (seen : Point → Bool) → ((q : Point) → seen q ≡ false) → Placed points 0 [] seen
none_placed points seen h = record {
  knows = h;
  count = refl;
  each = λ k d e l. elim (none k l) [ ];
  rising = λ j k l m. elim (none k m) [ ];
  within = λ k l. elim (none k l) [ ];
  first = λ k j l m. elim (none k l) [ ];
}
  where
    none : (k : ℕ) → k < 0 → ⊥
    none k l = omega arith

has_push : {A : Type 0} (same : A → A → Bool) (xs : List A) (x z : A) → has same (xs ++ x ∷ []) z ≡ (if same x z then true else has same xs z)
has_push same [] x z = by_bool (same x z)
  where
    by_bool : (a : Bool) → (a || false) ≡ (if a then true else false)
    by_bool true = refl
    by_bool false = refl
has_push same (y ∷ xs) x z = ap (λ b. same y z || b) (has_push same xs x z) ∙ by_bool (same y z) (same x z) (has same xs z)
  where
    by_bool : (a b c : Bool) → (a || (if b then true else c)) ≡ (if b then true else (a || c))
    by_bool true true c = refl
    by_bool true false c = refl
    by_bool false true c = refl
    by_bool false false c = refl

has_map : (xs : List Point) (z : Point) → has same_at xs z ≡ has same_point (map vector xs) (vector z)
has_map [] z = refl
has_map (x ∷ xs) z = λ i. same_is x z i || has_map xs z i

taken : (points : List Point) (n : ℕ) (d : Point) → n < length points → take (n + 1) points ≡ take n points ++ get_or points n d ∷ []
taken points n d l = ap (λ k. take k points) (one n) ∙ take-suc points n d l
  where
    one : (n : ℕ) → n + 1 ≡ suc n
    one n = omega arith

-- the distinct points, with one more
distinct_more : (points : List Point) (n : ℕ) (d : Point) → n < length points →
    distinct (take (n + 1) points) ≡ distinct (take n points) ++ unless (has same_at (take n points) (get_or points n d)) (vector (get_or points n d))
distinct_more points n d l =
    let x = get_or points n d in
    ap distinct (taken points n d l) ∙ ap (firsts same_point) (map_push vector (take n points) x)
    ∙ firsts_push same_point (map vector (take n points)) (vector x)
    ∙ ap (λ b. distinct (take n points) ++ unless b (vector x)) (sym (has_map (take n points) x))

-- one more point is known
known_more : (points : List Point) (n : ℕ) (d : Point) (seen later : Point → Bool) → n < length points → ((q : Point) → seen q ≡ has same_at (take n points) q) →
    ((q : Point) → later q ≡ (if same_at (get_or points n d) q then true else seen q)) → (q : Point) → later q ≡ has same_at (take (n + 1) points) q
known_more points n d seen later l knows more q =
    let x = get_or points n d in
    more q ∙ ap (λ b. if same_at x q then true else b) (knows q) ∙ sym (has_push same_at (take n points) x q)
    ∙ ap (λ ps. has same_at ps q) (sym (taken points n d l))

same_self : (v : Vector) → same_point v v ≡ true
same_self v = λ i. int_eq_equiv.refl v.x i && int_eq_equiv.refl v.y i && int_eq_equiv.refl v.z i

-- a point that stands among others is known
known_at : (xs : List Point) (j : ℕ) (d z : Point) → j < length xs → vector (get_or xs j d) ≡ vector z → has same_at xs z ≡ true
known_at [] j d z l e = absurd (omega arith)
known_at (x ∷ xs) zero d z l e = rw (same_is x z ∙ ap (λ v. same_point v (vector z)) e ∙ same_self (vector z)) refl
known_at (x ∷ xs) (suc j) d z l e = rw (known_at xs j d z (omega arith) e) (either (same_at x z))
  where
    either : (b : Bool) → (b || true) ≡ true
    either true = refl
    either false = refl

not_earlier : (points : List Point) (n : ℕ) (d : Point) (j : ℕ) → n < length points → j < n → has same_at (take n points) (get_or points n d) ≡ false → ¬ (spot_of points j ≡ spot_of points n)
not_earlier points n d j l m h e = false≢true (sym h ∙ known_at (take n points) j zero_point (get_or points n d) (let t = length-take-le n points (omega arith) in omega arith)
    (ap vector (get_or-take n points j zero_point m) ∙ e ∙ ap vector (get_or_default points n zero_point d l)))

-- it stood before
pub placed_old : (points : List Point) (n : ℕ) (d : Point) (places : List ℕ) (seen later : Point → Bool) → n < length points → Placed points n places seen →
    seen (get_or points n d) ≡ true → ((q : Point) → later q ≡ (if same_at (get_or points n d) q then true else seen q)) → Placed points (n + 1) places later
placed_old points n d places seen later l p old more =
    let x = get_or points n d in
    let e = distinct_more points n d l ∙ ap (λ b. distinct (take n points) ++ unless b (vector x)) (sym (p.knows x) ∙ old) ∙ append-nil (distinct (take n points)) in
    record {
      knows = known_more points n d seen later l p.knows more;
      count = p.count ∙ ap length (sym e);
      each = λ k d' e' m. p.each k d' e' m ∙ ap (λ ps. get_or ps k e') (sym e);
      rising = p.rising;
      within = λ k m. let w = p.within k m in omega arith;
      first = p.first;
    }

-- it is new
pub placed_new : (points : List Point) (n : ℕ) (d : Point) (places : List ℕ) (seen later : Point → Bool) → n < length points → Placed points n places seen →
    seen (get_or points n d) ≡ false → ((q : Point) → later q ≡ (if same_at (get_or points n d) q then true else seen q)) → Placed points (n + 1) (places ++ n ∷ []) later
placed_new points n d places seen later l p new more =
    let x = get_or points n d in
    let e = distinct_more points n d l ∙ ap (λ b. distinct (take n points) ++ unless b (vector x)) (sym (p.knows x) ∙ new) in
    let c = length-append places (n ∷ []) in
    record {
      knows = known_more points n d seen later l p.knows more;
      count = c ∙ ap (λ k. k + 1) p.count ∙ sym (length-append (distinct (take n points)) (vector x ∷ [])) ∙ ap length (sym e);
      each = λ k d' e' m. each_of k d' e' (subst (λ z. k < z) c m) ∙ ap (λ ps. get_or ps k e') (sym e);
      rising = λ j k i m. rising_of j k i (subst (λ z. k < z) c m);
      within = λ k m. within_of k (subst (λ z. k < z) c m);
      first = λ k j m. first_by k j (last k (subst (λ z. k < z) c m));
    }
  where
    last : (k : ℕ) → k < length places + 1 → (k < length places) ⊎ (length places ≡ k)
    last k m = grind arith

    at_old : (k : ℕ) → k < length places → get_or (places ++ n ∷ []) k 0 ≡ get_or places k 0
    at_old k m = get_or_append_left places (n ∷ []) 0 k m

    at_new : (k : ℕ) → length places ≡ k → get_or (places ++ n ∷ []) k 0 ≡ n
    at_new k m = get_or_push places n 0 k m

    each_by : (k : ℕ) (d' : Point) (e' : Vector) → (k < length places) ⊎ (length places ≡ k) →
        vector (get_or points (get_or (places ++ n ∷ []) k 0) d') ≡ get_or (distinct (take n points) ++ vector (get_or points n d) ∷ []) k e'
    each_by k d' e' (inl i) = ap (λ a. vector (get_or points a d')) (at_old k i) ∙ p.each k d' e' i
        ∙ sym (get_or_append_left (distinct (take n points)) (vector (get_or points n d) ∷ []) e' k (subst (λ z. k < z) p.count i))
    each_by k d' e' (inr i) = ap (λ a. vector (get_or points a d')) (at_new k i) ∙ ap vector (get_or_default points n d' d l)
        ∙ sym (get_or_push (distinct (take n points)) (vector (get_or points n d)) e' k (sym p.count ∙ i))

    each_of : (k : ℕ) (d' : Point) (e' : Vector) → k < length places + 1 →
        vector (get_or points (get_or (places ++ n ∷ []) k 0) d') ≡ get_or (distinct (take n points) ++ vector (get_or points n d) ∷ []) k e'
    each_of k d' e' m = each_by k d' e' (last k m)

    within_by : (k : ℕ) → (k < length places) ⊎ (length places ≡ k) → get_or (places ++ n ∷ []) k 0 < n + 1
    within_by k (inl i) = let w = p.within k i in let e = at_old k i in omega arith
    within_by k (inr i) = let e = at_new k i in omega arith

    within_of : (k : ℕ) → k < length places + 1 → get_or (places ++ n ∷ []) k 0 < n + 1
    within_of k m = within_by k (last k m)

    below_2 : (j k : ℕ) → j < k → k < length places → j < length places
    below_2 j k i o = omega arith

    the_below : (j k : ℕ) → j < k → length places ≡ k → j < length places
    the_below j k i o = omega arith

    rising_by : (j k : ℕ) → j < k → (k < length places) ⊎ (length places ≡ k) → get_or (places ++ n ∷ []) j 0 < get_or (places ++ n ∷ []) k 0
    rising_by j k i (inl o) = let a = at_old k o in let b = at_old j (below_2 j k i o) in let r = p.rising j k i o in omega arith
    rising_by j k i (inr o) = let a = at_new k o in let m = the_below j k i o in let b = at_old j m in let r = p.within j m in omega arith

    rising_of : (j k : ℕ) → j < k → k < length places + 1 → get_or (places ++ n ∷ []) j 0 < get_or (places ++ n ∷ []) k 0
    rising_of j k i m = rising_by j k i (last k m)

    first_by : (k j : ℕ) → (k < length places) ⊎ (length places ≡ k) → j < get_or (places ++ n ∷ []) k 0 → ¬ (spot_of points j ≡ spot_of points (get_or (places ++ n ∷ []) k 0))
    first_by k j (inl i) = subst (λ a. j < a → ¬ (spot_of points j ≡ spot_of points a)) (sym (at_old k i)) (p.first k j i)
    first_by k j (inr i) = subst (λ a. j < a → ¬ (spot_of points j ≡ spot_of points a)) (sym (at_new k i)) (λ m. not_earlier points n d j l m (sym (p.knows (get_or points n d)) ∙ new))

-- all points are done
pub placed_all : (points : List Point) (n : ℕ) (places : List ℕ) (seen : Point → Bool) → length points ≡ n → Placed points n places seen → AreFirstPlaces points places
placed_all points n places seen e p =
    let t = ap (λ k. take k points) (sym e) ∙ take-length points in record {
      count = p.count ∙ ap (λ ps. length (distinct ps)) t;
      each = λ k d' e' m. p.each k d' e' m ∙ ap (λ ps. get_or (distinct ps) k e') t;
      rising = p.rising;
      within = λ k m. subst (λ z. get_or places k 0 < z) (sym e) (p.within k m);
      first = p.first;
    }

not_not : (a b : Bool) → a ≡ not b → a ≡ true → b ≡ false
not_not a true e h = sym h ∙ e
not_not a false e h = refl

not_yes : (a b : Bool) → a ≡ not b → a ≡ false → b ≡ true
not_yes a true e h = refl
not_yes a false e h = sym h ∙ e

-- what the table of known points answers
pub placed_after_new : (points : List Point) (n : ℕ) (d : Point) (places : List ℕ) (seen later : Point → Bool) (a : Bool) → n < length points → Placed points n places seen →
    a ≡ not (seen (get_or points n d)) → a ≡ true → ((q : Point) → later q ≡ (if same_at (get_or points n d) q then true else seen q)) → Placed points (n + 1) (places ++ n ∷ []) later
placed_after_new points n d places seen later a l p e h more = placed_new points n d places seen later l p (not_not a (seen (get_or points n d)) e h) more

pub placed_after_old : (points : List Point) (n : ℕ) (d : Point) (places : List ℕ) (seen later : Point → Bool) (a : Bool) → n < length points → Placed points n places seen →
    a ≡ not (seen (get_or points n d)) → a ≡ false → ((q : Point) → later q ≡ (if same_at (get_or points n d) q then true else seen q)) → Placed points (n + 1) places later
placed_after_old points n d places seen later a l p e h more = placed_old points n d places seen later l p (not_yes a (seen (get_or points n d)) e h) more

-- one more of the distinct points
pub spots_more : (points : List Point) (places : List ℕ) → AreFirstPlaces points places → (done : List Spot) (i : ℕ) (d : Point) (s : Spot) → i < length places →
    spot s ≡ vector (get_or points (get_or places i 0) d) → spots done ≡ take i (distinct points) → spots (done ++ s ∷ []) ≡ take (i + 1) (distinct points)
spots_more points places a done i d s l e h =
    let o = spot s in
    map_push spot done s ∙ (λ j. h j ++ (e ∙ a.each i d o l) j ∷ []) ∙ sym (take-suc (distinct points) i o (subst (λ n. i < n) a.count l)) ∙ ap (λ k. take k (distinct points)) (one i)
  where
    one : (i : ℕ) → suc i ≡ i + 1
    one i = omega arith

pub spots_done : (points : List Point) (places : List ℕ) → AreFirstPlaces points places → (done : List Spot) (i : ℕ) → length places ≤ i →
    spots done ≡ take i (distinct points) → spots done ≡ distinct points
spots_done points places a done i l h = h ∙ take_all i (distinct points) (subst (λ n. n ≤ i) a.count l)

pub few_places : (points : List Point) (places : List ℕ) → AreFirstPlaces points places → length points < 2 ^ 32 → length places < 2 ^ 32
few_places points places a l = let f = firsts_fewer (map vector points) in let m = length-map points vector in let c = a.count in omega arith
