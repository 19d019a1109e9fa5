-- All triples of points in order, by their places.
use Rattle.std.proofs.Common.{◌≡◌, ℕ, zero, suc, ◌<◌, ◌≤◌, List, [], ◌∷◌, ◌++◌, length, map, get_or, ◌+◌, ◌⊎◌, inl, inr, refl, ap, ap₂, sym, ◌∙◌, subst, arith}
use Rattle.std.specs.Prelude.{flat_map, pos}
use Rattle.algebra.specs.Members.{◌∈◌, here, there}
use Rattle.exact_geom.specs.declared.point.Point.{Point}
use Rattle.exact_geom.specs.Planes.{ThreePoints}
use Rattle.hull_laws.specs.Facets.{Triple, Before, Rising, by_a, by_b, by_c, no_triples, one_more_triple}
use Rattle.hull_laws.specs.Pivots.{with_c, with_b, with_a, triples}
use Rattle.map_model.specs.Brushes.{triples as point_triples}
use Rattle.map_model.proofs.Members.{in_append}

-- Joined lists. ------------------------------------------------------------------------------------------------------------------------

map_join : {A B : Type 0} (f : A → B) (xs ys : List A) → map f (xs ++ ys) ≡ map f xs ++ map f ys
map_join f [] ys = refl
map_join f (x ∷ xs) ys = ap (λ l. f x ∷ l) (map_join f xs ys)

-- The values of f at k numbers from i on.
abbrev values : {A : Type 0} → (ℕ → A) → (i k : ℕ) → List A
values f i zero = []
values f i (suc k) = f i ∷ values f (suc i) k

next_values : {A : Type 0} (x : A) (xs : List A) (d : A) (i k : ℕ) → values (λ j. get_or (x ∷ xs) j d) (suc i) k ≡ values (λ j. get_or xs j d) i k
next_values x xs d i zero = refl
next_values x xs d i (suc k) = ap (λ l. get_or xs i d ∷ l) (next_values x xs d (suc i) k)

all_values : {A : Type 0} (xs : List A) (d : A) → values (λ j. get_or xs j d) 0 (length xs) ≡ xs
all_values [] d = refl
all_values (x ∷ xs) d = ap (λ l. x ∷ l) (next_values x xs d 0 (length xs) ∙ all_values xs d)

-- The points at the places of a triple. --------------------------------------------------------------------------------------------------

abbrev at : (ℕ → Point) → Triple → ThreePoints
at f t = record { p0 = f t.a; p1 = f t.b; p2 = f t.c }

points_c : (f : ℕ → Point) (a b i k : ℕ) → map (at f) (with_c a b i k) ≡ map (λ c. record { p0 = f a; p1 = f b; p2 = c }) (values f i k)
points_c f a b i zero = refl
points_c f a b i (suc k) = ap (λ l. record { p0 = f a; p1 = f b; p2 = f i } ∷ l) (points_c f a b (suc i) k)

points_b : (f : ℕ → Point) (n a i k : ℕ) → map (at f) (with_b n a i k) ≡ flat_map (λ b. map (λ c. record { p0 = f a; p1 = b; p2 = c }) (values f 0 n)) (values f i k)
points_b f n a i zero = refl
points_b f n a i (suc k) =
    map_join (at f) (with_c a i 0 n) (with_b n a (suc i) k) ∙ ap₂ (λ l r. l ++ r) (points_c f a i 0 n) (points_b f n a (suc i) k)

points_a : (f : ℕ → Point) (n i k : ℕ) → map (at f) (with_a n i k) ≡ flat_map (λ a. flat_map (λ b. map (λ c. record { p0 = a; p1 = b; p2 = c }) (values f 0 n)) (values f 0 n)) (values f i k)
points_a f n i zero = refl
points_a f n i (suc k) =
    map_join (at f) (with_b n i 0 n) (with_a n (suc i) k) ∙ ap₂ (λ l r. l ++ r) (points_b f n i 0 n) (points_a f n (suc i) k)

pub all_triples : (ps : List Point) (d : Point) → map (at (λ i. get_or ps i d)) (triples (length ps)) ≡ point_triples ps
all_triples ps d = points_a (λ i. get_or ps i d) (length ps) 0 (length ps) ∙ ap point_triples (all_values ps d)

-- They rise. -----------------------------------------------------------------------------------------------------------------------------

pub rising_join : (xs ys : List Triple) → Rising xs → Rising ys → ((x y : Triple) → x ∈ xs → y ∈ ys → Before x y) → Rising (xs ++ ys)
rising_join [] ys r s apart = s
rising_join (x ∷ xs) ys (one_more_triple b r) s apart =
    one_more_triple (both x xs ys b (λ y j. apart x y here j)) (rising_join xs ys r s (λ z y i j. apart z y (there i) j))
  where
    both : (x : Triple) (xs ys : List Triple) → ((y : Triple) → y ∈ xs → Before x y) → ((y : Triple) → y ∈ ys → Before x y) → (y : Triple) → y ∈ (xs ++ ys) → Before x y
    both x [] ys f g y m = g y m
    both x (z ∷ xs) ys f g y here = f y here
    both x (z ∷ xs) ys f g y (there m) = both x xs ys (λ w i. f w (there i)) g y m

-- A triple with these first two places, and its third one among k from i on.
record WithC (a b i k : ℕ) (t : Triple) : Type 0 where
  first : t.a ≡ a
  second : t.b ≡ b
  low : i ≤ t.c
  high : t.c < i + k

in_c : (a b i k : ℕ) (t : Triple) → t ∈ with_c a b i k → WithC a b i k t
in_c a b i zero t m = elim m [ ]
in_c a b i (suc k) t here = record { first = refl; second = refl; low = omega arith; high = omega arith }
in_c a b i (suc k) t (there m) = let r = in_c a b (suc i) k t m in record { first = r.first; second = r.second; low = omega (arith, r.low); high = omega (arith, r.high) }

rising_c : (a b i k : ℕ) → Rising (with_c a b i k)
rising_c a b i zero = no_triples
rising_c a b i (suc k) = one_more_triple (λ t m. let r = in_c a b (suc i) k t m in by_c (sym r.first) (sym r.second) (omega (arith, r.low))) (rising_c a b (suc i) k)

record WithB (n a i k : ℕ) (t : Triple) : Type 0 where
  first : t.a ≡ a
  low : i ≤ t.b
  high : t.b < i + k
  third : t.c < n

in_b : (n a i k : ℕ) (t : Triple) → t ∈ with_b n a i k → WithB n a i k t
in_b n a i zero t m = elim m [ ]
in_b n a i (suc k) t m = by (in_append (with_c a i 0 n) (with_b n a (suc i) k) t m) (in_b n a (suc i) k t)
  where
    by : (t ∈ with_c a i 0 n) ⊎ (t ∈ with_b n a (suc i) k) → (t ∈ with_b n a (suc i) k → WithB n a (suc i) k t) → WithB n a i (suc k) t
    by (inl m) later = let r = in_c a i 0 n t m in record { first = r.first; low = omega (arith, r.second); high = omega (arith, r.second); third = omega (arith, r.high) }
    by (inr m) later = let r = later m in record { first = r.first; low = omega (arith, r.low); high = omega (arith, r.high); third = r.third }

rising_b : (n a i k : ℕ) → Rising (with_b n a i k)
rising_b n a i zero = no_triples
rising_b n a i (suc k) = rising_join (with_c a i 0 n) (with_b n a (suc i) k) (rising_c a i 0 n) (rising_b n a (suc i) k)
    (λ x y p q. let r = in_c a i 0 n x p in let s = in_b n a (suc i) k y q in by_b (r.first ∙ sym s.first) (omega (arith, r.second, s.low)))

-- Its places are below n, and its first one is among k from i on.
pub record WithA (n i k : ℕ) (t : Triple) : Type 0 where
  pub low : i ≤ t.a
  pub high : t.a < i + k
  pub second : t.b < n
  pub third : t.c < n

pub in_a : (n i k : ℕ) (t : Triple) → t ∈ with_a n i k → WithA n i k t
in_a n i zero t m = elim m [ ]
in_a n i (suc k) t m = by (in_append (with_b n i 0 n) (with_a n (suc i) k) t m) (in_a n (suc i) k t)
  where
    by : (t ∈ with_b n i 0 n) ⊎ (t ∈ with_a n (suc i) k) → (t ∈ with_a n (suc i) k → WithA n (suc i) k t) → WithA n i (suc k) t
    by (inl m) later = let r = in_b n i 0 n t m in record { low = omega (arith, r.first); high = omega (arith, r.first); second = omega (arith, r.high); third = r.third }
    by (inr m) later = let r = later m in record { low = omega (arith, r.low); high = omega (arith, r.high); second = r.second; third = r.third }

rising_a : (n i k : ℕ) → Rising (with_a n i k)
rising_a n i zero = no_triples
rising_a n i (suc k) = rising_join (with_b n i 0 n) (with_a n (suc i) k) (rising_b n i 0 n) (rising_a n (suc i) k)
    (λ x y p q. let r = in_b n i 0 n x p in let s = in_a n (suc i) k y q in by_a (omega (arith, r.first, s.low)))

pub triples_rise : (n : ℕ) → Rising (triples n)
triples_rise n = rising_a n 0 n
