-- The nearest multiple of a grid, half away from zero.
use Rattle.std.proofs.Common.{◌≡◌, ℕ, suc, ◌+◌, ◌*◌, ◌/◌, ◌<◌, ◌≤◌, [], ◌∷◌, arith, refl, sym, ap, subst, ◌∙◌, ◌⊎◌, ⊎_elim, lit<, lit≤, ℤ, pos, negsuc, ◌+ℤ◌, ◌-ℤ◌, ◌*ℤ◌, neg_ℤ, ◌<ℤ◌, ◌≤ℤ◌, unsigned_abs}
use Rattle.std.proofs.lemmas.Int.{ints, by_lt_z}
use Rattle.std.proofs.Math.IntN.{zero-*ℤ}
use Rattle.std.proofs.Math.Nat.{mul-le-mul_right, le_of_mul-le-mul_right}
use Rattle.algebra.proofs.Expr.{read}
use Rattle.algebra.proofs.Ring.{ring}
use Rattle.algebra.proofs.Orders.{signs, le_by, by_order}
use Rattle.exact_geom.specs.Machine.{IsHalfUp}
use Rattle.exact_geom.specs.Rounding.{IsGrid, IsNearest, gap}

-- ---- the sizes of grids
pub record Grid (g : ℕ) : Type 0 where
  pub positive : 0 < g
  pub small : g ≤ 64
  pub count : ℕ
  pub whole : count * g ≡ 4096

of_size : (g n k : ℕ) → pos g ≡ pos n → 0 < n → n ≤ 64 → k * n ≡ 4096 → Grid g
of_size g n k e p l w = let f : g ≡ n = ap unsigned_abs e in record {
  positive = omega arith;
  small = omega arith;
  count = k;
  whole = ap (λ t. k * t) f ∙ w;
}

pub grid_of : (g : ℕ) → IsGrid (pos g) → Grid g
grid_of g h = ⊎_elim (λ e. of_size g 1 4096 e (lit< tt) (lit≤ tt) refl) (λ h. ⊎_elim (λ e. of_size g 2 2048 e (lit< tt) (lit≤ tt) refl) (λ h. ⊎_elim (λ e. of_size g 4 1024 e (lit< tt) (lit≤ tt) refl)
    (λ h. ⊎_elim (λ e. of_size g 8 512 e (lit< tt) (lit≤ tt) refl) (λ h. ⊎_elim (λ e. of_size g 16 256 e (lit< tt) (lit≤ tt) refl) (λ h. ⊎_elim (λ e. of_size g 32 128 e (lit< tt) (lit≤ tt) refl) (λ e. of_size g 64 64 e (lit< tt) (lit≤ tt) refl) h) h) h) h) h) h

-- ---- the division
positive_times : (m n : ℕ) → 0 < m → 0 < n → 0 < m * n
positive_times m n h k = grind arith

-- over any spacing
divides : (a s : ℕ) → 0 < s → ((2 * s) * ((2 * a + s) / (2 * s)) ≤ 2 * a + s) × (2 * a + s < (2 * s) * ((2 * a + s) / (2 * s)) + 2 * s)
divides a s p = let q : 0 < 2 * s = omega arith in (omega arith, omega arith)

shape : (s q g w : ℕ) → s ≡ g * w → (2 * s) * q ≡ 2 * ((q * g) * w)
shape s q g w e = ap (λ t. (2 * t) * q) e ∙ grind arith

pub half_up : (a w g q : ℕ) → 0 < w → 0 < g → q ≡ (2 * a + g * w) / (2 * (g * w)) → IsHalfUp a w g (q * g)
half_up a w g q p k e =
    let d = divides a (g * w) (positive_times g w k p) in
    let f = shape (g * w) ((2 * a + g * w) / (2 * (g * w))) g w refl in
    let t = ap (λ n. (n * g) * w) e in
    record { count = q; multiple = refl; low = omega arith; high = omega arith }

-- ---- no farther out than the world cube
inside_plain : (q k g : ℕ) → 0 < g → k * g ≡ 4096 → 2 * (q * g) ≤ 8192 + g → q * g ≤ 4096
inside_plain q k g p e h = by (le_or_more q k)
  where
    le_or_more : (a b : ℕ) → (a ≤ b) ⊎ (suc b ≤ a)
    le_or_more a b = grind arith

    by : (q ≤ k) ⊎ (suc k ≤ q) → q * g ≤ 4096
    by s = ⊎_elim (λ l. let m = mul-le-mul_right g l in omega arith) (λ l. let m = mul-le-mul_right g l in let n : suc k * g ≡ k * g + g = grind arith in absurd (omega arith)) s

cancelled : (r g w a : ℕ) → 0 < w → 2 * (r * w) ≤ 2 * a + g * w → a ≤ 4096 * w → 2 * r ≤ 8192 + g
cancelled r g w a p h k = le_of_mul-le-mul_right (sums r g w a h k) p
  where
    sums : (r g w a : ℕ) → 2 * (r * w) ≤ 2 * a + g * w → a ≤ 4096 * w → (2 * r) * w ≤ (8192 + g) * w
    sums r g w a h k = grind arith

pub half_up_inside : (a w g r : ℕ) → 0 < w → Grid g → IsHalfUp a w g r → a ≤ 4096 * w → r ≤ 4096
half_up_inside a w g r p d h k =
    let e = h.multiple in
    let l = cancelled r g w a p h.low k in
    let m : 2 * (h.count * g) ≤ 8192 + g = omega arith in
    let n = inside_plain h.count d.count g d.positive d.whole m in omega arith

-- ---- the nearest of all multiples
-- the multiple T is at least a spacing below R, or above it
nearer_below : (a R S T : ℤ) → (pos 2 *ℤ R) ≤ℤ (pos 2 *ℤ a +ℤ S) → (pos 2 *ℤ a +ℤ S) <ℤ (pos 2 *ℤ R +ℤ pos 2 *ℤ S) → (T +ℤ S) ≤ℤ R → unsigned_abs (a -ℤ R) ≤ unsigned_abs (a -ℤ T)
nearer_below a R S T low high h = omega (arith, ints)

nearer_above : (a R S T : ℤ) → (pos 2 *ℤ R) ≤ℤ (pos 2 *ℤ a +ℤ S) → (pos 2 *ℤ a +ℤ S) <ℤ (pos 2 *ℤ R +ℤ pos 2 *ℤ S) → (R +ℤ S) ≤ℤ T → unsigned_abs (a -ℤ R) < unsigned_abs (a -ℤ T)
nearer_above a R S T low high h = omega (arith, ints)

-- a multiple below 0 is no nearer
nearer_negative : (a R S T : ℤ) → pos 0 ≤ℤ a → pos 0 ≤ℤ R → pos 0 <ℤ S → (pos 2 *ℤ R) ≤ℤ (pos 2 *ℤ a +ℤ S) → (pos 2 *ℤ a +ℤ S) <ℤ (pos 2 *ℤ R +ℤ pos 2 *ℤ S) → (T +ℤ S) ≤ℤ pos 0 → unsigned_abs (a -ℤ R) < unsigned_abs (a -ℤ T)
nearer_negative a R S T p q s low high h = omega (arith, ints)

spaced : (k q S : ℤ) → pos 0 ≤ℤ S → k <ℤ q → (k *ℤ S +ℤ S) ≤ℤ (q *ℤ S)
spaced k q S p h = let m : pos 0 ≤ℤ (q -ℤ k -ℤ pos 1) = omega (arith, ints) in
    le_by ((q -ℤ k -ℤ pos 1) *ℤ S) (search signs) (ring (k ∷ q ∷ S ∷ []) (search read depth 20) tt)

regroup : (k g w : ℤ) → (k *ℤ g) *ℤ w ≡ k *ℤ (g *ℤ w)
regroup k g w = ring (k ∷ g ∷ w ∷ []) (search read depth 20) tt

pub record UpFacts (a w g q : ℕ) : Type 0 where
  pub weight : 0 < w
  pub grid : 0 < g
  pub low : 2 * ((q * g) * w) ≤ 2 * a + g * w
  pub high : 2 * a + g * w < 2 * ((q * g) * w) + 2 * (g * w)

low_z : (a R S : ℕ) → 2 * R ≤ 2 * a + S → (pos 2 *ℤ pos R) ≤ℤ (pos 2 *ℤ pos a +ℤ pos S)
low_z a R S h = omega (arith, ints)

high_z : (a R S : ℕ) → 2 * a + S < 2 * R + 2 * S → (pos 2 *ℤ pos a +ℤ pos S) <ℤ (pos 2 *ℤ pos R +ℤ pos 2 *ℤ pos S)
high_z a R S h = omega (arith, ints)

nearest_at : (a w g q : ℕ) → UpFacts a w g q → (k : ℤ) → gap (pos a) (pos w) (pos (q * g)) ≤ gap (pos a) (pos w) (k *ℤ pos g)
nearest_at a w g q u k =
    let R = pos ((q * g) * w) in
    let S = pos (g * w) in
    let low = low_z a ((q * g) * w) (g * w) u.low in
    let high = high_z a ((q * g) * w) (g * w) u.high in
    let e : (k *ℤ pos g) *ℤ pos w ≡ k *ℤ S = regroup k (pos g) (pos w) in
    let f : pos q *ℤ S ≡ R = sym (regroup (pos q) (pos g) (pos w)) in
    let s : pos 0 ≤ℤ S = omega (arith, ints) in
    subst (λ t. unsigned_abs (pos a -ℤ R) ≤ unsigned_abs (pos a -ℤ t)) (sym e) (by_order k (pos q)
    (λ l. nearer_below (pos a) R S (k *ℤ S) low high (subst (λ t. (k *ℤ S +ℤ S) ≤ℤ t) f (spaced k (pos q) S s l)))
    (λ i. let j : k *ℤ S ≡ R = ap (λ t. t *ℤ S) i ∙ f in omega (arith, ap (λ t. unsigned_abs (pos a -ℤ t)) j))
    (λ l. let n = nearer_above (pos a) R S (k *ℤ S) low high (subst (λ t. (t +ℤ S) ≤ℤ (k *ℤ S)) f (spaced (pos q) k S s l)) in omega arith))

times_size : (k g q : ℕ) → k ≤ q → unsigned_abs (pos k *ℤ pos g) ≤ unsigned_abs (pos (q * g))
times_size k g q h = mul-le-mul_right g h

further_at : (a w g q : ℕ) → UpFacts a w g q → (k : ℤ) → gap (pos a) (pos w) (k *ℤ pos g) ≡ gap (pos a) (pos w) (pos (q * g)) → unsigned_abs (k *ℤ pos g) ≤ unsigned_abs (pos (q * g))
further_at a w g q u (pos k) h =
    let R = pos ((q * g) * w) in
    let S = pos (g * w) in
    let low = low_z a ((q * g) * w) (g * w) u.low in
    let high = high_z a ((q * g) * w) (g * w) u.high in
    let e : (pos k *ℤ pos g) *ℤ pos w ≡ pos k *ℤ S = regroup (pos k) (pos g) (pos w) in
    let f : pos q *ℤ S ≡ R = sym (regroup (pos q) (pos g) (pos w)) in
    let s : pos 0 ≤ℤ S = omega (arith, ints) in
    by_lt_z (pos q) (pos k)
    (λ l.
    let n = nearer_above (pos a) R S (pos k *ℤ S) low high (subst (λ t. (t +ℤ S) ≤ℤ (pos k *ℤ S)) f (spaced (pos q) (pos k) S s l)) in
    let i : unsigned_abs (pos a -ℤ pos k *ℤ S) ≡ unsigned_abs (pos a -ℤ R) = ap (λ t. unsigned_abs (pos a -ℤ t)) (sym e) ∙ h in absurd (omega arith))
    (λ l. times_size k g q (omega (arith, ints)))
further_at a w g q u (negsuc k) h =
    let R = pos ((q * g) * w) in
    let S = pos (g * w) in
    let low = low_z a ((q * g) * w) (g * w) u.low in
    let high = high_z a ((q * g) * w) (g * w) u.high in
    let e : (negsuc k *ℤ pos g) *ℤ pos w ≡ negsuc k *ℤ S = regroup (negsuc k) (pos g) (pos w) in
    let some = positive_times g w u.grid u.weight in
    let s : pos 0 <ℤ S = omega (arith, ints) in
    let s' : pos 0 ≤ℤ S = omega (arith, ints) in
    let z : pos 0 *ℤ S ≡ pos 0 = zero-*ℤ S in
    let l : negsuc k <ℤ pos 0 = omega (arith, ints) in
    let n = nearer_negative (pos a) R S (negsuc k *ℤ S) (omega (arith, ints)) (omega (arith, ints)) s low high (subst (λ t. (negsuc k *ℤ S +ℤ S) ≤ℤ t) z (spaced (negsuc k) (pos 0) S s' l)) in
    let i : unsigned_abs (pos a -ℤ negsuc k *ℤ S) ≡ unsigned_abs (pos a -ℤ R) = ap (λ t. unsigned_abs (pos a -ℤ t)) (sym e) ∙ h in absurd (omega arith)

pub nearest_up : (a w g r : ℕ) → 0 < w → 0 < g → IsHalfUp a w g r → IsNearest (pos g) (pos a) (pos w) (pos r)
nearest_up a w g r p k h =
    let e = h.multiple in
    let u : UpFacts a w g h.count = record {
      weight = p;
      grid = k;
      low = subst (λ n. 2 * (n * w) ≤ 2 * a + g * w) e h.low;
      high = subst (λ n. 2 * a + g * w < 2 * (n * w) + 2 * (g * w)) e h.high;
    } in
    subst (λ n. IsNearest (pos g) (pos a) (pos w) (pos n)) (sym e)
    (nearest_count a w g h.count u)
  where
    nearest_count : (a w g q : ℕ) → UpFacts a w g q → IsNearest (pos g) (pos a) (pos w) (pos (q * g))
    nearest_count a w g q u = record { count = pos q; multiple = refl; nearest = nearest_at a w g q u; half_away = further_at a w g q u }

-- ---- below zero
gap-neg : (x w r : ℤ) → gap (neg_ℤ x) w (neg_ℤ r) ≡ gap x w r
gap-neg x w r = let e : neg_ℤ x -ℤ neg_ℤ r *ℤ w ≡ neg_ℤ (x -ℤ r *ℤ w) = ring (x ∷ r ∷ w ∷ []) (search read depth 20) tt in
    ap unsigned_abs e ∙ same_size (x -ℤ r *ℤ w)
  where
    same_size : (z : ℤ) → unsigned_abs (neg_ℤ z) ≡ unsigned_abs z
    same_size z = omega (arith, ints)

neg-times : (k g : ℤ) → neg_ℤ (neg_ℤ k *ℤ g) ≡ k *ℤ g
neg-times k g = ring (k ∷ g ∷ []) (search read depth 20) tt

size-neg : (z : ℤ) → unsigned_abs (neg_ℤ z) ≡ unsigned_abs z
size-neg z = omega (arith, ints)

-- the gap of a multiple on the other side of 0
gap_turned : (g x w k : ℤ) → gap x w (neg_ℤ k *ℤ g) ≡ gap (neg_ℤ x) w (k *ℤ g)
gap_turned g x w k = sym (gap-neg x w (neg_ℤ k *ℤ g)) ∙ ap (λ t. gap (neg_ℤ x) w t) (neg-times k g)

size_turned : (g k : ℤ) → unsigned_abs (neg_ℤ k *ℤ g) ≡ unsigned_abs (k *ℤ g)
size_turned g k = sym (size-neg (neg_ℤ k *ℤ g)) ∙ ap unsigned_abs (neg-times k g)

pub nearest_turned : (g x w r : ℤ) → IsNearest g x w r → IsNearest g (neg_ℤ x) w (neg_ℤ r)
nearest_turned g x w r n = record {
  count = neg_ℤ n.count;
  multiple = ap neg_ℤ n.multiple ∙ neg-product n.count g;
  nearest = λ k. let a = gap-neg x w r in let b = gap_turned g x w k in let c = n.nearest (neg_ℤ k) in omega arith;
  half_away = λ k h. let a = gap-neg x w r in let b = gap_turned g x w k in let c = n.half_away (neg_ℤ k) (b ∙ h ∙ a) in let d = size_turned g k in let e = size-neg r in omega arith;
}
  where
    neg-product : (k g : ℤ) → neg_ℤ (k *ℤ g) ≡ neg_ℤ k *ℤ g
    neg-product k g = ring (k ∷ g ∷ []) (search read depth 20) tt

-- ---- the answers for machine numbers
pub nearest_same : {g x w r g' x' w' r' : ℤ} → g ≡ g' → x ≡ x' → w ≡ w' → r ≡ r' → IsNearest g x w r → IsNearest g' x' w' r'
nearest_same {g} {x} {w} {r} {g'} {x'} {w'} {r'} e f h k n =
    subst (λ t. IsNearest g' x' w' t) k (subst (λ t. IsNearest g' x' t r) h (subst (λ t. IsNearest g' t w r) f (subst (λ t. IsNearest t x w r) e n)))

pub grid_positive : (g : ℤ) → IsGrid g → pos (unsigned_abs g) ≡ g
grid_positive g h = ⊎_elim (λ e. at 1 e) (λ h. ⊎_elim (λ e. at 2 e) (λ h. ⊎_elim (λ e. at 4 e) (λ h. ⊎_elim (λ e. at 8 e) (λ h. ⊎_elim (λ e. at 16 e) (λ h. ⊎_elim (λ e. at 32 e) (λ e. at 64 e) h) h) h) h) h) h
  where
    at : (n : ℕ) → g ≡ pos n → pos (unsigned_abs g) ≡ g
    at n e = ap (λ t. pos (unsigned_abs t)) e ∙ sym e

some_size : (w : ℤ) → pos 1 ≤ℤ w → 0 < unsigned_abs w
some_size w h = omega (arith, ints)

up : (w : ℤ) → pos 0 ≤ℤ w → pos (unsigned_abs w) ≡ w
up w h = omega (arith, ints)

down : (w : ℤ) → w <ℤ pos 0 → neg_ℤ (pos (unsigned_abs w)) ≡ w
down w h = omega (arith, ints)

not_below : (w : ℤ) → pos 1 ≤ℤ w → pos 0 ≤ℤ w
not_below w h = omega (arith, ints)

half_up_same : {a w g a' w' g' r : ℕ} → a ≡ a' → w ≡ w' → g ≡ g' → IsHalfUp a w g r → IsHalfUp a' w' g' r
half_up_same {a} {w} {g} {a'} {w'} {g'} {r} e f h n = subst (λ t. IsHalfUp a' w' t r) h (subst (λ t. IsHalfUp a' t g r) f (subst (λ t. IsHalfUp t w g r) e n))

pub upright_answer : (g x w m : ℤ) (a v n r : ℕ) → a ≡ unsigned_abs x → v ≡ unsigned_abs w → n ≡ unsigned_abs g → pos 0 ≤ℤ x → pos 1 ≤ℤ w → IsGrid g → IsHalfUp a v n r → pos r ≡ m → IsNearest g x w m
upright_answer g x w m a v n r ea ev en hx hw hg h em =
    let d = grid_of (unsigned_abs g) (subst IsGrid (sym (grid_positive g hg)) hg) in
    nearest_same (grid_positive g hg) (up x hx) (up w (not_below w hw)) em
    (nearest_up (unsigned_abs x) (unsigned_abs w) (unsigned_abs g) r (some_size w hw) d.positive (half_up_same ea ev en h))

pub turned_answer : (g x w m : ℤ) (a v n r : ℕ) → a ≡ unsigned_abs x → v ≡ unsigned_abs w → n ≡ unsigned_abs g → x <ℤ pos 0 → pos 1 ≤ℤ w → IsGrid g → IsHalfUp a v n r → neg_ℤ (pos r) ≡ m → IsNearest g x w m
turned_answer g x w m a v n r ea ev en hx hw hg h em =
    let d = grid_of (unsigned_abs g) (subst IsGrid (sym (grid_positive g hg)) hg) in
    nearest_same (grid_positive g hg) (down x hx) (up w (not_below w hw)) em
    (nearest_turned (pos (unsigned_abs g)) (pos (unsigned_abs x)) (pos (unsigned_abs w)) (pos r)
    (nearest_up (unsigned_abs x) (unsigned_abs w) (unsigned_abs g) r (some_size w hw) d.positive (half_up_same ea ev en h)))
