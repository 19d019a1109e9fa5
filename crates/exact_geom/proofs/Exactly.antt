-- Machine numbers that are what they are to be: sums and products whose parts are small enough.
use Rattle.std.proofs.Common.{◌≡◌, ℕ, ◌+◌, ◌*◌, ◌<◌, ◌≤◌, ◌^◌, arith, ap, ◌∙◌, refl, sym, subst, nat_eq, ℤ, ◌+ℤ◌, ◌-ℤ◌, ◌*ℤ◌, FitsSigned, to_z, of_z, unsigned_abs, T, ltb, lit<, w64}
use Rattle.std.specs.Int.{w128}
use Rattle.std.proofs.lemmas.Int.{to_z-of_z, fits_signed_from_abs}
use Rattle.std.specs.Ordering.{int_eq}
use Rattle.std.proofs.lemmas.Bool.Decides.{Decides-eqb, Decides-int_eq, same_from_decides}
use Rattle.exact_geom.specs.Limits.{coordinate_limit, cross_limit, dist_limit, normal_limit}
use mir.Syntax.{Width}
use mir.Val.{hbits}
use Rattle.exact_geom.proofs.Sizes.{size-mul, size-add, size-sub, size_minor}

-- the machine number m is z, which is at most n in size
pub record Exactly (w : Width) (m z : ℤ) (n : ℕ) : Type 0 where
  pub is : m ≡ z
  pub size : unsigned_abs z ≤ n

fits_of_size : (w : Width) (z : ℤ) (n : ℕ) → unsigned_abs z ≤ n → n < 2 ^ hbits w → FitsSigned w z
fits_of_size w z n h k = fits_signed_from_abs w z (omega arith)

keep : (w : Width) (a z : ℤ) (n : ℕ) → a ≡ z → unsigned_abs z ≤ n → T (ltb n (2 ^ hbits w)) → Exactly w (to_z w (of_z w a)) z n
keep w a z n e h k = record { is = ap (λ x. to_z w (of_z w x)) e ∙ to_z-of_z w z (fits_of_size w z n h (lit< k)); size = h }

fit : (w : Width) (a z : ℤ) (n : ℕ) → a ≡ z → unsigned_abs z ≤ n → T (ltb n (2 ^ hbits w)) → FitsSigned w a
fit w a z n e h k = let f = ap unsigned_abs e in fits_of_size w a n (omega arith) (lit< k)

-- a variable that is at most n in size, and the result of a call that is z
pub var : (w : Width) (z : ℤ) {n : ℕ} → unsigned_abs z ≤ n → T (ltb n (2 ^ hbits w)) → Exactly w (to_z w (of_z w z)) z n
var w z {n} h k = keep w z z n refl h k

-- a number that was widened from 64 bits
pub wide : (m z : ℤ) {n : ℕ} → m ≡ to_z w64 (of_z w64 z) → unsigned_abs z ≤ n → T (ltb n (2 ^ 63)) → Exactly w128 (to_z w128 (of_z w128 m)) z n
wide m z {n} e h k =
    let small : n < 2 ^ 63 = lit< k in
    let e' : m ≡ z = e ∙ (keep w64 z z n refl h k).is in
    record { is = ap (λ x. to_z w128 (of_z w128 x)) e' ∙ to_z-of_z w128 z (fits_of_size w128 z n h (omega arith)); size = h }

pub call : (w : Width) (a z : ℤ) {n : ℕ} → a ≡ z → unsigned_abs z ≤ n → T (ltb n (2 ^ hbits w)) → Exactly w (to_z w (of_z w a)) z n
call w a z {n} e h k = keep w a z n e h k

two : (P : ℤ → ℤ → ℤ) {a b x y : ℤ} → a ≡ x → b ≡ y → P a b ≡ P x y
two P {a} {b} {x} {y} e f = ap (λ t. P t b) e ∙ ap (λ t. P x t) f

pub times : {w : Width} {a b x y : ℤ} {m n : ℕ} → Exactly w a x m → Exactly w b y n → T (ltb (m * n) (2 ^ hbits w)) → Exactly w (to_z w (of_z w (a *ℤ b))) (x *ℤ y) (m * n)
times {w} {a} {b} {x} {y} {m} {n} f g k = keep w (a *ℤ b) (x *ℤ y) (m * n) (two (λ s t. s *ℤ t) f.is g.is) (size-mul x y m n f.size g.size) k

pub sum : {w : Width} {a b x y : ℤ} {m n : ℕ} → Exactly w a x m → Exactly w b y n → T (ltb (m + n) (2 ^ hbits w)) → Exactly w (to_z w (of_z w (a +ℤ b))) (x +ℤ y) (m + n)
sum {w} {a} {b} {x} {y} {m} {n} f g k = keep w (a +ℤ b) (x +ℤ y) (m + n) (two (λ s t. s +ℤ t) f.is g.is) (size-add x y m n f.size g.size) k

pub less : {w : Width} {a b x y : ℤ} {m n : ℕ} → Exactly w a x m → Exactly w b y n → T (ltb (m + n) (2 ^ hbits w)) → Exactly w (to_z w (of_z w (a -ℤ b))) (x -ℤ y) (m + n)
less {w} {a} {b} {x} {y} {m} {n} f g k = keep w (a -ℤ b) (x -ℤ y) (m + n) (two (λ s t. s -ℤ t) f.is g.is) (size-sub x y m n f.size g.size) k

-- the same before they are kept: they fit their type
pub times_fits : {w : Width} {a b x y : ℤ} {m n : ℕ} → Exactly w a x m → Exactly w b y n → T (ltb (m * n) (2 ^ hbits w)) → FitsSigned w (a *ℤ b)
times_fits {w} {a} {b} {x} {y} {m} {n} f g k = fit w (a *ℤ b) (x *ℤ y) (m * n) (two (λ s t. s *ℤ t) f.is g.is) (size-mul x y m n f.size g.size) k

pub sum_fits : {w : Width} {a b x y : ℤ} {m n : ℕ} → Exactly w a x m → Exactly w b y n → T (ltb (m + n) (2 ^ hbits w)) → FitsSigned w (a +ℤ b)
sum_fits {w} {a} {b} {x} {y} {m} {n} f g k = fit w (a +ℤ b) (x +ℤ y) (m + n) (two (λ s t. s +ℤ t) f.is g.is) (size-add x y m n f.size g.size) k

pub less_fits : {w : Width} {a b x y : ℤ} {m n : ℕ} → Exactly w a x m → Exactly w b y n → T (ltb (m + n) (2 ^ hbits w)) → FitsSigned w (a -ℤ b)
less_fits {w} {a} {b} {x} {y} {m} {n} f g k = fit w (a -ℤ b) (x -ℤ y) (m + n) (two (λ s t. s -ℤ t) f.is g.is) (size-sub x y m n f.size g.size) k

-- a 2x2 determinant that a call gave for machine numbers
pub minor_is : (a b c d r : ℤ) → unsigned_abs a ≤ normal_limit → unsigned_abs b ≤ normal_limit → unsigned_abs c ≤ normal_limit → unsigned_abs d ≤ normal_limit
    → r ≡ to_z w64 (of_z w64 a) *ℤ to_z w64 (of_z w64 d) -ℤ to_z w64 (of_z w64 b) *ℤ to_z w64 (of_z w64 c)
    → to_z w64 (of_z w64 r) ≡ a *ℤ d -ℤ b *ℤ c
minor_is a b c d r ha hb hc hd e =
    let pa = (var w64 a ha tt).is in
    let pb = (var w64 b hb tt).is in
    let pc = (var w64 c hc tt).is in
    let pd = (var w64 d hd tt).is in
    let f : r ≡ a *ℤ d -ℤ b *ℤ c = e ∙ two (λ s t. s -ℤ t) (two (λ s t. s *ℤ t) pa pd) (two (λ s t. s *ℤ t) pb pc) in
    (call w64 r (a *ℤ d -ℤ b *ℤ c) f (size_minor a b c d normal_limit normal_limit ha hb hc hd) tt).is

-- a sum of three products that a call gave for machine numbers
pub products_is : (a x b y c z r : ℤ) → unsigned_abs a ≤ dist_limit → unsigned_abs x ≤ cross_limit → unsigned_abs b ≤ dist_limit → unsigned_abs y ≤ cross_limit → unsigned_abs c ≤ dist_limit → unsigned_abs z ≤ cross_limit
    → r ≡ to_z w64 (of_z w64 a) *ℤ to_z w64 (of_z w64 x) +ℤ to_z w64 (of_z w64 b) *ℤ to_z w64 (of_z w64 y) +ℤ to_z w64 (of_z w64 c) *ℤ to_z w64 (of_z w64 z)
    → Exactly w128 (to_z w128 (of_z w128 r)) (a *ℤ x +ℤ b *ℤ y +ℤ c *ℤ z) coordinate_limit
products_is a x b y c z r ha hx hb hy hc hz e =
    let times_is = λ (m n : ℤ) (p : unsigned_abs m ≤ dist_limit) (q : unsigned_abs n ≤ cross_limit). two (λ s t. s *ℤ t) (var w64 m p tt).is (var w64 n q tt).is in
    let f : r ≡ a *ℤ x +ℤ b *ℤ y +ℤ c *ℤ z = e ∙ two (λ s t. s +ℤ t) (two (λ s t. s +ℤ t) (times_is a x ha hx) (times_is b y hb hy)) (times_is c z hc hz) in
    let one = size-mul a x dist_limit cross_limit ha hx in
    let other = size-mul b y dist_limit cross_limit hb hy in
    let last = size-mul c z dist_limit cross_limit hc hz in
    call w128 r (a *ℤ x +ℤ b *ℤ y +ℤ c *ℤ z) f
    (size-add (a *ℤ x +ℤ b *ℤ y) (c *ℤ z) 181665899625038198340826693632 90832949812519099170413346816
    (size-add (a *ℤ x) (b *ℤ y) 90832949812519099170413346816 90832949812519099170413346816 one other) last) tt

-- the same sum where the factors x, y and z are known to be others
pub coordinate_is : (a b c : ℤ) {x y z x' y' z' r : ℤ} → unsigned_abs a ≤ dist_limit → unsigned_abs b ≤ dist_limit → unsigned_abs c ≤ dist_limit → unsigned_abs x' ≤ cross_limit → unsigned_abs y' ≤ cross_limit → unsigned_abs z' ≤ cross_limit
    → x ≡ x' → y ≡ y' → z ≡ z' → r ≡ to_z w64 (of_z w64 a) *ℤ to_z w64 (of_z w64 x) +ℤ to_z w64 (of_z w64 b) *ℤ to_z w64 (of_z w64 y) +ℤ to_z w64 (of_z w64 c) *ℤ to_z w64 (of_z w64 z)
    → Exactly w128 (to_z w128 (of_z w128 r)) (a *ℤ x' +ℤ b *ℤ y' +ℤ c *ℤ z') coordinate_limit
coordinate_is a b c {x} {y} {z} {x'} {y'} {z'} {r} ha hb hc hx hy hz ex ey ez e =
    let k = λ (t : ℤ). to_z w64 (of_z w64 t) in
    products_is a x' b y' c z' r ha hx hb hy hc hz
    (e ∙ ap (λ t. k a *ℤ k t +ℤ k b *ℤ k y +ℤ k c *ℤ k z) ex ∙ ap (λ t. k a *ℤ k x' +ℤ k b *ℤ k t +ℤ k c *ℤ k z) ey ∙ ap (λ t. k a *ℤ k x' +ℤ k b *ℤ k y' +ℤ k c *ℤ k t) ez)

pub size_of : {w : Width} {m z : ℤ} {n : ℕ} → Exactly w m z n → unsigned_abs m ≤ n
size_of {w} {m} {z} {n} h = subst (λ t. unsigned_abs t ≤ n) (sym h.is) h.size

-- `==` of two machine numbers
pub equal_test : (w : Width) (x y : ℤ) → FitsSigned w x → FitsSigned w y → nat_eq (of_z w x) (of_z w y) ≡ int_eq x y
equal_test w x y f g =
    let d = Decides-eqb (of_z w x) (of_z w y) in
    same_from_decides (nat_eq (of_z w x) (of_z w y)) (int_eq x y) (λ e. sym (to_z-of_z w x f) ∙ ap (to_z w) (d.0 e) ∙ to_z-of_z w y g, λ e. d.1 (ap (of_z w) e)) (Decides-int_eq x y)

pub products_equal : {w : Width} {a b c d x y z u : ℤ} {k l m n : ℕ} → Exactly w a x k → Exactly w b y l → Exactly w c z m → Exactly w d u n → T (ltb (k * l) (2 ^ hbits w)) → T (ltb (m * n) (2 ^ hbits w)) → nat_eq (of_z w (a *ℤ b)) (of_z w (c *ℤ d)) ≡ int_eq (x *ℤ y) (z *ℤ u)
products_equal {w} {a} {b} {c} {d} {x} {y} {z} {u} {k} {l} {m} {n} f g h i p q =
    ap (λ t. nat_eq (of_z w t) (of_z w (c *ℤ d))) (two (λ s t. s *ℤ t) f.is g.is) ∙ ap (λ t. nat_eq (of_z w (x *ℤ y)) (of_z w t)) (two (λ s t. s *ℤ t) h.is i.is)
    ∙ equal_test w (x *ℤ y) (z *ℤ u) (fits_of_size w (x *ℤ y) (k * l) (size-mul x y k l f.size g.size) (lit< p)) (fits_of_size w (z *ℤ u) (m * n) (size-mul z u m n h.size i.size) (lit< q))
