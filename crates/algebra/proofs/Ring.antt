-- Polynomial identities over ℤ, decided by computing: `ring (x ∷ y ∷ []) (search read depth 20) tt`, where x and y are what the two sides are made of.
-- An expression becomes a sum of monomials in order. A monomial is one natural, with eight bits for each variable: so their product is a sum of naturals, while the degree is below 256.
use Rattle.std.proofs.Common.{◌≡◌, ℕ, zero, suc, ◌+◌, ◌*◌, ◌/◌, ◌%◌, ◌<◌, ◌≤◌, max, Bool, true, false, List, [], ◌∷◌, refl, sym, ap, ◌∙◌, arith, ltb, eqb, eqb-true, subst, T, ltb→lt, ℤ, pos, negsuc, ◌+ℤ◌, ◌-ℤ◌, ◌*ℤ◌, neg_ℤ}
use Rattle.std.proofs.lemmas.Int.{ints}
use Rattle.algebra.proofs.Pairs.{small, pairs, pair-any}
use Rattle.algebra.proofs.Expr.{Expr, var, con, add, mul, neg, value, lookup, head_of, tail_of, Read}

abbrev pub zero_z : ℤ → Bool
zero_z (pos zero) = true
zero_z (pos (suc n)) = false
zero_z (negsuc n) = false

-- Both tests hold.
abbrev pub both : Bool → Bool → Bool
both true b = b
both false b = false

apart : (x y : ℤ) → x +ℤ neg_ℤ y ≡ pos 0 → x ≡ y
apart x y h = omega (arith, ints)

-- A sum of monomials, each a natural k and a factor c.
pub data Sum : Type 0 where
  none : Sum
  term : ℕ → ℤ → Sum → Sum

-- Merges term k c s into a sum, where f merges s into what it is given.
abbrev pub merge_into : ℕ → ℤ → (Sum → Sum) → Sum → Sum → Sum
merge_into k c f s none = term k c s
merge_into k c f s (term j d t) = elim (ltb k j) [ true ↦ term k c (f (term j d t)) | false ↦ elim (eqb k j) [ true ↦ elim (zero_z (c +ℤ d)) [ true ↦ f t | false ↦ term k (c +ℤ d) (f t) ] | false ↦ term j d (merge_into k c f s t) ] ]

abbrev pub merge : Sum → Sum → Sum
merge none t = t
merge (term k c s) t = merge_into k c (merge s) s t

abbrev pub shift_by : ℕ → ℤ → Sum → Sum
shift_by k c none = none
shift_by k c (term j d s) = term (k + j) (c *ℤ d) (shift_by k c s)

abbrev pub product : Sum → Sum → Sum
product none t = none
product (term k c s) t = merge (shift_by k c t) (product s t)

abbrev pub key_of : ℕ → ℕ
key_of zero = 1
key_of (suc i) = 256 * key_of i

abbrev pub sparse : Expr → Sum
sparse (var i) = term (key_of i) (pos 1) none
sparse (con c) = term 0 c none
sparse (add a b) = merge (sparse a) (sparse b)
sparse (mul a b) = product (sparse a) (sparse b)
sparse (neg a) = shift_by 0 (negsuc 0) (sparse a)

abbrev pub all_zero : Sum → Bool
all_zero none = true
all_zero (term k c s) = both (zero_z c) (all_zero s)

abbrev pub degree : Expr → ℕ
degree (var i) = 1
degree (con c) = 0
degree (add a b) = max (degree a) (degree b)
degree (mul a b) = degree a + degree b
degree (neg a) = degree a

-- How many variables it has.
abbrev pub reach : Expr → ℕ
reach (var i) = suc i
reach (con c) = 0
reach (add a b) = max (reach a) (reach b)
reach (mul a b) = max (reach a) (reach b)
reach (neg a) = reach a

-- ---- what a monomial in n variables stands for, and its degree
abbrev pub power : ℤ → ℕ → ℤ
power x zero = pos 1
power x (suc n) = x *ℤ power x n

abbrev pub mono : ℕ → ℕ → List ℤ → ℤ
mono zero k env = pos 1
mono (suc n) k env = power (head_of env) (k % 256) *ℤ mono n (k / 256) (tail_of env)

abbrev pub weight : ℕ → ℕ → ℕ
weight zero k = 0
weight (suc n) k = k % 256 + weight n (k / 256)

one_times : (y : ℤ) → y ≡ pos 1 *ℤ y
one_times y = (let dy = pair-any y in small (search pairs depth 12) (search pairs depth 12) (omega arith))

assoc : (x y z : ℤ) → x *ℤ (y *ℤ z) ≡ (x *ℤ y) *ℤ z
assoc x y z = (let dx = pair-any x in let dy = pair-any y in let dz = pair-any z in small (search pairs depth 12) (search pairs depth 12) (omega arith))

power-add : (x : ℤ) (m n : ℕ) → power x (m + n) ≡ power x m *ℤ power x n
power-add x zero n = let e : 0 + n ≡ n = omega arith in ap (power x) e ∙ one_times (power x n)
power-add x (suc m) n = let e : suc m + n ≡ suc (m + n) = omega arith in ap (power x) e ∙ ap (λ y. x *ℤ y) (power-add x m n) ∙ assoc x (power x m) (power x n)

digit-add : (j k : ℕ) → j % 256 + k % 256 < 256 → (j + k) % 256 ≡ j % 256 + k % 256
digit-add j k h = omega arith

rest-add : (j k : ℕ) → j % 256 + k % 256 < 256 → (j + k) / 256 ≡ j / 256 + k / 256
rest-add j k h = omega arith

swap : (a b c d : ℤ) → (a *ℤ b) *ℤ (c *ℤ d) ≡ (a *ℤ c) *ℤ (b *ℤ d)
swap a b c d = (let da = pair-any a in let db = pair-any b in let dc = pair-any c in let dd = pair-any d in small (search pairs depth 12) (search pairs depth 12) (omega arith))

weight-add : (n j k : ℕ) → weight n j + weight n k < 256 → weight n (j + k) ≡ weight n j + weight n k
weight-add zero j k h = omega arith
weight-add (suc n) j k h =
    let d = digit-add j k (omega arith) in
    let r = rest-add j k (omega arith) in
    let w = weight-add n (j / 256) (k / 256) (omega arith) in
    let e = ap (weight n) r in omega arith

mono-add : (n j k : ℕ) (env : List ℤ) → weight n j + weight n k < 256 → mono n (j + k) env ≡ mono n j env *ℤ mono n k env
mono-add zero j k env h = refl
mono-add (suc n) j k env h =
    ap (λ x. power (head_of env) x *ℤ mono n ((j + k) / 256) (tail_of env)) (digit-add j k (omega arith))
    ∙ ap (λ x. x *ℤ mono n ((j + k) / 256) (tail_of env)) (power-add (head_of env) (j % 256) (k % 256))
    ∙ ap (λ x. (power (head_of env) (j % 256) *ℤ power (head_of env) (k % 256)) *ℤ mono n x (tail_of env)) (rest-add j k (omega arith))
    ∙ ap (λ x. (power (head_of env) (j % 256) *ℤ power (head_of env) (k % 256)) *ℤ x) (mono-add n (j / 256) (k / 256) (tail_of env) (omega arith))
    ∙ swap (power (head_of env) (j % 256)) (power (head_of env) (k % 256)) (mono n (j / 256) (tail_of env)) (mono n (k / 256) (tail_of env))

mono-zero : (n : ℕ) (env : List ℤ) → mono n 0 env ≡ pos 1
mono-zero zero env = refl
mono-zero (suc n) env = ap (λ x. pos 1 *ℤ x) (mono-zero n (tail_of env))

weight-zero : (n : ℕ) → weight n 0 ≡ 0
weight-zero zero = refl
weight-zero (suc n) = ap (λ x. 0 + x) (weight-zero n)

-- ---- what a sum stands for, and that its monomials have at most a degree
abbrev pub worth : ℕ → Sum → List ℤ → ℤ
worth n none env = pos 0
worth n (term k c s) env = c *ℤ mono n k env +ℤ worth n s env

abbrev pub Light : ℕ → ℕ → Sum → Type 0
Light n d none = Unit {0}
Light n d (term k c s) = (weight n k ≤ d) × Light n d s

branch : (P : Sum → Type 0) (b : Bool) (x y : Sum) → (b ≡ true → P x) → (b ≡ false → P y) → P (elim b [ true ↦ x | false ↦ y ])
branch P true x y f g = f refl
branch P false x y f g = g refl

zero_add : (y : ℤ) → y ≡ pos 0 +ℤ y
zero_add y = omega (arith, ints)

add_zero : (x y : ℤ) → x +ℤ y ≡ (x +ℤ y) +ℤ pos 0
add_zero x y = omega (arith, ints)

first_out : (x s y t : ℤ) → x +ℤ (s +ℤ (y +ℤ t)) ≡ (x +ℤ s) +ℤ (y +ℤ t)
first_out x s y t = omega (arith, ints)

other_out : (x s y t : ℤ) → y +ℤ ((x +ℤ s) +ℤ t) ≡ (x +ℤ s) +ℤ (y +ℤ t)
other_out x s y t = omega (arith, ints)

both_out : (c d m s t : ℤ) → (c +ℤ d) *ℤ m +ℤ (s +ℤ t) ≡ (c *ℤ m +ℤ s) +ℤ (d *ℤ m +ℤ t)
both_out c d m s t = (let dc = pair-any c in let dd = pair-any d in let dm = pair-any m in let ds = pair-any s in let dt = pair-any t in small (search pairs depth 12) (search pairs depth 12) (omega arith))

zero_z-is : (c : ℤ) → T (zero_z c) → c ≡ pos 0
zero_z-is (pos zero) t = refl
zero_z-is (pos (suc n)) t = absurd t
zero_z-is (negsuc n) t = absurd t

gone : (c d m s t : ℤ) → c +ℤ d ≡ pos 0 → s +ℤ t ≡ (c *ℤ m +ℤ s) +ℤ (d *ℤ m +ℤ t)
gone c d m s t z = sym (sym (both_out c d m s t) ∙ ap (λ x. x *ℤ m +ℤ (s +ℤ t)) z ∙ (let dm = pair-any m in let ds = pair-any s in let dt = pair-any t in small (search pairs depth 12) (search pairs depth 12) (omega arith)))

worth-merge_into : (n : ℕ) (env : List ℤ) (k : ℕ) (c : ℤ) (f : Sum → Sum) (s t : Sum) → ((u : Sum) → worth n (f u) env ≡ worth n s env +ℤ worth n u env) → worth n (merge_into k c f s t) env ≡ (c *ℤ mono n k env +ℤ worth n s env) +ℤ worth n t env
worth-merge_into n env k c f s none h = add_zero (c *ℤ mono n k env) (worth n s env)
worth-merge_into n env k c f s (term j d t) h =
    branch (λ u. worth n u env ≡ (c *ℤ mono n k env +ℤ worth n s env) +ℤ (d *ℤ mono n j env +ℤ worth n t env)) (ltb k j) _ _
    (λ e. ap (λ x. c *ℤ mono n k env +ℤ x) (h (term j d t)) ∙ first_out (c *ℤ mono n k env) (worth n s env) (d *ℤ mono n j env) (worth n t env))
    (λ e. branch (λ u. worth n u env ≡ (c *ℤ mono n k env +ℤ worth n s env) +ℤ (d *ℤ mono n j env +ℤ worth n t env)) (eqb k j) _ _
    (λ q. let same = ap (λ i. (c *ℤ mono n k env +ℤ worth n s env) +ℤ (d *ℤ mono n i env +ℤ worth n t env)) (eqb-true k j q) in
    branch (λ u. worth n u env ≡ (c *ℤ mono n k env +ℤ worth n s env) +ℤ (d *ℤ mono n j env +ℤ worth n t env)) (zero_z (c +ℤ d)) _ _
    (λ z. h t ∙ gone c d (mono n k env) (worth n s env) (worth n t env) (zero_z-is (c +ℤ d) (subst T (sym z) tt)) ∙ same)
    (λ z. ap (λ x. (c +ℤ d) *ℤ mono n k env +ℤ x) (h t) ∙ both_out c d (mono n k env) (worth n s env) (worth n t env) ∙ same))
    (λ q. ap (λ x. d *ℤ mono n j env +ℤ x) (worth-merge_into n env k c f s t h) ∙ other_out (c *ℤ mono n k env) (worth n s env) (d *ℤ mono n j env) (worth n t env)))

worth-merge : (n : ℕ) (env : List ℤ) (s t : Sum) → worth n (merge s t) env ≡ worth n s env +ℤ worth n t env
worth-merge n env none t = zero_add (worth n t env)
worth-merge n env (term k c s) t = worth-merge_into n env k c (merge s) s t (λ u. worth-merge n env s u)

Light-merge_into : (n b : ℕ) (k : ℕ) (c : ℤ) (f : Sum → Sum) (s t : Sum) → weight n k ≤ b → Light n b s → Light n b t → ((u : Sum) → Light n b u → Light n b (f u)) → Light n b (merge_into k c f s t)
Light-merge_into n b k c f s none w l m h = (w, l)
Light-merge_into n b k c f s (term j d t) w l m h =
    branch (λ u. Light n b u) (ltb k j) _ _
    (λ e. (w, h (term j d t) m))
    (λ e. branch (λ u. Light n b u) (eqb k j) _ _ (λ q. branch (λ u. Light n b u) (zero_z (c +ℤ d)) _ _ (λ z. h t m.1) (λ z. (w, h t m.1))) (λ q. (m.0, Light-merge_into n b k c f s t w l m.1 h)))

Light-merge : (n b : ℕ) (s t : Sum) → Light n b s → Light n b t → Light n b (merge s t)
Light-merge n b none t l m = m
Light-merge n b (term k c s) t l m = Light-merge_into n b k c (merge s) s t l.0 l.1 m (λ u v. Light-merge n b s u l.1 v)

Light-more : (n a b : ℕ) (s : Sum) → a ≤ b → Light n a s → Light n b s
Light-more n a b none h l = l
Light-more n a b (term k c s) h l = (omega (arith, l.0), Light-more n a b s h l.1)

nothing : (x : ℤ) → pos 0 ≡ x *ℤ pos 0
nothing x = omega (arith, ints)

shifted : (c d j m w : ℤ) → (c *ℤ d) *ℤ (m *ℤ j) +ℤ (c *ℤ m) *ℤ w ≡ (c *ℤ m) *ℤ (d *ℤ j +ℤ w)
shifted c d j m w = (let dc = pair-any c in let dd = pair-any d in let dj = pair-any j in let dm = pair-any m in let dw = pair-any w in small (search pairs depth 12) (search pairs depth 12) (omega arith))

worth-shift_by : (n : ℕ) (env : List ℤ) (k b : ℕ) (c : ℤ) (s : Sum) → weight n k + b < 256 → Light n b s → worth n (shift_by k c s) env ≡ (c *ℤ mono n k env) *ℤ worth n s env
worth-shift_by n env k b c none h l = nothing (c *ℤ mono n k env)
worth-shift_by n env k b c (term j d s) h l =
    let w = l.0 in
    ap (λ x. (c *ℤ d) *ℤ x +ℤ worth n (shift_by k c s) env) (mono-add n k j env (omega arith))
    ∙ ap (λ x. (c *ℤ d) *ℤ (mono n k env *ℤ mono n j env) +ℤ x) (worth-shift_by n env k b c s h l.1)
    ∙ shifted c d (mono n j env) (mono n k env) (worth n s env)

Light-shift_by : (n k a b : ℕ) (c : ℤ) (s : Sum) → weight n k ≤ a → a + b < 256 → Light n b s → Light n (a + b) (shift_by k c s)
Light-shift_by n k a b c none v h l = tt
Light-shift_by n k a b c (term j d s) v h l = let w = l.0 in let e = weight-add n k j (omega arith) in (omega arith, Light-shift_by n k a b c s v h l.1)

zero_left : (y : ℤ) → pos 0 ≡ pos 0 *ℤ y
zero_left y = omega (arith, ints)

gathered : (x s t : ℤ) → x *ℤ t +ℤ s *ℤ t ≡ (x +ℤ s) *ℤ t
gathered x s t = (let dx = pair-any x in let ds = pair-any s in let dt = pair-any t in small (search pairs depth 12) (search pairs depth 12) (omega arith))

worth-product : (n : ℕ) (env : List ℤ) (a b : ℕ) (s t : Sum) → a + b < 256 → Light n a s → Light n b t → worth n (product s t) env ≡ worth n s env *ℤ worth n t env
worth-product n env a b none t h l m = zero_left (worth n t env)
worth-product n env a b (term k c s) t h l m =
    let w = l.0 in
    worth-merge n env (shift_by k c t) (product s t)
    ∙ ap (λ x. x +ℤ worth n (product s t) env) (worth-shift_by n env k b c t (omega arith) m)
    ∙ ap (λ x. (c *ℤ mono n k env) *ℤ worth n t env +ℤ x) (worth-product n env a b s t h l.1 m)
    ∙ gathered (c *ℤ mono n k env) (worth n s env) (worth n t env)

Light-product : (n a b : ℕ) (s t : Sum) → a + b < 256 → Light n a s → Light n b t → Light n (a + b) (product s t)
Light-product n a b none t h l m = tt
Light-product n a b (term k c s) t h l m = Light-merge n (a + b) (shift_by k c t) (product s t) (Light-shift_by n k a b c t l.0 h m) (Light-product n a b s t h l.1 m)

-- ---- variables
key_rest : (m : ℕ) → ((256 * m) % 256 ≡ 0) × ((256 * m) / 256 ≡ m)
key_rest m = omega arith

one_more : (x : ℤ) → (x *ℤ pos 1) *ℤ pos 1 ≡ x
one_more x = (let dx = pair-any x in small (search pairs depth 12) (search pairs depth 12) (omega arith))

mono-key_of : (n i : ℕ) (env : List ℤ) → i < n → mono n (key_of i) env ≡ lookup i env
mono-key_of zero i env h = absurd (omega arith)
mono-key_of (suc n) zero env h = ap (λ x. (head_of env *ℤ pos 1) *ℤ x) (mono-zero n (tail_of env)) ∙ one_more (head_of env)
mono-key_of (suc n) (suc i) env h =
    ap (λ x. power (head_of env) x *ℤ mono n ((256 * key_of i) / 256) (tail_of env)) ((key_rest (key_of i)).0)
    ∙ ap (λ x. pos 1 *ℤ mono n x (tail_of env)) ((key_rest (key_of i)).1)
    ∙ sym (one_times (mono n (key_of i) (tail_of env)))
    ∙ mono-key_of n i (tail_of env) (omega arith)

weight-key_of : (n i : ℕ) → weight n (key_of i) ≤ 1
weight-key_of zero i = omega arith
weight-key_of (suc n) zero = let e = weight-zero n in omega arith
weight-key_of (suc n) (suc i) = let w = weight-key_of n i in let e = ap (weight n) ((key_rest (key_of i)).1) in omega (arith, key_rest (key_of i))

-- ---- expressions
Light-sparse : (n : ℕ) (e : Expr) → degree e < 256 → Light n (degree e) (sparse e)
Light-sparse n (var i) h = (weight-key_of n i, tt)
Light-sparse n (con c) h = let e = weight-zero n in (omega arith, tt)
Light-sparse n (add a b) h = Light-merge n (max (degree a) (degree b)) (sparse a) (sparse b)
    (Light-more n (degree a) (max (degree a) (degree b)) (sparse a) (omega arith) (Light-sparse n a (omega arith)))
    (Light-more n (degree b) (max (degree a) (degree b)) (sparse b) (omega arith) (Light-sparse n b (omega arith)))
Light-sparse n (mul a b) h = Light-product n (degree a) (degree b) (sparse a) (sparse b) h (Light-sparse n a (omega arith)) (Light-sparse n b (omega arith))
Light-sparse n (neg a) h = let e = weight-zero n in Light-more n (0 + degree a) (degree a) (shift_by 0 (negsuc 0) (sparse a)) (omega arith) (Light-shift_by n 0 0 (degree a) (negsuc 0) (sparse a) (omega arith) (omega arith) (Light-sparse n a h))

plus_nothing : (x : ℤ) → pos 1 *ℤ x +ℤ pos 0 ≡ x
plus_nothing x = (let dx = pair-any x in small (search pairs depth 12) (search pairs depth 12) (omega arith))

minus_one : (x : ℤ) → (negsuc 0 *ℤ pos 1) *ℤ x ≡ neg_ℤ x
minus_one x = (let dx = pair-any x in small (search pairs depth 12) (search pairs depth 12) (omega arith))

constant : (c : ℤ) → c *ℤ pos 1 +ℤ pos 0 ≡ c
constant c = (let dc = pair-any c in small (search pairs depth 12) (search pairs depth 12) (omega arith))

worth-sparse : (n : ℕ) (env : List ℤ) (e : Expr) → reach e ≤ n → degree e < 256 → worth n (sparse e) env ≡ value env e
worth-sparse n env (var i) r h = ap (λ x. pos 1 *ℤ x +ℤ pos 0) (mono-key_of n i env r) ∙ plus_nothing (lookup i env)
worth-sparse n env (con c) r h = ap (λ x. c *ℤ x +ℤ pos 0) (mono-zero n env) ∙ constant c
worth-sparse n env (add a b) r h =
    worth-merge n env (sparse a) (sparse b)
    ∙ ap (λ x. x +ℤ worth n (sparse b) env) (worth-sparse n env a (omega arith) (omega arith))
    ∙ ap (λ x. value env a +ℤ x) (worth-sparse n env b (omega arith) (omega arith))
worth-sparse n env (mul a b) r h =
    worth-product n env (degree a) (degree b) (sparse a) (sparse b) h (Light-sparse n a (omega arith)) (Light-sparse n b (omega arith))
    ∙ ap (λ x. x *ℤ worth n (sparse b) env) (worth-sparse n env a (omega arith) (omega arith))
    ∙ ap (λ x. value env a *ℤ x) (worth-sparse n env b (omega arith) (omega arith))
worth-sparse n env (neg a) r h =
    let e = weight-zero n in
    worth-shift_by n env 0 (degree a) (negsuc 0) (sparse a) (omega arith) (Light-sparse n a h)
    ∙ ap (λ x. (negsuc 0 *ℤ x) *ℤ worth n (sparse a) env) (mono-zero n env)
    ∙ minus_one (worth n (sparse a) env)
    ∙ ap neg_ℤ (worth-sparse n env a r h)

pub left_of : (a b : Bool) → T (both a b) → T a
left_of true b t = tt
left_of false b t = absurd t

pub right_of : (a b : Bool) → T (both a b) → T b
right_of true b t = t
right_of false b t = absurd t

none_left : (m : ℤ) → pos 0 *ℤ m +ℤ pos 0 ≡ pos 0
none_left m = omega (arith, ints)

worth-all_zero : (n : ℕ) (env : List ℤ) (s : Sum) → T (all_zero s) → worth n s env ≡ pos 0
worth-all_zero n env none t = refl
worth-all_zero n env (term k c s) t =
    ap (λ x. x *ℤ mono n k env +ℤ worth n s env) (zero_z-is c (left_of (zero_z c) (all_zero s) t))
    ∙ ap (λ x. pos 0 *ℤ mono n k env +ℤ x) (worth-all_zero n env s (right_of (zero_z c) (all_zero s) t))
    ∙ none_left (mono n k env)

-- ---- the tactic
-- Whether e is zero whatever its variables are, where its degree is below 256.
abbrev pub vanishes : Expr → Bool
vanishes e = both (ltb (degree e) 256) (all_zero (sparse e))

pub value-vanishes : (env : List ℤ) (e : Expr) → T (vanishes e) → value env e ≡ pos 0
value-vanishes env e t =
    sym (worth-sparse (reach e) env e (omega arith) (ltb→lt (degree e) 256 (left_of (ltb (degree e) 256) (all_zero (sparse e)) t)))
    ∙ worth-all_zero (reach e) env (sparse e) (right_of (ltb (degree e) 256) (all_zero (sparse e)) t)

pub ring : (env : List ℤ) {a b : ℤ} (p : Read env (a -ℤ b)) → T (vanishes p.expr) → a ≡ b
ring env {a} {b} p t = apart a b (sym p.is ∙ value-vanishes env p.expr t)

-- ---- what is left of a false identity
-- A sum with the power of each variable in each monomial.
pub data Left : Type 0 where
  nothing_left : Left
  times_powers : ℤ → List ℕ → Left → Left

abbrev pub powers : ℕ → ℕ → List ℕ
powers zero k = []
powers (suc n) k = k % 256 ∷ powers n (k / 256)

abbrev pub shown : ℕ → Sum → Left
shown n none = nothing_left
shown n (term k c s) = times_powers c (powers n k) (shown n s)

abbrev pub left_over : Expr → Sum
left_over e = elim (ltb (degree e) 256) [ true ↦ sparse e | false ↦ term 0 (pos 1) none ]

shown-none : (n : ℕ) (s : Sum) → shown n s ≡ nothing_left → s ≡ none
shown-none n none e = refl
shown-none n (term k c s) e = cc

all_zero-none : (s : Sum) → s ≡ none → T (all_zero s)
all_zero-none s e = subst (λ u. T (all_zero u)) (sym e) tt

left_over-none : (b : Bool) (s : Sum) → elim b [ true ↦ s | false ↦ term 0 (pos 1) none ] ≡ none → T (both b (all_zero s))
left_over-none true s e = all_zero-none s e
left_over-none false s e = cc

-- `see ENV (search read depth 20) refl` is `ring ENV (search read depth 20) tt`, but where the identity is false the error shows
-- the left side less the right: `times_powers (pos 3) (1 ∷ 2 ∷ [])` is 3 x y y, for the list x ∷ y ∷ [].
pub see : (env : List ℤ) {a b : ℤ} (p : Read env (a -ℤ b)) → shown (reach p.expr) (left_over p.expr) ≡ nothing_left → a ≡ b
see env p e = ring env p (left_over-none (ltb (degree p.expr) 256) (sparse p.expr) (shown-none (reach p.expr) (left_over p.expr) e))
