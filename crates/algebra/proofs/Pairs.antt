-- Small identities over ℤ: a term is read as a difference of two naturals, which `omega` multiplies out. `Ring` is for all others.
use Rattle.std.proofs.Common.{◌≡◌, ℕ, ◌+◌, ◌*◌, arith, ap, suc, ℤ, pos, negsuc, ◌+ℤ◌, ◌*ℤ◌, neg_ℤ}
use Rattle.std.proofs.lemmas.Int.{ints}
use borrow.Author.Differences.{up, down}

-- z is the difference p - n.
pub record IsPair (z : ℤ) (p n : ℕ) : Type 0 where
  pub is : up z + n ≡ down z + p

pub is_pair_of : (z : ℤ) → IsPair z (up z) (down z)
is_pair_of z = record { is = omega arith }

pub is_pair-add : {a b : ℤ} {p n q m : ℕ} → IsPair a p n → IsPair b q m → IsPair (a +ℤ b) (p + q) (n + m)
is_pair-add {a} {b} {p} {n} {q} {m} f g = record { is = omega (arith, ints) }

pub is_pair-neg : {a : ℤ} {p n : ℕ} → IsPair a p n → IsPair (neg_ℤ a) n p
is_pair-neg {a} {p} {n} f = record { is = omega (arith, ints) }

pub is_pair-mul : {a b : ℤ} {p n q m : ℕ} → IsPair a p n → IsPair b q m → IsPair (a *ℤ b) (p * q + n * m) (p * m + n * q)
is_pair-mul {a} {b} {p} {n} {q} {m} f g =
    let e1 = ap (λ x. x * up b) f.is in
    let e2 = ap (λ x. x * down b) f.is in
    let e3 = ap (λ x. p * x) g.is in
    let e4 = ap (λ x. n * x) g.is in
    record { is = omega (arith, ints) }

pub same_by : {a b : ℤ} {p n q m : ℕ} → IsPair a p n → IsPair b q m → p + m ≡ q + n → a ≡ b
same_by {a} {b} f g e = omega (arith, ints)

-- The two naturals of a term, which `search pairs` finds.
pub record Pair (a : ℤ) : Type 0 where
  pub p : ℕ
  pub n : ℕ
  pub is : IsPair a p n

abbrev pub pair-add : {a b : ℤ} → Pair a → Pair b → Pair (a +ℤ b)
pair-add f g = record { p = f.p + g.p; n = f.n + g.n; is = is_pair-add f.is g.is }

abbrev pub pair-mul : {a b : ℤ} → Pair a → Pair b → Pair (a *ℤ b)
pair-mul f g = record { p = f.p * g.p + f.n * g.n; n = f.p * g.n + f.n * g.p; is = is_pair-mul f.is g.is }

abbrev pub pair-neg : {a : ℤ} → Pair a → Pair (neg_ℤ a)
pair-neg f = record { p = f.n; n = f.p; is = is_pair-neg f.is }

abbrev pub pair-any : (a : ℤ) → Pair a
pair-any a = record { p = up a; n = down a; is = is_pair_of a }

abbrev pub pair-pos : (n : ℕ) → Pair (pos n)
pair-pos n = record { p = n; n = 0; is = is_pair_of (pos n) }

abbrev pub pair-negsuc : (n : ℕ) → Pair (negsuc n)
pair-negsuc n = record { p = 0; n = suc n; is = is_pair_of (negsuc n) }

-- Without `pair-any`, which `search` would take for every term: bind it for each variable.
pub ruleset pairs = (pair-add, pair-mul, pair-neg, pair-pos, pair-negsuc)

pub small : {a b : ℤ} (f : Pair a) (g : Pair b) → f.p + g.n ≡ g.p + f.n → a ≡ b
small f g e = same_by f.is g.is e
