-- Sizes of sums and products.
use Rattle.std.proofs.Common.{◌≡◌, ℕ, ◌+◌, ◌*◌, ◌≤◌, arith, subst, sym, ℤ, ◌+ℤ◌, ◌-ℤ◌, ◌*ℤ◌, unsigned_abs}
use Rattle.std.proofs.lemmas.Int.{ints, unsigned_abs-mul}
use Rattle.std.proofs.lemmas.Nat.{mul-le}
use Rattle.algebra.specs.Space.{Vector, dot, cross, minus}
use Rattle.exact_geom.specs.Machine.{IsWithin}

pub size-mul : (a b : ℤ) (m n : ℕ) → unsigned_abs a ≤ m → unsigned_abs b ≤ n → unsigned_abs (a *ℤ b) ≤ m * n
size-mul a b m n h k =
    let e = unsigned_abs-mul a b in
    let l = mul-le (unsigned_abs a) (unsigned_abs b) m n h k in omega arith

pub size-add : (a b : ℤ) (m n : ℕ) → unsigned_abs a ≤ m → unsigned_abs b ≤ n → unsigned_abs (a +ℤ b) ≤ m + n
size-add a b m n h k = omega (arith, ints)

pub size-sub : (a b : ℤ) (m n : ℕ) → unsigned_abs a ≤ m → unsigned_abs b ≤ n → unsigned_abs (a -ℤ b) ≤ m + n
size-sub a b m n h k = omega (arith, ints)

pub IsWithin-minus : (a b : Vector) (m n : ℕ) → IsWithin m a → IsWithin n b → IsWithin (m + n) (minus a b)
unfolding minus
IsWithin-minus a b m n h k = record {
  x = size-sub a.x b.x m n h.x k.x;
  y = size-sub a.y b.y m n h.y k.y;
  z = size-sub a.z b.z m n h.z k.z;
}

pub size_minor : (a b c d : ℤ) (m n : ℕ) → unsigned_abs a ≤ m → unsigned_abs b ≤ m → unsigned_abs c ≤ n → unsigned_abs d ≤ n → unsigned_abs (a *ℤ d -ℤ b *ℤ c) ≤ m * n + m * n
size_minor a b c d m n ha hb hc hd = size-sub (a *ℤ d) (b *ℤ c) (m * n) (m * n) (size-mul a d m n ha hd) (size-mul b c m n hb hc)

pub IsWithin-cross : (a b : Vector) (m n : ℕ) → IsWithin m a → IsWithin n b → IsWithin (m * n + m * n) (cross a b)
unfolding cross
IsWithin-cross a b m n h k = record {
  x = size_minor a.y a.z b.y b.z m n h.y h.z k.y k.z;
  y = size_minor a.z a.x b.z b.x m n h.z h.x k.z k.x;
  z = size_minor a.x a.y b.x b.y m n h.x h.y k.x k.y;
}

pub size-dot : (a b : Vector) (m n : ℕ) → IsWithin m a → IsWithin n b → unsigned_abs (dot a b) ≤ m * n + m * n + m * n
unfolding dot
size-dot a b m n h k =
    size-add (a.x *ℤ b.x +ℤ a.y *ℤ b.y) (a.z *ℤ b.z) (m * n + m * n) (m * n)
    (size-add (a.x *ℤ b.x) (a.y *ℤ b.y) (m * n) (m * n) (size-mul a.x b.x m n h.x k.x) (size-mul a.y b.y m n h.y k.y))
    (size-mul a.z b.z m n h.z k.z)

pub IsWithin_more : {m : ℕ} (n : ℕ) {v : Vector} → IsWithin m v → m ≤ n → IsWithin n v
IsWithin_more n h k = record { x = omega arith; y = omega arith; z = omega arith }

pub IsWithin_at : {n : ℕ} {a b : Vector} → a ≡ b → IsWithin n b → IsWithin n a
IsWithin_at {n} e h = subst (IsWithin n) (sym e) h
