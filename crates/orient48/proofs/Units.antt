-- Rows with one number that isn't 0: what they do to sizes, and that there are six of them.
use Rattle.std.proofs.Common.{◌≡◌, ℕ, ◌*◌, ◌≤◌, ◌==◌, Bool, true, ◌&&◌, List, [], ◌∷◌, inl, inr, refl, sym, ap, subst, ◌∙◌, arith, one-mul, ℤ, pos, negsuc, ◌+ℤ◌, ◌*ℤ◌, unsigned_abs}
use Rattle.std.specs.List.{list_all}
use Rattle.std.proofs.lemmas.Bool.{and_parts, or_cases}
use Rattle.std.proofs.lemmas.Int.{unsigned_abs-mul}
use Rattle.algebra.specs.Space.{Vector, dot}
use Rattle.algebra.proofs.Expr.{read}
use Rattle.algebra.proofs.Ring.{ring}
use Rattle.algebra.proofs.Orders.{eq_by_2}
use Rattle.algebra.proofs.Identities.{vector_by}
use Rattle.exact_geom.specs.Machine.{IsWithin}
use Rattle.orient48.specs.Motions.{Matrix, turned, vector_at, is_unit, is_signed_permutation}
use Rattle.orient48.proofs.Matrices.{three, none_of}

-- ---- sizes
only : (x a r : ℤ) (n : ℕ) → unsigned_abs x ≡ 1 → r ≡ x *ℤ a → unsigned_abs a ≤ n → unsigned_abs r ≤ n
only x a r n h e l =
    let s : unsigned_abs r ≡ unsigned_abs a = ap unsigned_abs e ∙ unsigned_abs-mul x a ∙ ap (λ t. t * unsigned_abs a) h ∙ one-mul (unsigned_abs a) in
    subst (λ t. t ≤ n) (sym s) l

along_x : (x y z a b c : ℤ) → y ≡ pos 0 → z ≡ pos 0 → x *ℤ a +ℤ y *ℤ b +ℤ z *ℤ c ≡ x *ℤ a
along_x x y z a b c h k = eq_by_2 b c h k (ring (x ∷ y ∷ z ∷ a ∷ b ∷ c ∷ []) (search read depth 20) tt)

along_y : (x y z a b c : ℤ) → x ≡ pos 0 → z ≡ pos 0 → x *ℤ a +ℤ y *ℤ b +ℤ z *ℤ c ≡ y *ℤ b
along_y x y z a b c h k = eq_by_2 a c h k (ring (x ∷ y ∷ z ∷ a ∷ b ∷ c ∷ []) (search read depth 20) tt)

along_z : (x y z a b c : ℤ) → x ≡ pos 0 → y ≡ pos 0 → x *ℤ a +ℤ y *ℤ b +ℤ z *ℤ c ≡ z *ℤ c
along_z x y z a b c h k = eq_by_2 a b h k (ring (x ∷ y ∷ z ∷ a ∷ b ∷ c ∷ []) (search read depth 20) tt)

pub unit_size : (v w : Vector) (n : ℕ) → is_unit v ≡ true → IsWithin n w → unsigned_abs (dot v w) ≤ n
unfolding dot
unit_size v w n h s =
    elim (or_cases (unsigned_abs v.x == 1 && (unsigned_abs v.y == 0 && unsigned_abs v.z == 0)) _ h) [
      | inl e ↦
          let t = three (unsigned_abs v.x) (unsigned_abs v.y) (unsigned_abs v.z) 1 0 0 e in
          only v.x w.x _ n t.0 (along_x v.x v.y v.z w.x w.y w.z (none_of v.y t.1) (none_of v.z t.2)) s.x
      | inr f ↦ elim (or_cases (unsigned_abs v.x == 0 && (unsigned_abs v.y == 1 && unsigned_abs v.z == 0)) _ f) [
        | inl e ↦
            let t = three (unsigned_abs v.x) (unsigned_abs v.y) (unsigned_abs v.z) 0 1 0 e in
            only v.y w.y _ n t.1 (along_y v.x v.y v.z w.x w.y w.z (none_of v.x t.0) (none_of v.z t.2)) s.y
        | inr e ↦
            let t = three (unsigned_abs v.x) (unsigned_abs v.y) (unsigned_abs v.z) 0 0 1 e in
            only v.z w.z _ n t.2 (along_z v.x v.y v.z w.x w.y w.z (none_of v.x t.0) (none_of v.y t.1)) s.z
      ]
    ]

pub record UnitRows (m : Matrix) : Type 0 where
  pub x : is_unit m.x ≡ true
  pub y : is_unit m.y ≡ true
  pub z : is_unit m.z ≡ true

pub unit_rows : (m : Matrix) → is_signed_permutation m ≡ true → UnitRows m
unit_rows m h =
    let p = and_parts (is_unit m.x && (is_unit m.y && is_unit m.z)) _ h in
    let r = and_parts (is_unit m.x) (is_unit m.y && is_unit m.z) p.0 in
    let s = and_parts (is_unit m.y) (is_unit m.z) r.1 in
    record { x = r.0; y = s.0; z = s.1 }

pub turned_size : (m : Matrix) (v : Vector) (n : ℕ) → is_signed_permutation m ≡ true → IsWithin n v → IsWithin n (turned m v)
turned_size m v n h s =
    let u = unit_rows m h in
    record { x = unit_size m.x v n u.x s; y = unit_size m.y v n u.y s; z = unit_size m.z v n u.z s }

-- ---- the six rows
abbrev pub units : List Vector
units =
    vector_at (pos 1) (pos 0) (pos 0) ∷ vector_at (negsuc 0) (pos 0) (pos 0) ∷ vector_at (pos 0) (pos 1) (pos 0)
    ∷ vector_at (pos 0) (negsuc 0) (pos 0) ∷ vector_at (pos 0) (pos 0) (pos 1) ∷ vector_at (pos 0) (pos 0) (negsuc 0) ∷ []

record AllUnits (p : Vector → Bool) : Type 0 where
  x : p (vector_at (pos 1) (pos 0) (pos 0)) ≡ true
  minus_x : p (vector_at (negsuc 0) (pos 0) (pos 0)) ≡ true
  y : p (vector_at (pos 0) (pos 1) (pos 0)) ≡ true
  minus_y : p (vector_at (pos 0) (negsuc 0) (pos 0)) ≡ true
  z : p (vector_at (pos 0) (pos 0) (pos 1)) ≡ true
  minus_z : p (vector_at (pos 0) (pos 0) (negsuc 0)) ≡ true

all_units : (p : Vector → Bool) → list_all p units ≡ true → AllUnits p
all_units p h =
    let a = and_parts (p (vector_at (pos 1) (pos 0) (pos 0))) _ h in
    let b = and_parts (p (vector_at (negsuc 0) (pos 0) (pos 0))) _ a.1 in
    let c = and_parts (p (vector_at (pos 0) (pos 1) (pos 0))) _ b.1 in
    let d = and_parts (p (vector_at (pos 0) (negsuc 0) (pos 0))) _ c.1 in
    let e = and_parts (p (vector_at (pos 0) (pos 0) (pos 1))) _ d.1 in
    let f = and_parts (p (vector_at (pos 0) (pos 0) (negsuc 0))) _ e.1 in
    record { x = a.0; minus_x = b.0; y = c.0; minus_y = d.0; z = e.0; minus_z = f.0 }

one_at : (P : ℤ → Type 0) (a : ℤ) → unsigned_abs a ≡ 1 → P (pos 1) → P (negsuc 0) → P a
one_at P (pos n) e p q = subst (λ k. P (pos k)) (sym e) p
one_at P (negsuc n) e p q = subst (λ k. P (negsuc k)) (let z : 0 ≡ n = omega (arith, e) in z) q

is_at : (p : Vector → Bool) (v w : Vector) → w ≡ v → p w ≡ true → p v ≡ true
is_at p v w e h = subst (λ t. p t ≡ true) e h

-- what holds of the six holds of each row
pub each_unit : (p : Vector → Bool) → list_all p units ≡ true → (v : Vector) → is_unit v ≡ true → p v ≡ true
each_unit p all v h =
    let u = all_units p all in
    elim (or_cases (unsigned_abs v.x == 1 && (unsigned_abs v.y == 0 && unsigned_abs v.z == 0)) _ h) [
      | inl e ↦
          let t = three (unsigned_abs v.x) (unsigned_abs v.y) (unsigned_abs v.z) 1 0 0 e in
          is_at p v (vector_at v.x (pos 0) (pos 0)) (vector_by refl (sym (none_of v.y t.1)) (sym (none_of v.z t.2)))
          (one_at (λ a. p (vector_at a (pos 0) (pos 0)) ≡ true) v.x t.0 u.x u.minus_x)
      | inr f ↦ elim (or_cases (unsigned_abs v.x == 0 && (unsigned_abs v.y == 1 && unsigned_abs v.z == 0)) _ f) [
        | inl e ↦
            let t = three (unsigned_abs v.x) (unsigned_abs v.y) (unsigned_abs v.z) 0 1 0 e in
            is_at p v (vector_at (pos 0) v.y (pos 0)) (vector_by (sym (none_of v.x t.0)) refl (sym (none_of v.z t.2)))
            (one_at (λ a. p (vector_at (pos 0) a (pos 0)) ≡ true) v.y t.1 u.y u.minus_y)
        | inr e ↦
            let t = three (unsigned_abs v.x) (unsigned_abs v.y) (unsigned_abs v.z) 0 0 1 e in
            is_at p v (vector_at (pos 0) (pos 0) v.z) (vector_by (sym (none_of v.x t.0)) (sym (none_of v.y t.1)) refl)
            (one_at (λ a. p (vector_at (pos 0) (pos 0) a) ≡ true) v.z t.2 u.z u.minus_z)
      ]
    ]
