-- Matrices that keep lengths, and motions of them.
use Rattle.std.proofs.Common.{◌≡◌, List, [], ◌∷◌, ap, sym, ◌∙◌, refl, subst, ℕ, ◌==◌, true, ◌&&◌, inl, inr, ℤ, pos, negsuc, ◌+ℤ◌, ◌*ℤ◌, unsigned_abs, eqb-true, arith}
use Rattle.std.specs.Prelude.{IsTrue}
use Rattle.std.proofs.lemmas.Bool.{and_parts, or_cases}
use Rattle.algebra.specs.Space.{Vector, dot, plus, scale}
use Rattle.algebra.proofs.Expr.{read}
use Rattle.algebra.proofs.Ring.{ring}
use Rattle.algebra.proofs.Orders.{eq_by, eq_by_3}
use Rattle.algebra.proofs.Identities.{with_vector, vector_by, dot_comm}
use Rattle.orient48.specs.Motions.{Matrix, turned, transposed, product, unturned, vector_at, is_unit, is_signed_permutation}
use Rattle.orient48.specs.Laws.{IsUpright, IsTurn}

-- ---- unit vectors along an axis
pub record IsUnit (v : Vector) : Type 0 where
  pub one : v.x *ℤ v.x +ℤ v.y *ℤ v.y +ℤ v.z *ℤ v.z ≡ pos 1
  pub xy : v.x *ℤ v.y ≡ pos 0
  pub xz : v.x *ℤ v.z ≡ pos 0
  pub yz : v.y *ℤ v.z ≡ pos 0

square_one : (a : ℤ) → unsigned_abs a ≡ 1 → a *ℤ a ≡ pos 1
square_one (pos n) e = rw e refl
square_one (negsuc n) e = let z : n ≡ 0 = omega (arith, e) in rw z refl

pub none_of : (a : ℤ) → unsigned_abs a ≡ 0 → a ≡ pos 0
none_of (pos n) e = ap pos e
none_of (negsuc n) e = absurd (omega (arith, e))

along_x : (x y z : ℤ) → x *ℤ x ≡ pos 1 → y ≡ pos 0 → z ≡ pos 0 → x *ℤ x +ℤ y *ℤ y +ℤ z *ℤ z ≡ pos 1
along_x x y z h k l = eq_by_3 (pos 1) y z h k l (ring (x ∷ y ∷ z ∷ []) (search read depth 20) tt)

along_y : (x y z : ℤ) → x ≡ pos 0 → y *ℤ y ≡ pos 1 → z ≡ pos 0 → x *ℤ x +ℤ y *ℤ y +ℤ z *ℤ z ≡ pos 1
along_y x y z h k l = eq_by_3 x (pos 1) z h k l (ring (x ∷ y ∷ z ∷ []) (search read depth 20) tt)

along_z : (x y z : ℤ) → x ≡ pos 0 → y ≡ pos 0 → z *ℤ z ≡ pos 1 → x *ℤ x +ℤ y *ℤ y +ℤ z *ℤ z ≡ pos 1
along_z x y z h k l = eq_by_3 x y (pos 1) h k l (ring (x ∷ y ∷ z ∷ []) (search read depth 20) tt)

zero_left : (a b : ℤ) → a ≡ pos 0 → a *ℤ b ≡ pos 0
zero_left a b h = eq_by b h (ring (a ∷ b ∷ []) (search read depth 20) tt)

zero_right : (a b : ℤ) → b ≡ pos 0 → a *ℤ b ≡ pos 0
zero_right a b h = eq_by a h (ring (a ∷ b ∷ []) (search read depth 20) tt)

pub three : (a b c d e f : ℕ) → (a == d && (b == e && c == f)) ≡ true → (a ≡ d) × (b ≡ e) × (c ≡ f)
three a b c d e f h =
    let p = and_parts (a == d) (b == e && c == f) h in
    let q = and_parts (b == e) (c == f) p.1 in
    (eqb-true a d p.0, eqb-true b e q.0, eqb-true c f q.1)

pub is_unit_is : (v : Vector) → is_unit v ≡ true → IsUnit v
is_unit_is v h =
    elim (or_cases (unsigned_abs v.x == 1 && (unsigned_abs v.y == 0 && unsigned_abs v.z == 0)) _ h) [
      | inl e ↦
          let t = three (unsigned_abs v.x) (unsigned_abs v.y) (unsigned_abs v.z) 1 0 0 e in
          let y = none_of v.y t.1 in let z = none_of v.z t.2 in
          record { one = along_x v.x v.y v.z (square_one v.x t.0) y z; xy = zero_right v.x v.y y; xz = zero_right v.x v.z z; yz = zero_right v.y v.z z }
      | inr f ↦ elim (or_cases (unsigned_abs v.x == 0 && (unsigned_abs v.y == 1 && unsigned_abs v.z == 0)) _ f) [
        | inl e ↦
            let t = three (unsigned_abs v.x) (unsigned_abs v.y) (unsigned_abs v.z) 0 1 0 e in
            let x = none_of v.x t.0 in let z = none_of v.z t.2 in
            record { one = along_y v.x v.y v.z x (square_one v.y t.1) z; xy = zero_left v.x v.y x; xz = zero_left v.x v.z x; yz = zero_right v.y v.z z }
        | inr e ↦
            let t = three (unsigned_abs v.x) (unsigned_abs v.y) (unsigned_abs v.z) 0 0 1 e in
            let x = none_of v.x t.0 in let y = none_of v.y t.1 in
            record { one = along_z v.x v.y v.z x y (square_one v.z t.2); xy = zero_left v.x v.y x; xz = zero_left v.x v.z x; yz = zero_left v.y v.z y }
      ]
    ]

-- ---- signed permutations keep lengths
dot_one : (v : Vector) → IsUnit v → dot v v ≡ pos 1
unfolding dot
dot_one v u = u.one

sum_zero : (a b c : ℤ) → a ≡ pos 0 → b ≡ pos 0 → c ≡ pos 0 → a +ℤ b +ℤ c ≡ pos 0
sum_zero a b c h k l = eq_by_3 (pos 1) (pos 1) (pos 1) h k l (ring (a ∷ b ∷ c ∷ []) (search read depth 20) tt)

-- from rows of length 1, and columns that have one number that isn't 0
upright : (m : Matrix) → IsUnit m.x → IsUnit m.y → IsUnit m.z → IsUnit (transposed m).x → IsUnit (transposed m).y → IsUnit (transposed m).z → IsUpright m
unfolding dot
upright m x y z a b c = record {
  xx = x.one;
  yy = y.one;
  zz = z.one;
  xy = sum_zero (m.x.x *ℤ m.y.x) (m.x.y *ℤ m.y.y) (m.x.z *ℤ m.y.z) a.xy b.xy c.xy;
  xz = sum_zero (m.x.x *ℤ m.z.x) (m.x.y *ℤ m.z.y) (m.x.z *ℤ m.z.z) a.xz b.xz c.xz;
  yz = sum_zero (m.y.x *ℤ m.z.x) (m.y.y *ℤ m.z.y) (m.y.z *ℤ m.z.z) a.yz b.yz c.yz;
}

pub is_turn : (m : Matrix) → IsTrue (is_signed_permutation m) → IsTurn m
is_turn m h =
    let c = transposed m in
    let p = and_parts (is_unit m.x && (is_unit m.y && is_unit m.z)) _ h in
    let r = and_parts (is_unit m.x) (is_unit m.y && is_unit m.z) p.0 in
    let s = and_parts (is_unit m.y) (is_unit m.z) r.1 in
    let t = and_parts (is_unit c.x) (is_unit c.y && is_unit c.z) p.1 in
    let u = and_parts (is_unit c.y) (is_unit c.z) t.1 in
    let a = is_unit_is m.x r.0 in let b = is_unit_is m.y s.0 in let d = is_unit_is m.z s.1 in
    let e = is_unit_is c.x t.0 in let f = is_unit_is c.y u.0 in let g = is_unit_is c.z u.1 in
    record { rows = upright m a b d e f g; columns = upright c e f g a b d }

-- ---- products
pub matrix_by : {a b : Matrix} → a.x ≡ b.x → a.y ≡ b.y → a.z ≡ b.z → a ≡ b
matrix_by {a} {b} h k l =
    ap (λ i. record { x = i; y = a.y; z = a.z }) h ∙ ap (λ i. record { x = b.x; y = i; z = a.z }) k ∙ ap (λ i. record { x = b.x; y = b.y; z = i }) l

abbrev pub with_matrix : Matrix → List ℤ → List ℤ
with_matrix m rest = with_vector m.x (with_vector m.y (with_vector m.z rest))

-- a row times a product
row_product : (v : Vector) (b c : Matrix) →
    vector_at (dot v (transposed (product b c)).x) (dot v (transposed (product b c)).y) (dot v (transposed (product b c)).z)
    ≡ (let w = vector_at (dot v (transposed b).x) (dot v (transposed b).y) (dot v (transposed b).z) in vector_at (dot w (transposed c).x) (dot w (transposed c).y) (dot w (transposed c).z))
unfolding dot
row_product v b c = vector_by (ring (with_vector v (with_matrix b (with_matrix c []))) (search read depth 20 fits 20000) tt)
    (ring (with_vector v (with_matrix b (with_matrix c []))) (search read depth 20 fits 20000) tt) (ring (with_vector v (with_matrix b (with_matrix c []))) (search read depth 20 fits 20000) tt)

pub product_assoc : (a b c : Matrix) → product a (product b c) ≡ product (product a b) c
product_assoc a b c = matrix_by (row_product a.x b c) (row_product a.y b c) (row_product a.z b c)

-- a product on a vector
row_turned : (v : Vector) (c : Matrix) (w : Vector) → dot (vector_at (dot v (transposed c).x) (dot v (transposed c).y) (dot v (transposed c).z)) w ≡ dot v (turned c w)
unfolding dot
row_turned v c w = ring (with_vector v (with_matrix c (with_vector w []))) (search read depth 20 fits 20000) tt

pub turned_product : (b c : Matrix) (w : Vector) → turned (product b c) w ≡ turned b (turned c w)
turned_product b c w = vector_by (row_turned b.x c w) (row_turned b.y c w) (row_turned b.z c w)

pub turned_plus : (m : Matrix) (v w : Vector) → turned m (plus v w) ≡ plus (turned m v) (turned m w)
unfolding dot plus
turned_plus m v w = vector_by (ring (with_matrix m (with_vector v (with_vector w []))) (search read depth 20 fits 20000) tt)
    (ring (with_matrix m (with_vector v (with_vector w []))) (search read depth 20 fits 20000) tt) (ring (with_matrix m (with_vector v (with_vector w []))) (search read depth 20 fits 20000) tt)

pub turned_scale : (m : Matrix) (k : ℤ) (v : Vector) → turned m (scale k v) ≡ scale k (turned m v)
unfolding dot scale
turned_scale m k v = vector_by (ring (k ∷ with_matrix m (with_vector v [])) (search read depth 20 fits 20000) tt)
    (ring (k ∷ with_matrix m (with_vector v [])) (search read depth 20 fits 20000) tt) (ring (k ∷ with_matrix m (with_vector v [])) (search read depth 20 fits 20000) tt)

pub transposed_product : (b c : Matrix) → transposed (product b c) ≡ product (transposed c) (transposed b)
unfolding dot
transposed_product b c = matrix_by (by (vector_at c.x.x c.y.x c.z.x)) (by (vector_at c.x.y c.y.y c.z.y)) (by (vector_at c.x.z c.y.z c.z.z))
  where
    by : (v : Vector) → vector_at (dot b.x v) (dot b.y v) (dot b.z v) ≡ vector_at (dot v b.x) (dot v b.y) (dot v b.z)
    by v = vector_by (dot_comm b.x v) (dot_comm b.y v) (dot_comm b.z v)

-- ---- the way back
pub turned_unturned : (v : Vector) → turned unturned v ≡ v
unfolding dot
turned_unturned v = vector_by (ring (with_vector v []) (search read depth 20) tt) (ring (with_vector v []) (search read depth 20) tt) (ring (with_vector v []) (search read depth 20) tt)

pub unturned_product : (m : Matrix) → product unturned m ≡ m
unfolding dot
unturned_product m = matrix_by
    (vector_by (ring (with_matrix m []) (search read depth 20) tt) (ring (with_matrix m []) (search read depth 20) tt) (ring (with_matrix m []) (search read depth 20) tt))
    (vector_by (ring (with_matrix m []) (search read depth 20) tt) (ring (with_matrix m []) (search read depth 20) tt) (ring (with_matrix m []) (search read depth 20) tt))
    (vector_by (ring (with_matrix m []) (search read depth 20) tt) (ring (with_matrix m []) (search read depth 20) tt) (ring (with_matrix m []) (search read depth 20) tt))

pub product_unturned : (m : Matrix) → product m unturned ≡ m
unfolding dot
product_unturned m = matrix_by
    (vector_by (ring (with_matrix m []) (search read depth 20) tt) (ring (with_matrix m []) (search read depth 20) tt) (ring (with_matrix m []) (search read depth 20) tt))
    (vector_by (ring (with_matrix m []) (search read depth 20) tt) (ring (with_matrix m []) (search read depth 20) tt) (ring (with_matrix m []) (search read depth 20) tt))
    (vector_by (ring (with_matrix m []) (search read depth 20) tt) (ring (with_matrix m []) (search read depth 20) tt) (ring (with_matrix m []) (search read depth 20) tt))

-- rows that stand upright times themselves
pub upright_product : (m : Matrix) → IsUpright m → product m (transposed m) ≡ unturned
upright_product m u = matrix_by (vector_by u.xx u.xy u.xz) (vector_by (dot_comm m.y m.x ∙ u.xy) u.yy u.yz) (vector_by (dot_comm m.z m.x ∙ u.xz) (dot_comm m.z m.y ∙ u.yz) u.zz)

pub turn_undone : (m : Matrix) → IsTurn m → product (transposed m) m ≡ unturned
turn_undone m t = upright_product (transposed m) t.columns

pub back_turned : (m : Matrix) (v : Vector) → IsTurn m → turned (transposed m) (turned m v) ≡ v
back_turned m v t = sym (turned_product (transposed m) m v) ∙ ap (λ k. turned k v) (turn_undone m t) ∙ turned_unturned v

pub turned_back : (m : Matrix) (v : Vector) → IsTurn m → turned m (turned (transposed m) v) ≡ v
turned_back m v t = sym (turned_product m (transposed m) v) ∙ ap (λ k. turned k v) (upright_product m t.rows) ∙ turned_unturned v

pub turn_back : (m : Matrix) → IsTurn m → IsTurn (transposed m)
turn_back m t = record { rows = t.columns; columns = t.rows }

-- a product with the transposed one that is unturned has upright rows
upright_from : (m : Matrix) → product m (transposed m) ≡ unturned → IsUpright m
upright_from m e = record {
  xx = ap (λ k. k.x.x) e;
  yy = ap (λ k. k.y.y) e;
  zz = ap (λ k. k.z.z) e;
  xy = ap (λ k. k.x.y) e;
  xz = ap (λ k. k.x.z) e;
  yz = ap (λ k. k.y.z) e;
}

upright_after : (b c : Matrix) → IsUpright b → IsUpright c → IsUpright (product b c)
upright_after b c u v = upright_from (product b c)
    (ap (product (product b c)) (transposed_product b c) ∙ sym (product_assoc b c (product (transposed c) (transposed b)))
    ∙ ap (product b) (product_assoc c (transposed c) (transposed b) ∙ ap (λ k. product k (transposed b)) (upright_product c v) ∙ unturned_product (transposed b))
    ∙ upright_product b u)

pub turn_product : (b c : Matrix) → IsTurn b → IsTurn c → IsTurn (product b c)
turn_product b c t u = record {
  rows = upright_after b c t.rows u.rows;
  columns = subst IsUpright (sym (transposed_product b c)) (upright_after (transposed c) (transposed b) u.columns t.columns);
}
