-- From a table to the rule of its entries.
use Rattle.std.proofs.Common.{◌≡◌, ℕ, zero, suc, ◌+◌, ◌*◌, ◌<◌, ◌/◌, ◌%◌, ◌==◌, Bool, true, false, ◌&&◌, nat_lt, cond, List, [], ◌∷◌, get_or, length, refl, ap, subst, ◌∙◌, arith, pos, negsuc, ◌+ℤ◌, eqb-true}
use Rattle.std.specs.Prelude.{slice_index_or, int_lt}
use Rattle.std.specs.Ordering.{int_eq}
use Rattle.std.proofs.lemmas.Bool.{and_parts, ltb-true}
use Rattle.std.proofs.lemmas.Bool.Decides.{Decides-int_eq}
use Rattle.algebra.specs.Space.{Vector}
use Rattle.algebra.proofs.Identities.{vector_by}
use Rattle.exact_geom.specs.declared.axis.Axis.{Axis}
use Rattle.exact_geom.specs.declared.axis.Axis.TheVariants.{X, Y, Z}
use Rattle.orient48.specs.declared.row.Row.{Row}
use Rattle.orient48.specs.declared.row.Row.TheVariants.{X as TakeX, MinusX, Y as TakeY, MinusY, Z as TakeZ, MinusZ}
use Rattle.orient48.specs.Motions.{Matrix, is_flip, product, transposed}
use Rattle.orient48.specs.Orients.{orders, taking, matrix_of, orient_count}
use Rattle.orient48.specs.Rows.{row_vector, matrix_of_rows}
use Rattle.orient48.proofs.Matrices.{matrix_by}

-- ---- a list by a function of the places
abbrev pub tabulated : {A : Type 0} → (ℕ → A) → (start count : ℕ) → List A
tabulated f start zero = []
tabulated f start (suc n) = f start ∷ tabulated f (suc start) n

entry : {A : Type 0} (f : ℕ → A) (d : A) (start count k : ℕ) → k < count → get_or (tabulated f start count) k d ≡ f (start + k)
entry f d start zero k h = absurd (omega arith)
entry f d start (suc n) zero h = ap f (omega arith)
entry f d start (suc n) (suc k) h = entry f d (suc start) n k (omega arith) ∙ ap f (omega arith)

zero_plus : (n : ℕ) → 0 + n ≡ n
zero_plus n = omega arith

-- ---- the rows of a number
abbrev pub picked : Axis → (minus : Bool) → Row
picked X false = TakeX
picked X true = MinusX
picked Y false = TakeY
picked Y true = MinusY
picked Z false = TakeZ
picked Z true = MinusZ

abbrev pub row_at : Axis → (bit : ℕ) → Row
row_at axis bit = picked axis (cond (bit == 0) false true)

abbrev pub rows_at : ℕ → List Row
rows_at n =
    let order = get_or orders (n / 8) (record { x = X; y = Y; z = Z }) in
    row_at order.x (n % 2) ∷ row_at order.y (n / 2 % 2) ∷ row_at order.z (n / 4 % 2) ∷ []

picked_is : (axis : Axis) (b : Bool) → row_vector (picked axis (cond b false true)) ≡ taking axis (cond b (pos 1) (negsuc 0))
picked_is X true = refl
picked_is X false = refl
picked_is Y true = refl
picked_is Y false = refl
picked_is Z true = refl
picked_is Z false = refl

rows_are : (n : ℕ) → matrix_of_rows (rows_at n) ≡ matrix_of n
rows_are n =
    let order = get_or orders (n / 8) (record { x = X; y = Y; z = Z }) in
    matrix_by (picked_is order.x (n % 2 == 0)) (picked_is order.y (n / 2 % 2 == 0)) (picked_is order.z (n / 4 % 2 == 0))

pub rows_entry : (table : List (List Row)) → table ≡ tabulated rows_at 0 48 → (n : ℕ) (d : List Row) → n < 48 → matrix_of_rows (slice_index_or table n d) ≡ matrix_of n
rows_entry table e n d h =
    ap (λ t. matrix_of_rows (get_or t n d)) e ∙ ap matrix_of_rows (entry rows_at d 0 48 n h ∙ ap rows_at (zero_plus n)) ∙ rows_are n

-- ---- flips
pub flip_entry : (table : List Bool) → table ≡ tabulated (λ n. is_flip (matrix_of n)) 0 48 → (n : ℕ) (d : Bool) → n < 48 → slice_index_or table n d ≡ is_flip (matrix_of n)
flip_entry table e n d h =
    ap (λ t. get_or t n d) e ∙ entry (λ n. is_flip (matrix_of n)) d 0 48 n h ∙ ap (λ k. is_flip (matrix_of k)) (zero_plus n)

-- ---- a test of each entry
abbrev pub all_fit : {A : Type 0} → (ℕ → A → Bool) → (start : ℕ) → List A → Bool
all_fit fits start [] = true
all_fit fits start (x ∷ xs) = fits start x && all_fit fits (suc start) xs

fit : {A : Type 0} (fits : ℕ → A → Bool) (start : ℕ) (xs : List A) (k : ℕ) (d : A) → k < length xs → all_fit fits start xs ≡ true → fits (start + k) (get_or xs k d) ≡ true
fit fits start [] k d h e = absurd (omega arith)
fit fits start (x ∷ xs) zero d h e = subst (λ n. fits n x ≡ true) (omega arith) (and_parts (fits start x) (all_fit fits (suc start) xs) e).0
fit fits start (x ∷ xs) (suc k) d h e =
    subst (λ n. fits n (get_or xs k d) ≡ true) (omega arith)
    (fit fits (suc start) xs k d (omega arith) (and_parts (fits start x) (all_fit fits (suc start) xs) e).1)

abbrev pub same_vector : Vector → Vector → Bool
same_vector a b = int_eq a.x b.x && (int_eq a.y b.y && int_eq a.z b.z)

same_vector_is : (a b : Vector) → same_vector a b ≡ true → a ≡ b
same_vector_is a b e =
    let p = and_parts (int_eq a.x b.x) (int_eq a.y b.y && int_eq a.z b.z) e in
    let q = and_parts (int_eq a.y b.y) (int_eq a.z b.z) p.1 in
    vector_by ((Decides-int_eq a.x b.x).0 p.0) ((Decides-int_eq a.y b.y).0 q.0) ((Decides-int_eq a.z b.z).0 q.1)

abbrev pub same_matrix : Matrix → Matrix → Bool
same_matrix a b = same_vector a.x b.x && (same_vector a.y b.y && same_vector a.z b.z)

pub same_matrix_is : (a b : Matrix) → same_matrix a b ≡ true → a ≡ b
same_matrix_is a b e =
    let p = and_parts (same_vector a.x b.x) (same_vector a.y b.y && same_vector a.z b.z) e in
    let q = and_parts (same_vector a.y b.y) (same_vector a.z b.z) p.1 in
    matrix_by (same_vector_is a.x b.x p.0) (same_vector_is a.y b.y q.0) (same_vector_is a.z b.z q.1)

-- the number k is below 48, and its matrix is m
abbrev pub is_number_of : Matrix → ℕ → Bool
is_number_of m k = nat_lt k 48 && same_matrix (matrix_of k) m

pub number_below : (m : Matrix) (k : ℕ) → is_number_of m k ≡ true → k < 48
number_below m k e = ltb-true k 48 (and_parts (nat_lt k 48) (same_matrix (matrix_of k) m) e).0

pub number_matrix : (m : Matrix) (k : ℕ) → is_number_of m k ≡ true → matrix_of k ≡ m
number_matrix m k e = same_matrix_is (matrix_of k) m (and_parts (nat_lt k 48) (same_matrix (matrix_of k) m) e).1

-- ---- the number of a matrix
abbrev pub place_of : Vector → ℕ
place_of v = cond (int_eq v.x (pos 0)) (cond (int_eq v.y (pos 0)) 2 1) 0

abbrev pub minus_of : Vector → ℕ
minus_of v = cond (int_lt (v.x +ℤ v.y +ℤ v.z) (pos 0)) 1 0

abbrev pub number_of : Matrix → ℕ
number_of m =
    let p = place_of m.x in
    let later = cond (place_of m.y == cond (p == 2) 1 2) 1 0 in
    8 * (2 * p + later) + (minus_of m.x + 2 * minus_of m.y + 4 * minus_of m.z)

-- ---- inverses
abbrev pub are_inverses : List ℕ → Bool
are_inverses table = all_fit (λ n k. is_number_of (transposed (matrix_of n)) k) 0 table

inverse_fits : (table : List ℕ) (n d : ℕ) → are_inverses table ≡ true → n < length table → is_number_of (transposed (matrix_of n)) (get_or table n d) ≡ true
inverse_fits table n d e h =
    subst (λ k. is_number_of (transposed (matrix_of k)) (get_or table n d) ≡ true) (zero_plus n) (fit (λ n k. is_number_of (transposed (matrix_of n)) k) 0 table n d h e)

pub inverse_below : (table : List ℕ) → are_inverses table ≡ true → (n d : ℕ) → n < length table → slice_index_or table n d < orient_count
inverse_below table e n d h = number_below (transposed (matrix_of n)) (get_or table n d) (inverse_fits table n d e h)

pub inverse_matrix : (table : List ℕ) → are_inverses table ≡ true → (n d : ℕ) → n < length table → matrix_of (slice_index_or table n d) ≡ transposed (matrix_of n)
inverse_matrix table e n d h = number_matrix (transposed (matrix_of n)) (get_or table n d) (inverse_fits table n d e h)

-- ---- products
abbrev pub is_product_row : ℕ → List ℕ → Bool
is_product_row a row = (length row == 48) && all_fit (λ b k. is_number_of (product (matrix_of a) (matrix_of b)) k) 0 row

abbrev pub are_products : List (List ℕ) → Bool
are_products table = all_fit is_product_row 0 table

product_fits : (table : List (List ℕ)) (a b d : ℕ) (r : List ℕ) → are_products table ≡ true → a < length table → b < 48 →
    is_number_of (product (matrix_of a) (matrix_of b)) (get_or (get_or table a r) b d) ≡ true
product_fits table a b d r e h k =
    let row = get_or table a r in
    let is = subst (λ j. is_product_row j row ≡ true) (zero_plus a) (fit is_product_row 0 table a r h e) in
    let p = and_parts (length row == 48) (all_fit (λ b k. is_number_of (product (matrix_of a) (matrix_of b)) k) 0 row) is in
    let l : length row ≡ 48 = eqb-true (length row) 48 p.0 in
    subst (λ j. is_number_of (product (matrix_of a) (matrix_of j)) (get_or row b d) ≡ true) (zero_plus b)
    (fit (λ b k. is_number_of (product (matrix_of a) (matrix_of b)) k) 0 row b d (omega (arith, l)) p.1)

pub product_below : (table : List (List ℕ)) → are_products table ≡ true → (a b d : ℕ) (r : List ℕ) → a < length table → b < 48 → slice_index_or (slice_index_or table a r) b d < orient_count
product_below table e a b d r h k = number_below (product (matrix_of a) (matrix_of b)) (get_or (get_or table a r) b d) (product_fits table a b d r e h k)

pub product_matrix : (table : List (List ℕ)) → are_products table ≡ true → (a b d : ℕ) (r : List ℕ) → a < length table → b < 48 →
    matrix_of (slice_index_or (slice_index_or table a r) b d) ≡ product (matrix_of a) (matrix_of b)
product_matrix table e a b d r h k = number_matrix (product (matrix_of a) (matrix_of b)) (get_or (get_or table a r) b d) (product_fits table a b d r e h k)

-- the tables as they compute
abbrev pub inverses : List ℕ
inverses = tabulated (λ n. number_of (transposed (matrix_of n))) 0 48

abbrev pub products : List (List ℕ)
products = tabulated (λ a. tabulated (λ b. number_of (product (matrix_of a) (matrix_of b))) 0 48) 0 48
