-- Which row of the table wins, by the sizes of a normal's parts.
use Rattle.std.proofs.Common.{◌≡◌, ap, ◌∙◌, ℕ, ◌<◌, ◌≤◌, ◌⊎◌, inl, inr, List, [], ◌∷◌, ◌++◌, Some, refl, arith, ℤ, pos, negsuc, neg_ℤ, ◌≤ℤ◌, ◌<ℤ◌, unsigned_abs, option_map}
use Rattle.std.proofs.lemmas.Int.{ints, by_lt_z}
use mathlib.Core.Logic.{⊎_elim}
use Rattle.algebra.specs.Members.{Every}
use Rattle.algebra.specs.Space.{Vector, dot}
use Rattle.algebra.proofs.Expr.{read}
use Rattle.algebra.proofs.Members.{each_of_none, each_of_more}
use Rattle.algebra.proofs.Ring.{ring}
use Rattle.uv_lock.specs.BaseAxes.{Row, table, axes_of, east, west, north, south, up, down, base_axes_of, Wins, WinnerGivesAxes}
use Rattle.uv_lock.proofs.FirstGreatest.{first_greatest}

-- ---- the dot products with the main directions
dot-up : (n : Vector) → dot up n ≡ n.z
unfolding dot
dot-up n = ring (n.x ∷ n.y ∷ n.z ∷ []) (search read depth 20) tt

dot-down : (n : Vector) → dot down n ≡ neg_ℤ n.z
unfolding dot
dot-down n = ring (n.x ∷ n.y ∷ n.z ∷ []) (search read depth 20) tt

dot-east : (n : Vector) → dot east n ≡ n.x
unfolding dot
dot-east n = ring (n.x ∷ n.y ∷ n.z ∷ []) (search read depth 20) tt

dot-west : (n : Vector) → dot west n ≡ neg_ℤ n.x
unfolding dot
dot-west n = ring (n.x ∷ n.y ∷ n.z ∷ []) (search read depth 20) tt

dot-north : (n : Vector) → dot north n ≡ n.y
unfolding dot
dot-north n = ring (n.x ∷ n.y ∷ n.z ∷ []) (search read depth 20) tt

dot-south : (n : Vector) → dot south n ≡ neg_ℤ n.y
unfolding dot
dot-south n = ring (n.x ∷ n.y ∷ n.z ∷ []) (search read depth 20) tt

-- ---- a part is at most its size
le_size : (p a : ℤ) (m : ℕ) → p ≡ a → unsigned_abs a ≤ m → p ≤ℤ pos m
le_size p (pos k) m e h = omega (arith, ints)
le_size p (negsuc k) m e h = omega (arith, ints)

le_size_back : (p a : ℤ) (m : ℕ) → p ≡ neg_ℤ a → unsigned_abs a ≤ m → p ≤ℤ pos m
le_size_back p (pos k) m e h = omega (arith, ints)
le_size_back p (negsuc k) m e h = omega (arith, ints)

lt_size : (p a : ℤ) (m : ℕ) → p ≡ a → unsigned_abs a < m → p <ℤ pos m
lt_size p (pos k) m e h = omega (arith, ints)
lt_size p (negsuc k) m e h = omega (arith, ints)

lt_size_back : (p a : ℤ) (m : ℕ) → p ≡ neg_ℤ a → unsigned_abs a < m → p <ℤ pos m
lt_size_back p (pos k) m e h = omega (arith, ints)
lt_size_back p (negsuc k) m e h = omega (arith, ints)

-- The size is the number itself, or the number is below 0 and the size is its opposite.
record IsBelowZero (a : ℤ) : Type 0 where
  opposite : neg_ℤ a ≡ pos (unsigned_abs a)
  below : a <ℤ pos (unsigned_abs a)

by_sign : (a : ℤ) → (a ≡ pos (unsigned_abs a)) ⊎ IsBelowZero a
by_sign (pos k) = inl refl
by_sign (negsuc k) = inr (record { opposite = refl; below = omega (arith, ints) })

-- ---- the rows of the table
abbrev pub up_row : Row
up_row = record { normal = up; u = east; v = south }

abbrev down_row : Row
down_row = record { normal = down; u = east; v = south }

abbrev pub east_row : Row
east_row = record { normal = east; u = north; v = down }

abbrev west_row : Row
west_row = record { normal = west; u = north; v = down }

abbrev pub north_row : Row
north_row = record { normal = north; u = east; v = down }

abbrev south_row : Row
south_row = record { normal = south; u = east; v = down }

pub le_or_lt : (a b : ℕ) → (a ≤ b) ⊎ (b < a)
le_or_lt a b = by_lt_z (pos b) (pos a) (λ h. inr (omega (arith, ints))) (λ h. inl (omega (arith, ints)))

-- ---- which row wins
-- Each element of a list has the property, one by one.
abbrev Each : {A : Type 0} → (A → Type 0) → List A → Type 0
Each P [] = Unit {0}
Each P (x ∷ xs) = P x × Each P xs

every : {A : Type 0} (P : A → Type 0) (xs : List A) → Each P xs → Every P xs
every P [] h = each_of_none P
every P (x ∷ xs) h = each_of_more P x xs h.0 (every P xs h.1)

-- The axes are those of the row that wins.
pub axes_of_winner : (n : Vector) (row : Row) → Wins n row → base_axes_of n ≡ Some (axes_of row)
unfolding base_axes_of
axes_of_winner n row h =
    ap (λ r. option_map axes_of r) (first_greatest (λ r. dot r.normal n) table h.earlier row h.later h.place h.greatest h.first)

-- Each row's product is at most a number that the sizes of the parts don't pass.
at_most : (n : Vector) (m : ℕ) → unsigned_abs n.x ≤ m → unsigned_abs n.y ≤ m → unsigned_abs n.z ≤ m →
    Every (λ row. dot row.normal n ≤ℤ pos m) table
at_most n m h i j =
    every (λ row. dot row.normal n ≤ℤ pos m) table (
      le_size (dot up n) n.z m (dot-up n) j,
      (
        le_size_back (dot down n) n.z m (dot-down n) j,
        (
          le_size (dot east n) n.x m (dot-east n) h,
          (
            le_size_back (dot west n) n.x m (dot-west n) h,
            (le_size (dot north n) n.y m (dot-north n) i, (le_size_back (dot south n) n.y m (dot-south n) i, tt)),
          ),
        ),
      ),
    )

le_at : (p q top : ℤ) → q ≡ top → p ≤ℤ top → p ≤ℤ q
le_at p q top e h = omega (arith, ints)

lt_at : (p q top : ℤ) → q ≡ top → p <ℤ top → p <ℤ q
lt_at p q top e h = omega (arith, ints)

below_itself : (p a : ℤ) (m : ℕ) → p ≡ a → IsBelowZero a → m ≡ unsigned_abs a → p <ℤ pos m
below_itself p a m e b is = let l = b.below in omega (arith, ints)

wins : (n : Vector) (earlier : List Row) (w : Row) (later : List Row) (top : ℤ) → table ≡ earlier ++ w ∷ later → dot w.normal n ≡ top →
    Every (λ row. dot row.normal n ≤ℤ top) table → Every (λ row. dot row.normal n <ℤ top) earlier → Wins n w
wins n earlier w later top place e h i = record {
  earlier = earlier;
  later = later;
  place = place;
  greatest = λ r m. le_at (dot r.normal n) (dot w.normal n) top e (h r m);
  first = λ r m. lt_at (dot r.normal n) (dot w.normal n) top e (i r m);
}

-- Where z has the greatest size, up or down wins.
level : (n : Vector) → unsigned_abs n.x ≤ unsigned_abs n.z → unsigned_abs n.y ≤ unsigned_abs n.z →
    Wins n up_row ⊎ Wins n down_row
level n h i =
    let m = unsigned_abs n.z in
    let least = at_most n m h i (omega arith) in
    ⊎_elim
    (λ e. inl (wins n [] up_row (down_row ∷ east_row ∷ west_row ∷ north_row ∷ south_row ∷ []) (pos m) refl (dot-up n ∙ e) least
    (every (λ row. dot row.normal n <ℤ pos m) [] tt)))
    (λ b. inr (wins n (up_row ∷ []) down_row (east_row ∷ west_row ∷ north_row ∷ south_row ∷ []) (pos m) refl (dot-down n ∙ b.opposite) least
    (every (λ row. dot row.normal n <ℤ pos m) (up_row ∷ []) (below_itself (dot up n) n.z m (dot-up n) b refl, tt))))
    (by_sign n.z)

-- Where x has the greatest size, and z a smaller one, east or west wins.
steep_in_x : (n : Vector) → unsigned_abs n.z < unsigned_abs n.x → unsigned_abs n.y ≤ unsigned_abs n.x →
    Wins n east_row ⊎ Wins n west_row
steep_in_x n h i =
    let m = unsigned_abs n.x in
    let least = at_most n m (omega arith) i (omega arith) in
    let up_less = lt_size (dot up n) n.z m (dot-up n) h in
    let down_less = lt_size_back (dot down n) n.z m (dot-down n) h in
    ⊎_elim
    (λ e. inl (wins n (up_row ∷ down_row ∷ []) east_row (west_row ∷ north_row ∷ south_row ∷ []) (pos m) refl (dot-east n ∙ e) least
    (every (λ row. dot row.normal n <ℤ pos m) (up_row ∷ down_row ∷ []) (up_less, (down_less, tt)))))
    (λ b. inr (wins n (up_row ∷ down_row ∷ east_row ∷ []) west_row (north_row ∷ south_row ∷ []) (pos m) refl (dot-west n ∙ b.opposite) least
    (every (λ row. dot row.normal n <ℤ pos m) (up_row ∷ down_row ∷ east_row ∷ [])
    (up_less, (down_less, (below_itself (dot east n) n.x m (dot-east n) b refl, tt))))))
    (by_sign n.x)

-- Where y has a greater size than x and z, north or south wins.
steep_in_y : (n : Vector) → unsigned_abs n.z < unsigned_abs n.y → unsigned_abs n.x < unsigned_abs n.y →
    Wins n north_row ⊎ Wins n south_row
steep_in_y n h i =
    let m = unsigned_abs n.y in
    let least = at_most n m (omega arith) (omega arith) (omega arith) in
    let up_less = lt_size (dot up n) n.z m (dot-up n) h in
    let down_less = lt_size_back (dot down n) n.z m (dot-down n) h in
    let east_less = lt_size (dot east n) n.x m (dot-east n) i in
    let west_less = lt_size_back (dot west n) n.x m (dot-west n) i in
    ⊎_elim
    (λ e. inl (wins n (up_row ∷ down_row ∷ east_row ∷ west_row ∷ []) north_row (south_row ∷ []) (pos m) refl (dot-north n ∙ e) least
    (every (λ row. dot row.normal n <ℤ pos m) (up_row ∷ down_row ∷ east_row ∷ west_row ∷ [])
    (up_less, (down_less, (east_less, (west_less, tt)))))))
    (λ b. inr (wins n (up_row ∷ down_row ∷ east_row ∷ west_row ∷ north_row ∷ []) south_row [] (pos m) refl (dot-south n ∙ b.opposite) least
    (every (λ row. dot row.normal n <ℤ pos m) (up_row ∷ down_row ∷ east_row ∷ west_row ∷ north_row ∷ [])
    (up_less, (down_less, (east_less, (west_less, (below_itself (dot north n) n.y m (dot-north n) b refl, tt))))))))
    (by_sign n.y)

-- ---- the axes by the sizes
pub level_axes : (n : Vector) → unsigned_abs n.x ≤ unsigned_abs n.z → unsigned_abs n.y ≤ unsigned_abs n.z →
    base_axes_of n ≡ Some (axes_of up_row)
level_axes n h i = ⊎_elim (λ w. axes_of_winner n up_row w) (λ w. axes_of_winner n down_row w) (level n h i)

pub steep_in_x-axes : (n : Vector) → unsigned_abs n.z < unsigned_abs n.x → unsigned_abs n.y ≤ unsigned_abs n.x →
    base_axes_of n ≡ Some (axes_of east_row)
steep_in_x-axes n h i = ⊎_elim (λ w. axes_of_winner n east_row w) (λ w. axes_of_winner n west_row w) (steep_in_x n h i)

pub steep_in_y-axes : (n : Vector) → unsigned_abs n.z < unsigned_abs n.y → unsigned_abs n.x < unsigned_abs n.y →
    base_axes_of n ≡ Some (axes_of north_row)
steep_in_y-axes n h i = ⊎_elim (λ w. axes_of_winner n north_row w) (λ w. axes_of_winner n south_row w) (steep_in_y n h i)

either : (n : Vector) (a b : Row) → Wins n a ⊎ Wins n b → (row : Row) × Wins n row
either n a b h = ⊎_elim (λ w. (a, w)) (λ w. (b, w)) h

some_row_wins : (n : Vector) → (row : Row) × Wins n row
some_row_wins n =
    ⊎_elim
    (λ level_x. ⊎_elim
    (λ level_y. either n up_row down_row (level n level_x level_y))
    (λ steep. either n north_row south_row (steep_in_y n steep (omega arith)))
    (le_or_lt (unsigned_abs n.y) (unsigned_abs n.z)))
    (λ steep. ⊎_elim
    (λ h. either n east_row west_row (steep_in_x n steep h))
    (λ h. either n north_row south_row (steep_in_y n (omega arith) h))
    (le_or_lt (unsigned_abs n.y) (unsigned_abs n.x)))
    (le_or_lt (unsigned_abs n.x) (unsigned_abs n.z))

pub winner_gives_axes : WinnerGivesAxes
winner_gives_axes = record { some_row_wins = some_row_wins; axes = axes_of_winner }
