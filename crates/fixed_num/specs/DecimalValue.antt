-- The exact value of a number word, and the nearest count of a unit of so many decimals.
use Rattle.std.specs.Prelude.{◌≡◌, ℕ, ◌+◌, ◌*◌, ◌^◌, ◌≤◌, Bool, List, ◌++◌, length, ℤ, pos, neg_ℤ, if◌then◌else◌}
use Rattle.std.specs.Int.{abs_diff}
use Rattle.std.specs.Str.Parse.{digits_value}
use Rattle.fixed_num.specs.NumberWord.{Parts, HasParts}

-- the size of the value is this numerator over this denominator
abbrev pub numerator : Parts → ℕ
numerator parts =
    digits_value 10 (parts.whole ++ parts.fraction) * 10 ^ (if parts.lowers then 0 else parts.exponent)

abbrev pub denominator : Parts → ℕ
denominator parts = 10 ^ (length parts.fraction + (if parts.lowers then parts.exponent else 0))

-- the size under its sign
abbrev pub with_sign : Bool → ℕ → ℤ
with_sign negative size = if negative then neg_ℤ (pos size) else pos size

-- how far count is from top / bottom, times the bottom
abbrev pub gap : ℕ → ℕ → ℕ → ℕ
gap top bottom count = abs_diff top (count * bottom)

-- no whole number is nearer to top / bottom than count, and none as near is greater
pub record IsNearest (top bottom count : ℕ) : Type 0 where
  pub nearest : (other : ℕ) → gap top bottom count ≤ gap top bottom other
  pub outermost : (other : ℕ) → gap top bottom other ≡ gap top bottom count → other ≤ count

-- word is a number word, and count is its value in units of so many decimals, rounded to the nearest
-- whole number, and halves away from zero
pub record RoundsTo (decimals : ℕ) (word : List ℕ) (count : ℤ) : Type 0 where
  pub parts : Parts
  pub has_parts : HasParts word parts
  pub size : ℕ
  pub nearest : IsNearest (numerator parts * 10 ^ decimals) (denominator parts) size
  pub is_signed : count ≡ with_sign parts.negative size

-- word is a number word, and its value is exactly count units of so many decimals
pub record IsExactly (decimals : ℕ) (word : List ℕ) (count : ℤ) : Type 0 where
  pub parts : Parts
  pub has_parts : HasParts word parts
  pub size : ℕ
  pub exact : numerator parts * 10 ^ decimals ≡ size * denominator parts
  pub is_signed : count ≡ with_sign parts.negative size
