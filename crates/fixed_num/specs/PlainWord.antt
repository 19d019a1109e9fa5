-- How the reader takes a number word without an exponent, in one pass over its digits.
use Rattle.std.specs.Prelude.{◌≡◌, ℕ, ◌+◌, ◌^◌, ◌≤◌, ◌⊎◌, List, [], ◌∷◌, ◌++◌, length, take}
use Rattle.std.specs.Str.Parse.{AllDigits, digits_value, digits_value_after}
use Rattle.fixed_num.specs.NumberWord.{IsPointed}
use Rattle.fixed_num.specs.Scan.{rounded_at}

-- the first count bytes are digits, at most so many, and total is value with these digits behind it
pub record Continues (value : ℕ) (bytes : List ℕ) (most total count : ℕ) : Type 0 where
  pub within : count ≤ length bytes
  pub few : count ≤ most
  pub all_digits : AllDigits 10 (take count bytes)
  pub total_is : total ≡ digits_value_after 10 value (take count bytes)

-- nothing with nothing behind it, or a point with rest behind it
abbrev pub IsBehindPoint : List ℕ → List ℕ → Type 0
IsBehindPoint bytes rest = ((bytes ≡ []) × (rest ≡ [])) ⊎ (bytes ≡ 46 ∷ rest)

-- size is a number with this whole part and these digits behind its point, rounded to so many decimals
pub record IsRoundedBehind (decimals whole : ℕ) (fraction : List ℕ) (size : ℕ) : Type 0 where
  pub all_digits : AllDigits 10 fraction
  pub small : size ≤ 10 ^ 18
  pub rounds : (front : List ℕ) → digits_value 10 front ≡ whole → size ≡ rounded_at (front ++ fraction) (length front + decimals)

-- the bytes are digits, perhaps with a point, and size is their number, rounded to so many decimals
pub record IsPlainSize (decimals : ℕ) (bytes : List ℕ) (size : ℕ) : Type 0 where
  pub whole : List ℕ
  pub pointed : List ℕ
  pub fraction : List ℕ
  pub joined : bytes ≡ whole ++ pointed
  pub whole_digits : AllDigits 10 whole
  pub fraction_digits : IsPointed pointed fraction
  pub some_digit : 1 ≤ length whole + length fraction
  pub small : size ≤ 10 ^ 18
  pub rounds : size ≡ rounded_at (whole ++ fraction) (length whole + decimals)
