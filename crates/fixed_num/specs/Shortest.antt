-- The shortest decimal of a count.
use Rattle.std.specs.Prelude.{◌≡◌, ℕ, ◌+◌, ◌/◌, ◌%◌, ◌^◌, ◌≤◌, zero, suc, List, [], ◌∷◌, ◌++◌, length, ℤ, pos, negsuc, unsigned_abs, if◌then◌else◌, ◌==◌}
use Rattle.std.specs.Fmt.{decimal}
use Rattle.fixed_num.specs.DecimalValue.{IsExactly}

-- word has exactly the value of the count, no exponent, and a digit before its point
pub record IsPlainDecimal (decimals : ℕ) (word : List ℕ) (count : ℤ) : Type 0 where
  pub is_exact : IsExactly decimals word count
  pub no_power : is_exact.has_parts.power ≡ []
  pub has_whole : 1 ≤ length is_exact.parts.whole

-- word is a plain decimal of the count, and any other is longer
pub record IsShortest (decimals : ℕ) (word : List ℕ) (count : ℤ) : Type 0 where
  pub plain : IsPlainDecimal decimals word count
  pub others : (other : List ℕ) → IsPlainDecimal decimals other count → length other ≤ length word → other ≡ word

abbrev pub minus_of : ℤ → List ℕ
minus_of (pos n) = []
minus_of (negsuc n) = 45 ∷ []

-- so many decimal places of rest, up to the last one that is not 0
abbrev pub places : ℕ → ℕ → List ℕ
places zero rest = []
places (suc n) rest = if rest == 0 then [] else (48 + rest / 10 ^ n) ∷ places n (rest % 10 ^ n)

abbrev pub fraction_text : ℕ → ℕ → List ℕ
fraction_text decimals rest = if rest == 0 then [] else 46 ∷ places decimals rest

-- the bytes: a minus, the whole part, and the places behind a point
abbrev pub shortest_decimal : ℕ → ℤ → List ℕ
shortest_decimal decimals count =
    minus_of count ++ (decimal (unsigned_abs count / 10 ^ decimals) ++ fraction_text decimals (unsigned_abs count % 10 ^ decimals))
