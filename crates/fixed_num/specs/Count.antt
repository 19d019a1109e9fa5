-- The count of a number word as a function of its bytes. That it is the count that `RoundsTo` means is a law: see `count_law`.
use Rattle.std.specs.Prelude.{◌≡◌, ◌↔◌, ℕ, ◌+◌, ◌*◌, ◌/◌, ◌^◌, Bool, List, ℤ, pos, IsTrue, is_some}
use Rattle.std.specs.Option.{option_map_or}
use Rattle.fixed_num.specs.NumberWord.{IsNumberWord, Parts}
use Rattle.fixed_num.specs.DecimalValue.{RoundsTo, numerator, denominator, with_sign}
use Rattle.fixed_num.specs.Scan.{scan}

-- the word is a number word
unfoldable pub is_number_word : List ℕ → Bool
is_number_word word = is_some (scan word)

-- the whole number nearest to top / bottom, the greater of two
abbrev pub nearest : ℕ → ℕ → ℕ
nearest top bottom = (2 * top + bottom) / (2 * bottom)

abbrev pub count_of_parts : ℕ → Parts → ℤ
count_of_parts decimals parts = with_sign parts.negative (nearest (numerator parts * 10 ^ decimals) (denominator parts))

-- the value of a number word in units of so many decimals, rounded half away from zero; 0 for another word
unfoldable pub count_of : ℕ → List ℕ → ℤ
count_of decimals word = option_map_or (count_of_parts decimals) (scan word) (pos 0)

-- each number word has one count, and it is this one
pub record WordsHaveCounts : Type 0 where
  pub words : (word : List ℕ) → IsTrue (is_number_word word) ↔ IsNumberWord word
  pub rounds : (decimals : ℕ) (word : List ℕ) → IsNumberWord word → RoundsTo decimals word (count_of decimals word)
  pub only : (decimals : ℕ) (word : List ℕ) (count : ℤ) → RoundsTo decimals word count → count ≡ count_of decimals word
