-- How the reader cuts a number word from the left, and how it keeps large counts. `proofs/Cuts.antt` shows
-- that these parts are those of the word.
use Rattle.std.specs.Prelude.{◌≡◌, ℕ, ◌+◌, ◌-◌, ◌*◌, ◌%◌, ◌^◌, ◌<◌, ◌≤◌, Bool, false, ◌&&◌, List, [], ◌∷◌, length, take, drop, Option, Some, None, option_map, if◌then◌else◌, ◌==◌, nat_le, nat_lt, slice_index}
use Rattle.std.specs.Char.{is_ascii_digit}
use Rattle.std.specs.List.{list_all, prefix_len}
use Rattle.std.specs.Str.Parse.{AllDigits, digits_value}
use Rattle.fixed_num.specs.NumberWord.{Parts, HasParts}
use Rattle.fixed_num.specs.DecimalValue.{IsNearest, numerator, denominator}

-- the digits that the bytes begin with, and what stands behind them
abbrev pub digits_front : List ℕ → List ℕ
digits_front bytes = take (prefix_len is_ascii_digit bytes) bytes

abbrev pub behind_digits : List ℕ → List ℕ
behind_digits bytes = drop (prefix_len is_ascii_digit bytes) bytes

abbrev pub starts_with_minus : List ℕ → Bool
starts_with_minus [] = false
starts_with_minus (b ∷ bytes) = b == 45

abbrev pub behind_sign : List ℕ → List ℕ
behind_sign [] = []
behind_sign (b ∷ bytes) = if b == 45 then bytes else (if b == 43 then bytes else b ∷ bytes)

-- the digits behind a point, and what stands behind them
abbrev pub fraction_front : List ℕ → List ℕ
fraction_front [] = []
fraction_front (b ∷ bytes) = if b == 46 then digits_front bytes else []

abbrev pub behind_fraction : List ℕ → List ℕ
behind_fraction [] = []
behind_fraction (b ∷ bytes) = if b == 46 then behind_digits bytes else b ∷ bytes

-- an exponent's sign and size
pub record Power : Type 0 where
  pub lowers : Bool
  pub size : ℕ

abbrev pub power_of : Bool → ℕ → Power
power_of lowers size = record { lowers = lowers; size = size }

-- the number that one to four digits write
unfoldable pub short_number : List ℕ → Option ℕ
short_number digits =
    if nat_le 1 (length digits) && (nat_le (length digits) 4 && list_all is_ascii_digit digits)
    then Some (digits_value 10 digits) else None

unfoldable pub written_power : List ℕ → Option Power
written_power bytes = option_map (power_of (starts_with_minus bytes)) (short_number (behind_sign bytes))

unfoldable pub scan_power : List ℕ → Option Power
scan_power [] = Some (power_of false 0)
scan_power (b ∷ bytes) = if b == 101 then written_power bytes else (if b == 69 then written_power bytes else None)

abbrev pub parts_of : Bool → List ℕ → List ℕ → Power → Parts
parts_of negative whole fraction power =
    record { negative = negative; whole = whole; fraction = fraction; lowers = power.lowers; exponent = power.size }

-- the parts of the bytes behind a sign
unfoldable pub scan_unsigned : Bool → List ℕ → Option Parts
scan_unsigned negative bytes =
    if length (digits_front bytes) + length (fraction_front (behind_digits bytes)) == 0 then None
    else option_map (parts_of negative (digits_front bytes) (fraction_front (behind_digits bytes)))
    (scan_power (behind_fraction (behind_digits bytes)))

-- the parts of a number word
unfoldable pub scan : List ℕ → Option Parts
scan word = if nat_lt 64 (length word) then None else scan_unsigned (starts_with_minus word) (behind_sign word)

-- the count where it is below 10^18, and else a number from there on with the same last six digits
unfoldable pub squeezed : ℕ → ℕ
squeezed n = if nat_lt n (10 ^ 18) then n else 10 ^ 18 + n % 10 ^ 6

-- the number that the first so many digits write, with zeros behind them where there are fewer, and one
-- more where the next digit is 5 or above
unfoldable pub rounded_at : List ℕ → ℕ → ℕ
rounded_at digits places =
    digits_value 10 (take places digits) * 10 ^ (places - length digits)
    + (if nat_lt (slice_index digits places) 53 then 0 else 1)

-- how many digits stand before the point, once it is moved by the power
unfoldable pub places_kept : ℕ → Power → Option ℕ
places_kept ahead power =
    if power.lowers then (if nat_lt ahead power.size then None else Some (ahead - power.size)) else Some (ahead + power.size)

-- kept stands for the nearest count of the parts, in units of so many decimals
pub record KeepsNearest (decimals : ℕ) (parts : Parts) (kept : ℕ) : Type 0 where
  pub size : ℕ
  pub nearest : IsNearest (numerator parts * 10 ^ decimals) (denominator parts) size
  pub is_squeezed : kept ≡ squeezed size

-- kept stands, under this sign, for the count of a word
pub record KeepsCount (decimals : ℕ) (word : List ℕ) (negative : Bool) (kept : ℕ) : Type 0 where
  pub parts : Parts
  pub has_parts : HasParts word parts
  pub keeps : KeepsNearest decimals parts kept
  pub is_signed : negative ≡ parts.negative

-- the digits and the exponent of a number word are within these limits
pub record IsReadable (whole fraction : List ℕ) (exponent : ℕ) : Type 0 where
  pub whole_digits : AllDigits 10 whole
  pub fraction_digits : AllDigits 10 fraction
  pub short : length whole + length fraction ≤ 64
  pub small : exponent < 10 ^ 4
