-- How the words of a line spell numbers, names and choices.
use Rattle.std.specs.Prelude.{ℕ, ◌^◌, ◌==◌, ◌&&◌, ◌||◌, not, Bool, true, false, ℤ, pos, negsuc, neg_ℤ, unsigned_abs, int_div, int_rem, nat_eq, nat_le, nat_lt, if◌then◌else◌, List, [], ◌∷◌, length, drop, Option, Some, None, codes}
use Rattle.std.specs.Option.{option_map}
use Rattle.std.specs.Ordering.{int_eq}
use Rattle.std.specs.List.{ends_with}
use Rattle.std.specs.Str.{all_ascii_digits, bytes_eq}
use Rattle.std.specs.Str.Parse.{digits_value, starts_with_minus}
use Rattle.exact_geom.specs.declared.axis.Axis.{Axis}
use Rattle.exact_geom.specs.declared.axis.Axis.TheVariants.{X, Y, Z}
use Rattle.fixed_num.specs.Count.{is_number_word, count_of}
use Rattle.cmd_text.specs.declared.command.Part.{Part}
use Rattle.cmd_text.specs.declared.command.Part.TheVariants.{Front, Back, Both}

-- what there is, where it passes a test
abbrev pub kept_if : {A : Type 0} → (A → Bool) → Option A → Option A
kept_if p None = None
kept_if p (Some x) = if p x then Some x else None

-- the number that one to nine digits spell
unfoldable pub number_of : List ℕ → Option ℕ
number_of word =
    if nat_le 1 (length word) && nat_le (length word) 9 && all_ascii_digits word then Some (digits_value 10 word)
    else None

-- such a number between two limits
unfoldable pub number_within : ℕ → ℕ → List ℕ → Option ℕ
number_within low high word = kept_if (λ n. nat_le low n && nat_le n high) (number_of word)

-- such a number, with a minus sign before it or without
unfoldable pub signed_of : List ℕ → Option ℤ
signed_of word =
    if starts_with_minus word then option_map (λ n. neg_ℤ (pos n)) (number_of (drop 1 word))
    else option_map pos (number_of word)

-- such a number, at most this in size
unfoldable pub whole_within : ℕ → List ℕ → Option ℤ
whole_within limit word = kept_if (λ z. nat_le (unsigned_abs z) limit) (signed_of word)

abbrev pub starts_with_zero : List ℕ → Bool
starts_with_zero [] = false
starts_with_zero (b ∷ word) = b == 48

-- a number without a leading zero, between two limits
unfoldable pub plain_number_within : ℕ → ℕ → List ℕ → Option ℕ
plain_number_within low high word = if starts_with_zero word then None else number_within low high word

-- the powers of two up to 64
abbrev pub is_grid : ℕ → Bool
is_grid n = n == 1 || n == 2 || n == 4 || n == 8 || n == 16 || n == 32 || n == 64

unfoldable pub grid_of : List ℕ → Option ℕ
grid_of word = kept_if is_grid (plain_number_within 1 64 word)

unfoldable pub axis_of : List ℕ → Option Axis
axis_of word =
    if bytes_eq word (codes "x") then Some X
    else (if bytes_eq word (codes "y") then Some Y
    else (if bytes_eq word (codes "z") then Some Z else None))

unfoldable pub part_of : List ℕ → Option Part
part_of word =
    if bytes_eq word (codes "front") then Some Front
    else (if bytes_eq word (codes "back") then Some Back
    else (if bytes_eq word (codes "both") then Some Both else None))

unfoldable pub switch_of : List ℕ → Option Bool
switch_of word =
    if bytes_eq word (codes "on") then Some true else (if bytes_eq word (codes "off") then Some false else None)

-- a word with a byte, that doesn't end in a backslash
unfoldable pub is_name : List ℕ → Bool
is_name word = nat_lt 0 (length word) && not (ends_with nat_eq word (92 ∷ []))

unfoldable pub is_dash : List ℕ → Bool
is_dash word = bytes_eq word (codes "-")

-- the value of a number word in units of so many decimals, rounded, where it is below a limit in size
unfoldable pub count_below : ℕ → ℕ → List ℕ → Option ℤ
count_below decimals limit word =
    if is_number_word word then kept_if (λ count. nat_lt (unsigned_abs count) limit) (Some (count_of decimals word))
    else None

-- from -2,147,483,648 to 4,294,967,295
abbrev pub is_wide : ℤ → Bool
is_wide (pos n) = nat_lt n 4294967296
is_wide (negsuc n) = nat_lt n 2147483648

-- so many millionths as a whole number in that range
abbrev pub wide_count : ℤ → Option ℤ
wide_count count =
    if int_eq (int_rem count (pos (10 ^ 6))) (pos 0) then kept_if is_wide (Some (int_div count (pos (10 ^ 6)))) else None

unfoldable pub wide_of : List ℕ → Option ℤ
wide_of word = if is_number_word word then wide_count (count_of 6 word) else None
