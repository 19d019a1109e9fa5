-- Ranges of whole numbers.
use Rattle.std.specs.Prelude.{ℤ, pos, negsuc, ◌≤ℤ◌}

-- from the least to the most
abbrev pub IsWithin : ℤ → ℤ → ℤ → Type 0
IsWithin least most whole = (least ≤ℤ whole) × (whole ≤ℤ most)

-- from -2,147,483,648 to 4,294,967,295: what a field of 32 bits keeps, signed or not
abbrev pub IsWide : ℤ → Type 0
IsWide whole = IsWithin (negsuc 2147483647) (pos 4294967295) whole
