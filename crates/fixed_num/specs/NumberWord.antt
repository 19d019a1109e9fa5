-- Number words: a sign, digits with at most one point among or beside them, and an exponent.
use Rattle.std.specs.Prelude.{◌≡◌, ℕ, ◌+◌, ◌≤◌, ◌⊎◌, Bool, true, false, List, [], ◌∷◌, ◌++◌, length}
use Rattle.std.specs.Str.Parse.{AllDigits, digits_value}

-- the digits before and behind the point, and the exponent by its sign and size
pub record Parts : Type 0 where
  pub negative : Bool
  pub whole : List ℕ
  pub fraction : List ℕ
  pub lowers : Bool
  pub exponent : ℕ

-- a sign: `-` where the number is negative, and else nothing or `+`
abbrev pub IsSign : List ℕ → Bool → Type 0
IsSign text true = text ≡ 45 ∷ []
IsSign text false = (text ≡ []) ⊎ (text ≡ 43 ∷ [])

-- nothing, or a point with digits or nothing behind it
abbrev pub IsPointed : List ℕ → List ℕ → Type 0
IsPointed text fraction =
    ((text ≡ []) × (fraction ≡ [])) ⊎ ((text ≡ 46 ∷ fraction) × AllDigits 10 fraction)

-- `e` or `E`, a sign, and one to four digits
pub record IsWrittenPower (text : List ℕ) (lowers : Bool) (exponent : ℕ) : Type 0 where
  pub mark : ℕ
  pub sign : List ℕ
  pub digits : List ℕ
  pub joined : text ≡ mark ∷ (sign ++ digits)
  pub marked : (mark ≡ 101) ⊎ (mark ≡ 69)
  pub signed : IsSign sign lowers
  pub all_digits : AllDigits 10 digits
  pub some : 1 ≤ length digits
  pub few : length digits ≤ 4
  pub value : exponent ≡ digits_value 10 digits

-- nothing, which is the exponent 0, or a written power
abbrev pub IsPower : List ℕ → Bool → ℕ → Type 0
IsPower text lowers exponent =
    ((text ≡ []) × (lowers ≡ false) × (exponent ≡ 0)) ⊎ IsWrittenPower text lowers exponent

-- a number word of at most 64 bytes has these parts
pub record HasParts (word : List ℕ) (parts : Parts) : Type 0 where
  pub sign : List ℕ
  pub pointed : List ℕ
  pub power : List ℕ
  pub joined : word ≡ sign ++ (parts.whole ++ (pointed ++ power))
  pub short : length word ≤ 64
  pub signed : IsSign sign parts.negative
  pub whole_digits : AllDigits 10 parts.whole
  pub fraction_digits : IsPointed pointed parts.fraction
  pub some_digit : 1 ≤ length parts.whole + length parts.fraction
  pub scaled : IsPower power parts.lowers parts.exponent

-- a word that has such parts
abbrev pub IsNumberWord : List ℕ → Type 0
IsNumberWord word = (parts : Parts) × HasParts word parts
