-- What the numbers, lists and texts of a command keep.
use Rattle.std.specs.Prelude.{◌≡◌, ℕ, ◌^◌, ◌<◌, ◌≤◌, true, false, not, ℤ, pos, ◌≤ℤ◌, unsigned_abs, List, length}
use Rattle.std.specs.List.{AllByRecursion, list_all, list_any}
use Rattle.cmd_text.specs.Cut.{is_quote, is_stray}
use Rattle.cmd_text.specs.Spelling.{is_name}
use Rattle.exact_geom.specs.Rounding.{IsGrid}
use Rattle.fixed_num.specs.Whole.{IsWide}
use Rattle.cmd_text.specs.declared.command.SurfaceWords.{SurfaceWords}
use Rattle.cmd_text.specs.declared.command.SurfaceWords.TheVariants.{Set as SetTo}
use Rattle.cmd_text.specs.declared.command.Command.{Command}
use Rattle.cmd_text.specs.declared.command.Command.TheVariants.{Box, Hull, Delete, Copy, Move, Turn, Flip, Clip, Subtract, Intersect, Merge, Hollow, Vertex, Snap, Material, Tex, Uv, Entity, Set, Unset, Tie, Untie, Freeze, Thaw, Layer, Group, Ungroup, Into, Link, Unlink, Protect, Unprotect, Show, Pick, Touching}

abbrev pub IsNumber : ℕ → Type 0
IsNumber n = n < 1000000000

abbrev pub IsQuarters : ℕ → Type 0
IsQuarters n = (1 ≤ n) × (n ≤ 3)

abbrev pub IsCoordinate : ℤ → Type 0
IsCoordinate z = unsigned_abs z ≤ 4352

abbrev pub IsShift : ℤ → Type 0
IsShift z = unsigned_abs z ≤ 8704

abbrev pub IsPoint : List ℤ → Type 0
IsPoint p = AllByRecursion IsCoordinate p

abbrev pub AreShifts : List ℤ → Type 0
AreShifts p = AllByRecursion IsShift p

-- fewer than 4,096 of them
abbrev pub AreNumbers : List ℕ → Type 0
AreNumbers ns = AllByRecursion IsNumber ns × (length ns < 4096)

abbrev pub ArePoints : List (List ℤ) → Type 0
ArePoints ps = AllByRecursion IsPoint ps × (length ps < 4096)

abbrev pub IsThickness : ℤ → Type 0
IsThickness z = (pos 1 ≤ℤ z) × (z ≤ℤ pos 4096)

-- counts of 10^-6, 10^-9 and 10^-12 below 1,000,000 in size
abbrev pub IsMicro : ℤ → Type 0
IsMicro z = unsigned_abs z < 10 ^ 12

abbrev pub IsNano : ℤ → Type 0
IsNano z = unsigned_abs z < 10 ^ 15

abbrev pub IsPico : ℤ → Type 0
IsPico z = unsigned_abs z < 10 ^ 18

abbrev pub KeepsSurface : SurfaceWords → Type 0
KeepsSurface (SetTo contents flags value) = IsWide contents × IsWide flags × IsMicro value
KeepsSurface _ = Unit {0}

-- the numbers of the command are in their ranges
abbrev pub KeepsRanges : Command → Type 0
KeepsRanges (Box a b) = IsPoint a × IsPoint b
KeepsRanges (Hull points) = ArePoints points
KeepsRanges (Delete nodes) = AreNumbers nodes
KeepsRanges (Copy shift nodes) = AreShifts shift × AreNumbers nodes
KeepsRanges (Move shift nodes) = AreShifts shift × AreNumbers nodes
KeepsRanges (Turn axis quarters about nodes) = IsQuarters quarters × IsPoint about × AreNumbers nodes
KeepsRanges (Flip axis at nodes) = IsCoordinate at × AreNumbers nodes
KeepsRanges (Clip part plane nodes) = AllByRecursion IsPoint plane × AreNumbers nodes
KeepsRanges (Subtract by nodes) = IsNumber by × AreNumbers nodes
KeepsRanges (Intersect nodes) = AreNumbers nodes
KeepsRanges (Merge nodes) = AreNumbers nodes
KeepsRanges (Hollow thickness nodes) = IsThickness thickness × AreNumbers nodes
KeepsRanges (Vertex node shift picks) = IsNumber node × AreShifts shift × ArePoints picks
KeepsRanges (Snap grid nodes) = IsGrid grid × AreNumbers nodes
KeepsRanges (Tex node face name off rotation scale surface) =
    IsNumber node × IsNumber face × AllByRecursion IsPico off × IsMicro rotation × AllByRecursion IsNano scale × KeepsSurface surface
KeepsRanges (Uv node face at) = IsNumber node × IsNumber face × IsPoint at
KeepsRanges (Entity class at) = IsPoint at
KeepsRanges (Set node key value) = IsNumber node
KeepsRanges (Unset node key) = IsNumber node
KeepsRanges (Tie class nodes) = AreNumbers nodes
KeepsRanges (Untie nodes) = AreNumbers nodes
KeepsRanges (Freeze node) = IsNumber node
KeepsRanges (Thaw node) = IsNumber node
KeepsRanges (Group name nodes) = AreNumbers nodes
KeepsRanges (Ungroup nodes) = AreNumbers nodes
KeepsRanges (Into place nodes) = IsNumber place × AreNumbers nodes
KeepsRanges (Link node shift) = IsNumber node × AreShifts shift
KeepsRanges (Unlink node) = IsNumber node
KeepsRanges (Protect node key) = IsNumber node
KeepsRanges (Unprotect node key) = IsNumber node
KeepsRanges (Show node) = IsNumber node
KeepsRanges (Pick from to) = IsPoint from × IsPoint to
KeepsRanges (Touching node) = IsNumber node
KeepsRanges _ = Unit {0}

-- at least so many nodes or points
abbrev pub KeepsCounts : Command → Type 0
KeepsCounts (Hull points) = 1 ≤ length points
KeepsCounts (Delete nodes) = 1 ≤ length nodes
KeepsCounts (Copy shift nodes) = 1 ≤ length nodes
KeepsCounts (Move shift nodes) = 1 ≤ length nodes
KeepsCounts (Turn axis quarters about nodes) = 1 ≤ length nodes
KeepsCounts (Flip axis at nodes) = 1 ≤ length nodes
KeepsCounts (Clip part plane nodes) = 1 ≤ length nodes
KeepsCounts (Subtract by nodes) = 1 ≤ length nodes
KeepsCounts (Intersect nodes) = 2 ≤ length nodes
KeepsCounts (Merge nodes) = 2 ≤ length nodes
KeepsCounts (Hollow thickness nodes) = 1 ≤ length nodes
KeepsCounts (Vertex node shift picks) = 1 ≤ length picks
KeepsCounts (Snap grid nodes) = 1 ≤ length nodes
KeepsCounts (Tie class nodes) = 1 ≤ length nodes
KeepsCounts (Untie nodes) = 1 ≤ length nodes
KeepsCounts (Group name nodes) = 1 ≤ length nodes
KeepsCounts (Ungroup nodes) = 1 ≤ length nodes
KeepsCounts (Into place nodes) = 1 ≤ length nodes
KeepsCounts _ = Unit {0}

-- no quote, and no byte below 32 but a tab
pub record IsText (text : List ℕ) : Type 0 where
  pub no_quote : list_all (λ b. not (is_quote b)) text ≡ true
  pub no_stray : list_any is_stray text ≡ false

-- a text with a byte, that doesn't end in a backslash
pub record IsNameText (text : List ℕ) : Type 0 where
  pub name : is_name text ≡ true
  pub is_text : IsText text

-- the texts of the command are such
abbrev pub KeepsTexts : Command → Type 0
KeepsTexts (Material name) = IsNameText name
KeepsTexts (Tex _ _ name _ _ _ _) = IsNameText name
KeepsTexts (Entity class at) = IsNameText class
KeepsTexts (Set node key value) = IsNameText key × IsText value
KeepsTexts (Unset node key) = IsNameText key
KeepsTexts (Tie class nodes) = IsNameText class
KeepsTexts (Layer name) = IsNameText name
KeepsTexts (Group name nodes) = IsNameText name
KeepsTexts (Protect node key) = IsNameText key
KeepsTexts (Unprotect node key) = IsNameText key
KeepsTexts _ = Unit {0}
