-- What stands behind the word of each command.
use Rattle.std.specs.Prelude.{ℕ, ◌+◌, ◌^◌, Bool, true, false, is_some, if◌then◌else◌, List, [], ◌∷◌, ◌++◌, drop, Option, Some, None}
use Rattle.cmd_text.specs.declared.kinds.Form.{Form}
use Rattle.cmd_text.specs.declared.kinds.Kind.{Kind}
use Rattle.cmd_text.specs.declared.kinds.Kind.TheVariants.{Node, Face, Quarters, Coordinate, Shift, Thickness, Grid, Axis, Part, Switch, Name, Value, Micro, Nano, Pico, Wide, Dash}
use Rattle.cmd_text.specs.declared.kinds.More.{More}
use Rattle.cmd_text.specs.declared.kinds.More.TheVariants.{End, Nodes, Points, Surface}
use Rattle.cmd_text.specs.declared.verb.Verb.{Verb}
use Rattle.cmd_text.specs.declared.verb.Verb.TheVariants.{Box, Hull, Delete, Copy, Move, Turn, Flip, Clip, Subtract, Intersect, Merge, Hollow, Vertex, Snap, Material, Tex, Lock, Uv, Convert, Entity, Set, Unset, Tie, Untie, Layer, Freeze, Thaw, Group, Ungroup, Into, Link, Unlink, Protect, Unprotect, Undo, Redo, Show, Tree, Pick, Touching}
use Rattle.cmd_text.specs.Spelling.{number_of, number_within, whole_within, plain_number_within, grid_of, axis_of, part_of, switch_of, is_name, is_dash, count_below, wide_of}

-- the commands, each at the place of its word
abbrev pub verbs : List Verb
verbs =
    Box ∷ Hull ∷ Delete ∷ Copy ∷ Move ∷ Turn ∷ Flip ∷ Clip ∷ Subtract ∷ Intersect ∷ Merge ∷ Hollow ∷ Vertex ∷
    Snap ∷ Material ∷ Tex ∷ Lock ∷ Uv ∷ Convert ∷ Entity ∷ Set ∷ Unset ∷ Tie ∷ Untie ∷ Layer ∷ Freeze ∷ Thaw ∷
    Group ∷ Ungroup ∷ Into ∷ Link ∷ Unlink ∷ Protect ∷ Unprotect ∷ Undo ∷ Redo ∷ Show ∷ Tree ∷ Pick ∷ Touching ∷ []

-- the words that a command must have, and what may follow them
pub record Row : Type 0 where
  pub kinds : List Kind
  pub more : More

abbrev pub row : List Kind → More → Row
row kinds more = record { kinds = kinds; more = more }

-- three coordinates, and three shifts
abbrev pub point : List Kind
point = Coordinate ∷ Coordinate ∷ Coordinate ∷ []

abbrev pub shift : List Kind
shift = Shift ∷ Shift ∷ Shift ∷ []

-- THE TABLE: the words behind each command's. "Nodes" with one node before it is one node or more, and so for "Points".
abbrev pub words_of : Verb → Row
words_of Box = row (point ++ point) End
words_of Hull = row point Points
words_of Delete = row (Node ∷ []) Nodes
words_of Copy = row (shift ++ Node ∷ []) Nodes
words_of Move = row (shift ++ Node ∷ []) Nodes
words_of Turn = row (Axis ∷ Quarters ∷ point ++ Node ∷ []) Nodes
words_of Flip = row (Axis ∷ Coordinate ∷ Node ∷ []) Nodes
words_of Clip = row (Part ∷ point ++ point ++ point ++ Node ∷ []) Nodes
words_of Subtract = row (Node ∷ Node ∷ []) Nodes
words_of Intersect = row (Node ∷ Node ∷ []) Nodes
words_of Merge = row (Node ∷ Node ∷ []) Nodes
words_of Hollow = row (Thickness ∷ Node ∷ []) Nodes
words_of Vertex = row (Node ∷ shift ++ point) Points
words_of Snap = row (Grid ∷ Node ∷ []) Nodes
words_of Material = row (Name ∷ []) End
words_of Tex = row (Node ∷ Face ∷ Name ∷ Pico ∷ Pico ∷ Micro ∷ Nano ∷ Nano ∷ []) Surface
words_of Lock = row (Switch ∷ []) End
words_of Uv = row (Node ∷ Face ∷ point) End
words_of Convert = row [] End
words_of Entity = row (Name ∷ point) End
words_of Set = row (Node ∷ Name ∷ Value ∷ []) End
words_of Unset = row (Node ∷ Name ∷ []) End
words_of Tie = row (Name ∷ Node ∷ []) Nodes
words_of Untie = row (Node ∷ []) Nodes
words_of Layer = row (Name ∷ []) End
words_of Freeze = row (Node ∷ []) End
words_of Thaw = row (Node ∷ []) End
words_of Group = row (Name ∷ Node ∷ []) Nodes
words_of Ungroup = row (Node ∷ []) Nodes
words_of Into = row (Node ∷ Node ∷ []) Nodes
words_of Link = row (Node ∷ shift) End
words_of Unlink = row (Node ∷ []) End
words_of Protect = row (Node ∷ Name ∷ []) End
words_of Unprotect = row (Node ∷ Name ∷ []) End
words_of Undo = row [] End
words_of Redo = row [] End
words_of Show = row (Node ∷ []) End
words_of Tree = row [] End
words_of Pick = row (point ++ point) End
words_of Touching = row (Node ∷ []) End

-- the word can stand where this is wanted
unfoldable pub fits : Kind → List ℕ → Bool
fits Node word = is_some (number_of word)
fits Face word = is_some (number_of word)
fits Quarters word = is_some (number_within 1 3 word)
fits Coordinate word = is_some (whole_within 4352 word)
fits Shift word = is_some (whole_within 8704 word)
fits Thickness word = is_some (plain_number_within 1 4096 word)
fits Grid word = is_some (grid_of word)
fits Axis word = is_some (axis_of word)
fits Part word = is_some (part_of word)
fits Switch word = is_some (switch_of word)
fits Name word = is_name word
fits Value word = true
fits Micro word = is_some (count_below 6 (10 ^ 12) word)
fits Nano word = is_some (count_below 9 (10 ^ 15) word)
fits Pico word = is_some (count_below 12 (10 ^ 18) word)
fits Wide word = is_some (wide_of word)
fits Dash word = is_dash word

-- What a further word, and those behind it, must be: where the word is `-`, three dashes; else three surface numbers.
unfoldable pub group_of : More → List ℕ → List Kind
group_of End word = []
group_of Nodes word = Node ∷ []
group_of Points word = point
group_of Surface word = if is_dash word then Dash ∷ Dash ∷ Dash ∷ [] else Wide ∷ Wide ∷ Micro ∷ []

-- what may follow such words
abbrev pub behind : More → More
behind End = End
behind Nodes = Nodes
behind Points = Points
behind Surface = End

-- what this word and those behind it must be, and what may follow them
abbrev pub wanted : List Kind → More → List ℕ → List Kind
wanted [] more word = group_of more word
wanted (kind ∷ kinds) more word = kind ∷ kinds

abbrev pub follows : List Kind → More → More
follows [] more = behind more
follows (kind ∷ kinds) more = more

abbrev pub fits_first : List Kind → List ℕ → Bool
fits_first [] word = false
fits_first (kind ∷ kinds) word = fits kind word

abbrev pub none_left : List Kind → Bool
none_left [] = true
none_left (kind ∷ kinds) = false

-- THE RULE: the place of the first word that can't stand there, or one past the last where words are missing
abbrev pub misfit_from : ℕ → List Kind → More → List (List ℕ) → Option ℕ
misfit_from place kinds more [] = if none_left kinds then None else Some place
misfit_from place kinds more (word ∷ rest) =
    if fits_first (wanted kinds more word) word
    then misfit_from (place + 1) (drop 1 (wanted kinds more word)) (follows kinds more) rest
    else Some place

-- places are counted from 1 behind the command's word
unfoldable pub misfit_of : Verb → List (List ℕ) → Option ℕ
misfit_of verb rest = misfit_from 1 (words_of verb).kinds (words_of verb).more rest

-- a row of the table as the code keeps it
abbrev pub row_of : Form → Row
row_of form = row form.kinds.now form.more
