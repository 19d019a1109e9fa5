-- What a row answers, and where a place lies beneath a node.
use Rattle.std.specs.Prelude.{ℕ, Bool, false, Option, None, Some, Result, Ok, Err}
use Rattle.map_model.specs.Tree.{Whole, lies_beneath}
use Rattle.map_model.specs.Commands.{Command, Into}
use Rattle.map_model.specs.Replies.{Refusal}

-- It lets the command pass, or refuses it.
abbrev pub passes : Option Refusal → Result (Unit {0}) Refusal
passes None = Ok tt
passes (Some refusal) = Err refusal

-- The place, if one is given, lies beneath n.
abbrev pub is_place_beneath_it : Whole → Option ℕ → ℕ → Bool
is_place_beneath_it m None n = false
is_place_beneath_it m (Some place) n = lies_beneath m place n

-- Where the nodes go, if the command says it by a node.
abbrev pub place_of : Command → Option ℕ
place_of (Into place nodes) = Some place
place_of c = None
