-- Which words behind a command's are right, and which word of wrong ones is named. That `misfit_of` finds it is a law: see `misfit_law`.
use Rattle.std.specs.Prelude.{◌≡◌, ◌⊎◌, ℕ, ◌+◌, true, List, [], ◌∷◌, ◌++◌, length}
use Rattle.std.specs.List.{flat_map}
use Rattle.cmd_text.specs.declared.kinds.Kind.{Kind}
use Rattle.cmd_text.specs.declared.kinds.Kind.TheVariants.{Node, Micro, Wide, Dash}
use Rattle.cmd_text.specs.declared.kinds.More.{More}
use Rattle.cmd_text.specs.declared.kinds.More.TheVariants.{End, Nodes, Points, Surface}
use Rattle.cmd_text.specs.declared.verb.Verb.{Verb}
use Rattle.cmd_text.specs.Table.{point, words_of, fits}

abbrev pub dashes : List Kind
dashes = Dash ∷ Dash ∷ Dash ∷ []

abbrev pub surface_kinds : List Kind
surface_kinds = Wide ∷ Wide ∷ Micro ∷ []

-- these kinds, over and over
abbrev pub Repeats : List Kind → List (List Kind) → Type 0
Repeats kinds [] = Unit {0}
Repeats kinds (group ∷ groups) = (group ≡ kinds) × Repeats kinds groups

-- What may follow the words that a command must have: nothing; nodes; points; or at most three dashes or three numbers.
abbrev pub MayFollow : More → List (List Kind) → Type 0
MayFollow End groups = groups ≡ []
MayFollow Nodes groups = Repeats (Node ∷ []) groups
MayFollow Points groups = Repeats point groups
MayFollow Surface groups = (groups ≡ []) ⊎ ((groups ≡ dashes ∷ []) ⊎ (groups ≡ surface_kinds ∷ []))

-- as many words as kinds, each of its kind
abbrev pub AreOf : List Kind → List (List ℕ) → Type 0
AreOf [] [] = Unit {0}
AreOf [] (word ∷ words) = ⊥
AreOf (kind ∷ kinds) [] = ⊥
AreOf (kind ∷ kinds) (word ∷ words) = (fits kind word ≡ true) × AreOf kinds words

abbrev pub all_of : List (List Kind) → List Kind
all_of groups = flat_map (λ group. group) groups

-- the words are of the kinds that are wanted, and of what may follow
pub record AreRightFrom (kinds : List Kind) (more : More) (words : List (List ℕ)) : Type 0 where
  pub groups : List (List Kind)
  pub may_follow : MayFollow more groups
  pub are_of : AreOf (kinds ++ all_of groups) words

-- the words are right behind the command's
abbrev pub AreRight : Verb → List (List ℕ) → Type 0
AreRight verb words = AreRightFrom (words_of verb).kinds (words_of verb).more words

-- no right words begin so: with these and the next, or where there is no next, these alone aren't right
abbrev pub StopsAt : (List (List ℕ) → Type 0) → List (List ℕ) → List (List ℕ) → Type 0
StopsAt Right before [] = Right before → ⊥
StopsAt Right before (word ∷ rest) = (others : List (List ℕ)) → Right (before ++ word ∷ others) → ⊥

-- The words before the place begin right words, and with the next one they don't. Places count from 1.
pub record IsFirstMisfit (Right : List (List ℕ) → Type 0) (words : List (List ℕ)) (place : ℕ) : Type 0 where
  pub before : List (List ℕ)
  pub rest : List (List ℕ)
  pub whole : words ≡ before ++ rest
  pub place_is : place ≡ length before + 1
  pub others : List (List ℕ)
  pub begins_right : Right (before ++ others)
  pub stops : StopsAt Right before rest
