-- Lists that a motion moves.
use Rattle.std.specs.Prelude.{List, [], ◌∷◌, map, reverse}
use Rattle.algebra.specs.Space.{HalfSpace}
use Rattle.orient48.specs.Motions.{Motion, moved_half}

-- Each half-space of a list, moved.
abbrev pub moved_list : Motion → List HalfSpace → List HalfSpace
moved_list r F = map (moved_half r) F

-- The list run through the other way, from the same first element.
abbrev pub run_back : {A : Type 0} → List A → List A
run_back [] = []
run_back (x ∷ xs) = x ∷ reverse xs
