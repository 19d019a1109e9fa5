-- The loop of a face, by the numbers of its vertices.
use Rattle.std.specs.Prelude.{ℕ, zero, suc, Bool, not, ◌&&◌, ◌||◌, ◌==◌, List, [], ◌∷◌, length, filter, None, Some, pos, int_lt}
use Rattle.std.specs.List.{list_all, find, enumerate_from}
use Rattle.std.specs.Ordering.{int_eq}
use Rattle.algebra.specs.Space.{HalfSpace, Homogeneous, side}
use Rattle.vertex_laws.specs.HalfEdge.{turn}

-- The loop of a face: from the least number on, the next vertex is the one that has all others on its inner side.
abbrev pub number_is_on : HalfSpace → (ℕ × Homogeneous) → Bool
number_is_on f v = int_eq (side f v.1) (pos 0)

abbrev pub is_next : HalfSpace → List (ℕ × Homogeneous) → (ℕ × Homogeneous) → (ℕ × Homogeneous) → Bool
is_next f on a b = not (a.0 == b.0) && list_all (λ c. a.0 == c.0 || (b.0 == c.0 || int_lt (pos 0) (turn f a.1 b.1 c.1))) on

abbrev pub loop_from : ℕ → HalfSpace → List (ℕ × Homogeneous) → (ℕ × Homogeneous) → List ℕ
loop_from zero f on a = []
loop_from (suc k) f on a = a.0 ∷ (elim (find (is_next f on a) on) [ None ↦ [] | Some b ↦ loop_from k f on b ])

abbrev pub loop_of : HalfSpace → List (ℕ × Homogeneous) → List ℕ
loop_of f [] = []
loop_of f (a ∷ on) = loop_from (length (a ∷ on)) f (a ∷ on) a

abbrev pub loop : List Homogeneous → HalfSpace → List ℕ
loop vs f = loop_of f (filter (number_is_on f) (enumerate_from 0 vs))
