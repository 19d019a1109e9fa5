-- What a motion does to polyhedra.
use Rattle.std.specs.Prelude.{◌≡◌, IsTrue, ℕ, true, false, List}
use Rattle.algebra.specs.Space.{HalfSpace}
use Rattle.orient48.specs.Motions.{Motion, is_signed_permutation, is_flip}
use Rattle.poly_laws.specs.Links.{Links}
use Rattle.poly_laws.specs.Stands.{Neat, StandsFor}
use Rattle.moved_laws.specs.Moved.{moved_list}
use Rattle.moved_poly_laws.specs.Moved.{moved_links, turned_links, LeadsBack}

-- The list is as neat as before, and the links stand for it.
pub record StandsMoved (r : Motion) (F : List HalfSpace) (L : Links) : Type 0 where
  pub neat : Neat (moved_list r F)
  pub stands : StandsFor (moved_list r F) L

abbrev pub KeptLaw : Type 0
KeptLaw = (r : Motion) (F : List HalfSpace) (L : Links) → IsTrue (is_signed_permutation r.matrix) → is_flip r.matrix ≡ false → Neat F → StandsFor F L →
    StandsMoved r F (moved_links r L)

abbrev pub TurnedRoundLaw : Type 0
TurnedRoundLaw = (r : Motion) (F : List HalfSpace) (L : Links) (before : ℕ → ℕ) → IsTrue (is_signed_permutation r.matrix) → is_flip r.matrix ≡ true → Neat F → StandsFor F L →
    LeadsBack L before → StandsMoved r F (turned_links before (moved_links r L))
