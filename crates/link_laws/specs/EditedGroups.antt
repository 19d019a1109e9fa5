-- What is asserted of the edited groups that are spread one after another.
use Rattle.std.specs.Prelude.{◌≡◌, ◌≢◌, ◌+◌, ◌≤◌, ℕ, IsTrue, List, map, sum, count_by, ◌==◌, Some, Ok}
use Rattle.algebra.specs.Members.{◌∈◌}
use Rattle.map_model.specs.Tree.{Whole, is_linked, set_at}
use Rattle.map_model.specs.Below.{Below, IsRight}
use Rattle.map_model.specs.Shape.{Shape}
use Rattle.map_model.specs.Links.{One, AllOne, spread_all}
use Rattle.map_model.specs.Apply.{images_of}

-- What holds of a map from which the groups are spread: each is linked and stands once among them, no two are in one set, and two members
-- of a set that aren't among them are one content.
pub record Ready (m : Whole) (gs : List ℕ) : Type 0 where
  pub shape : Shape m
  pub linked : (g : ℕ) → g ∈ gs → IsTrue (is_linked m g)
  pub once : (g : ℕ) → count_by (λ k. k == g) gs ≤ 1
  pub apart : (g h : ℕ) → g ∈ gs → h ∈ gs → set_at m g ≡ set_at m h → g ≡ h
  pub one : (s h k : ℕ) → set_at m h ≡ Some s → set_at m k ≡ Some s → h ≢ k → (h ∈ gs → ⊥) → (k ∈ gs → ⊥) → One m h k

-- Where the groups are spread with no fault, and numbers are enough, the map has the shape of maps, and each two members of each set are one
-- content.
abbrev pub SpreadEachLaw : Type 0
SpreadEachLaw = (b : Below) (gs : List ℕ) (m n : Whole) → IsRight b → Ready m gs → spread_all b gs m ≡ Ok n → m.next + sum (map (images_of m) gs) ≤ 65536 → Shape n × AllOne n
