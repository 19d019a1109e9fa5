-- What is asserted of spreading.
use Rattle.std.specs.Prelude.{◌≡◌, ◌≢◌, ℕ, ◌≤◌, IsTrue, Some, Ok}
use Rattle.map_model.specs.Tree.{Whole, is_linked, set_at}
use Rattle.map_model.specs.Below.{Below}
use Rattle.map_model.specs.Shape.{Shape, Standing, Numbers, Marks}
use Rattle.map_model.specs.Links.{One, AllOne, spread, OthersAgree}
use Rattle.map_laws.specs.Placed.{Placed, Bounded}

-- After a spread from g the map is one tree, each two members of its set are one content, and those of other sets are as they were.
pub record SpreadOne (m n : Whole) (g : ℕ) : Type 0 where
  pub placed : Placed n
  pub bounded : Bounded n
  pub one : (s h k : ℕ) → set_at m g ≡ Some s → set_at n h ≡ Some s → set_at n k ≡ Some s → h ≢ k → One n h k
  pub others : (s h k : ℕ) → set_at m g ≢ Some s → set_at n h ≡ Some s → set_at n k ≡ Some s → One m h k → One n h k

-- Of two other members only the values at keys that neither protects have to agree before.
abbrev pub SpreadOneLaw : Type 0
SpreadOneLaw = (b : Below) (m n : Whole) (g : ℕ) → Shape m → IsTrue (is_linked m g) → OthersAgree m g → spread b g m ≡ Ok n → SpreadOne m n g

-- What it keeps of the map's shape: all but what each node is, as long as there are numbers.
pub record SpreadTree (n : Whole) : Type 0 where
  pub standing : Standing n
  pub marks : Marks n
  pub numbers : n.next ≤ 65536 → Numbers n

abbrev pub SpreadTreeLaw : Type 0
SpreadTreeLaw = (b : Below) (m n : Whole) (g : ℕ) → Shape m → IsTrue (is_linked m g) → spread b g m ≡ Ok n → SpreadTree n

-- Where all members are one content, any two of a set agree in values, node by node.
abbrev pub OthersLaw : Type 0
OthersLaw = (m : Whole) (g : ℕ) → Shape m → AllOne m → OthersAgree m g
