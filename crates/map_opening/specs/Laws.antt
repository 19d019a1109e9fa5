-- Laws on how bytes open.
use Rattle.std.specs.Prelude.{◌≡◌, ℕ, List}
use Rattle.map_model.specs.Below.{Below, IsRight}
use Rattle.map_opening.specs.Opening.{Opened, OpensAs, Opens}

-- Bytes open in one way.
abbrev pub OpensOneWay : Type 0
OpensOneWay = (b : Below) → IsRight b → (bytes : List ℕ) (x y : Opened) → OpensAs b bytes x → OpensAs b bytes y → x ≡ y

-- Any bytes open in some way.
abbrev pub OpensSomeWay : Type 0
OpensSomeWay = (b : Below) → IsRight b → (bytes : List ℕ) → (opened : Opened) × OpensAs b bytes opened

-- And in one way for all right tests.
abbrev pub OpensForAll : Type 0
OpensForAll = (bytes : List ℕ) → (opened : Opened) × Opens bytes opened
