-- Sides that are tagged one after another.
use Rattle.std.specs.Prelude.{◌<◌, ◌≤◌, List, length}
use Rattle.algebra.specs.Members.{Every}
use Rattle.solid_brush.specs.declared.side.Side.{Side}
use Rattle.solid_brush.specs.Sides.{HaveTags}

-- The sides are at most 256, and their tags tell them apart and are below their count.
pub record AreNumbered (sides : List Side) : Type 0 where
  pub tags : HaveTags sides
  pub low : Every (λ s. s.tag < length sides) sides
  pub few : length sides ≤ 256
