-- Faces by their tags.
use Rattle.std.specs.Prelude.{◌≡◌, ℕ, suc, ◌+◌, ◌^◌, List, [], ◌∷◌, map, if◌then◌else◌, nat_lt, nat_eq, slice_get, Option, Some, None, MatchOption}
use Rattle.std.specs.Option.{option_map, option_and_then}
use Rattle.algebra.specs.Space.{Homogeneous}
use Rattle.solid_laws.specs.Names.{AreVertices}
use Rattle.solid_laws.specs.FaceLoop.{IsNumberedLoop}
use Rattle.half_poly.specs.declared.links.Face.{Face}
use Rattle.half_poly.specs.Shapes.{Tagged, bounds, solid_of}

-- The place of the first of these tags that is this one.
abbrev pub tag_place : List ℕ → ℕ → Option ℕ
tag_place [] tag = None
tag_place (t ∷ tags) tag = if nat_eq t tag then Some 0 else option_map suc (tag_place tags tag)

abbrev pub tags_of : List Tagged → List ℕ
tags_of sides = map (λ s. s.tag) sides

-- The side with this tag.
abbrev pub with_tag : List Tagged → ℕ → Option Tagged
with_tag sides tag = option_and_then (λ k. slice_get sides k) (tag_place (tags_of sides) tag)

-- The number of the vertex at place k of the loop of the face with this tag, or none past its end or where there is no such face.
pub record HasTaggedLoopVertex (sides : List Tagged) (tag k : ℕ) (number : Option ℕ) : Type 0 where
  pub V : List Homogeneous
  pub numbers : List ℕ
  pub vertices : AreVertices (solid_of sides) V
  pub face_loop : MatchOption (with_tag sides tag) (numbers ≡ []) (λ s. IsNumberedLoop (solid_of sides) (bounds s) V numbers)
  pub is_number : slice_get numbers k ≡ number

-- The side with a number added to its tag, if that is below 2^31.
abbrev pub with_base : ℕ → Tagged → Tagged
with_base base s = if nat_lt s.tag (2 ^ 31) then record s { tag = s.tag + base } else s

-- The face with a number added to its tag, if that is below 2^31.
abbrev pub retagged : ℕ → Face → Face
retagged base f = if nat_lt f.tag (2 ^ 31) then record f { tag = f.tag + base } else f
