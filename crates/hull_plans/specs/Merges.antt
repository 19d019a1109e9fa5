-- What `merge` makes, and which row refuses it.
use Rattle.std.specs.Prelude.{◌≡◌, ◌^◌, ◌<◌, ◌≤◌, ℕ, not, List, length, map, flat_map, Option, None, Some, Result, Ok, Err}
use Rattle.algebra.specs.Members.{Every}
use Rattle.algebra.specs.Space.{whole_point}
use Rattle.algebra.specs.World.{InCube, world}
use Rattle.exact_geom.specs.declared.point.Point.{Point}
use Rattle.exact_geom.specs.Planes.{vector}
use Rattle.map_model.specs.Faces.{Face}
use Rattle.map_model.specs.Tree.{Whole, faces_at}
use Rattle.map_model.specs.Below.{Below, IsRight}
use Rattle.map_model.specs.Brushes.{as_point, vertices_of, are_whole}
use Rattle.map_model.specs.Commands.{Settings, Merge}
use Rattle.map_model.specs.Replies.{Refusal, FractionalVertex}
use Rattle.map_model.specs.Rows.{refuse, first, at_each, merged}
use Rattle.map_laws.specs.Reshaping.{reshaping_rows}
use Rattle.tree_ops.specs.declared.fault.OpFault.{OpFault}
use Rattle.tree_ops.specs.declared.fault.OpFault.TheVariants.{No, Memory}

abbrev pub AreInWorld : List Point → Type 0
AreInWorld points = Every (λ p. InCube world (whole_point (vector p))) points

-- The vertices of the brush n as points, and the row of one that isn't whole.
abbrev pub corners_at : Below → Whole → ℕ → List Point
corners_at b m n = map as_point (vertices_of b (faces_at m n))

abbrev pub fraction : Whole → ℕ → Below → Option Refusal
fraction m n b = refuse (not (are_whole b (faces_at m n))) (FractionalVertex n)

-- The points are the vertices of the brush n, all of them whole.
pub record AreCornersAt (m : Whole) (n : ℕ) (points : List Point) : Type 0 where
  pub are : (b : Below) → IsRight b → corners_at b m n ≡ points
  pub whole : (b : Below) → IsRight b → fraction m n b ≡ None
  pub within : AreInWorld points
  pub few : length points ≤ 1040384

abbrev pub IsCornersAt : Whole → ℕ → Result (List Point) OpFault → Type 0
IsCornersAt m n (Ok points) = AreCornersAt m n points
IsCornersAt m n (Err (No refusal)) = (b : Below) → IsRight b → fraction m n b ≡ Some refusal
IsCornersAt m n (Err Memory) = Unit {0}

-- The points are the vertices of the brushes, one brush after another, all of them whole.
abbrev pub fraction_any : Whole → List ℕ → Below → Option Refusal
fraction_any m ns b = at_each ns (λ n. fraction m n b)

pub record AreCorners (m : Whole) (ns : List ℕ) (points : List Point) : Type 0 where
  pub are : (b : Below) → IsRight b → flat_map (corners_at b m) ns ≡ points
  pub whole : (b : Below) → IsRight b → fraction_any m ns b ≡ None
  pub within : AreInWorld points
  pub few : length points < 2 ^ 32

abbrev pub IsCorners : Whole → List ℕ → Result (List Point) OpFault → Type 0
IsCorners m ns (Ok points) = AreCorners m ns points
IsCorners m ns (Err (No refusal)) = (b : Below) → IsRight b → fraction_any m ns b ≡ Some refusal
IsCorners m ns (Err Memory) = Unit {0}

-- All rows, and the merged brush where none holds.
abbrev pub merge_refusal : Settings → Whole → List ℕ → Below → Option Refusal
merge_refusal s m ns b = first (reshaping_rows b s m (Merge ns))

pub record AreMerged (s : Settings) (m : Whole) (ns : List ℕ) (body : List Face) : Type 0 where
  pub passes : (b : Below) → IsRight b → merge_refusal s m ns b ≡ None
  pub made : (b : Below) → IsRight b → merged b s m ns ≡ body

abbrev pub IsMerged : Settings → Whole → List ℕ → Result (List Face) OpFault → Type 0
IsMerged s m ns (Ok body) = AreMerged s m ns body
IsMerged s m ns (Err (No refusal)) = (b : Below) → IsRight b → merge_refusal s m ns b ≡ Some refusal
IsMerged s m ns (Err Memory) = Unit {0}
