-- The loop of a face, by the numbers of its vertices.
use Rattle.std.specs.Prelude.{◌≡◌, ℕ, ◌<◌, List, [], ◌∷◌, length, map, slice_get, Option, Some, MatchOption}
use Rattle.algebra.specs.Members.{Every}
use Rattle.algebra.specs.Space.{Homogeneous, HalfSpace}
use Rattle.vertex_laws.specs.Loop.{IsLoop}
use Rattle.solid_laws.specs.Names.{AreVertices}

-- The first number is the least of the list.
abbrev pub LeastFirst : List ℕ → Type 0
LeastFirst [] = Unit {0}
LeastFirst (first ∷ others) = Every (λ k. first < k) others

-- Where V are the vertices of F, the vertices with these numbers are the loop of its face f, the least number first.
pub record IsNumberedLoop (F : List HalfSpace) (f : HalfSpace) (V : List Homogeneous) (numbers : List ℕ) : Type 0 where
  pub points : List Homogeneous
  pub picked : map (λ k. slice_get V k) numbers ≡ map Some points
  pub is_loop : IsLoop F f points
  pub least_first : LeastFirst numbers

-- The count of the vertices of F.
pub record HasVertexCount (F : List HalfSpace) (count : ℕ) : Type 0 where
  pub V : List Homogeneous
  pub vertices : AreVertices F V
  pub is_count : length V ≡ count

-- The vertex with number k, or none past the end.
pub record HasVertex (F : List HalfSpace) (k : ℕ) (vertex : Option Homogeneous) : Type 0 where
  pub V : List Homogeneous
  pub vertices : AreVertices F V
  pub is_vertex : slice_get V k ≡ vertex

-- The number of the vertex at place k of the loop of a face, or none past its end or where there is no such face.
pub record HasLoopVertex (F : List HalfSpace) (face k : ℕ) (number : Option ℕ) : Type 0 where
  pub V : List Homogeneous
  pub numbers : List ℕ
  pub vertices : AreVertices F V
  pub face_loop : MatchOption (slice_get F face) (numbers ≡ []) (λ f. IsNumberedLoop F f V numbers)
  pub is_number : slice_get numbers k ≡ number
