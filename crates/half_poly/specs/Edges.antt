-- The count of edges.
use Rattle.std.specs.Prelude.{◌≡◌, ℕ, ◌<◌, List, length, get_or}
use Rattle.algebra.specs.Members.{◌∈◌}
use Rattle.algebra.specs.Space.{Homogeneous, HalfSpace}
use Rattle.vertex_laws.specs.Vertex.{IsEdge}
use Rattle.poly_laws.specs.Counts.{Ends, AreEnds}

-- Some n edges are all edges of the list, each once.
pub record HasEdgeCount (F : List HalfSpace) (n : ℕ) : Type 0 where
  pub edges : List Ends
  pub count : length edges ≡ n
  pub each : (e : Ends) → e ∈ edges → IsEdge F e.first e.second
  pub all : (a b : Homogeneous) → IsEdge F a b → (e : Ends) × e ∈ edges × AreEnds a b e
  pub once : (i j : ℕ) (d : Ends) → i < j → j < length edges → ¬ (AreEnds (get_or edges i d).first (get_or edges i d).second (get_or edges j d))
