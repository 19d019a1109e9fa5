-- What a search through the triples of faces has found on its way.
use Rattle.std.proofs.Common.{ℕ, ◌+◌, ◌*◌, ◌<◌, ◌≤◌, List, length}
use Rattle.algebra.specs.Members.{◌∈◌}
use Rattle.algebra.specs.Space.{Homogeneous, HalfSpace}
use Rattle.exact_geom.specs.Vertices.{IsReduced}
use Rattle.trim_laws.specs.Solid.{IsIn}
use Rattle.vertex_laws.specs.Vertex.{IsVertex}
use Rattle.solid_laws.specs.Names.{Triple, Earlier, MeetAt, IsName, NamesRise}

-- The triple of three numbers.
abbrev pub triple : ℕ → ℕ → ℕ → Triple
triple i j k = record { first = i; second = j; third = k }

-- The three numbers rise.
pub record IsRising (t : Triple) : Type 0 where
  pub low : t.first < t.second
  pub high : t.second < t.third

-- The name of p comes before t.
pub record NamedEarlier (F : List HalfSpace) (t : Triple) (p : Homogeneous) : Type 0 where
  pub name : Triple
  pub named : IsName F p name
  pub earlier : Earlier name t

-- V are the vertices that rising triples before t have, each once as a reduced point, in the order of their names. There is at most
-- one for each triple before t, of at most 262 faces.
pub record FoundBefore (F : List HalfSpace) (t : Triple) (V : List Homogeneous) : Type 0 where
  pub each : (v : Homogeneous) → v ∈ V → IsVertex F v × IsReduced v
  pub named : (v : Homogeneous) → v ∈ V → NamedEarlier F t v
  pub all : (v : Homogeneous) (s : Triple) → IsIn F v → IsReduced v → IsRising s → MeetAt F s v → Earlier s t → v ∈ V
  pub order : NamesRise F V
  pub few : length V ≤ (t.first * 262 + t.second) * 262 + t.third
