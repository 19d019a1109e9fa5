-- The names of the vertices in the arenas.
use Rattle.std.specs.Prelude.{◌≡◌, ◌⊎◌, ℕ, ◌<◌, ◌≤◌, List, length, get_or, map, nat_lt, nat_eq, if◌then◌else◌, Option, Some, IsSome}
use Rattle.std.specs.Option.{option_map_or}
use Rattle.algebra.specs.Members.{◌∈◌}
use Rattle.algebra.specs.Space.{Homogeneous, HalfSpace}
use Rattle.half_arena.specs.declared.ids.VertId.{VertId}
use Rattle.solid_laws.specs.Names.{AreVertices}
use Rattle.half_poly.specs.declared.links.HalfEdge.{HalfEdge}
use Rattle.half_poly.specs.declared.names.Name.{Name}
use Rattle.half_poly.specs.declared.names.Corner.{Corner}
use Rattle.half_poly.specs.Arenas.{nowhere}
use Rattle.half_poly.specs.Places.{AreDistinct}

-- The three least numbers with the property S; where there are fewer, the limit stands in their places.
pub record AreLeast (S : ℕ → Type 0) (limit : ℕ) (n : Name) : Type 0 where
  pub first_in : S n.first ⊎ (n.first ≡ limit)
  pub second_in : S n.second ⊎ (n.second ≡ limit)
  pub third_in : S n.third ⊎ (n.third ≡ limit)
  pub first_within : n.first ≤ limit
  pub second_within : n.second ≤ limit
  pub third_within : n.third ≤ limit
  pub second_after : n.first < n.second ⊎ (n.second ≡ limit)
  pub third_after : n.second < n.third ⊎ (n.third ≡ limit)
  pub all : (j : ℕ) → S j → (j ≡ n.first) ⊎ (j ≡ n.second) ⊎ (n.third ≤ j)

-- The three least with one number more.
abbrev pub with_number : Name → ℕ → Name
with_number n j =
    if nat_lt j n.first then record { first = j; second = n.first; third = n.second }
    else if nat_eq j n.first then n
    else if nat_lt j n.second then record { first = n.first; second = j; third = n.second }
    else if nat_eq j n.second then n
    else if nat_lt j n.third then record { first = n.first; second = n.second; third = j }
    else n

-- A half-edge below n begins at the vertex, and its face has this number.
pub record MeetsBelow (edges : ℕ → Option HalfEdge) (numbers : List ℕ) (n vertex number : ℕ) : Type 0 where
  pub e : ℕ
  pub h : HalfEdge
  pub below : e < n
  pub there : edges e ≡ Some h
  pub from : h.origin.0 ≡ vertex
  pub face : get_or numbers h.face.0 0 ≡ number

abbrev pub no_name : Name
no_name = record { first = 0; second = 0; third = 0 }

-- The table has for each vertex the three least numbers of faces of half-edges below n.
abbrev pub NamesBelow : (ℕ → Option HalfEdge) → List ℕ → ℕ → List Name → ℕ → Type 0
NamesBelow edges numbers count names n = (x : ℕ) → x < length names → AreLeast (MeetsBelow edges numbers n x) count (get_or names x no_name)

-- The corners are the vertices in slots below n, each once, with their names.
pub record AreCorners (vertices : ℕ → Option Homogeneous) (names : List Name) (n : ℕ) (corners : List Corner) : Type 0 where
  pub live : (c : Corner) → c ∈ corners → IsSome (vertices c.slot)
  pub below : (c : Corner) → c ∈ corners → c.slot < n
  pub named : (c : Corner) → c ∈ corners → c.name ≡ get_or names c.slot no_name
  pub all : (x : ℕ) (v : Homogeneous) → x < n → vertices x ≡ Some v → (c : Corner) × (c ∈ corners) × (c.slot ≡ x)
  pub once : AreDistinct (map (λ c. c.slot) corners)

-- The table has the three least numbers of faces of all half-edges of each vertex.
pub record HasNames (edges : ℕ → Option HalfEdge) (numbers : List ℕ) (count : ℕ) (names : List Name) : Type 0 where
  pub limit : ℕ
  pub within : (e : ℕ) (h : HalfEdge) → edges e ≡ Some h → e < limit
  pub names_below : NamesBelow edges numbers count names limit

-- The name m does not come before the name n.
abbrev pub NotBefore : Name → Name → Type 0
NotBefore n m = (n.first < m.first) ⊎ ((n.first ≡ m.first) × ((n.second < m.second) ⊎ ((n.second ≡ m.second) × (n.third ≤ m.third))))

-- The names of the corners don't fall.
abbrev pub InOrder : List Corner → Type 0
InOrder corners = (i j : ℕ) (d : Corner) → i < j → j < length corners → NotBefore (get_or corners i d).name (get_or corners j d).name

abbrev pub corner_id : Corner → VertId
corner_id c = record { 0 = c.slot }

-- The point of a vertex.
abbrev pub point_at : (ℕ → Option Homogeneous) → VertId → Homogeneous
point_at vertices id = option_map_or (λ v. v) (vertices id.0) nowhere

-- The numbers name the vertices of the list, in the order of their names.
pub record AreNamed (vertices : ℕ → Option Homogeneous) (F : List HalfSpace) (ids : List VertId) : Type 0 where
  pub live : (id : VertId) → id ∈ ids → IsSome (vertices id.0)
  pub are_vertices : AreVertices F (map (point_at vertices) ids)
