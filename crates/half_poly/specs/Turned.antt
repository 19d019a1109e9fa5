-- Half-edges that are turned round.
use Rattle.std.specs.Prelude.{◌≡◌, ℕ, ◌<◌, Bool, true, false, length, Option, Some, IsSome, unwrap_or}
use Rattle.std.specs.Option.{option_map, option_map_or}
use Rattle.half_arena.specs.declared.ids.EdgeId.{EdgeId}
use Rattle.half_poly.specs.declared.links.HalfEdge.{HalfEdge}
use Rattle.half_poly.specs.Noted.{Table, entry}

-- The half-edge in slot e turned round: it begins where its twin began, and the one that led to it comes next.
abbrev pub turned : (ℕ → Option HalfEdge) → Table → ℕ → HalfEdge → HalfEdge
turned edges before e h = record h {
  origin = option_map_or (λ t. t.origin) (edges h.twin.0) h.origin;
  next = unwrap_or (entry before e) h.next;
}

-- The half-edge is live and leads to slot e.
pub record LeadsTo (edges : ℕ → Option HalfEdge) (id : EdgeId) (e : ℕ) : Type 0 where
  pub h : HalfEdge
  pub there : edges id.0 ≡ Some h
  pub next_is : h.next.0 ≡ e

-- The table has for the next slot of each half-edge below n one that leads to it, and nothing else.
pub record BeforeBelow (edges : ℕ → Option HalfEdge) (before : Table) (n : ℕ) : Type 0 where
  pub some : (e : ℕ) (h : HalfEdge) → e < n → edges e ≡ Some h → h.next.0 < length before → IsSome (entry before h.next.0)
  pub leads : (e : ℕ) (id : EdgeId) → entry before e ≡ Some id → LeadsTo edges id e

-- The same of all half-edges.
pub record AreBefore (edges : ℕ → Option HalfEdge) (before : Table) : Type 0 where
  pub some : (e : ℕ) (h : HalfEdge) → edges e ≡ Some h → h.next.0 < length before → IsSome (entry before h.next.0)
  pub leads : (e : ℕ) (id : EdgeId) → entry before e ≡ Some id → LeadsTo edges id e

-- Each half-edge is turned round.
pub record AreTurned (edges after : ℕ → Option HalfEdge) : Type 0 where
  pub table : Table
  pub within : (e : ℕ) → IsSome (edges e) → e < length table
  pub before : AreBefore edges table
  pub passed : (e : ℕ) → after e ≡ option_map (turned edges table e) (edges e)

-- A flip turns each half-edge round.
abbrev pub AreMovedEdges : Bool → (ℕ → Option HalfEdge) → (ℕ → Option HalfEdge) → Type 0
AreMovedEdges true edges after = AreTurned edges after
AreMovedEdges false edges after = after ≡ edges
