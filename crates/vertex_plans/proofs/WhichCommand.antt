-- Which commands are of this crate.
use Rattle.std.proofs.Common.{◌≡◌, ℕ, List, true, refl, sym, true≢false, ℤ}
use Rattle.map_model.specs.Commands.{Command, Vertex, Snap}
use Rattle.vertex_plans.specs.VertexCommands.{is_vertex_command}

pub none_other : (c : Command) → is_vertex_command c ≡ true → ((n : ℕ) (shift : List ℤ) (picks : List (List ℤ)) → ¬ (c ≡ Vertex n shift picks)) → ((grid : ℤ) (ns : List ℕ) → ¬ (c ≡ Snap grid ns)) → ⊥
none_other (Vertex n shift picks) e vertex snap = vertex n shift picks refl
none_other (Snap grid ns) e vertex snap = snap grid ns refl
none_other c e vertex snap = true≢false (sym e)
