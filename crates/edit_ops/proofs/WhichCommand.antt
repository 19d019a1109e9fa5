-- Which commands are of this crate.
use Rattle.std.proofs.Common.{◌≡◌, List, true, refl, sym, true≢false, ℤ, ℕ}
use Rattle.exact_geom.specs.declared.axis.Axis.{Axis}
use Rattle.map_model.specs.Commands.{Command, Part, SurfaceWords, Box, Hull, Copy, Move, Turn, Flip, Clip, Subtract, Intersect, Merge, Hollow, Vertex, Snap, Tex}
use Rattle.edit_ops.specs.EditCommands.{is_edit_command}

-- The command is none of these.
pub record IsOther (c : Command) : Type 0 where
  pub box : (x y : List ℤ) → ¬ (c ≡ Box x y)
  pub hull : (points : List (List ℤ)) → ¬ (c ≡ Hull points)
  pub copy : (shift : List ℤ) (ns : List ℕ) → ¬ (c ≡ Copy shift ns)
  pub move : (shift : List ℤ) (ns : List ℕ) → ¬ (c ≡ Move shift ns)
  pub turn : (axis : Axis) (quarters : ℕ) (about : List ℤ) (ns : List ℕ) → ¬ (c ≡ Turn axis quarters about ns)
  pub flip : (axis : Axis) (place : ℤ) (ns : List ℕ) → ¬ (c ≡ Flip axis place ns)
  pub clip : (part : Part) (plane : List (List ℤ)) (ns : List ℕ) → ¬ (c ≡ Clip part plane ns)
  pub subtract : (by : ℕ) (ns : List ℕ) → ¬ (c ≡ Subtract by ns)
  pub intersect : (ns : List ℕ) → ¬ (c ≡ Intersect ns)
  pub merge : (ns : List ℕ) → ¬ (c ≡ Merge ns)
  pub hollow : (thickness : ℤ) (ns : List ℕ) → ¬ (c ≡ Hollow thickness ns)
  pub vertex : (n : ℕ) (shift : List ℤ) (picks : List (List ℤ)) → ¬ (c ≡ Vertex n shift picks)
  pub snap : (grid : ℤ) (ns : List ℕ) → ¬ (c ≡ Snap grid ns)
  pub tex : (n face : ℕ) (name : List ℕ) (off : List ℤ) (rotation : ℤ) (scale : List ℤ) (surface : SurfaceWords) → ¬ (c ≡ Tex n face name off rotation scale surface)

pub none_other : (c : Command) → is_edit_command c ≡ true → IsOther c → ⊥
none_other (Box x y) e other = other.box x y refl
none_other (Hull points) e other = other.hull points refl
none_other (Copy shift ns) e other = other.copy shift ns refl
none_other (Move shift ns) e other = other.move shift ns refl
none_other (Turn axis quarters about ns) e other = other.turn axis quarters about ns refl
none_other (Flip axis place ns) e other = other.flip axis place ns refl
none_other (Clip part plane ns) e other = other.clip part plane ns refl
none_other (Subtract by ns) e other = other.subtract by ns refl
none_other (Intersect ns) e other = other.intersect ns refl
none_other (Merge ns) e other = other.merge ns refl
none_other (Hollow thickness ns) e other = other.hollow thickness ns refl
none_other (Vertex n shift picks) e other = other.vertex n shift picks refl
none_other (Snap grid ns) e other = other.snap grid ns refl
none_other (Tex n face name off rotation scale surface) e other = other.tex n face name off rotation scale surface refl
none_other c e other = true≢false (sym e)
