-- The command that makes a box, in maps in which no group is linked. The tests on solids are right, and the material of new faces can be
-- saved.
use Rattle.std.specs.Prelude.{◌≡◌, ◌⊎◌, ℤ, IsTrue, List, [], ◌∷◌, Ok}
use Rattle.map_lex.specs.OneToken.{is_material_text}
use Rattle.cmd_text.specs.Kept.{IsNameText}
use Rattle.map_model.specs.Tree.{Whole}
use Rattle.map_model.specs.Shape.{Shape}
use Rattle.map_model.specs.Below.{Below, IsRight}
use Rattle.map_model.specs.Commands.{IsGood, Settings, Box}
use Rattle.map_model.specs.Rows.{rows, first, point_range, no_volume, out_of_world, current_material}
use Rattle.map_model.specs.Apply.{Applied, apply}
use Rattle.map_laws.specs.Unlinked.{Unlinked, apply_unlinked}

-- New faces get a material that can be saved.
abbrev pub KeepsMaterial : Settings → Type 0
KeepsMaterial s = IsTrue (is_material_text (current_material s))

-- So it is at the start, and once a line has set the material.
abbrev pub MaterialLaw : Type 0
MaterialLaw = (s : Settings) → (s.material ≡ []) ⊎ IsNameText s.material → KeepsMaterial s

-- Three rows can refuse a box.
abbrev pub BoxRowsLaw : Type 0
BoxRowsLaw = (b : Below) (s : Settings) (m : Whole) (x y : List ℤ) →
    first (rows b s m (Box x y)) ≡ first (point_range s m (Box x y) ∷ no_volume b m (Box x y) ∷ out_of_world b s m (Box x y) ∷ [])

-- Marks, edited groups and spreading change nothing.
abbrev pub BoxApplyLaw : Type 0
BoxApplyLaw = (b : Below) (s : Settings) (m : Whole) (x y : List ℤ) → IsRight b → KeepsMaterial s → IsGood (Box x y) → Shape m → Unlinked m →
    apply b s m (Box x y) ≡ apply_unlinked b s m (Box x y)

-- The map after the command has the shape again, and no linked group: the box is a valid brush.
abbrev pub BoxCommandLaw : Type 0
BoxCommandLaw = (b : Below) (s : Settings) (m : Whole) (x y : List ℤ) (a : Applied) → IsRight b → KeepsMaterial s → IsGood (Box x y) → Shape m → Unlinked m → apply b s m (Box x y) ≡ Ok a →
    Shape a.map × Unlinked a.map
