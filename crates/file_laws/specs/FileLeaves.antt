-- The brushes and the motions of a file as the map level has them.
use Rattle.std.specs.Prelude.{◌≡◌, ℕ, IsTrue, [], Ok}
use Rattle.map_model.specs.Tree.{Whole}
use Rattle.map_model.specs.Shape.{Shape}
use Rattle.map_model.specs.Below.{Below, IsRight}
use Rattle.orient48.specs.MotionTexts.{motion_text, read_motion}
use Rattle.map_model.specs.Judged.{faces_judged}
use Rattle.map_model.specs.Links.{AllOne}
use Rattle.file_laws.specs.Leaves.{Leaves, AreRight}
use Rattle.map_model.specs.Saved as model
use Rattle.file_laws.specs.Saved.{saved}
use Rattle.file_laws.specs.Linked.{build}
use Rattle.file_laws.specs.Renumbered.{renumbered_map}

abbrev pub file_leaves : Below → Leaves
file_leaves b = record { judge = faces_judged b; motion_text = motion_text; read_motion = read_motion }

-- They are right for each map, where the tests of points are.
abbrev pub FileLeavesLaw : Type 0
FileLeavesLaw = (b : Below) → IsRight b → (m : Whole) → Shape m → AreRight (file_leaves b) m

-- So what is saved of a map builds it renumbered.
abbrev pub SavedFileLaw : Type 0
SavedFileLaw = (b : Below) → IsRight b → (m : Whole) → Shape m → AllOne m →
    build (file_leaves b) (saved (file_leaves b) m) ≡ Ok (record { map = renumbered_map m; notes = [] })

-- The document that the map level saves is this one.
abbrev pub SameSavedLaw : Type 0
SameSavedLaw = (b : Below) (m : Whole) → Shape m → model.saved m ≡ saved (file_leaves b) m
