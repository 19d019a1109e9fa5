-- What is asserted of commands in maps with linked groups.
use Rattle.std.specs.Prelude.{◌≡◌, ℕ, ℤ, IsTrue, List, Ok}
use Rattle.map_model.specs.Tree.{Whole}
use Rattle.map_model.specs.Below.{Below, IsRight}
use Rattle.map_model.specs.Shape.{Shape}
use Rattle.map_model.specs.Links.{AllOne}
use Rattle.map_model.specs.Commands.{Command, IsGood, Settings, Material, Protect, Unprotect, Unlink, Copy, Box}
use Rattle.map_laws.specs.TreeCommands.{is_tree_command}
use Rattle.map_laws.specs.BoxCommand.{KeepsMaterial}
use Rattle.map_laws.specs.Reshaping.{is_reshaping_command, HasPairs}
use Rattle.map_model.specs.Apply.{Applied, apply}

-- A map of which each two members of each set are one content is one again after the command: it has the shape of maps, and each two members
-- of each set are one content.
abbrev pub KeepsAllOne : Command → Type 0
KeepsAllOne c = (b : Below) (s : Settings) (m : Whole) (a : Applied) → IsRight b → IsGood c → Shape m → AllOne m → apply b s m c ≡ Ok a → Shape a.map × AllOne a.map

-- The commands of the tree keep it.
abbrev pub TreeKeepsLaw : Type 0
TreeKeepsLaw = (c : Command) → IsTrue (is_tree_command c) → KeepsAllOne c

-- The command that sets the material of new faces leaves the map as it is, and keeps it.
abbrev pub MaterialKeepsLaw : Type 0
MaterialKeepsLaw = (name : List ℕ) → KeepsAllOne (Material name)

-- The command that protects a key of an entity keeps it.
abbrev pub ProtectKeepsLaw : Type 0
ProtectKeepsLaw = (n : ℕ) (key : List ℕ) → KeepsAllOne (Protect n key)

-- The command that protects a key of an entity no more, and gives it the value that the others have, keeps it.
abbrev pub UnprotectKeepsLaw : Type 0
UnprotectKeepsLaw = (n : ℕ) (key : List ℕ) → KeepsAllOne (Unprotect n key)

-- The command that takes a group out of its set keeps it.
abbrev pub UnlinkKeepsLaw : Type 0
UnlinkKeepsLaw = (g : ℕ) → KeepsAllOne (Unlink g)

-- The command that copies nodes keeps it.
abbrev pub CopyKeepsLaw : Type 0
CopyKeepsLaw = (shift : List ℤ) (ns : List ℕ) → KeepsAllOne (Copy shift ns)

-- The same of commands that make faces in the current material, where that can be saved.
abbrev pub KeepsWithMaterial : Command → Type 0
KeepsWithMaterial c =
    (b : Below) (s : Settings) (m : Whole) (a : Applied) → IsRight b → KeepsMaterial s → IsGood c → Shape m → AllOne m → apply b s m c ≡ Ok a → Shape a.map × AllOne a.map

-- The commands that make brushes of brushes or of points, or change faces, keep it.
abbrev pub ReshapingKeepsLaw : Type 0
ReshapingKeepsLaw = (c : Command) → IsTrue (is_reshaping_command c) → HasPairs c → KeepsWithMaterial c

-- The command that makes a box keeps it.
abbrev pub BoxKeepsLaw : Type 0
BoxKeepsLaw = (x y : List ℤ) → KeepsWithMaterial (Box x y)
