-- The command that gives a face another texture: the rows that can refuse it, and the face that comes of it.
use Rattle.std.specs.Prelude.{◌≡◌, ℕ, not, List, [], ◌∷◌, Option, is_none}
use Rattle.map_model.specs.Faces.{Face}
use Rattle.map_model.specs.Tree.{Whole, at}
use Rattle.map_model.specs.Commands.{Command, Tex}
use Rattle.map_model.specs.Own.{retextured}
use Rattle.map_model.specs.Replies.{Refusal, NoNode, WrongKind, LockedLayer}
use Rattle.map_model.specs.Rows.{refuse, has_face, is_in_frozen}

-- The command is one for this face of this node.
abbrev pub IsTexOf : ℕ → ℕ → Command → Type 0
IsTexOf n k (Tex node face name off rotation scale surface) = (node ≡ n) × (face ≡ k)
IsTexOf n k c = ⊥

-- The rows on the node and the face.
abbrev pub face_rows : Whole → ℕ → ℕ → List (Option Refusal)
face_rows m n k = refuse (is_none (at m n)) (NoNode n) ∷ refuse (not (has_face m n k)) (WrongKind n) ∷ refuse (is_in_frozen m n) (LockedLayer n) ∷ []

-- The face with the material, the offsets, the rotation, the scales and the surface numbers of the command; the plane and the axes stay.
abbrev pub retextured_face : Command → Face → Face
retextured_face (Tex node face name off rotation scale surface) f = record f { material = name; tex = retextured off rotation scale surface f.tex }
retextured_face c f = f
