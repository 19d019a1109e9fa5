-- How contracts see the parts of nodes.
use Rattle.std.specs.Prelude.{ℕ, suc, List, [], ◌∷◌}
use Rattle.solid_brush.specs.declared.side.Side.{Side}
use Rattle.uv_lock.specs.declared.face.Face.{Face}

-- The sides of faces: their planes in order, each with its place as its tag.
abbrev pub sides_from : ℕ → List Face → List Side
sides_from k [] = []
sides_from k (f ∷ fs) = record { plane = f.plane; tag = k } ∷ sides_from (suc k) fs

abbrev pub sides_of : List Face → List Side
sides_of fs = sides_from 0 fs
