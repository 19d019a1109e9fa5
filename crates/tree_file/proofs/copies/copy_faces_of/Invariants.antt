use Rattle.std.proofs.Common.{◌≡◌, map, take, get_or}
use Rattle.uv_lock.specs.declared.face.Face.{Face}
use Rattle.tree_file.proofs.copies.copy_faces_of.Given as goal

abbrev pub invariant-loop-side : goal.invariant-loop-side
invariant-loop-side l = (d : Face) → l.copies.items ≡ map (λ s. get_or l.faces s.tag d) (take l.side-index l.sides)
