-- Brushes whose planes are moved one by one.
use Rattle.std.proofs.Common.{map, sym, subst}
use Rattle.std.specs.Prelude.{◌↔◌}
use Rattle.algebra.specs.Space.{Homogeneous}
use Rattle.algebra.specs.World.{InCube, world}
use Rattle.exact_geom.specs.Planes.{half_space}
use Rattle.orient48.proofs.Matrices.{is_turn}
use Rattle.orient48.specs.Motions.{moved_at}
use Rattle.trim_laws.specs.Valid.{Valid}
use Rattle.vertex_laws.specs.Vertex.{IsVertex}
use Rattle.moved_laws.specs.Laws.{BrushMovedLaw}
use Rattle.moved_laws.proofs.Halves.{list_moved}
use Rattle.moved_laws.proofs.Staying.{valid_is}

pub brush_is : BrushMovedLaw
brush_is r ts s v =
    let t = is_turn r.matrix s in
    subst (λ X. ((p : Homogeneous) → IsVertex (map half_space ts) p → InCube world (moved_at r p)) ↔ Valid X) (sym (list_moved r ts t)) (valid_is r (map half_space ts) t v)
