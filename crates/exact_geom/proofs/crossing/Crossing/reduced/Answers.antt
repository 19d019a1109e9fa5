use Rattle.exact_geom.specs.Vertices.{homogeneous}
use Rattle.exact_geom.proofs.Division.{quotients, reduced_vertex, multiple_of}
use Rattle.exact_geom.proofs.crossing.Crossing.reduced.Goals as goal

pub invariant_of-result : goal.invariant_of-result
invariant_of-result c =
    let p = c.args.self.now in
    reduced_vertex (homogeneous p.x p.y p.z p.w) _ c.divisor-divisor.result c.requires.bounded c.divisor-divisor.ensures
    (quotients (homogeneous p.x p.y p.z p.w) c.divisor-divisor.result c.requires.bounded c.requires.weight c.divisor-divisor.ensures)

pub returns-clause-multiple : goal.returns-clause-multiple
returns-clause-multiple c =
    let p = c.args.self.now in
    multiple_of (homogeneous p.x p.y p.z p.w) _ c.divisor-divisor.result c.divisor-divisor.ensures
    (quotients (homogeneous p.x p.y p.z p.w) c.divisor-divisor.result c.requires.bounded c.requires.weight c.divisor-divisor.ensures)

pub returns-clause-vertex : goal.returns-clause-vertex
returns-clause-vertex c =
    let p = c.args.self.now in
    reduced_vertex (homogeneous p.x p.y p.z p.w) _ c.divisor-divisor.result c.requires.bounded c.divisor-divisor.ensures
    (quotients (homogeneous p.x p.y p.z p.w) c.divisor-divisor.result c.requires.bounded c.requires.weight c.divisor-divisor.ensures)
