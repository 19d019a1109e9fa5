use Rattle.half_poly.proofs.Whole.{has_polyhedron}
use Rattle.half_poly.proofs.poly.Poly.faces.Goals as goal

pub returns-clause-polyhedron : goal.returns-clause-polyhedron
returns-clause-polyhedron c = has_polyhedron c.self.invariant c.args.self.now c.self.view_is
