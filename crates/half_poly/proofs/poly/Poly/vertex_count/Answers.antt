use Rattle.std.proofs.Common.{◌≡◌, length, rules}
use Rattle.half_poly.proofs.Reading.{count_of}
use Rattle.half_poly.proofs.poly.Poly.vertex_count.Goals as goal

pub returns : goal.returns
returns c = let q : c.len.result ≡ length c.self.inside.named.items = search rules in record { count = count_of c.self.invariant c.args.self.now c.self.view_is c.len.result q }
