use Rattle.algebra.specs.Space.{cross}
use Rattle.algebra.proofs.Identities.{vector_by}
use Rattle.exact_geom.proofs.Exactly.{minor_is}
use Rattle.exact_geom.proofs.half_space.Vector64.cross.Goals as goal

pub returns : goal.returns
unfolding cross
returns c =
    let a = c.args.self.now in
    let b = c.args.other.now in
    let h = c.requires.size in
    let k = c.requires.other_size in
    vector_by (minor_is a.y a.z b.y b.z c.minor.result h.y h.z k.y k.z c.minor.ensures)
    (minor_is a.z a.x b.z b.x c.minor-2.result h.z h.x k.z k.x c.minor-2.ensures)
    (minor_is a.x a.y b.x b.y c.minor-3.result h.x h.y k.x k.y c.minor-3.ensures)
