use Rattle.std.proofs.Common.{◌∙◌, w32, w64}
use Rattle.algebra.specs.Space.{minus}
use Rattle.algebra.proofs.Identities.{vector_by}
use Rattle.exact_geom.proofs.Exactly.{var, call, less}
use Rattle.exact_geom.proofs.PlaneLaws.{in_range}
use Rattle.exact_geom.proofs.half_space.Vector64.between.Goals as goal

pub returns : goal.returns
unfolding minus
returns c =
    let p = c.args.a.now in
    let q = c.args.b.now in
    let a = in_range p c.requires.a_in_range in
    let b = in_range q c.requires.b_in_range in
    vector_by (less (call w64 c.from.result p.x (c.from.ensures ∙ (var w32 p.x a.x tt).is) a.x tt) (call w64 c.from-2.result q.x (c.from-2.ensures ∙ (var w32 q.x b.x tt).is) b.x tt) tt).is
    (less (call w64 c.from-3.result p.y (c.from-3.ensures ∙ (var w32 p.y a.y tt).is) a.y tt) (call w64 c.from-4.result q.y (c.from-4.ensures ∙ (var w32 q.y b.y tt).is) b.y tt) tt).is
    (less (call w64 c.from-5.result p.z (c.from-5.ensures ∙ (var w32 p.z a.z tt).is) a.z tt) (call w64 c.from-6.result q.z (c.from-6.ensures ∙ (var w32 q.z b.z tt).is) b.z tt) tt).is
