use Rattle.std.proofs.Common.{IsTrue, ◌↔◌, ◌∙◌, sym, subst}
use Rattle.std.specs.Int.{w128}
use Rattle.std.proofs.lemmas.Bool.{false≢true}
use Rattle.algebra.specs.World.{InCube, world}
use Rattle.exact_geom.specs.Vertices.{homogeneous}
use Rattle.exact_geom.proofs.Cubes.{near_at, last_near}
use Rattle.exact_geom.proofs.Exactly.{var}
use Rattle.exact_geom.proofs.rounding.in_world.Goals as goal
use Rattle.exact_geom.proofs.rounding.in_world.Goals.{then-is_near, else-is_near}

pub returns-then-is_near-2 : goal.returns-then-is_near-2
returns-then-is_near-2 c =
    let v = c.v.inside in
    let b = c.v.invariant.bounded in
    let weight = (var w128 v.w b.weight tt).is in
    elim c.if-is_near.branch [
      | then-is_near w ↦ subst (λ p. IsTrue c.is_near-then-is_near-2.result ↔ InCube world p) c.v.view_is
          (last_near (homogeneous v.x v.y v.z v.w) w.if-is_near.true (sym w.value-is ∙ c.if-is_near-2.true)
          (near_at (var w128 v.x b.x tt).is weight c.is_near.ensures) (near_at (var w128 v.y b.y tt).is weight w.is_near-then-is_near.ensures)
          (near_at (var w128 v.z b.z tt).is weight c.is_near-then-is_near-2.ensures))
      | else-is_near w ↦ absurd (false≢true (sym w.if-is_near.false ∙ sym w.value-is ∙ c.if-is_near-2.true))
    ]
