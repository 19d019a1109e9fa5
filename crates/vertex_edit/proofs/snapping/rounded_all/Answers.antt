use Rattle.std.proofs.Common.{◌+◌, ℤ, take, sym, subst, arith, w32, to_z, of_z}
use Rattle.std.proofs.lemmas.Int.{to_z-of_z}
use Rattle.std.proofs.lemmas.List.{take_all}
use Rattle.algebra.specs.Members.{◌∈◌}
use Rattle.algebra.proofs.Members.{member_at}
use Rattle.vertex_edit.specs.Places.{AreRoundedTo}
use Rattle.vertex_edit.proofs.Rounded.{rounded_none, rounded_more}
use Rattle.vertex_edit.proofs.snapping.rounded_all.Goals as goal

abbrev given : ℤ → ℤ
given grid = to_z w32 (of_z w32 grid)

pub loop-vertex-init : goal.loop-vertex-init
loop-vertex-init c = subst (AreRoundedTo (given c.args.grid) (take 0 c.args.vertices.now)) (sym c.new-places.ensures.items) (rounded_none (given c.args.grid))

pub rounded-requires-clause-world : goal.rounded-requires-clause-world
rounded-requires-clause-world c = c.requires.world _ (subst (λ v. v ∈ c.args.vertices.now) (sym c.vertex-item.is) (member_at c.args.vertices.now c.loop-vertex.vertex-index c.vertex-item.result c.loop-vertex-test.true))

pub loop-vertex-preserved : goal.loop-vertex-preserved
loop-vertex-preserved c = subst (AreRoundedTo (given c.args.grid) (take (c.loop-vertex.vertex-index + 1) c.args.vertices.now)) (sym c.in_ok-push.ensures.items)
    (rounded_more (given c.args.grid) c.args.vertices.now c.loop-vertex.vertex-index c.vertex-item.result c.loop-vertex.places.items c.rounded.result c.loop-vertex-test.true c.vertex-item.is c.loop-vertex.invariant
    c.rounded.ensures.rounded c.rounded.ensures.world)

pub returns : goal.returns
returns c = subst (λ g. AreRoundedTo g c.args.vertices.now c.loop-vertex.places.items) (to_z-of_z w32 c.args.grid c.ranges.grid)
    (subst (λ V. AreRoundedTo (given c.args.grid) V c.loop-vertex.places.items) (take_all c.loop-vertex.vertex-index c.args.vertices.now (let f = c.loop-vertex-test.false in omega arith)) c.loop-vertex.invariant)
