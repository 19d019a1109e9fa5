use Rattle.std.proofs.Common.{refl, sym, subst}
use Rattle.algebra.specs.Members.{◌∈◌}
use Rattle.algebra.proofs.Members.{member_at}
use Rattle.hull_merge.proofs.vertices.whole_points.Goals as goal

pub point_of-requires : goal.point_of-requires
point_of-requires c = c.requires _ (subst (λ v. v ∈ c.args.vertices.now) (sym c.vertex-item.is) (member_at c.args.vertices.now c.loop-vertex.vertex-index c.vertex-item.result c.loop-vertex-test.true))

pub returns-in_default-clause-none : goal.returns-in_default-clause-none
returns-in_default-clause-none c = λ none. record {
  at = c.vertex-item.result;
  among = subst (λ v. v ∈ c.args.vertices.now) (sym c.vertex-item.is) (member_at c.args.vertices.now c.loop-vertex.vertex-index c.vertex-item.result c.loop-vertex-test.true);
  weight = c.in_default.ensures.none refl;
}
