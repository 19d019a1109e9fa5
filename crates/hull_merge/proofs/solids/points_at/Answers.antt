use Rattle.std.proofs.Common.{map, get_or, ap, ◌∙◌, refl}
use Rattle.exact_geom.specs.Planes.{vector}
use Rattle.hull_merge.specs.Hulls.{zero_point}
use Rattle.hull_merge.proofs.Gathering.{points_more}
use Rattle.hull_merge.proofs.solids.points_at.Goals as goal

pub loop-k-preserved : goal.loop-k-preserved
loop-k-preserved c = ap (map vector) c.in_ok-push.ensures.items
    ∙ points_more c.args.all.now c.args.places.now c.requires.places c.loop-k.points.items c.loop-k.k-index zero_point (get_or c.args.all.now (get_or c.args.places.now c.loop-k.k-index 0) zero_point) c.loop-k-test.true refl c.loop-k.invariant
