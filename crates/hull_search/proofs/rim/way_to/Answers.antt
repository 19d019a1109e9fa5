use Rattle.std.proofs.Common.{ap, ◌∙◌}
use Rattle.hull_laws.specs.Pivots.{border}
use Rattle.hull_search.specs.Slopes.{face, spot, spots}
use Rattle.hull_search.specs.Places.{point}
use Rattle.hull_search.proofs.rim.way_to.Goals as goal

pub returns-clause-border : goal.returns-clause-border
returns-clause-border c = let f = face c.args.f.now in
    c.border-border.ensures ∙ ap (λ p. border f p (spot c.spot_at-q.result)) c.spot_at-p.ensures ∙ ap (λ q. border f (point (spots c.args.points.now) c.args.a) q) c.spot_at-q.ensures
