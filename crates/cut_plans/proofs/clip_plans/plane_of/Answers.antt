use Rattle.std.proofs.Common.{sym, ◌∙◌}
use Rattle.exact_geom.specs.Planes.{plane_of}
use Rattle.cut_plans.proofs.ClipRows.{no_plane}
use Rattle.cut_plans.proofs.clip_plans.plane_of.Goals as goal

pub returns-in-Err : goal.returns-in-Err
returns-in-Err c =
    no_plane c.args.points c.in-Err.field-0 c.requires.good
    (sym c.in-Err.is ∙ c.of.ensures ∙ (λ i. plane_of (record { p0 = c.point.ensures i; p1 = c.point-2.ensures i; p2 = c.point-3.ensures i })))
