use Rattle.std.proofs.Common.{refl}
use Rattle.hull_plans.proofs.HullRows.{many_points, flat, many_faces, outside, solid_is, passes}
use Rattle.hull_plans.proofs.solids.hull_at.Goals as goal

pub returns-in-Ok : goal.returns-in-Ok
returns-in-Ok c =
    let e = c.in-Ok.ensures in (
      solid_is c.args.node c.args.points.now c.requires.range c.in-Ok.found.facets c.in-Ok.found.solid e.hull e.law (e.few refl),
      passes c.args.node c.args.points.now c.requires.range c.in-Ok.found.facets c.in-Ok.found.solid e.hull e.law (e.few refl),
    )

pub returns-in-Err-TooManyPoints : goal.returns-in-Err-TooManyPoints
returns-in-Err-TooManyPoints c =
    let f = rw c.in-Err-TooManyPoints.field-0-is at c.in-Err-TooManyPoints.ensures.fault in
    many_points c.args.node c.args.points.now c.requires.range c.in-Err-TooManyPoints.count f.0 f.1

pub returns-in-Err-NoVolume : goal.returns-in-Err-NoVolume
returns-in-Err-NoVolume c =
    let f = rw c.in-Err-NoVolume.field-0-is at c.in-Err-NoVolume.ensures.fault in flat c.args.node c.args.points.now c.requires.range f.0 f.1

pub returns-in-Err-TooManyFaces : goal.returns-in-Err-TooManyFaces
returns-in-Err-TooManyFaces c =
    let f = rw c.in-Err-TooManyFaces.field-0-is at c.in-Err-TooManyFaces.ensures.fault in
    many_faces c.args.node c.args.points.now c.requires.range c.in-Err-TooManyFaces.count f.0 f.1.0 f.1.1 f.1.2

pub returns-in-Err-OutOfWorld : goal.returns-in-Err-OutOfWorld
returns-in-Err-OutOfWorld c =
    let f = rw c.in-Err-OutOfWorld.field-0-is at c.in-Err-OutOfWorld.ensures.fault in
    outside c.args.node c.args.points.now c.requires.range f.0 f.1.0 f.1.1 f.1.2
