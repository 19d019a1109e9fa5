-- Points at places.
use Rattle.std.specs.Prelude.{List, get_or, pos}
use Rattle.exact_geom.specs.declared.point.Point.{Point}
use Rattle.exact_geom.specs.Planes.{ThreePoints}
use Rattle.hull_laws.specs.Facets.{Triple}

-- The point that stands for the one at a place past the end.
abbrev pub nowhere : Point
nowhere = record { x = pos 0; y = pos 0; z = pos 0 }

-- The points at the places of a triple.
abbrev pub points_at : List Point → Triple → ThreePoints
points_at ps t = record { p0 = get_or ps t.a nowhere; p1 = get_or ps t.b nowhere; p2 = get_or ps t.c nowhere }
