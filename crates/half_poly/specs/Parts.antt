-- What a plane leaves of a shape.
use Rattle.std.specs.Prelude.{List}
use Rattle.half_poly.specs.declared.poly.Part.{Part}
use Rattle.half_poly.specs.declared.poly.Part.TheVariants.{Missed, Halved, Gone}
use Rattle.half_poly.specs.Shapes.{Tagged, bounds, solid_of, NoneInFront, NoneBehind, SomeInFront, IsHalved}
use Rattle.vertex_laws.specs.Vertex.{VertexBehind}

abbrev pub SaysPart : List Tagged → Tagged → Part → Type 0
SaysPart sides side Missed = NoneInFront (solid_of sides) (bounds side)
SaysPart sides side Gone = SomeInFront (solid_of sides) (bounds side) × NoneBehind (solid_of sides) (bounds side)
SaysPart sides side (Halved after) = SomeInFront (solid_of sides) (bounds side) × VertexBehind (solid_of sides) (bounds side) × IsHalved sides side after
