-- The law of the facets of points.
use Rattle.std.specs.Prelude.{◌≡◌, List, map, IsTrue}
use Rattle.algebra.specs.Members.{◌∈◌}
use Rattle.exact_geom.specs.declared.point.Point.{Point}
use Rattle.exact_geom.specs.Planes.{vector, is_in_range}
use Rattle.hull_laws.specs.Facets.{Triple, Facets}
use Rattle.map_model.specs.Brushes.{facets}
use Rattle.facet_laws.specs.Places.{points_at}

-- Triples of places that are the facets of points in range tell the facets of a map's definitions.
abbrev pub FacetsLaw : Type 0
FacetsLaw = (ps : List Point) → ((p : Point) → p ∈ ps → IsTrue (is_in_range p)) → (ts : List Triple) → Facets (map vector ps) ts → map (points_at ps) ts ≡ facets ps
