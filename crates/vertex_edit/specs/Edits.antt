-- The brush of moved vertices.
use Rattle.std.specs.Prelude.{◌≡◌, ℕ, ◌<◌, List, [], ◌∷◌, length, get_or, map}
use Rattle.algebra.specs.Space.{Vector, HalfSpace}
use Rattle.exact_geom.specs.Planes.{vector}
use Rattle.solid_brush.specs.declared.side.Side.{Side}
use Rattle.solid_brush.specs.Sides.{bounds, half_spaces, IsSolid}
use Rattle.hull_laws.specs.Facets.{Spans, Triple, origin, plane_of, Facets}
use Rattle.hull_laws.specs.Moved.{Carried, moved_points, OldFace}
use Rattle.vertex_edit.specs.declared.shape.FromFace.{FromFace}

-- The points at three places.
abbrev pub corners_of : List Vector → Triple → List Vector
corners_of ps t = get_or ps t.a origin ∷ get_or ps t.b origin ∷ get_or ps t.c origin ∷ []

-- The facet of a side, with the old face from which it comes.
pub record IsOldOf (F : List HalfSpace) (vs : List Carried) (side : Side) (facet : FromFace) : Type 0 where
  pub points : facet.points ≡ side.plane.p0 ∷ side.plane.p1 ∷ side.plane.p2 ∷ []
  pub old : OldFace F vs (bounds side) facet.old

-- The facets of the sides, with the old faces from which they come.
pub record AreFrom (F : List HalfSpace) (vs : List Carried) (sides : List Side) (facets : List FromFace) : Type 0 where
  pub count : length facets ≡ length sides
  pub each : (k : ℕ) (side : Side) (facet : FromFace) → k < length sides → IsOldOf F vs (get_or sides k side) (get_or facets k facet)

-- A facet with its first corners and its old face, and its side.
pub record IsFrom (F : List HalfSpace) (vs : List Carried) (k : ℕ) (t : Triple) (facet : FromFace) (side : Side) : Type 0 where
  pub corners : map vector facet.points ≡ corners_of (moved_points vs) t
  pub old : OldFace F vs (plane_of (moved_points vs) t) facet.old
  pub points : facet.points ≡ side.plane.p0 ∷ side.plane.p1 ∷ side.plane.p2 ∷ []
  pub tag : side.tag ≡ k

-- The facets of the moved vertices of F, each with the face of F from which it comes, and the solid behind them: a side for each
-- facet, its tag the facet's place.
pub record IsEdit (F : List HalfSpace) (vs : List Carried) (facets : List FromFace) (solid : List Side) : Type 0 where
  pub spans : Spans (moved_points vs)
  pub triples : List Triple
  pub are_facets : Facets (moved_points vs) triples
  pub facet_count : length facets ≡ length triples
  pub side_count : length solid ≡ length triples
  pub each : (k : ℕ) (t : Triple) (facet : FromFace) (side : Side) → k < length triples →
      IsFrom F vs k (get_or triples k t) (get_or facets k facet) (get_or solid k side)
  pub planes : half_spaces solid ≡ map (plane_of (moved_points vs)) triples
  pub valid : IsSolid solid
