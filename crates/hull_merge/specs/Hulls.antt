-- Hulls of points that are given, and why there is none.
use Rattle.std.specs.Prelude.{Bool, ◌&&◌, nat_le, unsigned_abs, ◌+◌, pos, ◌≡◌, ◌↔◌, ◌<ℤ◌, ℕ, ◌<◌, ◌≤◌, List, [], ◌∷◌, length, get_or, map}
use Rattle.algebra.specs.Members.{◌∈◌}
use Rattle.algebra.specs.Space.{Vector, Homogeneous, whole_point}
use Rattle.exact_geom.specs.declared.point.Point.{Point}
use Rattle.exact_geom.specs.Planes.{vector, ThreePoints}
use Rattle.trim_laws.specs.Solid.{IsIn}
use Rattle.algebra.specs.World.{InCube, world}
use Rattle.solid_brush.specs.declared.side.Side.{Side}
use Rattle.solid_brush.specs.Sides.{half_spaces, IsSolid}
use Rattle.hull_laws.specs.Facets.{Spans, Triple, plane_of, Facets, Held, firsts}
use Rattle.hull_laws.specs.Moved.{same_point}
use Rattle.hull_merge.specs.declared.fault.HullFault.{HullFault}
use Rattle.hull_merge.specs.declared.fault.HullFault.TheVariants.{TooManyPoints, NoVolume, TooManyFaces, OutOfWorld, Memory}

-- The points, later equal ones dropped.
abbrev pub distinct : List Point → List Vector
distinct points = firsts same_point (map vector points)

abbrev pub zero_point : Point
zero_point = record { x = pos 0; y = pos 0; z = pos 0 }

-- The point at a place.
abbrev pub spot_of : List Point → ℕ → Vector
spot_of points i = vector (get_or points i zero_point)

-- The places at which the distinct points first stand.
pub record AreFirstPlaces (points : List Point) (places : List ℕ) : Type 0 where
  pub count : length places ≡ length (distinct points)
  pub each : (k : ℕ) (d : Point) (e : Vector) → k < length places → vector (get_or points (get_or places k 0) d) ≡ get_or (distinct points) k e
  pub rising : (j k : ℕ) → j < k → k < length places → get_or places j 0 < get_or places k 0
  pub within : (k : ℕ) → k < length places → get_or places k 0 < length points
  pub first : (k j : ℕ) → k < length places → j < get_or places k 0 → ¬ (spot_of points j ≡ spot_of points (get_or places k 0))

-- Three numbers below n.
pub record IsWithin (n : ℕ) (t : Triple) : Type 0 where
  pub a : t.a < n
  pub b : t.b < n
  pub c : t.c < n

-- A triple of distinct points, by their places among all points.
abbrev pub names : List ℕ → Triple → List ℕ
names places t = get_or places t.a 0 ∷ get_or places t.b 0 ∷ get_or places t.c 0 ∷ []

-- The points at three places.
abbrev pub three : List Point → ℕ → ℕ → ℕ → ThreePoints
three points a b c = record { p0 = get_or points a zero_point; p1 = get_or points b zero_point; p2 = get_or points c zero_point }

-- The side of a triple of distinct points.
abbrev pub side_of : List Point → List ℕ → ℕ → Triple → Side
side_of points places tag t = record { plane = three points (get_or places t.a 0) (get_or places t.b 0) (get_or places t.c 0); tag = tag }

-- The sides of triples, with tags from a number on.
abbrev pub sides_from : List Point → List ℕ → ℕ → List Triple → List Side
sides_from points places n [] = []
sides_from points places n (t ∷ ts) = side_of points places n t ∷ sides_from points places (n + 1) ts

-- The facets of the distinct points, named by places of the given list, and the solid behind them: a side for each facet, with
-- the points of the facet, its tag the facet's place.
pub record IsHull (points : List Point) (facets : List (List ℕ)) (solid : List Side) : Type 0 where
  pub spans : Spans (distinct points)
  pub triples : List Triple
  pub are_facets : Facets (distinct points) triples
  pub places : List ℕ
  pub are_places : AreFirstPlaces points places
  pub named : facets ≡ map (names places) triples
  pub sides : solid ≡ sides_from points places 0 triples
  pub planes : half_spaces solid ≡ map (plane_of (distinct points)) triples
  pub valid : IsSolid solid

-- The solid has exactly the points that lie in each half-space with all of the given points.
abbrev pub HasTheHeld : List Point → List Side → Type 0
HasTheHeld points solid = (X : Homogeneous) → pos 0 <ℤ X.weight → IsIn (half_spaces solid) X ↔ Held (map vector points) X

-- The facets are n.
pub record HasFacets (ps : List Vector) (n : ℕ) : Type 0 where
  pub triples : List Triple
  pub are_facets : Facets ps triples
  pub count : length triples ≡ n

-- Some point lies outside the world.
pub record Outside (ps : List Vector) : Type 0 where
  pub point : Vector
  pub among : point ∈ ps
  pub outside : ¬ (InCube world (whole_point point))

abbrev pub is_in_world : Vector → Bool
is_in_world p = nat_le (unsigned_abs p.x) 4096 && nat_le (unsigned_abs p.y) 4096 && nat_le (unsigned_abs p.z) 4096

-- Why distinct points have no hull, where their number is not counted. Want of memory has no cause in them.
abbrev pub IsNoHullFor : List Vector → HullFault → Type 0
IsNoHullFor ps (TooManyPoints n) = ⊥
IsNoHullFor ps NoVolume = ¬ (Spans ps)
IsNoHullFor ps (TooManyFaces n) = Spans ps × HasFacets ps n × (128 < n)
IsNoHullFor ps OutOfWorld = Spans ps × Outside ps × ((n : ℕ) → HasFacets ps n → n ≤ 128)
IsNoHullFor ps Memory = Unit {0}

-- Why distinct points have no hull: their number is tried first.
abbrev pub IsRefusedHull : List Vector → HullFault → Type 0
IsRefusedHull ps (TooManyPoints n) = (length ps ≡ n) × (512 < n)
IsRefusedHull ps NoVolume = (length ps ≤ 512) × IsNoHullFor ps NoVolume
IsRefusedHull ps (TooManyFaces n) = (length ps ≤ 512) × IsNoHullFor ps (TooManyFaces n)
IsRefusedHull ps OutOfWorld = (length ps ≤ 512) × IsNoHullFor ps OutOfWorld
IsRefusedHull ps Memory = Unit {0}
