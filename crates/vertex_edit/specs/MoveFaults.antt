-- Why vertices can't be moved.
use Rattle.std.specs.Prelude.{◌≡◌, ℕ, ◌+◌, ◌<◌, ◌≤◌, List, length, get_or, ℤ}
use Rattle.algebra.specs.Members.{◌∈◌, Every}
use Rattle.algebra.specs.Space.{Vector, Homogeneous, HalfSpace}
use Rattle.exact_geom.specs.declared.point.Point.{Point}
use Rattle.solid_laws.specs.Names.{AreVertices}
use Rattle.hull_laws.specs.Facets.{Spans}
use Rattle.hull_laws.specs.Moved.{Carried, moved_points}
use Rattle.hull_merge.specs.Hulls.{HasFacets, Outside, zero_point}
use Rattle.hull_merge.specs.Gathered.{whole_of, HasWeight}
use Rattle.vertex_edit.specs.Places.{AreShifted, GoesInRange}
use Rattle.vertex_edit.specs.declared.fault.MoveFault.{MoveFault}
use Rattle.vertex_edit.specs.declared.fault.MoveFault.TheVariants.{NoVertex, Fractional, PointRange, NoVolume, TooManyFaces, OutOfWorld, Memory}

-- The first pick without the property stands at this place.
pub record IsFirstAt (P : Point → Type 0) (picks : List Point) (place : ℕ) : Type 0 where
  pub within : place < length picks
  pub here : ¬ (P (get_or picks place zero_point))
  pub before : (j : ℕ) → j < place → P (get_or picks j zero_point)

-- The first pick without the property has number k, from 1.
pub record IsFirstNumber (P : Point → Type 0) (picks : List Point) (k : ℕ) : Type 0 where
  pub place : ℕ
  pub number : k ≡ place + 1
  pub first : IsFirstAt P picks place

-- The vertices of F have the property.
pub record HaveVertices (F : List HalfSpace) (P : List Homogeneous → Type 0) : Type 0 where
  pub V : List Homogeneous
  pub vertices : AreVertices F V
  pub cause : P V

-- The moved vertices have the property.
pub record HaveShifted (F : List HalfSpace) (picks : List Point) (shift : List ℤ) (P : List Carried → Type 0) : Type 0 where
  pub vs : List Carried
  pub shifted : AreShifted F picks shift vs
  pub cause : P vs

-- Why the points to which vertices are moved have no hull.
abbrev pub IsNoEditFor : List Vector → MoveFault → Type 0
IsNoEditFor ps NoVolume = ¬ (Spans ps)
IsNoEditFor ps (TooManyFaces n) = Spans ps × HasFacets ps n × (128 < n)
IsNoEditFor ps OutOfWorld = Spans ps × Outside ps × ((n : ℕ) → HasFacets ps n → n ≤ 128)
IsNoEditFor ps Memory = Unit {0}
IsNoEditFor ps fault = ⊥

-- Why vertices can't be moved. Want of memory has no cause in them.
abbrev pub IsNoMoveFor : List HalfSpace → List Point → List ℤ → MoveFault → Type 0
IsNoMoveFor F picks shift (NoVertex k) = HaveVertices F (λ V. IsFirstNumber (λ q. whole_of q ∈ V) picks k)
IsNoMoveFor F picks shift Fractional = HaveVertices F (λ V. Every (λ q. whole_of q ∈ V) picks × HasWeight V)
IsNoMoveFor F picks shift (PointRange k) =
    HaveVertices F (λ V. Every (λ q. whole_of q ∈ V) picks × ¬ (HasWeight V) × IsFirstNumber (GoesInRange shift) picks k)
IsNoMoveFor F picks shift Memory = Unit {0}
IsNoMoveFor F picks shift NoVolume = HaveShifted F picks shift (λ vs. IsNoEditFor (moved_points vs) NoVolume)
IsNoMoveFor F picks shift (TooManyFaces n) = HaveShifted F picks shift (λ vs. IsNoEditFor (moved_points vs) (TooManyFaces n))
IsNoMoveFor F picks shift OutOfWorld = HaveShifted F picks shift (λ vs. IsNoEditFor (moved_points vs) OutOfWorld)
