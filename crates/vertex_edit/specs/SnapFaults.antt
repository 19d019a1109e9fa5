-- Why vertices can't be rounded.
use Rattle.std.specs.Prelude.{◌<◌, List, ℤ}
use Rattle.algebra.specs.Space.{Vector, HalfSpace}
use Rattle.hull_laws.specs.Facets.{Spans}
use Rattle.hull_laws.specs.Moved.{Carried, moved_points}
use Rattle.hull_merge.specs.Hulls.{HasFacets}
use Rattle.vertex_edit.specs.Places.{AreRounded}
use Rattle.vertex_edit.specs.declared.snap_fault.SnapFault.{SnapFault}
use Rattle.vertex_edit.specs.declared.snap_fault.SnapFault.TheVariants.{NoVolume, TooManyFaces, Memory}

-- Why the points to which vertices are rounded have no hull.
abbrev pub IsNoEditFor : List Vector → SnapFault → Type 0
IsNoEditFor ps NoVolume = ¬ (Spans ps)
IsNoEditFor ps (TooManyFaces n) = Spans ps × HasFacets ps n × (128 < n)
IsNoEditFor ps Memory = Unit {0}

-- The rounded vertices have the property.
pub record HaveRounded (F : List HalfSpace) (grid : ℤ) (P : List Carried → Type 0) : Type 0 where
  pub vs : List Carried
  pub rounded : AreRounded F grid vs
  pub cause : P vs

-- Why vertices can't be rounded. Want of memory has no cause in them.
abbrev pub IsNoSnapFor : List HalfSpace → ℤ → SnapFault → Type 0
IsNoSnapFor F grid Memory = Unit {0}
IsNoSnapFor F grid fault = HaveRounded F grid (λ vs. IsNoEditFor (moved_points vs) fault)
