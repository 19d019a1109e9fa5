-- Planes that are moved stay planes, but for the range of their points.
use Rattle.std.proofs.Common.{◌≡◌, ◌≢◌, ℕ, Bool, true, false, cond, Option, Some, None, Ok, Err, refl, sym, ap, ◌∙◌, pos}
use Rattle.std.specs.Option.{option_map_or}
use Rattle.algebra.specs.Space.{Vector}
use Rattle.exact_geom.specs.declared.plane.PlaneFault.TheVariants.{PointRange, Flat}
use Rattle.exact_geom.specs.Planes.{ThreePoints, half_space, is_zero, is_flat, plane_of, first_out_of_range, IsPlane}
use Rattle.exact_geom.proofs.PlaneLaws.{zero_vector, is_zero_of, good_points}
use Rattle.algebra.proofs.Identities.{vector_by}
use Rattle.orient48.specs.Kept.{place_of_fault, within_reach}
use Rattle.orient48.specs.Laws.{IsTurn}
use Rattle.orient48.specs.Motions.{Matrix, Motion, turned, transposed, vector_at, moved_plane}
use Rattle.orient48.proofs.Following.{turned_none}
use Rattle.orient48.proofs.Matrices.{back_turned}
use Rattle.orient48.proofs.Planes.{half_moved}

-- a vector that is turned to zero is zero
zero_back : (m : Matrix) (v : Vector) → IsTurn m → is_zero (turned m v) ≡ true → is_zero v ≡ true
zero_back m v t h =
    let k = zero_vector (turned m v) h in
    let z : turned m v ≡ vector_at (pos 0) (pos 0) (pos 0) = vector_by k.0 k.1 k.2 in
    let e : v ≡ vector_at (pos 0) (pos 0) (pos 0) = sym (back_turned m v t) ∙ ap (turned (transposed m)) z ∙ turned_none (transposed m) in
    is_zero_of v (ap (λ u. u.x) e) (ap (λ u. u.y) e) (ap (λ u. u.z) e)

not_true : (a b : Bool) → (a ≡ true → b ≡ true) → b ≡ false → a ≡ false
not_true false b f e = refl
not_true true b f e = sym (f refl) ∙ e

pub not_flat_moved : (m : Motion) (t : ThreePoints) → IsTurn m.matrix → is_flat t ≡ false → is_flat (moved_plane m t) ≡ false
not_flat_moved m t turn e =
    ap (λ f. is_zero f.normal) (half_moved m t turn)
    ∙ not_true (is_zero (turned m.matrix (half_space t).normal)) (is_zero (half_space t).normal) (zero_back m.matrix (half_space t).normal turn) e

-- ---- the answer of `Plane::of` for points that are not on a line
pub no_flat : (t : ThreePoints) → is_flat t ≡ false → plane_of t ≢ Err Flat
no_flat t e = by (first_out_of_range t) (is_flat t) e
  where
    by : (o : Option ℕ) (flat : Bool) → flat ≡ false → option_map_or (λ k. Err (PointRange k)) o (cond flat (Err Flat) (Ok t)) ≢ Err Flat
    by (Some k) flat e h = cc
    by None false e h = cc
    by None true e h = cc

pub place_is : (t : ThreePoints) → is_flat t ≡ false → place_of_fault (plane_of t) ≡ within_reach t
place_is t e = by (first_out_of_range t) (is_flat t) e
  where
    by : (o : Option ℕ) (flat : Bool) → flat ≡ false → place_of_fault (option_map_or (λ k. Err (PointRange k)) o (cond flat (Err Flat) (Ok t))) ≡ option_map_or Err o (Ok t)
    by (Some k) flat e = refl
    by None false e = refl
    by None true e = cc

pub not_flat : (t : ThreePoints) → IsPlane t → is_flat t ≡ false
not_flat t p = (good_points t p).apart
