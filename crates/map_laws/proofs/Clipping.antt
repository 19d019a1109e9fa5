-- clip: a brush is cut by a plane, and a part of it stays, or both do.
use Rattle.std.proofs.Common.{◌≡◌, ℕ, zero, suc, List, [], ◌∷◌, ◌++◌, true, false, ◌&&◌, not, refl, sym, subst, None, ℤ, arith, ◌≤◌}
use Rattle.std.specs.Prelude.{slice_index_or, unsigned_abs, length}
use Rattle.std.specs.List.{AllByRecursion}
use Rattle.std.proofs.lemmas.Bool.{and_parts, le-leb}
use Rattle.algebra.specs.Members.{◌∈◌, here, there}
use Rattle.exact_geom.specs.declared.point.Point.{Point}
use Rattle.exact_geom.specs.Planes.{ThreePoints, IsPlane, is_in_range, is_flat}
use Rattle.exact_geom.proofs.PlaneLaws.{is_plane, is_plane-reverse}
use Rattle.uv_lock.specs.declared.texture.Format.{Format}
use Rattle.cmd_text.specs.Kept.{IsPoint}
use Rattle.map_model.specs.Faces.{Face}
use Rattle.map_model.specs.Tree.{Whole, brush, faces_at, format_of}
use Rattle.map_model.specs.Edits.{put_after}
use Rattle.map_model.specs.Shape.{Shape, FaceOk, FacesOk}
use Rattle.map_model.specs.Below.{Below, IsRight}
use Rattle.map_model.specs.Brushes.{trimmed, has_inside, reversed_plane}
use Rattle.map_model.specs.Commands.{Part, Front, Back, Both, plane_in, point_in, IsGood, Settings, Clip}
use Rattle.map_model.specs.Replies.{FlatPlane, PlaneMisses}
use Rattle.map_model.specs.Rows.{rows, first, refuse, at_each, too_many, back_part, front_part, clip_results, clipped_back, clipped_front}
use Rattle.map_model.specs.Own.{own, clip}
use Rattle.map_laws.specs.Unlinked.{Unlinked}
use Rattle.map_laws.specs.BoxCommand.{KeepsMaterial}
use Rattle.map_laws.proofs.Lists.{tally-no_member}
use Rattle.map_laws.proofs.InTurn.{by_member}
use Rattle.map_laws.proofs.Refused.{refuse_none, each_none, nodes_fit}
use Rattle.map_laws.proofs.RowsPass.{rows_pass}
use Rattle.map_laws.proofs.Holding.{parent_said}
use Rattle.map_laws.proofs.Boxes.{IsNear}
use Rattle.map_laws.proofs.BoxCommand.{near}
use Rattle.map_laws.proofs.PlainFaces.{plain_in, plain_ok}
use Rattle.map_laws.proofs.TrimmedFaces.{brush_encloses, encloses_more, trimmed_ok}
use Rattle.map_laws.proofs.FairMaps.{Fair, fair_of}
use Rattle.map_laws.proofs.Remaking.{Step, step_then, Ready, in_turn, remade_outcome}
use Rattle.map_laws.proofs.RemakingSteps.{faces_step, after_step}
use Rattle.map_laws.proofs.Tests.{not_false}
use Rattle.map_laws.proofs.BrushRows.{named_brushes, brush_faces, each_few}
use Rattle.map_laws.proofs.Unlinking.{Outcome}

-- The plane of three points in range that aren't on a line.
pub in_range : (p : Point) → IsNear p → is_in_range p ≡ true
in_range p h = (λ i. le-leb (unsigned_abs p.x) 4352 h.x i && le-leb (unsigned_abs p.y) 4352 h.y i && le-leb (unsigned_abs p.z) 4352 h.z i)

nth_point : (k : ℕ) (points : List (List ℤ)) → AllByRecursion IsPoint points → IsPoint (slice_index_or points k [])
nth_point k [] h = empty k
  where
    empty : (k : ℕ) → IsPoint (slice_index_or [] k [])
    empty zero = tt
    empty (suc k) = tt
nth_point zero (p ∷ points) h = h.0
nth_point (suc k) (p ∷ points) h = nth_point k points h.1

pub plane_of_points : (points : List (List ℤ)) → AllByRecursion IsPoint points → is_flat (plane_in points) ≡ false → IsPlane (plane_in points)
plane_of_points points h flat = is_plane (plane_in points) (record {
  first = in_range (point_in (slice_index_or points 0 [])) (near (slice_index_or points 0 []) (nth_point 0 points h));
  second = in_range (point_in (slice_index_or points 1 [])) (near (slice_index_or points 1 []) (nth_point 1 points h));
  third = in_range (point_in (slice_index_or points 2 [])) (near (slice_index_or points 2 []) (nth_point 2 points h));
  apart = flat;
})

-- The part of a brush behind a plane.
abbrev cut : Below → Settings → Format → ThreePoints → List Face → List Face
cut b s f plane fs = trimmed b (fs ++ plain_in s f plane ∷ [])

-- The parts that stay are brushes.
abbrev PartsOk : Below → Settings → Format → ThreePoints → Part → List Face → Type 0
PartsOk b s f plane Back fs = FacesOk f (cut b s f plane fs)
PartsOk b s f plane Front fs = FacesOk f (cut b s f (reversed_plane plane) fs)
PartsOk b s f plane Both fs = FacesOk f (cut b s f plane fs) × FacesOk f (cut b s f (reversed_plane plane) fs)

clip_step : (b : Below) (s : Settings) (f : Format) (plane : ThreePoints) (part : Part) (k : Whole) (n : ℕ) → Fair f k → Ready (PartsOk b s f plane part) k n → Step f n k (clip b s part plane n k)
clip_step b s f plane Back k n fair r =
    faces_step f n k (clipped_back b s k plane n) fair (subst (λ g. FacesOk f (cut b s g plane (faces_at k n))) (sym fair.format) r.faces)
clip_step b s f plane Front k n fair r =
    faces_step f n k (clipped_front b s k plane n) fair (subst (λ g. FacesOk f (cut b s g (reversed_plane plane) (faces_at k n))) (sym fair.format) r.faces)
clip_step b s f plane Both k n fair r =
    let p = parent_said k n brush r.is refl in
    let beside = after_step f n k p.0 (clipped_front b s k plane n) fair p.1 r.is (subst (λ g. FacesOk f (cut b s g (reversed_plane plane) (faces_at k n))) (sym fair.format) r.faces.1) in
    step_then beside (faces_step f n (put_after n (clipped_front b s k plane n) k) (clipped_back b s k plane n) beside.fair
    (subst (λ g. FacesOk f (cut b s g plane (faces_at k n))) (sym fair.format) r.faces.0))

-- A part with a point inside is a brush.
part_ok : (b : Below) (s : Settings) (f : Format) (plane : ThreePoints) (fs : List Face) → IsRight b → KeepsMaterial s → IsPlane plane → FacesOk f fs → has_inside b (fs ++ plain_in s f plane ∷ []) ≡ true → length (cut b s f plane fs) ≤ 128 →
    FacesOk f (cut b s f plane fs)
part_ok b s f plane fs right material is ok some few = trimmed_ok b f (fs ++ plain_in s f plane ∷ []) right (encloses_more f fs (plain_in s f plane ∷ []) (brush_encloses f fs ok) one) some few
  where
    one : (g : Face) → g ∈ (plain_in s f plane ∷ []) → FaceOk f g
    one g here = plain_ok s f plane material is
    one g (there i) = elim i [ ]

pub clips : (b : Below) (s : Settings) (m : Whole) (part : Part) (points : List (List ℤ)) (ns : List ℕ) → IsRight b → KeepsMaterial s → IsGood (Clip part points ns) → Shape m → Unlinked m →
    first (rows b s m (Clip part points ns)) ≡ None → Outcome m (Clip part points ns) (own b s m (Clip part points ns))
clips b s m part points ns right material good shape u e =
    let c = Clip part points ns in
    let f = format_of m in
    let plane = plane_in points in
    let r = rows_pass b s m c e in
    let fit = nodes_fit b s m c e in
    let brushes = named_brushes b s m c (λ n. refl) e in
    let is = plane_of_points points good.ranges.0 (refuse_none (is_flat plane) FlatPlane r.plane) in
    let both_inside = λ (n : ℕ) (i : n ∈ ns).
    and_parts (has_inside b (back_part s m plane n)) (has_inside b (front_part s m plane n))
    (not_false (has_inside b (back_part s m plane n) && has_inside b (front_part s m plane n))
    (refuse_none (not (has_inside b (back_part s m plane n) && has_inside b (front_part s m plane n))) (PlaneMisses n)
    (each_none ns (λ n. refuse (not (has_inside b (back_part s m plane n) && has_inside b (front_part s m plane n))) (PlaneMisses n)) r.sides n i))) in
    let few_at = λ (n : ℕ) (i : n ∈ ns). each_few n (clip_results b s m part plane n) (each_none ns (λ n. at_each (clip_results b s m part plane n) (too_many n)) r.few_faces n i) in
    let back_ok = λ (n : ℕ) (i : n ∈ ns) (few : length (clipped_back b s m plane n) ≤ 128). part_ok b s f plane (faces_at m n) right material is (brush_faces m n shape (brushes n i)) (both_inside n i).0 few in
    let front_ok = λ (n : ℕ) (i : n ∈ ns) (few : length (clipped_front b s m plane n) ≤ 128).
    part_ok b s f (reversed_plane plane) (faces_at m n) right material (is_plane-reverse plane is) (brush_faces m n shape (brushes n i)) (both_inside n i).1 few in
    remade_outcome m c (own b s m c) shape u
    (in_turn f (clip b s part plane) (PartsOk b s f plane part) (λ n. Unit {0}) (λ k n fair r so. clip_step b s f plane part k n fair r) ns m (fair_of m shape u)
    (λ n i. record { is = brushes n i; faces = parts part n i (few_at n i) (back_ok n i) (front_ok n i) })
    (λ n i. tt)
    (λ x. by_member x ns (λ i. fit.once x i) (λ none. omega (arith, tally-no_member x ns none))))
    brushes
  where
    parts : (part : Part) (n : ℕ) → n ∈ ns → ((fs : List Face) → fs ∈ clip_results b s m part (plane_in points) n → length fs ≤ 128) →
        (length (clipped_back b s m (plane_in points) n) ≤ 128 → FacesOk (format_of m) (clipped_back b s m (plane_in points) n)) →
        (length (clipped_front b s m (plane_in points) n) ≤ 128 → FacesOk (format_of m) (clipped_front b s m (plane_in points) n)) →
        PartsOk b s (format_of m) (plane_in points) part (faces_at m n)
    parts Back n i few back front = back (few (clipped_back b s m (plane_in points) n) here)
    parts Front n i few back front = front (few (clipped_front b s m (plane_in points) n) here)
    parts Both n i few back front = (back (few (clipped_back b s m (plane_in points) n) here), front (few (clipped_front b s m (plane_in points) n) (there here)))
