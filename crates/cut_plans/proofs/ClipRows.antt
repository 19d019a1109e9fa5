-- The rows of `clip`, and what is known where they pass.
use Rattle.std.proofs.Common.{◌≡◌, ℕ, zero, suc, ◌≤◌, arith, pos, List, [], ◌∷◌, ◌++◌, length, map, Bool, true, false, not, cond, ◌&&◌, ◌==◌, IsTrue, Option, None, Some, Result, Ok, Err, refl, ap, sym, subst, ◌∙◌, ℤ}
use Rattle.std.specs.Prelude.{is_none, nat_lt, nat_le, count_by, IsErrAnd, slice_index_or, unsigned_abs, if◌then◌else◌}
use Rattle.std.specs.Option.{option_map_or}
use Rattle.std.specs.List.{AllByRecursion}
use Rattle.std.proofs.lemmas.Bool.Decides.{nat_tests}
use Rattle.std.proofs.lemmas.Bool.{and_parts}
use Rattle.algebra.specs.Members.{◌∈◌}
use Rattle.exact_geom.specs.Planes.{ThreePoints, is_flat, is_in_range, first_out_of_range, plane_of}
use Rattle.exact_geom.specs.declared.plane.PlaneFault.{PlaneFault}
use Rattle.exact_geom.specs.declared.plane.PlaneFault.TheVariants.{PointRange, Flat}
use Rattle.cmd_text.specs.Kept.{IsPoint, IsCoordinate}
use Rattle.algebra.specs.World.{point_limit}
use Rattle.map_model.specs.Tree.{Whole, at, is_brush, faces_at}
use Rattle.map_model.specs.Below.{Below, IsRight}
use Rattle.map_model.specs.Brushes.{has_inside}
use Rattle.map_model.specs.Commands.{Settings, Part, Front, Back, Both, Clip, plane_in, point_in}
use Rattle.map_model.specs.Replies.{Refusal, NoNode, Repeated, WrongKind, LockedLayer, FlatPlane, PlaneMisses}
use Rattle.map_model.specs.Rows.{first, refuse, at_each, is_in_frozen, flat_plane, plane_misses, too_many_faces, clip_results, too_many}
use Rattle.map_laws.specs.Reshaping.{reshaping_rows}
use Rattle.map_laws.proofs.Refused.{first_none, refuse_none, each_none}
use Rattle.tree_ops.specs.Passing.{passes}
use Rattle.tree_ops.specs.declared.fault.OpFault.{OpFault}
use Rattle.tree_ops.specs.declared.fault.OpFault.TheVariants.{No, Memory}
use Rattle.tree_ops.proofs.Outcomes.{err_is}
use Rattle.brush_plans.specs.NamedRows.{brush_rows}
use Rattle.brush_plans.specs.Saying.{Says}
use Rattle.brush_plans.proofs.RowLoops.{no_row, that_row}
use Rattle.cut_plans.specs.declared.clipping.Clipped.{Clipped}
use Rattle.cut_plans.specs.declared.clipping.Cut.{Cut}
use Rattle.cut_plans.specs.Clips.{cut_by, misses, misses_any, clipped_by, overfull, overfull_any, AreClipped, clip_refusal, AreCut, IsCut, IsCutting, HaveParts, cut_plane}

-- Rows in front of others. ------------------------------------------------------------------------------------------------------------

pub front_stops : (front rest : List (Option Refusal)) (x : Refusal) → first front ≡ Some x → first (front ++ rest) ≡ Some x
front_stops [] rest x e = absurd (cc)
front_stops (None ∷ front) rest x e = front_stops front rest x e
front_stops (Some y ∷ front) rest x e = e

pub front_passes : (front rest : List (Option Refusal)) → first front ≡ None → first (front ++ rest) ≡ first rest
front_passes [] rest e = refl
front_passes (None ∷ front) rest e = front_passes front rest e
front_passes (Some y ∷ front) rest e = absurd (cc)

pub front_none : (front rest : List (Option Refusal)) → first (front ++ rest) ≡ None → first front ≡ None
front_none [] rest e = refl
front_none (None ∷ front) rest e = front_none front rest e
front_none (Some y ∷ front) rest e = absurd (cc)

-- The brushes that are named. -----------------------------------------------------------------------------------------------------------

not_false : (b : Bool) → not b ≡ false → b ≡ true
not_false true e = refl
not_false false e = absurd (cc)

module _ (m : Whole) (ns : List ℕ) (pass : first (brush_rows m ns) ≡ None) where
  abbrev absent : Option Refusal
  absent = at_each ns (λ n. refuse (is_none (at m n)) (NoNode n))

  abbrev twice : Option Refusal
  twice = at_each ns (λ n. refuse (nat_lt 1 (count_by (λ k. k == n) ns)) (Repeated n))

  abbrev other : Option Refusal
  other = at_each ns (λ n. refuse (not (is_brush m n)) (WrongKind n))

  abbrev frozen : Option Refusal
  frozen = at_each ns (λ n. refuse (is_in_frozen m n) (LockedLayer n))

  after_first : first (twice ∷ other ∷ frozen ∷ []) ≡ None
  after_first = (first_none absent (twice ∷ other ∷ frozen ∷ []) pass).1

  after_second : first (other ∷ frozen ∷ []) ≡ None
  after_second = (first_none twice (other ∷ frozen ∷ []) after_first).1

  pub are_brushes : (n : ℕ) → n ∈ ns → IsTrue (is_brush m n)
  are_brushes n i = not_false (is_brush m n) (refuse_none (not (is_brush m n)) (WrongKind n)
      (each_none ns (λ n. refuse (not (is_brush m n)) (WrongKind n)) (first_none other (frozen ∷ []) after_second).0 n i))

  pub are_once : (n : ℕ) → n ∈ ns → nat_lt 1 (count_by (λ k. k == n) ns) ≡ false
  are_once n i = refuse_none (nat_lt 1 (count_by (λ k. k == n) ns)) (Repeated n)
      (each_none ns (λ n. refuse (nat_lt 1 (count_by (λ k. k == n) ns)) (Repeated n)) (first_none twice (other ∷ frozen ∷ []) after_first).0 n i)

-- The parts of each brush. ----------------------------------------------------------------------------------------------------------------

pub parts_of : (m : Whole) (cut : Cut) (ns : List ℕ) → ((b : Below) → IsRight b → misses_any m cut ns b ≡ None) → (n : ℕ) → n ∈ ns → HaveParts m cut n
parts_of m cut ns pass n i = record { behind = λ b right. (both b right).0; before = λ b right. (both b right).1 }
  where
    both : (b : Below) → IsRight b → (has_inside b (faces_at m n ++ cut.back) ≡ true) × (has_inside b (faces_at m n ++ cut.front) ≡ true)
    both b right = and_parts (has_inside b (faces_at m n ++ cut.back)) (has_inside b (faces_at m n ++ cut.front))
        (not_false (has_inside b (faces_at m n ++ cut.back) && has_inside b (faces_at m n ++ cut.front))
        (refuse_none (not (has_inside b (faces_at m n ++ cut.back) && has_inside b (faces_at m n ++ cut.front))) (PlaneMisses n) (each_none ns (λ n. misses m cut n b) (pass b right) n i)))

pub is_cutting : (s : Settings) (m : Whole) (plane : ThreePoints) (cut : Cut) → cut ≡ cut_by s m plane → IsCutting cut
is_cutting s m plane cut e = subst IsCutting (sym e) (record { one_back = refl; one_front = refl })

-- The plane. ------------------------------------------------------------------------------------------------------------------------------

flat_or_not : (t : Bool) (p : ThreePoints) (x : Refusal) → Err x ≡ cond t (Err FlatPlane) (Ok p) → refuse t FlatPlane ≡ Some x
flat_or_not true p x e = cc
flat_or_not false p x e = absurd (cc)

good_or_not : (t : Bool) (p q : ThreePoints) → Ok q ≡ cond t (Err FlatPlane) (Ok p) → (refuse t FlatPlane ≡ None) × (q ≡ p)
good_or_not true p q e = absurd (cc)
good_or_not false p q e = (refl, cc)

pub flat : (p : ThreePoints) (x : Refusal) → Err x ≡ cut_plane p → refuse (is_flat p) FlatPlane ≡ Some x
flat p x e = flat_or_not (is_flat p) p x e

pub not_flat : (p q : ThreePoints) → Ok q ≡ cut_plane p → (refuse (is_flat p) FlatPlane ≡ None) × (q ≡ p)
not_flat p q e = good_or_not (is_flat p) p q e

coordinate_in : (p : List ℤ) (k : ℕ) → AllByRecursion IsCoordinate p → unsigned_abs (slice_index_or p k (pos 0)) ≤ 4352
coordinate_in [] k h = omega arith
coordinate_in (x ∷ p) zero h = h.0
coordinate_in (x ∷ p) (suc k) h = coordinate_in p k h.1

within_range : (a b c : Bool) → a ≡ true → b ≡ true → c ≡ true → (a && b && c) ≡ true
within_range a b c p q r = λ i. p i && q i && r i

in_range : (p : List ℤ) → IsPoint p → is_in_range (point_in p) ≡ true
in_range p h = within_range (nat_le (unsigned_abs (point_in p).x) point_limit) (nat_le (unsigned_abs (point_in p).y) point_limit) (nat_le (unsigned_abs (point_in p).z) point_limit)
    (within (unsigned_abs (point_in p).x) (coordinate_in p 0 h)) (within (unsigned_abs (point_in p).y) (coordinate_in p 1 h)) (within (unsigned_abs (point_in p).z) (coordinate_in p 2 h))
  where
    within : (n : ℕ) → n ≤ 4352 → nat_le n point_limit ≡ true
    within n le = grind (arith, nat_tests)

points_at : (points : List (List ℤ)) (k : ℕ) → AllByRecursion IsPoint points → IsPoint (slice_index_or points k [])
points_at [] k h = tt
points_at (p ∷ points) zero h = h.0
points_at (p ∷ points) (suc k) h = points_at points k h.1

flat_only : (o : Option ℕ) (f : Bool) (t : ThreePoints) (e : PlaneFault) → o ≡ None → Err e ≡ option_map_or (λ k. Err (PointRange k)) o (if f then Err Flat else Ok t) → f ≡ true
flat_only None true t e none h = refl
flat_only None false t e none h = absurd (cc)
flat_only (Some k) f t e none h = absurd (cc)

abbrev first_out : (a b c : Bool) → Option ℕ
first_out a b c = if a then if b then if c then None else Some 2 else Some 1 else Some 0

all_in : (a b c : Bool) → a ≡ true → b ≡ true → c ≡ true → first_out a b c ≡ None
all_in a b c p q r = (λ i. first_out (p i) (q i) (r i))

-- Points in range that are no plane lie on a line.
pub no_plane : (points : List (List ℤ)) (e : PlaneFault) → AllByRecursion IsPoint points → Err e ≡ plane_of (plane_in points) → Err FlatPlane ≡ cut_plane (plane_in points)
no_plane points e h is =
    let t = plane_in points in
    sym (ap (λ f. cond f (Err FlatPlane) (Ok t)) (flat_only (first_out_of_range t) (is_flat t) t e
    (all_in (is_in_range t.p0) (is_in_range t.p1) (is_in_range t.p2) (in_range (slice_index_or points 0 []) (points_at points 0 h)) (in_range (slice_index_or points 1 []) (points_at points 1 h)) (in_range (slice_index_or points 2 []) (points_at points 2 h))) is))

-- The rows in order. ----------------------------------------------------------------------------------------------------------------------

module _ (s : Settings) (m : Whole) (part : Part) (points : List (List ℤ)) (ns : List ℕ) where
  abbrev pub plane : ThreePoints
  plane = plane_in points

  abbrev pub later : Below → List (Option Refusal)
  later b = flat_plane (Clip part points ns) ∷ plane_misses b s m (Clip part points ns) ∷ too_many_faces b s m (Clip part points ns) ∷ []

  rows_are : (b : Below) → reshaping_rows b s m (Clip part points ns) ≡ brush_rows m ns ++ later b
  rows_are b = refl

  pub stops_named : (x : Refusal) (r : Result (List Clipped) OpFault) → IsErrAnd r (λ e. e ≡ No x) → Err x ≡ passes (first (brush_rows m ns)) → IsCut s m part points ns r
  stops_named x r is e = subst (IsCut s m part points ns) (sym (err_is r (No x) is))
      (λ b right. front_stops (brush_rows m ns) (later b) x (that_row (first (brush_rows m ns)) x e))

  module _ (named : Ok tt ≡ passes (first (brush_rows m ns))) where
    past_named : (b : Below) → clip_refusal s m part points ns b ≡ first (later b)
    past_named b = front_passes (brush_rows m ns) (later b) (no_row (first (brush_rows m ns)) named)

    pub stops_flat : (x : Refusal) (r : Result (List Clipped) OpFault) → IsErrAnd r (λ e. e ≡ No x) → Err x ≡ cut_plane plane → IsCut s m part points ns r
    stops_flat x r is e = subst (IsCut s m part points ns) (sym (err_is r (No x) is))
        (λ b right. past_named b ∙ ap (λ o. first (o ∷ plane_misses b s m (Clip part points ns) ∷ too_many_faces b s m (Clip part points ns) ∷ [])) (flat plane x e))

    module _ (good : refuse (is_flat plane) FlatPlane ≡ None) where
      past_plane : (b : Below) → clip_refusal s m part points ns b ≡ first (misses_any m (cut_by s m plane) ns b ∷ too_many_faces b s m (Clip part points ns) ∷ [])
      past_plane b = past_named b ∙ ap (λ o. first (o ∷ plane_misses b s m (Clip part points ns) ∷ too_many_faces b s m (Clip part points ns) ∷ [])) good

      pub stops_missed : (why : OpFault) (r : Result (List Clipped) OpFault) → IsErrAnd r (λ e. e ≡ why) → Says (misses_any m (cut_by s m plane) ns) (Err why) → IsCut s m part points ns r
      stops_missed (No x) r is says = subst (IsCut s m part points ns) (sym (err_is r (No x) is))
          (λ b right. past_plane b ∙ ap (λ o. first (o ∷ too_many_faces b s m (Clip part points ns) ∷ [])) (says b right))
      stops_missed Memory r is says = subst (IsCut s m part points ns) (sym (err_is r Memory is)) tt

      module _ (hit : (b : Below) → IsRight b → misses_any m (cut_by s m plane) ns b ≡ None) where
        part_row : (p : Part) (b : Below) (n : ℕ) → at_each (clip_results b s m p plane n) (too_many n) ≡ overfull (clipped_by m (cut_by s m plane) p b n)
        part_row Back b n = refl
        part_row Front b n = refl
        part_row Both b n = refl

        alone : (r : Option Refusal) → first (r ∷ []) ≡ r
        alone None = refl
        alone (Some x) = refl

        last_row : (b : Below) → IsRight b → clip_refusal s m part points ns b ≡ overfull_any m (cut_by s m plane) part ns b
        last_row b right =
            past_plane b ∙ ap (λ o. first (o ∷ too_many_faces b s m (Clip part points ns) ∷ [])) (hit b right)
            ∙ alone (too_many_faces b s m (Clip part points ns)) ∙ (λ i. at_each ns (λ n. part_row part b n i))

        pub clips : (r : Result (List Clipped) OpFault) → AreClipped m (cut_by s m plane) part ns r → IsCut s m part points ns r
        clips (Ok list) h = record { passes = λ b right. last_row b right ∙ (h b right).1; made = λ b right. (h b right).0 }
        clips (Err (No x)) h = λ b right. last_row b right ∙ h b right
        clips (Err Memory) h = tt
