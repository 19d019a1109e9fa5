-- The walls of a box, one after another.
use Rattle.std.proofs.Common.{◌≡◌, ℕ, ◌+◌, Bool, true, false, not, cond, List, [], ◌∷◌, Option, Some, None, is_ok, Result, Ok, Err, refl, ap, sym, subst, ◌∙◌}
use Rattle.std.specs.Prelude.{is_none, option_map, IsErrAnd}
use Rattle.std.specs.Option.{option_map_or}
use Rattle.algebra.specs.Members.{◌∈◌, here, there}
use Rattle.exact_geom.specs.declared.axis.Axis.TheVariants.{X, Y, Z}
use Rattle.exact_geom.specs.declared.point.Point.{Point}
use Rattle.exact_geom.specs.declared.plane.PlaneFault.TheVariants.{PointRange as BeyondRange, Flat}
use Rattle.exact_geom.specs.Planes.{ThreePoints, plane_of, first_out_of_range, is_flat}
use Rattle.map_model.specs.Brushes.{box_planes, first_place}
use Rattle.map_model.specs.Replies.{Refusal, PointRange}
use Rattle.map_laws.proofs.Boxes.{box_walls}
use Rattle.map_laws.proofs.BoxCommand.{wall_not_flat}
use Rattle.tree_ops.proofs.Outcomes.{err_is}
use Rattle.edit_ops.specs.Walls.{wall, IsWallOf, range_from, AreWalls}

-- Three points that don't lie on a line give a plane exactly where they are in range.
in_range : (t plane : ThreePoints) → is_flat t ≡ false → plane_of t ≡ Ok plane → (plane ≡ t) × (first_out_of_range t ≡ None)
in_range t plane flat e = by (first_out_of_range t) (is_flat t) flat e
  where
    by : (o : Option ℕ) (f : Bool) → f ≡ false → option_map_or (λ k. Err (BeyondRange k)) o (cond f (Err Flat) (Ok t)) ≡ Ok plane → (plane ≡ t) × (o ≡ None)
    by None false g e = (let x = e in cc, refl)
    by None true g e = absurd (cc)
    by (Some k) f g e = absurd (cc)

out_of_range : (t : ThreePoints) → is_flat t ≡ false → is_ok (plane_of t) ≡ false → is_none (first_out_of_range t) ≡ false
out_of_range t flat e = by (first_out_of_range t) (is_flat t) flat e
  where
    by : (o : Option ℕ) (f : Bool) → f ≡ false → is_ok (option_map_or (λ k. Err (BeyondRange k)) o (cond f (Err Flat) (Ok t))) ≡ false → is_none o ≡ false
    by None false g e = absurd (cc)
    by None true g e = absurd (cc)
    by (Some k) f g e = refl

-- A wall in range is passed over, and one that isn't is told.
passes : (k : ℕ) (t : ThreePoints) (ts : List ThreePoints) → first_out_of_range t ≡ None → range_from k (t ∷ ts) ≡ range_from (k + 1) ts
passes k t ts e =
    ap (λ o. option_map (PointRange 0) (cond (not (is_none o)) (Some k) (first_place (λ u. not (is_none (first_out_of_range u))) (k + 1) ts))) e

stops : (k : ℕ) (t : ThreePoints) (ts : List ThreePoints) → is_none (first_out_of_range t) ≡ false → range_from k (t ∷ ts) ≡ Some (PointRange 0 k)
stops k t ts e =
    ap (λ b. option_map (PointRange 0) (cond (not b) (Some k) (first_place (λ u. not (is_none (first_out_of_range u))) (k + 1) ts))) e

module _ (a b : Point) where
  -- The walls before the place k are in range.
  abbrev SoFar : ℕ → List ThreePoints → Type 0
  SoFar k rest = range_from 0 (box_planes a b) ≡ range_from k rest

  next : (k : ℕ) (t plane : ThreePoints) (ts : List ThreePoints) → t ∈ box_planes a b → SoFar k (t ∷ ts) → IsWallOf k t (Ok plane) → (plane ≡ t) × SoFar (k + 1) ts
  next k t plane ts i so_far is = let r = in_range t plane (wall_not_flat t (box_walls a b t i)) is in (r.0, so_far ∙ passes k t ts r.1)

  ends : (k : ℕ) (t : ThreePoints) (ts : List ThreePoints) (refusal : Refusal) → t ∈ box_planes a b → SoFar k (t ∷ ts) → IsWallOf k t (Err refusal) → AreWalls a b (Err refusal)
  ends k t ts refusal i so_far is = so_far ∙ stops k t ts (out_of_range t (wall_not_flat t (box_walls a b t i)) is.1) ∙ ap Some (sym is.0)

  abbrev low_x : ThreePoints
  low_x = wall Y Z a

  abbrev low_y : ThreePoints
  low_y = wall Z X a

  abbrev low_z : ThreePoints
  low_z = wall X Y a

  abbrev high_z : ThreePoints
  high_z = wall Y X b

  abbrev high_y : ThreePoints
  high_y = wall X Z b

  abbrev high_x : ThreePoints
  high_x = wall Z Y b

  pub stops_low_x : (refusal : Refusal) → IsWallOf 0 low_x (Err refusal) → AreWalls a b (Err refusal)
  stops_low_x refusal is = ends 0 low_x (low_y ∷ low_z ∷ high_z ∷ high_y ∷ high_x ∷ []) refusal here refl is

  module _ (p0 : ThreePoints) (is0 : IsWallOf 0 low_x (Ok p0)) where
    after_low_x : (p0 ≡ low_x) × SoFar 1 (low_y ∷ low_z ∷ high_z ∷ high_y ∷ high_x ∷ [])
    after_low_x = next 0 low_x p0 (low_y ∷ low_z ∷ high_z ∷ high_y ∷ high_x ∷ []) here refl is0

    pub stops_low_y : (refusal : Refusal) → IsWallOf 1 low_y (Err refusal) → AreWalls a b (Err refusal)
    stops_low_y refusal is = ends 1 low_y (low_z ∷ high_z ∷ high_y ∷ high_x ∷ []) refusal (there here) after_low_x.1 is

    module _ (p1 : ThreePoints) (is1 : IsWallOf 1 low_y (Ok p1)) where
      after_low_y : (p1 ≡ low_y) × SoFar 2 (low_z ∷ high_z ∷ high_y ∷ high_x ∷ [])
      after_low_y = next 1 low_y p1 (low_z ∷ high_z ∷ high_y ∷ high_x ∷ []) (there here) after_low_x.1 is1

      pub stops_low_z : (refusal : Refusal) → IsWallOf 2 low_z (Err refusal) → AreWalls a b (Err refusal)
      stops_low_z refusal is = ends 2 low_z (high_z ∷ high_y ∷ high_x ∷ []) refusal (there (there here)) after_low_y.1 is

      module _ (p2 : ThreePoints) (is2 : IsWallOf 2 low_z (Ok p2)) where
        after_low_z : (p2 ≡ low_z) × SoFar 3 (high_z ∷ high_y ∷ high_x ∷ [])
        after_low_z = next 2 low_z p2 (high_z ∷ high_y ∷ high_x ∷ []) (there (there here)) after_low_y.1 is2

        pub stops_high_z : (refusal : Refusal) → IsWallOf 3 high_z (Err refusal) → AreWalls a b (Err refusal)
        stops_high_z refusal is = ends 3 high_z (high_y ∷ high_x ∷ []) refusal (there (there (there here))) after_low_z.1 is

        module _ (p3 : ThreePoints) (is3 : IsWallOf 3 high_z (Ok p3)) where
          after_high_z : (p3 ≡ high_z) × SoFar 4 (high_y ∷ high_x ∷ [])
          after_high_z = next 3 high_z p3 (high_y ∷ high_x ∷ []) (there (there (there here))) after_low_z.1 is3

          pub stops_high_y : (refusal : Refusal) → IsWallOf 4 high_y (Err refusal) → AreWalls a b (Err refusal)
          stops_high_y refusal is = ends 4 high_y (high_x ∷ []) refusal (there (there (there (there here)))) after_high_z.1 is

          module _ (p4 : ThreePoints) (is4 : IsWallOf 4 high_y (Ok p4)) where
            after_high_y : (p4 ≡ high_y) × SoFar 5 (high_x ∷ [])
            after_high_y = next 4 high_y p4 (high_x ∷ []) (there (there (there (there here)))) after_high_z.1 is4

            pub stops_high_x : (refusal : Refusal) → IsWallOf 5 high_x (Err refusal) → AreWalls a b (Err refusal)
            stops_high_x refusal is = ends 5 high_x [] refusal (there (there (there (there (there here))))) after_high_y.1 is

            pub six_walls : (p5 : ThreePoints) → IsWallOf 5 high_x (Ok p5) → AreWalls a b (Ok (p0 ∷ p1 ∷ p2 ∷ p3 ∷ p4 ∷ p5 ∷ []))
            six_walls p5 is5 =
                let after_high_x = next 5 high_x p5 [] (there (there (there (there (there here))))) after_high_y.1 is5 in
                (λ i. after_low_x.0 i ∷ after_low_y.0 i ∷ after_low_z.0 i ∷ after_high_z.0 i ∷ after_high_y.0 i ∷ after_high_x.0 i ∷ [], after_high_x.1)

-- A refusal is handed on.
pub handed_on : (a b : Point) (r : Result (List ThreePoints) Refusal) (why : Refusal) → IsErrAnd r (λ e. e ≡ why) → AreWalls a b (Err why) → AreWalls a b r
handed_on a b r why e = subst (AreWalls a b) (sym (err_is r why e))
