-- Where no point lies outside the world, the larger cube adds no side.
use Rattle.std.proofs.Common.{◌≡◌, List, [], ◌∷◌, map, sym, ap, subst, inr, ⊎_elim}
use Rattle.algebra.specs.Members.{◌∈◌, here, there}
use Rattle.algebra.specs.Space.{HalfSpace}
use Rattle.algebra.specs.World.{reach}
use Rattle.algebra.proofs.Members.{each_of_more}
use Rattle.trim_laws.specs.Solid.{Proper}
use Rattle.trim_laws.specs.Trim.{Bears, TrimsFaces, TrimFaces, no_faces, keeps_face, drops_face}
use Rattle.trim_laws.proofs.Once.{bears_in_part}
use Rattle.vertex_laws.specs.Cube.{cube, boxed}
use Rattle.vertex_laws.proofs.Box.{Within, wall_idles, box_bears, no_wall, Over, over_more}
use Rattle.half_poly.specs.Shapes.{Tagged, bounds as bound, solid_of}
use Rattle.half_poly.specs.Walls.{cube_side, cube_sides}
use Rattle.half_poly.proofs.Cubing.{solid_is}
use Rattle.solid_brush.specs.declared.side.Side.{Side}
use Rattle.solid_brush.specs.Sides.{bounds, half_spaces}
use Rattle.solid_brush.specs.Cutting.{tagged, all_planes}
use Rattle.solid_brush.proofs.Boxed.{in_last}
use Rattle.solid_brush.proofs.Behind.{all_is}

module _ (F : List Side) (r : Proper (half_spaces F)) (w : Within (half_spaces F)) where
  bears_down : (f : HalfSpace) → Bears (solid_of (all_planes F)) f → Bears (half_spaces F) f
  bears_down f b = bears_in_part (boxed reach (half_spaces F)) (half_spaces F) f (in_last (cube reach) (half_spaces F)) (subst (λ L. Bears L f) (all_is F) b)

  bears_up : (f : HalfSpace) → Bears (half_spaces F) f → Bears (solid_of (all_planes F)) f
  bears_up f b = subst (λ L. Bears L f) (sym (all_is F)) (box_bears (half_spaces F) f w b)

  head_is : {x y : Side} {xs ys : List Tagged} → tagged x ∷ xs ≡ tagged y ∷ ys → x ≡ y
  head_is {x} {y} q = ap back (first q)
    where
      back : Tagged → Side
      back t = record { plane = t.plane; tag = t.tag }

      first : {s t : Tagged} {xs ys : List Tagged} → s ∷ xs ≡ t ∷ ys → s ≡ t
      first {s} {t} q = cc

  tail_is : {s t : Tagged} {xs ys : List Tagged} → s ∷ xs ≡ t ∷ ys → xs ≡ ys
  tail_is {s} {t} {xs} {ys} q = cc

  unboxed : (earlier rest kept : List Side) (box : List Tagged) {K : List Tagged} → Over (half_spaces earlier) (solid_of box) → ((g : HalfSpace) → g ∈ half_spaces rest → g ∈ half_spaces F) →
      TrimsFaces bound (all_planes F) box (map tagged rest) K → K ≡ map tagged kept → TrimsFaces bounds F earlier rest kept
  unboxed earlier [] [] box o sub no_faces q = no_faces
  unboxed earlier [] (x ∷ kept) box o sub no_faces q = absurd (cc)
  unboxed earlier (s ∷ rest) [] box o sub (keeps_face k t) q = absurd (cc)
  unboxed earlier (s ∷ rest) (x ∷ kept) box o sub (keeps_face k t) q = subst (λ y. TrimsFaces bounds F earlier (s ∷ rest) (y ∷ kept)) (head_is q)
      (keeps_face (record { first = λ g m e. k.first g (o.under g m) e; bears = bears_down (bounds s) k.bears })
      (unboxed (s ∷ earlier) rest kept (tagged s ∷ box) (over_more (bounds s) o) (λ g m. sub g (there m)) t (tail_is q)))
  unboxed earlier (s ∷ rest) kept box o sub (drops_face n t) q = drops_face
      (λ e. n (record { first = λ g m i. ⊎_elim (λ j. e.first g j i) (λ j. no_wall (half_spaces F) (bounds s) g w (r (bounds s) (sub (bounds s) here)) e.bears j i) (o.over g m); bears = bears_up (bounds s) e.bears }))
      (unboxed (s ∷ earlier) rest kept (tagged s ∷ box) (over_more (bounds s) o) (λ g m. sub g (there m)) t q)

  skip_wall : (s : Tagged) (box rest : List Tagged) {K : List Tagged} → bound s ∈ cube reach → TrimsFaces bound (all_planes F) box (s ∷ rest) K → TrimsFaces bound (all_planes F) (s ∷ box) rest K
  skip_wall s box rest m (keeps_face k t) = absurd (wall_idles (half_spaces F) w (bound s) m (subst (λ L. Bears L (bound s)) (all_is F) k.bears))
  skip_wall s box rest m (drops_face n t) = t

  wall_in : (s : Tagged) → s ∈ cube_sides → bound s ∈ cube reach
  wall_in s m = subst (λ C. bound s ∈ C) solid_is (image cube_sides s m)
    where
      image : (zs : List Tagged) (t : Tagged) → t ∈ zs → bound t ∈ solid_of zs
      image [] t m = elim m [ ]
      image (z ∷ zs) t here = here
      image (z ∷ zs) t (there m) = there (image zs t m)

  turned : List Tagged
  turned = cube_side 5 ∷ cube_side 4 ∷ cube_side 3 ∷ cube_side 2 ∷ cube_side 1 ∷ cube_side 0 ∷ []

  walls_over : Over [] (solid_of turned)
  unfolding turned
  walls_over = record {
    under = λ g m. elim m [ ];
    over = λ g m. inr (each_of_more (λ k. k ∈ cube reach) _ _ (wall_in (cube_side 5) (there (there (there (there (there here)))))) (each_of_more (λ k. k ∈ cube reach) _ _ (wall_in (cube_side 4) (there (there (there (there here)))))
        (each_of_more (λ k. k ∈ cube reach) _ _ (wall_in (cube_side 3) (there (there (there here)))) (each_of_more (λ k. k ∈ cube reach) _ _ (wall_in (cube_side 2) (there (there here)))
        (each_of_more (λ k. k ∈ cube reach) _ _ (wall_in (cube_side 1) (there here)) (each_of_more (λ k. k ∈ cube reach) _ _ (wall_in (cube_side 0) here) (λ h i. elim i [ ])))))) g m);
  }

  pub trim_sides : (poly : List Tagged) (kept : List Side) → TrimFaces bound (all_planes F) poly → map tagged kept ≡ poly → TrimFaces bounds F kept
  unfolding turned
  trim_sides poly kept t q = unboxed [] F kept turned walls_over (λ g m. m)
      (skip_wall (cube_side 5) _ _ (wall_in (cube_side 5) (there (there (there (there (there here)))))) (skip_wall (cube_side 4) _ _ (wall_in (cube_side 4) (there (there (there (there here)))))
      (skip_wall (cube_side 3) _ _ (wall_in (cube_side 3) (there (there (there here)))) (skip_wall (cube_side 2) _ _ (wall_in (cube_side 2) (there (there here)))
      (skip_wall (cube_side 1) _ _ (wall_in (cube_side 1) (there here)) (skip_wall (cube_side 0) _ _ (wall_in (cube_side 0) here) t)))))) (sym q)
