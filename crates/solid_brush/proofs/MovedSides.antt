-- The sides of a brush that a motion moves.
use Rattle.std.proofs.Common.{◌≡◌, ◌^◌, ◌<◌, IsTrue, List, [], ◌∷◌, map, Option, Some, None, refl, sym, ap, subst, ◌∙◌}
use Rattle.algebra.specs.Members.{here, there, Every}
use Rattle.exact_geom.specs.Planes.{first_out_of_range}
use Rattle.orient48.specs.Motions.{Motion, is_signed_permutation, moved_plane}
use Rattle.orient48.proofs.Matrices.{is_turn}
use Rattle.orient48.proofs.Planes.{half_moved}
use Rattle.orient48.specs.Laws.{IsTurn}
use Rattle.moved_laws.specs.Moved.{moved_list}
use Rattle.moved_laws.proofs.Corners.{vertex_onto}
use Rattle.moved_laws.proofs.Staying.{valid_is}
use Rattle.trim_laws.specs.Valid.{Valid, OutOfWorld}
use Rattle.half_poly.specs.Shapes.{Tagged, solid_of}
use Rattle.half_poly.specs.Moving.{moved_side as moved_tagged, LiesInWorld, IsMovedTo}
use Rattle.solid_brush.specs.declared.side.Side.{Side}
use Rattle.solid_brush.specs.Sides.{half_spaces, DistinctTags, no_sides, one_more_side, IsSolid}
use Rattle.solid_brush.specs.Cutting.{tagged, untagged, IsKeptSolid}
use Rattle.solid_brush.specs.Moved.{moved_side, IsMovedOf}
use Rattle.solid_brush.proofs.Behind.{spaces_of}

-- ---- lists
spaces_moved : (r : Motion) (sides : List Side) → IsTurn r.matrix → half_spaces (map (moved_side r) sides) ≡ moved_list r (half_spaces sides)
spaces_moved r [] t = refl
spaces_moved r (s ∷ sides) t = λ i. half_moved r s.plane t i ∷ spaces_moved r sides t i

tagged_moved : (r : Motion) (sides : List Side) → map (moved_tagged r) (map tagged sides) ≡ map tagged (map (moved_side r) sides)
tagged_moved r [] = refl
tagged_moved r (s ∷ sides) = λ i. tagged (moved_side r s) ∷ tagged_moved r sides i

untag : (sides : List Side) → map untagged (map tagged sides) ≡ sides
untag [] = refl
untag (s ∷ sides) = λ i. s ∷ untag sides i

-- ---- tags
apart_moved : (r : Motion) (s : Side) (sides : List Side) → Every (λ t. ¬ (s.tag ≡ t.tag)) sides → Every (λ t. ¬ (s.tag ≡ t.tag)) (map (moved_side r) sides)
apart_moved r s [] n t m = elim m [ ]
apart_moved r s (x ∷ sides) n t here = n x here
apart_moved r s (x ∷ sides) n t (there m) = apart_moved r s sides (λ y i. n y (there i)) t m

distinct_moved : (r : Motion) (sides : List Side) → DistinctTags sides → DistinctTags (map (moved_side r) sides)
distinct_moved r [] no_sides = no_sides
distinct_moved r (s ∷ sides) (one_more_side apart others) = one_more_side (apart_moved r s sides apart) (distinct_moved r sides others)

small_moved : (r : Motion) (sides : List Side) → Every (λ s. s.tag < 2 ^ 31) sides → Every (λ s. s.tag < 2 ^ 31) (map (moved_side r) sides)
small_moved r [] n t m = elim m [ ]
small_moved r (x ∷ sides) n t here = n x here
small_moved r (x ∷ sides) n t (there m) = small_moved r sides (λ y i. n y (there i)) t m

-- ---- what is asked
range_of : (r : Motion) (sides : List Side) → Every (λ s. first_out_of_range (moved_plane r s.plane) ≡ None) sides → Every (λ s. first_out_of_range (moved_plane r s.plane) ≡ None) (map tagged sides)
range_of r [] n t m = elim m [ ]
range_of r (x ∷ sides) n t here = n x here
range_of r (x ∷ sides) n t (there m) = range_of r sides (λ y i. n y (there i)) t m

-- ---- a solid and its polyhedron
pub range : (r : Motion) {sides : List Side} {poly : List Tagged} → IsKeptSolid sides poly → (now : List Side) → sides ≡ now → Every (λ s. first_out_of_range (moved_plane r s.plane) ≡ None) now → Every (λ s. first_out_of_range (moved_plane r s.plane) ≡ None) poly
range r {sides} {poly} k now view h = subst (Every (λ s. first_out_of_range (moved_plane r s.plane) ≡ None)) (sym k.same) (range_of r sides (subst (Every (λ s. first_out_of_range (moved_plane r s.plane) ≡ None)) (sym view) h))

module _ (r : Motion) (signed : IsTrue (is_signed_permutation r.matrix)) {sides : List Side} {poly : List Tagged} (k : IsKeptSolid sides poly) (now : List Side) (view : sides ≡ now) where
  poly_moved : map (moved_tagged r) poly ≡ map tagged (map (moved_side r) sides)
  poly_moved = ap (map (moved_tagged r)) k.same ∙ tagged_moved r sides

  pub leaves : (o : Option (List Tagged)) → IsMovedTo r poly o → o ≡ None → OutOfWorld (half_spaces (map (moved_side r) now))
  leaves o m q =
      let v = subst (IsMovedTo r poly) q m in
      subst (λ l. OutOfWorld (half_spaces (map (moved_side r) l))) view (subst OutOfWorld (ap solid_of poly_moved ∙ spaces_of (map (moved_side r) sides)) (record { at = v.at; is_in = v.vertex.inside; outside = v.outside }))

  module _ (o : Option (List Tagged)) (after : List Tagged) (kept : List Side) (m : IsMovedTo r poly o) (q : o ≡ Some after) (e : map tagged kept ≡ after) where
    moved : IsMovedTo r poly (Some after)
    moved = subst (IsMovedTo r poly) q m

    kept_is : kept ≡ map (moved_side r) sides
    kept_is = sym (untag kept) ∙ ap (map untagged) (e ∙ moved.0 ∙ poly_moved) ∙ untag (map (moved_side r) sides)

    valid : Valid (half_spaces (map (moved_side r) sides))
    valid =
        let t = is_turn r.matrix signed in
        let F = half_spaces sides in
        let spaces : solid_of after ≡ moved_list r F = ap solid_of (moved.0 ∙ poly_moved) ∙ spaces_of (map (moved_side r) sides) ∙ spaces_moved r sides t in
        subst Valid (sym (spaces_moved r sides t)) ((valid_is r F t k.solid.brush).0 (λ v h. subst LiesInWorld spaces moved.1 _ (vertex_onto r F v t h)))

    pub is_moved : IsMovedOf r now (Some kept)
    is_moved = (kept_is ∙ ap (map (moved_side r)) view, subst (λ l. Valid (half_spaces (map (moved_side r) l))) view valid)

    pub still_kept : IsKeptSolid kept after
    still_kept = record {
      solid = subst IsSolid (sym kept_is) (record { tags = record { distinct = distinct_moved r sides k.solid.tags.distinct; small = small_moved r sides k.solid.tags.small }; brush = valid });
      same = sym e;
    }
