-- The pieces of a brush, as what a call makes of its solid.
use Rattle.std.proofs.Common.{◌≡◌, ℕ, ◌+◌, ◌<◌, ◌≤◌, ◌^◌, List, [], ◌∷◌, ◌++◌, length, map, true, false, Option, None, Some, Result, Ok, Err, IfOk, refl, ap, sym, subst, ◌∙◌, arith, true≢false}
use Rattle.std.specs.Prelude.{is_some}
use Rattle.std.proofs.lemmas.List.{length-map}
use Rattle.algebra.specs.Members.{◌∈◌, here, there, Every}
use Rattle.exact_geom.specs.Planes.{half_space}
use Rattle.piece_laws.specs.Pieces.{ArePieces}
use Rattle.trim_laws.specs.Solid.{Proper}
use Rattle.solid_brush.specs.declared.side.Side.{Side}
use Rattle.solid_brush.specs.Sides.{bounds, HaveTags, IsSolid, with_base}
use Rattle.solid_brush.specs.Sides as solid
use Rattle.solid_brush.specs.Blocks.{IsEmpty, IsLeft, IsTrimmedTo}
use Rattle.csg_ops.specs.Cuts.{reversed, IsPieceOverfull}
use Rattle.csg_ops.specs.Faults.{IsFirstOverfull, overfull, later_overfull}
use Rattle.map_nodes.specs.Seen.{sides_from, sides_of}
use Rattle.map_model.specs.Faces.{Face}
use Rattle.map_model.specs.Shape.{half_spaces}
use Rattle.map_model.specs.Tree.{Whole, faces_at}
use Rattle.map_model.specs.Below.{Below, IsRight}
use Rattle.map_model.specs.Brushes.{has_inside, pieces}
use Rattle.map_model.specs.Replies.{Refusal, TooManyFaces}
use Rattle.map_model.specs.Rows.{first, at_each, too_many}
use Rattle.tree_ops.specs.declared.fault.OpFault.{OpFault}
use Rattle.cut_plans.specs.Told.{face_of, faces_of, IsTold}
use Rattle.cut_plans.specs.Subtracts.{parted_by, overfull_piece, IsParted}
use Rattle.cut_plans.proofs.Faces.{spaces, tag_within}
use Rattle.cut_plans.proofs.Trimmed.{inside_is, empty_is, brush_bounded, valid_faces, kept_needed}
use Rattle.cut_plans.proofs.OneSide.{few_faces, not_many, too_many_are}
use Rattle.cut_plans.proofs.Laws.{some_are_right}
use Rattle.cut_plans.proofs.Pieces.{raised, both_told, both_tags, brush_proper, spaces_more, pieces_are, pieces_told}

-- The sides of both brushes. ------------------------------------------------------------------------------------------------------------

halves_joined : (xs ys : List Side) → solid.half_spaces (xs ++ ys) ≡ solid.half_spaces xs ++ solid.half_spaces ys
halves_joined [] ys = refl
halves_joined (x ∷ xs) ys = ap (λ F. bounds x ∷ F) (halves_joined xs ys)

faces_halves : (xs ys : List Face) → half_spaces (xs ++ ys) ≡ half_spaces xs ++ half_spaces ys
faces_halves [] ys = refl
faces_halves (x ∷ xs) ys = ap (λ F. half_space x.plane ∷ F) (faces_halves xs ys)

module _ (old new : List Face) (is : IsSolid (sides_of old)) (also : IsSolid (sides_of new)) where
  pub all_tags : HaveTags (sides_of old ++ sides_from 128 new)
  all_tags = both_tags 128 old new (few_faces old is) (let few = few_faces new also in omega arith)

  all_proper : Proper (solid.half_spaces (sides_of old ++ sides_from 128 new))
  all_proper = subst Proper
      (faces_halves old new ∙ sym (halves_joined (sides_of old) (sides_from 128 new) ∙ (λ i. spaces 0 old i ++ spaces 128 new i)))
      (spaces_more old new (brush_proper old is) (brush_proper new also))

  -- Whether any point is inside both.
  pub meet_is : (left : Option (List Side)) → IsLeft (sides_of old ++ sides_from 128 new) left → (b : Below) → IsRight b → has_inside b (old ++ new) ≡ is_some left
  meet_is None none b right =
      empty_is 128 old new (sides_of old ++ sides_from 128 new) (old ++ new) (both_told 128 old new (few_faces old is)) (brush_bounded old new (valid_faces old is)) all_proper none b right
  meet_is (Some kept) t b right =
      inside_is 128 old new (sides_of old ++ sides_from 128 new) (old ++ new) (both_told 128 old new (few_faces old is)) (brush_bounded old new (valid_faces old is)) kept t b right

  -- Not apart.
  pub not_apart : ((b : Below) → IsRight b → has_inside b (old ++ new) ≡ true) → IsEmpty (sides_of old ++ sides_from 128 new) → ⊥
  not_apart some none = true≢false (sym (some some_are_right.tests some_are_right.right) ∙ meet_is None none some_are_right.tests some_are_right.right)

  -- The pieces, none of which has too many faces.
  all_few : (n : ℕ) (solids : List (List Side)) → Every IsSolid solids → at_each (map (faces_of 128 old new) solids) (too_many n) ≡ None
  all_few n [] each = refl
  all_few n (kept ∷ solids) each =
      ap (λ o. first (o ∷ map (too_many n) (map (faces_of 128 old new) solids))) (not_many n (faces_of 128 old new kept) (kept_needed 128 old new kept (each kept here)).most)
      ∙ all_few n solids (λ s i. each s (there i))

  pub parts_are : (n : ℕ) (solids : List (List Side)) (bodies : List (List Face)) → ArePieces bounds reversed (sides_of old) (sides_from 128 new) solids → Every IsSolid solids → bodies ≡ map (faces_of 128 old new) solids →
      (b : Below) → IsRight b → (pieces b old new ≡ bodies) × (at_each bodies (too_many n) ≡ None)
  parts_are n solids bodies are each e b right =
      (pieces_are 128 old new solids (few_faces old is) is also are b right ∙ sym e, ap (λ l. at_each l (too_many n)) e ∙ all_few n solids each)

  pub parts_told : (solids : List (List Side)) → ArePieces bounds reversed (sides_of old) (sides_from 128 new) solids → (kept : List Side) → kept ∈ solids → Every (IsTold 128 old new) kept
  parts_told solids are = pieces_told 128 old new solids (few_faces old is) is also are

  -- The first piece with too many.
  first_many : (n count : ℕ) (solids : List (List Side)) → IsFirstOverfull count solids → at_each (map (faces_of 128 old new) solids) (too_many n) ≡ Some (TooManyFaces n count)
  first_many n count [] h = elim h [ ]
  first_many n count (kept ∷ solids) (overfull e lt) =
      ap (λ o. first (o ∷ map (too_many n) (map (faces_of 128 old new) solids)))
      (too_many_are n count (faces_of 128 old new kept) (length-map kept (face_of 128 old new) ∙ e) lt)
  first_many n count (kept ∷ solids) (later_overfull le h) =
      ap (λ o. first (o ∷ map (too_many n) (map (faces_of 128 old new) solids)))
      (not_many n (faces_of 128 old new kept) (subst (λ l. l ≤ 128) (sym (length-map kept (face_of 128 old new))) le))
      ∙ first_many n count solids h

  pub parts_overfull : (n count : ℕ) → IsPieceOverfull (sides_of old) (sides_from 128 new) count → (b : Below) → IsRight b → at_each (pieces b old new) (too_many n) ≡ Some (TooManyFaces n count)
  parts_overfull n count h b right =
      ap (λ l. at_each l (too_many n)) (pieces_are 128 old new h.pieces (few_faces old is) is also h.have.pieces_are b right) ∙ first_many n count h.pieces h.first

-- The brush that cuts. ------------------------------------------------------------------------------------------------------------------

pub room_above : (base : ℕ) → base ≤ 2 ^ 30 → (fs : List Face) (sides : List Side) → sides ≡ sides_of fs → IsSolid (sides_of fs) → Every (λ s. s.tag + base < 2 ^ 31) sides
room_above base small fs sides e is s i =
    let few = few_faces fs is in
    let w = (tag_within 0 fs s (subst (λ l. s ∈ l) e i)).1 in omega arith

pub raised_are : (base : ℕ) (fs body : List Face) (sides above : List Side) → sides ≡ sides_of fs → body ≡ fs → above ≡ map (with_base base) sides → above ≡ sides_from base body
raised_are base fs body sides above e same r =
    r ∙ ap (map (with_base base)) e ∙ raised base 0 fs ∙ ap (λ k. sides_from k fs) (let z : 0 + base ≡ base = omega arith in z) ∙ ap (sides_from base) (sym same)

module _ (old by : List Face) (is : IsSolid (sides_of old)) (also : IsSolid (sides_of by)) (sides cutter : List Side) (these : sides ≡ sides_of old) (those : cutter ≡ sides_from 128 by) where
  both : sides ++ cutter ≡ sides_of old ++ sides_from 128 by
  both i = these i ++ those i

  pub brush_tags : HaveTags (sides ++ cutter)
  brush_tags = subst HaveTags (sym both) (all_tags old by is also)

  pub brush_meets : (left : Option (List Side)) → IsLeft (sides ++ cutter) left → (b : Below) → IsRight b → has_inside b (old ++ by) ≡ is_some left
  brush_meets left h = meet_is old by is also left (subst (λ l. IsLeft l left) both h)

-- A brush of the map. -------------------------------------------------------------------------------------------------------------------

module _ (m : Whole) (by : List Face) (n : ℕ) (old : List Face) (here_is : old ≡ faces_at m n) (is : IsSolid (sides_of old)) (also : IsSolid (sides_of by)) (sides cutter : List Side) (these : sides ≡ sides_of old)
    (those : cutter ≡ sides_from 128 by) where
  pub brush_not_apart : ((b : Below) → IsRight b → has_inside b (faces_at m n ++ by) ≡ true) → IsEmpty (sides ++ cutter) → ⊥
  brush_not_apart some none = not_apart old by is also (λ b right. ap (λ l. has_inside b (l ++ by)) here_is ∙ some b right) (subst IsEmpty (both old by is also sides cutter these those) none)

  pieces_of : (solids : List (List Side)) → ArePieces bounds reversed sides cutter solids → ArePieces bounds reversed (sides_of old) (sides_from 128 by) solids
  pieces_of solids are = subst (λ a. ArePieces bounds reversed a (sides_from 128 by) solids) these (subst (λ c. ArePieces bounds reversed sides c solids) those are)

  pub brush_told : (first second : List Face) → first ≡ old → second ≡ by → (solids : List (List Side)) → ArePieces bounds reversed sides cutter solids → (kept : List Side) → kept ∈ solids → Every (IsTold 128 first second) kept
  brush_told first second e f solids are kept i =
      subst (λ l. Every (IsTold 128 l second) kept) (sym e) (subst (λ l. Every (IsTold 128 old l) kept) (sym f) (parts_told old by is also solids (pieces_of solids are) kept i))

  pub brush_parted : (first second : List Face) → first ≡ old → second ≡ by → (solids : List (List Side)) (bodies : List (List Face)) → ArePieces bounds reversed sides cutter solids → Every IsSolid solids →
      bodies ≡ map (faces_of 128 first second) solids → IsParted m by n (Ok (record { id = n; pieces = bodies }))
  brush_parted first second e f solids bodies are each made b right =
      let h = parts_are old by is also n solids bodies (pieces_of solids are) each (made ∙ (λ i. map (faces_of 128 (e i) (f i)) solids)) b right in
      ((λ i. record { id = n; pieces = (ap (λ l. pieces b l by) (sym here_is) ∙ h.0) i }), h.1)

  pub brush_overfull : (count : ℕ) → IsPieceOverfull sides cutter count → (b : Below) → IsRight b → overfull_piece (parted_by m by b n) ≡ Some (TooManyFaces n count)
  brush_overfull count h b right =
      ap (λ l. at_each (pieces b l by) (too_many n)) (sym here_is)
      ∙ parts_overfull old by is also n count (subst (λ a. IsPieceOverfull a (sides_from 128 by) count) these (subst (λ c. IsPieceOverfull sides c count) those h)) b right
