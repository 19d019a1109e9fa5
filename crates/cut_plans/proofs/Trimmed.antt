-- What is left of sides, in the words of maps: whether their faces have a point inside, and which of them are kept.
use Rattle.std.proofs.Common.{◌≡◌, ℕ, ◌≤◌, List, [], ◌∷◌, ◌++◌, length, map, true, false, Bool, refl, ap, sym, subst, ◌∙◌, arith}
use Rattle.std.specs.Bool.{Decides}
use Rattle.std.proofs.lemmas.List.{length-map}
use Rattle.algebra.specs.Members.{◌∈◌, here, there}
use Rattle.algebra.specs.Space.{HalfSpace}
use Rattle.trim_laws.specs.Solid.{IsIn, IsInside, Proper, Bounded}
use Rattle.trim_laws.specs.Trim.{TrimFaces}
use Rattle.trim_laws.specs.Valid.{Valid, HasInside, NoVolume, OutOfWorld}
use Rattle.trim_laws.proofs.Bearing.{in_of_inside}
use Rattle.trim_laws.proofs.Cause.{in_reach}
use Rattle.trim_laws.proofs.Faces.{trim_faces}
use Rattle.solid_laws.proofs.World.{world_bounded}
use Rattle.solid_brush.specs.declared.side.Side.{Side}
use Rattle.solid_brush.specs.Sides.{IsSolid}
use Rattle.solid_brush.specs.Sides as solid
use Rattle.solid_brush.specs.Blocks.{IsEmpty, IsTrimmedTo}
use Rattle.map_nodes.specs.Seen.{sides_of}
use Rattle.map_model.specs.Faces.{Face}
use Rattle.map_model.specs.Shape.{half_spaces}
use Rattle.map_model.specs.Below.{Below, IsRight}
use Rattle.map_model.specs.Brushes.{trimmed, has_inside}
use Rattle.map_model.specs.Meant.{plane_of, ProperFaces, BoundedFaces}
use Rattle.map_model.proofs.Meaning.{trimmed_law}
use Rattle.brush_plans.specs.Bodies.{AreNeeded}
use Rattle.cut_plans.specs.Told.{faces_of}
use Rattle.cut_plans.proofs.Faces.{spaces, planes_told, trim_told}

-- Bounded lists. --------------------------------------------------------------------------------------------------------------------

pub valid_bounded : (F : List HalfSpace) → Valid F → Bounded F
valid_bounded F valid = world_bounded F valid.volume.at (in_of_inside valid.volume.inside) valid.within

pub bounded_more : (F G : List HalfSpace) → ((g : HalfSpace) → g ∈ F → g ∈ G) → Bounded F → Bounded G
bounded_more F G among bounded m way = let a = bounded m way in record { face = a.face; among = among a.face a.among; ahead = a.ahead }

spaces_first : (xs ys : List Face) (g : HalfSpace) → g ∈ half_spaces xs → g ∈ half_spaces (xs ++ ys)
spaces_first [] ys g i = elim i [ ]
spaces_first (x ∷ xs) ys g here = here
spaces_first (x ∷ xs) ys g (there i) = there (spaces_first xs ys g i)

pub valid_faces : (fs : List Face) → IsSolid (sides_of fs) → Valid (half_spaces fs)
valid_faces fs is = subst Valid (spaces 0 fs) is.brush

-- Whatever faces are added to those of a brush.
pub brush_bounded : (fs more : List Face) → Valid (half_spaces fs) → BoundedFaces (fs ++ more)
brush_bounded fs more valid = bounded_more (half_spaces fs) (half_spaces (fs ++ more)) (spaces_first fs more) (valid_bounded (half_spaces fs) valid)

-- Sides that stand for faces. -------------------------------------------------------------------------------------------------------

pub not_so : {P : Type 0} (t : Bool) → Decides t P → ¬ P → t ≡ false
not_so true d n = absurd (n (d.0 refl))
not_so false d n = refl

module _ (base : ℕ) (old new : List Face) (sides : List Side) (fs : List Face) (are : faces_of base old new sides ≡ fs) (bounded : BoundedFaces fs) where
  spaces_are : solid.half_spaces sides ≡ half_spaces fs
  spaces_are = sym (planes_told base old new sides) ∙ ap half_spaces are

  pub proper_faces : Proper (solid.half_spaces sides) → ProperFaces fs
  proper_faces = subst (λ F. Proper (solid.half_spaces sides) → Proper F) spaces_are (λ p. p)

  pub inside_is : (kept : List Side) → IsTrimmedTo sides kept → (b : Below) → IsRight b → has_inside b fs ≡ true
  inside_is kept t b right =
      (right.is_solid (half_spaces fs) (proper_faces t.proper) bounded).1 (subst HasInside spaces_are t.volume)

  pub trimmed_is : (kept : List Side) → IsTrimmedTo sides kept → (b : Below) → IsRight b → trimmed b fs ≡ faces_of base old new kept
  trimmed_is kept t b right =
      (trim_faces Face plane_of fs (trimmed b fs) (trimmed_law b fs right (proper_faces t.proper) bounded)).only (faces_of base old new kept)
      (subst (λ l. TrimFaces plane_of l (faces_of base old new kept)) are (trim_told base old new sides kept t.trim))

  pub empty_is : Proper (solid.half_spaces sides) → IsEmpty sides → (b : Below) → IsRight b → has_inside b fs ≡ false
  empty_is proper none b right =
      not_so (has_inside b fs) (right.is_solid (half_spaces fs) (proper_faces proper) bounded)
      (λ h. none h.at (subst (λ F. IsInside F h.at) (sym spaces_are) h.inside))

-- Solids as bodies. -----------------------------------------------------------------------------------------------------------------

module _ (base : ℕ) (old new : List Face) (kept : List Side) (is : IsSolid kept) where
  valid_kept : Valid (half_spaces (faces_of base old new kept))
  valid_kept = subst Valid (sym (planes_told base old new kept)) is.brush

  some_volume : (F : List HalfSpace) → Valid F → ¬ (NoVolume F)
  some_volume F valid none =
      let v = valid.volume in
      none v.at (in_reach v.at v.inside.weight (valid.within v.at (in_of_inside v.inside))) v.inside

  pub kept_needed : AreNeeded (faces_of base old new kept)
  kept_needed = record {
    trimmed = valid_kept.trimmed;
    most = subst (λ n. n ≤ 128) (length-map (faces_of base old new kept) plane_of) valid_kept.most;
    volume = some_volume (half_spaces (faces_of base old new kept)) valid_kept;
  }

  pub kept_stay : ¬ (OutOfWorld (half_spaces (faces_of base old new kept)))
  kept_stay out = out.outside (valid_kept.within out.at out.is_in)
