-- The solids that a box is cut into, as its walls.
use Rattle.std.proofs.Common.{◌≡◌, ℕ, ◌^◌, ◌<◌, ◌≤◌, List, [], ◌∷◌, length, map, IsTrue, true, Ok, ap, sym, subst, ◌∙◌, arith, pos, ℤ, ◌+ℤ◌, ◌<ℤ◌}
use Rattle.algebra.specs.Members.{◌∈◌, here, there, Every}
use Rattle.algebra.specs.Space.{dot}
use Rattle.exact_geom.specs.Planes.{half_space}
use Rattle.piece_laws.specs.Pieces as solid_pieces
use Rattle.solid_brush.specs.declared.side.Side.{Side}
use Rattle.solid_brush.specs.Sides.{bounds, IsSolid}
use Rattle.solid_brush.specs.Sides as solid
use Rattle.map_nodes.specs.Seen.{sides_of}
use Rattle.map_model.specs.Faces.{Face}
use Rattle.map_model.specs.Tree.{Whole, brush, is_brush, faces_at, format_of}
use Rattle.map_model.specs.Shape.{half_spaces}
use Rattle.map_model.specs.Below.{Below, IsRight}
use Rattle.map_model.specs.Brushes.{inward, is_box, piece_lists, pieces}
use Rattle.map_model.specs.Meant.{ProperFaces, AllBounded}
use Rattle.map_laws.proofs.Skeleton.{kind_is}
use Rattle.map_laws.proofs.TrimmedFaces.{faces_proper}
use Rattle.map_laws.proofs.BrushRows.{brush_faces}
use Rattle.tree_node.specs.Held.{IsMap}
use Rattle.csg_ops.specs.Cuts.{reversed as reversed_side}
use Rattle.csg_ops.specs.Hollows.{inner_box, HasShortSide}
use Rattle.csg_ops.proofs.MovedPlanes.{normal_kept}
use Rattle.cut_plans.specs.Told.{faces_of, IsTold}
use Rattle.cut_plans.proofs.Faces.{old_told, tag_within}
use Rattle.cut_plans.proofs.Trimmed.{valid_faces, valid_bounded}
use Rattle.cut_plans.proofs.OneSide.{few_faces}
use Rattle.hollow_plans.specs.Walls.{walls_of, AreWalls}
use Rattle.hollow_plans.proofs.InnerBoxes.{plane_moved, inner_told, inner_told_tags, old_told_tags}
use Rattle.hollow_plans.proofs.Pieces.{pieces_are, pieces_told, lists_bounded}
use Rattle.hollow_plans.proofs.ShortSides.{thin_row}

pub small_tags : (fs : List Face) → IsSolid (sides_of fs) → Every (λ s. s.tag < 2 ^ 30) (sides_of fs)
small_tags fs is s i = let r = (tag_within 0 fs s i).1 in let few = few_faces fs is in omega arith

half_in : (fs : List Face) (f : Face) → f ∈ fs → half_space f.plane ∈ half_spaces fs
half_in [] f i = elim i [ ]
half_in (x ∷ fs) f here = here
half_in (x ∷ fs) f (there i) = there (half_in fs f i)

-- Faces moved inward have the normals of the faces.
moved_proper : (t : ℤ) (fs : List Face) → ProperFaces fs → (f : Face) → f ∈ map (inward t) fs → pos 0 <ℤ dot (half_space f.plane).normal (half_space f.plane).normal
moved_proper t [] proper f i = elim i [ ]
moved_proper t (x ∷ fs) proper f here =
    subst (λ n. pos 0 <ℤ dot n n) (sym (normal_kept t x.plane) ∙ ap (λ p. (half_space p).normal) (plane_moved t x)) (proper (half_space x.plane) here)
moved_proper t (x ∷ fs) proper f (there i) = moved_proper t fs (λ h j. proper h (there j)) f i

-- The faces of a brush of a map are proper.
pub proper_at : (m : Whole) (n : ℕ) → IsMap m → IsTrue (is_brush m n) → ProperFaces (faces_at m n)
proper_at m n map is = faces_proper (format_of m) (faces_at m n) (brush_faces m n map.shape (kind_is m brush n is)).each

module _ (base : ℕ) (base_is : base ≡ 2 ^ 30) (t : ℤ) (fs : List Face) (is : IsSolid (sides_of fs)) (proper : ProperFaces fs) (solids : List (List Side)) (are : solid_pieces.ArePieces bounds reversed_side (sides_of fs) (inner_box t (sides_of fs)) solids) where
  few : length fs ≤ base
  few = let n = few_faces fs is in let e = base_is in omega arith

  pub solids_told : Every (Every (IsTold base fs fs)) solids
  solids_told = pieces_told base fs fs (sides_of fs) (inner_box t (sides_of fs)) solids are (old_told_tags base base_is t fs fs few) (inner_told_tags base base_is t fs fs)

  bounded : AllBounded (piece_lists fs (map (inward t) fs))
  bounded =
      lists_bounded fs (map (inward t) fs) proper (valid_bounded (half_spaces fs) (valid_faces fs is)) (moved_proper t fs proper)

  outer : faces_of base fs fs (sides_of fs) ≡ fs
  outer = old_told base fs fs few

  inner : faces_of base fs fs (inner_box t (sides_of fs)) ≡ map (inward t) fs
  inner = inner_told base base_is t fs fs

  pub walls_are : (b : Below) → IsRight b → walls_of t b fs ≡ map (faces_of base fs fs) solids
  walls_are b right =
      (λ i. pieces b (sym outer i) (sym inner i))
      ∙ pieces_are base fs fs (sides_of fs) (inner_box t (sides_of fs)) solids are (subst AllBounded (λ i. piece_lists (sym outer i) (sym inner i)) bounded) b right

  pub have_walls : (n : ℕ) (walls : List (List Face)) → is_box fs ≡ true → ¬ (HasShortSide (t +ℤ t) (solid.half_spaces (sides_of fs))) → walls ≡ map (faces_of base fs fs) solids → AreWalls t n fs (Ok walls)
  have_walls n walls box long e b right = (walls_are b right ∙ sym e, thin_row fs is box b right t n long)
