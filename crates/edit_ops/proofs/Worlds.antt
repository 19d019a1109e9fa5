-- The row on the world, by whatever right tests.
use Rattle.std.proofs.Common.{◌≡◌, ℕ, List, [], ◌∷◌, map, Bool, true, false, not, Option, None, Some, Ok, Err, ap, sym, subst, ◌∙◌, inl}
use Rattle.std.specs.Prelude.{is_none}
use Rattle.std.specs.Bool.{Decides}
use Rattle.std.proofs.lemmas.Bool.Decides.{same_from_decides}
use Rattle.algebra.specs.Members.{◌∈◌, here, there}
use Rattle.exact_geom.specs.Planes.{IsPlane, first_out_of_range}
use Rattle.exact_geom.proofs.PlaneLaws.{normal_positive}
use Rattle.trim_laws.specs.Solid.{Proper}
use Rattle.trim_laws.specs.Valid.{Valid, OutOfWorld}
use Rattle.orient48.proofs.Matrices.{is_turn}
use Rattle.moved_laws.proofs.Points.{proper_onto, bounded_onto}
use Rattle.moved_laws.proofs.Staying.{valid_bounded}
use Rattle.map_model.specs.Faces.{Face}
use Rattle.map_model.specs.Motions.{Motion, moved_plane, is_signed_permutation}
use Rattle.map_model.specs.Tree.{Whole, Node, Brush, at, format_of}
use Rattle.map_model.specs.Shape.{half_spaces, FacesOk}
use Rattle.map_model.specs.Below.{Below, IsRight}
use Rattle.map_model.specs.Brushes.{first_beyond}
use Rattle.map_model.specs.Replies.{PointRange, OutOfWorld as LeavesWorld}
use Rattle.map_model.specs.Rows.{refuse}
use Rattle.map_laws.proofs.MovingCommands.{no_refusal, none_by, no_place}
use Rattle.tree_node.specs.Held.{IsMap}
use Rattle.tree_ops.specs.declared.fault.OpFault.TheVariants.{No}
use Rattle.brush_plans.specs.Saying.{Says}
use Rattle.edit_ops.specs.Moving.{moved_spaces, points_of, world_of}
use Rattle.edit_ops.proofs.MovedSolids.{spaces_are}

-- Where no face goes beyond the range of points, the points of each stay in range.
pub faces_in_range : (r : Motion) (n : ℕ) (o : Option Node) (parent : ℕ) (mark : Option ℕ) (fs : List Face) → o ≡ Some (Brush parent mark fs) → points_of r n o ≡ None →
    (f : Face) → f ∈ fs → first_out_of_range (moved_plane r f.plane) ≡ None
faces_in_range r n o parent mark fs is none f i =
    none_by (first_out_of_range (moved_plane r f.plane)) (no_place (λ f. not (is_none (first_out_of_range (moved_plane r f.plane)))) 0 fs
    (no_refusal (PointRange n) (first_beyond (moved_plane r) fs) (sym (ap (points_of r n) is) ∙ none)) f i)

-- The faces of a brush of a map.
pub faces_ok : (m : Whole) → IsMap m → (n parent : ℕ) (mark : Option ℕ) (fs : List Face) → at m n ≡ Some (Brush parent mark fs) → FacesOk (format_of m) fs
faces_ok m map n parent mark fs is = map.shape.each_node n (Brush parent mark fs) is

proper_faces : (fs : List Face) → ((f : Face) → f ∈ fs → IsPlane f.plane) → Proper (half_spaces fs)
proper_faces [] h F i = elim i [ ]
proper_faces (f ∷ fs) h F here = normal_positive f.plane (h f here)
proper_faces (f ∷ fs) h F (there i) = proper_faces fs (λ g j. h g (there j)) F i

-- The tests answer what the points of the moved brush say.
world_is : (b : Below) → IsRight b → (r : Motion) (fs : List Face) → is_signed_permutation r.matrix ≡ true → ((f : Face) → f ∈ fs → IsPlane f.plane) → Valid (half_spaces fs) → (leaves : Bool) →
    Decides leaves (OutOfWorld (moved_spaces r fs)) → b.leaves_world (moved_spaces r fs) ≡ leaves
world_is b right r fs p planes valid leaves d =
    let turn = is_turn r.matrix p in
    let is = spaces_are r fs turn in
    let tests : Decides (b.leaves_world (moved_spaces r fs)) (OutOfWorld (moved_spaces r fs)) =
    subst (λ F. Decides (b.leaves_world F) (OutOfWorld F)) (sym is)
    (right.leaves_world _ (proper_onto r (half_spaces fs) turn (proper_faces fs planes)) (inl (bounded_onto r (half_spaces fs) turn (valid_bounded (half_spaces fs) valid)))) in
    same_from_decides (b.leaves_world (moved_spaces r fs)) leaves tests d

module _ (m : Whole) (map : IsMap m) (r : Motion) (p : is_signed_permutation r.matrix ≡ true) (n parent : ℕ) (mark : Option ℕ) (fs : List Face) (is : at m n ≡ Some (Brush parent mark fs)) where
  answer : (leaves : Bool) → Decides leaves (OutOfWorld (moved_spaces r fs)) → (b : Below) → IsRight b → world_of r n (at m n) b ≡ refuse leaves (LeavesWorld n)
  answer leaves d b right =
      let ok = faces_ok m map n parent mark fs is in
      ap (λ o. world_of r n o b) is ∙ ap (λ t. refuse t (LeavesWorld n)) (world_is b right r fs p (λ f i. (ok.each f i).plane) ok.valid leaves d)

  pub world_stays : (leaves : Bool) → leaves ≡ false → Decides leaves (OutOfWorld (moved_spaces r fs)) → Says (world_of r n (at m n)) (Ok tt)
  world_stays leaves e d b right = answer leaves d b right ∙ ap (λ t. refuse t (LeavesWorld n)) e

  pub world_leaves : (leaves : Bool) → leaves ≡ true → Decides leaves (OutOfWorld (moved_spaces r fs)) → Says (world_of r n (at m n)) (Err (No (LeavesWorld n)))
  world_leaves leaves e d b right = answer leaves d b right ∙ ap (λ t. refuse t (LeavesWorld n)) e
