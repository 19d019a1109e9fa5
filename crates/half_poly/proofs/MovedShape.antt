-- A polyhedron's arenas, moved.
use Rattle.std.proofs.Common.{◌≡◌, ℕ, Bool, true, false, IsTrue, List, [], ◌∷◌, map, Option, Some, None, refl, sym, ap, subst, ◌∙◌}
use Rattle.std.specs.Option.{option_map}
use Rattle.algebra.specs.Members.{◌∈◌, here, there as further, Every}
use Rattle.algebra.specs.Space.{Homogeneous}
use Rattle.algebra.proofs.Members.{member_at}
use Rattle.exact_geom.specs.Planes.{first_out_of_range}
use Rattle.half_arena.specs.Slots.{Slots, contents, slot_at}
use Rattle.half_arena.specs.declared.ids.FaceId.{FaceId}
use Rattle.half_arena.specs.declared.ids.VertId.{VertId}
use Rattle.orient48.specs.Motions.{Motion, is_signed_permutation, is_flip, moved_plane}
use Rattle.half_poly.specs.declared.links.Face.{Face}
use Rattle.half_poly.specs.declared.names.Name.{Name}
use Rattle.half_poly.specs.declared.shape.Shape.{Shape}
use Rattle.half_poly.specs.Readings.{IsPoly}
use Rattle.half_poly.specs.Shapes.{Tagged, solid_of, side_at, sides_of, IsShape, DistinctTags, no_sides, one_more_side}
use Rattle.half_poly.specs.Moving.{moved_face, moved_side, AreSlotNames, CanMove, SaysMoved, SomeLeaves, LiesInWorld, IsMovedShape, IsMovedTo}
use Rattle.half_poly.specs.Turned.{AreMovedEdges}
use Rattle.half_poly.proofs.Listed.{image}
use Rattle.half_poly.proofs.Making.{is_some_of}
use Rattle.half_poly.proofs.MovedArenas.{can_move, shape, sides, lies, outside}
use Rattle.half_poly.proofs.Naming.{number_of, id_at, no_face}
use Rattle.half_poly.proofs.Shaping.{side_is}

-- ---- copies
pub same_slots : {T : Type 0} (old new : Slots T) → new.slots ≡ old.slots → contents new ≡ contents old
same_slots old new q = ap slot_at q

pub range_still : (r : Motion) (old new : Slots Face) → new.slots ≡ old.slots → ((k : ℕ) (f : Face) → contents old k ≡ Some f → first_out_of_range (moved_plane r f.plane) ≡ None) →
    (k : ℕ) (f : Face) → contents new k ≡ Some f → first_out_of_range (moved_plane r f.plane) ≡ None
range_still r old new q h k f e = h k f (sym (ap (λ m. m k) (same_slots old new q)) ∙ e)

-- ---- the passes
module _ (r : Motion) (signed : IsTrue (is_signed_permutation r.matrix)) (old : Shape) (sh : IsShape (contents old.vertices) (contents old.edges) (contents old.faces) old.order.items)
    (vertices after : Slots Homogeneous) (faces moved : Slots Face) (v : vertices.slots ≡ old.vertices.slots) (f : faces.slots ≡ old.faces.slots)
    (passed : (k : ℕ) → contents moved k ≡ option_map (moved_face r) (contents faces k)) where
  faces_moved : (k : ℕ) → contents moved k ≡ option_map (moved_face r) (contents old.faces k)
  faces_moved k = passed k ∙ ap (λ m. option_map (moved_face r) (m k)) (same_slots old.faces faces f)

  module _ (names names_read : List Name) (order : List FaceId) (result : Bool) (n : names_read ≡ names) (o : order ≡ old.order.items) (named : AreSlotNames (contents old.vertices) (solid_of (sides_of (contents old.faces) old.order.items)) names)
      (says : (s : Motion) → ((x : ℕ) → CanMove s (contents moved) order names_read (contents vertices) x) → SaysMoved s (contents vertices) (contents after) result) where
    told : SaysMoved r (contents old.vertices) (contents after) result
    told = subst (λ m. SaysMoved r m (contents after) result) (same_slots old.vertices vertices v) (says r can)
      where
        can : (x : ℕ) → CanMove r (contents moved) order names_read (contents vertices) x
        can x = subst (λ m. CanMove r (contents moved) order names_read m x) (sym (same_slots old.vertices vertices v))
            (subst (λ l. CanMove r (contents moved) l names_read (contents old.vertices) x) (sym o)
            (subst (λ l. CanMove r (contents moved) old.order.items l (contents old.vertices) x) (sym n) (can_move r signed sh (contents moved) faces_moved names named x)))

    pub some_out : result ≡ false → SomeLeaves r (contents old.vertices)
    some_out q = subst (SaysMoved r (contents old.vertices) (contents after)) q told

    pub all_in : (new : Shape) (flips : Bool) → flips ≡ is_flip r.matrix → AreMovedEdges flips (contents old.edges) (contents new.edges) → result ≡ true → new.vertices ≡ after → new.faces ≡ moved → new.order.items ≡ old.order.items →
        IsMovedShape r old (Some new)
    all_in new flips e edges q a b c = (
      subst (IsShape (contents new.vertices) (contents new.edges) (contents new.faces)) (sym c) stands,
      subst (λ l. sides_of (contents new.faces) l ≡ map (moved_side r) (sides_of (contents old.faces) old.order.items)) (sym c) (sides r signed sh (contents new.faces) faces_new),
      subst (λ l. LiesInWorld (solid_of (sides_of (contents new.faces) l))) (sym c) (lies r signed sh (contents new.faces) faces_new (contents new.vertices) slots_new (contents new.edges) stands),
    )
      where
        faces_new : (k : ℕ) → contents new.faces k ≡ option_map (moved_face r) (contents old.faces k)
        faces_new k = ap (λ (m : Slots Face). contents m k) b ∙ faces_moved k

        slots_new : SaysMoved r (contents old.vertices) (contents new.vertices) true
        slots_new = subst (λ (m : Slots Homogeneous). SaysMoved r (contents old.vertices) (contents m) true) (sym a) (subst (SaysMoved r (contents old.vertices) (contents after)) q told)

        stands : IsShape (contents new.vertices) (contents new.edges) (contents new.faces) old.order.items
        stands = shape r signed sh (contents new.faces) faces_new (contents new.vertices) slots_new (contents new.edges) flips e edges

-- ---- the whole
apart_moved : (r : Motion) (s : Tagged) (l : List Tagged) → Every (λ t. ¬ (s.tag ≡ t.tag)) l → Every (λ t. ¬ (s.tag ≡ t.tag)) (map (moved_side r) l)
apart_moved r s [] n t m = elim m [ ]
apart_moved r s (x ∷ l) n t here = n x here
apart_moved r s (x ∷ l) n t (further m) = apart_moved r s l (λ y i. n y (further i)) t m

distinct_moved : (r : Motion) (l : List Tagged) → DistinctTags l → DistinctTags (map (moved_side r) l)
distinct_moved r [] no_sides = no_sides
distinct_moved r (s ∷ l) (one_more_side apart others) = one_more_side (apart_moved r s l apart) (distinct_moved r l others)

module _ (r : Motion) (signed : IsTrue (is_signed_permutation r.matrix)) {old : Shape} {named : List VertId} {loops : List (List ℕ)} (p : IsPoly old named loops) (now : List Tagged) (view : sides_of (contents old.faces) old.order.items ≡ now) where
  pub range_of : Every (λ s. first_out_of_range (moved_plane r s.plane) ≡ None) now → (k : ℕ) (f : Face) → contents old.faces k ≡ Some f → first_out_of_range (moved_plane r f.plane) ≡ None
  range_of h k f q =
      let n = number_of p.stands k (is_some_of q) in
      let id = id_at p.stands n.number in
      subst (λ (s : Tagged). first_out_of_range (moved_plane r s.plane) ≡ None) (side_is (contents old.faces) id f (ap (contents old.faces) n.slot ∙ q))
      (h (side_at (contents old.faces) id) (subst (λ l. side_at (contents old.faces) id ∈ l) view (image (side_at (contents old.faces)) old.order.items id (member_at old.order.items n.number no_face n.within))))

  pub leaves : (o : Option Shape) → o ≡ None → IsMovedShape r old o → IsMovedTo r now None
  leaves o q m = subst (λ l. IsMovedTo r l None) view (outside r signed p.stands (λ k. option_map (moved_face r) (contents old.faces k)) (λ k. refl) (subst (IsMovedShape r old) q m))

  module _ (o : Option Shape) (new : Shape) (q : o ≡ Some new) (m : IsMovedShape r old o) where
    there_moved : IsMovedShape r old (Some new)
    there_moved = subst (IsMovedShape r old) q m

    pub new_shape : IsShape (contents new.vertices) (contents new.edges) (contents new.faces) new.order.items
    new_shape = there_moved.0

    pub new_tags : DistinctTags (sides_of (contents new.faces) new.order.items)
    new_tags = subst DistinctTags (sym there_moved.1) (distinct_moved r (sides_of (contents old.faces) old.order.items) p.tags)

    pub moved_to : (poly : List Tagged) → poly ≡ sides_of (contents new.faces) new.order.items → IsMovedTo r now (Some poly)
    moved_to poly e = (e ∙ there_moved.1 ∙ ap (map (moved_side r)) view, subst (λ l. LiesInWorld (solid_of l)) (sym e) there_moved.2)
