-- The vertices of a box tell whether its walls would be too thick.
use Rattle.std.proofs.Common.{◌≡◌, ◌⊎◌, inl, inr, ⊎_elim, List, Bool, true, false, ◌||◌, None, Some, refl, ap, sym, subst, ℤ, ◌+ℤ◌, ◌-ℤ◌, ℕ}
use Rattle.std.specs.Prelude.{int_le}
use Rattle.std.specs.List.{list_all}
use Rattle.algebra.specs.Space.{Vector, Homogeneous}
use Rattle.solid_laws.specs.Names.{AreVertices}
use Rattle.solid_brush.specs.Sides.{IsSolid}
use Rattle.solid_brush.specs.Sides as solid
use Rattle.map_nodes.specs.Seen.{sides_of}
use Rattle.map_model.specs.Faces.{Face}
use Rattle.map_model.specs.Shape.{half_spaces}
use Rattle.map_model.specs.Below.{Below, IsRight}
use Rattle.map_model.specs.Brushes.{is_box, vertices_of}
use Rattle.map_model.specs.Replies.{Thick}
use Rattle.map_model.specs.Rows.{refuse, is_short_along, has_short_side}
use Rattle.map_model.proofs.Members.{decides_most}
use Rattle.map_laws.proofs.Tests.{all_true, all_by}
use Rattle.csg_ops.specs.Hollows.{HasShortSide}
use Rattle.csg_ops.specs.Laws.{AreNear, ShortByVertices}
use Rattle.csg_ops.proofs.ShortVertices.{short_by_vertices}
use Rattle.cut_plans.proofs.Faces.{spaces}
use Rattle.cut_plans.proofs.Trimmed.{valid_faces}
use Rattle.hollow_plans.specs.Walls.{too_thick}
use Rattle.hollow_plans.proofs.BoxTests.{box_sides}

-- A length along one coordinate.
near_of : (coordinate : Vector → ℤ) (length : ℤ) (V : List Homogeneous) → is_short_along (λ v. coordinate v.vector) length V ≡ true → AreNear coordinate length V
near_of coordinate length V e v w i j =
    (decides_most (coordinate v.vector -ℤ coordinate w.vector) length).0
    (all_true (λ w. int_le (coordinate v.vector -ℤ coordinate w.vector) length) V (all_true (λ v. list_all (λ w. int_le (coordinate v.vector -ℤ coordinate w.vector) length) V) V e v i) w j)

of_near : (coordinate : Vector → ℤ) (length : ℤ) (V : List Homogeneous) → AreNear coordinate length V → is_short_along (λ v. coordinate v.vector) length V ≡ true
of_near coordinate length V h =
    all_by (λ v. list_all (λ w. int_le (coordinate v.vector -ℤ coordinate w.vector) length) V) V
    (λ v i. all_by (λ w. int_le (coordinate v.vector -ℤ coordinate w.vector) length) V (λ w j. (decides_most (coordinate v.vector -ℤ coordinate w.vector) length).1 (h v w i j)))

-- Along one of the three.
one_of : {P Q R : Type 0} (p q r : Bool) → (p ≡ true → P) → (q ≡ true → Q) → (r ≡ true → R) → (p || (q || r)) ≡ true → P ⊎ (Q ⊎ R)
one_of true q r f g h e = inl (f refl)
one_of false true r f g h e = inr (inl (g refl))
one_of false false r f g h e = inr (inr (h e))

first_or : (p q r : Bool) → p ≡ true → (p || (q || r)) ≡ true
first_or p q r e = ap (λ t. t || (q || r)) e

second_or : (p q r : Bool) → q ≡ true → (p || (q || r)) ≡ true
second_or true q r e = refl
second_or false q r e = ap (λ t. t || r) e

third_or : (p q r : Bool) → r ≡ true → (p || (q || r)) ≡ true
third_or true q r e = refl
third_or false true r e = refl
third_or false false r e = e

abbrev Near : ℤ → List Homogeneous → Type 0
Near length V = AreNear (λ v. v.x) length V ⊎ (AreNear (λ v. v.y) length V ⊎ AreNear (λ v. v.z) length V)

abbrev short : (Vector → ℤ) → ℤ → List Homogeneous → Bool
short coordinate length V = is_short_along (λ v. coordinate v.vector) length V

near_side : (length : ℤ) (V : List Homogeneous) → has_short_side length V ≡ true → Near length V
near_side length V e = one_of (short (λ v. v.x) length V) (short (λ v. v.y) length V) (short (λ v. v.z) length V) (near_of (λ v. v.x) length V) (near_of (λ v. v.y) length V) (near_of (λ v. v.z) length V) e

side_near : (length : ℤ) (V : List Homogeneous) → Near length V → has_short_side length V ≡ true
side_near length V near =
    let p = short (λ v. v.x) length V in
    let q = short (λ v. v.y) length V in
    let r = short (λ v. v.z) length V in
    ⊎_elim (λ x. first_or p q r (of_near (λ v. v.x) length V x))
    (λ k. ⊎_elim (λ y. second_or p q r (of_near (λ v. v.y) length V y)) (λ z. third_or p q r (of_near (λ v. v.z) length V z)) k) near

not_so : (t : Bool) → (t ≡ true → ⊥) → t ≡ false
not_so true n = absurd (n refl)
not_so false n = refl

module _ (fs : List Face) (is : IsSolid (sides_of fs)) (box : is_box fs ≡ true) (b : Below) (right : IsRight b) where
  vertices : AreVertices (solid.half_spaces (sides_of fs)) (vertices_of b fs)
  vertices = subst (λ F. AreVertices F (vertices_of b fs)) (sym (spaces 0 fs)) (right.vertices (half_spaces fs) (valid_faces fs is))

  by_vertices : ShortByVertices (solid.half_spaces (sides_of fs)) (vertices_of b fs)
  by_vertices = short_by_vertices (sides_of fs) (vertices_of b fs) is (box_sides fs box) vertices

  pub thick_row : (t : ℤ) (n : ℕ) → HasShortSide (t +ℤ t) (solid.half_spaces (sides_of fs)) → too_thick t n fs b ≡ Some (Thick n)
  thick_row t n h = ap (λ x. refuse x (Thick n)) (side_near (t +ℤ t) (vertices_of b fs) ((by_vertices.short (t +ℤ t)).0 h))

  pub thin_row : (t : ℤ) (n : ℕ) → ¬ (HasShortSide (t +ℤ t) (solid.half_spaces (sides_of fs))) → too_thick t n fs b ≡ None
  thin_row t n none = ap (λ x. refuse x (Thick n)) (not_so (has_short_side (t +ℤ t) (vertices_of b fs)) (λ e. none ((by_vertices.short (t +ℤ t)).1 (near_side (t +ℤ t) (vertices_of b fs) e))))
