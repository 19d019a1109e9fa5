-- Which row refuses a box, and that its faces are all needed.
use Rattle.std.proofs.Common.{inr, ◌≡◌, List, [], ◌∷◌, map, Bool, true, false, not, ◌&&◌, refl, ap, sym, ◌∙◌, subst, arith, None, Some, ℤ, Result, Ok, Err, ◌<ℤ◌}
use Rattle.std.specs.Prelude.{int_lt, IsErrAnd}
use Rattle.std.proofs.lemmas.Bool.{and_parts}
use Rattle.algebra.specs.Space.{HalfSpace}
use Rattle.exact_geom.specs.declared.point.Point.{Point}
use Rattle.exact_geom.specs.Planes.{ThreePoints, half_space, vector}
use Rattle.trim_laws.specs.Solid.{Proper}
use Rattle.trim_laws.specs.Trim.{Trim}
use Rattle.trim_laws.specs.Valid.{NoVolume as HasNoVolume, OutOfWorld as LeavesWorld}
use Rattle.map_model.specs.Tree.{Whole}
use Rattle.map_model.specs.Below.{Below, IsRight}
use Rattle.map_model.specs.Brushes.{box_planes}
use Rattle.map_model.specs.Commands.{Settings, Box, point_in}
use Rattle.map_model.specs.Faces.{Face}
use Rattle.map_model.specs.Replies.{Refusal, NoVolume, OutOfWorld}
use Rattle.map_model.specs.Rows.{first, refuse, plain_face, is_below_each, point_range, no_volume, out_of_world}
use Rattle.map_model.specs.Shape.{half_spaces}
use Rattle.map_model.proofs.Members.{decides_less}
use Rattle.map_laws.proofs.Boxes.{box_is, trim, proper, some_volume}
use Rattle.tree_ops.specs.declared.fault.OpFault.{OpFault}
use Rattle.tree_ops.specs.declared.fault.OpFault.TheVariants.{No, Memory}
use Rattle.tree_ops.proofs.Outcomes.{err_is}
use Rattle.edit_ops.specs.Walls.{IsNear, range_from, AreWalls}
use Rattle.brush_plans.specs.Bodies.{AreNeeded, IsBodyOf}
use Rattle.edit_ops.specs.Boxes.{box_faces, RowsSay, IsBox}

-- The half-spaces of a box. ------------------------------------------------------------------------------------------------------

abbrev halves : Point → Point → List HalfSpace
halves a b = map half_space (box_planes a b)

pub record IsBelow (a b : Point) : Type 0 where
  pub x : a.x <ℤ b.x
  pub y : a.y <ℤ b.y
  pub z : a.z <ℤ b.z

pub is_below : (a b : Point) → is_below_each (vector a) (vector b) ≡ true → IsBelow a b
is_below a b e =
    let first_two = and_parts (int_lt a.x b.x) (int_lt a.y b.y && int_lt a.z b.z) e in
    let last_two = and_parts (int_lt a.y b.y) (int_lt a.z b.z) first_two.1 in record {
      x = (decides_less a.x b.x).0 first_two.0;
      y = (decides_less a.y b.y).0 last_two.0;
      z = (decides_less a.z b.z).0 last_two.1;
    }

module _ (a b : Point) (below : IsBelow a b) where
  halves_trimmed : Trim (halves a b) (halves a b)
  halves_trimmed = subst (λ F. Trim F F) (sym (box_is a b)) (trim a b below.x below.y below.z)

  halves_proper : Proper (halves a b)
  halves_proper = subst Proper (sym (box_is a b)) (proper a b below.x below.y below.z)

  halves_have_volume : IsNear a → IsNear b → ¬ (HasNoVolume (halves a b))
  halves_have_volume low high = subst (λ F. ¬ (HasNoVolume F)) (sym (box_is a b)) (some_volume a b below.x below.y below.z low high)

  pub box_needed : (s : Settings) (m : Whole) → IsNear a → IsNear b → AreNeeded (map (plain_face s m) (box_planes a b))
  box_needed s m low high = record { trimmed = halves_trimmed; most = omega arith; volume = halves_have_volume low high }

  -- Right tests tell whether the box leaves the world.
  leaves_is : (t : Below) → IsRight t → IsNear a → IsNear b → LeavesWorld (halves a b) → t.leaves_world (halves a b) ≡ true
  leaves_is t right low high out = (right.leaves_world (halves a b) halves_proper (inr (halves_have_volume low high))).1 out

  stays_is : (t : Below) → IsRight t → IsNear a → IsNear b → ¬ (LeavesWorld (halves a b)) → t.leaves_world (halves a b) ≡ false
  stays_is t right low high stays = by (t.leaves_world (halves a b)) refl
    where
      by : (c : Bool) → t.leaves_world (halves a b) ≡ c → c ≡ false
      by true e = absurd (stays ((right.leaves_world (halves a b) halves_proper (inr (halves_have_volume low high))).0 e))
      by false e = refl

-- Corners as points.
pub walls_of : (a b p q : Point) (r : Result (List ThreePoints) Refusal) → a ≡ p → b ≡ q → AreWalls a b r → AreWalls p q r
walls_of a b p q r e f h = subst (λ k. AreWalls p k r) f (subst (λ k. AreWalls k b r) e h)

pub below_of : (a b p q : Point) (t : Bool) → a ≡ p → b ≡ q → t ≡ is_below_each (vector a) (vector b) → (c : Bool) → t ≡ c → is_below_each (vector p) (vector q) ≡ c
below_of a b p q t e f h c k = (λ i. is_below_each (vector (sym e i)) (vector (sym f i))) ∙ sym h ∙ k

-- The rows. ----------------------------------------------------------------------------------------------------------------------

module _ (s : Settings) (m : Whole) (x y : List ℤ) where
  abbrev low : Point
  low = point_in x

  abbrev high : Point
  high = point_in y

  pub beyond_range : (refusal : Refusal) → AreWalls low high (Err refusal) → RowsSay s m x y (Some refusal)
  beyond_range refusal e b right = ap (λ o. first (o ∷ no_volume b m (Box x y) ∷ out_of_world b s m (Box x y) ∷ [])) e

  module _ (range : range_from 0 (box_planes low high) ≡ None) where
    passes_range : (b : Below) → first (point_range s m (Box x y) ∷ no_volume b m (Box x y) ∷ out_of_world b s m (Box x y) ∷ []) ≡ first (no_volume b m (Box x y) ∷ out_of_world b s m (Box x y) ∷ [])
    passes_range b = ap (λ o. first (o ∷ no_volume b m (Box x y) ∷ out_of_world b s m (Box x y) ∷ [])) range

    pub not_below : is_below_each (vector low) (vector high) ≡ false → RowsSay s m x y (Some (NoVolume 0))
    not_below e b right = passes_range b ∙ ap (λ t. first (refuse (not t) (NoVolume 0) ∷ out_of_world b s m (Box x y) ∷ [])) e

    module _ (below : is_below_each (vector low) (vector high) ≡ true) where
      last_row : (b : Below) (leaves : Bool) → b.leaves_world (halves low high) ≡ leaves → first (point_range s m (Box x y) ∷ no_volume b m (Box x y) ∷ out_of_world b s m (Box x y) ∷ []) ≡ first (refuse leaves (OutOfWorld 0) ∷ [])
      last_row b leaves e =
          passes_range b ∙ ap (λ t. first (refuse (not t) (NoVolume 0) ∷ out_of_world b s m (Box x y) ∷ [])) below ∙ ap (λ t. first (refuse t (OutOfWorld 0) ∷ [])) e

      pub body_is_box : IsNear low → IsNear high → (faces : List Face) → faces ≡ box_faces s m x y → (r : Result (List Face) OpFault) → IsBodyOf faces 0 r → IsBox s m x y r
      body_is_box near far faces is (Ok body) h = (
        h.0 ∙ is,
        λ b right.
            last_row b false (stays_is low high (is_below low high below) b right near far (subst (λ l. ¬ (LeavesWorld (half_spaces l))) is h.1)),
      )
      body_is_box near far faces is (Err (No refusal)) h = subst (λ r. RowsSay s m x y (Some r)) (sym h.0) (λ b right.
          last_row b true (leaves_is low high (is_below low high below) b right near far (subst (λ l. LeavesWorld (half_spaces l)) is h.1)))
      body_is_box near far faces is (Err Memory) h = tt

-- A fault is handed on.
pub handed_on : (s : Settings) (m : Whole) (x y : List ℤ) (r : Result (List Face) OpFault) (why : OpFault) → IsErrAnd r (λ e. e ≡ why) → IsBox s m x y (Err why) → IsBox s m x y r
handed_on s m x y r why e = subst (IsBox s m x y) (sym (err_is r why e))
