-- The command that makes a box, where no group is linked.
use Rattle.std.proofs.Common.{inl, inr, ◌≡◌, List, [], ◌∷◌, length, map, true, false, not, cond, ◌&&◌, refl, ap, sym, ◌∙◌, subst, arith, None, ℤ, ◌==◌}
use Rattle.std.specs.Prelude.{codes, is_none, int_lt}
use Rattle.std.proofs.lemmas.Bool.{and_parts}
use Rattle.algebra.specs.Members.{◌∈◌, here, there}
use Rattle.algebra.specs.Space.{Vector}
use Rattle.exact_geom.specs.Planes.{ThreePoints, half_space, first_out_of_range, is_zero, is_flat}
use Rattle.moved_laws.proofs.Points.{among_moved}
use Rattle.map_lex.specs.OneToken.{is_material_text}
use Rattle.cmd_text.specs.Kept.{IsPoint}
use Rattle.map_model.specs.Tree.{Whole, Brush, format_of}
use Rattle.map_model.specs.Shape.{Shape, FacesOk}
use Rattle.map_model.specs.Below.{Below, IsRight}
use Rattle.map_model.specs.Brushes.{box_planes}
use Rattle.map_model.specs.Commands.{IsGood, Settings, Box, vector_in, point_in}
use Rattle.map_model.specs.Replies.{PointRange, NoVolume, OutOfWorld}
use Rattle.map_model.specs.Rows.{rows, first, plain_face, is_below_each}
use Rattle.map_model.specs.Own.{own}
use Rattle.map_model.proofs.Members.{decides_less}
use Rattle.map_laws.specs.Unlinked.{Unlinked}
use Rattle.map_laws.specs.BoxCommand.{KeepsMaterial, MaterialLaw, BoxApplyLaw, BoxCommandLaw}
use Rattle.map_laws.proofs.Refused.{refuse_none}
use Rattle.map_laws.proofs.Tests.{not_false}
use Rattle.map_laws.proofs.RowsPass.{rows_pass}
use Rattle.map_laws.proofs.Texts.{name_material, name_some}
use Rattle.map_laws.proofs.NewNodes.{put_in_world}
use Rattle.map_laws.proofs.MovedFaces.{none_out}
use Rattle.map_laws.proofs.MovingCommands.{no_refusal, none_by, no_place}
use Rattle.map_laws.proofs.Boxes.{normals, IsWall, IsNear, box_walls, box_valid}
use Rattle.map_laws.proofs.PlainFaces.{plain_brush}
use Rattle.map_laws.proofs.Unlinking.{Outcome, EndsPlainly, apply_is, accepted_shape}

-- Faces with plain fields. -----------------------------------------------------------------------------------------------------------

-- A wall isn't flat, and its base axes are in range.
pub wall_not_flat : (t : ThreePoints) → IsWall t → is_flat t ≡ false
wall_not_flat t w = ap is_zero w.is ∙ by w.normal w.along
  where
    by : (n : Vector) → n ∈ normals → is_zero n ≡ false
    by n here = refl
    by n (there here) = refl
    by n (there (there here)) = refl
    by n (there (there (there here))) = refl
    by n (there (there (there (there here)))) = refl
    by n (there (there (there (there (there here))))) = refl
    by n (there (there (there (there (there (there i)))))) = elim i [ ]

pub material_kept : MaterialLaw
material_kept s (inl e) = subst (λ t. is_material_text (cond (length t == 0) (codes "__TB_empty") t) ≡ true) (sym e) refl
material_kept s (inr h) = subst (λ b. is_material_text (cond b (codes "__TB_empty") s.material) ≡ true) (sym (name_some s.material h)) (name_material s.material h)

-- The command. -----------------------------------------------------------------------------------------------------------------------

pub near : (p : List ℤ) → IsPoint p → IsNear (point_in p)
near [] h = record { x = omega arith; y = omega arith; z = omega arith }
near (x ∷ []) h = record { x = h.0; y = omega arith; z = omega arith }
near (x ∷ y ∷ []) h = record { x = h.0; y = h.1.0; z = omega arith }
near (x ∷ y ∷ z ∷ more) h = record { x = h.0; y = h.1.0; z = h.1.1.0 }

outcome : (b : Below) (s : Settings) (m : Whole) (x y : List ℤ) → IsRight b → KeepsMaterial s → IsGood (Box x y) → Shape m → Unlinked m → first (rows b s m (Box x y)) ≡ None → Outcome m (Box x y) (own b s m (Box x y))
outcome b s m x y right material good shape u e =
    let r = rows_pass b s m (Box x y) e in
    let faces = map (plain_face s m) (box_planes (point_in x) (point_in y)) in
    let v = vector_in x in
    let w = vector_in y in
    let below = not_false (is_below_each v w) (refuse_none (not (is_below_each v w)) (NoVolume 0) r.volume) in
    let below_x = and_parts (int_lt v.x w.x) (int_lt v.y w.y && int_lt v.z w.z) below in
    let below_y = and_parts (int_lt v.y w.y) (int_lt v.z w.z) below_x.1 in
    let range = no_place (λ f. not (is_none (first_out_of_range f.plane))) 0 faces (no_refusal (PointRange 0) _ r.points) in
    let planes = box_planes (point_in x) (point_in y) in
    let ok : FacesOk (format_of m) faces =
    plain_brush s (format_of m) planes material
    (λ t i. none_out t (none_by (first_out_of_range t) (range (plain_face s m t) (among_moved (plain_face s m) t planes i))) (wall_not_flat t (box_walls (point_in x) (point_in y) t i)))
    (box_valid (point_in x) (point_in y) ((decides_less v.x w.x).0 below_x.0) ((decides_less v.y w.y).0 below_y.0) ((decides_less v.z w.z).0 below_y.1) b right
    (near x good.ranges.0) (near y good.ranges.1) (refuse_none (b.leaves_world (map half_space planes)) (OutOfWorld 0) r.world)) in
    put_in_world m (Box x y) (Brush 0 None faces) shape u refl refl refl refl (λ e. cc) (record { ok = ok; no_link = refl; no_mark = refl })

ends : (b : Below) (s : Settings) (m : Whole) (x y : List ℤ) → EndsPlainly b s m (Box x y)
ends b s m x y = record { accepted = refl; editing = []; edits = λ k. refl }

pub box_apply : BoxApplyLaw
box_apply b s m x y right material good shape u = apply_is b s m (Box x y) (ends b s m x y) u (outcome b s m x y right material good shape u)

pub box_command : BoxCommandLaw
box_command b s m x y a right material good shape u e = accepted_shape b s m (Box x y) a (outcome b s m x y right material good shape u) (sym (box_apply b s m x y right material good shape u) ∙ e)
