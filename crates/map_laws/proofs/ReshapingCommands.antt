-- The commands that remake brushes, where no group is linked: from the shape before to the shape after.
use Rattle.std.proofs.Common.{◌≡◌, [], ◌∷◌, flat_map, true, refl, sym, ◌∙◌, None}
use Rattle.algebra.specs.Members.{here}
use Rattle.map_model.specs.Tree.{Whole, at, format_of, with_faces, faces_at}
use Rattle.map_model.specs.Shape.{Shape}
use Rattle.map_model.specs.Below.{Below, IsRight}
use Rattle.map_model.specs.Commands.{Command, IsGood, Settings, Tex, Clip, Subtract, Intersect, Hollow, Hull, Merge, Vertex, Snap}
use Rattle.map_model.specs.Rows.{rows, first, edits}
use Rattle.map_model.specs.Own.{own, change_at, retextured}
use Rattle.map_laws.specs.Unlinked.{Unlinked}
use Rattle.map_laws.specs.BoxCommand.{KeepsMaterial}
use Rattle.map_laws.specs.Reshaping.{is_reshaping_command, HasPairs, ReshapingApplyLaw, ReshapingCommandLaw}
use Rattle.map_laws.proofs.Refused.{nodes_fit}
use Rattle.map_laws.proofs.TreeCommands.{renewed}
use Rattle.map_laws.proofs.Retexturing.{keeps_faces, faces_put, slot_faces, retextured_ok}
use Rattle.map_laws.proofs.Clipping.{clips}
use Rattle.map_laws.proofs.Subtracting.{subtracts}
use Rattle.map_laws.proofs.Intersecting.{intersects}
use Rattle.map_laws.proofs.Hollowing.{hollows}
use Rattle.map_laws.proofs.Hulling.{hulls}
use Rattle.map_laws.proofs.ChangedFaces.{moves_vertices, snaps}
use Rattle.map_laws.proofs.Merging.{merges}
use Rattle.map_laws.proofs.Unlinking.{Outcome, EndsPlainly, apply_is, accepted_shape}

outcome : (b : Below) (s : Settings) (m : Whole) (c : Command) → IsRight b → KeepsMaterial s → is_reshaping_command c ≡ true → IsGood c → HasPairs c → Shape m → Unlinked m → first (rows b s m c) ≡ None → Outcome m c (own b s m c)
outcome b s m (Tex n face name off rotation scale surface) right material is good two shape u e =
    let c = Tex n face name off rotation scale surface in
    let fs = change_at face (λ f. record f { material = name; tex = retextured off rotation scale surface f.tex }) (faces_at m n) in
    let r = good.ranges in
    renewed m c n (with_faces fs) (keeps_faces fs) shape u (λ x is_x. faces_put (format_of m) fs x (shape.each_node n x is_x)
    (retextured_ok off rotation scale surface two.0 two.1 r.2 r.3 r.4 r.5 (format_of m) name good.texts face (faces_at m n)
    (slot_faces (format_of m) (at m n) face (λ y is_y. shape.each_node n y is_y) ((nodes_fit b s m c e).fit n here))))
outcome b s m (Clip part plane ns) right material is good two shape u e = clips b s m part plane ns right material good shape u e
outcome b s m (Subtract by ns) right material is good two shape u e = subtracts b s m by ns right shape u e
outcome b s m (Intersect ns) right material is good two shape u e = intersects b s m ns right good shape u e
outcome b s m (Hollow thickness ns) right material is good two shape u e = hollows b s m thickness ns right good shape u e
outcome b s m (Hull points) right material is good two shape u e = hulls b s m points material shape u e
outcome b s m (Merge ns) right material is good two shape u e = merges b s m ns right material good shape u e
outcome b s m (Vertex n shift picks) right material is good two shape u e = moves_vertices b s m n shift picks shape u e
outcome b s m (Snap grid ns) right material is good two shape u e = snaps b s m grid ns right good shape u e
outcome b s m c right material is good two shape u e = absurd (cc)

ends : (b : Below) (s : Settings) (m : Whole) (c : Command) → is_reshaping_command c ≡ true → EndsPlainly b s m c
ends b s m (Tex n face name off rotation scale surface) is = record { accepted = refl; editing = flat_map (edits m (Tex n face name off rotation scale surface)) (n ∷ []); edits = λ k. refl }
ends b s m (Clip part plane ns) is = record { accepted = refl; editing = flat_map (edits m (Clip part plane ns)) ns; edits = λ k. refl }
ends b s m (Subtract by ns) is = record { accepted = refl; editing = flat_map (edits m (Subtract by ns)) (by ∷ ns); edits = λ k. refl }
ends b s m (Intersect ns) is = record { accepted = refl; editing = flat_map (edits m (Intersect ns)) ns; edits = λ k. refl }
ends b s m (Hollow thickness ns) is = record { accepted = refl; editing = flat_map (edits m (Hollow thickness ns)) ns; edits = λ k. refl }
ends b s m (Hull points) is = record { accepted = refl; editing = []; edits = λ k. refl }
ends b s m (Merge ns) is = record { accepted = refl; editing = flat_map (edits m (Merge ns)) ns; edits = λ k. refl }
ends b s m (Vertex n shift picks) is = record { accepted = refl; editing = flat_map (edits m (Vertex n shift picks)) (n ∷ []); edits = λ k. refl }
ends b s m (Snap grid ns) is = record { accepted = refl; editing = flat_map (edits m (Snap grid ns)) ns; edits = λ k. refl }
ends b s m c is = absurd (cc)

pub reshaping_apply : ReshapingApplyLaw
reshaping_apply b s m c right material is good two shape u = apply_is b s m c (ends b s m c is) u (outcome b s m c right material is good two shape u)

pub reshaping_command : ReshapingCommandLaw
reshaping_command b s m c a right material is good two shape u e =
    accepted_shape b s m c a (outcome b s m c right material is good two shape u) (sym (reshaping_apply b s m c right material is good two shape u) ∙ e)
