use Rattle.std.proofs.Common.{◌≤◌, ◌<◌, length, map, get_or, ap, sym, subst, ◌∙◌, arith}
use Rattle.algebra.specs.Members.{◌∈◌}
use Rattle.trim_laws.specs.Trim.{TrimFaces}
use Rattle.trim_laws.specs.Valid.{Valid}
use Rattle.map_model.specs.Shape.{half_spaces}
use Rattle.map_model.specs.Meant.{plane_of}
use Rattle.map_nodes.proofs.FaceSides.{kept_same, sides_length}
use Rattle.tree_file.proofs.JudgedFaces.{all_needed, solid_of_all, copied, kept_within, some_face}
use Rattle.tree_file.proofs.judged.body_of.Goals as goal

pub of-requires : goal.of-requires
of-requires c =
    let a = ap length c.sides.ensures.sides in
    let b = ap length c.list.ensures in
    let k = sides_length 0 c.args.faces in
    record { fits = kept_same c.requires.built.trim (omega (arith, a, b, k, c.if-sides-list.true)) }

pub returns-then-sides-list-clause-needed : goal.returns-then-sides-list-clause-needed
returns-then-sides-list-clause-needed c =
    let a = ap length c.sides.ensures.sides in
    let b = ap length c.list.ensures in
    let k = sides_length 0 c.args.faces in
    let fits = kept_same c.requires.built.trim (omega (arith, a, b, k, c.if-sides-list.true)) in
    subst (λ l. TrimFaces plane_of c.args.faces l) (sym c.of.ensures) (all_needed c.args.faces (solid_of_all c.args.faces c.args.solid c.requires.solid fits)).0

pub copy_faces_of-requires : goal.copy_faces_of-requires
copy_faces_of-requires c s i =
    subst (λ l. s.tag < length l) (sym c.list-2.ensures) (kept_within c.args.faces c.args.solid c.requires.built s (subst (λ l. s ∈ l) c.sides-2.ensures.sides i))

pub solid_of-requires-clause-few : goal.solid_of-requires-clause-few
solid_of-requires-clause-few c =
    let is = c.in_ok-kept.ensures some_face ∙ (λ j. map (λ s. get_or (c.list-2.ensures j) s.tag some_face) (c.sides-2.ensures.sides j)) in
    let few = (copied c.args.faces c.in_ok-kept.kept c.args.solid c.requires.solid c.requires.built is).few in
    subst (λ l. length l ≤ 256) (sym c.list-3.ensures) (omega (arith, few))

pub solid_of-requires-clause-valid : goal.solid_of-requires-clause-valid
solid_of-requires-clause-valid c =
    let is = c.in_ok-kept.ensures some_face ∙ (λ j. map (λ s. get_or (c.list-2.ensures j) s.tag some_face) (c.sides-2.ensures.sides j)) in
    subst (λ l. Valid (half_spaces l)) (sym c.list-3.ensures) (copied c.args.faces c.in_ok-kept.kept c.args.solid c.requires.solid c.requires.built is).valid

pub returns-clause-needed : goal.returns-clause-needed
returns-clause-needed c =
    let is = c.in_ok-kept.ensures some_face ∙ (λ j. map (λ s. get_or (c.list-2.ensures j) s.tag some_face) (c.sides-2.ensures.sides j)) in
    subst (λ l. TrimFaces plane_of c.args.faces l) (sym c.of-2.ensures) (copied c.args.faces c.in_ok-kept.kept c.args.solid c.requires.solid c.requires.built is).needed

pub returns-clause-most : goal.returns-clause-most
returns-clause-most c =
    let is = c.in_ok-kept.ensures some_face ∙ (λ j. map (λ s. get_or (c.list-2.ensures j) s.tag some_face) (c.sides-2.ensures.sides j)) in
    subst (λ l. length l ≤ 128) (sym c.of-2.ensures) (copied c.args.faces c.in_ok-kept.kept c.args.solid c.requires.solid c.requires.built is).few
