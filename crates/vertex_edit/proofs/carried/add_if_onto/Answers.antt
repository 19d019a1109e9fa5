use Rattle.std.proofs.Common.{◌≡◌, ◌++◌, true, false, pos, int_eq, ap, ◌∙◌, sym}
use Rattle.std.proofs.lemmas.List.{append-nil}
use Rattle.algebra.specs.Space.{side, whole_point}
use Rattle.exact_geom.specs.Planes.{vector}
use Rattle.hull_search.specs.Slopes.{face}
use Rattle.vertex_edit.proofs.Carries.{onto_one, onto_no}
use Rattle.vertex_edit.proofs.carried.add_if_onto.Goals as goal

pub returns-then-not-lies_on : goal.returns-then-not-lies_on
returns-then-not-lies_on c =
    let e : int_eq (side (face c.args.f.now) (whole_point (vector c.args.place.now))) (pos 0) ≡ false = (let r = c.lies_on.ensures in let t = c.if-not-lies_on.true in cc) in
    sym (ap (λ l. c.args.list.now.items ++ l) (onto_no (face c.args.f.now) c.args.vertex.now c.args.place.now e) ∙ append-nil c.args.list.now.items)

pub returns : goal.returns
returns c =
    let e : int_eq (side (face c.args.f.now) (whole_point (vector c.args.place.now))) (pos 0) ≡ true = (let r = c.lies_on.ensures in let t = c.if-not-lies_on.false in cc) in
    c.in_ok-push.ensures.items ∙ ap (λ l. c.args.list.now.items ++ l) (sym (onto_one (face c.args.f.now) c.args.vertex.now c.args.place.now e))
