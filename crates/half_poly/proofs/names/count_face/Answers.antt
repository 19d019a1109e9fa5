use Rattle.std.proofs.Common.{◌≡◌, Some, rules, refl, ◌∙◌, ap, subst, ◌≤◌, length, get_or}
use Rattle.half_arena.specs.Slots.{contents}
use Rattle.half_poly.specs.Names.{no_name, with_number}
use Rattle.half_poly.proofs.Counted.{names_skip, names_past, names_put}
use Rattle.half_poly.proofs.names.count_face.Goals as goal

pub returns-in_default-clause-names : goal.returns-in_default-clause-names
returns-in_default-clause-names c = λ count within b. names_skip (contents c.args.edges.now) c.args.numbers.now count c.args.names.now c.args.place b (search rules)

pub returns-else-vertex-names-clause-names : goal.returns-else-vertex-names-clause-names
returns-else-vertex-names-clause-names c = λ count within b.
    let e : contents c.args.edges.now c.args.place ≡ Some c.in-Some.edge.now = search rules in
    names_past (contents c.args.edges.now) c.args.numbers.now count c.args.names.now c.args.place b c.in-Some.edge.now e (subst (λ k. length c.args.names.now ≤ k) c.place-vertex.ensures c.if-vertex-names.false)

pub returns-then-vertex-names-clause-names : goal.returns-then-vertex-names-clause-names
returns-then-vertex-names-clause-names c = λ count within b.
    let e : contents c.args.edges.now c.args.place ≡ Some c.in-Some.edge.now = search rules in
    names_put (contents c.args.edges.now) c.args.numbers.now count c.args.names.now c.args.place b c.in-Some.edge.now _ c.place-vertex.result c.with_number.result e c.place-vertex.ensures c.if-vertex-names.true
    (within c.args.place c.in-Some.edge.now e) (c.with_number.ensures ∙ ap (λ k. with_number (get_or c.args.names.now c.place-vertex.result no_name) k) (c.number_at.ensures ∙ ap (λ k. get_or c.args.numbers.now k 0) c.place.ensures)) refl
