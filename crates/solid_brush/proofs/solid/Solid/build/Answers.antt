use Rattle.std.proofs.Common.{rules, ◌∙◌, sym, subst}
use Rattle.trim_laws.specs.Valid.{HasCause, too_many_faces}
use Rattle.half_poly.specs.Readings.{points_of}
use Rattle.solid_brush.specs.Sides.{half_spaces}
use Rattle.solid_brush.proofs.Building.{solid_of, built_of, too_many, few_kept}
use Rattle.solid_brush.proofs.Faces.{vertices_at, no_volume_of, out_of_world_of, built}
use Rattle.solid_brush.proofs.solid.Solid.build.Goals as goal

pub returns-in_default-clause-fault : goal.returns-in_default-clause-fault
returns-in_default-clause-fault c = no_volume_of c.args.sides.now c.in_ok-poly.field-0 c.in_ok-poly.ensures c.in_default.is

pub returns-then-not-lies_in_world-clause-fault : goal.returns-then-not-lies_in_world-clause-fault
returns-then-not-lies_in_world-clause-fault c = out_of_world_of c.args.sides.now c.in_ok-poly.field-0 c.in-Some.poly (points_of c.poly.inside.shape c.poly.inside.named.items) c.in_ok-poly.ensures c.in-Some.is
    (vertices_at c.poly.view_is c.poly.invariant.are_named.are_vertices) c.lies_in_world.result c.lies_in_world.ensures c.if-not-lies_in_world.true

pub overflow_cast-result : goal.overflow_cast-result
overflow_cast-result c =
    let b = built c.args.sides.now c.in_ok-poly.field-0 c.in-Some.poly (points_of c.poly.inside.shape c.poly.inside.named.items) c.in_ok-poly.ensures c.in-Some.is
    (vertices_at c.poly.view_is c.poly.invariant.are_named.are_vertices) c.lies_in_world.result c.lies_in_world.ensures c.in_ok-kept.kept.items c.if-not-lies_in_world.false c.in_ok-kept.ensures in
    let f = few_kept c.args.sides.now c.in_ok-kept.kept.items b.trim c.requires.few in
    let l = c.len-then-len-gt-MOST_FACES.ensures in search rules

pub returns-then-len-gt-MOST_FACES-clause-fault : goal.returns-then-len-gt-MOST_FACES-clause-fault
returns-then-len-gt-MOST_FACES-clause-fault c =
    let b = built c.args.sides.now c.in_ok-poly.field-0 c.in-Some.poly (points_of c.poly.inside.shape c.poly.inside.named.items) c.in_ok-poly.ensures c.in-Some.is
    (vertices_at c.poly.view_is c.poly.invariant.are_named.are_vertices) c.lies_in_world.result c.lies_in_world.ensures c.in_ok-kept.kept.items c.if-not-lies_in_world.false c.in_ok-kept.ensures in
    subst (λ n. HasCause (half_spaces c.args.sides.now) (too_many_faces n)) (sym (c.len-then-len-gt-MOST_FACES.ensures ∙ search rules))
    (too_many c.args.sides.now c.in_ok-kept.kept.items b.corners b.within b.trim
    (let t = c.if-len-gt-MOST_FACES.true in let l = c.len.ensures in search rules))

pub invariant_of-result : goal.invariant_of-result
invariant_of-result c =
    let b = built c.args.sides.now c.in_ok-poly.field-0 c.in-Some.poly (points_of c.poly.inside.shape c.poly.inside.named.items) c.in_ok-poly.ensures c.in-Some.is
    (vertices_at c.poly.view_is c.poly.invariant.are_named.are_vertices) c.lies_in_world.result c.lies_in_world.ensures c.in_ok-kept.kept.items c.if-not-lies_in_world.false c.in_ok-kept.ensures in record {
      solid = solid_of c.args.sides.now c.in_ok-kept.kept.items b.corners c.requires.tags b.within b.trim (let t = c.if-len-gt-MOST_FACES.false in let l = c.len.ensures in search rules);
      same = sym c.in_ok-kept.ensures;
    }

pub returns-clause-built : goal.returns-clause-built
returns-clause-built c =
    let b = built c.args.sides.now c.in_ok-poly.field-0 c.in-Some.poly (points_of c.poly.inside.shape c.poly.inside.named.items) c.in_ok-poly.ensures c.in-Some.is
    (vertices_at c.poly.view_is c.poly.invariant.are_named.are_vertices) c.lies_in_world.result c.lies_in_world.ensures c.in_ok-kept.kept.items c.if-not-lies_in_world.false c.in_ok-kept.ensures in
    built_of c.args.sides.now c.in_ok-kept.kept.items b.corners b.within b.trim (let t = c.if-len-gt-MOST_FACES.false in let l = c.len.ensures in search rules)

pub returns-clause-solid : goal.returns-clause-solid
returns-clause-solid c =
    let b = built c.args.sides.now c.in_ok-poly.field-0 c.in-Some.poly (points_of c.poly.inside.shape c.poly.inside.named.items) c.in_ok-poly.ensures c.in-Some.is
    (vertices_at c.poly.view_is c.poly.invariant.are_named.are_vertices) c.lies_in_world.result c.lies_in_world.ensures c.in_ok-kept.kept.items c.if-not-lies_in_world.false c.in_ok-kept.ensures in
    solid_of c.args.sides.now c.in_ok-kept.kept.items b.corners c.requires.tags b.within b.trim (let t = c.if-len-gt-MOST_FACES.false in let l = c.len.ensures in search rules)
