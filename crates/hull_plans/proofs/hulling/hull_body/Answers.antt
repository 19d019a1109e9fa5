use Rattle.std.proofs.Common.{map, length, ap, sym, subst, ◌∙◌, ◌^◌, ◌<◌, IsTrue}
use Rattle.algebra.specs.Members.{Every}
use Rattle.exact_geom.specs.Planes.{is_in_range}
use Rattle.solid_brush.specs.declared.side.Side.{Side}
use Rattle.map_nodes.specs.Seen.{sides_of}
use Rattle.map_model.specs.Tree.{whole}
use Rattle.map_model.specs.Commands.{points_in}
use Rattle.map_model.specs.Rows.{plain_face}
use Rattle.hull_plans.proofs.HullOutcomes.{in_range_each, few_corners, handed_on, fits, hulled}
use Rattle.hull_plans.proofs.hulling.hull_body.Goals as goal

pub hull_at-requires : goal.hull_at-requires
hull_at-requires c =
    let is = c.deref.ensures.value ∙ c.in_ok-corners.ensures ∙ ap points_in c.list.ensures in
    record {
      few = subst (λ l. length l < 2 ^ 32) (sym is) (few_corners c.args.points.now c.requires.good.1);
      range = subst (Every (λ p. IsTrue (is_in_range p))) (sym is) (in_range_each c.args.points.now c.requires.good.0);
    }

pub returns-in_err-solid : goal.returns-in_err-solid
returns-in_err-solid c =
    handed_on c.args.set.now (whole c.args.map.now) c.args.points.now c.deref.result.now c.from_residual-in_err-solid.result c.in_err-solid.field-0.0
    (c.deref.ensures.value ∙ c.in_ok-corners.ensures ∙ ap points_in c.list.ensures) c.from_residual-in_err-solid.ensures.1 c.in_err-solid.ensures

pub of-requires : goal.of-requires
of-requires c =
    let m = whole c.args.map.now in
    let planes = c.in_ok-planes.ensures ∙ ap (map (λ (side : Side). side.plane)) c.sides.ensures.sides in
    let plain = c.in_ok-faces.ensures ∙ ap (map (plain_face c.args.set.now m)) c.deref-2.ensures.value in
    record {
      fits = fits c.args.set.now m c.args.points.now c.deref.result.now c.in_ok-solid.solid c.in_ok-planes.planes.items c.in_ok-faces.faces.items
          (c.deref.ensures.value ∙ c.in_ok-corners.ensures ∙ ap points_in c.list.ensures) c.in_ok-solid.ensures planes plain
          ∙ ap sides_of (sym c.of-rows.ensures);
    }

pub returns : goal.returns
returns c =
    let m = whole c.args.map.now in
    let planes = c.in_ok-planes.ensures ∙ ap (map (λ (side : Side). side.plane)) c.sides.ensures.sides in
    let plain = c.in_ok-faces.ensures ∙ ap (map (plain_face c.args.set.now m)) c.deref-2.ensures.value in
    hulled c.args.set.now m c.args.points.now c.deref.result.now c.in_ok-solid.solid c.in_ok-planes.planes.items c.in_ok-faces.faces.items
    (c.deref.ensures.value ∙ c.in_ok-corners.ensures ∙ ap points_in c.list.ensures) c.in_ok-solid.ensures planes plain c.of.result (c.of.ensures ∙ c.of-rows.ensures)
