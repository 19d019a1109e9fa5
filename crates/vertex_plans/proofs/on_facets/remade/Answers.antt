use Rattle.std.proofs.Common.{ap, sym, subst, ◌∙◌}
use Rattle.map_nodes.specs.Seen.{sides_of}
use Rattle.vertex_plans.specs.Remade.{AreFacesOn}
use Rattle.vertex_plans.proofs.Changed.{sides_are}
use Rattle.vertex_plans.proofs.on_facets.remade.Goals as goal

pub of-requires-2 : goal.of-requires-2
of-requires-2 c =
    let faces = c.in_ok-faces.faces.items in
    let a = subst (λ old. AreFacesOn old c.list.result.now c.sides.result.now faces) c.faces.ensures.faces c.in_ok-faces.ensures in
    let b = subst (λ facets. AreFacesOn c.args.old.now facets c.sides.result.now faces) c.list.ensures a in
    let d = subst (λ sides. AreFacesOn c.args.old.now c.args.moved.facets sides faces) c.sides.ensures.sides b in
    record { fits = sides_are c.args.old.now c.args.moved.facets c.args.moved.solid faces c.requires.from d ∙ sym (ap sides_of c.of.ensures) }
