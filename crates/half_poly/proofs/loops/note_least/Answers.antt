use Rattle.std.proofs.Common.{◌≡◌, Some, rules, sym, ◌∙◌, ap}
use Rattle.half_arena.specs.Slots.{contents}
use Rattle.half_poly.specs.Rounds.{is_less}
use Rattle.half_poly.proofs.Rounding.{least_noted}
use Rattle.half_poly.proofs.loops.note_least.Goals as goal

pub returns-then-is_less-clause-least : goal.returns-then-is_less-clause-least
returns-then-is_less-clause-least c =
    let E = contents c.args.edges.now in let i : c.at-id.result.0 ≡ c.args.place = search rules in
    let e : E c.args.place ≡ Some c.in-Some.edge.now = search rules in
    least_noted c.in-Some.edge.now c.at-id.result e i c.place-face.ensures c.note.ensures
    (ap (λ o. is_less E c.args.numbers.now c.at-id.result.0 o) (sym c.entry.ensures) ∙ sym c.is_less.ensures ∙ c.if-is_less.true)
