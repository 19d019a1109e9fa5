use Rattle.std.proofs.Common.{[], ◌∷◌, ℤ, pos, rules, to_z, of_z}
use Rattle.std.specs.Int.{w128}
use Rattle.std.proofs.lemmas.Bool.Decides.{Decides-int_eq}
use Rattle.std.proofs.lemmas.Slice.Eq.{slice_eq-Decides}
use Rattle.vertex_edit.proofs.Shifted.{at_point, widened}
use Rattle.vertex_edit.proofs.picks.is_at.Goals as goal

abbrev wide : ℤ → ℤ
wide a = to_z w128 (of_z w128 a)

pub returns : goal.returns
returns c = at_point c.args.vertex.now c.args.p.now c.parts.result (wide c.from.result) (wide c.from-2.result) (wide c.from-3.result) c.eq.result c.parts.ensures.parts
    (widened c.args.p.now.x c.from.result (search rules) c.from.ensures) (widened c.args.p.now.y c.from-2.result (search rules) c.from-2.ensures) (widened c.args.p.now.z c.from-3.result (search rules) c.from-3.ensures)
    (slice_eq-Decides Decides-int_eq c.parts.result (wide c.from.result ∷ wide c.from-2.result ∷ wide c.from-3.result ∷ pos 1 ∷ []) c.eq.result c.eq.ensures)
