use Rattle.std.proofs.Common.{◌<◌, ◌^◌, unsigned_abs, w64, arith, rules, ap, ◌∙◌}
use Rattle.std.proofs.lemmas.Int.{to_z-of_z}
use mir.Val.{SFits}
use Rattle.fixed_num.specs.Shortest.{shortest_decimal}
use Rattle.fixed_num.proofs.Written.{shortest_from_text, reads_back_from_text}
use Rattle.fixed_num.proofs.write.write_nano.Goals as goal

pub returns-clause-text : goal.returns-clause-text
returns-clause-text c =
    let fits : SFits w64 c.value.inside.0 = search rules in
    c.write_count.ensures ∙ ap (shortest_decimal 9) (to_z-of_z w64 c.value.inside.0 fits ∙ c.value.view_is)

pub returns-clause-shortest : goal.returns-clause-shortest
returns-clause-shortest c =
    let below : unsigned_abs c.args.value < 10 ^ 15 = rw (c.value.view_is) at c.value.invariant in
    shortest_from_text 9 c.args.value _ (omega arith) below (returns-clause-text c)

pub returns-clause-reads_back : goal.returns-clause-reads_back
returns-clause-reads_back c =
    let below : unsigned_abs c.args.value < 10 ^ 15 = rw (c.value.view_is) at c.value.invariant in
    reads_back_from_text 9 c.args.value _ (omega arith) below (returns-clause-text c)
