use Rattle.std.proofs.Common.{rules, length, ◌≡◌, ◌<◌, ◌∙◌, sym, subst}
use Rattle.part_rows.specs.Numbered.{AreNumbered}
use Rattle.part_rows.proofs.Tagged.{one_more_numbered}
use Rattle.part_rows.proofs.sides.add_side.Goals as goal

pub returns : goal.returns
returns g =
    let sides = g.args.sides.now.items in
    let len : g.len-tag.result ≡ length sides = g.len-tag.ensures ∙ search rules in
    let few : g.len-tag.result < 256 = search rules in
    record {
      numbered = subst AreNumbered (sym g.in_ok-push.ensures.items) (one_more_numbered sides (record { plane = g.args.plane; tag = g.len-tag.result }) g.requires.numbered len few);
    }
