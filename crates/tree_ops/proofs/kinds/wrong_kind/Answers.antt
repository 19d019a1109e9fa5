use Rattle.std.specs.Prelude.{not}
use Rattle.map_model.specs.Tree.{whole}
use Rattle.map_model.specs.Rows.{fits, refuse, at_each}
use Rattle.tree_ops.specs.Passing.{passes}
use Rattle.map_model.specs.Replies.{WrongKind}
use Rattle.std.proofs.Common.{ap, ◌∙◌, Err}
use Rattle.tree_ops.proofs.RowLoops.{refused_at, passed_one, passed_all, refused_where, passed_where}
use Rattle.tree_ops.proofs.kinds.wrong_kind.Goals as goal

pub loop-id-preserved : goal.loop-id-preserved
loop-id-preserved c = passed_one (λ n. not (fits (whole c.args.map.now) c.args.c.now n)) WrongKind c.args.ids.now c.loop-id.id-index c.id-item.result c.loop-id-test.true c.id-item.is c.loop-id.invariant
    (passed_where c.fits.ensures c.if-not-fits.false)

pub returns-then-not-fits : goal.returns-then-not-fits
returns-then-not-fits c = ap (λ n. Err (WrongKind n)) c.number.ensures ∙ refused_at (λ n. not (fits (whole c.args.map.now) c.args.c.now n)) WrongKind c.args.ids.now c.loop-id.id-index c.id-item.result c.loop-id-test.true c.id-item.is c.loop-id.invariant
    (refused_where c.fits.ensures c.if-not-fits.true)
    ∙ ap (λ l. passes (at_each l (λ n. refuse (not (fits (whole c.args.map.now) c.args.c.now n)) (WrongKind n)))) c.requires.these

pub returns : goal.returns
returns c = passed_all (λ n. not (fits (whole c.args.map.now) c.args.c.now n)) WrongKind c.args.ids.now c.loop-id.id-index c.loop-id-test.false c.loop-id.invariant
    ∙ ap (λ l. passes (at_each l (λ n. refuse (not (fits (whole c.args.map.now) c.args.c.now n)) (WrongKind n)))) c.requires.these
