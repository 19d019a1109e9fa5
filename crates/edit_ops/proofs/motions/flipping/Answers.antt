use Rattle.std.proofs.Common.{◌≡◌, true, ap, sym, subst, ◌∙◌}
use Rattle.orient48.specs.Motions.{is_short, along}
use Rattle.edit_ops.proofs.WaysBack.{twice, short_twice}
use Rattle.edit_ops.proofs.motions.flipping.Goals as goal

pub kept-requires : goal.kept-requires
kept-requires c = subst (λ v. is_short v ≡ true) (sym (c.along.ensures ∙ ap (along c.args.axis) (twice c.args.at c.requires))) (short_twice c.args.axis c.args.at c.requires)

pub returns : goal.returns
returns c =
    let shift = c.along.ensures ∙ ap (along c.args.axis) (twice c.args.at c.requires) in
    c.kept.ensures ∙ (λ i. record { matrix = c.flip.ensures i; shift = shift i })
