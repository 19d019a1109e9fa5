use Rattle.std.proofs.Common.{true≢false, sym, subst, ◌∙◌, ◌+◌}
use Rattle.solid_brush.specs.Sides.{bounds}
use Rattle.exact_geom.specs.Planes.{vector}
use Rattle.ray_pick.proofs.Entering.{Entering, begins, replaced, stays, entered_all, later_nonneg, falls, no_fall}
use Rattle.ray_pick.proofs.entry.entry.Goals as goal
use Rattle.ray_pick.proofs.entry.entry.Goals.{then-passing-gt0+then-is_later, else-passing-gt0, else-passing-gt0-via-then-passing-gt0+else-is_later, else-passing-gt0-via-else-passing-gt0}

pub loop-side-init : goal.loop-side-init
loop-side-init c = begins c.args.sides.now (vector c.args.from.now) (vector c.args.to.now)

pub is_later-requires-clause-small : goal.is_later-requires-clause-small
is_later-requires-clause-small c = c.of-passing.ensures.small

pub is_later-requires-clause-other_small : goal.is_later-requires-clause-other_small
is_later-requires-clause-other_small c = c.loop-side.invariant.small

pub loop-side-preserved : goal.loop-side-preserved
loop-side-preserved c =
    let sides = c.args.sides.now in
    let a = vector c.args.from.now in
    let b = vector c.args.to.now in
    let i = c.loop-side.side-index in
    let e = c.loop-side.entry in
    let k = c.loop-side.invariant in
    let s = c.side-item.result in
    let p = c.of-passing.result in
    let o = c.of-passing.ensures in
    elim c.if-passing-gt0.branch [
      | then-passing-gt0+then-is_later w ↦
          let ahead = falls p.fall o.small.fall w.if-passing-gt0.true in
          let later = w.is_later.ensures.0 w.if-is_later.true in
          subst (Entering sides a b _) (sym w.entry-is)
          (replaced sides a b i e k s c.loop-side-test.true c.side-item.is p o.passes o.small ahead later (later_nonneg p.start p.fall e.start e.fall k.on_ray.nonneg k.on_ray.positive ahead later))
      | else-passing-gt0 w ↦
          subst (Entering sides a b _) (sym w.entry-is)
          (stays sides a b i e k s c.loop-side-test.true c.side-item.is p o.passes
          (λ inward l.
          elim w.else-passing-gt0.branch [
            | else-passing-gt0-via-then-passing-gt0+else-is_later v ↦ true≢false (sym (v.is_later.ensures.1 l) ∙ v.if-is_later.false)
            | else-passing-gt0-via-else-passing-gt0 v ↦ no_fall p.fall (bounds s) a b o.small.fall o.passes.fall v.if-passing-gt0.false inward
          ]))
    ]

pub returns : goal.returns
returns c = entered_all c.args.sides.now (vector c.args.from.now) (vector c.args.to.now) c.loop-side.side-index c.loop-side.entry c.loop-side-test.false c.loop-side.invariant
