use Rattle.std.proofs.Common.{ℕ, List, ◌<◌, ◌++◌, ◌∷◌, [], length, take, ap, sym, ◌∙◌, append_assoc, arith}
use Rattle.tree_file.proofs.Lists.{got_more, got_one}
use Rattle.tree_file.proofs.pairs.push_props.Goals as goal
use Rattle.tree_file.proofs.pairs.push_props.Goals.{in-Some+in_ok-push_pair-in-Some, in-None}

pub loop-k-preserved : goal.loop-k-preserved
loop-k-preserved c =
    let old = c.args.pairs.now.items in
    let ps = c.args.props.now in
    let k = c.loop-k.k in
    let lt : k < length ps = omega (arith, c.loop-k-test.true, c.len-k-end.ensures) in
    elim c.match-pair.branch [
      | in-Some+in_ok-push_pair-in-Some w ↦
          let p : List ℕ × List ℕ = (w.in-Some.key.now, w.in-Some.value.now) in
          ap (λ v. v.items) w.pairs-is ∙ w.in_ok-push_pair-in-Some.ensures ∙ ap (λ l. l ++ p ∷ []) c.loop-k.invariant
          ∙ append_assoc old (take k ps) (p ∷ []) ∙ ap (λ l. old ++ l) (sym (got_more ps k p w.in-Some.ensures))
      | in-None w ↦ absurd (got_one ps k lt w.in-None.ensures)
    ]
