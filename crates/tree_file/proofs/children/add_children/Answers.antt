use Rattle.std.proofs.Common.{◌<◌, ◌+◌, length, get_or, take, ap, sym, subst, ◌∙◌, arith}
use Rattle.algebra.specs.Members.{◌∈◌}
use Rattle.file_laws.specs.Build.{place_of}
use Rattle.tree_file.specs.Passes.{Children}
use Rattle.tree_file.proofs.Lying.{in_kept, one_child, no_child}
use Rattle.tree_file.proofs.children.add_children.Goals as goal
use Rattle.tree_file.proofs.children.add_children.Goals.{then-place-gt0+in_ok-add_child, else-place-gt0}

pub bounds-numbers-place : goal.bounds-numbers-place
bounds-numbers-place c =
    let there : c.item-item.result ∈ c.args.kept.now = in_kept c.args.kept.now c.loop-item.item-index c.item-item.result c.loop-item-test.true c.item-item.is in
    let within = c.requires.within c.item-item.result there in
    let here : c.place-place.result < length c.args.lists.now = subst (λ p. p < length c.args.lists.now) (sym c.place-place.ensures) within.0 in
    subst (λ n. c.place-place.result < n) (sym c.requires.numbers.count) here

pub add_child-requires : goal.add_child-requires
add_child-requires c =
    let there : c.item-item.result ∈ c.args.kept.now = in_kept c.args.kept.now c.loop-item.item-index c.item-item.result c.loop-item-test.true c.item-item.is in
    let within = c.requires.within c.item-item.result there in
    let here : c.parent.result < length c.args.lists.now = subst (λ p. p < length c.args.lists.now) (sym c.parent.ensures) within.1 in
    record { here = subst (λ n. c.parent.result < n) (sym c.loop-item.invariant.count) here }

pub loop-item-preserved : goal.loop-item-preserved
loop-item-preserved c =
    let kept = c.args.kept.now in
    let n = length c.args.lists.now in
    let k = c.loop-item.item-index in
    let i = c.item-item.result in
    let lt : k < length kept = c.loop-item-test.true in
    let there : i ∈ kept = in_kept kept k i lt c.item-item.is in
    let within = c.requires.within i there in
    elim c.if-place-gt0.branch [
      | then-place-gt0+in_ok-add_child w ↦
          subst (λ lists. Children n kept (take (k + 1) kept) lists) (sym (w.lists-is ∙ w.in_ok-add_child.ensures))
          (one_child n kept c.loop-item.lists k i w.parent.result (get_or c.args.numbers.now c.place-place.result 0) lt c.item-item.is c.loop-item.invariant
          (subst (λ p. 0 < p) c.place-place.ensures w.if-place-gt0.true) w.parent.ensures (subst (λ p. p < n) (sym w.parent.ensures) within.1)
          (ap (λ q. get_or c.args.numbers.now q 0) c.place-place.ensures ∙ c.requires.numbers.number (place_of i) within.0))
      | else-place-gt0 w ↦
          subst (λ lists. Children n kept (take (k + 1) kept) lists) (sym w.lists-is)
          (no_child n kept c.loop-item.lists k i lt c.item-item.is c.loop-item.invariant (let none = w.if-place-gt0.false in let same = c.place-place.ensures in omega arith))
    ]
