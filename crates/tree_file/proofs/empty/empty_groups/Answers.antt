use Rattle.std.proofs.Common.{◌<◌, ◌+◌, ◌-◌, ◌&&◌, ◌==◌, ◌++◌, ◌∷◌, [], length, get_or, take, drop, ap, sym, subst, ◌∙◌, arith}
use Rattle.std.proofs.lemmas.List.{length-set}
use Rattle.file_laws.specs.Build.{place_of}
use Rattle.tree_file.specs.Passes.{ChildCounts, is_bare_group}
use Rattle.tree_file.proofs.Kept.{in_list}
use Rattle.tree_file.proofs.InPlaces.{stands_at}
use Rattle.tree_file.proofs.EmptyGroups.{Going, going_few, goes_first, goes_on, goes_too, all_gone, lowered_by, leaves_within, leaves_in, leaves_at, child_counted}
use Rattle.tree_file.proofs.empty.empty_groups.Goals as goal
use Rattle.tree_file.proofs.empty.empty_groups.Goals.{then-has_none_left+in_ok-push, else-has_none_left}

pub first_empty-requires-clause-counts : goal.first_empty-requires-clause-counts
first_empty-requires-clause-counts c = subst (ChildCounts (length c.args.items.now) c.args.items.now []) (sym c.deref.ensures.value) c.in_ok-counts.ensures

pub loop-next-init : goal.loop-next-init
loop-next-init c = goes_first c.args.items.now c.requires.places c.in_ok-goes.goes.items c.in_ok-counts.counts.items c.in_ok-counts.ensures c.in_ok-goes.ensures

pub bounds-items-index : goal.bounds-items-index
bounds-items-index c =
    let w : c.loop-next.next < length c.loop-next.goes.items = let t = c.loop-next-test.true in let e = c.len.ensures in omega arith in
    leaves_within c.args.items.now c.requires.places c.loop-next.next c.loop-next.goes.items c.loop-next.counts.items c.loop-next.invariant w c.index.result.now c.index.ensures

pub take_child-requires-clause-here : goal.take_child-requires-clause-here
take_child-requires-clause-here c =
    let K = c.args.items.now in
    let w : c.loop-next.next < length c.loop-next.goes.items = let t = c.loop-next-test.true in let e = c.len.ensures in omega arith in
    let q = c.index-items-index.result in
    let q_in = leaves_in K c.requires.places c.loop-next.next c.loop-next.goes.items c.loop-next.counts.items c.loop-next.invariant w c.index.result.now c.index.ensures q c.index-items-index.is in
    let v = (c.requires.within q q_in).1 in
    let is = c.parent-parent.ensures in
    let long = ap length c.deref_mut.ensures.value ∙ c.loop-next.invariant.counted.count in
    omega (arith, v, is, long)

pub take_child-requires-clause-some : goal.take_child-requires-clause-some
take_child-requires-clause-some c =
    let K = c.args.items.now in
    let w : c.loop-next.next < length c.loop-next.goes.items = let t = c.loop-next-test.true in let e = c.len.ensures in omega arith in
    let q = c.index-items-index.result in
    let q_in = leaves_in K c.requires.places c.loop-next.next c.loop-next.goes.items c.loop-next.counts.items c.loop-next.invariant w c.index.result.now c.index.ensures q c.index-items-index.is in
    let s = child_counted K c.requires.places c.loop-next.next c.loop-next.goes.items c.loop-next.counts.items c.loop-next.invariant w c.index.result.now c.index.ensures q c.index-items-index.is (c.requires.within q q_in).1 in
    subst (λ p. 0 < get_or c.deref_mut.result.now p 0) (sym c.parent-parent.ensures) (subst (λ l. 0 < get_or l q.parent 0) (sym c.deref_mut.ensures.value) s)

pub bounds-items-parent : goal.bounds-items-parent
bounds-items-parent c =
    let K = c.args.items.now in
    let w : c.loop-next.next < length c.loop-next.goes.items = let t = c.loop-next-test.true in let e = c.len.ensures in omega arith in
    let q = c.index-items-index.result in
    let q_in = leaves_in K c.requires.places c.loop-next.next c.loop-next.goes.items c.loop-next.counts.items c.loop-next.invariant w c.index.result.now c.index.ensures q c.index-items-index.is in
    let v = (c.requires.within q q_in).1 in
    let is = c.parent-parent.ensures in
    omega (arith, v, is)

pub has_none_left-requires : goal.has_none_left-requires
has_none_left-requires c =
    let K = c.args.items.now in
    let w : c.loop-next.next < length c.loop-next.goes.items = let t = c.loop-next-test.true in let e = c.len.ensures in omega arith in
    let q = c.index-items-index.result in
    let q_in = leaves_in K c.requires.places c.loop-next.next c.loop-next.goes.items c.loop-next.counts.items c.loop-next.invariant w c.index.result.now c.index.ensures q c.index-items-index.is in
    let v = (c.requires.within q q_in).1 in
    let is = c.parent-parent.ensures in
    let here = stands_at place_of K c.requires.places c.parent-parent.result c.index-items-parent.result (omega (arith, v, is)) c.index-items-parent.is in
    let counts = c.loop-next.counts.items in
    let size = c.loop-next.counts.ok.0 in
    let less = c.deref-in-loop-next.ensures.value ∙ lowered_by c.loop-next.counts.len counts c.deref_mut.result.now c.take_child.new.counts c.parent-parent.result q.parent c.deref_mut.ensures.value c.take_child.ensures is (omega (arith, size)) in
    let long = ap length less ∙ length-set counts q.parent (get_or counts q.parent 0 - 1) ∙ c.loop-next.invariant.counted.count in
    record { here = omega (arith, v, is, here, long) }

pub overflow_add-next : goal.overflow_add-next
overflow_add-next c =
    let t = c.loop-next-test.true in
    let e = c.len.ensures in
    omega arith

pub loop-next-smaller : goal.loop-next-smaller
loop-next-smaller c =
    let t = c.loop-next-test.true in
    let e = c.len.ensures in
    let few = going_few c.args.items.now c.requires.places c.loop-next.next c.loop-next.goes.items c.loop-next.counts.items c.loop-next.invariant in
    let smaller : length c.args.items.now - (c.loop-next.next + 1) < length c.args.items.now - c.loop-next.next = omega arith in
    smaller

pub loop-next-preserved : goal.loop-next-preserved
loop-next-preserved c =
    let K = c.args.items.now in
    let at = c.requires.places in
    let next = c.loop-next.next in
    let goes = c.loop-next.goes.items in
    let counts = c.loop-next.counts.items in
    let g = c.loop-next.invariant in
    let w : c.loop-next.next < length c.loop-next.goes.items = let t = c.loop-next-test.true in let e = c.len.ensures in omega arith in
    let q = c.index-items-index.result in
    let q_in = leaves_in K at next goes counts g w c.index.result.now c.index.ensures q c.index-items-index.is in
    let q_at = leaves_at K at next goes counts g w c.index.result.now c.index.ensures q c.index-items-index.is in
    let v = (c.requires.within q q_in).1 in
    let is = c.parent-parent.ensures in
    let size = c.loop-next.counts.ok.0 in
    let less = take c.loop-next.counts.len (c.take_child.new.counts ++ drop (length c.take_child.new.counts) counts) in
    let lowered = lowered_by c.loop-next.counts.len counts c.deref_mut.result.now c.take_child.new.counts c.parent-parent.result q.parent c.deref_mut.ensures.value c.take_child.ensures is (omega (arith, size)) in
    let r = c.index-items-parent.result in
    let within = let x : c.parent-parent.result < length K = omega (arith, v, is) in x in
    let r_in = in_list K c.parent-parent.result r within c.index-items-parent.is in
    let r_at = stands_at place_of K at c.parent-parent.result r within c.index-items-parent.is ∙ is in
    let told = ap (λ l. is_bare_group r && (get_or l (place_of r) 0 == 0)) (sym c.deref-in-loop-next.ensures.value) ∙ sym c.has_none_left.ensures in
    elim c.if-has_none_left.branch [
      | then-has_none_left+in_ok-push b ↦
          subst (λ l. Going K (next + 1) l less) (sym (ap (λ v. v.items) b.goes-is ∙ b.in_ok-push.ensures.items ∙ ap (λ p. goes ++ p ∷ []) is))
          (goes_too K at next goes counts g w q q_in q_at less lowered v r r_in r_at (told ∙ b.if-has_none_left.true))
      | else-has_none_left b ↦
          subst (λ l. Going K (next + 1) l less) (sym (ap (λ v. v.items) b.goes-is))
          (goes_on K at next goes counts g w q q_in q_at less lowered v r r_in r_at (told ∙ b.if-has_none_left.false))
    ]

pub returns-clause-within : goal.returns-clause-within
returns-clause-within c = c.loop-next.invariant.below

pub returns-clause-kept : goal.returns-clause-kept
returns-clause-kept c =
    let t = c.loop-next-test.false in
    let e = c.len.ensures in
    all_gone c.args.items.now c.requires.places c.loop-next.next c.loop-next.goes.items c.loop-next.counts.items c.loop-next.invariant (omega arith)
