use Rattle.std.proofs.Common.{◌≡◌, [], false, replicate, length, ap, sym, subst, ◌∙◌, arith}
use Rattle.std.proofs.lemmas.List.{length-replicate}
use Rattle.tree_file.specs.Passes.{Tells}
use Rattle.tree_file.proofs.Raised.{none_raised, flags_back}
use Rattle.tree_file.proofs.dropped.flags_of.Goals as goal

pub raise_flags-requires-clause-within : goal.raise_flags-requires-clause-within
raise_flags-requires-clause-within c p t =
    let w = c.requires.within p t in
    let size = c.in_ok-flags.ensures.len in
    let long = c.in_ok-flags.flags.ok.0 in
    let same = ap length c.deref_mut.ensures.value in
    omega (arith, w, size, long, same)

pub raise_flags-requires-clause-none : goal.raise_flags-requires-clause-none
raise_flags-requires-clause-none c =
    let made = c.deref_mut.ensures.value ∙ c.in_ok-flags.ensures.items_if_clones_equal (λ y h. h) in
    subst (λ l. Tells (length l) [] l) (sym made) (subst (λ n. Tells n [] (replicate c.args.count false)) (sym (length-replicate c.args.count false)) (none_raised c.args.count))

pub returns : goal.returns
returns c =
    let n = c.raise_flags.ensures.count in
    let size = c.in_ok-flags.ensures.len in
    let long = c.in_ok-flags.flags.ok.0 in
    let same = ap length c.deref_mut.ensures.value in
    let count : length c.deref_mut.result.now ≡ c.args.count = omega (arith, size, long, same) in
    subst (Tells c.args.count c.args.places.now)
    (sym (flags_back c.in_ok-flags.flags.len c.in_ok-flags.flags.items c.raise_flags.new.flags (omega (arith, n, size, long, same)) (omega (arith, long))))
    (subst (λ n. Tells n c.args.places.now c.raise_flags.new.flags) count c.raise_flags.ensures)
