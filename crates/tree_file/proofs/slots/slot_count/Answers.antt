use Rattle.std.proofs.Common.{◌≡◌, ◌+◌, take, ap, ap₂, sym, ◌∙◌, arith}
use Rattle.std.proofs.lemmas.List.{take_all}
use Rattle.file_laws.specs.Build.{size}
use Rattle.tree_file.proofs.Drawing.{sizes, sizes_are, sizes_few, sizes_more, sizes_within_at, room_of}
use Rattle.tree_file.proofs.slots.slot_count.Goals as goal

pub size-count-requires : goal.size-count-requires
size-count-requires c =
    let r = room_of c.args.kept.now c.loop-item.item-index c.item-item.result c.loop-item-test.true c.item-item.is in
    record { few = omega (arith, r, c.requires.few) }

pub overflow_add-count : goal.overflow_add-count
overflow_add-count c =
    let kept = c.args.kept.now in
    let all = sizes_within_at kept c.loop-item.item-index c.item-item.result c.loop-item-test.true c.item-item.is in
    let most = sizes_few kept in
    let few = c.requires.few in
    let own : c.size-count.result ≡ size c.item-item.result = c.size-count.ensures in
    let so_far : c.loop-item.count ≡ sizes (take c.loop-item.item-index kept) = c.loop-item.invariant in
    omega (arith, all, most, few, own, so_far)

pub loop-item-preserved : goal.loop-item-preserved
loop-item-preserved c =
    ap₂ (λ a b. a + b) c.loop-item.invariant c.size-count.ensures ∙ sym (sizes_more c.args.kept.now c.loop-item.item-index c.item-item.result c.loop-item-test.true c.item-item.is)

pub returns : goal.returns
returns c =
    let kept = c.args.kept.now in
    c.loop-item.invariant ∙ ap sizes (take_all c.loop-item.item-index kept c.loop-item-test.false) ∙ sym (sizes_are kept kept)
