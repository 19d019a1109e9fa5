use Rattle.std.proofs.Common.{◌≡◌, ◌<◌, ◌+◌, refl, length, take, ap₂, sym, subst, ◌∙◌, arith}
use Rattle.algebra.specs.Members.{◌∈◌}
use Rattle.file_laws.specs.Build.{size}
use Rattle.tree_file.proofs.Drawing.{sizes, sizes_are, sizes_few, sizes_more, sizes_within_at, room_of, told_none, told_more, numbered}
use Rattle.tree_file.proofs.Lying.{in_kept}
use Rattle.tree_file.proofs.numbering.put_numbers.Goals as goal

pub loop-item-init : goal.loop-item-init
loop-item-init c =
    let kept = c.args.kept.now in
    record {
      next = refl;
      numbers = λ p w. told_none kept c.args.numbers.now (length c.args.numbers.now) _ p c.requires.blank (sizes_are kept kept) w;
    }

pub bounds-numbers-place : goal.bounds-numbers-place
bounds-numbers-place c =
    let there : c.item-item.result ∈ c.args.kept.now = in_kept c.args.kept.now c.loop-item.item-index c.item-item.result c.loop-item-test.true c.item-item.is in
    let within = c.requires.within c.item-item.result there in
    let here : c.place.result < length c.args.numbers.now = subst (λ p. p < length c.args.numbers.now) (sym c.place.ensures) within.0 in
    subst (λ n. c.place.result < n) (sym c.loop-item.auto.numbers) here

pub size-requires : goal.size-requires
size-requires c =
    let r = room_of c.args.kept.now c.loop-item.item-index c.item-item.result c.loop-item-test.true c.item-item.is in
    record { few = omega (arith, r, c.requires.few) }

pub overflow_cast-next : goal.overflow_cast-next
overflow_cast-next c =
    let kept = c.args.kept.now in
    let all = sizes_within_at kept c.loop-item.item-index c.item-item.result c.loop-item-test.true c.item-item.is in
    let most = sizes_few kept in
    let few = c.requires.few in
    let own : c.size.result ≡ size c.item-item.result = c.size.ensures in
    omega (arith, all, most, few, own)

pub overflow_add-next : goal.overflow_add-next
overflow_add-next c =
    let kept = c.args.kept.now in
    let all = sizes_within_at kept c.loop-item.item-index c.item-item.result c.loop-item-test.true c.item-item.is in
    let most = sizes_few kept in
    let few = c.requires.few in
    let own : c.size.result ≡ size c.item-item.result = c.size.ensures in
    let so_far : c.loop-item.next ≡ sizes (take c.loop-item.item-index kept) = c.loop-item.invariant.next in
    omega (arith, all, most, few, own, so_far)

pub loop-item-preserved : goal.loop-item-preserved
loop-item-preserved c =
    let kept = c.args.kept.now in
    let k = c.loop-item.item-index in
    let i = c.item-item.result in
    let lt : k < length kept = c.loop-item-test.true in
    let there : i ∈ kept = in_kept kept k i lt c.item-item.is in
    let within = c.requires.within i there in
    let here : c.place.result < length c.args.numbers.now = subst (λ p. p < length c.args.numbers.now) (sym c.place.ensures) within.0 in
    record {
      next = ap₂ (λ a b. a + b) c.loop-item.invariant.next c.size.ensures ∙ sym (sizes_more kept k i lt c.item-item.is);
      numbers = told_more kept c.loop-item.numbers k c.loop-item.next c.place.result (length c.args.numbers.now) i c.requires.rising lt c.item-item.is c.place.ensures here c.loop-item.auto.numbers
          c.loop-item.invariant.next c.loop-item.invariant.numbers;
    }

pub returns : goal.returns
returns c = numbered c.args.kept.now c.loop-item.numbers (length c.args.numbers.now) c.loop-item.item-index c.loop-item.auto.numbers c.loop-item-test.false c.loop-item.invariant.numbers
