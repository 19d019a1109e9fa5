use Rattle.std.proofs.Common.{true, false, ◌++◌, ◌∷◌, [], map, filter, take, take_all, ap, sym, ◌∙◌, arith}
use Rattle.std.proofs.lemmas.List.{map-append}
use Rattle.file_laws.specs.Build.{place_of, is_empty_group}
use Rattle.tree_file.proofs.Lists.{filter_in, filter_out}
use Rattle.tree_file.proofs.Kept.{in_list}
use Rattle.tree_file.proofs.InPlaces.{stands_at}
use Rattle.tree_file.proofs.EmptyGroups.{empty_by_count}
use Rattle.tree_file.proofs.empty.first_empty.Goals as goal
use Rattle.tree_file.proofs.empty.first_empty.Goals.{then-has_none_left+in_ok-push, else-has_none_left}

pub has_none_left-requires : goal.has_none_left-requires
has_none_left-requires c =
    let here = stands_at place_of c.args.items.now c.requires.places c.loop-item.item-index c.item-item.result c.loop-item-test.true c.item-item.is in
    let w = c.loop-item-test.true in
    let long = c.requires.counts.count in
    record { here = omega (arith, here, w, long) }

pub loop-item-preserved : goal.loop-item-preserved
loop-item-preserved c =
    let K = c.args.items.now in
    let i = c.loop-item.item-index in
    let x = c.item-item.result in
    let p = is_empty_group K in
    let in_K = in_list K i x c.loop-item-test.true c.item-item.is in
    elim c.if-has_none_left.branch [
      | then-has_none_left+in_ok-push w ↦
          ap (λ v. v.items) w.goes-is ∙ w.in_ok-push.ensures.items ∙ (λ j. c.loop-item.invariant j ++ w.place.ensures j ∷ [])
          ∙ sym (ap (map place_of) (filter_in p K i x c.loop-item-test.true c.item-item.is
          (empty_by_count K c.requires.places c.args.counts.now c.requires.counts x in_K true (sym w.if-has_none_left.true ∙ c.has_none_left.ensures)))
          ∙ map-append place_of (filter p (take i K)) (x ∷ []))
      | else-has_none_left w ↦
          ap (λ v. v.items) w.goes-is ∙ c.loop-item.invariant
          ∙ ap (map place_of) (sym (filter_out p K i x c.loop-item-test.true c.item-item.is
          (empty_by_count K c.requires.places c.args.counts.now c.requires.counts x in_K false (sym w.if-has_none_left.false ∙ c.has_none_left.ensures))))
    ]

pub returns : goal.returns
returns c = c.loop-item.invariant ∙ ap (λ l. map place_of (filter (is_empty_group c.args.items.now) l)) (take_all c.loop-item.item-index c.args.items.now c.loop-item-test.false)
