use Rattle.std.proofs.Common.{false, ◌++◌, ◌∷◌, [], length, map, filter, get_or, take_all, ap, sym, ◌∙◌, arith}
use Rattle.std.proofs.lemmas.List.{length-map}
use Rattle.file_laws.specs.Build.{place_of, is_dropped, kept_items, noted, EmptyNote}
use Rattle.tree_file.proofs.InPlaces.{stands_at}
use Rattle.tree_file.proofs.Raised.{flag_of, noted_one, noted_none}
use Rattle.tree_file.proofs.dropped.note_dropped.Goals as goal
use Rattle.tree_file.proofs.dropped.note_dropped.Goals.{then-drops-place+in_ok-push, else-drops-place}

pub bounds-drops-place : goal.bounds-drops-place
bounds-drops-place c =
    let K = c.args.items.now in
    let here = stands_at place_of K c.requires.places c.loop-item.item-index c.item-item.result c.loop-item-test.true c.item-item.is in
    let w = c.loop-item-test.true in
    let long = ap length c.requires.drops ∙ length-map K (is_dropped (kept_items K)) in
    let is = c.place.ensures in
    omega (arith, w, here, long, is)

pub loop-item-preserved : goal.loop-item-preserved
loop-item-preserved c =
    let K = c.args.items.now in
    let i = c.loop-item.item-index in
    let x = c.item-item.result in
    let f = is_dropped (kept_items K) in
    let drops = c.args.drops.now in
    let start = c.args.notes.now.items in
    let told = sym (ap (λ p. get_or drops p false) c.place.ensures ∙ flag_of K c.requires.places f drops c.requires.drops i x c.loop-item-test.true c.item-item.is) in
    elim c.if-drops-place.branch [
      | then-drops-place+in_ok-push w ↦
          ap (λ v. v.items) w.notes-is ∙ w.in_ok-push.ensures.items ∙ (λ j. c.loop-item.invariant j ++ EmptyNote (w.place-then-drops-place.ensures j) ∷ [])
          ∙ noted_one EmptyNote f K i x start c.loop-item-test.true c.item-item.is (told ∙ w.if-drops-place.true)
      | else-drops-place w ↦
          ap (λ v. v.items) w.notes-is ∙ c.loop-item.invariant
          ∙ noted_none EmptyNote f K i x start c.loop-item-test.true c.item-item.is (told ∙ w.if-drops-place.false)
    ]

pub returns : goal.returns
returns c =
    c.loop-item.invariant
    ∙ ap (λ l. c.args.notes.now.items ++ noted EmptyNote (map place_of (filter (is_dropped (kept_items c.args.items.now)) l))) (take_all c.loop-item.item-index c.args.items.now c.loop-item-test.false)
