use Rattle.std.proofs.Common.{arith}
use Rattle.tree_file.proofs.InPlaces.{place_at}
use Rattle.tree_file.proofs.parents.note_parents.Goals as goal

pub goes_to_world-requires-clause-here : goal.goes_to_world-requires-clause-here
goes_to_world-requires-clause-here c =
    let w = c.loop-reading-test.true in
    let e = place_at c.args.readings.now c.requires.in_place c.loop-reading.reading-index c.reading-item.result w c.reading-item.is in
    omega arith
