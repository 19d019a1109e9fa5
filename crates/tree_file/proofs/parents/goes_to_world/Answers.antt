use Rattle.std.proofs.Common.{false, get_or, ◌||◌, ap, sym, ◌∙◌, arith}
use Rattle.std.proofs.lemmas.Bool.{or_left}
use Rattle.file_laws.specs.Build.{is_lost, breaks_ring, first_parents}
use Rattle.tree_file.proofs.InPlaces.{flags_length, flag_at}
use Rattle.tree_file.proofs.parents.goes_to_world.Goals as goal

pub bounds-breaks-place : goal.bounds-breaks-place
bounds-breaks-place c =
    let long = flags_length c.args.readings.now c.args.breaks.now c.requires.breaks in
    let here = c.requires.here in
    let is = c.place.ensures in
    omega arith

pub returns-then-is_lost : goal.returns-then-is_lost
returns-then-is_lost c =
    let rs = c.args.readings.now in
    let r = c.args.reading.now in
    c.if-is_lost.true ∙ sym (or_left (is_lost rs r) (breaks_ring (first_parents rs) r.place) (sym c.is_lost.ensures ∙ c.if-is_lost.true))

pub returns-else-is_lost : goal.returns-else-is_lost
returns-else-is_lost c =
    let rs = c.args.readings.now in
    let r = c.args.reading.now in
    ap (λ p. get_or c.args.breaks.now p false) c.place.ensures ∙ flag_at rs c.args.breaks.now c.requires.breaks r.place c.requires.here
    ∙ (λ i. (sym (sym c.is_lost.ensures ∙ c.if-is_lost.false)) i || breaks_ring (first_parents rs) r.place)
