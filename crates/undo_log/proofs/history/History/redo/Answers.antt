use Rattle.std.proofs.Common.{◌≡◌, ◌+◌, ◌<◌, length, ap, subst, sym, ◌∙◌, arith}
use Rattle.undo_log.proofs.Steps.{slots_for_redo, map_for_redo, goes_on}
use Rattle.undo_log.proofs.history.History.redo.Goals as goal

pub swap-requires-clause-room : goal.swap-requires-clause-room
swap-requires-clause-room c =
    let cs = c.self.inside.changes.items in let p = c.self.inside.place in
    let size = c.self.inside.changes.ok.0 in
    let within : p < length cs = omega (arith, size, c.self.invariant, c.len.ensures) in
    slots_for_redo cs p c.args.self.now.records c.args.map.now c.index_mut.result.now within c.index_mut.ensures.value
    (ap (λ l. l.records) c.self.view_is) c.requires

pub swap-requires-clause-sound : goal.swap-requires-clause-sound
swap-requires-clause-sound c =
    let cs = c.self.inside.changes.items in let p = c.self.inside.place in
    let size = c.self.inside.changes.ok.0 in
    let within : p < length cs = omega (arith, size, c.self.invariant, c.len.ensures) in
    map_for_redo cs p c.args.self.now.records c.args.map.now c.index_mut.result.now within c.index_mut.ensures.value
    (ap (λ l. l.records) c.self.view_is) c.requires

pub returns-clause-on : goal.returns-clause-on
returns-clause-on c =
    let cs = c.self.inside.changes.items in let p = c.self.inside.place in
    let size = c.self.inside.changes.ok.0 in
    let within : p < length cs = omega (arith, size, c.self.invariant, c.len.ensures) in
    goes_on cs p c.args.self.now.records c.args.map.now c.index_mut.result.now within c.index_mut.ensures.value
    (ap (λ l. l.records) c.self.view_is) c.requires c.swap.new.self c.swap.new.c
    (record { now = c.swap.ensures.now; back = c.swap.ensures.back; slots = c.swap.ensures.slots; numbers = c.swap.ensures.numbers })
