use Rattle.std.proofs.Common.{◌≡◌, ◌+◌, ◌-◌, ◌<◌, length, ap, subst, sym, ◌∙◌, arith}
use Rattle.undo_log.specs.Log.{records_at}
use Rattle.undo_log.proofs.Steps.{slots_for_undo, map_for_undo, goes_back}
use Rattle.undo_log.proofs.history.History.undo.Goals as goal

pub swap-requires-clause-room : goal.swap-requires-clause-room
swap-requires-clause-room c =
    let cs = c.self.inside.changes.items in let p = c.self.inside.place - 1 in
    let size = c.self.inside.changes.ok.0 in
    let within : p < length cs = omega (arith, size, c.self.invariant) in
    let place : c.self.inside.place ≡ p + 1 = omega arith in
    slots_for_undo cs p c.args.self.now.records c.args.map.now c.index_mut.result.now within c.index_mut.ensures.value
    (ap (λ n. records_at n cs) (sym place) ∙ ap (λ l. l.records) c.self.view_is) c.requires

pub swap-requires-clause-sound : goal.swap-requires-clause-sound
swap-requires-clause-sound c =
    let cs = c.self.inside.changes.items in let p = c.self.inside.place - 1 in
    let size = c.self.inside.changes.ok.0 in
    let within : p < length cs = omega (arith, size, c.self.invariant) in
    let place : c.self.inside.place ≡ p + 1 = omega arith in
    map_for_undo cs p c.args.self.now.records c.args.map.now c.index_mut.result.now within c.index_mut.ensures.value
    (ap (λ n. records_at n cs) (sym place) ∙ ap (λ l. l.records) c.self.view_is) c.requires

pub returns-clause-back : goal.returns-clause-back
returns-clause-back c =
    let cs = c.self.inside.changes.items in let p = c.self.inside.place - 1 in
    let size = c.self.inside.changes.ok.0 in
    let within : p < length cs = omega (arith, size, c.self.invariant) in
    let place : c.self.inside.place ≡ p + 1 = omega arith in
    goes_back cs p c.args.self.now.records c.args.map.now c.index_mut.result.now within c.index_mut.ensures.value
    (ap (λ n. records_at n cs) (sym place) ∙ ap (λ l. l.records) c.self.view_is) c.requires c.swap.new.self c.swap.new.c
    (record { now = c.swap.ensures.now; back = c.swap.ensures.back; slots = c.swap.ensures.slots; numbers = c.swap.ensures.numbers })
