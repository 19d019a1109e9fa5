use Rattle.std.proofs.Common.{subst, sym}
use Rattle.map_model.specs.Machine.{Short}
use Rattle.tree_session.specs.Sitting.{state_at, answer_of, ObeysOrStops}
use Rattle.tree_session.proofs.Arms.{changes, locks, answers_point, answers_ray, shows, lists_tree}
use Rattle.tree_session.proofs.obeying.obey_it.Goals as goal

pub returns-then-changes_map-clause-answer : goal.returns-then-changes_map-clause-answer
returns-then-changes_map-clause-answer c =
    changes c.args.map.now c.args.history.now.records c.args.settings.now c.args.command.now c.change.result c.change.new.history.records c.change.new.map
    (sym c.if-changes_map.ensures) c.change.ensures.answer

pub returns-in-Lock-clause-answer : goal.returns-in-Lock-clause-answer
returns-in-Lock-clause-answer c =
    let s = state_at c.args.map.now c.args.history.now.records c.args.settings.now in
    let t = state_at c.args.map.now c.args.history.now.records c.lock.new.settings in
    subst (λ k. ObeysOrStops s k (Short c.lock.result) t) (sym c.in-Lock.is)
    (locks c.args.map.now c.args.history.now.records c.args.settings.now _ c.lock.result c.lock.new.settings c.lock.ensures)

pub returns-in-Uv-clause-answer : goal.returns-in-Uv-clause-answer
returns-in-Uv-clause-answer c =
    let s = state_at c.args.map.now c.args.history.now.records c.args.settings.now in
    subst (λ k. ObeysOrStops s k (Short c.uv.result) s) (sym c.in-Uv.is)
    (answers_point c.args.map.now c.args.history.now.records c.args.settings.now _ _ _ c.uv.result c.uv.ensures)

pub returns-in-Pick-clause-answer : goal.returns-in-Pick-clause-answer
returns-in-Pick-clause-answer c =
    let s = state_at c.args.map.now c.args.history.now.records c.args.settings.now in
    subst (λ k. ObeysOrStops s k (Short c.pick.result) s) (sym c.in-Pick.is)
    (answers_ray c.args.map.now c.args.history.now.records c.args.settings.now _ _ c.pick.result c.pick.ensures)

pub returns-in-Show-clause-answer : goal.returns-in-Show-clause-answer
returns-in-Show-clause-answer c =
    let s = state_at c.args.map.now c.args.history.now.records c.args.settings.now in
    subst (λ k. ObeysOrStops s k (answer_of c.show.result) s) (sym c.in-Show.is)
    (shows c.args.map.now c.args.history.now.records c.args.settings.now _ (answer_of c.show.result) c.show.ensures)

pub returns-in-Tree-clause-answer : goal.returns-in-Tree-clause-answer
returns-in-Tree-clause-answer c =
    let s = state_at c.args.map.now c.args.history.now.records c.args.settings.now in
    subst (λ k. ObeysOrStops s k (answer_of c.tree.result) s) (sym c.in-Tree.is)
    (lists_tree c.args.map.now c.args.history.now.records c.args.settings.now (answer_of c.tree.result) c.tree.ensures)
