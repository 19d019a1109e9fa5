use Rattle.std.proofs.Common.{ap, refl, subst, sym, ◌∙◌, inl, inr}
use Rattle.map_model.specs.Edits.{swap}
use Rattle.map_model.specs.History.{Tight}
use Rattle.tree_node.specs.Held.{IsMap}
use Rattle.undo_log.specs.Log.{Keeps}
use Rattle.undo_log.proofs.Steps.{keeps_more}
use Rattle.tree_session.proofs.States.{one_more_from}
use Rattle.tree_session.proofs.planned.carry_out.Goals as goal

pub make-requires-clause-keeps : goal.make-requires-clause-keeps
make-requires-clause-keeps c =
    subst (λ h. Keeps h c.make_room.new.map) (sym c.make_room.ensures.records)
    (keeps_more c.args.history.now.records c.args.map.now c.make_room.new.map c.make_room.ensures.same c.make_room.ensures.slots c.requires.keeps)

pub make-requires-clause-tight : goal.make-requires-clause-tight
make-requires-clause-tight c = subst (λ m. Tight m c.args.planned.change) (sym c.make_room.ensures.same) c.requires.tight

pub make-requires-clause-sound : goal.make-requires-clause-sound
make-requires-clause-sound c = subst (λ m. IsMap (swap m c.args.planned.change)) (sym c.make_room.ensures.same) c.requires.sound

pub returns-in-Ok-clause-answer : goal.returns-in-Ok-clause-answer
returns-in-Ok-clause-answer c =
    inl (
      refl,
      c.make.ensures.now ∙ ap (λ m. swap m c.args.planned.change) c.make_room.ensures.same,
      one_more_from c.args.history.now.records c.make_room.new.history.records c.args.map.now c.make_room.new.map c.make.new.history.records c.make.new.map
          c.make_room.ensures.records c.make_room.ensures.same c.make.ensures.one_more,
    )

pub returns-in-Ok-clause-keeps : goal.returns-in-Ok-clause-keeps
returns-in-Ok-clause-keeps c = c.make.ensures.one_more.keeps

pub returns-in-Err-clause-answer : goal.returns-in-Err-clause-answer
returns-in-Err-clause-answer c = inr (refl, c.make_room.ensures.records, c.make_room.ensures.same)

pub returns-in-Err-clause-keeps : goal.returns-in-Err-clause-keeps
returns-in-Err-clause-keeps c =
    subst (λ h. Keeps h c.make_room.new.map) (sym c.make_room.ensures.records)
    (keeps_more c.args.history.now.records c.args.map.now c.make_room.new.map c.make_room.ensures.same c.make_room.ensures.slots c.requires.keeps)
