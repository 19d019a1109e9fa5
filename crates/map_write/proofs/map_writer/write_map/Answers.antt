use Rattle.std.proofs.Common.{sym, subst, []}
use Rattle.map_text.specs.Reads.{Reads}
use Rattle.map_write.specs.Written.{kept, entity_lines, written_with}
use Rattle.map_write.proofs.DocumentBack.{saved_is_read}
use Rattle.map_write.proofs.WriteLemmas.{numbered_left, numbered_done}
use Rattle.map_write.proofs.map_writer.write_map.Goals as goal

pub loop-number-preserved : goal.loop-number-preserved
loop-number-preserved c =
    rw c.in_ok-write_entity.ensures
    (numbered_left (entity_lines kept) [] c.list-entities.result.now c.loop-number.number c.loop-number.text.items c.index-entities-number.result c.index-entities-number.result c.loop-number-test.true (sym c.index-entities-number.is) c.loop-number.invariant)

pub returns-clause-text : goal.returns-clause-text
unfolding written_with
returns-clause-text c =
    rw (numbered_done (entity_lines kept) [] c.list-entities.result.now c.loop-number.number c.loop-number.text.items c.loop-number-test.false c.loop-number.invariant, c.list-entities.ensures)

pub returns-clause-again : goal.returns-clause-again
returns-clause-again c = λ savable. subst (λ t. Reads t c.args.doc.now) (sym (returns-clause-text c)) (saved_is_read c.args.doc.now savable)
