use Rattle.map_write.proofs.WriteLemmas.{entity_written}
use Rattle.map_write.proofs.entity_writer.write_entity.Goals as goal

pub returns : goal.returns
returns c =
    rw (
      c.in_ok-extend_from_slice.ensures.items,
      c.in_ok-write_brushes.ensures,
      c.list-2.ensures,
      c.in_ok-write_properties.ensures,
      c.list.ensures,
      c.in_ok-write_heading.ensures,
    )
    (entity_written c.args.number c.args.entity.now c.args.text.now.items)
