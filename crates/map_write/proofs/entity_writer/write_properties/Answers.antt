use Rattle.std.proofs.Common.{sym}
use Rattle.map_write.specs.Written.{property_line}
use Rattle.map_write.proofs.WriteLemmas.{each_left, each_done}
use Rattle.map_write.proofs.entity_writer.write_properties.Goals as goal

pub loop-property-preserved : goal.loop-property-preserved
loop-property-preserved c =
    rw (c.in_ok-write_property.ensures, c.bytes.ensures, c.bytes-in-loop-property.ensures)
    (each_left property_line c.args.text.now.items c.args.props.now c.loop-property.property-index c.loop-property.text.items c.property-item.result c.property-item.result c.loop-property-test.true (sym c.property-item.is) c.loop-property.invariant)

pub returns : goal.returns
returns c =
    each_done property_line c.args.text.now.items c.args.props.now c.loop-property.property-index c.loop-property.text.items c.loop-property-test.false c.loop-property.invariant
