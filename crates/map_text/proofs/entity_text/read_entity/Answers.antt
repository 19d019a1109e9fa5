use Rattle.std.proofs.Common.{[], ◌∷◌, ◌∙◌, refl}
use Rattle.map_text.specs.Refusals.{an_item}
use Rattle.map_text.specs.Reading.{IsStopped}
use Rattle.map_text.proofs.Passing.{passed_on}
use Rattle.map_text.proofs.EntityTexts.{property_more, brush_more, entity_read, property_shorter, brush_shorter}
use Rattle.map_text.proofs.entity_text.read_entity.Goals as goal

pub items-preserved-in_ok-put-in-Key : goal.items-preserved-in_ok-put-in-Key
items-preserved-in_ok-put-in-Key c =
    property_more c.in-Key.key c.in_ok-value-in-Key.value c.put.new.props.entries c.items.invariant
    (rw (c.in-Some.is, c.in-Key.is) at c.in_ok-item.ensures.read) c.in_ok-value-in-Key.ensures.read refl c.in_ok-put-in-Key.ensures

pub items-smaller : goal.items-smaller
items-smaller c = brush_shorter (rw (c.in-Some.is, c.in-Brush.is) at c.in_ok-item.ensures.read) c.in_ok-read_brush-in-Brush.ensures.read

pub items-preserved : goal.items-preserved
items-preserved c =
    rw c.in_ok-push-in-Brush.ensures.items
    (brush_more c.items.invariant (rw (c.in-Some.is, c.in-Brush.is) at c.in_ok-item.ensures.read) c.in_ok-read_brush-in-Brush.ensures.read)

pub returns-clause-read : goal.returns-clause-read
returns-clause-read c =
    rw (c.of.ensures, c.shrink_to_fit.ensures.items)
    (entity_read c.in_ok-copied.field-0 c.items.invariant (rw c.in_default.is at c.in_ok-item.ensures.read) c.in_ok-copied.ensures)

pub items-smaller-in_ok-put-in-Key : goal.items-smaller-in_ok-put-in-Key
items-smaller-in_ok-put-in-Key c = property_shorter c.in-Key.key (rw (c.in-Some.is, c.in-Key.is) at c.in_ok-item.ensures.read) c.in_ok-value-in-Key.ensures.read

pub returns-in_err-item-clause-fault : goal.returns-in_err-item-clause-fault
returns-in_err-item-clause-fault c =
    passed_on (IsStopped c.args.reader.now (an_item ∷ [])) c.from_residual.result c.in_err-item.field-0.0 c.from_residual.ensures.1
    (λ ne rest. c.items.invariant.passes.goes rest ∙ c.in_err-item.ensures.fault rest)

pub returns-in_err-value-in-Key-clause-fault : goal.returns-in_err-value-in-Key-clause-fault
returns-in_err-value-in-Key-clause-fault c =
    let begins = rw (c.in-Some.is, c.in-Key.is) at c.in_ok-item.ensures.read in
    passed_on (IsStopped c.args.reader.now (an_item ∷ [])) c.from_residual-in_err-value-in-Key.result c.in_err-value-in-Key.field-0.0 c.from_residual-in_err-value-in-Key.ensures.1
    (λ ne rest. c.items.invariant.passes.goes rest ∙ begins.1.goes rest ∙ c.in_err-value-in-Key.ensures.fault (an_item ∷ rest))

pub returns-in_err-read_brush-in-Brush-clause-fault : goal.returns-in_err-read_brush-in-Brush-clause-fault
returns-in_err-read_brush-in-Brush-clause-fault c =
    let begins = rw (c.in-Some.is, c.in-Brush.is) at c.in_ok-item.ensures.read in
    passed_on (IsStopped c.args.reader.now (an_item ∷ [])) c.from_residual-in_err-read_brush-in-Brush.result c.in_err-read_brush-in-Brush.field-0.0 c.from_residual-in_err-read_brush-in-Brush.ensures.1
    (λ ne rest. c.items.invariant.passes.goes rest ∙ begins.goes rest ∙ c.in_err-read_brush-in-Brush.ensures.fault ne (an_item ∷ rest))
