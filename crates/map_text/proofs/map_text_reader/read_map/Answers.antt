use Rattle.std.proofs.Common.{◌∷◌, ◌∙◌, ap}
use Rattle.map_text.specs.Meaning.{format_by_version}
use Rattle.map_text.specs.Refusals.{an_entity}
use Rattle.map_text.specs.Reads.{IsRefusedAs}
use Rattle.map_text.proofs.Passing.{passed_on}
use Rattle.map_text.proofs.MapTexts.{start_of, no_entities, format_or, entity_more, entity_shorter, is_refused, is_accepted, text_read, few_parts}
use Rattle.map_text.proofs.map_text_reader.read_map.Goals as goal

pub returns-in_err-begins_entity-clause-fault : goal.returns-in_err-begins_entity-clause-fault
returns-in_err-begins_entity-clause-fault c =
    passed_on (λ fault. IsRefusedAs c.args.text.now fault) c.from_residual.result c.in_err-begins_entity.field-0.0 c.from_residual.ensures.1
    (is_refused c.args.text.now c.in_err-begins_entity.field-0.0 (λ ne rest. c.entities.invariant.passes.goes rest ∙ c.in_err-begins_entity.ensures.fault rest))

pub returns-in_err-read_entity-clause-fault : goal.returns-in_err-read_entity-clause-fault
returns-in_err-read_entity-clause-fault c =
    let begins = rw c.if-branch.true at c.in_ok-begins_entity.ensures.read in
    passed_on (λ fault. IsRefusedAs c.args.text.now fault) c.from_residual-in_err-read_entity.result c.in_err-read_entity.field-0.0 c.from_residual-in_err-read_entity.ensures.1
    (is_refused c.args.text.now c.in_err-read_entity.field-0.0
    (λ ne rest. c.entities.invariant.passes.goes rest ∙ begins.goes rest ∙ c.in_err-read_entity.ensures.fault ne (an_entity ∷ rest)))

pub entities-init : goal.entities-init
entities-init c = rw c.new-reader.ensures.state (no_entities (start_of c.args.text.now) c.new-entities.result.items c.new-entities.ensures.items)

pub entities-smaller : goal.entities-smaller
entities-smaller c = entity_shorter (rw c.if-branch.true at c.in_ok-begins_entity.ensures.read) c.in_ok-read_entity.ensures.read

pub entities-preserved : goal.entities-preserved
entities-preserved c =
    rw c.in_ok-push.ensures.items
    (entity_more c.entities.invariant (rw c.if-branch.true at c.in_ok-begins_entity.ensures.read) c.in_ok-read_entity.ensures.read)

pub returns-clause-accepted : goal.returns-clause-accepted
returns-clause-accepted c =
    let ends = rw c.if-branch.false at c.in_ok-begins_entity.ensures.read in
    is_accepted c.args.text.now c.entities.reader c.entities.entities.items c.entities.invariant ends.0

pub returns-clause-read : goal.returns-clause-read
returns-clause-read c =
    let ends = rw c.if-branch.false at c.in_ok-begins_entity.ensures.read in
    rw (c.of.ensures, c.shrink_to_fit.ensures.items)
    (text_read c.args.text.now c.entities.reader c.entities.entities.items c.format_or-format.result c.entities.invariant ends.0
    (c.format_or-format.ensures
    ∙ (λ i. format_or ((c.format.ensures ∙ ap (λ s. s.first) ends.1) i) (format_by_version ((c.deref.ensures.value ∙ c.shrink_to_fit.ensures.items) i)))))

pub returns-clause-few : goal.returns-clause-few
returns-clause-few c =
    few_parts c.args.text.now _ (returns-clause-read c) (rw c.new-reader.ensures.state at c.new-reader.ensures.count)
