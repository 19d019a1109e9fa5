use Rattle.map_text.proofs.EntityTexts.{one_copied}
use Rattle.std.proofs.Common.{◌∙◌}
use Rattle.map_text.proofs.entity_text.copied.Goals as goal

pub entries-preserved : goal.entries-preserved
entries-preserved c =
    rw c.in_ok-push.ensures.items
    (one_copied c.args.props.now.entries c.entries.copies.items c.len-in-entries.result (c.in-Some.key.now, c.in-Some.value.now) c.in_ok-of.field-0 c.in_ok-of-2.field-0
    c.entries.invariant (c.len-in-entries.ensures ∙ c.entries.copies.ok.0) c.in-Some.ensures.entry c.in_ok-of.ensures c.in_ok-of-2.ensures)
