use Rattle.map_model.specs.Tree.{whole}
use Rattle.map_opening.proofs.Unlinked.{no_sets}
use Rattle.map_report.specs.declared.summary.Summary.TheVariants.{Map}
use Rattle.map_opening.proofs.counts.summary.Goals as goal

pub returns : goal.returns
returns c = λ i. Map (c.format_of.ensures i) (c.node_count.ensures i) (c.brush_count.ensures i) (no_sets (whole c.args.map.now) c.is_map.ensures.unlinked i)
