use Rattle.std.proofs.Common.{ap, ◌∙◌}
use Rattle.map_model.specs.Props.{is_text_among}
use Rattle.tree_ops.proofs.KeyTables.{is_there}
use Rattle.tree_ops.proofs.keys.is_file_key.Goals as goal

pub returns : goal.returns
returns c = c.is_some.ensures ∙ is_there c.file_keys.result c.args.key.now c.find.result c.find.ensures.absent ∙ ap (is_text_among c.args.key.now) c.file_keys.ensures
