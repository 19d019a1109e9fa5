use Rattle.std.proofs.Common.{◌≡◌, false, take}
use Rattle.map_model.specs.Props.{is_text_among}
use Rattle.tree_session.proofs.entity_lines.is_among.Given as goal

abbrev pub invariant-loop-text : goal.invariant-loop-text
invariant-loop-text l = is_text_among l.key (take l.text-index l.protected) ≡ false
