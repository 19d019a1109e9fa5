-- Each command that the laws speak of keeps one content for each two members of each set.
use Rattle.map_model.specs.Commands.{Delete, Entity, Set, Unset, Tie, Untie, Layer, Freeze, Thaw, Group, Ungroup, Into}
use Rattle.link_laws.specs.Keeping.{TreeKeepsLaw}
use Rattle.link_laws.proofs.TreeKeeps.{delete_keeps, into_keeps, ungroup_keeps, untie_keeps, group_keeps, tie_keeps}
use Rattle.link_laws.proofs.RenewedKeeps.{set_keeps, unset_keeps, freeze_keeps, thaw_keeps}
use Rattle.link_laws.proofs.WorldKeeps.{entity_keeps, layer_keeps}

pub tree_keeps : TreeKeepsLaw
tree_keeps (Delete ns) is = delete_keeps ns
tree_keeps (Entity class point) is = entity_keeps class point
tree_keeps (Set n key value) is = set_keeps n key value
tree_keeps (Unset n key) is = unset_keeps n key
tree_keeps (Tie class ns) is = tie_keeps class ns
tree_keeps (Untie ns) is = untie_keeps ns
tree_keeps (Layer name) is = layer_keeps name
tree_keeps (Freeze n) is = freeze_keeps n
tree_keeps (Thaw n) is = thaw_keeps n
tree_keeps (Group name ns) is = group_keeps name ns
tree_keeps (Ungroup ns) is = ungroup_keeps ns
tree_keeps (Into place ns) is = into_keeps place ns
tree_keeps c is = absurd (cc)
