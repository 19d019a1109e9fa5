use Rattle.std.proofs.Common.{rules, sym, ◌∙◌}
use Rattle.map_nodes.proofs.SameParts.{decides_group}
use Rattle.map_nodes.proofs.node.Node.is_group.Goals as goal

pub returns-in-Group : goal.returns-in-Group
returns-in-Group c =
    let g = c.in-Group in
    let d = decides_group g.parent c.args.place.0 g.mark c.args.place.1 g.name c.args.its_name.now g.link c.args.its_link.now g.props c.args.its_props.now g.brushes c.args.its_brushes.now g.others c.args.its_others.now
    c.eq.result c.eq-in-Group.result c.eq-in-Group-2.result c.same_link.result c.is_same.result c.same_ids.result c.same_ids-in-Group.result
    (search rules) (search rules) (search rules) (search rules) (search rules) (search rules) (search rules) in
    (λ h. g.is ∙ d.0 h, λ e. d.1 (sym g.is ∙ e))
