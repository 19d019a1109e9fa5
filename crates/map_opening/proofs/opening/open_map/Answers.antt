use Rattle.std.proofs.Common.{rules}
use Rattle.map_text.specs.Reads.{Reads}
use Rattle.map_model.specs.Tree.{whole}
use Rattle.map_opening.proofs.Found.{tree_opens}
use Rattle.map_opening.proofs.opening.open_map.Goals as goal

pub returns-clause-opened : goal.returns-clause-opened
returns-clause-opened c =
    let reads : Reads c.args.bytes.now c.in_ok-doc.doc = search rules in
    tree_opens c.to_tree.result c.map_err-2.result (λ x. whole x.0) (λ x. x.1.items) _ c.map_err-2.ensures.cases c.map_err-2.ensures.variant c.args.bytes.now c.in_ok-doc.doc reads
    c.to_tree.ensures.plain c.to_tree.ensures.built
