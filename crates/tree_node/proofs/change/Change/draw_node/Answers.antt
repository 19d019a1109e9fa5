use Rattle.std.proofs.Common.{ℕ, ◌+◌, Some, ◌∙◌, ap, ap₂}
use Rattle.map_model.specs.Tree.{Whole}
use Rattle.map_model.specs.Edits.{set, swap}
use Rattle.tree_node.proofs.change.Change.draw_node.Goals as goal

pub returns-clause-drawn : goal.returns-clause-drawn
returns-clause-drawn c = λ m.
    ap (swap m) c.draw.ensures.next
    ∙ ap₂ (λ (w : Whole) (n : ℕ). record w { next = n + 1 }) (c.in_ok-put.ensures.ok m) c.in_ok-put.ensures.next
    ∙ ap (λ (i : ℕ). record (set (swap m c.args.self.now) i (Some c.args.node)) { next = c.args.self.now.next + 1 }) (ap (λ d. d.next) c.put.view_is)
