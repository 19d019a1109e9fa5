use Rattle.std.proofs.Common.{sym, ◌∙◌}
use Rattle.map_nodes.proofs.body.Body.is_same.Goals as goal

pub returns : goal.returns
returns c =
    let a = c.list.ensures ∙ c.self.view_is in
    let b = c.list-2.ensures ∙ c.other.view_is in
    let d = c.same_faces.ensures in
    (λ h. sym a ∙ d.0 h ∙ b, λ e. d.1 (a ∙ e ∙ sym b))
