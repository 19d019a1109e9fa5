use Rattle.std.proofs.Common.{◌≡◌, ◌≤◌, ◌+◌, length, ap, sym, subst, ◌∙◌}
use Rattle.std.specs.Prelude.{OnOk}
use Rattle.algebra.specs.Members.{◌∈◌}
use Rattle.map_model.specs.Tree.{whole}
use Rattle.map_model.specs.Edits.{swap}
use Rattle.edit_ops.proofs.CopySteps.{copy_is}
use Rattle.edit_ops.proofs.copying.copy_node.Goals as goal

pub copies-requires-clause-there : goal.copies-requires-clause-there
copies-requires-clause-there c = λ q i. c.requires.there q (subst (λ l. q ∈ l) (c.deref.ensures.value ∙ c.in_ok-beneath.ensures) i)

pub copies-requires-clause-can : goal.copies-requires-clause-can
copies-requires-clause-can c = λ q i. c.requires.can q (subst (λ l. q ∈ l) (c.deref.ensures.value ∙ c.in_ok-beneath.ensures) i)

pub put_copies-requires-clause-same : goal.put_copies-requires-clause-same
put_copies-requires-clause-same c = ap length (c.deref-2.ensures.value ∙ sym c.deref.ensures.value) ∙ sym c.in_ok-nodes.ensures.count

pub put_copies-requires-clause-room : goal.put_copies-requires-clause-room
put_copies-requires-clause-room c =
    subst (λ l. c.args.change.now.next + length l ≤ 65536) (sym (c.deref-2.ensures.value ∙ c.in_ok-beneath.ensures)) c.requires.room

pub returns : goal.returns
returns c =
    let m = whole c.args.map.now in
    subst (λ w. OnOk c.put_copies.result (swap m c.put_copies.new.self ≡ w))
    (copy_is c.args.lock c.args.motion.now m (swap m c.args.change.now) c.args.id c.place_of-place.result c.deref-2.result.now c.deref.result.now c.in_ok-nodes.nodes.items
    c.place_of-place.ensures (c.deref-2.ensures.value ∙ c.in_ok-beneath.ensures) (c.deref.ensures.value ∙ c.in_ok-beneath.ensures) c.in_ok-nodes.ensures.nodes c.requires.same)
    c.put_copies.ensures
