use Rattle.std.proofs.Common.{◌++◌, ◌∷◌, [], Some, None, length, take, ap, sym, ◌∙◌, append_assoc}
use Rattle.std.proofs.lemmas.List.{length_push}
use Rattle.std.proofs.lemmas.Iterator.Adapters.{YieldsList-from_vec}
use Rattle.std.proofs.lemmas.Iterator.Consumers.{YieldsList-turn}
use Rattle.map_model.specs.Tree.{Brush}
use Rattle.tree_file.proofs.Pushing.{placed_brushes, brush_more}
use Rattle.tree_file.proofs.placing.push_brushes.Goals as goal

pub loop-brush-preserved-in-Continue-1 : goal.loop-brush-preserved-in-Continue-1
loop-brush-preserved-in-Continue-1 c =
    let brushes = c.args.brushes.items in
    let g = c.into_iter-brush-iterator.ensures.into_iter_gives in
    let t = YieldsList-turn (YieldsList-from_vec {s = c.into_iter-brush-iterator.result} brushes g.0 (g.1 ∙ c.args.brushes.ok.0)) c.loop-brush.yielded c.loop-brush.brush-iterator c.loop-brush.yielded_by c.next.result c.next.new.self c.in-Some.brush c.in-Some.is c.next.ensures.steps in
    let k = length c.loop-brush.yielded in
    let slots = c.args.slots.now.items in
    let parent = c.args.parent in
    c.in_ok-push.ensures.items
    ∙ ap (λ l. l ++ Some (Brush parent None c.in-Ok.body) ∷ []) c.loop-brush.invariant
    ∙ append_assoc slots (placed_brushes parent (take k brushes)) (Some (Brush parent None c.in-Ok.body) ∷ [])
    ∙ ap (λ l. slots ++ l) (sym (brush_more parent brushes k c.in-Some.brush c.in-Ok.body t.0 t.1 c.in-Ok.is) ∙ ap (λ n. placed_brushes parent (take n brushes)) (sym (length_push c.loop-brush.yielded c.in-Some.brush)))
