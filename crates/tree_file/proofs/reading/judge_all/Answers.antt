use Rattle.std.proofs.Common.{length, map, take, take_all, ◌++◌, ◌∷◌, [], ap, sym, ◌∙◌, arith}
use Rattle.std.proofs.lemmas.List.{length_push}
use Rattle.std.proofs.lemmas.Iterator.Adapters.{YieldsList-from_vec}
use Rattle.std.proofs.lemmas.Iterator.Consumers.{YieldsList-turn, YieldsList-end}
use Rattle.map_text.specs.Spelled.{is_spelled_brush}
use Rattle.file_laws.specs.FileLeaves.{file_leaves}
use Rattle.file_laws.specs.Readings.{judged}
use Rattle.tree_file.proofs.JudgedFaces.{each_passes}
use Rattle.tree_file.proofs.Kept.{in_list, map_more}
use Rattle.tree_file.proofs.reading.judge_all.Goals as goal

pub judge-requires : goal.judge-requires
judge-requires c =
    let bs = c.args.brushes.items in
    let g = c.into_iter-brush-iterator.ensures.into_iter_gives in
    let t = YieldsList-turn (YieldsList-from_vec {s = c.into_iter-brush-iterator.result} bs g.0 (g.1 ∙ c.args.brushes.ok.0)) c.loop-brush.yielded c.loop-brush.brush-iterator c.loop-brush.yielded_by c.next.result c.next.new.self c.in-Some.brush c.in-Some.is c.next.ensures.steps in
    record { spelled = each_passes is_spelled_brush bs c.requires.spelled c.in-Some.brush (in_list bs (length c.loop-brush.yielded) c.in-Some.brush t.0 t.1) }

pub loop-brush-preserved : goal.loop-brush-preserved
loop-brush-preserved c b right =
    let bs = c.args.brushes.items in
    let g = c.into_iter-brush-iterator.ensures.into_iter_gives in
    let t = YieldsList-turn (YieldsList-from_vec {s = c.into_iter-brush-iterator.result} bs g.0 (g.1 ∙ c.args.brushes.ok.0)) c.loop-brush.yielded c.loop-brush.brush-iterator c.loop-brush.yielded_by c.next.result c.next.new.self c.in-Some.brush c.in-Some.is c.next.ensures.steps in
    ap (λ n. map (judged (file_leaves b)) (take n bs)) (length_push c.loop-brush.yielded c.in-Some.brush)
    ∙ map_more (judged (file_leaves b)) bs (length c.loop-brush.yielded) c.in-Some.brush t.0 t.1
    ∙ (λ j. c.loop-brush.invariant b right j ++ c.in_ok-judge.ensures b right j ∷ []) ∙ sym c.in_ok-push.ensures.items

pub returns : goal.returns
returns c b right =
    let bs = c.args.brushes.items in
    let g = c.into_iter-brush-iterator.ensures.into_iter_gives in
    let t = YieldsList-end (YieldsList-from_vec {s = c.into_iter-brush-iterator.result} bs g.0 (g.1 ∙ c.args.brushes.ok.0)) c.loop-brush.yielded c.loop-brush.brush-iterator c.loop-brush.yielded_by c.next.result c.next.new.self c.in-None.is c.next.ensures.steps in
    let all = t.1 in
    ap (map (judged (file_leaves b))) (sym (take_all (length c.loop-brush.yielded) bs (omega (arith, all)))) ∙ c.loop-brush.invariant b right
