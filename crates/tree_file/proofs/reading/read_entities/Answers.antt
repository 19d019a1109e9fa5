use Rattle.std.proofs.Common.{length, take, take_all, ◌+◌, ◌++◌, ◌∷◌, [], ap, sym, ◌∙◌, arith}
use Rattle.std.proofs.lemmas.List.{length_push}
use Rattle.std.proofs.lemmas.Iterator.Adapters.{YieldsList-from_vec}
use Rattle.std.proofs.lemmas.Iterator.Consumers.{YieldsList-turn, YieldsList-end}
use Rattle.map_text.specs.Spelled.{is_spelled_entity}
use Rattle.file_laws.specs.FileLeaves.{file_leaves}
use Rattle.file_laws.specs.Readings.{reading, readings_from}
use Rattle.tree_file.specs.Promises.{asks_for_links}
use Rattle.tree_file.proofs.JudgedFaces.{each_passes}
use Rattle.tree_file.proofs.Kept.{in_list, read_more}
use Rattle.tree_file.proofs.ReadOne.{none_at}
use Rattle.tree_file.proofs.reading.read_entities.Goals as goal

pub read_entity-requires : goal.read_entity-requires
read_entity-requires c =
    let es = c.args.entities.items in
    let g = c.into_iter-raw-iterator.ensures.into_iter_gives in
    let t = YieldsList-turn (YieldsList-from_vec {s = c.into_iter-raw-iterator.result} es g.0 (g.1 ∙ c.args.entities.ok.0)) c.loop-raw.yielded c.loop-raw.raw-iterator c.loop-raw.yielded_by c.next.result c.next.new.self c.in-Some.raw c.in-Some.is c.next.ensures.steps in
    let at = in_list es (length c.loop-raw.yielded) c.in-Some.raw t.0 t.1 in
    record {
      spelled = each_passes is_spelled_entity es c.requires.spelled c.in-Some.raw at;
      plain = none_at asks_for_links es c.requires.plain c.in-Some.raw at;
    }

pub overflow_add-place : goal.overflow_add-place
overflow_add-place c =
    let es = c.args.entities.items in
    let g = c.into_iter-raw-iterator.ensures.into_iter_gives in
    let t = YieldsList-turn (YieldsList-from_vec {s = c.into_iter-raw-iterator.result} es g.0 (g.1 ∙ c.args.entities.ok.0)) c.loop-raw.yielded c.loop-raw.raw-iterator c.loop-raw.yielded_by c.next.result c.next.new.self c.in-Some.raw c.in-Some.is c.next.ensures.steps in
    let lt = t.0 in
    omega (arith, lt, c.loop-raw.invariant.place, c.requires.few)

pub loop-raw-preserved : goal.loop-raw-preserved
loop-raw-preserved c =
    let es = c.args.entities.items in
    let g = c.into_iter-raw-iterator.ensures.into_iter_gives in
    let t = YieldsList-turn (YieldsList-from_vec {s = c.into_iter-raw-iterator.result} es g.0 (g.1 ∙ c.args.entities.ok.0)) c.loop-raw.yielded c.loop-raw.raw-iterator c.loop-raw.yielded_by c.next.result c.next.new.self c.in-Some.raw c.in-Some.is c.next.ensures.steps in
    let i = c.loop-raw.invariant in
    let one = length_push c.loop-raw.yielded c.in-Some.raw in
    record {
      place = ap (λ n. n + 1) i.place ∙ sym one;
      readings = λ b right.
          ap (λ n. readings_from (file_leaves b) c.args.format 0 (take n es)) one
          ∙ read_more (file_leaves b) c.args.format es (length c.loop-raw.yielded) c.in-Some.raw t.0 t.1
          ∙ (λ j. i.readings b right j ++ (ap (λ p. reading (file_leaves b) c.args.format p c.in-Some.raw) (sym i.place) ∙ c.in_ok-read_entity.ensures b right) j ∷ []) ∙ sym c.in_ok-push.ensures.items;
    }

pub returns : goal.returns
returns c b right =
    let es = c.args.entities.items in
    let g = c.into_iter-raw-iterator.ensures.into_iter_gives in
    let t = YieldsList-end (YieldsList-from_vec {s = c.into_iter-raw-iterator.result} es g.0 (g.1 ∙ c.args.entities.ok.0)) c.loop-raw.yielded c.loop-raw.raw-iterator c.loop-raw.yielded_by c.next.result c.next.new.self c.in-None.is c.next.ensures.steps in
    let all = t.1 in
    ap (readings_from (file_leaves b) c.args.format 0) (sym (take_all (length c.loop-raw.yielded) es (omega (arith, all)))) ∙ c.loop-raw.invariant.readings b right
