use Rattle.std.proofs.Common.{ℕ, ◌<◌, List, cond, length, take, take_all, get_or, ap, sym, subst, ◌∙◌, arith}
use Rattle.std.proofs.lemmas.List.{length_push}
use Rattle.std.proofs.lemmas.Iterator.Adapters.{YieldsList-from_vec}
use Rattle.std.proofs.lemmas.Iterator.Consumers.{YieldsList-turn, YieldsList-end}
use Rattle.map_text.specs.Meaning.{put_property}
use Rattle.map_model.specs.Tree.{Props}
use Rattle.file_laws.specs.Readings.{stays, kept_props}
use Rattle.tree_file.specs.Kinds.{kind_of_part}
use Rattle.tree_file.proofs.Kept.{kept_more}
use Rattle.tree_file.proofs.reading.kept_props.Goals as goal

pub loop-key-preserved : goal.loop-key-preserved
loop-key-preserved c =
    let k = kind_of_part c.args.part in
    let i = length c.loop-key.yielded in
    let p : List ℕ × List ℕ = (c.in-Some.key, c.in-Some.value) in
    let g = c.into_iter-key-iterator.ensures.into_iter_gives in
    let t = YieldsList-turn (YieldsList-from_vec {s = c.into_iter-key-iterator.result} c.into_vec-key-items.result.items g.0 (g.1 ∙ c.into_vec-key-items.result.ok.0)) c.loop-key.yielded c.loop-key.key-iterator c.loop-key.yielded_by c.next.result c.next.new.self p c.in-Some.is c.next.ensures.steps in
    let lt = subst (λ (l : Props). i < length l) c.into_vec-key-items.ensures t.0 in
    let is = t.1 ∙ ap (λ l. get_or l i p) c.into_vec-key-items.ensures in
    c.in_ok-keep_pair.ensures ∙ ap (λ l. cond (stays k p) (put_property p.0 p.1 l) l) c.loop-key.invariant
    ∙ kept_more k c.args.props i p.0 p.1 c.requires.distinct lt is ∙ ap (λ n. kept_props k (take n c.args.props)) (sym (length_push c.loop-key.yielded p))

pub returns : goal.returns
returns c =
    let g = c.into_iter-key-iterator.ensures.into_iter_gives in
    let t = YieldsList-end (YieldsList-from_vec {s = c.into_iter-key-iterator.result} c.into_vec-key-items.result.items g.0 (g.1 ∙ c.into_vec-key-items.result.ok.0)) c.loop-key.yielded c.loop-key.key-iterator c.loop-key.yielded_by c.next.result c.next.new.self c.in-None.is c.next.ensures.steps in
    let all = t.1 in
    let same = ap length c.into_vec-key-items.ensures in
    c.loop-key.invariant ∙ ap (kept_props (kind_of_part c.args.part)) (take_all (length c.loop-key.yielded) c.args.props (omega (arith, all, same)))
