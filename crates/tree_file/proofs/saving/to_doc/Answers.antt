use Rattle.std.proofs.Common.{◌<◌, ◌^◌, length, filter, filter_map, option_map, ap, sym, subst, ◌∙◌}
use Rattle.map_model.specs.Tree.{whole, at}
use Rattle.map_model.specs.Saved.{has_id, saved_entity}
use Rattle.map_model.proofs.SomeRight.{some_are_right}
use Rattle.map_text.specs.Spelled.{is_savable}
use Rattle.map_write.proofs.DocumentBack.{saved_is_read}
use Rattle.file_laws.specs.FileLeaves.{file_leaves}
use Rattle.file_laws.specs.Linked.{build}
use Rattle.tree_file.specs.Ids.{Counts}
use Rattle.tree_file.proofs.Unlinked.{can_be_saved, builds_again, few_named}
use Rattle.tree_file.proofs.saving.to_doc.Goals as goal

pub of-requires : goal.of-requires
of-requires c =
    let m = whole c.args.map.now in
    let e = c.deref-2.ensures.value ∙ c.in_ok-named_nodes.ensures ∙ ap (filter (has_id m)) (c.deref.ensures.value ∙ c.in_ok-nodes.ensures) in
    record { few = subst (λ l. length l < 2 ^ 31) (sym e) (few_named m c.is_map.ensures.shape c.is_map.ensures.unlinked) }

pub saved_entities-requires : goal.saved_entities-requires
saved_entities-requires c =
    let m = whole c.args.map.now in
    let e = c.deref-2.ensures.value ∙ c.in_ok-named_nodes.ensures ∙ ap (filter (has_id m)) (c.deref.ensures.value ∙ c.in_ok-nodes.ensures) in
    record { ids = subst (λ l. Counts l c.in_ok-ids.ids) e c.in_ok-ids.ensures }

pub returns-clause-saves : goal.returns-clause-saves
returns-clause-saves c =
    let m = whole c.args.map.now in
    λ i. record {
      format = c.saved_format.ensures i;
      entities = (c.of-2.ensures ∙ c.in_ok-saved_entities.ensures ∙ ap (filter_map (λ n. option_map (saved_entity m n) (at m n))) (c.deref-3.ensures.value ∙ c.in_ok-nodes.ensures)) i;
    }

pub returns-clause-savable : goal.returns-clause-savable
returns-clause-savable c =
    ap is_savable (returns-clause-saves c) ∙ can_be_saved (whole c.args.map.now) c.is_map.ensures.shape c.is_map.ensures.unlinked some_are_right.tests

pub returns-clause-reads : goal.returns-clause-reads
returns-clause-reads c = saved_is_read _ (returns-clause-savable c)

pub returns-clause-back : goal.returns-clause-back
returns-clause-back c b right =
    ap (build (file_leaves b)) (returns-clause-saves c) ∙ builds_again (whole c.args.map.now) c.is_map.ensures.shape c.is_map.ensures.unlinked b right
