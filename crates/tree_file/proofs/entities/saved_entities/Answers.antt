use Rattle.std.proofs.Common.{◌++◌, ◌∷◌, [], ℕ, option_map, Option, Some, ap, sym, ◌∙◌}
use Rattle.map_text.specs.declared.document.RawEntity.{RawEntity}
use Rattle.map_model.specs.Tree.{whole, at}
use Rattle.map_model.specs.Saved.{saved_entity}
use Rattle.tree_file.proofs.Lists.{values_more, values_same}
use Rattle.tree_file.proofs.entities.saved_entities.Goals as goal
use Rattle.tree_file.proofs.entities.saved_entities.Goals.{in-Some+in_ok-saved_entity-in-Some+in_ok-push-in-Some, in-None}

pub loop-id-preserved : goal.loop-id-preserved
loop-id-preserved c =
    let m = whole c.args.map.now in
    let h : ℕ → Option RawEntity = λ n. option_map (saved_entity m n) (at m n) in
    let nodes = c.args.nodes.now in
    let i = c.loop-id.id-index in
    let x = c.id-item.result in
    elim c.match-get.branch [
      | in-Some+in_ok-saved_entity-in-Some+in_ok-push-in-Some w ↦
          let y = w.in_ok-saved_entity-in-Some.field-0 in
          ap (λ v. v.items) w.saved-is ∙ w.in_ok-push-in-Some.ensures.items ∙ ap (λ l. l ++ y ∷ []) c.loop-id.invariant
          ∙ sym (values_more h nodes i x y c.loop-id-test.true c.id-item.is
          (ap (option_map (saved_entity m x)) (sym w.in-Some.ensures) ∙ ap Some (sym w.in_ok-saved_entity-in-Some.ensures)))
      | in-None w ↦
          ap (λ v. v.items) w.saved-is ∙ c.loop-id.invariant
          ∙ sym (values_same h nodes i x c.loop-id-test.true c.id-item.is (ap (option_map (saved_entity m x)) (sym w.in-None.ensures)))
    ]
