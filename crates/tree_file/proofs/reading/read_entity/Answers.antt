use Rattle.std.proofs.Common.{◌≡◌, true, None, cond, map, codes, ◌&&◌, ◌||◌, ap, sym, subst, ◌∙◌}
use Rattle.std.specs.List.{list_all}
use Rattle.map_text.specs.Spelled.{is_spelled_brush}
use Rattle.map_model.specs.Props.{value_at, has_key}
use Rattle.file_laws.specs.FileLeaves.{file_leaves}
use Rattle.file_laws.specs.Readings.{kind_in, node_in, id_in, is_named, is_placed, motion_from, judged}
use Rattle.tree_file.proofs.ReadOne.{names_none, protects_none, spelled_parts}
use Rattle.tree_file.proofs.reading.read_entity.Goals as goal

pub judge_all-requires : goal.judge_all-requires
judge_all-requires c = record { spelled = subst (λ l. list_all is_spelled_brush l ≡ true) (sym c.into_vec.ensures) (spelled_parts c.args.raw c.requires.spelled).brushes }

pub node_in-requires : goal.node_in-requires
node_in-requires c = record {
  distinct = (spelled_parts c.args.raw c.requires.spelled).distinct;
  plain = protects_none c.args.raw c.requires.plain;
}

pub returns : goal.returns
returns c b right =
    let raw = c.args.raw in
    let w = file_leaves b in
    let ps = sym c.list-pairs.ensures in
    let kind = ap (kind_in c.args.place) ps ∙ sym c.part_in-part.ensures in
    λ i. record {
      place = c.args.place;
      node = (ap (node_in c.args.format raw.props) kind ∙ sym c.in_ok-node_in.ensures) i;
      id = ((λ j. cond (is_named (kind j)) (id_in (codes "_tb_id") (ps j)) None) ∙ sym c.own_id.ensures) i;
      in_group = ((λ j. cond (is_placed (kind j)) (id_in (codes "_tb_group") (ps j)) None) ∙ sym c.named_id.ensures) i;
      in_layer = ((λ j. cond (is_placed (kind j)) (id_in (codes "_tb_layer") (ps j)) None) ∙ sym c.named_id-2.ensures) i;
      names_parent = ((λ j. is_placed (kind j) && (has_key (codes "_tb_group") (ps j) || has_key (codes "_tb_layer") (ps j))) ∙ sym c.names_parent.ensures) i;
      set = names_none raw c.args.place c.requires.plain i;
      motion = motion_from w (names_none raw c.args.place c.requires.plain i) (value_at (codes "_tb_transformation") raw.props);
      brushes = (ap (map (judged w)) (sym c.into_vec.ensures) ∙ c.in_ok-outcomes.ensures b right) i;
    }
