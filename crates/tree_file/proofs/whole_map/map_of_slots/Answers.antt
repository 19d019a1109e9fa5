use Rattle.std.proofs.Common.{◌≡◌, length, ap, sym, subst, ◌∙◌, arith}
use Rattle.uv_lock.specs.declared.texture.Format.TheVariants.{Standard}
use Rattle.map_model.specs.Tree.{whole}
use Rattle.tree_node.specs.Held.{IsMap}
use Rattle.tree_file.proofs.Filling.{some_slots, filled_map}
use Rattle.tree_file.proofs.whole_map.map_of_slots.Goals as goal

pub draw_until-requires : goal.draw_until-requires
draw_until-requires c =
    let some = some_slots c.args.slots.items c.requires.sound in
    record {
      one = c.in_ok-put_all.ensures.next ∙ ap (λ d. d.next) c.new-change.ensures ∙ ap (λ m. m.next) c.in_ok-map.ensures.world;
      some = omega (arith, c.len-count.ensures, c.args.slots.ok.0, some);
      few = omega (arith, c.len-count.ensures, c.args.slots.ok.0, c.requires.few);
    }

pub swap-requires : goal.swap-requires
swap-requires c =
    let count : c.len-count.result ≡ length c.args.slots.items = omega (arith, c.len-count.ensures, c.args.slots.ok.0) in
    record {
      room = c.in_ok-reserve.ensures.room;
      sound = subst IsMap
          (sym (filled_map Standard c.args.slots.items (whole c.in_ok-map.map) (whole c.reserve.new.self) c.new-change.result c.put_all.new.change c.draw_until.new.change c.len-count.result
          (some_slots c.args.slots.items c.requires.sound) c.in_ok-map.ensures.world c.in_ok-reserve.ensures.same c.in_ok-put_all.ensures.put c.new-change.ensures c.draw_until.ensures count))
          c.requires.sound;
    }

pub returns : goal.returns
returns c =
    let count : c.len-count.result ≡ length c.args.slots.items = omega (arith, c.len-count.ensures, c.args.slots.ok.0) in
    c.swap.ensures.now
    ∙ filled_map Standard c.args.slots.items (whole c.in_ok-map.map) (whole c.reserve.new.self) c.new-change.result c.put_all.new.change c.draw_until.new.change c.len-count.result
    (some_slots c.args.slots.items c.requires.sound) c.in_ok-map.ensures.world c.in_ok-reserve.ensures.same c.in_ok-put_all.ensures.put c.new-change.ensures c.draw_until.ensures count
