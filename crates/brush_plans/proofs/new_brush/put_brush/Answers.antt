use Rattle.std.proofs.Common.{refl, ap, subst, ◌∙◌, ◌≤◌, arith, None}
use Rattle.map_model.specs.Tree.{whole, Brush}
use Rattle.map_model.specs.Edits.{put_last}
use Rattle.map_model.specs.Replies.{Made}
use Rattle.tree_node.specs.Held.{changed}
use Rattle.brush_plans.proofs.Numbers.{one_left, none_left, not_put}
use Rattle.brush_plans.proofs.new_brush.put_brush.Goals as goal

pub put_last-requires : goal.put_last-requires
put_last-requires c = let left = one_left c.new-change.result.next 1 c.room.result refl c.room.ensures c.in_ok-room.was in omega arith

pub returns-in_err-room : goal.returns-in_err-room
returns-in_err-room c =
    not_put (whole c.args.map.now) c.args.body c.new-change.result.next c.in_err-room.field-0.0 c.from_residual.result (ap (λ d. d.next) c.new-change.ensures)
    (none_left c.new-change.result.next 1 c.in_err-room.field-0.0 c.room.result refl c.room.ensures c.in_err-room.was) c.from_residual.ensures.1

pub returns : goal.returns
returns c =
    let m = c.args.map.now in
    record {
      map = c.tighten.ensures.same ∙ c.in_ok-put_last.ensures.1 ∙ ap (λ d. put_last 0 (Brush 0 None c.args.body) (changed m d)) c.new-change.ensures;
      reply_is = ap (Made 1) c.next.ensures;
      room = subst (λ n. n ≤ 65535) (ap (λ d. d.next) c.new-change.ensures) (one_left c.new-change.result.next 1 c.room.result refl c.room.ensures c.in_ok-room.was);
      tight = c.tighten.ensures.tight;
    }
