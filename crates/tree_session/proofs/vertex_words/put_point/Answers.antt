use Rattle.std.proofs.Common.{◌∷◌, ◌++◌, [], ap, ◌∙◌}
use Rattle.tree_session.specs.Lines.{three_words, point_text}
use Rattle.tree_session.proofs.Lines.{ends, point_made}
use Rattle.tree_session.proofs.Numbers.{three_given}
use Rattle.tree_session.proofs.vertex_words.put_point.Goals as goal

pub returns : goal.returns
returns c =
    let t = three_words c.args.x c.args.y c.args.z in
    ends c.put-2.result c.put_numbers.new.listing (41 ∷ []) c.put-2.new.self (c.args.listing.now ++ point_text c.args.x c.args.y c.args.z) c.put-2.ensures
    (point_made c.args.listing.now c.put_numbers.new.listing t
    (three_given c.args.x c.args.y c.args.z c.put.new.self c.put_numbers.new.listing c.ranges.x c.ranges.y c.ranges.z c.in_ok-put_numbers.ensures
    ∙ ap (λ l. l ++ t) c.in_ok-put.ensures))
