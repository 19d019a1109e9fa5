use Rattle.std.proofs.Common.{ap, sym, ◌∙◌, get_or, pos}
use Rattle.exact_geom.specs.declared.point.Point.{Point}
use Rattle.exact_geom.specs.Planes.{plane_of}
use Rattle.orient48.specs.Kept.{place_of_fault}
use Rattle.orient48.specs.Motions.{moved_plane, moved_point, is_flip, is_signed_permutation}
use Rattle.orient48.proofs.Matrices.{is_turn}
use Rattle.orient48.proofs.Moves.{flipped_points, kept_points}
use Rattle.orient48.proofs.Reach.{no_flat, place_is, not_flat, not_flat_moved}
use Rattle.orient48.proofs.motion.Motion.plane.Goals as goal

abbrev no_point : Point
no_point = record { x = pos 0; y = pos 0; z = pos 0 }

pub unless_flat-requires : goal.unless_flat-requires
unless_flat-requires c =
    let m = c.args.self.now in let t = c.args.p.now in
    let flip = ap (λ k. is_flip k.matrix) (sym c.self.view_is) ∙ sym c.is_flip.ensures.flip ∙ c.if-is_flip.true in
    let turn = is_turn m.matrix (ap (λ k. is_signed_permutation k.matrix) (sym c.self.view_is) ∙ c.is_flip.ensures.signed) in
    let flat = not_flat_moved m t turn (not_flat t c.points.ensures.plane) in
    let is = c.of.ensures ∙ ap plane_of (flipped_points m t c.point-first.result c.point-second.result c.point-third.result flip
    (c.point-first.ensures ∙ ap (λ l. moved_point m (get_or l 0 no_point)) c.points.ensures.points)
    (c.point-second.ensures ∙ ap (λ l. moved_point m (get_or l 1 no_point)) c.points.ensures.points)
    (c.point-third.ensures ∙ ap (λ l. moved_point m (get_or l 2 no_point)) c.points.ensures.points)) in
    λ e. no_flat (moved_plane m t) flat (sym is ∙ e)

pub unless_flat-requires-else-is_flip : goal.unless_flat-requires-else-is_flip
unless_flat-requires-else-is_flip c =
    let m = c.args.self.now in let t = c.args.p.now in
    let flip = ap (λ k. is_flip k.matrix) (sym c.self.view_is) ∙ sym c.is_flip.ensures.flip ∙ c.if-is_flip.false in
    let turn = is_turn m.matrix (ap (λ k. is_signed_permutation k.matrix) (sym c.self.view_is) ∙ c.is_flip.ensures.signed) in
    let flat = not_flat_moved m t turn (not_flat t c.points.ensures.plane) in
    let is = c.of-else-is_flip.ensures ∙ ap plane_of (kept_points m t c.point-first.result c.point-second.result c.point-third.result flip
    (c.point-first.ensures ∙ ap (λ l. moved_point m (get_or l 0 no_point)) c.points.ensures.points)
    (c.point-second.ensures ∙ ap (λ l. moved_point m (get_or l 1 no_point)) c.points.ensures.points)
    (c.point-third.ensures ∙ ap (λ l. moved_point m (get_or l 2 no_point)) c.points.ensures.points)) in
    λ e. no_flat (moved_plane m t) flat (sym is ∙ e)

pub returns-then-is_flip : goal.returns-then-is_flip
returns-then-is_flip c =
    let m = c.args.self.now in let t = c.args.p.now in
    let flip = ap (λ k. is_flip k.matrix) (sym c.self.view_is) ∙ sym c.is_flip.ensures.flip ∙ c.if-is_flip.true in
    let turn = is_turn m.matrix (ap (λ k. is_signed_permutation k.matrix) (sym c.self.view_is) ∙ c.is_flip.ensures.signed) in
    let flat = not_flat_moved m t turn (not_flat t c.points.ensures.plane) in
    let is = c.of.ensures ∙ ap plane_of (flipped_points m t c.point-first.result c.point-second.result c.point-third.result flip
    (c.point-first.ensures ∙ ap (λ l. moved_point m (get_or l 0 no_point)) c.points.ensures.points)
    (c.point-second.ensures ∙ ap (λ l. moved_point m (get_or l 1 no_point)) c.points.ensures.points)
    (c.point-third.ensures ∙ ap (λ l. moved_point m (get_or l 2 no_point)) c.points.ensures.points)) in
    c.unless_flat.ensures ∙ ap place_of_fault is ∙ place_is (moved_plane m t) flat

pub returns-else-is_flip : goal.returns-else-is_flip
returns-else-is_flip c =
    let m = c.args.self.now in let t = c.args.p.now in
    let flip = ap (λ k. is_flip k.matrix) (sym c.self.view_is) ∙ sym c.is_flip.ensures.flip ∙ c.if-is_flip.false in
    let turn = is_turn m.matrix (ap (λ k. is_signed_permutation k.matrix) (sym c.self.view_is) ∙ c.is_flip.ensures.signed) in
    let flat = not_flat_moved m t turn (not_flat t c.points.ensures.plane) in
    let is = c.of-else-is_flip.ensures ∙ ap plane_of (kept_points m t c.point-first.result c.point-second.result c.point-third.result flip
    (c.point-first.ensures ∙ ap (λ l. moved_point m (get_or l 0 no_point)) c.points.ensures.points)
    (c.point-second.ensures ∙ ap (λ l. moved_point m (get_or l 1 no_point)) c.points.ensures.points)
    (c.point-third.ensures ∙ ap (λ l. moved_point m (get_or l 2 no_point)) c.points.ensures.points)) in
    c.unless_flat-else-is_flip.ensures ∙ ap place_of_fault is ∙ place_is (moved_plane m t) flat
