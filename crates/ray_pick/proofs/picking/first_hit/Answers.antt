use Rattle.std.proofs.Common.{◌≡◌, true≢false, sym, subst, ◌∙◌, refl}
use Rattle.exact_geom.specs.Planes.{vector}
use Rattle.solid_brush.specs.Sides.{half_spaces}
use Rattle.ray_pick.specs.Hits.{Hits}
use Rattle.ray_pick.specs.Rays.{Misses}
use Rattle.ray_pick.proofs.Entering.{in_at_entry}
use Rattle.ray_pick.proofs.Lowering.{is_in, reaches}
use Rattle.ray_pick.proofs.picking.first_hit.Goals as goal

pub returns-then-not-is_in : goal.returns-then-not-is_in
returns-then-not-is_in c =
    let a = vector c.args.from in
    let b = vector c.args.to in
    let e = c.entry-entry.ensures in
    subst (λ s. Misses (half_spaces s) a b) c.sides-sides.ensures.sides
    (λ u r h. true≢false (sym (c.is_in.ensures.1 (in_at_entry (half_spaces c.sides-sides.result.now) a b c.entry-entry.result e u r h)) ∙ c.if-not-is_in.true))

pub first_on-face-requires-clause-is_in : goal.first_on-face-requires-clause-is_in
first_on-face-requires-clause-is_in c =
    is_in (half_spaces c.sides-sides.result.now) (vector c.args.from) (vector c.args.to) c.entry-entry.result c.entry-entry.ensures c.of-at.result c.of-at.ensures.ratio c.of-at.ensures.equal
    (c.is_in.ensures.0 c.if-not-is_in.false)

pub returns : goal.returns
returns c =
    let a = vector c.args.from in
    let b = vector c.args.to in
    subst (λ s. Hits (half_spaces s) a b (record { at = c.of-at.result; face = c.first_on-face.result })) c.sides-sides.ensures.sides (record {
      ratio = c.of-at.ensures.ratio;
      reaches = reaches (half_spaces c.sides-sides.result.now) a b c.entry-entry.result c.entry-entry.ensures c.of-at.result c.of-at.ensures.ratio c.of-at.ensures.equal (c.is_in.ensures.0 c.if-not-is_in.false);
      face = c.first_on-face.ensures;
    })
