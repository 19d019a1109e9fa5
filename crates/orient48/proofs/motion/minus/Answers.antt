use Rattle.std.proofs.Common.{ap, ◌∙◌, get_or, pos, negsuc, ◌*ℤ◌, w32}
use Rattle.algebra.specs.Space.{scale}
use Rattle.algebra.proofs.Identities.{vector_by}
use Rattle.exact_geom.proofs.Exactly.{var, call}
use Rattle.orient48.specs.Kept.{vector_in}
use Rattle.orient48.proofs.Moves.{minus_size}
use Rattle.orient48.proofs.Parts.{within_short}
use Rattle.orient48.proofs.motion.minus.Goals as goal

pub returns : goal.returns
unfolding scale
returns c =
    let s = within_short (vector_in c.args.shift) c.requires in
    let a = get_or c.args.shift 0 (pos 0) in
    let b = get_or c.args.shift 1 (pos 0) in
    let d = get_or c.args.shift 2 (pos 0) in
    vector_by
    (call w32 c.opposite.result (negsuc 0 *ℤ a) (c.opposite.ensures ∙ ap (λ t. negsuc 0 *ℤ t) (var w32 a s.x tt).is) (minus_size a 1000000 s.x) tt).is
    (call w32 c.opposite-2.result (negsuc 0 *ℤ b) (c.opposite-2.ensures ∙ ap (λ t. negsuc 0 *ℤ t) (var w32 b s.y tt).is) (minus_size b 1000000 s.y) tt).is
    (call w32 c.opposite-3.result (negsuc 0 *ℤ d) (c.opposite-3.ensures ∙ ap (λ t. negsuc 0 *ℤ t) (var w32 d s.z tt).is) (minus_size d 1000000 s.z) tt).is
