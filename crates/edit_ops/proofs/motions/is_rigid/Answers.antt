use Rattle.std.proofs.Common.{◌≡◌, true, subst}
use Rattle.orient48.specs.Motions.{is_signed_permutation}
use Rattle.edit_ops.proofs.motions.is_rigid.Goals as goal

pub returns : goal.returns
returns c = subst (λ m. is_signed_permutation m ≡ true) c.orient.ensures c.is_flip-flips.ensures.signed
