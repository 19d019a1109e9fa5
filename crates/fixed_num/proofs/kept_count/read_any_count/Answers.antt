use Rattle.std.proofs.Common.{refl}
use Rattle.fixed_num.proofs.kept_count.read_any_count.Goals as goal

pub returns : goal.returns
returns c = record {
  parts = _;
  has_parts = c.in_ok-number.ensures.parts;
  keeps = c.rounded.ensures;
  is_signed = refl;
}
