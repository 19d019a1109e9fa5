use Rattle.std.proofs.Common.{sym, ◌∙◌, arith}
use Rattle.fixed_num.proofs.Kept.{squeezed-small}
use Rattle.fixed_num.proofs.Rounding.{nearest_at_places, nearest_without_places}
use Rattle.fixed_num.proofs.scale.rounded.Goals as goal

pub returns-in-Some : goal.returns-in-Some
returns-in-Some c = record {
  size = _;
  nearest = nearest_at_places c.args.decimals c.args.number.now.negative _ _ c.args.number.now.exponent.lowers c.args.number.now.exponent.size c.in-Some.places
      c.requires.readable.whole_digits c.requires.readable.fraction_digits (sym c.places.ensures ∙ c.in-Some.is);
  is_squeezed = c.rounded_at.ensures;
}

pub returns-in-None : goal.returns-in-None
returns-in-None c = record {
  size = 0;
  nearest = nearest_without_places c.args.decimals c.args.number.now.negative _ _ c.args.number.now.exponent.lowers c.args.number.now.exponent.size
      c.requires.readable.whole_digits c.requires.readable.fraction_digits (sym c.places.ensures ∙ c.in-None.is);
  is_squeezed = sym (squeezed-small 0 (omega arith));
}
