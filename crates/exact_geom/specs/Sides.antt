-- On which side of a plane a point lies.
use Rattle.std.specs.Prelude.{zero, suc, ℤ, pos, negsuc}
use Rattle.exact_geom.specs.declared.sign.Sign.{Sign}
use Rattle.exact_geom.specs.declared.sign.Sign.TheVariants.{Behind, On, Front}

-- Behind below 0, on at 0, in front above 0.
abbrev pub sign_of : ℤ → Sign
sign_of (negsuc n) = Behind
sign_of (pos zero) = On
sign_of (pos (suc n)) = Front
