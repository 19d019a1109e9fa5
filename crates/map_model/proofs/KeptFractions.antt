-- Fractions that are kept are equal where their numbers are.
use Rattle.std.proofs.Common.{◌≡◌, pos, ◌≤ℤ◌, ap}
use Rattle.std.proofs.Math.Dec.{T_prop}
use Rattle.std.proofs.Math.Nat.{ℕ_set}
use mathlib.Core.HLevel.{is_prop→PathP}
use Rattle.fixed_num.specs.declared.fraction.Frac.{Frac}
use Rattle.fixed_num.specs.Fraction.{IsReduced}
use Rattle.map_nodes.specs.Fractions.{fraction_of}
use Rattle.map_nodes.proofs.Fractions.{lowest_again}
use Rattle.map_model.specs.Replies.{kept, KeptLaw}

same_fraction : (f g : Frac) → f.num ≡ g.num → f.den ≡ g.den → f ≡ g
same_fraction f g p q = λ i. record {
  num = p i;
  den = q i;
  positive = is_prop→PathP (λ j. pos 1 ≤ℤ q j) (λ j. hlevel T_prop) f.positive g.positive i;
  reduced = is_prop→PathP (λ j. IsReduced (p j) (q j)) (λ j. hlevel ℕ_set) f.reduced g.reduced i;
}

pub kept_law : KeptLaw
kept_law f = same_fraction (kept (fraction_of f)) f (ap (λ t. t.num) (lowest_again f)) (ap (λ t. t.den) (lowest_again f))
