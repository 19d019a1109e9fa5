-- The ratio test: how far a point can go in a direction within some half-spaces.
use Rattle.std.proofs.Common.{◌≡◌, List, [], ◌∷◌, ap, ◌∙◌, ℤ, pos, ◌+ℤ◌, ◌*ℤ◌, neg_ℤ, ◌≤ℤ◌}
use Rattle.algebra.specs.Members.{Every}
use Rattle.algebra.specs.Fractions.{Greatest}
use Rattle.algebra.specs.Space.{Vector, Homogeneous, HalfSpace, dot, side}
use Rattle.algebra.specs.Ratio.{Hit}
use Rattle.algebra.specs.Laws.{RatioTest}
use Rattle.algebra.proofs.Expr.{read}
use Rattle.algebra.proofs.Ring.{ring}
use Rattle.algebra.proofs.Orders.{nonneg-neg}
use Rattle.algebra.proofs.Identities.{side-go}
use Rattle.algebra.proofs.Fractions.{greatest_of, before}

at_hit : (s g : ℤ) → g *ℤ s +ℤ neg_ℤ s *ℤ g ≡ pos 0
at_hit s g = ring (s ∷ g ∷ []) (search read depth 20) tt

beside : (q t a : ℤ) → q *ℤ a +ℤ t *ℤ pos 0 ≡ q *ℤ a
beside q t a = ring (q ∷ t ∷ a ∷ []) (search read depth 20) tt

hit_at : (F : List HalfSpace) (p : Homogeneous) (m : Vector) → Every (λ f. side f p ≤ℤ pos 0) F → Greatest (λ f. side f p) (λ f. dot f.normal m) F → Hit F p m
hit_at F p m inside b = let q = dot b.it.normal m in let t = neg_ℤ (side b.it p) in record {
  face = b.it;
  t = t;
  q = q;
  among = b.among;
  ahead = b.ahead;
  t_nonneg = nonneg-neg (inside b.it b.among);
  q_positive = b.ahead;
  reached = side-go q t p m b.it ∙ at_hit (side b.it p) q;
  inside = λ f i. rw side-go (before (side b.it p) q (side f p) (dot f.normal m) b.ahead (inside b.it b.among) (inside f i) (b.above f i));
  kept = λ f i e. side-go q t p m f ∙ ap (λ x. q *ℤ side f p +ℤ t *ℤ x) e ∙ beside q t (side f p);
}

pub ratio_test : RatioTest
ratio_test F p m inside e i h = hit_at F p m inside (greatest_of (λ f. side f p) (λ f. dot f.normal m) F e i h)
