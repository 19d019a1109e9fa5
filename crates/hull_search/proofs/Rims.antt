-- The scan for the edge of a face from a corner.
use Rattle.std.proofs.Common.{◌≡◌, true, ℕ, ◌+◌, ◌<◌, List, length, arith, below_more, pos, ◌<ℤ◌, ◌≤ℤ◌}
use Rattle.std.proofs.lemmas.Int.{by_lt_z}
use Rattle.algebra.specs.Space.{Vector, HalfSpace, dot, minus, side, whole_point}
use Rattle.algebra.proofs.Members.{member_at}
use Rattle.algebra.proofs.Vectors.{nonzero}
use Rattle.hull_laws.specs.Facets.{origin}
use Rattle.hull_laws.specs.Pivots.{slope, border, Edge, FirstEdge}
use Rattle.hull_laws.proofs.Line.{kept, met, met_end}
use Rattle.hull_laws.proofs.Separate.{slope-at}
use Rattle.hull_search.specs.Places.{point, number, same_place, AreOn, IsOtherOn, IsEdgeEnd}
use Rattle.hull_search.proofs.Turning.{of_same, no_edge}

pub end_first : (ps : List Vector) (f : HalfSpace) (on : List ℕ) (a b : ℕ) → AreOn ps f on → IsOtherOn ps on a b → IsEdgeEnd ps f on 0 a b
end_first ps f on a b A O = record {
  b_on = A.each b O.among;
  apart = by_lt_z (pos 0) (dot (minus (point ps b) (point ps a)) (minus (point ps b) (point ps a))) (λ l. l) (λ l. let s = of_same (point ps a) (point ps b) l in let o = O.other in absurd (cc));
  met = λ k l. absurd (omega arith);
}

-- the next place is at the left of the way
pub end_new : (ps : List Vector) (f : HalfSpace) (on : List ℕ) (k a b : ℕ) → pos 0 <ℤ dot f.normal f.normal → AreOn ps f on → k < length on → IsEdgeEnd ps f on k a b →
    pos 0 <ℤ side (border f (point ps a) (point ps b)) (whole_point (point ps (number on k))) → IsEdgeEnd ps f on (k + 1) a (number on k)
unfolding slope
end_new ps f on k a b w A l B left =
    let p = point ps a in let q = point ps b in let n = A.each (number on k) (member_at on k 0 l) in
    record {
      b_on = n;
      apart = nonzero (minus (point ps (number on k)) p) (border f p q).normal (rw slope-at at left);
      met = below_more (λ j. FirstEdge ps f p (point ps (number on j)) → side (border f p (point ps (number on j))) (whole_point (point ps (number on k))) ≡ pos 0) k
          (λ j h F. absurd (kept ps f p (point ps (number on j)) q (point ps (number on k)) w F (member_at ps b origin B.b_on.0) B.b_on.1 (B.met j h F) B.apart (member_at ps (number on k) origin n.0) n.1 left))
          (λ F. met_end f p (point ps (number on k)));
    }

-- it is not
pub end_stays : (ps : List Vector) (f : HalfSpace) (on : List ℕ) (k a b : ℕ) → IsEdgeEnd ps f on k a b →
    side (border f (point ps a) (point ps b)) (whole_point (point ps (number on k))) ≤ℤ pos 0 → IsEdgeEnd ps f on (k + 1) a b
end_stays ps f on k a b B right =
    let p = point ps a in let q = point ps b in
    record {
      b_on = B.b_on;
      apart = B.apart;
      met = below_more (λ j. FirstEdge ps f p (point ps (number on j)) → side (border f p (point ps (number on j))) (whole_point q) ≡ pos 0) k B.met
          (λ F. met ps f p (point ps (number on k)) q F.edge (member_at ps b origin B.b_on.0) B.b_on.1 right);
    }

pub no_edges : (ps : List Vector) (f : HalfSpace) (on : List ℕ) (a : ℕ) → ((k : ℕ) → k < length on → same_place (point ps a) (point ps (number on k)) ≡ true) →
    (k : ℕ) → k < length on → ¬ (Edge ps f (point ps a) (point ps (number on k)))
no_edges ps f on a same k l = no_edge ps f a (number on k) (same k l)
