-- From a point on the line of two faces, along the line to its end in the solid.
use Rattle.std.proofs.Common.{◌≡◌, List, [], ◌∷◌, ◌∙◌, arith, ◌⊎◌, inl, inr, ℤ, pos, ◌+ℤ◌, ◌*ℤ◌, neg_ℤ, ◌<ℤ◌, ◌≤ℤ◌}
use Rattle.std.proofs.lemmas.Int.{ints, by_lt_z}
use Rattle.algebra.specs.Members.{◌∈◌}
use Rattle.algebra.specs.Ratio.{Hit}
use Rattle.algebra.specs.Space.{Homogeneous, HalfSpace, dot, cross, side, go}
use Rattle.algebra.proofs.Expr.{read}
use Rattle.algebra.proofs.Ring.{ring}
use Rattle.algebra.proofs.Orders.{eq_by_2, cancel-eq_left, zero-mul}
use Rattle.algebra.proofs.Identities.{dot-cross_left, dot-cross_right}
use Rattle.algebra.proofs.Points.{weight-go}
use Rattle.algebra.proofs.Ratio.{ratio_test}
use Rattle.trim_laws.specs.Solid.{IsIn, Bounded}
use Rattle.vertex_laws.specs.Vertex.{IsVertex, Crosses}
use Rattle.vertex_laws.proofs.Corner.{turned}

-- ---- from a point on the line of two faces, along the line
pub record Run (F : List HalfSpace) (f g : HalfSpace) (p : Homogeneous) : Type 0 where
  pub q : ℤ
  pub t : ℤ
  pub q_positive : pos 0 <ℤ q
  pub t_nonneg : pos 0 ≤ℤ t
  pub vertex : IsVertex F (go q t p (cross f.normal g.normal))
  pub on_f : side f (go q t p (cross f.normal g.normal)) ≡ pos 0
  pub on_g : side g (go q t p (cross f.normal g.normal)) ≡ pos 0
  pub face : HalfSpace
  pub among : face ∈ F
  pub ahead : pos 0 <ℤ dot face.normal (cross f.normal g.normal)
  pub on_face : side face (go q t p (cross f.normal g.normal)) ≡ pos 0

pub run : (F : List HalfSpace) (f g : HalfSpace) (p : Homogeneous) → Bounded F → IsIn F p → f ∈ F → g ∈ F → side f p ≡ pos 0 → side g p ≡ pos 0 → Crosses f g →
    Run F f g p
run F f g p b i m n a c x =
    let e = b (cross f.normal g.normal) x in
    let h : Hit F p (cross f.normal g.normal) = ratio_test F p (cross f.normal g.normal) i.all e.face e.among e.ahead in
    let y = h.kept f m (dot-cross_left f.normal g.normal) ∙ zero-mul h.q a in
    let z = h.kept g n (dot-cross_right f.normal g.normal) ∙ zero-mul h.q c in record {
      q = h.q;
      t = h.t;
      q_positive = h.q_positive;
      t_nonneg = h.t_nonneg;
      vertex = record {
        inside = record { weight = weight-go h.q h.t p (cross f.normal g.normal) h.q_positive i.weight; all = h.inside };
        f = f;
        g = g;
        h = h.face;
        f_in = m;
        g_in = n;
        h_in = h.among;
        on_f = y;
        on_g = z;
        on_h = h.reached;
        independent = rw (← turned f.normal g.normal h.face.normal) h.ahead;
      };
      on_f = y;
      on_g = z;
      face = h.face;
      among = h.among;
      ahead = h.ahead;
      on_face = h.reached;
    }

-- Where the run has no length, its start is a vertex.
pub stuck_plain : (q t a d : ℤ) → pos 0 <ℤ q → t ≡ pos 0 → q *ℤ a +ℤ t *ℤ d ≡ pos 0 → a ≡ pos 0
stuck_plain q t a d p h e = cancel-eq_left q p (eq_by_2 (pos 1) (neg_ℤ d) e h (ring (q ∷ t ∷ a ∷ d ∷ []) (search read depth 20) tt))

pub positive_or_zero : (t : ℤ) → pos 0 ≤ℤ t → (t ≡ pos 0) ⊎ (pos 0 <ℤ t)
positive_or_zero t h = by_lt_z (pos 0) t (λ l. inr l) (λ l. inl (omega (arith, ints)))
