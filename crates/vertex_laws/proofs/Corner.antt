-- From each point of a bounded solid, along its faces and down on any plane, there is a vertex.
use Rattle.std.proofs.Common.{◌≡◌, List, [], ◌∷◌, ◌∙◌, ℤ, pos, ◌+ℤ◌, ◌-ℤ◌, ◌*ℤ◌, ◌<ℤ◌, ◌≤ℤ◌}
use Rattle.std.proofs.lemmas.Int.{by_lt_z}
use Rattle.algebra.specs.Members.{◌∈◌, here, there}
use Rattle.algebra.specs.Fractions.{Fraction≤}
use Rattle.algebra.specs.Ratio.{Hit}
use Rattle.algebra.specs.Space.{Vector, Homogeneous, HalfSpace, dot, cross, det, side, go}
use Rattle.algebra.proofs.Expr.{read}
use Rattle.algebra.proofs.Ring.{ring}
use Rattle.algebra.proofs.Orders.{signs, le_by, zero-mul, fraction_trans}
use Rattle.algebra.proofs.Identities.{side-go, dot_comm, dot-cross_left, dot-cross_right, dot-cross_swap, norm-cross_swap, det-cross}
use Rattle.algebra.proofs.Vectors.{nonzero, cross_nonzero, across}
use Rattle.algebra.proofs.Members.{each_of_more, each_of_two}
use Rattle.algebra.proofs.Points.{weight-go}
use Rattle.algebra.proofs.Ratio.{ratio_test}
use Rattle.trim_laws.specs.Solid.{IsIn, Bounded}
use Rattle.trim_laws.proofs.Steps.{neg_le}
use Rattle.vertex_laws.specs.Vertex.{IsVertex, Crosses}
use Rattle.vertex_laws.specs.Laws.{CornerLaw}

pub turned : (a b c : Vector) → dot c (cross a b) ≡ det a b c
turned a b c = dot_comm c (cross a b) ∙ det-cross a b c

-- ---- q is at most as far on k as p
pub record Lower (k : HalfSpace) (q p : Homogeneous) : Type 0 where
  pub le : Fraction≤ (side k q) q.weight (side k p) p.weight

pub lower_trans : {k : HalfSpace} {r q p : Homogeneous} → pos 0 <ℤ r.weight → pos 0 <ℤ q.weight → pos 0 <ℤ p.weight → Lower k r q → Lower k q p → Lower k r p
lower_trans a b c h l = record { le = fraction_trans a b c h.le l.le }

lower_plain : (q t s c w : ℤ) → pos 0 ≤ℤ t → c ≤ℤ pos 0 → pos 0 <ℤ w → ((q *ℤ s +ℤ t *ℤ c) *ℤ w) ≤ℤ (s *ℤ (q *ℤ w))
lower_plain q t s c w h k l = le_by (t *ℤ ((pos 0 -ℤ c) *ℤ w)) (search signs) (ring (q ∷ t ∷ s ∷ c ∷ w ∷ []) (search read depth 20) tt)

-- ---- one step
pub record Step (F : List HalfSpace) (k : HalfSpace) (p : Homogeneous) (m : Vector) : Type 0 where
  pub at : Homogeneous
  pub inside : IsIn F at
  pub face : HalfSpace
  pub among : face ∈ F
  pub ahead : pos 0 <ℤ dot face.normal m
  pub on : side face at ≡ pos 0
  pub kept : (f : HalfSpace) → f ∈ F → dot f.normal m ≡ pos 0 → side f p ≡ pos 0 → side f at ≡ pos 0
  pub lower : Lower k at p

lower_go : (q t : ℤ) (p : Homogeneous) (m : Vector) (k : HalfSpace) → pos 0 ≤ℤ t → dot k.normal m ≤ℤ pos 0 → pos 0 <ℤ p.weight → Lower k (go q t p m) p
unfolding go
lower_go q t p m k h l w = record { le = record { le = rw side-go (lower_plain q t (side k p) (dot k.normal m) p.weight h l w) } }

pub step : (F : List HalfSpace) (k : HalfSpace) (p : Homogeneous) (m : Vector) → Bounded F → IsIn F p → pos 0 <ℤ dot m m → dot k.normal m ≤ℤ pos 0 → Step F k p m
step F k p m b i s l =
    let e = b m s in
    let h : Hit F p m = ratio_test F p m i.all e.face e.among e.ahead in record {
      at = go h.q h.t p m;
      inside = record { weight = weight-go h.q h.t p m h.q_positive i.weight; all = h.inside };
      face = h.face;
      among = h.among;
      ahead = h.ahead;
      on = h.reached;
      kept = λ f j z y. h.kept f j z ∙ zero-mul h.q y;
      lower = lower_go h.q h.t p m k h.t_nonneg l i.weight;
    }

-- ---- a vertex on the faces L, at most as far on k as p
pub record Corner (F : List HalfSpace) (k : HalfSpace) (p : Homogeneous) (L : List HalfSpace) : Type 0 where
  pub at : Homogeneous
  pub vertex : IsVertex F at
  pub lower : Lower k at p
  pub kept : (f : HalfSpace) → f ∈ L → side f at ≡ pos 0

along_line : (F : List HalfSpace) (k f g : HalfSpace) (p : Homogeneous) → Bounded F → IsIn F p → f ∈ F → g ∈ F → side f p ≡ pos 0 → side g p ≡ pos 0 →
    Crosses f g → dot k.normal (cross f.normal g.normal) ≤ℤ pos 0 → Corner F k p (f ∷ g ∷ [])
along_line F k f g p b i m n a c x d =
    let s = step F k p (cross f.normal g.normal) b i x d in
    let y = s.kept f m (dot-cross_left f.normal g.normal) a in
    let z = s.kept g n (dot-cross_right f.normal g.normal) c in record {
      at = s.at;
      vertex = record {
        inside = s.inside;
        f = f;
        g = g;
        h = s.face;
        f_in = m;
        g_in = n;
        h_in = s.among;
        on_f = y;
        on_g = z;
        on_h = s.on;
        independent = rw (← turned f.normal g.normal s.face.normal) s.ahead;
      };
      lower = s.lower;
      kept = each_of_two (λ h. side h s.at ≡ pos 0) f g y z;
    }

pub corner_on_line : (F : List HalfSpace) (k f g : HalfSpace) (p : Homogeneous) → Bounded F → IsIn F p → f ∈ F → g ∈ F → side f p ≡ pos 0 → side g p ≡ pos 0 →
    Crosses f g → Corner F k p (f ∷ g ∷ [])
corner_on_line F k f g p b i m n a c x = by_lt_z (pos 0) (dot k.normal (cross f.normal g.normal))
    (λ l. let r = along_line F k g f p b i n m c a (rw norm-cross_swap x) (rw dot-cross_swap (neg_le l)) in
    record { at = r.at; vertex = r.vertex; lower = r.lower; kept = each_of_two (λ h. side h r.at ≡ pos 0) f g (r.kept f (there here)) (r.kept g here) })
    (λ l. along_line F k f g p b i m n a c x l)

pub corner_on_face : (F : List HalfSpace) (k f : HalfSpace) (p : Homogeneous) → Bounded F → IsIn F p → f ∈ F → pos 0 <ℤ dot f.normal f.normal →
    side f p ≡ pos 0 → Corner F k p (f ∷ [])
corner_on_face F k f p b i m r a =
    let c = across f.normal k.normal in
    let s = step F k p c.way b i c.some c.down in
    let t = corner_on_line F k f s.face s.at b s.inside m s.among (s.kept f m c.flat a) s.on (cross_nonzero f.normal s.face.normal c.way c.flat r s.ahead) in record {
      at = t.at;
      vertex = t.vertex;
      lower = lower_trans t.vertex.inside.weight s.inside.weight i.weight t.lower s.lower;
      kept = each_of_more (λ h. side h t.at ≡ pos 0) f [] (t.kept f here) (λ h m. elim m [ ]);
    }

pub corner : (F : List HalfSpace) (k : HalfSpace) (p : Homogeneous) → Bounded F → IsIn F p → Corner F k p []
corner F k p b i =
    let c = across k.normal k.normal in
    let s = step F k p c.way b i c.some c.down in
    let t = corner_on_face F k s.face s.at b s.inside s.among (nonzero s.face.normal c.way s.ahead) s.on in record {
      at = t.at;
      vertex = t.vertex;
      lower = lower_trans t.vertex.inside.weight s.inside.weight i.weight t.lower s.lower;
      kept = λ h m. elim m [ ];
    }

pub corner_below : CornerLaw
corner_below F k p b i = let c = corner F k p b i in record { at = c.at; vertex = c.vertex; lower = c.lower.le }
