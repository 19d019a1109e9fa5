-- The half-edges of a cut list at the plane.
use Rattle.std.proofs.Common.{◌≡◌, List, arith, ◌⊎◌, inl, inr, ⊎_elim, ℤ, pos, neg_ℤ, ◌<ℤ◌, ◌≤ℤ◌}
use Rattle.std.proofs.lemmas.Int.{ints, by_lt_z}
use Rattle.algebra.specs.Members.{◌∈◌}
use Rattle.algebra.specs.Space.{Homogeneous, HalfSpace, SamePoint, dot, cross, side, way}
use Rattle.algebra.proofs.Orders.{negative-mul}
use Rattle.algebra.proofs.Identities.{dot-way_turn}
use Rattle.algebra.proofs.Vectors.{cross_nonzero}
use Rattle.algebra.proofs.Points.{way-on, same_point_sym}
use Rattle.trim_laws.proofs.Steps.{below_le}
use Rattle.trim_laws.proofs.SameHalfSpace.{same_sym, same_or_not, dot-way_on}
use Rattle.vertex_laws.specs.Vertex.{IsVertex, IsEdge, Crosses}
use Rattle.vertex_laws.specs.HalfEdge.{IsHalfEdge}
use Rattle.vertex_laws.proofs.Line.{third_end, same_or_apart}
use Rattle.vertex_laws.proofs.HalfEdge.{edge_crosses, edge_distinct, outgoing}
use Rattle.vertex_laws.proofs.TwoFaces.{twin, two_faces}
use Rattle.vertex_laws.proofs.OneLoop.{same_half_edge}
use Rattle.vertex_laws.proofs.TrimVertex.{edge as edge_of}
use Rattle.cut_laws.specs.Cut.{back, cut_point}
use Rattle.cut_laws.proofs.Backs.{behind_of_back}
use Rattle.cut_laws.proofs.Incoming.{incoming}
use Rattle.cut_laws.proofs.Leaving.{kept_half_edge, leaving_half_edge, leave, enter, crossing_apart}
use Rattle.poly_laws.specs.Stands.{Neat}
use Rattle.poly_laws.specs.Laws.{CutList}

-- ---- a list of faces that all bear
-- A face on both ends of a half-edge is one of its two faces.
pub third_face : (F : List HalfSpace) (f g h : HalfSpace) (a b : Homogeneous) → Neat F → IsHalfEdge F f g a b → h ∈ F → side h a ≡ pos 0 → side h b ≡ pos 0 →
    (h ≡ f) ⊎ (h ≡ g)
third_face F f g h a b n e m x y = ⊎_elim (λ s. inl (n.once h f m e.f_in s)) (λ p. ⊎_elim (λ s. inr (n.once h g m e.g_in s))
    (λ q. absurd (two_faces F f g h a b e (n.bears f e.f_in) (n.bears g e.g_in) (n.bears h m) m x y (crossing_apart f g (n.proper f e.f_in) (edge_crosses e)) (λ s. p (same_sym s)) (λ s. q (same_sym s))))
    (same_or_not h g (n.proper h m) (n.proper g e.g_in))) (same_or_not h f (n.proper h m) (n.proper f e.f_in))

-- No half-edge of a face leads back to where another began with the same other face.
pub no_return : {A : Type 0} (F : List HalfSpace) (f g : HalfSpace) (a b : Homogeneous) → IsHalfEdge F f g a b → IsHalfEdge F f g b a → A
no_return {A} F f g a b e d = let x = e.ahead in let y = rw (dot-way_turn (cross g.normal f.normal) a b) at d.ahead in absurd (omega (arith, ints))

pub behind_of : (F : List HalfSpace) (P : HalfSpace) (G : List HalfSpace) → CutList F P G → (v : Homogeneous) → IsVertex G v → side P v ≤ℤ pos 0
behind_of F P G c v u = behind_of_back F P v (c.vertex_back v u).inside

-- ---- half-edges of the old list in the cut list
pub carried : (F : List HalfSpace) (P : HalfSpace) (G : List HalfSpace) (f g : HalfSpace) (a b : Homogeneous) → CutList F P G → f ∈ G → g ∈ G → IsHalfEdge (back F P) f g a b →
    IsHalfEdge G f g a b
carried F P G f g a b c m n e = record {
  a_vertex = c.vertex a e.a_vertex;
  b_vertex = c.vertex b e.b_vertex;
  f_in = m;
  g_in = n;
  a_on_f = e.a_on_f;
  a_on_g = e.a_on_g;
  b_on_f = e.b_on_f;
  b_on_g = e.b_on_g;
  ahead = e.ahead;
}

own_in : (F : List HalfSpace) (P : HalfSpace) (G : List HalfSpace) (f g : HalfSpace) (a b : Homogeneous) → CutList F P G → IsHalfEdge F f g a b → side P a <ℤ pos 0 → f ∈ G
own_in F P G f g a b c e h = c.stays f e.f_in (record { at = a; vertex = e.a_vertex; on = e.a_on_f; behind = h })

other_in : (F : List HalfSpace) (P : HalfSpace) (G : List HalfSpace) (f g : HalfSpace) (a b : Homogeneous) → CutList F P G → IsHalfEdge F f g a b → side P a <ℤ pos 0 → g ∈ G
other_in F P G f g a b c e h = c.stays g e.g_in (record { at = a; vertex = e.a_vertex; on = e.a_on_g; behind = h })

pub kept_from : (F : List HalfSpace) (P : HalfSpace) (G : List HalfSpace) (f g : HalfSpace) (a b : Homogeneous) → CutList F P G → IsHalfEdge F f g a b → side P a <ℤ pos 0 → side P b ≤ℤ pos 0 →
    IsHalfEdge G f g a b
kept_from F P G f g a b c e h k = carried F P G f g a b c (own_in F P G f g a b c e h) (other_in F P G f g a b c e h) (kept_half_edge F P f g a b e (below_le h) k)

pub cut_from : (F : List HalfSpace) (P : HalfSpace) (G : List HalfSpace) (f g : HalfSpace) (a b p : Homogeneous) → CutList F P G → IsHalfEdge F f g a b → side P a <ℤ pos 0 → pos 0 <ℤ side P b →
    pos 0 <ℤ p.weight → SamePoint p (cut_point P a b) → IsHalfEdge G f g a p
cut_from F P G f g a b p c e h k w s = same_half_edge G f g a (cut_point P a b) p
    (carried F P G f g a (cut_point P a b) c (own_in F P G f g a b c e h) (other_in F P G f g a b c e h) (leaving_half_edge F P f g a b e h k)) w s

-- ---- at a vertex on the plane
-- A half-edge to it from behind, and one from it to behind.
pub record Comes (G : List HalfSpace) (P k : HalfSpace) (x : Homogeneous) : Type 0 where
  pub g : HalfSpace
  pub z : Homogeneous
  pub edge : IsHalfEdge G k g z x
  pub behind : side P z <ℤ pos 0

pub record Goes (G : List HalfSpace) (P k : HalfSpace) (x : Homogeneous) : Type 0 where
  pub g : HalfSpace
  pub z : Homogeneous
  pub edge : IsHalfEdge G k g x z
  pub behind : side P z <ℤ pos 0

-- Or one on the plane.
pub data Onward (G : List HalfSpace) (P k : HalfSpace) (x : Homogeneous) : Type 0 where
  goes_behind : Goes G P k x → Onward G P k x
  goes_along : (y : Homogeneous) → IsHalfEdge G k P x y → Onward G P k x

pub data Before (G : List HalfSpace) (P k : HalfSpace) (x : Homogeneous) : Type 0 where
  comes_behind : Comes G P k x → Before G P k x
  comes_along : (y : Homogeneous) → IsHalfEdge G k P y x → Before G P k x

module _ {F : List HalfSpace} {P : HalfSpace} {G : List HalfSpace} (c : CutList F P G) where
  -- the other face of a half-edge on the plane is the plane
  along_plane : (k g : HalfSpace) (x y : Homogeneous) → ¬ (P ≡ k) → IsHalfEdge G k g x y → side P x ≡ pos 0 → side P y ≡ pos 0 → IsHalfEdge G k P x y
  along_plane k g x y n e h i = ⊎_elim (λ s. absurd (n s)) (λ s. rw s e) (third_face G k g P x y c.new e c.P_in h i)

  on_or_behind : {A : Type 0} (v : Homogeneous) → IsVertex G v → (side P v <ℤ pos 0 → A) → (side P v ≡ pos 0 → A) → A
  on_or_behind v u f g = by_lt_z (side P v) (pos 0) f (λ l. let k = behind_of F P G c v u in g (omega (arith, ints)))

  pub onward : (k : HalfSpace) (x : Homogeneous) → k ∈ G → ¬ (P ≡ k) → IsVertex G x → side k x ≡ pos 0 → side P x ≡ pos 0 → Onward G P k x
  onward k x m n u z h =
      let o = outgoing G k x c.new.bounded c.new.proper m (c.new.bears k m) u z in
      on_or_behind o.b o.edge.b_vertex
      (λ l. goes_behind (record { g = o.g; z = o.b; edge = o.edge; behind = l }))
      (λ i. goes_along o.b (along_plane k o.g x o.b n o.edge h i))

  pub before : (k : HalfSpace) (x : Homogeneous) → k ∈ G → ¬ (P ≡ k) → IsVertex G x → side k x ≡ pos 0 → side P x ≡ pos 0 → Before G P k x
  before k x m n u z h =
      let o = incoming G k x c.new.bounded c.new.proper m (c.new.bears k m) u z in
      on_or_behind o.b o.edge.a_vertex
      (λ l. comes_behind (record { g = o.g; z = o.b; edge = o.edge; behind = l }))
      (λ i. comes_along o.b (along_plane k o.g o.b x n o.edge i h))

  -- two half-edges of a face on the plane do not follow one another
  no_two : {A : Type 0} (k : HalfSpace) (x y z : Homogeneous) → IsHalfEdge G k P x y → IsHalfEdge G k P y z → A
  no_two {A} k x y z e d = ⊎_elim
      (λ s. no_return G k P x y e (same_half_edge G k P y z x d e.a_vertex.inside.weight (same_point_sym s)))
      (λ s. absurd (edge_distinct d (same_point_sym s)))
      (third_end G k P x y z (edge_crosses e) (record { on_f = e.a_on_f; on_g = e.a_on_g }) (record { on_f = e.b_on_f; on_g = e.b_on_g }) (record { on_f = d.b_on_f; on_g = d.b_on_g }) e.a_vertex e.b_vertex d.b_vertex (edge_distinct e))

  pub comes_to : (k : HalfSpace) (x y : Homogeneous) → ¬ (P ≡ k) → IsHalfEdge G k P x y → Comes G P k x
  comes_to k x y n e = by (before k x e.f_in n e.a_vertex e.a_on_f e.a_on_g)
    where
      by : Before G P k x → Comes G P k x
      by (comes_behind d) = d
      by (comes_along z d) = no_two k z x y d e

  pub goes_from : (k : HalfSpace) (x y : Homogeneous) → ¬ (P ≡ k) → IsHalfEdge G k P x y → Goes G P k y
  goes_from k x y n e = by (onward k y e.f_in n e.b_vertex e.b_on_f e.b_on_g)
    where
      by : Onward G P k y → Goes G P k y
      by (goes_behind d) = d
      by (goes_along z d) = no_two k x y z e d

  -- ---- a face meets the plane where it leaves and enters the part behind
  face_crosses : (k g : HalfSpace) (z x : Homogeneous) → IsHalfEdge G k g z x → side P z <ℤ pos 0 → side P x ≡ pos 0 → Crosses k P
  face_crosses k g z x e l h =
      let w = negative-mul x.weight e.b_vertex.inside.weight l in
      let v : pos 0 <ℤ dot P.normal (way z x) = turned_way (dot P.normal (way x z)) (dot P.normal (way z x)) (rw (dot-way_on P x z h) w) (dot-way_turn P.normal x z) in
      cross_nonzero k.normal P.normal (way z x) (way-on k z x e.a_on_f e.b_on_f) (c.new.proper k e.f_in) v
    where
      turned_way : (a b : ℤ) → a <ℤ pos 0 → b ≡ neg_ℤ a → pos 0 <ℤ b
      turned_way a b p q = omega (arith, ints)

  edge_on : (k : HalfSpace) (x y : Homogeneous) → Crosses k P → k ∈ G → IsVertex G x → IsVertex G y → ¬ (SamePoint x y) → side k x ≡ pos 0 → side k y ≡ pos 0 →
      side P x ≡ pos 0 → side P y ≡ pos 0 → IsHalfEdge G k P x y ⊎ IsHalfEdge G k P y x
  edge_on k x y r m u v n a b h i =
      let e : IsEdge G x y = record {
        p_vertex = u;
        q_vertex = v;
        distinct = n;
        f = k;
        g = P;
        f_in = m;
        g_in = c.P_in;
        crossing = r;
        p_on_f = a;
        q_on_f = b;
        p_on_g = h;
        q_on_g = i;
      } in ⊎_elim (λ d. inl d) (λ d. inr (twin G P k x y d)) (edge_of G x y e)

  -- it is left at one point and entered at one
  pub one_end : (k g h : HalfSpace) (z x w y : Homogeneous) → IsHalfEdge G k g z x → side P z <ℤ pos 0 → side P x ≡ pos 0 → IsHalfEdge G k h w y → side P w <ℤ pos 0 → side P y ≡ pos 0 →
      SamePoint x y
  one_end k g h z x w y e l i d m j = ⊎_elim (λ s. s)
      (λ n. ⊎_elim
      (λ a. absurd (n (same_point_sym (leave G P k h x y w y (c.new.proper k e.f_in) a d m j))))
      (λ a. absurd (n (leave G P k g y x z x (c.new.proper k e.f_in) a e l i)))
      (edge_on k x y (face_crosses k g z x e l i) e.f_in e.b_vertex d.b_vertex n e.b_on_f d.b_on_f i j))
      (same_or_apart x y)

  twin_crosses : (k g : HalfSpace) (x z : Homogeneous) → IsHalfEdge G k g x z → side P z <ℤ pos 0 → side P x ≡ pos 0 → Crosses k P
  twin_crosses k g x z e l h =
      let w = negative-mul x.weight e.a_vertex.inside.weight l in
      let v : pos 0 <ℤ dot P.normal (way z x) = turned_way (dot P.normal (way x z)) (dot P.normal (way z x)) (rw (dot-way_on P x z h) w) (dot-way_turn P.normal x z) in
      cross_nonzero k.normal P.normal (way z x) (way-on k z x e.b_on_f e.a_on_f) (c.new.proper k e.f_in) v
    where
      turned_way : (a b : ℤ) → a <ℤ pos 0 → b ≡ neg_ℤ a → pos 0 <ℤ b
      turned_way a b p q = omega (arith, ints)

  pub one_start : (k g h : HalfSpace) (x z y w : Homogeneous) → IsHalfEdge G k g x z → side P z <ℤ pos 0 → side P x ≡ pos 0 → IsHalfEdge G k h y w → side P w <ℤ pos 0 → side P y ≡ pos 0 →
      SamePoint x y
  one_start k g h x z y w e l i d m j = ⊎_elim (λ s. s)
      (λ n. ⊎_elim
      (λ a. absurd (n (enter G P k g x y x z (c.new.proper k e.f_in) a e l i)))
      (λ a. absurd (n (same_point_sym (enter G P k h y x y w (c.new.proper k e.f_in) a d m j))))
      (edge_on k x y (twin_crosses k g x z e l i) e.f_in e.a_vertex d.a_vertex n e.a_on_f d.a_on_f i j))
      (same_or_apart x y)

  -- between the two points runs a half-edge on the plane
  pub across_face : (k g h : HalfSpace) (z x y w : Homogeneous) → IsHalfEdge G k g z x → side P z <ℤ pos 0 → side P x ≡ pos 0 → IsHalfEdge G k h y w → side P w <ℤ pos 0 → side P y ≡ pos 0 →
      ¬ (SamePoint x y) → IsHalfEdge G k P x y
  across_face k g h z x y w e l i d m j n = ⊎_elim (λ a. a)
      (λ a. absurd (n (leave G P k g y x z x (c.new.proper k e.f_in) a e l i)))
      (edge_on k x y (face_crosses k g z x e l i) e.f_in e.b_vertex d.a_vertex n e.b_on_f d.a_on_f i j)

  -- where a face is left, it is entered
  pub enters_too : (k g : HalfSpace) (z x : Homogeneous) → ¬ (P ≡ k) → IsHalfEdge G k g z x → side P x ≡ pos 0 → (y : Homogeneous) × Goes G P k y × side P y ≡ pos 0
  enters_too k g z x n e i = by (onward k x e.f_in n e.b_vertex e.b_on_f i)
    where
      by : Onward G P k x → (y : Homogeneous) × Goes G P k y × side P y ≡ pos 0
      by (goes_behind d) = (x, d, i)
      by (goes_along y d) = (y, goes_from k x y n d, d.b_on_g)

  -- a face with a vertex behind is not the plane
  pub not_plane : (k : HalfSpace) (z : Homogeneous) → side k z ≡ pos 0 → side P z <ℤ pos 0 → ¬ (P ≡ k)
  not_plane k z a l s = let b = rw s at l in absurd (omega (arith, ints))
