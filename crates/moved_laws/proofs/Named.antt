-- The names of the vertices of moved solids, and the list of the vertices.
use Rattle.std.proofs.Common.{◌≡◌, List, [], ◌∷◌, map, ap, sym, ◌∙◌, refl, subst, inl, inr, ℕ, zero, suc, Some, option_map, ℤ, pos, negsuc, ◌+ℤ◌, ◌*ℤ◌, unsigned_abs}
use Rattle.std.specs.Prelude.{slice_get}
use Rattle.std.specs.Int.{◌∣◌}
use Rattle.std.proofs.Math.Nat.{dvd-mul_right}
use Rattle.algebra.specs.Members.{◌∈◌}
use Rattle.algebra.specs.Space.{Vector, Homogeneous, HalfSpace, dot, det, plus, scale}
use Rattle.algebra.proofs.Expr.{read}
use Rattle.algebra.proofs.Ring.{ring}
use Rattle.algebra.proofs.Orders.{eq_by}
use Rattle.exact_geom.specs.Vertices.{IsReduced}
use Rattle.exact_geom.proofs.Division.{exact, size_of_quotient}
use Rattle.std.specs.Prelude.{int_div}
use Rattle.orient48.specs.Motions.{Matrix, Motion, turned, back, moved_half, moved_at}
use Rattle.orient48.specs.Laws.{IsTurn}
use Rattle.orient48.proofs.Matrices.{turn_back}
use Rattle.orient48.proofs.Signs.{sign_of}
use Rattle.vertex_laws.specs.Vertex.{IsVertex}
use Rattle.solid_laws.specs.FaceLoop.{HasVertexCount}
use Rattle.solid_laws.specs.Names.{Triple, MeetAt, IsName, NamedBefore, NamesRise, no_points, one_more_point, AreVertices}
use Rattle.moved_laws.specs.Moved.{moved_list}
use Rattle.moved_laws.specs.Laws.{VerticesMovedLaw}
use Rattle.moved_laws.proofs.Halves.{side_moved, each_point, point_back, list_back}
use Rattle.moved_laws.proofs.Points.{each_moved, among_moved, by_back}
use Rattle.moved_laws.proofs.Staying.{same_length}
use Rattle.moved_laws.proofs.Corners.{det_moved, once, vertex_onto, vertex_was, vertex_from}

-- ---- names
pub get_map : {A B : Type 0} (g : A → B) (xs : List A) (k : ℕ) → slice_get (map g xs) k ≡ option_map g (slice_get xs k)
get_map g [] k = refl
get_map g (x ∷ xs) zero = refl
get_map g (x ∷ xs) (suc k) = get_map g xs k

pub get_moved : {A B : Type 0} (g : A → B) (xs : List A) (k : ℕ) (x : A) → slice_get xs k ≡ Some x → slice_get (map g xs) k ≡ Some (g x)
get_moved g xs k x e = get_map g xs k ∙ ap (option_map g) e

minus_none : (d : ℤ) → negsuc 0 *ℤ d ≡ pos 0 → d ≡ pos 0
minus_none d e = eq_by (negsuc 0) e (ring (d ∷ []) (search read depth 20) tt)

pub independent_from : (m : Matrix) (a b c : Vector) → IsTurn m → det (turned m a) (turned m b) (turned m c) ≡ pos 0 → det a b c ≡ pos 0
independent_from m a b c t e = elim (sign_of m t) [
  | inl s ↦ minus_none (det a b c) (sym (det_moved m a b c ∙ ap (λ k. k *ℤ det a b c) s.is) ∙ e)
  | inr s ↦ sym (det_moved m a b c ∙ ap (λ k. k *ℤ det a b c) s.is ∙ once (det a b c)) ∙ e
]

meet_onto : (r : Motion) (F : List HalfSpace) (n : Triple) (v : Homogeneous) → IsTurn r.matrix → MeetAt F n v → MeetAt (moved_list r F) n (moved_at r v)
meet_onto r F n v t h = record {
  f = moved_half r h.f;
  g = moved_half r h.g;
  h = moved_half r h.h;
  first = get_moved (moved_half r) F n.first h.f h.first;
  second = get_moved (moved_half r) F n.second h.g h.second;
  third = get_moved (moved_half r) F n.third h.h h.third;
  on_f = side_moved r h.f v t ∙ h.on_f;
  on_g = side_moved r h.g v t ∙ h.on_g;
  on_h = side_moved r h.h v t ∙ h.on_h;
  independent = λ e. h.independent (independent_from r.matrix h.f.normal h.g.normal h.h.normal t e);
}

meet_from : (r : Motion) (F : List HalfSpace) (n : Triple) (v : Homogeneous) → IsTurn r.matrix → MeetAt (moved_list r F) n (moved_at r v) → MeetAt F n v
meet_from r F n v t h = subst (λ X. MeetAt X n v) (list_back r F t)
    (subst (MeetAt (moved_list (back r) (moved_list r F)) n) (point_back r v t) (meet_onto (back r) (moved_list r F) n (moved_at r v) (turn_back r.matrix t) h))

name_onto : (r : Motion) (F : List HalfSpace) (v : Homogeneous) (n : Triple) → IsTurn r.matrix → IsName F v n → IsName (moved_list r F) (moved_at r v) n
name_onto r F v n t h = record { meet = meet_onto r F n v t h.meet; least = λ s m. h.least s (meet_from r F s v t m) }

name_from : (r : Motion) (F : List HalfSpace) (v : Homogeneous) (n : Triple) → IsTurn r.matrix → IsName (moved_list r F) (moved_at r v) n → IsName F v n
name_from r F v n t h = record { meet = meet_from r F n v t h.meet; least = λ s m. h.least s (meet_onto r F s v t m) }

before_onto : (r : Motion) (F : List HalfSpace) (p q : Homogeneous) → IsTurn r.matrix → NamedBefore F p q → NamedBefore (moved_list r F) (moved_at r p) (moved_at r q)
before_onto r F p q t h = record {
  p_name = h.p_name;
  q_name = h.q_name;
  named_p = name_onto r F p h.p_name t h.named_p;
  named_q = name_onto r F q h.q_name t h.named_q;
  earlier = h.earlier;
}

rise_onto : (r : Motion) (F : List HalfSpace) (V : List Homogeneous) → IsTurn r.matrix → NamesRise F V → NamesRise (moved_list r F) (map (moved_at r) V)
rise_onto r F [] t no_points = no_points
rise_onto r F (p ∷ V) t (one_more_point all more) =
    one_more_point (each_moved (moved_at r) (NamedBefore (moved_list r F) (moved_at r p)) V (λ q i. before_onto r F p q t (all q i))) (rise_onto r F V t more)

-- ---- reduced points
times : (m : Vector) (s x y z w d a b c e : ℤ) → x ≡ d *ℤ a → y ≡ d *ℤ b → z ≡ d *ℤ c → w ≡ d *ℤ e →
    (m.x *ℤ x +ℤ m.y *ℤ y +ℤ m.z *ℤ z) +ℤ w *ℤ s ≡ d *ℤ ((m.x *ℤ a +ℤ m.y *ℤ b +ℤ m.z *ℤ c) +ℤ e *ℤ s)
times m s x y z w d a b c e h k l n =
    (λ i. (m.x *ℤ h i +ℤ m.y *ℤ k i +ℤ m.z *ℤ l i) +ℤ n i *ℤ s)
    ∙ ring (m.x ∷ m.y ∷ m.z ∷ s ∷ d ∷ a ∷ b ∷ c ∷ e ∷ []) (search read depth 30 fits 20000) tt

divides : (m : Vector) (s : ℤ) (p : Homogeneous) (d : ℕ) → d ∣ unsigned_abs p.vector.x → d ∣ unsigned_abs p.vector.y → d ∣ unsigned_abs p.vector.z → d ∣ unsigned_abs p.weight →
    d ∣ unsigned_abs (dot m p.vector +ℤ p.weight *ℤ s)
unfolding dot
divides m s p d h k l n =
    let a = int_div p.vector.x (pos d) in let b = int_div p.vector.y (pos d) in let c = int_div p.vector.z (pos d) in let e = int_div p.weight (pos d) in
    let q = (m.x *ℤ a +ℤ m.y *ℤ b +ℤ m.z *ℤ c) +ℤ e *ℤ s in
    subst (λ x. d ∣ x) (sym (size_of_quotient ((m.x *ℤ p.vector.x +ℤ m.y *ℤ p.vector.y +ℤ m.z *ℤ p.vector.z) +ℤ p.weight *ℤ s) (pos d) q
    (times m s p.vector.x p.vector.y p.vector.z p.weight (pos d) a b c e (exact p.vector.x (pos d) h) (exact p.vector.y (pos d) k) (exact p.vector.z (pos d) l) (exact p.weight (pos d) n))))
    (dvd-mul_right d (unsigned_abs q))

part : (r : Motion) (p : Homogeneous) → (d : ℕ) → d ∣ unsigned_abs p.vector.x → d ∣ unsigned_abs p.vector.y → d ∣ unsigned_abs p.vector.z → d ∣ unsigned_abs p.weight →
    (d ∣ unsigned_abs (moved_at r p).vector.x) × (d ∣ unsigned_abs (moved_at r p).vector.y) × (d ∣ unsigned_abs (moved_at r p).vector.z)
unfolding plus scale
part r p d h k l n = (divides r.matrix.x r.shift.x p d h k l n, divides r.matrix.y r.shift.y p d h k l n, divides r.matrix.z r.shift.z p d h k l n)

pub reduced_from : (r : Motion) (p : Homogeneous) → IsReduced (moved_at r p) → IsReduced p
reduced_from r p h d i j k l = let q = part r p d i j k l in h d q.0 q.1 q.2 l

pub reduced_onto : (r : Motion) (p : Homogeneous) → IsTurn r.matrix → IsReduced p → IsReduced (moved_at r p)
reduced_onto r p t h = reduced_from (back r) (moved_at r p) (subst IsReduced (sym (point_back r p t)) h)

-- ---- the list
vertices_onto : (r : Motion) (F : List HalfSpace) (V : List Homogeneous) → IsTurn r.matrix → AreVertices F V → AreVertices (moved_list r F) (map (moved_at r) V)
vertices_onto r F V t h = record {
  each = each_moved (moved_at r) (λ v. IsVertex (moved_list r F) v × IsReduced v) V (λ v i. (vertex_onto r F v t (h.each v i).0, reduced_onto r v t (h.each v i).1));
  all = λ q v d. let p = moved_at (back r) q in
      subst (λ x. x ∈ map (moved_at r) V) (each_point r q t)
      (among_moved (moved_at r) p V (h.all p (vertex_was r F q t v) (reduced_onto (back r) q (turn_back r.matrix t) d)));
  order = rise_onto r F V t h.order;
}

count_onto : (n : ℕ) (r : Motion) (F : List HalfSpace) → IsTurn r.matrix → HasVertexCount F n → HasVertexCount (moved_list r F) n
count_onto n r F t h = record { V = map (moved_at r) h.V; vertices = vertices_onto r F h.V t h.vertices; is_count = same_length (moved_at r) h.V ∙ h.is_count }

pub vertices_is : VerticesMovedLaw
vertices_is r F t = record {
  vertex = λ v. (vertex_onto r F v t, vertex_from r F v t);
  was_vertex = λ q h. vertex_was r F q t h;
  name = λ v n. (name_onto r F v n t, name_from r F v n t);
  list = λ V h. vertices_onto r F V t h;
  count = λ n. (count_onto n r F t, by_back (λ F. HasVertexCount F n) (count_onto n) r F t);
  numbered = λ k v h. record {
    V = map (moved_at r) h.V;
    vertices = vertices_onto r F h.V t h.vertices;
    is_vertex = get_map (moved_at r) h.V k ∙ ap (option_map (moved_at r)) h.is_vertex;
  };
}
