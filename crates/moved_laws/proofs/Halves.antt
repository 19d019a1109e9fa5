-- Sides of moved points, and the way back.
use Rattle.std.proofs.Common.{◌≡◌, List, [], ◌∷◌, map, ap, ◌∙◌, refl, ℤ, pos, negsuc, neg_ℤ, ◌+ℤ◌, ◌-ℤ◌, ◌*ℤ◌}
use Rattle.algebra.specs.Space.{Vector, Homogeneous, HalfSpace, dot, plus, scale, side, whole_point}
use Rattle.algebra.proofs.Expr.{read}
use Rattle.algebra.proofs.Ring.{ring}
use Rattle.algebra.proofs.Identities.{with_vector, vector_by, half_space_by, dot-plus_right, dot-scale_right, dot-neg}
use Rattle.exact_geom.specs.declared.point.Point.{Point}
use Rattle.exact_geom.specs.Planes.{ThreePoints, half_space, vector}
use Rattle.orient48.specs.Motions.{Motion, turned, transposed, back, moved_point, moved_plane, moved_half, moved_at}
use Rattle.orient48.specs.Laws.{IsTurn}
use Rattle.orient48.proofs.Matrices.{turned_plus, turned_scale, back_turned, turned_back}
use Rattle.orient48.proofs.Signs.{dot_turned, turned_dot}
use Rattle.orient48.proofs.Planes.{half_moved}
use Rattle.moved_laws.specs.Moved.{moved_list}
use Rattle.moved_laws.specs.Laws.{SideLaw}

side_plain : (a w x d : ℤ) → (a +ℤ w *ℤ x) -ℤ (d +ℤ x) *ℤ w ≡ a -ℤ d *ℤ w
side_plain a w x d = ring (a ∷ w ∷ x ∷ d ∷ []) (search read depth 20) tt

pub side_moved : (r : Motion) (f : HalfSpace) (p : Homogeneous) → IsTurn r.matrix → side (moved_half r f) (moved_at r p) ≡ side f p
unfolding side
side_moved r f p t =
    let n = turned r.matrix f.normal in
    ap (λ k. k -ℤ (f.distance +ℤ dot n r.shift) *ℤ p.weight) (dot-plus_right n (turned r.matrix p.vector) (scale p.weight r.shift)
    ∙ (λ i. dot_turned r.matrix f.normal p.vector t i +ℤ dot-scale_right p.weight n r.shift i))
    ∙ side_plain (dot f.normal p.vector) p.weight (dot n r.shift) f.distance

pub side_plane : (r : Motion) (s : ThreePoints) (p : Homogeneous) → IsTurn r.matrix → side (half_space (moved_plane r s)) (moved_at r p) ≡ side (half_space s) p
side_plane r s p t = ap (λ f. side f (moved_at r p)) (half_moved r s t) ∙ side_moved r (half_space s) p t

pub list_moved : (r : Motion) (ts : List ThreePoints) → IsTurn r.matrix → map half_space (map (moved_plane r) ts) ≡ moved_list r (map half_space ts)
list_moved r [] t = refl
list_moved r (s ∷ ts) t = (λ i. half_moved r s t i ∷ list_moved r ts t i)

-- ---- the way back
point_by : {p q : Homogeneous} → p.vector ≡ q.vector → p.weight ≡ q.weight → p ≡ q
point_by {p} {q} h k = ap (λ i. record { vector = i; weight = p.weight }) h ∙ ap (λ i. record { vector = q.vector; weight = i }) k

there_and_back : (v s : Vector) (w : ℤ) → plus (plus v (scale w s)) (scale w (scale (negsuc 0) s)) ≡ v
unfolding plus scale
there_and_back v s w = vector_by (ring (w ∷ with_vector v (with_vector s [])) (search read depth 20) tt)
    (ring (w ∷ with_vector v (with_vector s [])) (search read depth 20) tt) (ring (w ∷ with_vector v (with_vector s [])) (search read depth 20) tt)

back_and_there : (v s : Vector) (w : ℤ) → plus (plus v (scale w (scale (negsuc 0) s))) (scale w s) ≡ v
unfolding plus scale
back_and_there v s w = vector_by (ring (w ∷ with_vector v (with_vector s [])) (search read depth 20) tt)
    (ring (w ∷ with_vector v (with_vector s [])) (search read depth 20) tt) (ring (w ∷ with_vector v (with_vector s [])) (search read depth 20) tt)

pub point_back : (r : Motion) (p : Homogeneous) → IsTurn r.matrix → moved_at (back r) (moved_at r p) ≡ p
point_back r p t =
    let m = transposed r.matrix in let s = turned m r.shift in
    point_by (ap (λ v. plus v (scale p.weight (scale (negsuc 0) s))) (turned_plus m (turned r.matrix p.vector) (scale p.weight r.shift)
    ∙ (λ i. plus (back_turned r.matrix p.vector t i) (turned_scale m p.weight r.shift i)))
    ∙ there_and_back p.vector s p.weight) refl

pub each_point : (r : Motion) (q : Homogeneous) → IsTurn r.matrix → moved_at r (moved_at (back r) q) ≡ q
each_point r q t =
    let m = r.matrix in let s = turned (transposed m) r.shift in
    point_by (ap (λ v. plus v (scale q.weight r.shift)) (turned_plus m (turned (transposed m) q.vector) (scale q.weight (scale (negsuc 0) s))
    ∙ (λ i. plus (turned_back m q.vector t i) ((turned_scale m q.weight (scale (negsuc 0) s) ∙ ap (scale q.weight) (turned_scale m (negsuc 0) s ∙ ap (scale (negsuc 0)) (turned_back m r.shift t))) i)))
    ∙ back_and_there q.vector r.shift q.weight) refl

distance_plain : (d x : ℤ) → d +ℤ x +ℤ neg_ℤ x ≡ d
distance_plain d x = ring (d ∷ x ∷ []) (search read depth 20) tt

pub half_back : (r : Motion) (f : HalfSpace) → IsTurn r.matrix → moved_half (back r) (moved_half r f) ≡ f
half_back r f t =
    let m = r.matrix in let s = turned (transposed m) r.shift in
    half_space_by (back_turned m f.normal t)
    ((λ i. f.distance +ℤ turned_dot m f.normal r.shift i +ℤ dot (back_turned m f.normal t i) (scale (negsuc 0) s))
    ∙ ap (λ k. f.distance +ℤ dot f.normal s +ℤ k) (dot-neg f.normal s) ∙ distance_plain f.distance (dot f.normal s))

pub list_back : (r : Motion) (F : List HalfSpace) → IsTurn r.matrix → moved_list (back r) (moved_list r F) ≡ F
list_back r [] t = refl
list_back r (f ∷ F) t = (λ i. half_back r f t i ∷ list_back r F t i)

one_scale : (v : Vector) → scale (pos 1) v ≡ v
unfolding scale
one_scale v = vector_by (ring (with_vector v []) (search read depth 20) tt) (ring (with_vector v []) (search read depth 20) tt) (ring (with_vector v []) (search read depth 20) tt)

pub whole_moved : (r : Motion) (a : Point) → moved_at r (whole_point (vector a)) ≡ whole_point (vector (moved_point r a))
unfolding whole_point
whole_moved r a = point_by (ap (plus (turned r.matrix (vector a))) (one_scale r.shift)) refl

pub side_is : SideLaw
side_is r t = record {
  plane = λ s p. side_plane r s p t;
  half = λ f p. side_moved r f p t;
  planes = λ ts. list_moved r ts t;
  whole = whole_moved r;
  each_point = λ q. each_point r q t;
  point_back = λ p. point_back r p t;
  list_back = λ F. list_back r F t;
}
