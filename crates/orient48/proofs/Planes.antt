-- Planes that a motion moves, and their half-spaces.
use Rattle.std.proofs.Common.{◌≡◌, [], ap, sym, ◌∙◌, refl, subst, Bool, true, false, cond, inl, inr, pos, negsuc, ◌+ℤ◌}
use Rattle.algebra.specs.Space.{Vector, dot, det, cross, plus, minus, scale, through}
use Rattle.algebra.proofs.Expr.{read}
use Rattle.algebra.proofs.Ring.{ring}
use Rattle.algebra.proofs.Identities.{with_vector, vector_by, half_space_by}
use Rattle.exact_geom.specs.Planes.{ThreePoints, half_space, vector}
use Rattle.orient48.specs.Motions.{Matrix, Motion, turned, transposed, stay, after, moved_point, moved_plane, moved_half}
use Rattle.orient48.specs.Laws.{IsTurn}
use Rattle.orient48.proofs.Matrices.{with_matrix, turned_back}
use Rattle.orient48.proofs.Following.{moved_after, moved_stay}
use Rattle.orient48.proofs.Signs.{Sign, sign_of, sign_product, flips, det_unturned, dot_turned}

abbrev pub placed : Bool → Motion → ThreePoints → ThreePoints
placed b m t =
    let x = moved_point m t.p0 in let y = moved_point m t.p1 in let z = moved_point m t.p2 in
    cond b (record { p0 = z; p1 = y; p2 = x }) (record { p0 = x; p1 = y; p2 = z })

pub placed_at : (m : Motion) (t : ThreePoints) (b : Bool) → Sign m.matrix b → moved_plane m t ≡ placed b m t
placed_at m t b s = ap (λ b. placed b m t) (flips m.matrix b s)

plane_by : {s t : ThreePoints} → s.p0 ≡ t.p0 → s.p1 ≡ t.p1 → s.p2 ≡ t.p2 → s ≡ t
plane_by {s} {t} h k l = ap (λ i. record { p0 = i; p1 = s.p1; p2 = s.p2 }) h ∙ ap (λ i. record { p0 = t.p0; p1 = i; p2 = s.p2 }) k ∙ ap (λ i. record { p0 = t.p0; p1 = t.p1; p2 = i }) l

placed_after : (r s : Motion) (t : ThreePoints) (b c d : Bool) → (cond c (cond b false true) b ≡ d) → placed c s (placed b r t) ≡ placed d (after s r) t
placed_after r s t true true d e = subst (λ d. placed true s (placed true r t) ≡ placed d (after s r) t) e (plane_by (sym (moved_after r s t.p0)) (sym (moved_after r s t.p1)) (sym (moved_after r s t.p2)))
placed_after r s t true false d e = subst (λ d. placed false s (placed true r t) ≡ placed d (after s r) t) e (plane_by (sym (moved_after r s t.p2)) (sym (moved_after r s t.p1)) (sym (moved_after r s t.p0)))
placed_after r s t false true d e = subst (λ d. placed true s (placed false r t) ≡ placed d (after s r) t) e (plane_by (sym (moved_after r s t.p2)) (sym (moved_after r s t.p1)) (sym (moved_after r s t.p0)))
placed_after r s t false false d e = subst (λ d. placed false s (placed false r t) ≡ placed d (after s r) t) e (plane_by (sym (moved_after r s t.p0)) (sym (moved_after r s t.p1)) (sym (moved_after r s t.p2)))

plane_after_at : (r s : Motion) (t : ThreePoints) (b c d : Bool) → (cond c (cond b false true) b ≡ d) → Sign r.matrix b → Sign s.matrix c → Sign (after s r).matrix d → moved_plane s (moved_plane r t) ≡ moved_plane (after s r) t
plane_after_at r s t b c d e f g h = placed_at s (moved_plane r t) c g ∙ ap (placed c s) (placed_at r t b f) ∙ placed_after r s t b c d e ∙ sym (placed_at (after s r) t d h)

pub plane_after : (r s : Motion) (t : ThreePoints) → IsTurn r.matrix → IsTurn s.matrix → moved_plane s (moved_plane r t) ≡ moved_plane (after s r) t
plane_after r s t f g = elim (sign_of r.matrix f) [
  | inl b ↦ elim (sign_of s.matrix g) [
    | inl c ↦ plane_after_at r s t true true false refl b c (sign_product s.matrix r.matrix true true false refl c b)
    | inr c ↦ plane_after_at r s t true false true refl b c (sign_product s.matrix r.matrix false true true refl c b)
  ]
  | inr b ↦ elim (sign_of s.matrix g) [
    | inl c ↦ plane_after_at r s t false true true refl b c (sign_product s.matrix r.matrix true false true refl c b)
    | inr c ↦ plane_after_at r s t false false false refl b c (sign_product s.matrix r.matrix false false false refl c b)
  ]
]

pub plane_stays : (t : ThreePoints) → moved_plane stay t ≡ t
plane_stays t = placed_at stay t false (record { is = det_unturned }) ∙ plane_by (moved_stay t.p0) (moved_stay t.p1) (moved_stay t.p2)

minus_moved : (m : Motion) (a b : Vector) → minus (plus (turned m.matrix a) m.shift) (plus (turned m.matrix b) m.shift) ≡ turned m.matrix (minus a b)
unfolding dot plus minus
minus_moved m a b = vector_by (ring (with_matrix m.matrix (with_vector m.shift (with_vector a (with_vector b [])))) (search read depth 20 fits 20000) tt)
    (ring (with_matrix m.matrix (with_vector m.shift (with_vector a (with_vector b [])))) (search read depth 20 fits 20000) tt)
    (ring (with_matrix m.matrix (with_vector m.shift (with_vector a (with_vector b [])))) (search read depth 20 fits 20000) tt)

-- ---- half-spaces of moved planes
cross_turned_back : (m : Matrix) (u v : Vector) → turned (transposed m) (cross (turned m u) (turned m v)) ≡ scale (det m.x m.y m.z) (cross u v)
unfolding dot cross det scale
cross_turned_back m u v = vector_by (ring (with_matrix m (with_vector u (with_vector v []))) (search read depth 60 fits 40000) tt)
    (ring (with_matrix m (with_vector u (with_vector v []))) (search read depth 60 fits 40000) tt)
    (ring (with_matrix m (with_vector u (with_vector v []))) (search read depth 60 fits 40000) tt)

one_scale : (v : Vector) → scale (pos 1) v ≡ v
unfolding scale
one_scale v = vector_by (ring (with_vector v []) (search read depth 20) tt) (ring (with_vector v []) (search read depth 20) tt) (ring (with_vector v []) (search read depth 20) tt)

turned_round : (u v : Vector) → scale (negsuc 0) (cross u v) ≡ cross v u
unfolding scale cross
turned_round u v = vector_by (ring (with_vector u (with_vector v [])) (search read depth 20) tt) (ring (with_vector u (with_vector v [])) (search read depth 20) tt)
    (ring (with_vector u (with_vector v [])) (search read depth 20) tt)

cross_turned : (m : Matrix) (u v : Vector) → IsTurn m → cross (turned m u) (turned m v) ≡ turned m (scale (det m.x m.y m.z) (cross u v))
cross_turned m u v t = sym (turned_back m (cross (turned m u) (turned m v)) t) ∙ ap (turned m) (cross_turned_back m u v)

dot_plus : (n p t : Vector) → dot n (plus p t) ≡ dot n p +ℤ dot n t
unfolding dot plus
dot_plus n p t = ring (with_vector n (with_vector p (with_vector t []))) (search read depth 20) tt

normal_at : (r : Motion) (t : ThreePoints) (b : Bool) → IsTurn r.matrix → Sign r.matrix b → (half_space (placed b r t)).normal ≡ turned r.matrix (half_space t).normal
unfolding through
normal_at r t true turn s =
    (λ i. cross (minus_moved r (vector t.p2) (vector t.p1) i) (minus_moved r (vector t.p0) (vector t.p1) i))
    ∙ cross_turned r.matrix (minus (vector t.p2) (vector t.p1)) (minus (vector t.p0) (vector t.p1)) turn
    ∙ ap (λ d. turned r.matrix (scale d (cross (minus (vector t.p2) (vector t.p1)) (minus (vector t.p0) (vector t.p1))))) s.is
    ∙ ap (turned r.matrix) (turned_round (minus (vector t.p2) (vector t.p1)) (minus (vector t.p0) (vector t.p1)))
normal_at r t false turn s =
    (λ i. cross (minus_moved r (vector t.p0) (vector t.p1) i) (minus_moved r (vector t.p2) (vector t.p1) i))
    ∙ cross_turned r.matrix (minus (vector t.p0) (vector t.p1)) (minus (vector t.p2) (vector t.p1)) turn
    ∙ ap (λ d. turned r.matrix (scale d (cross (minus (vector t.p0) (vector t.p1)) (minus (vector t.p2) (vector t.p1))))) s.is
    ∙ ap (turned r.matrix) (one_scale (cross (minus (vector t.p0) (vector t.p1)) (minus (vector t.p2) (vector t.p1))))

distance_is : (t : ThreePoints) → (half_space t).distance ≡ dot (half_space t).normal (vector t.p1)
unfolding through
distance_is t = refl

middle : (b : Bool) (r : Motion) (t : ThreePoints) → vector (placed b r t).p1 ≡ plus (turned r.matrix (vector t.p1)) r.shift
middle true r t = refl
middle false r t = refl

half_at : (r : Motion) (t : ThreePoints) (b : Bool) → IsTurn r.matrix → Sign r.matrix b → half_space (placed b r t) ≡ moved_half r (half_space t)
half_at r t b turn s =
    let n = normal_at r t b turn s in
    half_space_by n (distance_is (placed b r t) ∙ (λ i. dot (n i) (middle b r t i)) ∙ dot_plus (turned r.matrix (half_space t).normal) (turned r.matrix (vector t.p1)) r.shift
    ∙ ap (λ d. d +ℤ dot (turned r.matrix (half_space t).normal) r.shift) (dot_turned r.matrix (half_space t).normal (vector t.p1) turn ∙ sym (distance_is t)))

pub half_moved : (r : Motion) (t : ThreePoints) → IsTurn r.matrix → half_space (moved_plane r t) ≡ moved_half r (half_space t)
half_moved r t turn = elim (sign_of r.matrix turn) [
  | inl s ↦ ap half_space (placed_at r t true s) ∙ half_at r t true turn s
  | inr s ↦ ap half_space (placed_at r t false s) ∙ half_at r t false turn s
]
