-- Motions that follow one another, and the way back.
use Rattle.std.proofs.Common.{◌≡◌, [], ap, sym, ◌∙◌, pos, negsuc}
use Rattle.algebra.specs.Space.{Vector, dot, plus, scale}
use Rattle.algebra.proofs.Expr.{read}
use Rattle.algebra.proofs.Ring.{ring}
use Rattle.algebra.proofs.Identities.{with_vector, vector_by}
use Rattle.exact_geom.specs.declared.point.Point.{Point}
use Rattle.exact_geom.specs.Planes.{vector}
use Rattle.orient48.specs.Motions.{Matrix, Motion, turned, transposed, vector_at, stay, after, back, between, moved_point, point_at}
use Rattle.orient48.specs.Laws.{IsTurn, Follows}
use Rattle.orient48.proofs.Matrices.{with_matrix, is_turn, product_assoc, turned_product, turned_plus, turned_scale, turned_unturned, unturned_product, product_unturned, upright_product, turn_undone, turned_back, turn_back, turn_product}

pub motion_by : {a b : Motion} → a.matrix ≡ b.matrix → a.shift ≡ b.shift → a ≡ b
motion_by {a} {b} h k = ap (λ i. record { matrix = i; shift = a.shift }) h ∙ ap (λ i. record { matrix = b.matrix; shift = i }) k

pub plus_assoc : (a b c : Vector) → plus a (plus b c) ≡ plus (plus a b) c
unfolding plus
plus_assoc a b c = vector_by (ring (with_vector a (with_vector b (with_vector c []))) (search read depth 20) tt)
    (ring (with_vector a (with_vector b (with_vector c []))) (search read depth 20) tt) (ring (with_vector a (with_vector b (with_vector c []))) (search read depth 20) tt)

pub after_assoc : (p q r : Motion) → after r (after q p) ≡ after (after r q) p
after_assoc p q r = motion_by (product_assoc r.matrix q.matrix p.matrix)
    (ap (λ v. plus v r.shift) (turned_plus r.matrix (turned q.matrix p.shift) q.shift) ∙ sym (plus_assoc _ _ r.shift)
    ∙ ap (λ v. plus v (plus (turned r.matrix q.shift) r.shift)) (sym (turned_product r.matrix q.matrix p.shift)))

minus_itself : (v : Vector) → plus v (scale (negsuc 0) v) ≡ vector_at (pos 0) (pos 0) (pos 0)
unfolding plus scale
minus_itself v = vector_by (ring (with_vector v []) (search read depth 20) tt) (ring (with_vector v []) (search read depth 20) tt) (ring (with_vector v []) (search read depth 20) tt)

itself_minus : (v : Vector) → plus (scale (negsuc 0) v) v ≡ vector_at (pos 0) (pos 0) (pos 0)
unfolding plus scale
itself_minus v = vector_by (ring (with_vector v []) (search read depth 20) tt) (ring (with_vector v []) (search read depth 20) tt) (ring (with_vector v []) (search read depth 20) tt)

twice_minus : (v : Vector) → scale (negsuc 0) (scale (negsuc 0) v) ≡ v
unfolding scale
twice_minus v = vector_by (ring (with_vector v []) (search read depth 20) tt) (ring (with_vector v []) (search read depth 20) tt) (ring (with_vector v []) (search read depth 20) tt)

plus_none : (v : Vector) → plus v (vector_at (pos 0) (pos 0) (pos 0)) ≡ v
unfolding plus
plus_none v = vector_by (ring (with_vector v []) (search read depth 20) tt) (ring (with_vector v []) (search read depth 20) tt) (ring (with_vector v []) (search read depth 20) tt)

none_plus : (v : Vector) → plus (vector_at (pos 0) (pos 0) (pos 0)) v ≡ v
unfolding plus
none_plus v = vector_by (ring (with_vector v []) (search read depth 20) tt) (ring (with_vector v []) (search read depth 20) tt) (ring (with_vector v []) (search read depth 20) tt)

pub turned_none : (m : Matrix) → turned m (vector_at (pos 0) (pos 0) (pos 0)) ≡ vector_at (pos 0) (pos 0) (pos 0)
unfolding dot
turned_none m = vector_by (ring (with_matrix m []) (search read depth 20) tt) (ring (with_matrix m []) (search read depth 20) tt) (ring (with_matrix m []) (search read depth 20) tt)

pub back_after : (r : Motion) → IsTurn r.matrix → after (back r) r ≡ stay
back_after r t = motion_by (turn_undone r.matrix t) (minus_itself (turned (transposed r.matrix) r.shift))

pub after_back : (r : Motion) → IsTurn r.matrix → after r (back r) ≡ stay
after_back r t = motion_by (upright_product r.matrix t.rows)
    (ap (λ v. plus v r.shift) (turned_scale r.matrix (negsuc 0) (turned (transposed r.matrix) r.shift) ∙ ap (scale (negsuc 0)) (turned_back r.matrix r.shift t)) ∙ itself_minus r.shift)

pub stay_after : (r : Motion) → after stay r ≡ r
stay_after r = motion_by (unturned_product r.matrix) (ap (λ v. plus v (vector_at (pos 0) (pos 0) (pos 0))) (turned_unturned r.shift) ∙ plus_none r.shift)

pub after_stay : (r : Motion) → after r stay ≡ r
after_stay r = motion_by (product_unturned r.matrix) (ap (λ v. plus v r.shift) (turned_none r.matrix) ∙ none_plus r.shift)

-- the way back is the only one
pub back_is : (r s : Motion) → IsTurn r.matrix → after s r ≡ stay → s ≡ back r
back_is r s t e = sym (after_stay s) ∙ ap (after s) (sym (after_back r t)) ∙ after_assoc (back r) r s ∙ ap (λ k. after k (back r)) e ∙ stay_after (back r)

pub turn_after : (p q : Motion) → IsTurn p.matrix → IsTurn q.matrix → IsTurn (after q p).matrix
turn_after p q t u = turn_product q.matrix p.matrix u t

-- back and forth in the middle
pub cancelled : (p q r : Motion) → IsTurn q.matrix → after (after r (back q)) (after q p) ≡ after r p
cancelled p q r t = sym (after_assoc (after q p) (back q) r) ∙ ap (after r) (after_assoc p q (back q) ∙ ap (λ k. after k p) (back_after q t) ∙ stay_after p)

pub cancelled_back : (p q r : Motion) → IsTurn q.matrix → after (after r q) (after (back q) p) ≡ after r p
cancelled_back p q r t = sym (after_assoc (after (back q) p) q r) ∙ ap (after r) (after_assoc p (back q) q ∙ ap (λ k. after k p) (after_back q t) ∙ stay_after p)

pub back_between : (a b : Motion) → IsTurn a.matrix → IsTurn b.matrix → back (between a b) ≡ between b a
back_between a b t u = sym (back_is (between a b) (between b a) (turn_product b.matrix (transposed a.matrix) u (turn_back a.matrix t)) (cancelled (back a) b a u ∙ after_back a t))

pub between_on : (g a b : Motion) → IsTurn g.matrix → IsTurn a.matrix → after (between g b) (back (between g a)) ≡ between a b
between_on g a b t u = ap (after (between g b)) (back_between g a t u) ∙ cancelled (back a) g b t

-- ---- points
pub point_by : {a b : Point} → a.x ≡ b.x → a.y ≡ b.y → a.z ≡ b.z → a ≡ b
point_by {a} {b} h k l =
    ap (λ i. record { x = i; y = a.y; z = a.z }) h ∙ ap (λ i. record { x = b.x; y = i; z = a.z }) k ∙ ap (λ i. record { x = b.x; y = b.y; z = i }) l

pub vector_moved : (p q : Motion) (v : Vector) → plus (turned (after q p).matrix v) (after q p).shift ≡ plus (turned q.matrix (plus (turned p.matrix v) p.shift)) q.shift
vector_moved p q v =
    ap (λ k. plus k (plus (turned q.matrix p.shift) q.shift)) (turned_product q.matrix p.matrix v) ∙ plus_assoc _ _ q.shift
    ∙ ap (λ k. plus k q.shift) (sym (turned_plus q.matrix (turned p.matrix v) p.shift))

pub moved_after : (p q : Motion) (a : Point) → moved_point (after q p) a ≡ moved_point q (moved_point p a)
moved_after p q a = ap point_at (vector_moved p q (vector a))

pub moved_stay : (a : Point) → moved_point stay a ≡ a
moved_stay a = ap point_at (ap (λ k. plus k (vector_at (pos 0) (pos 0) (pos 0))) (turned_unturned (vector a)) ∙ plus_none (vector a))

pub follows : Follows
follows = record {
  grouped = after_assoc;
  turns = is_turn;
  undone = back_after;
  undone_first = after_back;
  stays_after = stay_after;
  stays_before = after_stay;
  points = moved_after;
  leads_on = between_on;
  leads_back = back_between;
  turns_after = turn_after;
  turns_back = λ r. turn_back r.matrix;
}
