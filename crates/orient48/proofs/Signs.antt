-- The determinant of a matrix that keeps lengths is 1 or -1.
use Rattle.std.proofs.Common.{◌≡◌, [], ◌∷◌, ap, sym, ◌∙◌, refl, Bool, true, false, cond, ◌⊎◌, inl, inr, ℤ, pos, negsuc, ◌+ℤ◌, ◌-ℤ◌, ◌*ℤ◌, arith}
use Rattle.std.specs.Ordering.{int_eq}
use Rattle.std.proofs.lemmas.Int.{ints}
use Rattle.algebra.specs.Space.{Vector, dot, det, cross}
use Rattle.algebra.proofs.Expr.{read}
use Rattle.algebra.proofs.Ring.{ring}
use Rattle.algebra.proofs.Orders.{eq_by, zero_product}
use Rattle.algebra.proofs.Identities.{with_vector}
use Rattle.orient48.specs.Motions.{Matrix, turned, transposed, product, unturned, is_flip}
use Rattle.orient48.specs.Laws.{IsTurn}
use Rattle.orient48.proofs.Matrices.{with_matrix, upright_product, back_turned}

det_product : (b c : Matrix) → det (product b c).x (product b c).y (product b c).z ≡ det b.x b.y b.z *ℤ det c.x c.y c.z
unfolding det dot cross
det_product b c = ring (with_matrix b (with_matrix c [])) (search read depth 60 fits 40000) tt

det_transposed : (b : Matrix) → det (transposed b).x (transposed b).y (transposed b).z ≡ det b.x b.y b.z
unfolding det dot cross
det_transposed b = ring (with_matrix b []) (search read depth 60 fits 20000) tt

pub det_unturned : det unturned.x unturned.y unturned.z ≡ pos 1
unfolding det dot cross
det_unturned = refl

det_square : (m : Matrix) → IsTurn m → det m.x m.y m.z *ℤ det m.x m.y m.z ≡ pos 1
det_square m t =
    ap (λ d. det m.x m.y m.z *ℤ d) (sym (det_transposed m)) ∙ sym (det_product m (transposed m))
    ∙ ap (λ k. det k.x k.y k.z) (upright_product m t.rows) ∙ det_unturned

square_cases : (d : ℤ) → d *ℤ d ≡ pos 1 → (d ≡ pos 1) ⊎ (d ≡ negsuc 0)
square_cases d e =
    elim (zero_product (d -ℤ pos 1) (d +ℤ pos 1) (eq_by (pos 1) e (ring (d ∷ []) (search read depth 20) tt))) [
      | inl z ↦ inl (omega (arith, ints, z))
      | inr z ↦ inr (omega (arith, ints, z))
    ]

pub record Sign (m : Matrix) (b : Bool) : Type 0 where
  pub is : det m.x m.y m.z ≡ cond b (negsuc 0) (pos 1)

pub sign_of : (m : Matrix) → IsTurn m → Sign m true ⊎ Sign m false
sign_of m t = elim (square_cases (det m.x m.y m.z) (det_square m t)) [ inl e ↦ inr (record { is = e }) | inr e ↦ inl (record { is = e }) ]

pub flips : (m : Matrix) (b : Bool) → Sign m b → is_flip m ≡ b
flips m true s = ap (λ d. int_eq d (negsuc 0)) s.is
flips m false s = ap (λ d. int_eq d (negsuc 0)) s.is

pub sign_product : (b c : Matrix) (s t u : Bool) → cond s (negsuc 0) (pos 1) *ℤ cond t (negsuc 0) (pos 1) ≡ cond u (negsuc 0) (pos 1) → Sign b s → Sign c t → Sign (product b c) u
sign_product b c s t u e f g = record { is = det_product b c ∙ ap (λ d. d *ℤ det c.x c.y c.z) f.is ∙ ap (λ d. cond s (negsuc 0) (pos 1) *ℤ d) g.is ∙ e }

-- ---- dot products
pub turned_dot : (m : Matrix) (v w : Vector) → dot (turned m v) w ≡ dot v (turned (transposed m) w)
unfolding dot
turned_dot m v w = ring (with_matrix m (with_vector v (with_vector w []))) (search read depth 60 fits 20000) tt

pub dot_turned : (m : Matrix) (v w : Vector) → IsTurn m → dot (turned m v) (turned m w) ≡ dot v w
dot_turned m v w t = turned_dot m v (turned m w) ∙ ap (dot v) (back_turned m w t)
