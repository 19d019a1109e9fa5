-- Vertices that are rounded to a grid: there is one nearest multiple, half away from 0, and it is the one that `rounded` computes.
use Rattle.std.proofs.Common.{◌≡◌, ℕ, ◌+◌, ◌*◌, ◌/◌, ◌<◌, ◌≤◌, List, [], ◌∷◌, map, Bool, true, false, ◌⊎◌, inl, inr, refl, ap, ap₂, sym, ◌∙◌, subst, arith, ℤ, pos, neg_ℤ, ◌-ℤ◌, ◌*ℤ◌, ◌<ℤ◌, ◌≤ℤ◌, unsigned_abs, w32, to_z, of_z}
use Rattle.std.specs.Prelude.{int_lt}
use Rattle.std.proofs.lemmas.Int.{ints, unsigned_abs-mul}
use Rattle.algebra.specs.Members.{◌∈◌, here, there, Every}
use Rattle.algebra.specs.Space.{Vector, Homogeneous, HalfSpace}
use Rattle.algebra.proofs.Expr.{read}
use Rattle.algebra.proofs.Ring.{ring}
use Rattle.exact_geom.specs.declared.point.Point.{Point}
use Rattle.exact_geom.specs.Planes.{vector}
use Rattle.exact_geom.specs.Rounding.{IsGrid, IsNearest, IsRounded, gap}
use Rattle.exact_geom.specs.Machine.{IsHalfUp}
use Rattle.exact_geom.proofs.Nearest.{Grid, grid_of, grid_positive, half_up, upright_answer, turned_answer}
use Rattle.fixed_num.specs.Count.{nearest}
use Rattle.fixed_num.specs.DecimalValue.{with_sign}
use Rattle.hull_laws.specs.Moved.{Carried}
use Rattle.hull_laws.proofs.Separate.{cancel_zero}
use Rattle.map_model.specs.Brushes.{rounded, rounded_coordinate}
use Rattle.vertex_plans.proofs.Changed.{carried}

-- There is one nearest multiple. --------------------------------------------------------------------------------------------------------

one_or_other : (r s : ℤ) → unsigned_abs r ≡ unsigned_abs s → (r ≡ s) ⊎ (r ≡ neg_ℤ s)
one_or_other r s e = grind (arith, ints)

at_zero : (x T : ℤ) → unsigned_abs (x -ℤ neg_ℤ T) ≡ unsigned_abs (x -ℤ T) → unsigned_abs (x -ℤ T) ≤ unsigned_abs (x -ℤ pos 0) → T ≡ pos 0
at_zero x T e h = omega (arith, ints)

pub one_nearest : (g x w r s : ℤ) → pos 0 <ℤ w → IsNearest g x w r → IsNearest g x w s → r ≡ s
one_nearest g x w r s p n k =
    let a = subst (λ t. gap x w r ≤ gap x w t) (sym k.multiple) (n.nearest k.count) in
    let b = subst (λ t. gap x w s ≤ gap x w t) (sym n.multiple) (k.nearest n.count) in
    let same : gap x w r ≡ gap x w s = omega (arith, a, b) in
    let c = subst (λ t. unsigned_abs t ≤ unsigned_abs r) (sym k.multiple) (n.half_away k.count (ap (gap x w) (sym k.multiple) ∙ sym same)) in
    let d = subst (λ t. unsigned_abs t ≤ unsigned_abs s) (sym n.multiple) (k.half_away n.count (ap (gap x w) (sym n.multiple) ∙ same)) in
    by (one_or_other r s (omega (arith, c, d))) same
  where
    by : (r ≡ s) ⊎ (r ≡ neg_ℤ s) → gap x w r ≡ gap x w s → r ≡ s
    by (inl e) same = e
    by (inr e) same =
        let turned : neg_ℤ s *ℤ w ≡ neg_ℤ (s *ℤ w) = ring (s ∷ w ∷ []) (search read depth 20) tt in
        let none : (pos 0 *ℤ g) *ℤ w ≡ pos 0 = ring (g ∷ w ∷ []) (search read depth 20) tt in
        let opposite : unsigned_abs (x -ℤ neg_ℤ (s *ℤ w)) ≡ unsigned_abs (x -ℤ s *ℤ w) = ap (λ t. unsigned_abs (x -ℤ t)) (sym turned) ∙ ap (gap x w) (sym e) ∙ same in
        let near = subst (λ t. gap x w s ≤ unsigned_abs (x -ℤ t)) none (k.nearest (pos 0)) in
        let zero : s *ℤ w ≡ pos 0 = at_zero x (s *ℤ w) opposite near in
        let back : w *ℤ s ≡ s *ℤ w = ring (w ∷ s ∷ []) (search read depth 20) tt in
        let z : s ≡ pos 0 = cancel_zero w s (back ∙ zero) p in
        e ∙ ap neg_ℤ z ∙ sym z

-- The computed one is it. ---------------------------------------------------------------------------------------------------------------

module _ (g w x : ℤ) (grid : IsGrid g) (positive : pos 0 <ℤ w) where
  abbrev count : ℕ
  count = nearest (unsigned_abs x) (unsigned_abs (w *ℤ g))

  size : unsigned_abs (w *ℤ g) ≡ unsigned_abs g * unsigned_abs w
  size = unsigned_abs-mul w g ∙ turned (unsigned_abs w) (unsigned_abs g)
    where
      turned : (a b : ℕ) → a * b ≡ b * a
      turned a b = grind arith

  grid_is : Grid (unsigned_abs g)
  grid_is = grid_of (unsigned_abs g) (subst IsGrid (sym (grid_positive g grid)) grid)

  is_half_up : IsHalfUp (unsigned_abs x) (unsigned_abs w) (unsigned_abs g) (count * unsigned_abs g)
  is_half_up = half_up (unsigned_abs x) (unsigned_abs w) (unsigned_abs g) count (omega (arith, ints)) grid_is.positive (ap (nearest (unsigned_abs x)) size)

  turned : (a b : ℕ) → a * b ≡ b * a
  turned a b = grind arith

  steps : (g : ℤ) (k : ℕ) → pos (unsigned_abs g) ≡ g → pos (k * unsigned_abs g) ≡ g *ℤ pos k
  steps g k e = ap pos (turned k (unsigned_abs g)) ∙ ap (λ z. z *ℤ pos k) e

  steps_back : (g : ℤ) (k : ℕ) → pos (unsigned_abs g) ≡ g → neg_ℤ (pos (k * unsigned_abs g)) ≡ g *ℤ neg_ℤ (pos k)
  steps_back g k e = ap neg_ℤ (steps g k e) ∙ (let t : neg_ℤ (g *ℤ pos k) ≡ g *ℤ neg_ℤ (pos k) = ring (g ∷ pos k ∷ []) (search read depth 20) tt in t)

  pub computed_nearest : IsNearest g x w (rounded_coordinate g w x)
  computed_nearest = by (int_lt x (pos 0)) refl
    where
      by : (t : Bool) → int_lt x (pos 0) ≡ t → IsNearest g x w (g *ℤ with_sign t count)
      by true e = turned_answer g x w (g *ℤ neg_ℤ (pos count)) (unsigned_abs x) (unsigned_abs w) (unsigned_abs g) (count * unsigned_abs g) refl refl refl (omega (arith, ints)) (omega (arith, ints)) grid is_half_up
          (steps_back g count (grid_positive g grid))
      by false e = upright_answer g x w (g *ℤ pos count) (unsigned_abs x) (unsigned_abs w) (unsigned_abs g) (count * unsigned_abs g) refl refl refl (omega (arith, ints)) (omega (arith, ints)) grid is_half_up
          (steps g count (grid_positive g grid))

pub rounded_is : (g : ℤ) (v : Homogeneous) (p : Vector) → IsGrid g → pos 0 <ℤ v.weight → IsRounded g v p → p ≡ vector (rounded g v)
rounded_is g v p grid positive r =
    let x = one_nearest g v.vector.x v.weight p.x (rounded_coordinate g v.weight v.vector.x) positive r.x (computed_nearest g v.weight v.vector.x grid positive) in
    let y = one_nearest g v.vector.y v.weight p.y (rounded_coordinate g v.weight v.vector.y) positive r.y (computed_nearest g v.weight v.vector.y grid positive) in
    let z = one_nearest g v.vector.z v.weight p.z (rounded_coordinate g v.weight v.vector.z) positive r.z (computed_nearest g v.weight v.vector.z grid positive) in
    λ i. record { x = x i; y = y i; z = z i }

pub rounded_all : (g : ℤ) (vs : List Carried) → IsGrid g → Every (λ (v : Carried). pos 0 <ℤ v.old.weight) vs → Every (λ (v : Carried). IsRounded g v.old v.new) vs → vs ≡ carried (rounded g) (map (λ (v : Carried). v.old) vs)
rounded_all g [] grid positive each = refl
rounded_all g (v ∷ vs) grid positive each =
    ap₂ (λ (p : Vector) l. record { old = v.old; new = p } ∷ l) (rounded_is g v.old v.new grid (positive v here) (each v here)) (rounded_all g vs grid (λ u i. positive u (there i)) (λ u i. each u (there i)))

-- A grid is a machine number. -------------------------------------------------------------------------------------------------------------

pub grid_kept : (g : ℤ) → IsGrid g → to_z w32 (of_z w32 g) ≡ g
grid_kept g h = by h
  where
    at : (k : ℕ) → to_z w32 (of_z w32 (pos k)) ≡ pos k → g ≡ pos k → to_z w32 (of_z w32 g) ≡ g
    at k r e = ap (λ z. to_z w32 (of_z w32 z)) e ∙ r ∙ sym e

    by : IsGrid g → to_z w32 (of_z w32 g) ≡ g
    by (inl e) = at 1 refl e
    by (inr (inl e)) = at 2 refl e
    by (inr (inr (inl e))) = at 4 refl e
    by (inr (inr (inr (inl e)))) = at 8 refl e
    by (inr (inr (inr (inr (inl e))))) = at 16 refl e
    by (inr (inr (inr (inr (inr (inl e)))))) = at 32 refl e
    by (inr (inr (inr (inr (inr (inr e)))))) = at 64 refl e
