-- One coordinate of a normal times a difference of points, in 64 bits.
use Rattle.std.proofs.Common.{◌≡◌, ℤ, ◌*ℤ◌, ◌-ℤ◌, ◌≤◌, ◌+◌, ◌*◌, unsigned_abs, to_z, of_z, w32, w64, FitsSigned, ◌∙◌}
use Rattle.exact_geom.specs.Limits.{normal_limit}
use Rattle.exact_geom.proofs.Exactly.{Exactly, var, call, times, times_fits, less, less_fits}

module _ (m n r s x y : ℤ) (m_is : m ≡ n) (m_size : unsigned_abs n ≤ normal_limit) (r_is : r ≡ to_z w32 (of_z w32 x)) (s_is : s ≡ to_z w32 (of_z w32 y))
    (x_size : unsigned_abs x ≤ 4352) (y_size : unsigned_abs y ≤ 4352) where
  first : Exactly w64 (to_z w64 (of_z w64 r)) x 4352
  first = call w64 r x (r_is ∙ (var w32 x x_size tt).is) x_size tt

  second : Exactly w64 (to_z w64 (of_z w64 s)) y 4352
  second = call w64 s y (s_is ∙ (var w32 y y_size tt).is) y_size tt

  factor : Exactly w64 (to_z w64 (of_z w64 m)) n normal_limit
  factor = call w64 m n m_is m_size tt

  pub difference_fits : FitsSigned w64 (to_z w64 (of_z w64 r) -ℤ to_z w64 (of_z w64 s))
  difference_fits = less_fits first second tt

  pub part_fits : FitsSigned w64 (to_z w64 (of_z w64 m) *ℤ to_z w64 (of_z w64 (to_z w64 (of_z w64 r) -ℤ to_z w64 (of_z w64 s))))
  part_fits = times_fits factor (less first second tt) tt

  pub part : Exactly w64 (to_z w64 (of_z w64 (to_z w64 (of_z w64 m) *ℤ to_z w64 (of_z w64 (to_z w64 (of_z w64 r) -ℤ to_z w64 (of_z w64 s)))))) (n *ℤ (x -ℤ y)) (normal_limit * (4352 + 4352))
  part = times factor (less first second tt) tt
