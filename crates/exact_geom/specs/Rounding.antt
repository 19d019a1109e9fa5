-- Rounding to a grid.
use Rattle.std.specs.Prelude.{◌≡◌, ◌⊎◌, ℕ, ◌≤◌, ℤ, pos, ◌-ℤ◌, ◌*ℤ◌, unsigned_abs}
use Rattle.algebra.specs.Space.{Vector, Homogeneous}

-- The sizes of a grid, in map units.
abbrev pub IsGrid : ℤ → Type 0
IsGrid g =
    (g ≡ pos 1) ⊎ ((g ≡ pos 2) ⊎ ((g ≡ pos 4) ⊎ ((g ≡ pos 8) ⊎ ((g ≡ pos 16) ⊎ ((g ≡ pos 32) ⊎ (g ≡ pos 64))))))

-- How far x / w lies from r, times w.
abbrev pub gap : ℤ → ℤ → ℤ → ℕ
gap x w r = unsigned_abs (x -ℤ r *ℤ w)

-- The whole number r is the multiple of the grid that is nearest to x / w, and of two the one further from 0.
pub record IsNearest (grid x w r : ℤ) : Type 0 where
  pub count : ℤ
  pub multiple : r ≡ count *ℤ grid
  pub nearest : (k : ℤ) → gap x w r ≤ gap x w (k *ℤ grid)
  pub half_away : (k : ℤ) → gap x w (k *ℤ grid) ≡ gap x w r → unsigned_abs (k *ℤ grid) ≤ unsigned_abs r

-- Each coordinate of the point at its nearest multiple of the grid.
pub record IsRounded (grid : ℤ) (p : Homogeneous) (v : Vector) : Type 0 where
  pub x : IsNearest grid p.vector.x p.weight v.x
  pub y : IsNearest grid p.vector.y p.weight v.y
  pub z : IsNearest grid p.vector.z p.weight v.z
