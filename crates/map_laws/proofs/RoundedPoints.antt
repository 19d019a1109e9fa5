-- Where vertices go: rounded to a grid they stay in the world.
use Rattle.std.proofs.Common.{◌≡◌, ℕ, ◌+◌, ◌*◌, ◌<◌, ◌≤◌, Bool, true, false, inl, inr, refl, ap, sym, ◌∙◌, subst, arith, ℤ, pos, neg_ℤ, ◌*ℤ◌, ◌<ℤ◌, ◌≤ℤ◌, unsigned_abs}
use Rattle.std.specs.Prelude.{int_lt}
use Rattle.std.proofs.Math.Nat.{div-lt_iff_lt-mul, mul-le-mul_left}
use Rattle.std.proofs.lemmas.Int.{ints, unsigned_abs-mul}
use Rattle.algebra.specs.Space.{Homogeneous}
use Rattle.algebra.specs.World.{InCube, world}
use Rattle.exact_geom.specs.Rounding.{IsGrid}
use Rattle.fixed_num.specs.Count.{nearest}
use Rattle.fixed_num.specs.DecimalValue.{with_sign}
use Rattle.map_model.specs.Brushes.{rounded, rounded_coordinate}
use Rattle.map_laws.proofs.FacetFaces.{InWorld, in_world}

-- A quotient that is at most k is at most k once it is rounded.
nearest_most : (a d k : ℕ) → 0 < d → a ≤ k * d → nearest a d ≤ k
nearest_most a d k some h =
    let e : (k + 1) * (2 * d) ≡ 2 * (k * d) + 2 * d = grind arith in
    let q = (div-lt_iff_lt-mul {k = 2 * d} {x = 2 * a + d} {y = k + 1} (omega arith)).1 (omega (arith, e)) in
    omega (arith, q)

size_signed : (negative : Bool) (n : ℕ) → unsigned_abs (with_sign negative n) ≡ n
size_signed true n = omega (arith, ints)
size_signed false n = refl

-- g steps of size k reach the border of the world.
module _ (g k : ℕ) (whole : g * k ≡ 4096) (least : 0 < g) where
  spread : (w a : ℕ) → a ≤ 4096 * w → a ≤ k * (w * g)
  spread w a h = let e : k * (w * g) ≡ (g * k) * w = grind arith in omega (arith, h, e, ap (λ n. n * w) whole)

  some_step : (w : ℕ) → 0 < w → 0 < w * g
  some_step w h = let e = mul-le-mul_left w least in omega (arith, e, h)

  rounded_in : (w x : ℤ) → pos 0 <ℤ w → unsigned_abs x ≤ 4096 * unsigned_abs w → unsigned_abs (rounded_coordinate (pos g) w x) ≤ 4096
  rounded_in w x positive h =
      let n = nearest (unsigned_abs x) (unsigned_abs (w *ℤ pos g)) in
      let d = unsigned_abs-mul w (pos g) in
      let most : n ≤ k = nearest_most (unsigned_abs x) (unsigned_abs (w *ℤ pos g)) k
      (subst (λ s. 0 < s) (sym d) (some_step (unsigned_abs w) (omega (arith, ints)))) (subst (λ s. unsigned_abs x ≤ k * s) (sym d) (spread (unsigned_abs w) (unsigned_abs x) h)) in
      let e = unsigned_abs-mul (pos g) (with_sign (int_lt x (pos 0)) n) ∙ ap (λ s. g * s) (size_signed (int_lt x (pos 0)) n) in
      subst (λ s. s ≤ 4096) (sym e) (omega (arith, mul-le-mul_left g most, whole))

grid_in : (grid w x : ℤ) → IsGrid grid → pos 0 <ℤ w → unsigned_abs x ≤ 4096 * unsigned_abs w → unsigned_abs (rounded_coordinate grid w x) ≤ 4096
grid_in grid w x g positive h = elim g [
  | inl e ↦ by 1 4096 refl (omega arith) e
  | inr g ↦ elim g [
    | inl e ↦ by 2 2048 refl (omega arith) e
    | inr g ↦ elim g [
      | inl e ↦ by 4 1024 refl (omega arith) e
      | inr g ↦ elim g [
        | inl e ↦ by 8 512 refl (omega arith) e
        | inr g ↦ elim g [
          | inl e ↦ by 16 256 refl (omega arith) e
          | inr g ↦ elim g [ inl e ↦ by 32 128 refl (omega arith) e | inr e ↦ by 64 64 refl (omega arith) e ]
        ]
      ]
    ]
  ]
]
  where
    by : (n k : ℕ) → n * k ≡ 4096 → 0 < n → grid ≡ pos n → unsigned_abs (rounded_coordinate grid w x) ≤ 4096
    by n k whole least e = subst (λ t. unsigned_abs (rounded_coordinate t w x) ≤ 4096) (sym e) (rounded_in n k whole least w x positive h)

pub size_of : (w x : ℤ) → pos 0 <ℤ w → neg_ℤ (world *ℤ w) ≤ℤ x → x ≤ℤ (world *ℤ w) → unsigned_abs x ≤ 4096 * unsigned_abs w
size_of w x positive l h = omega (arith, ints)

pub rounded_world : (grid : ℤ) (v : Homogeneous) → IsGrid grid → pos 0 <ℤ v.weight → InCube world v → InWorld (rounded grid v)
rounded_world grid v g positive c = in_world (rounded grid v)
    (grid_in grid v.weight v.vector.x g positive (size_of v.weight v.vector.x positive c.left c.right))
    (grid_in grid v.weight v.vector.y g positive (size_of v.weight v.vector.y positive c.near c.far))
    (grid_in grid v.weight v.vector.z g positive (size_of v.weight v.vector.z positive c.bottom c.top))
