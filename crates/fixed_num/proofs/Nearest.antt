-- The nearest whole number to a fraction: where it lies, that there is one, and that there is only one.
use Rattle.std.proofs.Common.{◌≡◌, ℕ, ◌+◌, ◌*◌, ◌/◌, ◌%◌, ◌<◌, ◌≤◌, arith, ⊎_elim, subst}
use Rattle.std.proofs.lemmas.Nat.{mul-le, div-add-mod', mod_below}
use Rattle.std.proofs.lemmas.Bool.{cases_lt}
use Rattle.fixed_num.specs.DecimalValue.{gap, IsNearest}

-- count times the bottom is within half of the bottom below the top, or less above it
pub record IsBetween (top bottom count : ℕ) : Type 0 where
  pub low : 2 * (count * bottom) ≤ 2 * top + bottom
  pub high : 2 * top + bottom < 2 * (count * bottom) + 2 * bottom

step_below : (other count bottom : ℕ) → other < count → other * bottom + bottom ≤ count * bottom
step_below other count bottom h = omega (arith, mul-le (other + 1) bottom count bottom (omega arith) (omega arith))

nearest-from_between : (top bottom count other : ℕ) → IsBetween top bottom count → gap top bottom count ≤ gap top bottom other
nearest-from_between top bottom count other between =
    ⊎_elim (λ h. omega (arith, step_below other count bottom h))
    (λ h. ⊎_elim (λ k. omega (arith, step_below count other bottom k))
    (λ k. let same : count ≡ other = omega arith in subst (λ x. gap top bottom count ≤ gap top bottom x) same (omega arith))
    (cases_lt count other))
    (cases_lt other count)

outermost-from_between : (top bottom count other : ℕ) → IsBetween top bottom count → gap top bottom other ≡ gap top bottom count → other ≤ count
outermost-from_between top bottom count other between same =
    ⊎_elim (λ k. absurd (omega (arith, step_below count other bottom k))) (λ k. k) (cases_lt count other)

pub IsNearest-from_between : (top bottom count : ℕ) → IsBetween top bottom count → IsNearest top bottom count
IsNearest-from_between top bottom count between = record {
  nearest = λ other. nearest-from_between top bottom count other between;
  outermost = λ other same. outermost-from_between top bottom count other between same;
}

pub same_from_nearest : (top bottom c d : ℕ) → IsNearest top bottom c → IsNearest top bottom d → c ≡ d
same_from_nearest top bottom c d m n =
    let below : gap top bottom c ≤ gap top bottom d = m.nearest d in
    let above : gap top bottom d ≤ gap top bottom c = n.nearest c in
    let one : d ≤ c = m.outermost d (omega arith) in
    let two : c ≤ d = n.outermost c (omega arith) in
    omega arith

pub some_nearest : (top bottom : ℕ) → 0 < bottom → (count : ℕ) × IsNearest top bottom count
some_nearest top bottom h =
    let count : ℕ = (2 * top + bottom) / (2 * bottom) in
    let cut : count * (2 * bottom) + (2 * top + bottom) % (2 * bottom) ≡ 2 * top + bottom = div-add-mod' (2 * top + bottom) (2 * bottom) in
    let rest : (2 * top + bottom) % (2 * bottom) < 2 * bottom = mod_below (2 * top + bottom) (2 * bottom) (omega arith) in
    (count, IsNearest-from_between top bottom count (record { low = omega arith; high = omega arith }))

pub nearest_of_exact : (top bottom count : ℕ) → 0 < bottom → top ≡ count * bottom → IsBetween top bottom count
nearest_of_exact top bottom count h e = record { low = omega arith; high = omega arith }

pub nearest_of_small : (top bottom : ℕ) → 2 * top < bottom → IsBetween top bottom 0
nearest_of_small top bottom h = record { low = omega arith; high = omega arith }

pub IsBetween-scaled : (top bottom count x : ℕ) → 0 < x → IsBetween top bottom count → IsBetween (top * x) (bottom * x) count
IsBetween-scaled top bottom count x h b = record {
  low = omega (arith, mul-le (2 * (count * bottom)) x (2 * top + bottom) x b.low (omega arith));
  high = omega (arith, mul-le (2 * top + bottom + 1) x (2 * (count * bottom) + 2 * bottom) x (omega (arith, b.high)) (omega arith));
}
