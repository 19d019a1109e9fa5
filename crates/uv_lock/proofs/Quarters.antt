-- Base axes that are turned by quarters.
use Rattle.std.proofs.Common.{◌≡◌, ◌≢◌, ◌∙◌, Bool, true, false, cond, if◌then◌else◌, ℕ, zero, suc, ◌≤◌, List, [], ◌∷◌, All, map, Some, None, option_map, refl, arith, sym, ap, subst, ℤ, pos, ◌*ℤ◌, neg_ℤ, unsigned_abs, get_or}
use Rattle.std.specs.Prelude.{unwrap_or}
use mathlib.Core.Logic.{⊎_elim}
use Rattle.algebra.specs.Space.{Vector}
use Rattle.uv_lock.specs.BaseAxes.{axes_of, base_axes_of}
use Rattle.exact_geom.specs.Planes.{ThreePoints, half_space}
use Rattle.uv_lock.specs.Coordinates.{base_axes_of_plane, in_units, is_quarter, quarters_of, standard_axes, turned_base_axes}
use Rattle.uv_lock.specs.Units.{axis_unit}
use Rattle.uv_lock.proofs.Options.{no_some, of_some}
use Rattle.uv_lock.proofs.Directions.{up_row, east_row, north_row, level_axes, steep_in_x-axes, steep_in_y-axes, le_or_lt}

-- ---- what holds of the three pairs of base axes
pub record Pair (P : List (List ℤ) → Type 0) (n : Vector) : Type 0 where
  pub axes : List (List ℤ)
  pub are : base_axes_of n ≡ Some axes
  pub holds : P axes

pub some_pair : (P : List (List ℤ) → Type 0) (n : Vector) → P (axes_of up_row) → P (axes_of east_row) → P (axes_of north_row) → Pair P n
some_pair P n p q r =
    ⊎_elim
    (λ level_x. ⊎_elim
    (λ level_y. record { axes = axes_of up_row; are = level_axes n level_x level_y; holds = p })
    (λ steep. record { axes = axes_of north_row; are = steep_in_y-axes n steep (omega arith); holds = r })
    (le_or_lt (unsigned_abs n.y) (unsigned_abs n.z)))
    (λ steep. ⊎_elim
    (λ h. record { axes = axes_of east_row; are = steep_in_x-axes n steep h; holds = q })
    (λ h. record { axes = axes_of north_row; are = steep_in_y-axes n (omega arith) h; holds = r })
    (le_or_lt (unsigned_abs n.y) (unsigned_abs n.x)))
    (le_or_lt (unsigned_abs n.x) (unsigned_abs n.z))

-- ---- their parts are small
all_three : (P : ℤ → Type 0) (a b c : ℤ) → P a → P b → P c → All P (a ∷ b ∷ c ∷ [])
all_three P a b c p q r zero d h = p
all_three P a b c p q r (suc zero) d h = q
all_three P a b c p q r (suc (suc zero)) d h = r
all_three P a b c p q r (suc (suc (suc k))) d h = absurd (omega arith)

abbrev pub Small : List ℤ → Type 0
Small axis = All (λ part. unsigned_abs part ≤ 1) axis

small_three : (a b c : ℤ) → unsigned_abs a ≤ 1 → unsigned_abs b ≤ 1 → unsigned_abs c ≤ 1 → Small (a ∷ b ∷ c ∷ [])
small_three a b c p q r = all_three (λ part. unsigned_abs part ≤ 1) a b c p q r

abbrev pub AreSmall : List (List ℤ) → Type 0
AreSmall axes = Small (get_or axes 0 []) × Small (get_or axes 1 [])

pub small_parts : (n : Vector) (axes : List (List ℤ)) → base_axes_of n ≡ Some axes → AreSmall axes
small_parts n axes e =
    let p = some_pair AreSmall n
    (small_three _ _ _ (omega arith) (omega arith) (omega arith), small_three _ _ _ (omega arith) (omega arith) (omega arith))
    (small_three _ _ _ (omega arith) (omega arith) (omega arith), small_three _ _ _ (omega arith) (omega arith) (omega arith))
    (small_three _ _ _ (omega arith) (omega arith) (omega arith), small_three _ _ _ (omega arith) (omega arith) (omega arith)) in
    subst AreSmall (of_some (sym p.are ∙ e)) p.holds

-- ---- a quarter turn leads from U and V to -V and U
abbrev pub quarter_axes : ℕ → List (List ℤ) → List (List ℤ)
quarter_axes zero axes = get_or axes 0 [] ∷ get_or axes 1 [] ∷ []
quarter_axes (suc zero) axes = map neg_ℤ (get_or axes 1 []) ∷ get_or axes 0 [] ∷ []
quarter_axes (suc (suc zero)) axes = map neg_ℤ (get_or axes 0 []) ∷ map neg_ℤ (get_or axes 1 []) ∷ []
quarter_axes (suc (suc (suc q))) axes = get_or axes 1 [] ∷ map neg_ℤ (get_or axes 0 []) ∷ []

abbrev AreTurned : ℕ → List (List ℤ) → Type 0
AreTurned q axes = in_units (turned_base_axes q axes) ≡ quarter_axes q (in_units axes)

pairs_turned : (q : ℕ) (n : Vector) → Pair (AreTurned q) n
pairs_turned zero n = some_pair (AreTurned zero) n refl refl refl
pairs_turned (suc zero) n = some_pair (AreTurned (suc zero)) n refl refl refl
pairs_turned (suc (suc zero)) n = some_pair (AreTurned (suc (suc zero))) n refl refl refl
pairs_turned (suc (suc (suc q))) n = some_pair (AreTurned (suc (suc (suc q)))) n refl refl refl

pub turned_units : (q : ℕ) (n : Vector) (x : List (List ℤ)) → option_map in_units (base_axes_of n) ≡ Some x →
    in_units (turned_base_axes q (unwrap_or (base_axes_of n) [])) ≡ quarter_axes q x
turned_units q n x e =
    let p = pairs_turned q n in
    ap (λ o. in_units (turned_base_axes q (unwrap_or o []))) p.are ∙ p.holds
    ∙ ap (quarter_axes q) (of_some (sym (ap (option_map in_units) p.are) ∙ e))

abbrev pub AreTwo : List (List ℤ) → Type 0
AreTwo axes = in_units axes ≡ map (λ c. c *ℤ pos axis_unit) (get_or axes 0 []) ∷ map (λ c. c *ℤ pos axis_unit) (get_or axes 1 []) ∷ []

pub two_axes : (n : Vector) (axes : List (List ℤ)) → base_axes_of n ≡ Some axes → AreTwo axes
two_axes n axes e = let p = some_pair AreTwo n refl refl refl in subst AreTwo (of_some (sym p.are ∙ e)) p.holds

-- ---- the axes of a Standard face
pub record Found (rotation q : ℤ) : Type 0 where
  pub quarter : is_quarter rotation ≡ true
  pub is : q ≡ pos (quarters_of rotation)

found_by : (rotation q : ℤ) (b : Bool) → is_quarter rotation ≡ b → Some q ≡ (if b then Some (pos (quarters_of rotation)) else None) → Found rotation q
found_by rotation q true e h = record { quarter = e; is = of_some h }
found_by rotation q false e h = no_some (sym h)

pub found : (rotation q : ℤ) → Some q ≡ (if is_quarter rotation then Some (pos (quarters_of rotation)) else None) → Found rotation q
found rotation q h = found_by rotation q (is_quarter rotation) refl h

pub standard_are : (plane : ThreePoints) (rotation : ℤ) (k : ℕ) (x : List (List ℤ)) → is_quarter rotation ≡ true → quarters_of rotation ≡ k →
    option_map in_units (base_axes_of (half_space plane).normal) ≡ Some x → standard_axes plane rotation ≡ Some (quarter_axes k x)
standard_are plane rotation k x h e f =
    ap (λ b. cond b (Some (in_units (turned_base_axes (quarters_of rotation) (base_axes_of_plane plane)))) None) h
    ∙ ap Some (turned_units (quarters_of rotation) (half_space plane).normal x f ∙ ap (λ q. quarter_axes q x) e)

pub third : (k : ℕ) (x : List (List ℤ)) → k ≢ 0 → k ≢ 1 → k ≢ 2 → quarter_axes k x ≡ get_or x 1 [] ∷ map neg_ℤ (get_or x 0 []) ∷ []
third zero x h i j = absurd (h refl)
third (suc zero) x h i j = absurd (i refl)
third (suc (suc zero)) x h i j = absurd (j refl)
third (suc (suc (suc k))) x h i j = refl
