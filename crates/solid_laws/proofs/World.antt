-- A list none of whose points lies outside the world is bounded.
use Rattle.std.proofs.Common.{◌≡◌, refl, List, arith, ⊎_elim, ℤ, pos, negsuc, neg_ℤ, ◌+ℤ◌, ◌*ℤ◌, ◌<ℤ◌, ◌≤ℤ◌}
use Rattle.std.proofs.lemmas.Int.{ints}
use Rattle.algebra.specs.Fractions.{NoneAhead}
use Rattle.algebra.specs.Space.{Vector, Homogeneous, HalfSpace, dot, plus, scale, go}
use Rattle.algebra.specs.World.{InCube, world}
use Rattle.algebra.proofs.Orders.{by_sign, mul-le_left}
use Rattle.algebra.proofs.Identities.{side-go}
use Rattle.algebra.proofs.Vectors.{dot-zero_left}
use Rattle.algebra.proofs.Points.{mix_plain, weight-go}
use Rattle.algebra.proofs.Fractions.{greatest}
use Rattle.trim_laws.specs.Solid.{IsIn}
use Rattle.solid_laws.specs.Laws.{WorldBoundedLaw}

-- One coordinate, x of a point of the world, moved by t times m.
too_far : (t w x m : ℤ) → pos 0 <ℤ w → t ≡ pos 8192 *ℤ w +ℤ pos 1 → neg_ℤ (pos 4096 *ℤ w) ≤ℤ x → pos 0 <ℤ m → (x +ℤ t *ℤ m) ≤ℤ (pos 4096 *ℤ w) → ⊥
too_far t w x m h e l k r =
    let s : pos 0 ≤ℤ t = omega (arith, ints) in let n : (t *ℤ pos 1) ≤ℤ (t *ℤ m) = mul-le_left t s (omega (arith, ints)) in absurd (omega (arith, ints))

too_far_back : (t w x m : ℤ) → pos 0 <ℤ w → t ≡ pos 8192 *ℤ w +ℤ pos 1 → x ≤ℤ (pos 4096 *ℤ w) → m <ℤ pos 0 → neg_ℤ (pos 4096 *ℤ w) ≤ℤ (x +ℤ t *ℤ m) → ⊥
too_far_back t w x m h e l k r =
    let s : pos 0 ≤ℤ t = omega (arith, ints) in let n : (t *ℤ m) ≤ℤ (t *ℤ negsuc 0) = mul-le_left t s (omega (arith, ints)) in absurd (omega (arith, ints))

-- The point o, moved by t times m, is in the world.
record IsMoved (t w : ℤ) (o m : Vector) : Type 0 where
  left : neg_ℤ (pos 4096 *ℤ w) ≤ℤ (o.x +ℤ t *ℤ m.x)
  right : (o.x +ℤ t *ℤ m.x) ≤ℤ (pos 4096 *ℤ w)
  near : neg_ℤ (pos 4096 *ℤ w) ≤ℤ (o.y +ℤ t *ℤ m.y)
  far : (o.y +ℤ t *ℤ m.y) ≤ℤ (pos 4096 *ℤ w)
  bottom : neg_ℤ (pos 4096 *ℤ w) ≤ℤ (o.z +ℤ t *ℤ m.z)
  top : (o.z +ℤ t *ℤ m.z) ≤ℤ (pos 4096 *ℤ w)

moved : (t : ℤ) (o : Homogeneous) (m : Vector) → InCube world (go (pos 1) t o m) → IsMoved t o.weight o.vector m
unfolding go plus scale
moved t o m i = let l = i.left in let r = i.right in let n = i.near in let f = i.far in let b = i.bottom in let u = i.top in record {
  left = omega (arith, ints);
  right = omega (arith, ints);
  near = omega (arith, ints);
  far = omega (arith, ints);
  bottom = omega (arith, ints);
  top = omega (arith, ints);
}

leaves : (t : ℤ) (o : Homogeneous) (m : Vector) → pos 0 <ℤ dot m m → pos 0 <ℤ o.weight → t ≡ pos 8192 *ℤ o.weight +ℤ pos 1 → InCube world o →
    IsMoved t o.weight o.vector m → ⊥
leaves t o m s w e i k = by_sign m.x
    (λ l. too_far_back t o.weight o.vector.x m.x w e i.right l k.left)
    (λ x. by_sign m.y
    (λ l. too_far_back t o.weight o.vector.y m.y w e i.far l k.near)
    (λ y. by_sign m.z
    (λ l. too_far_back t o.weight o.vector.z m.z w e i.top l k.bottom)
    (λ z. let n = dot-zero_left m m (record { x = x; y = y; z = z }) in absurd (omega (arith, ints)))
    (λ l. too_far t o.weight o.vector.z m.z w e i.bottom l k.top))
    (λ l. too_far t o.weight o.vector.y m.y w e i.near l k.far))
    (λ l. too_far t o.weight o.vector.x m.x w e i.left l k.right)

stays : (F : List HalfSpace) (o : Homogeneous) (m : Vector) (t : ℤ) → pos 0 ≤ℤ t → IsIn F o → NoneAhead (λ f. dot f.normal m) F → IsIn F (go (pos 1) t o m)
stays F o m t h i none = record {
  weight = weight-go (pos 1) t o m (omega (arith, ints)) i.weight;
  all = λ f n. rw side-go (mix_plain (pos 1) _ t _ (omega (arith, ints)) h (i.all f n) (none f n));
}

far_enough : (w : ℤ) → pos 0 <ℤ w → pos 0 ≤ℤ (pos 8192 *ℤ w +ℤ pos 1)
far_enough w h = omega (arith, ints)

pub world_bounded : WorldBoundedLaw
world_bounded F o i within m s = ⊎_elim
    (λ none. let t = pos 8192 *ℤ o.weight +ℤ pos 1 in
    absurd (leaves t o m s i.weight refl (within o i) (moved t o m (within (go (pos 1) t o m) (stays F o m t (far_enough o.weight i.weight) i none)))))
    (λ b. record { face = b.it; among = b.among; ahead = b.ahead })
    (greatest (λ (f : HalfSpace). pos 0) (λ f. dot f.normal m) F)
