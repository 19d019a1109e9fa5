-- A point is in the world where each of its coordinates is.
use Rattle.std.proofs.Common.{◌≡◌, ◌↔◌, Bool, true, IsTrue, subst, ℤ, neg_ℤ, ◌*ℤ◌, ◌≤ℤ◌}
use Rattle.algebra.specs.Space.{Homogeneous}
use Rattle.algebra.specs.World.{InCube, world}

-- the coordinate x of a point of weight w
abbrev pub IsNear : ℤ → ℤ → Type 0
IsNear x w = (neg_ℤ (world *ℤ w) ≤ℤ x) × (x ≤ℤ (world *ℤ w))

pub near_at : {r : Bool} {x y w v : ℤ} → x ≡ y → w ≡ v → IsTrue r ↔ IsNear x w → IsTrue r ↔ IsNear y v
near_at {r} {x} {y} {w} {v} e f h = subst (λ t. IsTrue r ↔ IsNear t v) e (subst (λ t. IsTrue r ↔ IsNear x t) f h)

-- the last of three tests, where the others passed
pub last_near : {a b c : Bool} (p : Homogeneous) → a ≡ true → b ≡ true → IsTrue a ↔ IsNear p.vector.x p.weight → IsTrue b ↔ IsNear p.vector.y p.weight →
    IsTrue c ↔ IsNear p.vector.z p.weight → IsTrue c ↔ InCube world p
last_near p e f h k l =
    let x = h.0 e in
    let y = k.0 f in
    (λ t. let z = l.0 t in record { left = x.0; right = x.1; near = y.0; far = y.1; bottom = z.0; top = z.1 }, λ i. l.1 (i.bottom, i.top))
