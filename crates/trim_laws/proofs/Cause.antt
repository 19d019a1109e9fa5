-- A list has at most one cause to be refused, and a valid brush has none.
use Rattle.std.proofs.Common.{◌≡◌, refl, sym, ap, ◌∙◌, ℕ, List, length, arith, pos, ◌<ℤ◌}
use Rattle.std.proofs.lemmas.Int.{ints}
use Rattle.algebra.specs.Space.{Homogeneous, HalfSpace}
use Rattle.algebra.specs.World.{InCube, world, reach}
use Rattle.trim_laws.specs.Valid.{TooManyFaces, too_many_faces, is_no_volume, is_out_of_world, is_too_many}
use Rattle.trim_laws.specs.Laws.{OneCauseLaw, NoCauseLaw}
use Rattle.trim_laws.proofs.Bearing.{in_of_inside}
use Rattle.trim_laws.proofs.Once.{trim_unique}

-- A point of the world is one of the larger cube.
pub in_reach : (p : Homogeneous) → pos 0 <ℤ p.weight → InCube world p → InCube reach p
in_reach p w i = let l = i.left in let r = i.right in let n = i.near in let f = i.far in let b = i.bottom in let t = i.top in record {
  left = omega (arith, ints);
  right = omega (arith, ints);
  near = omega (arith, ints);
  far = omega (arith, ints);
  bottom = omega (arith, ints);
  top = omega (arith, ints);
}

same_count : (F : List HalfSpace) (n m : ℕ) → TooManyFaces F n → TooManyFaces F m → n ≡ m
same_count F n m t u = sym t.count ∙ ap length (trim_unique F t.kept u.kept t.trim u.trim) ∙ u.count

pub one_cause : OneCauseLaw
one_cause F c d (is_no_volume n) (is_no_volume m) = refl
one_cause F c d (is_no_volume n) (is_out_of_world k o) = absurd (k n)
one_cause F c d (is_no_volume n) (is_too_many k l t) = absurd (k n)
one_cause F c d (is_out_of_world k o) (is_no_volume n) = absurd (k n)
one_cause F c d (is_out_of_world k o) (is_out_of_world l q) = refl
one_cause F c d (is_out_of_world k o) (is_too_many l m t) = absurd (m o)
one_cause F c d (is_too_many k l t) (is_no_volume n) = absurd (k n)
one_cause F c d (is_too_many k l t) (is_out_of_world m o) = absurd (l o)
one_cause F c d (is_too_many {n = n} k l t) (is_too_many {n = m} i j u) = ap too_many_faces (same_count F n m t u)

pub no_cause : NoCauseLaw
no_cause F c v (is_no_volume n) = let o = v.volume.inside in n v.volume.at (in_reach v.volume.at o.weight (v.within v.volume.at (in_of_inside o))) o
no_cause F c v (is_out_of_world k o) = o.outside (v.within o.at o.is_in)
no_cause F c v (is_too_many k l t) = let e = ap length (trim_unique F t.kept F t.trim v.trimmed) in let a = t.count in let b = t.above in let d = v.most in absurd (omega arith)
