-- Brushes that stay in the world.
use Rattle.std.proofs.Common.{◌≡◌, List, [], ◌∷◌, map, length, suc, ap, sym, refl, subst, ◌≤◌, arith, ℤ, pos}
use Rattle.std.proofs.lemmas.Int.{ints, by_lt_z}
use Rattle.algebra.specs.Space.{Homogeneous, HalfSpace, side}
use Rattle.algebra.specs.World.{InCube, world}
use Rattle.orient48.specs.Motions.{Motion, back, moved_half, moved_at}
use Rattle.orient48.specs.Laws.{IsTurn}
use Rattle.trim_laws.specs.Solid.{IsIn, IsInside, Bounded}
use Rattle.trim_laws.specs.Valid.{Valid}
use Rattle.trim_laws.proofs.Steps.{below_le}
use Rattle.vertex_laws.specs.Vertex.{IsVertex}
use Rattle.vertex_laws.proofs.Cube.{in_walls, of_walls, leaves_cube}
use Rattle.solid_laws.proofs.World.{world_bounded}
use Rattle.moved_laws.specs.Moved.{moved_list}
use Rattle.moved_laws.specs.Laws.{ValidMovedLaw}
use Rattle.moved_laws.proofs.Halves.{each_point}
use Rattle.moved_laws.proofs.Points.{in_onto, has_inside_onto, bounded_onto}
use Rattle.moved_laws.proofs.Trimming.{trim_onto}
use Rattle.moved_laws.proofs.Corners.{vertex_was}

-- A bounded solid with its vertices in a cube lies in it.
pub within_vertices : (F : List HalfSpace) (c : ℤ) → Bounded F → ((v : Homogeneous) → IsVertex F v → InCube c v) → (p : Homogeneous) → IsIn F p → InCube c p
within_vertices F c b stays p i = of_walls c p (λ k m. by_lt_z (pos 0) (side k p)
    (λ l.
    let v = (leaves_cube F c b).0 (record { at = p; is_in = i; outside = λ j. let n = in_walls c p j k m in absurd (omega (arith, ints)) }) in
    absurd (v.outside (stays v.at v.vertex)))
    (λ l. l))

pub same_length : {A B : Type 0} (g : A → B) (xs : List A) → length (map g xs) ≡ length xs
same_length g [] = refl
same_length g (x ∷ xs) = ap (λ n. suc n) (same_length g xs)

in_of_inside : (F : List HalfSpace) (p : Homogeneous) → IsInside F p → IsIn F p
in_of_inside F p h = record { weight = h.weight; all = λ f i. below_le (h.all f i) }

pub valid_bounded : (F : List HalfSpace) → Valid F → Bounded F
valid_bounded F v = world_bounded F v.volume.at (in_of_inside F v.volume.at v.volume.inside) v.within

valid_onto : (r : Motion) (F : List HalfSpace) → IsTurn r.matrix → Valid F → ((v : Homogeneous) → IsVertex F v → InCube world (moved_at r v)) → Valid (moved_list r F)
valid_onto r F t v stays = record {
  trimmed = trim_onto r F F t v.trimmed;
  least = subst (λ n. 4 ≤ n) (sym (same_length (moved_half r) F)) v.least;
  most = subst (λ n. n ≤ 128) (sym (same_length (moved_half r) F)) v.most;
  volume = has_inside_onto r F t v.volume;
  within = within_vertices (moved_list r F) world (bounded_onto r F t (valid_bounded F v))
      (λ q h. subst (InCube world) (each_point r q t) (stays (moved_at (back r) q) (vertex_was r F q t h)));
}

pub valid_is : ValidMovedLaw
valid_is r F t v = (valid_onto r F t v, λ w p h. w.within (moved_at r p) (in_onto r F p t h.inside))
