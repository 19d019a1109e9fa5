-- The tags of the cube's faces are distinct.
use Rattle.std.proofs.Common.{◌≡◌, false, nat_eq, List, [], ◌∷◌, refl, arith}
use Rattle.std.proofs.lemmas.Bool.Decides.{nat_tests}
use Rattle.algebra.specs.Members.{Every}
use Rattle.algebra.proofs.Members.{each_of_more, each_of_none}
use Rattle.half_poly.specs.Shapes.{Tagged, DistinctTags, no_sides, one_more_side}
use Rattle.half_poly.specs.Walls.{cube_side, cube_sides}

differs : (s t : Tagged) → nat_eq s.tag t.tag ≡ false → ¬ (s.tag ≡ t.tag)
differs s t h q = grind (arith, nat_tests)

also : (s t : Tagged) (sides : List Tagged) → nat_eq s.tag t.tag ≡ false → Every (λ (u : Tagged). ¬ (s.tag ≡ u.tag)) sides → Every (λ (u : Tagged). ¬ (s.tag ≡ u.tag)) (t ∷ sides)
also s t sides h all = each_of_more (λ (u : Tagged). ¬ (s.tag ≡ u.tag)) t sides (differs s t h) all

last : (s : Tagged) → Every (λ (u : Tagged). ¬ (s.tag ≡ u.tag)) []
last s = each_of_none (λ (u : Tagged). ¬ (s.tag ≡ u.tag))

pub cube_distinct : DistinctTags cube_sides
cube_distinct =
    one_more_side (also (cube_side 0) (cube_side 1) _ refl (also (cube_side 0) (cube_side 2) _ refl (also (cube_side 0) (cube_side 3) _ refl (also (cube_side 0) (cube_side 4) _ refl (also (cube_side 0) (cube_side 5) _ refl (last (cube_side 0)))))))
    (one_more_side (also (cube_side 1) (cube_side 2) _ refl (also (cube_side 1) (cube_side 3) _ refl (also (cube_side 1) (cube_side 4) _ refl (also (cube_side 1) (cube_side 5) _ refl (last (cube_side 1))))))
    (one_more_side (also (cube_side 2) (cube_side 3) _ refl (also (cube_side 2) (cube_side 4) _ refl (also (cube_side 2) (cube_side 5) _ refl (last (cube_side 2)))))
    (one_more_side (also (cube_side 3) (cube_side 4) _ refl (also (cube_side 3) (cube_side 5) _ refl (last (cube_side 3))))
    (one_more_side (also (cube_side 4) (cube_side 5) _ refl (last (cube_side 4)))
    (one_more_side (last (cube_side 5)) no_sides)))))
