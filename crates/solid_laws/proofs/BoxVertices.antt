-- Within the world no vertex is on a face of the larger cube.
use Rattle.std.proofs.Common.{◌≡◌, List, arith, ℤ, pos, ◌<ℤ◌, ◌≤ℤ◌}
use Rattle.std.proofs.lemmas.Int.{ints}
use Rattle.algebra.specs.Members.{◌∈◌, here, there, Every}
use Rattle.algebra.specs.Space.{Homogeneous, HalfSpace, side}
use Rattle.algebra.specs.World.{InCube, world, reach}
use Rattle.algebra.proofs.Members.{each_of_more}
use Rattle.trim_laws.specs.Solid.{IsIn}
use Rattle.trim_laws.proofs.Cause.{in_reach}
use Rattle.vertex_laws.specs.Vertex.{IsVertex}
use Rattle.vertex_laws.specs.Cube.{cube, boxed}
use Rattle.vertex_laws.proofs.Cube.{side-wall, each_wall, in_walls}
use Rattle.solid_laws.specs.Laws.{BoxVerticesLaw}

own : {c : ℤ} {F : List HalfSpace} (f : HalfSpace) → f ∈ F → f ∈ boxed c F
own f m = there (there (there (there (there (there m)))))

each_boxed : (P : HalfSpace → Type 0) (c : ℤ) (F : List HalfSpace) → Every P (cube c) → Every P F → Every P (boxed c F)
each_boxed P c F w all = each_of_more P _ _ (w _ here) (each_of_more P _ _ (w _ (there here)) (each_of_more P _ _ (w _ (there (there here)))
    (each_of_more P _ _ (w _ (there (there (there here)))) (each_of_more P _ _ (w _ (there (there (there (there here)))))
    (each_of_more P _ _ (w _ (there (there (there (there (there here)))))) all)))))

in_own : (c : ℤ) (F : List HalfSpace) (p : Homogeneous) → IsIn (boxed c F) p → IsIn F p
in_own c F p i = record { weight = i.weight; all = λ f m. i.all f (own f m) }

behind_walls : (p : Homogeneous) → pos 0 <ℤ p.weight → InCube world p → (k : HalfSpace) → k ∈ cube reach → side k p <ℤ pos 0
behind_walls p w i = let l = i.left in let r = i.right in let n = i.near in let f = i.far in let b = i.bottom in let t = i.top in
    each_wall (λ k. side k p <ℤ pos 0) reach
    (rw side-wall (omega (arith, ints))) (rw side-wall (omega (arith, ints))) (rw side-wall (omega (arith, ints)))
    (rw side-wall (omega (arith, ints))) (rw side-wall (omega (arith, ints))) (rw side-wall (omega (arith, ints)))

clash : {A : Type 0} {x : ℤ} → x <ℤ pos 0 → x ≡ pos 0 → A
clash {A} {x} l e = absurd (omega (arith, ints))

-- A face of the boxed list on which a point of the world is.
of_list : (F : List HalfSpace) (p : Homogeneous) → pos 0 <ℤ p.weight → InCube world p → (f : HalfSpace) → f ∈ boxed reach F → side f p ≡ pos 0 → f ∈ F
of_list F p w i = each_boxed (λ f. side f p ≡ pos 0 → f ∈ F) reach F (λ f m z. clash (behind_walls p w i f m) z) (λ f m z. m)

unboxed : (F : List HalfSpace) (v : Homogeneous) → ((p : Homogeneous) → IsIn F p → InCube world p) → IsVertex (boxed reach F) v → IsVertex F v
unboxed F v within u =
    let j = in_own reach F v u.inside in let found = of_list F v j.weight (within v j) in record {
      inside = j;
      f = u.f;
      g = u.g;
      h = u.h;
      f_in = found u.f u.f_in u.on_f;
      g_in = found u.g u.g_in u.on_g;
      h_in = found u.h u.h_in u.on_h;
      on_f = u.on_f;
      on_g = u.on_g;
      on_h = u.on_h;
      independent = u.independent;
    }

in_box : (F : List HalfSpace) (v : Homogeneous) → ((p : Homogeneous) → IsIn F p → InCube world p) → IsVertex F v → IsVertex (boxed reach F) v
in_box F v within u = let j = u.inside in record {
  inside = record { weight = j.weight; all = each_boxed (λ f. side f v ≤ℤ pos 0) reach F (in_walls reach v (in_reach v j.weight (within v j))) j.all };
  f = u.f;
  g = u.g;
  h = u.h;
  f_in = own u.f u.f_in;
  g_in = own u.g u.g_in;
  h_in = own u.h u.h_in;
  on_f = u.on_f;
  on_g = u.on_g;
  on_h = u.on_h;
  independent = u.independent;
}

pub box_vertices : BoxVerticesLaw
box_vertices F v within = (unboxed F v within, in_box F v within)
