-- A cube is a valid brush.
use Rattle.std.proofs.Common.{◌∙◌, T, List, [], ◌∷◌, arith, ℤ, pos, negsuc, neg_ℤ, ◌+ℤ◌, ◌*ℤ◌, ◌<ℤ◌, ◌≤ℤ◌}
use Rattle.std.proofs.lemmas.Int.{ints}
use Rattle.std.specs.Int.Signed.{lt_z, le_z}
use Rattle.algebra.specs.Members.{◌∈◌}
use Rattle.algebra.specs.Space.{Homogeneous, HalfSpace, dot, side, SameHalfSpace}
use Rattle.algebra.specs.World.{InCube, world}
use Rattle.algebra.proofs.Members.{each_of_more}
use Rattle.algebra.proofs.Orders.{mul-le_left}
use Rattle.trim_laws.specs.Trim.{Bears, ends, keeps, Trim}
use Rattle.trim_laws.proofs.SameHalfSpace.{same_refl, numbers_of_same}
use Rattle.vertex_laws.specs.Cube.{wall, cube}
use Rattle.vertex_laws.specs.Laws.{CubeValidLaw}
use Rattle.vertex_laws.proofs.Cube.{side-wall, each_wall, of_walls}
use Rattle.vertex_laws.proofs.Box.{centre, centre_behind}

-- ---- no two faces have one half-space
walls_apart : (x y z u v w c : ℤ) → pos 0 <ℤ (x *ℤ x +ℤ y *ℤ y +ℤ z *ℤ z) → pos 0 <ℤ (u *ℤ u +ℤ v *ℤ v +ℤ w *ℤ w) → (x *ℤ u +ℤ y *ℤ v +ℤ z *ℤ w) ≤ℤ pos 0 →
    ¬ (SameHalfSpace (wall x y z c) (wall u v w c))
unfolding dot
walls_apart x y z u v w c p q l s = let n = (numbers_of_same (wall x y z c) (wall u v w c) p q s).along in absurd (omega (arith, ints))

-- No earlier face has the half-space of f.
abbrev NoneSame : List HalfSpace → HalfSpace → Type 0
NoneSame earlier f = (g : HalfSpace) → g ∈ earlier → ¬ (SameHalfSpace g f)

none : {f : HalfSpace} → NoneSame [] f
none g m = elim m [ ]

-- One more earlier face, by three tests that are computed.
beside : {x y z u v w c : ℤ} {earlier : List HalfSpace} → T (lt_z (pos 0) (x *ℤ x +ℤ y *ℤ y +ℤ z *ℤ z)) → T (lt_z (pos 0) (u *ℤ u +ℤ v *ℤ v +ℤ w *ℤ w)) →
    T (le_z (x *ℤ u +ℤ y *ℤ v +ℤ z *ℤ w) (pos 0)) → NoneSame earlier (wall u v w c) → NoneSame (wall x y z c ∷ earlier) (wall u v w c)
beside {x} {y} {z} {u} {v} {w} {c} {earlier} p q l n = each_of_more (λ g. ¬ (SameHalfSpace g (wall u v w c))) (wall x y z c) earlier
    (walls_apart x y z u v w c (record { lt = p }) (record { lt = q }) (record { le = l })) n

-- ---- each face bears, at its middle
middle : ℤ → ℤ → ℤ → Homogeneous
middle x y z = record { vector = record { x = x; y = y; z = z }; weight = pos 1 }

right_bears : (c : ℤ) → pos 0 <ℤ c → Bears (cube c) (wall (pos 1) (pos 0) (pos 0) c)
unfolding middle
right_bears c h = record {
  at = middle c (pos 0) (pos 0);
  weight = omega (arith, ints);
  on = side-wall (pos 1) (pos 0) (pos 0) c (middle c (pos 0) (pos 0)) ∙ omega (arith, ints);
  others = each_wall (λ g. ¬ (SameHalfSpace (wall (pos 1) (pos 0) (pos 0) c) g) → side g (middle c (pos 0) (pos 0)) <ℤ pos 0) c
      (λ n. absurd (n (same_refl (wall (pos 1) (pos 0) (pos 0) c)))) (λ n. rw side-wall (omega (arith, ints))) (λ n. rw side-wall (omega (arith, ints)))
      (λ n. rw side-wall (omega (arith, ints))) (λ n. rw side-wall (omega (arith, ints))) (λ n. rw side-wall (omega (arith, ints)));
}

left_bears : (c : ℤ) → pos 0 <ℤ c → Bears (cube c) (wall (negsuc 0) (pos 0) (pos 0) c)
unfolding middle
left_bears c h = record {
  at = middle (neg_ℤ c) (pos 0) (pos 0);
  weight = omega (arith, ints);
  on = side-wall (negsuc 0) (pos 0) (pos 0) c (middle (neg_ℤ c) (pos 0) (pos 0)) ∙ omega (arith, ints);
  others = each_wall (λ g. ¬ (SameHalfSpace (wall (negsuc 0) (pos 0) (pos 0) c) g) → side g (middle (neg_ℤ c) (pos 0) (pos 0)) <ℤ pos 0) c
      (λ n. rw side-wall (omega (arith, ints))) (λ n. absurd (n (same_refl (wall (negsuc 0) (pos 0) (pos 0) c)))) (λ n. rw side-wall (omega (arith, ints)))
      (λ n. rw side-wall (omega (arith, ints))) (λ n. rw side-wall (omega (arith, ints))) (λ n. rw side-wall (omega (arith, ints)));
}

far_bears : (c : ℤ) → pos 0 <ℤ c → Bears (cube c) (wall (pos 0) (pos 1) (pos 0) c)
unfolding middle
far_bears c h = record {
  at = middle (pos 0) c (pos 0);
  weight = omega (arith, ints);
  on = side-wall (pos 0) (pos 1) (pos 0) c (middle (pos 0) c (pos 0)) ∙ omega (arith, ints);
  others = each_wall (λ g. ¬ (SameHalfSpace (wall (pos 0) (pos 1) (pos 0) c) g) → side g (middle (pos 0) c (pos 0)) <ℤ pos 0) c
      (λ n. rw side-wall (omega (arith, ints))) (λ n. rw side-wall (omega (arith, ints))) (λ n. absurd (n (same_refl (wall (pos 0) (pos 1) (pos 0) c))))
      (λ n. rw side-wall (omega (arith, ints))) (λ n. rw side-wall (omega (arith, ints))) (λ n. rw side-wall (omega (arith, ints)));
}

near_bears : (c : ℤ) → pos 0 <ℤ c → Bears (cube c) (wall (pos 0) (negsuc 0) (pos 0) c)
unfolding middle
near_bears c h = record {
  at = middle (pos 0) (neg_ℤ c) (pos 0);
  weight = omega (arith, ints);
  on = side-wall (pos 0) (negsuc 0) (pos 0) c (middle (pos 0) (neg_ℤ c) (pos 0)) ∙ omega (arith, ints);
  others = each_wall (λ g. ¬ (SameHalfSpace (wall (pos 0) (negsuc 0) (pos 0) c) g) → side g (middle (pos 0) (neg_ℤ c) (pos 0)) <ℤ pos 0) c
      (λ n. rw side-wall (omega (arith, ints))) (λ n. rw side-wall (omega (arith, ints))) (λ n. rw side-wall (omega (arith, ints)))
      (λ n. absurd (n (same_refl (wall (pos 0) (negsuc 0) (pos 0) c)))) (λ n. rw side-wall (omega (arith, ints))) (λ n. rw side-wall (omega (arith, ints)));
}

top_bears : (c : ℤ) → pos 0 <ℤ c → Bears (cube c) (wall (pos 0) (pos 0) (pos 1) c)
unfolding middle
top_bears c h = record {
  at = middle (pos 0) (pos 0) c;
  weight = omega (arith, ints);
  on = side-wall (pos 0) (pos 0) (pos 1) c (middle (pos 0) (pos 0) c) ∙ omega (arith, ints);
  others = each_wall (λ g. ¬ (SameHalfSpace (wall (pos 0) (pos 0) (pos 1) c) g) → side g (middle (pos 0) (pos 0) c) <ℤ pos 0) c
      (λ n. rw side-wall (omega (arith, ints))) (λ n. rw side-wall (omega (arith, ints))) (λ n. rw side-wall (omega (arith, ints)))
      (λ n. rw side-wall (omega (arith, ints))) (λ n. absurd (n (same_refl (wall (pos 0) (pos 0) (pos 1) c)))) (λ n. rw side-wall (omega (arith, ints)));
}

bottom_bears : (c : ℤ) → pos 0 <ℤ c → Bears (cube c) (wall (pos 0) (pos 0) (negsuc 0) c)
unfolding middle
bottom_bears c h = record {
  at = middle (pos 0) (pos 0) (neg_ℤ c);
  weight = omega (arith, ints);
  on = side-wall (pos 0) (pos 0) (negsuc 0) c (middle (pos 0) (pos 0) (neg_ℤ c)) ∙ omega (arith, ints);
  others = each_wall (λ g. ¬ (SameHalfSpace (wall (pos 0) (pos 0) (negsuc 0) c) g) → side g (middle (pos 0) (pos 0) (neg_ℤ c)) <ℤ pos 0) c
      (λ n. rw side-wall (omega (arith, ints))) (λ n. rw side-wall (omega (arith, ints))) (λ n. rw side-wall (omega (arith, ints)))
      (λ n. rw side-wall (omega (arith, ints))) (λ n. rw side-wall (omega (arith, ints))) (λ n. absurd (n (same_refl (wall (pos 0) (pos 0) (negsuc 0) c))));
}

pub cube_trim : (c : ℤ) → pos 0 <ℤ c → Trim (cube c) (cube c)
cube_trim c h =
    keeps (record { first = none; bears = right_bears c h })
    (keeps (record { first = beside tt tt tt none; bears = left_bears c h })
    (keeps (record { first = beside tt tt tt (beside tt tt tt none); bears = far_bears c h })
    (keeps (record { first = beside tt tt tt (beside tt tt tt (beside tt tt tt none)); bears = near_bears c h })
    (keeps (record { first = beside tt tt tt (beside tt tt tt (beside tt tt tt (beside tt tt tt none))); bears = top_bears c h })
    (keeps (record { first = beside tt tt tt (beside tt tt tt (beside tt tt tt (beside tt tt tt (beside tt tt tt none)))); bears = bottom_bears c h }) ends)))))

-- ---- and it is within the world
in_world : (c : ℤ) (p : Homogeneous) → c ≤ℤ world → pos 0 <ℤ p.weight → InCube c p → InCube world p
in_world c p h w i =
    let m : (p.weight *ℤ c) ≤ℤ (p.weight *ℤ world) = mul-le_left p.weight (below w) h in
    let l = i.left in let r = i.right in let n = i.near in let f = i.far in let b = i.bottom in let t = i.top in record {
      left = omega (arith, ints);
      right = omega (arith, ints);
      near = omega (arith, ints);
      far = omega (arith, ints);
      bottom = omega (arith, ints);
      top = omega (arith, ints);
    }
  where
    below : {a : ℤ} → pos 0 <ℤ a → pos 0 ≤ℤ a
    below {a} k = omega (arith, ints)

pub cube_valid : CubeValidLaw
cube_valid c h l = record {
  trimmed = cube_trim c h;
  least = omega arith;
  most = omega arith;
  volume = record { at = centre; inside = record { weight = omega (arith, ints); all = centre_behind c h } };
  within = λ p i. in_world c p l i.weight (of_walls c p i.all);
}
