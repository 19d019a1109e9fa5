use Rattle.std.proofs.Common.{◌≡◌, ap, ◌∙◌, ◌≤◌, w64, ℤ, to_z, of_z, unsigned_abs}
use Rattle.std.specs.Int.{w128}
use Rattle.algebra.specs.Space.{Vector, cross, dot, det, meet, plus, scale}
use Rattle.algebra.proofs.Identities.{vector_by}
use Rattle.exact_geom.specs.Limits.{cross_limit, normal_limit}
use Rattle.exact_geom.specs.Machine.{vector64, IsWithin}
use Rattle.exact_geom.proofs.Exactly.{call, coordinate_is, size_of}
use Rattle.exact_geom.proofs.Meeting.{point_by}
use Rattle.exact_geom.proofs.Sizes.{IsWithin_at, IsWithin-cross, size-dot}
use Rattle.exact_geom.proofs.crossing.Crossing.of.Goals as goal

across : (a b : Vector) → IsWithin normal_limit a → IsWithin normal_limit b → IsWithin cross_limit (cross a b)
across a b h k = IsWithin-cross a b normal_limit normal_limit h k

small_part : {m z : ℤ} → m ≡ z → unsigned_abs z ≤ cross_limit → unsigned_abs (to_z w64 (of_z w64 m)) ≤ cross_limit
small_part {m} {z} e h = size_of (call w64 m z e h tt)

pub sum_of_products-requires-clause-x_size : goal.sum_of_products-requires-clause-x_size
sum_of_products-requires-clause-x_size c =
    small_part (ap (λ v. v.x) c.cross-gh.ensures) (across (vector64 c.args.g.now.normal) (vector64 c.args.h.now.normal) c.requires.g_size.normal c.requires.h_size.normal).x

pub sum_of_products-requires-clause-y_size : goal.sum_of_products-requires-clause-y_size
sum_of_products-requires-clause-y_size c =
    small_part (ap (λ v. v.x) c.cross-hf.ensures) (across (vector64 c.args.h.now.normal) (vector64 c.args.f.now.normal) c.requires.h_size.normal c.requires.f_size.normal).x

pub sum_of_products-requires-clause-z_size : goal.sum_of_products-requires-clause-z_size
sum_of_products-requires-clause-z_size c =
    small_part (ap (λ v. v.x) c.cross-fg.ensures) (across (vector64 c.args.f.now.normal) (vector64 c.args.g.now.normal) c.requires.f_size.normal c.requires.g_size.normal).x

pub sum_of_products-requires-2-clause-x_size : goal.sum_of_products-requires-2-clause-x_size
sum_of_products-requires-2-clause-x_size c =
    small_part (ap (λ v. v.y) c.cross-gh.ensures) (across (vector64 c.args.g.now.normal) (vector64 c.args.h.now.normal) c.requires.g_size.normal c.requires.h_size.normal).y

pub sum_of_products-requires-2-clause-y_size : goal.sum_of_products-requires-2-clause-y_size
sum_of_products-requires-2-clause-y_size c =
    small_part (ap (λ v. v.y) c.cross-hf.ensures) (across (vector64 c.args.h.now.normal) (vector64 c.args.f.now.normal) c.requires.h_size.normal c.requires.f_size.normal).y

pub sum_of_products-requires-2-clause-z_size : goal.sum_of_products-requires-2-clause-z_size
sum_of_products-requires-2-clause-z_size c =
    small_part (ap (λ v. v.y) c.cross-fg.ensures) (across (vector64 c.args.f.now.normal) (vector64 c.args.g.now.normal) c.requires.f_size.normal c.requires.g_size.normal).y

pub sum_of_products-requires-3-clause-x_size : goal.sum_of_products-requires-3-clause-x_size
sum_of_products-requires-3-clause-x_size c =
    small_part (ap (λ v. v.z) c.cross-gh.ensures) (across (vector64 c.args.g.now.normal) (vector64 c.args.h.now.normal) c.requires.g_size.normal c.requires.h_size.normal).z

pub sum_of_products-requires-3-clause-y_size : goal.sum_of_products-requires-3-clause-y_size
sum_of_products-requires-3-clause-y_size c =
    small_part (ap (λ v. v.z) c.cross-hf.ensures) (across (vector64 c.args.h.now.normal) (vector64 c.args.f.now.normal) c.requires.h_size.normal c.requires.f_size.normal).z

pub sum_of_products-requires-3-clause-z_size : goal.sum_of_products-requires-3-clause-z_size
sum_of_products-requires-3-clause-z_size c =
    small_part (ap (λ v. v.z) c.cross-fg.ensures) (across (vector64 c.args.f.now.normal) (vector64 c.args.g.now.normal) c.requires.f_size.normal c.requires.g_size.normal).z

pub wide_dot-requires-clause-other_size : goal.wide_dot-requires-clause-other_size
wide_dot-requires-clause-other_size c =
    IsWithin_at c.cross-gh.ensures (across (vector64 c.args.g.now.normal) (vector64 c.args.h.now.normal) c.requires.g_size.normal c.requires.h_size.normal)

pub returns-clause-point : goal.returns-clause-point
unfolding meet plus scale det
returns-clause-point c =
    let f = c.args.f.now in
    let g = c.args.g.now in
    let h = c.args.h.now in
    let a = c.requires.f_size in
    let b = c.requires.g_size in
    let d = c.requires.h_size in
    let gh = across (vector64 g.normal) (vector64 h.normal) b.normal d.normal in
    let hf = across (vector64 h.normal) (vector64 f.normal) d.normal a.normal in
    let fg = across (vector64 f.normal) (vector64 g.normal) a.normal b.normal in
    point_by (vector_by
    (coordinate_is f.distance g.distance h.distance a.distance b.distance d.distance gh.x hf.x fg.x (ap (λ v. v.x) c.cross-gh.ensures) (ap (λ v. v.x) c.cross-hf.ensures) (ap (λ v. v.x) c.cross-fg.ensures) c.sum_of_products.ensures).is
    (coordinate_is f.distance g.distance h.distance a.distance b.distance d.distance gh.y hf.y fg.y (ap (λ v. v.y) c.cross-gh.ensures) (ap (λ v. v.y) c.cross-hf.ensures) (ap (λ v. v.y) c.cross-fg.ensures) c.sum_of_products-2.ensures).is
    (coordinate_is f.distance g.distance h.distance a.distance b.distance d.distance gh.z hf.z fg.z (ap (λ v. v.z) c.cross-gh.ensures) (ap (λ v. v.z) c.cross-hf.ensures) (ap (λ v. v.z) c.cross-fg.ensures) c.sum_of_products-3.ensures).is)
    (call w128 c.wide_dot.result (dot (vector64 f.normal) (cross (vector64 g.normal) (vector64 h.normal))) (c.wide_dot.ensures ∙ ap (λ v. dot (vector64 f.normal) v) c.cross-gh.ensures)
    (size-dot (vector64 f.normal) (cross (vector64 g.normal) (vector64 h.normal)) normal_limit cross_limit a.normal gh) tt).is

pub returns-clause-bounded : goal.returns-clause-bounded
returns-clause-bounded c =
    let f = c.args.f.now in
    let g = c.args.g.now in
    let h = c.args.h.now in
    let a = c.requires.f_size in
    let b = c.requires.g_size in
    let d = c.requires.h_size in
    let gh = across (vector64 g.normal) (vector64 h.normal) b.normal d.normal in
    let hf = across (vector64 h.normal) (vector64 f.normal) d.normal a.normal in
    let fg = across (vector64 f.normal) (vector64 g.normal) a.normal b.normal in
    record {
      x = size_of (coordinate_is f.distance g.distance h.distance a.distance b.distance d.distance gh.x hf.x fg.x (ap (λ v. v.x) c.cross-gh.ensures) (ap (λ v. v.x) c.cross-hf.ensures) (ap (λ v. v.x) c.cross-fg.ensures) c.sum_of_products.ensures);
      y = size_of (coordinate_is f.distance g.distance h.distance a.distance b.distance d.distance gh.y hf.y fg.y (ap (λ v. v.y) c.cross-gh.ensures) (ap (λ v. v.y) c.cross-hf.ensures) (ap (λ v. v.y) c.cross-fg.ensures) c.sum_of_products-2.ensures);
      z = size_of (coordinate_is f.distance g.distance h.distance a.distance b.distance d.distance gh.z hf.z fg.z (ap (λ v. v.z) c.cross-gh.ensures) (ap (λ v. v.z) c.cross-hf.ensures) (ap (λ v. v.z) c.cross-fg.ensures) c.sum_of_products-3.ensures);
      weight = size_of (call w128 c.wide_dot.result (dot (vector64 f.normal) (cross (vector64 g.normal) (vector64 h.normal))) (c.wide_dot.ensures ∙ ap (λ v. dot (vector64 f.normal) v) c.cross-gh.ensures)
          (size-dot (vector64 f.normal) (cross (vector64 g.normal) (vector64 h.normal)) normal_limit cross_limit a.normal gh) tt);
    }
