use Rattle.std.proofs.Common.{◌≡◌, ap, ◌∙◌, ℕ, ◌≤◌, List, get_or, arith, ℤ, pos, unsigned_abs, to_z, of_z, w64, lit<}
use Rattle.algebra.specs.Space.{Vector, HalfSpace}
use Rattle.algebra.proofs.Wide.{cast_is}
use Rattle.exact_geom.specs.Machine.{IsSmall}
use Rattle.exact_geom.specs.Planes.{half_space, parts}
use Rattle.uv_lock.proofs.Directions.{level_axes, steep_in_x-axes, steep_in_y-axes}
use Rattle.uv_lock.proofs.axes.base_axes.Goals as goal

-- The sizes of a vector's parts.
record AreSizes (n : Vector) (x y z : ℕ) : Type 0 where
  x_is : x ≡ unsigned_abs n.x
  y_is : y ≡ unsigned_abs n.y
  z_is : z ≡ unsigned_abs n.z

size_is : (r : ℕ) (word part : ℤ) → r ≡ unsigned_abs (to_z w64 (of_z w64 word)) → word ≡ part → unsigned_abs part ≤ 151519232 →
    r ≡ unsigned_abs part
size_is r word part h e s = h ∙ ap unsigned_abs (cast_is w64 word part 151519232 e s (lit< tt))

-- The sizes of a normal's parts, from its parts in machine words.
sizes_are : (h : HalfSpace) (words : List ℤ) (x y z : ℕ) → IsSmall h → words ≡ parts h.normal →
    x ≡ unsigned_abs (to_z w64 (of_z w64 (get_or words 0 (pos 0)))) →
    y ≡ unsigned_abs (to_z w64 (of_z w64 (get_or words 1 (pos 0)))) →
    z ≡ unsigned_abs (to_z w64 (of_z w64 (get_or words 2 (pos 0)))) →
    AreSizes h.normal x y z
sizes_are h words x y z small is hx hy hz =
    let n = h.normal in
    let s = small.normal in
    record {
      x_is = size_is x (get_or words 0 (pos 0)) n.x hx (ap (λ l. get_or l 0 (pos 0)) is) s.x;
      y_is = size_is y (get_or words 1 (pos 0)) n.y hy (ap (λ l. get_or l 1 (pos 0)) is) s.y;
      z_is = size_is z (get_or words 2 (pos 0)) n.z hz (ap (λ l. get_or l 2 (pos 0)) is) s.z;
    }

pub returns-then-z-max : goal.returns-then-z-max
returns-then-z-max c =
    let s = sizes_are (half_space c.args.p.now) c.normal.result c.unsigned_abs-x.result c.unsigned_abs-y.result c.unsigned_abs-z.result c.normal.ensures.size c.normal.ensures.normal
    c.unsigned_abs-x.ensures.value c.unsigned_abs-y.ensures.value c.unsigned_abs-z.ensures.value in
    level_axes (half_space c.args.p.now).normal (omega arith) (omega arith)

pub returns-then-x-y : goal.returns-then-x-y
returns-then-x-y c =
    let s = sizes_are (half_space c.args.p.now) c.normal.result c.unsigned_abs-x.result c.unsigned_abs-y.result c.unsigned_abs-z.result c.normal.ensures.size c.normal.ensures.normal
    c.unsigned_abs-x.ensures.value c.unsigned_abs-y.ensures.value c.unsigned_abs-z.ensures.value in
    steep_in_x-axes (half_space c.args.p.now).normal (omega arith) (omega arith)

pub returns-else-x-y : goal.returns-else-x-y
returns-else-x-y c =
    let s = sizes_are (half_space c.args.p.now) c.normal.result c.unsigned_abs-x.result c.unsigned_abs-y.result c.unsigned_abs-z.result c.normal.ensures.size c.normal.ensures.normal
    c.unsigned_abs-x.ensures.value c.unsigned_abs-y.ensures.value c.unsigned_abs-z.ensures.value in
    steep_in_y-axes (half_space c.args.p.now).normal (omega arith) (omega arith)
