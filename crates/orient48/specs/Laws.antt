-- The laws of motions.
use Rattle.std.specs.Prelude.{◌≡◌, IsTrue, pos}
use Rattle.algebra.specs.Space.{dot}
use Rattle.exact_geom.specs.declared.point.Point.{Point}
use Rattle.orient48.specs.Motions.{Matrix, Motion, is_signed_permutation, transposed, stay, after, back, between, moved_point}

-- The rows have length 1 and stand upright on one another.
pub record IsUpright (m : Matrix) : Type 0 where
  pub xx : dot m.x m.x ≡ pos 1
  pub yy : dot m.y m.y ≡ pos 1
  pub zz : dot m.z m.z ≡ pos 1
  pub xy : dot m.x m.y ≡ pos 0
  pub xz : dot m.x m.z ≡ pos 0
  pub yz : dot m.y m.z ≡ pos 0

-- The matrix keeps lengths and angles.
pub record IsTurn (m : Matrix) : Type 0 where
  pub rows : IsUpright m
  pub columns : IsUpright (transposed m)

-- Motions follow one another in any grouping, and each that keeps lengths has its way back.
pub record Follows : Type 0 where
  pub grouped : (p q r : Motion) → after r (after q p) ≡ after (after r q) p
  pub turns : (m : Matrix) → IsTrue (is_signed_permutation m) → IsTurn m
  pub undone : (r : Motion) → IsTurn r.matrix → after (back r) r ≡ stay
  pub undone_first : (r : Motion) → IsTurn r.matrix → after r (back r) ≡ stay
  pub stays_after : (r : Motion) → after stay r ≡ r
  pub stays_before : (r : Motion) → after r stay ≡ r
  pub points : (p q : Motion) (a : Point) → moved_point (after q p) a ≡ moved_point q (moved_point p a)
  pub leads_on : (g a b : Motion) → IsTurn g.matrix → IsTurn a.matrix → after (between g b) (back (between g a)) ≡ between a b
  pub leads_back : (a b : Motion) → IsTurn a.matrix → IsTurn b.matrix → back (between a b) ≡ between b a
  pub turns_after : (p q : Motion) → IsTurn p.matrix → IsTurn q.matrix → IsTurn (after q p).matrix
  pub turns_back : (r : Motion) → IsTurn r.matrix → IsTurn (back r).matrix
