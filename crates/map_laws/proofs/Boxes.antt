-- Boxes along the axes are valid brushes, where they have a volume and stay in the world.
use Rattle.std.proofs.Common.{◌≡◌, ◌≤◌, List, [], ◌∷◌, map, Bool, true, false, not, inl, inr, refl, ap, sym, ◌∙◌, subst, arith, ℤ, pos, negsuc, ◌+ℤ◌, ◌<ℤ◌, ◌≤ℤ◌}
use Rattle.std.specs.Prelude.{neg_ℤ, unsigned_abs, int_lt, ◌&&◌}
use Rattle.std.specs.List.{list_all}
use Rattle.std.proofs.lemmas.Bool.{and_parts}
use Rattle.std.proofs.lemmas.Int.{ints}
use Rattle.algebra.specs.Members.{◌∈◌, here, there}
use Rattle.algebra.specs.Space.{Vector, HalfSpace, Homogeneous, dot, cross, minus, side, through, SameHalfSpace}
use Rattle.algebra.specs.World.{world}
use Rattle.algebra.proofs.Identities.{vector_by}
use Rattle.exact_geom.specs.declared.point.Point.{Point}
use Rattle.exact_geom.specs.Planes.{ThreePoints, half_space, vector}
use Rattle.trim_laws.specs.Solid.{IsInside, Proper}
use Rattle.trim_laws.specs.Trim.{Bears, Trims, keeps, ends}
use Rattle.trim_laws.specs.Valid.{Valid, NoVolume}
use Rattle.vertex_laws.specs.Cube.{wall}
use Rattle.solid_brush.proofs.Boxed.{in_cube_or_not}
use Rattle.map_model.specs.Motions.{vector_at}
use Rattle.map_model.specs.Below.{Below, IsRight}
use Rattle.map_model.specs.Brushes.{box_planes, moved_by, is_same_half_space}
use Rattle.map_model.proofs.Meaning.{same_half_space}
use Rattle.map_model.proofs.Members.{decides_less}
use Rattle.map_laws.proofs.Skeleton.{not_both}

-- The walls of a box from a to b. --------------------------------------------------------------------------------------------------

abbrev low_x : ℤ → HalfSpace
low_x c = wall (negsuc 0) (pos 0) (pos 0) (neg_ℤ c)

abbrev low_y : ℤ → HalfSpace
low_y c = wall (pos 0) (negsuc 0) (pos 0) (neg_ℤ c)

abbrev low_z : ℤ → HalfSpace
low_z c = wall (pos 0) (pos 0) (negsuc 0) (neg_ℤ c)

abbrev high_x : ℤ → HalfSpace
high_x c = wall (pos 1) (pos 0) (pos 0) c

abbrev high_y : ℤ → HalfSpace
high_y c = wall (pos 0) (pos 1) (pos 0) c

abbrev high_z : ℤ → HalfSpace
high_z c = wall (pos 0) (pos 0) (pos 1) c

abbrev pub box : Point → Point → List HalfSpace
box a b = low_x a.x ∷ low_y a.y ∷ low_z a.z ∷ high_z b.z ∷ high_y b.y ∷ high_x b.x ∷ []

-- Two vectors along axes give the half-space.
half_by : (t : ThreePoints) (u w : Vector) → minus (vector t.p0) (vector t.p1) ≡ u → minus (vector t.p2) (vector t.p1) ≡ w → half_space t ≡ record { normal = cross u w; distance = dot (cross u w) (vector t.p1) }
unfolding through
half_by t u w e f = λ i. record { normal = cross (e i) (f i); distance = dot (cross (e i) (f i)) (vector t.p1) }

module _ (a : Point) where
  low_x_is : half_space (record { p0 = a; p1 = moved_by (pos 0) (pos 1) (pos 0) a; p2 = moved_by (pos 0) (pos 0) (pos 1) a }) ≡ low_x a.x
  unfolding minus cross dot
  low_x_is =
      half_by (record { p0 = a; p1 = moved_by (pos 0) (pos 1) (pos 0) a; p2 = moved_by (pos 0) (pos 0) (pos 1) a }) (vector_at (pos 0) (negsuc 0) (pos 0)) (vector_at (pos 0) (negsuc 0) (pos 1))
      (vector_by (omega (arith, ints)) (omega (arith, ints)) (omega (arith, ints))) (vector_by (omega (arith, ints)) (omega (arith, ints)) (omega (arith, ints)))
      ∙ ap (wall (negsuc 0) (pos 0) (pos 0)) (omega (arith, ints))

  low_y_is : half_space (record { p0 = a; p1 = moved_by (pos 0) (pos 0) (pos 1) a; p2 = moved_by (pos 1) (pos 0) (pos 0) a }) ≡ low_y a.y
  unfolding minus cross dot
  low_y_is =
      half_by (record { p0 = a; p1 = moved_by (pos 0) (pos 0) (pos 1) a; p2 = moved_by (pos 1) (pos 0) (pos 0) a }) (vector_at (pos 0) (pos 0) (negsuc 0)) (vector_at (pos 1) (pos 0) (negsuc 0))
      (vector_by (omega (arith, ints)) (omega (arith, ints)) (omega (arith, ints))) (vector_by (omega (arith, ints)) (omega (arith, ints)) (omega (arith, ints)))
      ∙ ap (wall (pos 0) (negsuc 0) (pos 0)) (omega (arith, ints))

  low_z_is : half_space (record { p0 = a; p1 = moved_by (pos 1) (pos 0) (pos 0) a; p2 = moved_by (pos 0) (pos 1) (pos 0) a }) ≡ low_z a.z
  unfolding minus cross dot
  low_z_is =
      half_by (record { p0 = a; p1 = moved_by (pos 1) (pos 0) (pos 0) a; p2 = moved_by (pos 0) (pos 1) (pos 0) a }) (vector_at (negsuc 0) (pos 0) (pos 0)) (vector_at (negsuc 0) (pos 1) (pos 0))
      (vector_by (omega (arith, ints)) (omega (arith, ints)) (omega (arith, ints))) (vector_by (omega (arith, ints)) (omega (arith, ints)) (omega (arith, ints)))
      ∙ ap (wall (pos 0) (pos 0) (negsuc 0)) (omega (arith, ints))

  high_z_is : half_space (record { p0 = a; p1 = moved_by (pos 0) (pos 1) (pos 0) a; p2 = moved_by (pos 1) (pos 0) (pos 0) a }) ≡ high_z a.z
  unfolding minus cross dot
  high_z_is =
      half_by (record { p0 = a; p1 = moved_by (pos 0) (pos 1) (pos 0) a; p2 = moved_by (pos 1) (pos 0) (pos 0) a }) (vector_at (pos 0) (negsuc 0) (pos 0)) (vector_at (pos 1) (negsuc 0) (pos 0))
      (vector_by (omega (arith, ints)) (omega (arith, ints)) (omega (arith, ints))) (vector_by (omega (arith, ints)) (omega (arith, ints)) (omega (arith, ints)))
      ∙ ap (wall (pos 0) (pos 0) (pos 1)) (omega (arith, ints))

  high_y_is : half_space (record { p0 = a; p1 = moved_by (pos 1) (pos 0) (pos 0) a; p2 = moved_by (pos 0) (pos 0) (pos 1) a }) ≡ high_y a.y
  unfolding minus cross dot
  high_y_is =
      half_by (record { p0 = a; p1 = moved_by (pos 1) (pos 0) (pos 0) a; p2 = moved_by (pos 0) (pos 0) (pos 1) a }) (vector_at (negsuc 0) (pos 0) (pos 0)) (vector_at (negsuc 0) (pos 0) (pos 1))
      (vector_by (omega (arith, ints)) (omega (arith, ints)) (omega (arith, ints))) (vector_by (omega (arith, ints)) (omega (arith, ints)) (omega (arith, ints)))
      ∙ ap (wall (pos 0) (pos 1) (pos 0)) (omega (arith, ints))

  high_x_is : half_space (record { p0 = a; p1 = moved_by (pos 0) (pos 0) (pos 1) a; p2 = moved_by (pos 0) (pos 1) (pos 0) a }) ≡ high_x a.x
  unfolding minus cross dot
  high_x_is =
      half_by (record { p0 = a; p1 = moved_by (pos 0) (pos 0) (pos 1) a; p2 = moved_by (pos 0) (pos 1) (pos 0) a }) (vector_at (pos 0) (pos 0) (negsuc 0)) (vector_at (pos 0) (pos 1) (negsuc 0))
      (vector_by (omega (arith, ints)) (omega (arith, ints)) (omega (arith, ints))) (vector_by (omega (arith, ints)) (omega (arith, ints)) (omega (arith, ints)))
      ∙ ap (wall (pos 1) (pos 0) (pos 0)) (omega (arith, ints))

pub box_is : (a b : Point) → map half_space (box_planes a b) ≡ box a b
box_is a b = λ i. low_x_is a i ∷ low_y_is a i ∷ low_z_is a i ∷ high_z_is b i ∷ high_y_is b i ∷ high_x_is b i ∷ []

-- The normals of walls.
abbrev pub normals : List Vector
normals = vector_at (negsuc 0) (pos 0) (pos 0) ∷ vector_at (pos 0) (negsuc 0) (pos 0) ∷ vector_at (pos 0) (pos 0) (negsuc 0) ∷ vector_at (pos 0) (pos 0) (pos 1) ∷ vector_at (pos 0) (pos 1) (pos 0) ∷ vector_at (pos 1) (pos 0) (pos 0) ∷ []

-- A plane with a wall for its half-space.
pub record IsWall (t : ThreePoints) : Type 0 where
  pub normal : Vector
  pub along : normal ∈ normals
  pub is : (half_space t).normal ≡ normal

pub box_walls : (a b : Point) (t : ThreePoints) → t ∈ box_planes a b → IsWall t
box_walls a b t here = record { normal = vector_at (negsuc 0) (pos 0) (pos 0); along = here; is = ap (λ h. h.normal) (low_x_is a) }
box_walls a b t (there here) = record { normal = vector_at (pos 0) (negsuc 0) (pos 0); along = there here; is = ap (λ h. h.normal) (low_y_is a) }
box_walls a b t (there (there here)) = record { normal = vector_at (pos 0) (pos 0) (negsuc 0); along = there (there here); is = ap (λ h. h.normal) (low_z_is a) }
box_walls a b t (there (there (there here))) = record { normal = vector_at (pos 0) (pos 0) (pos 1); along = there (there (there here)); is = ap (λ h. h.normal) (high_z_is b) }
box_walls a b t (there (there (there (there here)))) = record { normal = vector_at (pos 0) (pos 1) (pos 0); along = there (there (there (there here))); is = ap (λ h. h.normal) (high_y_is b) }
box_walls a b t (there (there (there (there (there here))))) = record { normal = vector_at (pos 1) (pos 0) (pos 0); along = there (there (there (there (there here)))); is = ap (λ h. h.normal) (high_x_is b) }
box_walls a b t (there (there (there (there (there (there i)))))) = elim i [ ]

-- Points at the middle of the box and of its faces, with weight 2. ------------------------------------------------------------------

abbrev halfway : ℤ → ℤ → ℤ → Homogeneous
halfway x y z = record { vector = vector_at x y z; weight = pos 2 }

module _ (c x y z : ℤ) where
  behind_low_x : (c +ℤ c) <ℤ x → side (low_x c) (halfway x y z) <ℤ pos 0
  unfolding side dot
  behind_low_x h = omega (arith, ints)

  behind_low_y : (c +ℤ c) <ℤ y → side (low_y c) (halfway x y z) <ℤ pos 0
  unfolding side dot
  behind_low_y h = omega (arith, ints)

  behind_low_z : (c +ℤ c) <ℤ z → side (low_z c) (halfway x y z) <ℤ pos 0
  unfolding side dot
  behind_low_z h = omega (arith, ints)

  behind_high_x : x <ℤ (c +ℤ c) → side (high_x c) (halfway x y z) <ℤ pos 0
  unfolding side dot
  behind_high_x h = omega (arith, ints)

  behind_high_y : y <ℤ (c +ℤ c) → side (high_y c) (halfway x y z) <ℤ pos 0
  unfolding side dot
  behind_high_y h = omega (arith, ints)

  behind_high_z : z <ℤ (c +ℤ c) → side (high_z c) (halfway x y z) <ℤ pos 0
  unfolding side dot
  behind_high_z h = omega (arith, ints)

  on_low_x : x ≡ c +ℤ c → side (low_x c) (halfway x y z) ≡ pos 0
  unfolding side dot
  on_low_x h = omega (arith, ints)

  on_low_y : y ≡ c +ℤ c → side (low_y c) (halfway x y z) ≡ pos 0
  unfolding side dot
  on_low_y h = omega (arith, ints)

  on_low_z : z ≡ c +ℤ c → side (low_z c) (halfway x y z) ≡ pos 0
  unfolding side dot
  on_low_z h = omega (arith, ints)

  on_high_x : x ≡ c +ℤ c → side (high_x c) (halfway x y z) ≡ pos 0
  unfolding side dot
  on_high_x h = omega (arith, ints)

  on_high_y : y ≡ c +ℤ c → side (high_y c) (halfway x y z) ≡ pos 0
  unfolding side dot
  on_high_y h = omega (arith, ints)

  on_high_z : z ≡ c +ℤ c → side (high_z c) (halfway x y z) ≡ pos 0
  unfolding side dot
  on_high_z h = omega (arith, ints)

-- The six walls are behind at a point, or the face f is the same half-space.
itself_same : (f : HalfSpace) → SameHalfSpace f f
itself_same f = record { onto = λ p w h. h; back = λ p w h. h }

two_positive : pos 0 <ℤ pos 2
two_positive = omega (arith, ints)

one_positive : pos 0 <ℤ pos 1
one_positive = omega (arith, ints)

-- What is asked of the coordinates x, y, z, so that the point is behind the walls but those that are f.
record Behind (a b : Point) (f : HalfSpace) (x y z : ℤ) : Type 0 where
  low_x : ¬ (SameHalfSpace f (low_x a.x)) → (a.x +ℤ a.x) <ℤ x
  low_y : ¬ (SameHalfSpace f (low_y a.y)) → (a.y +ℤ a.y) <ℤ y
  low_z : ¬ (SameHalfSpace f (low_z a.z)) → (a.z +ℤ a.z) <ℤ z
  high_z : ¬ (SameHalfSpace f (high_z b.z)) → z <ℤ (b.z +ℤ b.z)
  high_y : ¬ (SameHalfSpace f (high_y b.y)) → y <ℤ (b.y +ℤ b.y)
  high_x : ¬ (SameHalfSpace f (high_x b.x)) → x <ℤ (b.x +ℤ b.x)

behind : (a b : Point) (f : HalfSpace) (x y z : ℤ) → Behind a b f x y z → (g : HalfSpace) → g ∈ box a b → ¬ (SameHalfSpace f g) → side g (halfway x y z) <ℤ pos 0
behind a b f x y z h g here ne = behind_low_x a.x x y z (h.low_x ne)
behind a b f x y z h g (there here) ne = behind_low_y a.y x y z (h.low_y ne)
behind a b f x y z h g (there (there here)) ne = behind_low_z a.z x y z (h.low_z ne)
behind a b f x y z h g (there (there (there here))) ne = behind_high_z b.z x y z (h.high_z ne)
behind a b f x y z h g (there (there (there (there here)))) ne = behind_high_y b.y x y z (h.high_y ne)
behind a b f x y z h g (there (there (there (there (there here))))) ne = behind_high_x b.x x y z (h.high_x ne)
behind a b f x y z h g (there (there (there (there (there (there i)))))) ne = elim i [ ]

bears_by : (a b : Point) (f : HalfSpace) (x y z : ℤ) → side f (halfway x y z) ≡ pos 0 → Behind a b f x y z → Bears (box a b) f
bears_by a b f x y z on h = record { at = halfway x y z; weight = two_positive; on = on; others = behind a b f x y z h }

-- Each face bears, and no two are one half-space. ------------------------------------------------------------------------------------

-- By numbers: g has a normal, and another half-space than f.
abbrev is_apart : HalfSpace → HalfSpace → Bool
is_apart f g = int_lt (pos 0) (dot g.normal g.normal) && not (is_same_half_space g f)

differ : (f g : HalfSpace) → int_lt (pos 0) (dot f.normal f.normal) ≡ true → is_apart f g ≡ true → ¬ (SameHalfSpace g f)
differ f g p e h =
    let k = and_parts (int_lt (pos 0) (dot g.normal g.normal)) (not (is_same_half_space g f)) e in
    clash (is_same_half_space g f) ((same_half_space g f ((decides_less (pos 0) (dot g.normal g.normal)).0 k.0) ((decides_less (pos 0) (dot f.normal f.normal)).0 p)).1 h) k.1
  where
    clash : (b : Bool) → b ≡ true → not b ≡ true → ⊥
    clash b e f = cc

none_same : (f : HalfSpace) → int_lt (pos 0) (dot f.normal f.normal) ≡ true → (earlier : List HalfSpace) → list_all (is_apart f) earlier ≡ true → (g : HalfSpace) → g ∈ earlier → ¬ (SameHalfSpace g f)
none_same f p [] e g i = elim i [ ]
none_same f p (x ∷ xs) e g here = differ f x p (and_parts (is_apart f x) (list_all (is_apart f) xs) e).0
none_same f p (x ∷ xs) e g (there i) = none_same f p xs (and_parts (is_apart f x) (list_all (is_apart f) xs) e).1 g i

-- The middle is near.
pub within_reach : (z : ℤ) → unsigned_abs z ≤ 4352 → (negsuc 4351 ≤ℤ z) × (z ≤ℤ pos 4352)
within_reach (pos n) h = (omega (arith, ints), omega (arith, ints))
within_reach (negsuc n) h = (omega (arith, ints), omega (arith, ints))

middle_in_reach : (l h : ℤ) → unsigned_abs l ≤ 4352 → unsigned_abs h ≤ 4352 → (negsuc 8703 ≤ℤ (l +ℤ h)) × ((l +ℤ h) ≤ℤ pos 8704)
middle_in_reach l h p q =
    let u = within_reach l p in
    let v = within_reach h q in
    (omega (arith, ints, u.0, v.0), omega (arith, ints, u.1, v.1))

pub record IsNear (a : Point) : Type 0 where
  pub x : unsigned_abs a.x ≤ 4352
  pub y : unsigned_abs a.y ≤ 4352
  pub z : unsigned_abs a.z ≤ 4352

module _ (a b : Point) (x : a.x <ℤ b.x) (y : a.y <ℤ b.y) (z : a.z <ℤ b.z) where
  first_half : (l h : ℤ) → l <ℤ h → (l +ℤ l) <ℤ (l +ℤ h)
  first_half l h k = omega (arith, ints)

  second_half : (l h : ℤ) → l <ℤ h → (l +ℤ h) <ℤ (h +ℤ h)
  second_half l h k = omega (arith, ints)

  whole_way : (l h : ℤ) → l <ℤ h → (l +ℤ l) <ℤ (h +ℤ h)
  whole_way l h k = omega (arith, ints)

  abbrev mx : ℤ
  mx = a.x +ℤ b.x

  abbrev my : ℤ
  my = a.y +ℤ b.y

  abbrev mz : ℤ
  mz = a.z +ℤ b.z

  inside : IsInside (box a b) (halfway mx my mz)
  inside = record { weight = two_positive; all = all }
    where
      all : (g : HalfSpace) → g ∈ box a b → side g (halfway (a.x +ℤ b.x) (a.y +ℤ b.y) (a.z +ℤ b.z)) <ℤ pos 0
      all g here = behind_low_x a.x (a.x +ℤ b.x) (a.y +ℤ b.y) (a.z +ℤ b.z) (first_half a.x b.x x)
      all g (there here) = behind_low_y a.y (a.x +ℤ b.x) (a.y +ℤ b.y) (a.z +ℤ b.z) (first_half a.y b.y y)
      all g (there (there here)) = behind_low_z a.z (a.x +ℤ b.x) (a.y +ℤ b.y) (a.z +ℤ b.z) (first_half a.z b.z z)
      all g (there (there (there here))) = behind_high_z b.z (a.x +ℤ b.x) (a.y +ℤ b.y) (a.z +ℤ b.z) (second_half a.z b.z z)
      all g (there (there (there (there here)))) = behind_high_y b.y (a.x +ℤ b.x) (a.y +ℤ b.y) (a.z +ℤ b.z) (second_half a.y b.y y)
      all g (there (there (there (there (there here))))) = behind_high_x b.x (a.x +ℤ b.x) (a.y +ℤ b.y) (a.z +ℤ b.z) (second_half a.x b.x x)
      all g (there (there (there (there (there (there i)))))) = elim i [ ]

  bears_low_x : Bears (box a b) (low_x a.x)
  bears_low_x = bears_by a b (low_x a.x) (a.x +ℤ a.x) my mz (on_low_x a.x (a.x +ℤ a.x) my mz refl) (record {
    low_x = λ n. absurd (n (itself_same (low_x a.x)));
    low_y = λ n. first_half a.y b.y y;
    low_z = λ n. first_half a.z b.z z;
    high_z = λ n. second_half a.z b.z z;
    high_y = λ n. second_half a.y b.y y;
    high_x = λ n. whole_way a.x b.x x;
  })

  bears_low_y : Bears (box a b) (low_y a.y)
  bears_low_y = bears_by a b (low_y a.y) mx (a.y +ℤ a.y) mz (on_low_y a.y mx (a.y +ℤ a.y) mz refl) (record {
    low_x = λ n. first_half a.x b.x x;
    low_y = λ n. absurd (n (itself_same (low_y a.y)));
    low_z = λ n. first_half a.z b.z z;
    high_z = λ n. second_half a.z b.z z;
    high_y = λ n. whole_way a.y b.y y;
    high_x = λ n. second_half a.x b.x x;
  })

  bears_low_z : Bears (box a b) (low_z a.z)
  bears_low_z = bears_by a b (low_z a.z) mx my (a.z +ℤ a.z) (on_low_z a.z mx my (a.z +ℤ a.z) refl) (record {
    low_x = λ n. first_half a.x b.x x;
    low_y = λ n. first_half a.y b.y y;
    low_z = λ n. absurd (n (itself_same (low_z a.z)));
    high_z = λ n. whole_way a.z b.z z;
    high_y = λ n. second_half a.y b.y y;
    high_x = λ n. second_half a.x b.x x;
  })

  bears_high_z : Bears (box a b) (high_z b.z)
  bears_high_z = bears_by a b (high_z b.z) mx my (b.z +ℤ b.z) (on_high_z b.z mx my (b.z +ℤ b.z) refl) (record {
    low_x = λ n. first_half a.x b.x x;
    low_y = λ n. first_half a.y b.y y;
    low_z = λ n. whole_way a.z b.z z;
    high_z = λ n. absurd (n (itself_same (high_z b.z)));
    high_y = λ n. second_half a.y b.y y;
    high_x = λ n. second_half a.x b.x x;
  })

  bears_high_y : Bears (box a b) (high_y b.y)
  bears_high_y = bears_by a b (high_y b.y) mx (b.y +ℤ b.y) mz (on_high_y b.y mx (b.y +ℤ b.y) mz refl) (record {
    low_x = λ n. first_half a.x b.x x;
    low_y = λ n. whole_way a.y b.y y;
    low_z = λ n. first_half a.z b.z z;
    high_z = λ n. second_half a.z b.z z;
    high_y = λ n. absurd (n (itself_same (high_y b.y)));
    high_x = λ n. second_half a.x b.x x;
  })

  bears_high_x : Bears (box a b) (high_x b.x)
  bears_high_x = bears_by a b (high_x b.x) (b.x +ℤ b.x) my mz (on_high_x b.x (b.x +ℤ b.x) my mz refl) (record {
    low_x = λ n. whole_way a.x b.x x;
    low_y = λ n. first_half a.y b.y y;
    low_z = λ n. first_half a.z b.z z;
    high_z = λ n. second_half a.z b.z z;
    high_y = λ n. second_half a.y b.y y;
    high_x = λ n. absurd (n (itself_same (high_x b.x)));
  })

  pub trim : Trims (box a b) [] (box a b) (box a b)
  unfolding dot cross
  trim =
      keeps (record { first = λ g i. elim i [ ]; bears = bears_low_x })
      (keeps (record { first = none_same (low_y a.y) refl (low_x a.x ∷ []) refl; bears = bears_low_y })
      (keeps (record { first = none_same (low_z a.z) refl (low_y a.y ∷ low_x a.x ∷ []) refl; bears = bears_low_z })
      (keeps (record { first = none_same (high_z b.z) refl (low_z a.z ∷ low_y a.y ∷ low_x a.x ∷ []) refl; bears = bears_high_z })
      (keeps (record { first = none_same (high_y b.y) refl (high_z b.z ∷ low_z a.z ∷ low_y a.y ∷ low_x a.x ∷ []) refl; bears = bears_high_y })
      (keeps (record { first = none_same (high_x b.x) refl (high_y b.y ∷ high_z b.z ∷ low_z a.z ∷ low_y a.y ∷ low_x a.x ∷ []) refl; bears = bears_high_x })
      ends)))))

  pub proper : Proper (box a b)
  unfolding dot
  proper f here = one_positive
  proper f (there here) = one_positive
  proper f (there (there here)) = one_positive
  proper f (there (there (there here))) = one_positive
  proper f (there (there (there (there here)))) = one_positive
  proper f (there (there (there (there (there here))))) = one_positive
  proper f (there (there (there (there (there (there i)))))) = elim i [ ]

  pub some_volume : IsNear a → IsNear b → ¬ (NoVolume (box a b))
  some_volume p q none =
      let u = middle_in_reach a.x b.x p.x q.x in
      let v = middle_in_reach a.y b.y p.y q.y in
      let w = middle_in_reach a.z b.z p.z q.z in
      none (halfway mx my mz) (record { left = u.0; right = u.1; near = v.0; far = v.1; bottom = w.0; top = w.1 }) inside

  -- A box that no point of which is outside the world is a valid brush.
  pub box_valid : (t : Below) → IsRight t → IsNear a → IsNear b → t.leaves_world (map half_space (box_planes a b)) ≡ false → Valid (map half_space (box_planes a b))
  box_valid t right p q stays = subst Valid (sym (box_is a b)) (record {
    trimmed = trim;
    least = omega arith;
    most = omega arith;
    volume = record { at = halfway mx my mz; inside = inside };
    within = λ v i. elim (in_cube_or_not world v) [
      | inl k ↦ k
      | inr n ↦ absurd (not_both (t.leaves_world (box a b))
          ((right.leaves_world (box a b) proper (inr (some_volume p q))).1 (record { at = v; is_in = i; outside = n })) (sym (ap t.leaves_world (box_is a b)) ∙ stays))
    ];
  })
