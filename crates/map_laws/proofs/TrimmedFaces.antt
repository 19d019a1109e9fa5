-- Lists of right faces that enclose a part of the world: what they are trimmed to is a brush.
use Rattle.std.proofs.Common.{◌≡◌, ◌≤◌, List, [], ◌∷◌, ◌++◌, length, Bool, true, false, not, ◌&&◌, ◌⊎◌, inl, inr, refl, ap, sym, subst, arith}
use Rattle.std.specs.Prelude.{suc}
use Rattle.std.specs.List.{list_any}
use Rattle.algebra.specs.Members.{◌∈◌, here, there, Every}
use Rattle.algebra.specs.Space.{HalfSpace, Homogeneous}
use Rattle.algebra.specs.World.{InCube, world}
use Rattle.exact_geom.specs.Planes.{half_space}
use Rattle.exact_geom.proofs.PlaneLaws.{normal_positive}
use Rattle.trim_laws.specs.Solid.{IsIn, Proper, Bounded}
use Rattle.trim_laws.proofs.Bearing.{in_of_inside}
use Rattle.trim_laws.proofs.Faces.{trim_faces}
use Rattle.trim_laws.proofs.Once.{valid}
use Rattle.cut_laws.proofs.Bound.{trim_bounded}
use Rattle.solid_laws.proofs.FourFaces.{four_faces}
use Rattle.solid_laws.proofs.World.{world_bounded}
use Rattle.uv_lock.specs.declared.texture.Format.{Format}
use Rattle.map_model.specs.Faces.{Face}
use Rattle.map_model.specs.Shape.{FaceOk, FacesOk, half_spaces}
use Rattle.map_model.specs.Below.{Below, IsRight}
use Rattle.map_model.specs.Brushes.{put_if, trimmed, trimmed_from, has_inside, have_one_half_space}
use Rattle.map_model.specs.Meant.{plane_of}
use Rattle.map_model.proofs.Meaning.{trimmed_law}

-- Right faces, whose solid stays in the world.
pub record Encloses (format : Format) (fs : List Face) : Type 0 where
  pub each : Every (FaceOk format) fs
  pub bounded : Bounded (half_spaces fs)
  pub within : (p : Homogeneous) → IsIn (half_spaces fs) p → InCube world p

pub faces_proper : (format : Format) (fs : List Face) → Every (FaceOk format) fs → Proper (half_spaces fs)
faces_proper format [] each f i = elim i [ ]
faces_proper format (g ∷ fs) each f here = normal_positive g.plane (each g here).plane
faces_proper format (g ∷ fs) each f (there i) = faces_proper format fs (λ h j. each h (there j)) f i

pub brush_encloses : (format : Format) (fs : List Face) → FacesOk format fs → Encloses format fs
brush_encloses format fs ok =
    let v = ok.valid in
    record { each = ok.each; bounded = world_bounded (half_spaces fs) v.volume.at (in_of_inside v.volume.inside) v.within; within = v.within }

-- More faces.
halves_left : (fs more : List Face) (h : HalfSpace) → h ∈ half_spaces fs → h ∈ half_spaces (fs ++ more)
halves_left [] more h i = elim i [ ]
halves_left (f ∷ fs) more h here = here
halves_left (f ∷ fs) more h (there i) = there (halves_left fs more h i)

every_more : {A : Type 0} (P : A → Type 0) (xs ys : List A) → Every P xs → Every P ys → Every P (xs ++ ys)
every_more P [] ys p q y i = q y i
every_more P (x ∷ xs) ys p q y here = p x here
every_more P (x ∷ xs) ys p q y (there i) = every_more P xs ys (λ z j. p z (there j)) q y i

pub encloses_more : (format : Format) (fs more : List Face) → Encloses format fs → Every (FaceOk format) more → Encloses format (fs ++ more)
encloses_more format fs more e ok = record {
  each = every_more (FaceOk format) fs more e.each ok;
  bounded = λ m some. let f = e.bounded m some in record { face = f.face; among = halves_left fs more f.face f.among; ahead = f.ahead };
  within = λ p i. e.within p (record { weight = i.weight; all = λ h j. i.all h (halves_left fs more h j) });
}

-- What is kept of the faces is among them.
put_or : (t : Bool) (x : Face) (xs : List Face) (y : Face) → y ∈ put_if t x xs → (y ≡ x) ⊎ (y ∈ xs)
put_or true x xs y here = inl refl
put_or true x xs y (there i) = inr i
put_or false x xs y i = inr i

kept_in : (b : Below) (all earlier rest : List Face) (f : Face) → f ∈ trimmed_from b all earlier rest → f ∈ rest
kept_in b all earlier [] f i = elim i [ ]
kept_in b all earlier (g ∷ rest) f i = elim (put_or (not (list_any (λ h. have_one_half_space h.plane g.plane) earlier) && b.bears (half_spaces all) (half_space g.plane)) g (trimmed_from b all (g ∷ earlier) rest) f i) [
  | inl e ↦ subst (λ x. x ∈ (g ∷ rest)) (sym e) here
  | inr j ↦ there (kept_in b all (g ∷ earlier) rest f j)
]

count_halves : (fs : List Face) → length (half_spaces fs) ≡ length fs
count_halves [] = refl
count_halves (f ∷ fs) = ap suc (count_halves fs)

-- Faces that enclose a part of the world and have a point inside are trimmed to a brush, where these are few.
pub trimmed_ok : (b : Below) (format : Format) (fs : List Face) → IsRight b → Encloses format fs → has_inside b fs ≡ true → length (trimmed b fs) ≤ 128 → FacesOk format (trimmed b fs)
trimmed_ok b format fs right e some few =
    let F = half_spaces fs in
    let proper = faces_proper format fs e.each in
    let inside = (right.is_solid F proper e.bounded).0 some in
    let t = (trim_faces Face plane_of fs (trimmed b fs) (trimmed_law b fs right proper e.bounded)).half_spaces in
    record {
      each = λ f i. e.each f (kept_in b fs [] fs f i);
      valid = valid F (half_spaces (trimmed b fs)) inside.at proper inside.inside e.within t
          (four_faces (half_spaces (trimmed b fs)) (trim_bounded F (half_spaces (trimmed b fs)) inside.at e.bounded proper inside.inside t))
          (omega (arith, count_halves (trimmed b fs)));
    }
