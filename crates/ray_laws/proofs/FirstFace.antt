-- The first face that has a point on its plane.
use Rattle.std.proofs.Common.{◌≡◌, ◌≢◌, ℕ, suc, ◌+◌, Bool, true, false, cond, List, [], ◌∷◌, ◌++◌, length, Option, Some, None, option_map, ℤ, pos, ◌<ℤ◌, arith, refl, sym, ap, ◌∙◌}
use Rattle.std.specs.List.{find, enumerate_from}
use Rattle.std.specs.Ordering.{int_eq}
use Rattle.std.proofs.lemmas.Int.{ints}
use Rattle.std.proofs.lemmas.Bool.Decides.{Decides-int_eq}
use Rattle.algebra.specs.Members.{here, there, Every}
use Rattle.algebra.specs.Space.{HalfSpace, Homogeneous, side}
use Rattle.exact_geom.specs.Planes.{half_space}
use Rattle.map_model.specs.Faces.{Face}
use Rattle.map_model.specs.Shape.{half_spaces}
use Rattle.ray_laws.specs.Laws.{FaceLaw}

module _ (p : Homogeneous) where
  abbrev is_on : ℕ × Face → Bool
  is_on f = int_eq (side (half_space f.1.plane) p) (pos 0)

  abbrev first_from : ℕ → List Face → Option ℕ
  first_from n fs = option_map (λ f. f.0) (find is_on (enumerate_from n fs))

  off_test : (f : HalfSpace) → side f p ≢ pos 0 → int_eq (side f p) (pos 0) ≡ false
  off_test f ne = by (int_eq (side f p) (pos 0)) refl
    where
      by : (t : Bool) → int_eq (side f p) (pos 0) ≡ t → t ≡ false
      by true e = absurd (ne ((Decides-int_eq (side f p) (pos 0)).0 e))
      by false e = refl

  abbrev either : Bool → ℕ → Option (ℕ × Face) → Face → Option ℕ
  either t n later f = option_map (λ f. f.0) (cond t (Some (n, f)) later)

  pub none_from : (n : ℕ) (fs : List Face) → Every (λ f. side f p ≢ pos 0) (half_spaces fs) → first_from n fs ≡ None
  none_from n [] h = refl
  none_from n (f ∷ fs) h =
      ap (λ t. either t n (find is_on (enumerate_from (n + 1) fs)) f) (off_test (half_space f.plane) (h (half_space f.plane) here))
      ∙ none_from (n + 1) fs (λ g i. h g (there i))

  first_of : List HalfSpace → HalfSpace → List HalfSpace → HalfSpace
  first_of [] g after = g
  first_of (h ∷ before) g after = h

  pub found_from : (n : ℕ) (fs : List Face) (before after : List HalfSpace) (face : HalfSpace) → half_spaces fs ≡ before ++ face ∷ after →
      side face p ≡ pos 0 → Every (λ f. side f p ≢ pos 0) before → first_from n fs ≡ Some (n + length before)
  found_from n [] [] after face e on off = absurd (cc)
  found_from n [] (g ∷ before) after face e on off = absurd (cc)
  found_from n (f ∷ fs) [] after face e on off =
      let same : half_space f.plane ≡ face = cc in
      let z : n ≡ n + 0 = omega arith in
      ap (λ t. either t n (find is_on (enumerate_from (n + 1) fs)) f) ((Decides-int_eq (side (half_space f.plane) p) (pos 0)).1 (ap (λ g. side g p) same ∙ on)) ∙ ap Some z
  found_from n (f ∷ fs) (g ∷ before) after face e on off =
      let same : half_space f.plane ≡ g = cc in
      let rest : half_spaces fs ≡ before ++ face ∷ after = cc in
      let z : (n + 1) + length before ≡ n + suc (length before) = omega arith in
      ap (λ t. either t n (find is_on (enumerate_from (n + 1) fs)) f) (off_test (half_space f.plane) (λ k. off g here (ap (λ h. side h p) (sym same) ∙ k)))
      ∙ found_from (n + 1) fs before after face rest on (λ h i. off h (there i)) ∙ ap Some z

behind : (z : ℤ) → z <ℤ pos 0 → z ≢ pos 0
behind z l e = omega (arith, ints)

none_added : (n : ℕ) → 0 + n ≡ n
none_added n = omega arith

pub face_is : FaceLaw
face_is fs p None h = none_from p 0 fs (λ f i. behind (side f p) (h.all f i))
face_is fs p (Some k) h = found_from p 0 fs h.before h.after h.face h.parts h.on h.off ∙ ap Some (none_added (length h.before) ∙ h.place)
