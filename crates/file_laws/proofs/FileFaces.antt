-- A valid brush is judged to be itself.
use Rattle.std.proofs.Common.{◌≡◌, ℕ, ◌≤◌, true, false, cond, not, ◌&&◌, nat_lt, List, [], ◌∷◌, map, length, refl, ap, sym, ◌∙◌, subst, arith, pos, ℤ, ◌<ℤ◌, ◌*ℤ◌, inl}
use Rattle.std.proofs.lemmas.Int.{ints}
use Rattle.std.specs.Prelude.{Ok, Err, int_lt}
use Rattle.std.specs.Ordering.{int_eq}
use Rattle.std.specs.List.{list_all, list_any}
use Rattle.std.proofs.lemmas.Bool.{and_parts, and_from, false_from_ne_true, cond-false, le-ltb}
use Rattle.std.proofs.lemmas.Bool.Decides.{Decides-int_eq}
use Rattle.std.proofs.lemmas.List.{length-map}
use Rattle.algebra.specs.Members.{◌∈◌, here, there, Every}
use Rattle.algebra.specs.Space.{HalfSpace, SameHalfSpace, dot, cross}
use Rattle.exact_geom.specs.Planes.{half_space}
use Rattle.exact_geom.proofs.PlaneLaws.{normal_positive}
use Rattle.trim_laws.specs.Solid.{Proper, Bounded}
use Rattle.trim_laws.specs.SameHalfSpace.{SameByNumbers}
use Rattle.trim_laws.specs.Trim.{IsKept, Trims, ends, keeps, drops}
use Rattle.trim_laws.specs.Valid.{Valid, is_no_volume, no_volume}
use Rattle.trim_laws.proofs.SameHalfSpace.{same_of_numbers}
use Rattle.trim_laws.proofs.Cause.{no_cause}
use Rattle.trim_laws.proofs.Steps.{below_le}
use Rattle.solid_laws.proofs.World.{world_bounded}
use Rattle.uv_lock.specs.declared.texture.Format.{Format}
use Rattle.map_text.specs.declared.document.Reason.TheVariants.{Volume, World, Faces as TooManyFaces}
use Rattle.map_model.specs.Faces.{Face}
use Rattle.map_model.specs.Shape.{FaceOk, FacesOk, half_spaces}
use Rattle.map_model.specs.Below.{Below, IsRight}
use Rattle.map_model.specs.Brushes.{is_same_half_space, have_one_half_space, trimmed_from, trimmed, put_if}
use Rattle.map_model.specs.Judged.{faces_judged}
use Rattle.file_laws.proofs.Lists.{in_map, of_map, none_of}

-- ---- half-spaces that are one by numbers

same_by_test : (f g : HalfSpace) → is_same_half_space f g ≡ true → SameByNumbers f g
same_by_test f g h =
    let a = and_parts (int_eq (dot (cross f.normal g.normal) (cross f.normal g.normal)) (pos 0)) (int_lt (pos 0) (dot f.normal g.normal) && int_eq (f.distance *ℤ dot g.normal g.normal) (g.distance *ℤ dot f.normal g.normal)) h in
    let b = and_parts (int_lt (pos 0) (dot f.normal g.normal)) (int_eq (f.distance *ℤ dot g.normal g.normal) (g.distance *ℤ dot f.normal g.normal)) a.1 in
    record {
      parallel = (Decides-int_eq (dot (cross f.normal g.normal) (cross f.normal g.normal)) (pos 0)).0 a.0;
      along = positive (dot f.normal g.normal) b.0;
      distance = (Decides-int_eq (f.distance *ℤ dot g.normal g.normal) (g.distance *ℤ dot f.normal g.normal)).0 b.1;
    }
  where
    positive : (z : ℤ) → int_lt (pos 0) z ≡ true → pos 0 <ℤ z
    positive z h = omega (arith, ints)

-- ---- the trimmed list of a valid one

-- Each of the faces is kept.
AllKept : (F earlier rest : List HalfSpace) → Type 0
AllKept F earlier [] = Unit {0}
AllKept F earlier (f ∷ rest) = IsKept F earlier f × AllKept F (f ∷ earlier) rest

no_longer : {F earlier rest kept : List HalfSpace} → Trims F earlier rest kept → length kept ≤ length rest
no_longer ends = omega arith
no_longer (keeps k t) = let h = no_longer t in omega arith
no_longer (drops k t) = let h = no_longer t in omega arith

all_kept : {F earlier rest kept : List HalfSpace} → Trims F earlier rest kept → kept ≡ rest → AllKept F earlier rest
unfolding AllKept
all_kept ends e = tt
all_kept (keeps k t) e = (k, all_kept t cc)
all_kept (drops k t) e = absurd (let h = no_longer t in let l = ap length e in omega arith)

module _ (b : Below) (right : IsRight b) (all : List Face) (proper : Proper (half_spaces all)) (bounded : Bounded (half_spaces all)) where
  first_of_its : (earlier : List Face) (f : Face) → ((g : Face) → g ∈ earlier → g ∈ all) → f ∈ all →
      ((g : HalfSpace) → g ∈ half_spaces earlier → ¬ (SameHalfSpace g (half_space f.plane))) → list_any (λ g. have_one_half_space g.plane f.plane) earlier ≡ false
  first_of_its earlier f sub i first =
      none_of (λ g. have_one_half_space g.plane f.plane) earlier
      (λ g j. false_from_ne_true (have_one_half_space g.plane f.plane) (λ h.
      first (half_space g.plane) (in_map (λ x. half_space x.plane) earlier g j)
      (same_of_numbers (half_space g.plane) (half_space f.plane) (proper (half_space f.plane) (in_map (λ x. half_space x.plane) all f i))
      (same_by_test (half_space g.plane) (half_space f.plane) h))))

  kept_all : (earlier rest : List Face) → ((g : Face) → g ∈ earlier → g ∈ all) → ((g : Face) → g ∈ rest → g ∈ all) →
      AllKept (half_spaces all) (half_spaces earlier) (half_spaces rest) → trimmed_from b all earlier rest ≡ rest
  unfolding AllKept
  kept_all earlier [] se sr k = refl
  kept_all earlier (f ∷ rest) se sr k =
      ap (λ t. put_if t f (trimmed_from b all (f ∷ earlier) rest))
      (and_from (not (list_any (λ g. have_one_half_space g.plane f.plane) earlier)) (b.bears (half_spaces all) (half_space f.plane))
      (ap not (first_of_its earlier f se (sr f here) k.0.first))
      ((right.bears (half_spaces all) (half_space f.plane) proper bounded (in_map (λ x. half_space x.plane) all f (sr f here))).1 k.0.bears))
      ∙ ap (λ l. f ∷ l) (kept_all (f ∷ earlier) rest (more f earlier se (sr f here)) (λ g i. sr g (there i)) k.1)
    where
      more : (f : Face) (earlier : List Face) → ((g : Face) → g ∈ earlier → g ∈ all) → f ∈ all → (g : Face) → g ∈ (f ∷ earlier) → g ∈ all
      more f earlier se i g here = i
      more f earlier se i g (there j) = se g j

proper_faces : (format : Format) (fs : List Face) → Every (FaceOk format) fs → Proper (half_spaces fs)
proper_faces format fs each h i =
    let r = of_map (λ f. half_space f.plane) fs h i in
    subst (λ (k : HalfSpace). pos 0 <ℤ dot k.normal k.normal) (sym r.2) (normal_positive r.0.plane (each r.0 r.1).plane)

bounded_faces : (F : List HalfSpace) → Valid F → Bounded F
bounded_faces F valid =
    let o = valid.volume in
    world_bounded F o.at (record { weight = o.inside.weight; all = λ f m. below_le (o.inside.all f m) }) valid.within

pub judged_again : (b : Below) → IsRight b → (format : Format) (fs : List Face) → FacesOk format fs → faces_judged b fs ≡ Ok fs
judged_again b right format fs ok =
    let proper = proper_faces format fs ok.each in
    let bounded = bounded_faces (half_spaces fs) ok.valid in
    let same : trimmed b fs ≡ fs = kept_all b right fs proper bounded [] fs (λ g i. elim i [ ]) (λ g i. i) (all_kept ok.valid.trimmed refl) in
    let short : length fs ≤ 128 = subst (λ (k : ℕ). k ≤ 128) (length-map fs (λ f. half_space f.plane)) ok.valid.most in
    cond-false (b.is_empty (half_spaces fs)) (Err Volume) (cond (b.leaves_world (half_spaces fs)) (Err World) (cond (nat_lt 128 (length (trimmed b fs))) (Err TooManyFaces) (Ok (trimmed b fs))))
    (false_from_ne_true (b.is_empty (half_spaces fs)) (λ h.
    no_cause (half_spaces fs) no_volume ok.valid (is_no_volume ((right.is_empty (half_spaces fs) proper).0 h))))
    ∙ cond-false (b.leaves_world (half_spaces fs)) (Err World) (cond (nat_lt 128 (length (trimmed b fs))) (Err TooManyFaces) (Ok (trimmed b fs)))
    (false_from_ne_true (b.leaves_world (half_spaces fs)) (λ h.
    let out = (right.leaves_world (half_spaces fs) proper (inl bounded)).0 h in out.outside (ok.valid.within out.at out.is_in)))
    ∙ cond-false (nat_lt 128 (length (trimmed b fs))) (Err TooManyFaces) (Ok (trimmed b fs)) (ap (λ l. nat_lt 128 (length l)) same ∙ le-ltb 128 (length fs) short)
    ∙ ap Ok same
