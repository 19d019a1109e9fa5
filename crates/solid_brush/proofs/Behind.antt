-- The polyhedron that is left of the larger cube.
use Rattle.std.proofs.Common.{◌≡◌, ℕ, zero, suc, ◌+◌, ◌^◌, ◌<◌, ◌≤◌, true, false, List, [], ◌∷◌, ◌++◌, length, get_or, map, take, add-one, refl, sym, ap, subst, ◌∙◌, arith, inl, inr, ◌⊎◌, ⊎_elim, pos, ◌<ℤ◌}
use Rattle.std.proofs.lemmas.List.{map-append}
use Rattle.algebra.specs.Members.{◌∈◌, here, there, Every}
use Rattle.algebra.specs.Space.{Homogeneous, HalfSpace, dot}
use Rattle.algebra.specs.World.{reach}
use Rattle.algebra.proofs.Members.{each_of_more, each_of_none, member_at}
use Rattle.trim_laws.specs.Solid.{IsInside, Proper}
use Rattle.trim_laws.specs.Valid.{HasInside, HasCause, no_volume}
use Rattle.vertex_laws.specs.Cube.{cube, boxed}
use Rattle.vertex_laws.proofs.TrimVertex.{trim_vertex, trim_vertex_back}
use Rattle.solid_laws.specs.Names.{AreVertices, HoldsVertices}
use Rattle.solid_laws.proofs.Holds.{holds_vertices}
use Rattle.half_poly.specs.declared.cut.Cut.{Cut}
use Rattle.half_poly.specs.declared.cut.Cut.TheVariants.{Missed, Halved, Gone}
use Rattle.half_poly.specs.Shapes.{Tagged, bounds as bound, solid_of, Says}
use Rattle.half_poly.specs.Trims.{StandsForAll}
use Rattle.half_poly.specs.Walls.{cube_sides, cube_side}
use Rattle.half_poly.proofs.Trimmings.{kept_in}
use Rattle.half_poly.proofs.CutTrims.{cut_trims, gone_trims, cube_trims}
use Rattle.half_poly.proofs.Cubing.{solid_is}
use Rattle.solid_brush.specs.declared.side.Side.{Side}
use Rattle.solid_brush.specs.Sides.{bounds, half_spaces, DistinctTags, one_more_side, HaveTags}
use Rattle.solid_brush.specs.Cutting.{tagged, all_planes, is_gone}
use Rattle.solid_brush.proofs.Boxed.{in_last, no_volume_cause}

-- ---- the half-spaces
pub spaces_of : (sides : List Side) → solid_of (map tagged sides) ≡ half_spaces sides
spaces_of [] = refl
spaces_of (s ∷ sides) = ap (λ l. bounds s ∷ l) (spaces_of sides)

pub all_is : (sides : List Side) → solid_of (all_planes sides) ≡ boxed reach (half_spaces sides)
all_is sides = map-append bound cube_sides (map tagged sides) ∙ ap (λ C. C ++ solid_of (map tagged sides)) solid_is ∙ ap (λ l. cube reach ++ l) (spaces_of sides)

-- ---- one side more
appended : {A : Type 0} (xs ys zs : List A) → (xs ++ ys) ++ zs ≡ xs ++ (ys ++ zs)
appended [] ys zs = refl
appended (x ∷ xs) ys zs = ap (λ l. x ∷ l) (appended xs ys zs)

one_more : (sides : List Side) (i : ℕ) (s : Side) → i < length sides → s ≡ get_or sides i s → map tagged (take i sides) ++ tagged s ∷ [] ≡ map tagged (take (suc i) sides)
one_more [] i s l e = absurd (omega arith)
one_more (x ∷ sides) zero s l e = ap (λ t. tagged t ∷ []) e
one_more (x ∷ sides) (suc i) s l e = ap (λ t. tagged x ∷ t) (one_more sides i s (omega arith) e)

pub next_planes : (sides : List Side) (i : ℕ) (s : Side) → i < length sides → s ≡ get_or sides i s → all_planes (take i sides) ++ tagged s ∷ [] ≡ all_planes (take (i + 1) sides)
next_planes sides i s l e = appended cube_sides (map tagged (take i sides)) (tagged s ∷ []) ∙ ap (λ t. cube_sides ++ t) (one_more sides i s l e) ∙ ap (λ n. all_planes (take n sides)) (sym (add-one i))

-- ---- its tag is new
cube_high : Every (λ (t : Tagged). 2 ^ 31 ≤ t.tag) cube_sides
cube_high = each_of_more (λ (t : Tagged). 2 ^ 31 ≤ t.tag) (cube_side 0) _ (omega arith) (each_of_more (λ (t : Tagged). 2 ^ 31 ≤ t.tag) (cube_side 1) _ (omega arith) (each_of_more (λ (t : Tagged). 2 ^ 31 ≤ t.tag) (cube_side 2) _ (omega arith)
    (each_of_more (λ (t : Tagged). 2 ^ 31 ≤ t.tag) (cube_side 3) _ (omega arith) (each_of_more (λ (t : Tagged). 2 ^ 31 ≤ t.tag) (cube_side 4) _ (omega arith) (each_of_more (λ (t : Tagged). 2 ^ 31 ≤ t.tag) (cube_side 5) _ (omega arith) (each_of_none (λ (t : Tagged). 2 ^ 31 ≤ t.tag)))))))

earlier_apart : (sides : List Side) → DistinctTags sides → (i : ℕ) (s : Side) → i < length sides → s ≡ get_or sides i s → Every (λ (t : Tagged). ¬ (t.tag ≡ s.tag)) (map tagged (take i sides))
earlier_apart [] d i s l e = absurd (omega arith)
earlier_apart (x ∷ sides) d zero s l e = λ t m. elim m [ ]
earlier_apart (x ∷ sides) (one_more_side apart others) (suc i) s l e =
    each_of_more (λ (t : Tagged). ¬ (t.tag ≡ s.tag)) (tagged x) (map tagged (take i sides)) (apart s (subst (λ y. y ∈ sides) (sym e) (member_at sides i s (omega arith)))) (earlier_apart sides others i s (omega arith) e)

in_either : (xs ys : List Tagged) (t : Tagged) → t ∈ (xs ++ ys) → (t ∈ xs) ⊎ (t ∈ ys)
in_either [] ys t m = inr m
in_either (x ∷ xs) ys t here = inl here
in_either (x ∷ xs) ys t (there m) = ⊎_elim (λ i. inl (there i)) (λ i. inr i) (in_either xs ys t m)

pub new_tag : (sides : List Side) (poly : List Tagged) (i : ℕ) (s : Side) → HaveTags sides → i < length sides → s ≡ get_or sides i s → StandsForAll (all_planes (take i sides)) poly → Every (λ t. ¬ (t.tag ≡ s.tag)) poly
new_tag sides poly i s h l e b t m = ⊎_elim
    (λ n q. let high = cube_high t n in let small = h.small s (subst (λ y. y ∈ sides) (sym e) (member_at sides i s l)) in absurd (omega arith))
    (λ n. earlier_apart sides h.distinct i s l e t n)
    (in_either cube_sides (map tagged (take i sides)) t (kept_in b.trim t m))

-- ---- the loop
pub at_start : (sides : List Side) (poly : List Tagged) → poly ≡ cube_sides → StandsForAll (all_planes (take 0 sides)) poly
at_start sides poly q = subst (λ l. StandsForAll cube_sides l) (sym q) cube_trims

pub not_gone : (c : Cut) → is_gone c ≡ false → ¬ (c ≡ Gone)
not_gone Missed q e = absurd (cc)
not_gone Halved q e = absurd (cc)
not_gone Gone q e = absurd (cc)

pub after_one : (sides : List Side) (poly after : List Tagged) (i : ℕ) (s : Side) (c : Cut) → i < length sides → s ≡ get_or sides i s → StandsForAll (all_planes (take i sides)) poly →
    pos 0 <ℤ dot (bounds s).normal (bounds s).normal → Says poly (tagged s) after c → is_gone c ≡ false → StandsForAll (all_planes (take (i + 1) sides)) after
after_one sides poly after i s c l e b n w g = subst (λ all. StandsForAll all after) (next_planes sides i s l e) (cut_trims (all_planes (take i sides)) poly after (tagged s) c b n w (not_gone c g))

pub after_all : (sides : List Side) (poly : List Tagged) (i : ℕ) → length sides ≤ i → StandsForAll (all_planes (take i sides)) poly → StandsForAll (all_planes sides) poly
after_all sides poly i l b = subst (λ t. StandsForAll (all_planes t) poly) (whole sides i l) b
  where
    whole : (xs : List Side) (i : ℕ) → length xs ≤ i → take i xs ≡ xs
    whole [] zero l = refl
    whole [] (suc i) l = refl
    whole (x ∷ xs) zero l = absurd (omega arith)
    whole (x ∷ xs) (suc i) l = ap (λ t. x ∷ t) (whole xs i (omega arith))

-- where nothing is left of the sides so far, nothing is left of all
grown : (C xs ys : List Tagged) → ((t : Tagged) → t ∈ xs → t ∈ ys) → (f : HalfSpace) → f ∈ solid_of (C ++ xs) → f ∈ solid_of (C ++ ys)
grown [] xs ys h f m = images xs h f m
  where
    image : (zs : List Tagged) (t : Tagged) → t ∈ zs → bound t ∈ solid_of zs
    image [] t m = elim m [ ]
    image (z ∷ zs) t here = here
    image (z ∷ zs) t (there m) = there (image zs t m)

    images : (zs : List Tagged) → ((t : Tagged) → t ∈ zs → t ∈ ys) → (f : HalfSpace) → f ∈ solid_of zs → f ∈ solid_of ys
    images [] h f m = elim m [ ]
    images (z ∷ zs) h f here = image ys z (h z here)
    images (z ∷ zs) h f (there m) = images zs (λ t n. h t (there n)) f m
grown (c ∷ C) xs ys h f here = here
grown (c ∷ C) xs ys h f (there m) = there (grown C xs ys h f m)

mapped_part : (sides : List Side) (i : ℕ) (t : Tagged) → t ∈ map tagged (take i sides) → t ∈ map tagged sides
mapped_part [] zero t m = m
mapped_part [] (suc i) t m = m
mapped_part (x ∷ sides) zero t m = elim m [ ]
mapped_part (x ∷ sides) (suc i) t here = here
mapped_part (x ∷ sides) (suc i) t (there m) = there (mapped_part sides i t m)

pub gone_at : (sides : List Side) (poly after : List Tagged) (i : ℕ) (s : Side) (c : Cut) → i < length sides → s ≡ get_or sides i s → StandsForAll (all_planes (take i sides)) poly → Says poly (tagged s) after c → is_gone c ≡ true →
    (o : Homogeneous) → ¬ (IsInside (solid_of (all_planes sides)) o)
gone_at sides poly after i s Missed l e b w g o k = absurd (cc)
gone_at sides poly after i s Halved l e b w g o k = absurd (cc)
gone_at sides poly after i s Gone l e b w g o k = gone_trims (all_planes (take i sides)) poly after (tagged s) b w o (record {
  weight = k.weight;
  all = λ f m. k.all f (grown cube_sides (map tagged (take (i + 1) sides)) (map tagged sides) (mapped_part sides (i + 1)) f (subst (λ p. f ∈ solid_of p) (next_planes sides i s l e) m));
})

-- ---- what the polyhedron tells
pub has_inside : (sides : List Side) (poly : List Tagged) → StandsForAll (all_planes sides) poly → HasInside (boxed reach (half_spaces sides))
has_inside sides poly b = subst HasInside (all_is sides) b.solids.volume

pub proper_sides : (sides : List Side) (poly : List Tagged) → StandsForAll (all_planes sides) poly → Proper (half_spaces sides)
proper_sides sides poly b f m = subst Proper (all_is sides) b.solids.proper f (in_last (cube reach) (half_spaces sides) f m)

pub holds_boxed : (sides : List Side) (poly : List Tagged) (V : List Homogeneous) → StandsForAll (all_planes sides) poly → AreVertices (solid_of poly) V → HoldsVertices (boxed reach (half_spaces sides)) V
holds_boxed sides poly V b a =
    let h = holds_vertices (solid_of poly) V a in
    let L = solid_of (all_planes sides) in let s = b.solids in subst (λ F. HoldsVertices F V) (all_is sides) (record {
      each = λ v m. trim_vertex_back L (solid_of poly) s.volume.at v s.proper s.volume.inside s.trim (h.each v m);
      all = λ v u. h.all v (trim_vertex L (solid_of poly) s.volume.at v s.proper s.volume.inside s.trim u);
    })

pub nothing_inside : (sides : List Side) → ((o : Homogeneous) → ¬ (IsInside (solid_of (all_planes sides)) o)) → HasCause (half_spaces sides) no_volume
nothing_inside sides n = no_volume_cause (half_spaces sides) (λ h. let k = subst HasInside (sym (all_is sides)) h in n k.at k.inside)
