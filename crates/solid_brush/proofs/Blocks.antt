-- Blocks: what a cut leaves of them.
use Rattle.std.proofs.Common.{◌≡◌, ℕ, ◌^◌, ◌<◌, Bool, false, List, [], ◌∷◌, ◌++◌, map, not, refl, sym, ap, subst, ◌∙◌, pos, ◌<ℤ◌}
use Rattle.std.proofs.lemmas.List.{map-append}
use Rattle.algebra.specs.Members.{◌∈◌, here, there, Every}
use Rattle.algebra.specs.Space.{Homogeneous, HalfSpace, side}
use Rattle.algebra.specs.World.{InCube, world}
use Rattle.algebra.proofs.Members.{each_of_more, each_of_none}
use Rattle.exact_geom.specs.Planes.{IsPlane}
use Rattle.exact_geom.proofs.PlaneLaws.{normal_positive}
use Rattle.trim_laws.specs.Solid.{IsIn, IsInside, Proper, Bounded}
use Rattle.trim_laws.specs.Trim.{Bears, IsKept, Trim, TrimsFaces, TrimFaces, no_faces, keeps_face, drops_face}
use Rattle.trim_laws.specs.Valid.{HasInside}
use Rattle.trim_laws.proofs.Bearing.{in_of_inside}
use Rattle.trim_laws.proofs.Faces.{trim_faces}
use Rattle.trim_laws.proofs.Once.{trim_again}
use Rattle.trim_laws.proofs.Trimmed.{trimmed_in, trim, trim_back, trim_inside}
use Rattle.cut_laws.specs.Cut.{back}
use Rattle.cut_laws.proofs.Backs.{each_of_back, in_left, in_last, back_proper}
use Rattle.cut_laws.proofs.FaceTrims.{trim_add_face}
use Rattle.solid_laws.proofs.World.{world_bounded}
use Rattle.half_poly.specs.declared.cut.Cut.{Cut}
use Rattle.half_poly.specs.declared.cut.Cut.TheVariants.{Missed, Halved, Gone}
use Rattle.half_poly.specs.Shapes.{Tagged, bounds as bound, solid_of, Says}
use Rattle.half_poly.specs.Trims.{StandsForAll}
use Rattle.half_poly.proofs.Trimmings.{trims_whole}
use Rattle.half_poly.proofs.CutTrims.{cut_trims, gone_trims}
use Rattle.solid_brush.specs.declared.side.Side.{Side}
use Rattle.solid_brush.specs.Sides.{bounds, half_spaces, DistinctTags, no_sides, one_more_side, HaveTags}
use Rattle.solid_brush.specs.Cutting.{tagged, untagged, is_gone}
use Rattle.solid_brush.specs.Blocks.{IsBlock, IsEmpty, IsTrimmedTo, IsCut}
use Rattle.solid_brush.proofs.Behind.{not_gone}
use Rattle.solid_brush.proofs.Tags.{kept_tags}

-- ---- tagged planes as sides
pub spaces_untagged : (poly : List Tagged) → half_spaces (map untagged poly) ≡ solid_of poly
spaces_untagged [] = refl
spaces_untagged (t ∷ poly) = ap (λ F. bound t ∷ F) (spaces_untagged poly)

kept_untagged : (F earlier : List Tagged) (f : Tagged) → IsKept (solid_of F) (solid_of earlier) (bound f) → IsKept (half_spaces (map untagged F)) (half_spaces (map untagged earlier)) (bound f)
kept_untagged F earlier f k = record {
  first = λ g m s. k.first g (subst (λ E. g ∈ E) (spaces_untagged earlier) m) s;
  bears = subst (λ L. Bears L (bound f)) (sym (spaces_untagged F)) k.bears;
}

kept_tagged : (F earlier : List Tagged) (f : Tagged) → IsKept (half_spaces (map untagged F)) (half_spaces (map untagged earlier)) (bound f) → IsKept (solid_of F) (solid_of earlier) (bound f)
kept_tagged F earlier f k = record {
  first = λ g m s. k.first g (subst (λ E. g ∈ E) (sym (spaces_untagged earlier)) m) s;
  bears = subst (λ L. Bears L (bound f)) (spaces_untagged F) k.bears;
}

trims_untagged : {F earlier rest kept : List Tagged} → TrimsFaces bound F earlier rest kept → TrimsFaces bounds (map untagged F) (map untagged earlier) (map untagged rest) (map untagged kept)
trims_untagged no_faces = no_faces
trims_untagged {F} {earlier} (keeps_face {f = f} k t) = keeps_face (kept_untagged F earlier f k) (trims_untagged t)
trims_untagged {F} {earlier} (drops_face {f = f} n t) = drops_face (λ k. n (kept_tagged F earlier f k)) (trims_untagged t)

-- ---- what is trimmed
pub trimmed_to : (sides kept : List Side) → Proper (half_spaces sides) → HasInside (half_spaces sides) → TrimFaces bounds sides kept → IsTrimmedTo sides kept
trimmed_to sides kept r v t =
    let u = (trim_faces Side bounds sides kept t).half_spaces in
    record { proper = r; volume = v; trim = t; points = λ p. (trim_back (half_spaces sides) (half_spaces kept) p u, trim (half_spaces sides) (half_spaces kept) v.at p r v.inside u) }

by_spaces : {sides kept : List Side} → IsTrimmedTo sides kept → Trim (half_spaces sides) (half_spaces kept)
by_spaces {sides} {kept} t = (trim_faces Side bounds sides kept t.trim).half_spaces

kept_spaces : {sides kept : List Side} → IsTrimmedTo sides kept → (f : HalfSpace) → f ∈ half_spaces kept → f ∈ half_spaces sides
kept_spaces t f m = trimmed_in (by_spaces t) f m

pub block_of : {sides kept : List Side} → IsTrimmedTo sides kept → HaveTags sides → ((p : Homogeneous) → IsIn (half_spaces sides) p → InCube world p) → IsBlock kept
block_of {sides} {kept} t tags within = record {
  tags = kept_tags t.trim tags;
  proper = λ f m. t.proper f (kept_spaces t f m);
  trimmed = trim_again (half_spaces sides) (half_spaces kept) (by_spaces t);
  volume = record { at = t.volume.at; inside = record { weight = t.volume.inside.weight; all = λ f m. t.volume.inside.all f (kept_spaces t f m) } };
  within = λ p i. within p ((t.points p).1 i);
}

-- ---- one side more
pub spaces_more : (sides : List Side) (s : Side) → half_spaces (sides ++ s ∷ []) ≡ back (half_spaces sides) (bounds s)
spaces_more sides s = map-append bounds sides (s ∷ [])

in_more : (sides : List Side) (s : Side) (f : HalfSpace) → f ∈ half_spaces sides → f ∈ half_spaces (sides ++ s ∷ [])
in_more sides s f m = subst (λ F. f ∈ F) (sym (spaces_more sides s)) (in_left (half_spaces sides) (bounds s) f m)

last_in : (sides : List Side) (s : Side) → bounds s ∈ half_spaces (sides ++ s ∷ [])
last_in sides s = subst (λ F. bounds s ∈ F) (sym (spaces_more sides s)) (in_last (half_spaces sides) (bounds s))

each_of_last : (P : Side → Type 0) (sides : List Side) (s : Side) → Every P sides → P s → Every P (sides ++ s ∷ [])
each_of_last P [] s each p = each_of_more P s [] p (each_of_none P)
each_of_last P (x ∷ sides) s each p = each_of_more P x (sides ++ s ∷ []) (each x here) (each_of_last P sides s (λ y m. each y (there m)) p)

distinct_more : (sides : List Side) (s : Side) → DistinctTags sides → Every (λ t. ¬ (t.tag ≡ s.tag)) sides → DistinctTags (sides ++ s ∷ [])
distinct_more [] s no_sides new = one_more_side (each_of_none (λ t. ¬ (s.tag ≡ t.tag))) no_sides
distinct_more (x ∷ sides) s (one_more_side apart others) new =
    one_more_side (each_of_last (λ t. ¬ (x.tag ≡ t.tag)) sides s apart (new x here)) (distinct_more sides s others (λ t m. new t (there m)))

tags_more : (sides : List Side) (s : Side) → HaveTags sides → Every (λ t. ¬ (t.tag ≡ s.tag)) sides → s.tag < 2 ^ 31 → HaveTags (sides ++ s ∷ [])
tags_more sides s tags new small = record { distinct = distinct_more sides s tags.distinct new; small = each_of_last (λ t. t.tag < 2 ^ 31) sides s tags.small small }

-- ---- a block and its polyhedron
pub stands : (poly : List Tagged) → IsBlock (map untagged poly) → StandsForAll poly poly
stands poly b =
    let e = spaces_untagged poly in
    let t = subst (λ F. Trim F F) e b.trimmed in record {
      solids = record {
        proper = subst Proper e b.proper;
        bounded = subst Bounded e (world_bounded (half_spaces (map untagged poly)) b.volume.at (in_of_inside b.volume.inside) b.within);
        volume = subst HasInside e b.volume;
        trim = t;
      };
      trim = trims_whole poly t;
    }

-- A block is trimmed to itself.
pub trimmed_self : (poly : List Tagged) → IsBlock (map untagged poly) → IsTrimmedTo (map untagged poly) (map untagged poly)
trimmed_self poly b = trimmed_to (map untagged poly) (map untagged poly) b.proper b.volume (trims_untagged (stands poly b).trim)

module _ (poly after : List Tagged) (s : Side) (b : IsBlock (map untagged poly)) (p : IsPlane s.plane) where
  more_is : map untagged (poly ++ tagged s ∷ []) ≡ map untagged poly ++ s ∷ []
  more_is = map-append untagged poly (tagged s ∷ [])

  spaces_is : solid_of (poly ++ tagged s ∷ []) ≡ half_spaces (map untagged poly ++ s ∷ [])
  spaces_is = sym (spaces_untagged (poly ++ tagged s ∷ [])) ∙ ap half_spaces more_is

  left : (c : Cut) → Says poly (tagged s) after c → is_gone c ≡ false → IsTrimmedTo (map untagged poly ++ s ∷ []) (map untagged after)
  left c w g =
      let t = cut_trims poly poly after (tagged s) c (stands poly b) (normal_positive s.plane p) w (not_gone c g) in
      trimmed_to (map untagged poly ++ s ∷ []) (map untagged after) (subst Proper spaces_is t.solids.proper) (subst HasInside spaces_is t.solids.volume)
      (subst (λ l. TrimFaces bounds l (map untagged after)) more_is (trims_untagged t.trim))

  nothing_left : Says poly (tagged s) after Gone → IsEmpty (map untagged poly ++ s ∷ [])
  nothing_left w o i = gone_trims poly poly after (tagged s) (stands poly b) w o (subst (λ F. IsInside F o) (sym spaces_is) i)

  says_cut : (c : Cut) → Says poly (tagged s) after c → IsCut (map untagged poly) s (map untagged after) (not (is_gone c))
  says_cut Missed w = left Missed w refl
  says_cut Halved w = left Halved w refl
  says_cut Gone w = (nothing_left w, ap (map untagged) w.2)

  left_block : (c : Cut) → Says poly (tagged s) after c → is_gone c ≡ false → Every (λ t. ¬ (t.tag ≡ s.tag)) (map untagged poly) → s.tag < 2 ^ 31 → IsBlock (map untagged after)
  left_block c w g new small = block_of (left c w g) (tags_more (map untagged poly) s b.tags new small)
      (λ x i. b.within x (record { weight = i.weight; all = λ f m. i.all f (in_more (map untagged poly) s f m) }))

  pub block_after : (c : Cut) → Says poly (tagged s) after c → Every (λ t. ¬ (t.tag ≡ s.tag)) (map untagged poly) → s.tag < 2 ^ 31 → IsBlock (map untagged after)
  block_after Missed w new small = left_block Missed w refl new small
  block_after Halved w new small = left_block Halved w refl new small
  block_after Gone w new small = subst (λ l. IsBlock (map untagged l)) (sym w.2) b

-- What a cut answers, by the sides that a contract sees.
pub is_cut : (poly after : List Tagged) (old new : List Side) (s : Side) (c : Cut) (answer : Bool) → IsBlock (map untagged poly) → map untagged poly ≡ old → map untagged after ≡ new → IsPlane s.plane →
    Says poly (tagged s) after c → answer ≡ not (is_gone c) → IsCut old s new answer
is_cut poly after old new s c answer b q r p w a = subst (λ x. IsCut old s new x) (sym a) (subst (λ x. IsCut x s new (not (is_gone c))) q (subst (λ x. IsCut (map untagged poly) s x (not (is_gone c))) r (says_cut poly after s b p c w)))

pub new_tag : (poly : List Tagged) (old : List Side) (tag : ℕ) → map untagged poly ≡ old → Every (λ s. ¬ (s.tag ≡ tag)) old → Every (λ s. ¬ (s.tag ≡ tag)) poly
new_tag poly old tag q new = plain poly (subst (Every (λ s. ¬ (s.tag ≡ tag))) (sym q) new)
  where
    plain : (poly : List Tagged) → Every (λ s. ¬ (s.tag ≡ tag)) (map untagged poly) → Every (λ s. ¬ (s.tag ≡ tag)) poly
    plain [] new = each_of_none (λ s. ¬ (s.tag ≡ tag))
    plain (t ∷ poly) new = each_of_more (λ s. ¬ (s.tag ≡ tag)) t poly (new (untagged t) here) (plain poly (λ s m. new s (there m)))

-- ---- cuts one after another
back_inside : (F : List HalfSpace) (f : HalfSpace) (o : Homogeneous) → IsInside F o → side f o <ℤ pos 0 → IsInside (back F f) o
back_inside F f o i l = record { weight = i.weight; all = each_of_back (λ g. side g o <ℤ pos 0) F f i.all l }

-- What is cut further was cut of all the sides so far.
pub trimmed_further : (all block after : List Side) (s : Side) → IsTrimmedTo all block → IsTrimmedTo (block ++ s ∷ []) after → IsTrimmedTo (all ++ s ∷ []) after
trimmed_further all block after s t u =
    let o = u.volume.at in
    let e = sym (spaces_more all s) in
    let r = subst Proper e (back_proper (half_spaces all) (bounds s) t.proper (u.proper (bounds s) (last_in block s))) in
    let in_block : IsInside (half_spaces block) o = record { weight = u.volume.inside.weight; all = λ f m. u.volume.inside.all f (in_more block s f m) } in
    let i = subst (λ F. IsInside F o) e (back_inside (half_spaces all) (bounds s) o
    (trim_inside (half_spaces all) (half_spaces block) t.volume.at o t.proper t.volume.inside (by_spaces t) in_block) (u.volume.inside.all (bounds s) (last_in block s))) in
    trimmed_to (all ++ s ∷ []) after r (record { at = o; inside = i }) (trim_add_face bounds all block after s o r i t.trim u.trim)

pub empty_further : (all block : List Side) (s : Side) → IsTrimmedTo all block → IsEmpty (block ++ s ∷ []) → IsEmpty (all ++ s ∷ [])
empty_further all block s t n o i =
    let j = subst (λ F. IsInside F o) (spaces_more all s) i in
    n o (subst (λ F. IsInside F o) (sym (spaces_more block s)) (back_inside (half_spaces block) (bounds s) o
    (record { weight = j.weight; all = λ f m. j.all f (in_left (half_spaces all) (bounds s) f (kept_spaces t f m)) }) (j.all (bounds s) (in_last (half_spaces all) (bounds s)))))
