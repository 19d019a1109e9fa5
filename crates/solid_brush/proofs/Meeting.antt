-- Sides that cut a block one after another; and blocks as solids.
use Rattle.std.proofs.Common.{◌≡◌, ℕ, zero, suc, ◌+◌, ◌^◌, ◌<◌, ◌≤◌, Bool, true, false, List, [], ◌∷◌, ◌++◌, length, map, take, get_or, Option, None, Some, Result, Err, IfErr, append-nil, add-one, refl, sym, ap, subst, ◌∙◌, arith, ℤ, pos, ◌-ℤ◌, ◌*ℤ◌, ◌<ℤ◌}
use Rattle.std.proofs.lemmas.Int.{ints}
use Rattle.std.proofs.lemmas.Result.{err_from_is_err_and}
use Rattle.std.specs.Result.{IsErrAnd}
use Rattle.std.proofs.lemmas.List.{length-map, take_all}
use Rattle.algebra.specs.Members.{◌∈◌, here, there, Every}
use Rattle.algebra.specs.Space.{Homogeneous, HalfSpace, side, way}
use Rattle.algebra.proofs.Members.{each_of_more, each_of_none, member_at}
use Rattle.algebra.proofs.Orders.{negative-mul, zero-mul}
use Rattle.algebra.proofs.Identities.{dot-way}
use Rattle.algebra.proofs.Vectors.{nonzero}
use Rattle.trim_laws.specs.Solid.{IsInside, Proper}
use Rattle.trim_laws.specs.Trim.{Bears, Trim, Trims, ends, keeps, drops}
use Rattle.trim_laws.proofs.Bearing.{in_of_inside}
use Rattle.trim_laws.proofs.Faces.{trim_faces}
use Rattle.solid_laws.proofs.World.{world_bounded}
use Rattle.solid_laws.proofs.FourFaces.{four_faces}
use Rattle.half_poly.specs.Shapes.{Tagged}
use Rattle.half_poly.proofs.Chain.{Once, few}
use Rattle.solid_brush.specs.declared.side.Side.{Side}
use Rattle.solid_brush.specs.Sides.{bounds, half_spaces, DistinctTags, no_sides, one_more_side, HaveTags, IsSolid}
use Rattle.solid_brush.specs.Cutting.{tagged, untagged, IsKeptSolid}
use Rattle.solid_brush.specs.declared.meet_fault.MeetFault.{MeetFault}
use Rattle.solid_brush.specs.declared.meet_fault.MeetFault.TheVariants.{TooManyFaces as Overfull, Memory}
use Rattle.solid_brush.specs.Blocks.{IsBlock, IsEmpty, IsTrimmedTo, IsLeft, IsCut, IsOverfull, NeedsTooMany}
use Rattle.solid_brush.proofs.Tags.{every_map, kept_in}
use Rattle.solid_brush.proofs.Blocks.{trimmed_self, trimmed_further, empty_further}

-- ---- the sides that are still to come
spaces_part : (first more : List Side) (n : ℕ) (f : HalfSpace) → f ∈ half_spaces (first ++ take n more) → f ∈ half_spaces (first ++ more)
spaces_part [] [] zero f m = m
spaces_part [] [] (suc n) f m = m
spaces_part [] (x ∷ more) zero f m = elim m [ ]
spaces_part [] (x ∷ more) (suc n) f here = here
spaces_part [] (x ∷ more) (suc n) f (there m) = there (spaces_part [] more n f m)
spaces_part (x ∷ first) more n f here = here
spaces_part (x ∷ first) more n f (there m) = there (spaces_part first more n f m)

in_second : (first more : List Side) (s : Side) → s ∈ more → s ∈ (first ++ more)
in_second [] more s m = m
in_second (x ∷ first) more s m = there (in_second first more s m)

apart_before : (first more : List Side) → DistinctTags (first ++ more) → (i : ℕ) (s : Side) → i < length more → s ≡ get_or more i s → Every (λ t. ¬ (t.tag ≡ s.tag)) (first ++ take i more)
apart_before [] [] d i s l e = absurd (omega arith)
apart_before [] (x ∷ more) d zero s l e = each_of_none (λ t. ¬ (t.tag ≡ s.tag))
apart_before [] (x ∷ more) (one_more_side apart others) (suc i) s l e =
    each_of_more (λ t. ¬ (t.tag ≡ s.tag)) x (take i more) (apart s (subst (λ y. y ∈ more) (sym e) (member_at more i s (omega arith)))) (apart_before [] more others i s (omega arith) e)
apart_before (x ∷ first) more (one_more_side apart others) i s l e =
    each_of_more (λ t. ¬ (t.tag ≡ s.tag)) x (first ++ take i more) (apart s (in_second first more s (subst (λ y. y ∈ more) (sym e) (member_at more i s l)))) (apart_before first more others i s l e)

next_sides : (first more : List Side) (i : ℕ) (s : Side) → i < length more → s ≡ get_or more i s → (first ++ take i more) ++ s ∷ [] ≡ first ++ take (suc i) more
next_sides [] [] i s l e = absurd (omega arith)
next_sides [] (x ∷ more) zero s l e = ap (λ t. t ∷ []) e
next_sides [] (x ∷ more) (suc i) s l e = ap (λ t. x ∷ t) (next_sides [] more i s (omega arith) e)
next_sides (x ∷ first) more i s l e = ap (λ t. x ∷ t) (next_sides first more i s l e)

pub met_at_start : (poly : List Tagged) (now more : List Side) → IsBlock (map untagged poly) → map untagged poly ≡ now → IsTrimmedTo (now ++ take 0 more) now
met_at_start poly now more b q = subst (λ l. IsTrimmedTo l now) (sym (append-nil now)) (subst (λ l. IsTrimmedTo l l) q (trimmed_self poly b))

module _ (first more block : List Side) (i : ℕ) (s : Side) (l : i < length more) (e : s ≡ get_or more i s) (t : IsTrimmedTo (first ++ take i more) block) where
  pub tag_is_new : HaveTags (first ++ more) → Every (λ x. ¬ (x.tag ≡ s.tag)) block
  tag_is_new tags x m = apart_before first more tags.distinct i s l e x (kept_in t.trim x m)

  pub tag_is_small : HaveTags (first ++ more) → s.tag < 2 ^ 31
  tag_is_small tags = tags.small s (in_second first more s (subst (λ y. y ∈ more) (sym e) (member_at more i s l)))

  next_is : (first ++ take i more) ++ s ∷ [] ≡ first ++ take (i + 1) more
  next_is = next_sides first more i s l e ∙ ap (λ n. first ++ take n more) (sym (add-one i))

  pub met_more : (after : List Side) (answer : Bool) → IsCut block s after answer → answer ≡ true → IsTrimmedTo (first ++ take (i + 1) more) after
  met_more after answer c q = subst (λ x. IsTrimmedTo x after) next_is (trimmed_further (first ++ take i more) block after s t (subst (IsCut block s after) q c))

  pub none_met : (after : List Side) (answer : Bool) → IsCut block s after answer → answer ≡ false → IsEmpty (first ++ more)
  none_met after answer c q o k =
      let n = subst IsEmpty next_is (empty_further (first ++ take i more) block s t (subst (IsCut block s after) q c).0) in
      n o (record { weight = k.weight; all = λ f m. k.all f (spaces_part first more (i + 1) f m) })

pub all_met : (first more block : List Side) (i : ℕ) → length more ≤ i → IsTrimmedTo (first ++ take i more) block → IsTrimmedTo (first ++ more) block
all_met first more block i l t = subst (λ x. IsTrimmedTo (first ++ x) block) (take_all i more l) t

-- ---- blocks and solids
tagged_sides : (sides : List Side) → map untagged (map tagged sides) ≡ sides
tagged_sides [] = refl
tagged_sides (s ∷ sides) = ap (λ l. s ∷ l) (tagged_sides sides)

pub sides_is : {sides now : List Side} {poly : List Tagged} → map tagged sides ≡ poly → map untagged poly ≡ now → sides ≡ now
sides_is {sides} q r = sym (tagged_sides sides) ∙ ap (map untagged) q ∙ r

tags_once : {sides : List Side} → DistinctTags sides → Once (map (λ s. s.tag) sides)
tags_once no_sides = tt
tags_once (one_more_side {s} {sides} apart others) = (λ m. every_map (λ t. t.tag) (λ n. ¬ (s.tag ≡ n)) sides apart s.tag m refl, tags_once others)

pub few_sides : (sides : List Side) → HaveTags sides → length sides < 2 ^ 32
few_sides sides tags =
    let k = few (2 ^ 31) (map (λ s. s.tag) sides) (tags_once tags.distinct) (every_map (λ s. s.tag) (λ n. n < 2 ^ 31) sides tags.small) in
    let e = length-map sides (λ s. s.tag) in omega arith

pub solid_of_block : {sides : List Side} → IsBlock sides → length sides ≤ 128 → IsSolid sides
solid_of_block {sides} b l = record {
  tags = b.tags;
  brush = record {
    trimmed = b.trimmed;
    least = four_faces (half_spaces sides) (world_bounded (half_spaces sides) b.volume.at (in_of_inside b.volume.inside) b.within);
    most = let e = length-map sides bounds in omega arith;
    volume = b.volume;
    within = b.within;
  };
}

kept_bears : {F earlier rest kept : List HalfSpace} → Trims F earlier rest kept → (f : HalfSpace) → f ∈ kept → Bears F f
kept_bears ends f m = elim m [ ]
kept_bears (keeps k t) f here = k.bears
kept_bears (keeps k t) f (there m) = kept_bears t f m
kept_bears (drops n t) f m = kept_bears t f m

-- A face that bears, with some point behind it, has no zero normal.
proper_plain : (u v w a : ℤ) → v ≡ pos 0 → pos 0 <ℤ w → a <ℤ pos 0 → pos 0 <ℤ (u *ℤ v -ℤ w *ℤ a)
proper_plain u v w a z h l = let k : (w *ℤ a) <ℤ pos 0 = negative-mul w h l in let y : u *ℤ v ≡ pos 0 = zero-mul u z in omega (arith, ints)

pub trimmed_proper : (F : List HalfSpace) (o : Homogeneous) → Trim F F → IsInside F o → Proper F
trimmed_proper F o t i f m =
    let b = kept_bears t f m in
    nonzero f.normal (way o b.at) (rw dot-way (proper_plain o.weight (side f b.at) b.at.weight (side f o) b.on b.weight (i.all f m)))

pub block_of_solid : (sides : List Side) (poly copy : List Tagged) → IsKeptSolid sides poly → copy ≡ poly → IsBlock (map untagged copy)
block_of_solid sides poly copy k q = subst IsBlock (sym (ap (map untagged) (q ∙ k.same) ∙ tagged_sides sides)) (record {
  tags = k.solid.tags;
  proper = trimmed_proper (half_spaces sides) k.solid.brush.volume.at k.solid.brush.trimmed k.solid.brush.volume.inside;
  trimmed = k.solid.brush.trimmed;
  volume = k.solid.brush.volume;
  within = k.solid.brush.within;
})

pub block_is : (sides : List Side) (poly copy : List Tagged) (now : List Side) → IsKeptSolid sides poly → copy ≡ poly → sides ≡ now → map untagged copy ≡ now
block_is sides poly copy now k q r = ap (map untagged) (q ∙ k.same) ∙ tagged_sides sides ∙ r

-- ---- what is told of solids
pub met_left : (first now more : List Side) (left : Option (List Side)) (block solid : List Side) → first ≡ now → IsLeft (first ++ more) left → left ≡ Some block → solid ≡ block → IsTrimmedTo (now ++ more) solid
met_left first now more left block solid q t e r = subst (IsTrimmedTo (now ++ more)) (sym r) (subst (IsLeft (now ++ more)) e (subst (λ l. IsLeft (l ++ more) left) q t))

pub none_left : (first now more : List Side) (left : Option (List Side)) → first ≡ now → IsLeft (first ++ more) left → left ≡ None → IsEmpty (now ++ more)
none_left first now more left q t e = subst (IsLeft (now ++ more)) e (subst (λ l. IsLeft (l ++ more) left) q t)

pub overfull : (sides block : List Side) → IsTrimmedTo sides block → (e : MeetFault) → IsOverfull block e → NeedsTooMany sides e
overfull sides block t (Overfull n) h = record { kept = half_spaces block; trim = (trim_faces Side bounds sides block t.trim).half_spaces; count = length-map block bounds ∙ h.0; above = h.1 }
overfull sides block t Memory h = tt

pub passed_on : {T E : Type 0} (P : E → Type 0) (r : Result T E) (why : E) → IsErrAnd r (λ y. y ≡ why) → P why → IfErr r P
passed_on {T} {E} P r why e h = let made : (y : E) × (r ≡ Err y) × (y ≡ why) = err_from_is_err_and r e in rw (made.1, made.2) h
