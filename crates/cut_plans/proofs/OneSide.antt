-- A brush with one new face.
use Rattle.std.proofs.Common.{◌≡◌, ℕ, suc, ◌+◌, ◌^◌, ◌<◌, ◌≤◌, List, [], ◌∷◌, ◌++◌, length, map, get_or, Bool, true, false, Option, None, Some, Result, Ok, Err, IfOk, refl, ap, sym, subst, ◌∙◌, arith}
use Rattle.std.specs.Prelude.{is_some, nat_lt, slice_index_or}
use Rattle.std.proofs.lemmas.Bool.Decides.{nat_tests}
use Rattle.std.proofs.lemmas.List.{length-map}
use Rattle.algebra.specs.Members.{◌∈◌, here, there, Every}
use Rattle.algebra.specs.Space.{HalfSpace}
use Rattle.exact_geom.specs.Planes.{half_space, IsPlane}
use Rattle.exact_geom.proofs.PlaneLaws.{normal_positive}
use Rattle.trim_laws.specs.Solid.{Proper}
use Rattle.trim_laws.specs.Valid.{Valid}
use Rattle.solid_brush.specs.declared.side.Side.{Side}
use Rattle.solid_brush.specs.Sides.{DistinctTags, no_sides, one_more_side, HaveTags, IsSolid}
use Rattle.solid_brush.specs.Sides as solid
use Rattle.solid_brush.specs.Blocks.{IsLeft, IsTrimmedTo, IsEmpty}
use Rattle.map_nodes.specs.Seen.{sides_from, sides_of}
use Rattle.map_model.specs.Faces.{Face}
use Rattle.map_model.specs.Shape.{half_spaces}
use Rattle.map_model.specs.Below.{Below, IsRight, SomeAreRight}
use Rattle.map_model.specs.Brushes.{has_inside, trimmed}
use Rattle.map_model.specs.Rows.{too_many, refuse}
use Rattle.map_model.specs.Replies.{Refusal, TooManyFaces}
use Rattle.cut_plans.specs.Told.{face_of, faces_of, IsTold}
use Rattle.cut_plans.proofs.Faces.{sides_joined, spaces, all_told, are_told, kept_among, tag_within}
use Rattle.cut_plans.proofs.Trimmed.{brush_bounded, valid_faces, inside_is, trimmed_is, empty_is, kept_needed}
use Rattle.cut_plans.proofs.Laws.{some_are_right}

-- Tags. -----------------------------------------------------------------------------------------------------------------------------

tags_apart : (k : ℕ) (fs : List Face) → DistinctTags (sides_from k fs)
tags_apart k [] = no_sides
tags_apart k (f ∷ fs) = one_more_side (λ t i e. apart k t (tag_within (suc k) fs t i).0 e) (tags_apart (suc k) fs)
  where
    apart : (k : ℕ) (t : Side) → suc k ≤ t.tag → k ≡ t.tag → ⊥
    apart k t w e = omega arith

pub have_tags : (fs : List Face) → length fs ≤ 2 ^ 31 → HaveTags (sides_of fs)
have_tags fs few = record { distinct = tags_apart 0 fs; small = λ s i. let r = (tag_within 0 fs s i).1 in omega arith }

pub few_faces : (fs : List Face) → IsSolid (sides_of fs) → length fs ≤ 128
few_faces fs is = subst (λ n. n ≤ 128) (length-map fs (λ f. half_space f.plane)) (valid_faces fs is).most

-- The sides with the new one. -------------------------------------------------------------------------------------------------------

pub with_side : (old new : List Face) (f : Face) (n : ℕ) → length new ≡ 1 → n ≡ length old → sides_of old ++ record { plane = (get_or new 0 f).plane; tag = n } ∷ [] ≡ sides_of (old ++ new)
with_side old [] f n one e = absurd (omega arith)
with_side old (g ∷ []) f n one e = (λ i. sides_of old ++ record { plane = g.plane; tag = (let z : n ≡ 0 + length old = omega arith in z) i } ∷ []) ∙ sym (sides_joined 0 old (g ∷ []))
with_side old (g ∷ h ∷ new) f n one e = absurd (omega arith)

longer : (old new : List Face) → length new ≡ 1 → length (old ++ new) ≡ length old + 1
longer [] new e = omega arith
longer (f ∷ old) new e = let r = longer old new e in omega arith

pub side_tags : (old new : List Face) (f : Face) (n : ℕ) (block : List Side) → IsSolid (sides_of old) → length new ≡ 1 → n ≡ length old → block ≡ sides_of old →
    HaveTags (block ++ record { plane = (get_or new 0 f).plane; tag = n } ∷ [])
side_tags old new f n block is one e same =
    subst HaveTags (sym (ap (λ l. l ++ record { plane = (get_or new 0 f).plane; tag = n } ∷ []) same ∙ with_side old new f n one e))
    (have_tags (old ++ new) (omega (arith, longer old new one, few_faces old is)))

-- What is left behind it, proper as the sides are.
proper_joined : (xs ys : List Face) → Proper (half_spaces xs) → Proper (half_spaces ys) → Proper (half_spaces (xs ++ ys))
proper_joined [] ys p q g i = q g i
proper_joined (x ∷ xs) ys p q g here = p (half_space x.plane) here
proper_joined (x ∷ xs) ys p q g (there i) = proper_joined xs ys (λ h j. p h (there j)) q g i

single : (g : Face) → IsPlane g.plane → Proper (half_spaces (g ∷ []))
single g is h here = normal_positive g.plane is
single g is h (there i) = elim i [ ]

proper_one : (new : List Face) (f : Face) → length new ≡ 1 → IsPlane (get_or new 0 f).plane → Proper (half_spaces new)
proper_one [] f one is = absurd (omega arith)
proper_one (g ∷ []) f one is = single g is
proper_one (g ∷ k ∷ new) f one is = absurd (omega arith)

pub proper_sides : (old new : List Face) (f : Face) (sides block : List Side) → sides ≡ sides_of old → IsTrimmedTo sides block → length new ≡ 1 → IsPlane (get_or new 0 f).plane → Proper (solid.half_spaces (sides_of (old ++ new)))
proper_sides old new f sides block same t one is =
    subst Proper (sym (spaces 0 (old ++ new)))
    (proper_joined old new (subst Proper (ap solid.half_spaces same ∙ spaces 0 old) t.proper) (proper_one new f one is))

-- Whether anything is left.
pub is_left : (old new : List Face) (left : Option (List Side)) → IsSolid (sides_of old) → Proper (solid.half_spaces (sides_of (old ++ new))) → IsLeft (sides_of (old ++ new)) left →
    (b : Below) → IsRight b → has_inside b (old ++ new) ≡ is_some left
is_left old new None is proper h b right = empty_is (length old) old new (sides_of (old ++ new)) (old ++ new) (all_told old new) (brush_bounded old new (valid_faces old is)) proper h b right
is_left old new (Some kept) is proper h b right = inside_is (length old) old new (sides_of (old ++ new)) (old ++ new) (all_told old new) (brush_bounded old new (valid_faces old is)) kept h b right

-- Something is.
pub not_none : (old new : List Face) (left : Option (List Side)) → IsSolid (sides_of old) → Proper (solid.half_spaces (sides_of (old ++ new))) → IsLeft (sides_of (old ++ new)) left →
    ((b : Below) → IsRight b → has_inside b (old ++ new) ≡ true) → is_some left ≡ true
not_none old new left is proper h some =
    sym (is_left old new left is proper h some_are_right.tests some_are_right.right) ∙ some some_are_right.tests some_are_right.right

-- And these are its faces.
pub left_is : (old new : List Face) (kept : List Side) → IsSolid (sides_of old) → IsTrimmedTo (sides_of (old ++ new)) kept → (b : Below) → IsRight b →
    trimmed b (old ++ new) ≡ faces_of (length old) old new kept
left_is old new kept is t b right = trimmed_is (length old) old new (sides_of (old ++ new)) (old ++ new) (all_told old new) (brush_bounded old new (valid_faces old is)) kept t b right

pub left_told : (old new : List Face) (kept : List Side) → IsTrimmedTo (sides_of (old ++ new)) kept → Every (IsTold (length old) old new) kept
left_told old new kept t s i = are_told (length old) old new refl s (kept_among s t.trim i)

-- How many there are.
few : (n : ℕ) → n ≤ 128 → nat_lt 128 n ≡ false
few n le = grind (arith, nat_tests)

many : (n : ℕ) → 128 < n → nat_lt 128 n ≡ true
many n lt = grind (arith, nat_tests)

pub not_many : (n : ℕ) (fs : List Face) → length fs ≤ 128 → too_many n fs ≡ None
not_many n fs le = ap (λ t. refuse t (TooManyFaces n (length fs))) (few (length fs) le)

pub too_many_are : (n count : ℕ) (fs : List Face) → length fs ≡ count → 128 < count → too_many n fs ≡ Some (TooManyFaces n count)
too_many_are n count fs e lt = ap (λ k. refuse (nat_lt 128 k) (TooManyFaces n k)) e ∙ ap (λ t. refuse t (TooManyFaces n count)) (many count lt)

pub always : {T E P : Type 0} (r : Result T E) → P → IfOk r (λ x. P)
always (Ok x) p = p
always (Err e) p = tt

-- The solid that is left.
pub left_solid : (S : List Side) (left : Option (List Side)) (block solid : List Side) → IsLeft S left → left ≡ Some block → solid ≡ block → IsTrimmedTo S solid
left_solid S left block solid h e same = subst (IsTrimmedTo S) (sym same) (subst (IsLeft S) e h)

pub result_is : (n : ℕ) (old new body : List Face) (kept : List Side) → IsSolid (sides_of old) → IsTrimmedTo (sides_of (old ++ new)) kept → IsSolid kept → body ≡ faces_of (length old) old new kept →
    (b : Below) → IsRight b → (trimmed b (old ++ new) ≡ body) × (too_many n body ≡ None)
result_is n old new body kept is t solid e b right = (
  left_is old new kept is t b right ∙ sym e,
  not_many n body (subst (λ l. length l ≤ 128) (sym e) (kept_needed (length old) old new kept solid).most),
)

pub overfull_is : (n count : ℕ) (old new : List Face) (kept : List Side) → IsSolid (sides_of old) → IsTrimmedTo (sides_of (old ++ new)) kept → length kept ≡ count → 128 < count →
    (b : Below) → IsRight b → too_many n (trimmed b (old ++ new)) ≡ Some (TooManyFaces n count)
overfull_is n count old new kept is t e lt b right =
    ap (too_many n) (left_is old new kept is t b right)
    ∙ too_many_are n count (faces_of (length old) old new kept) (length-map kept (face_of (length old) old new) ∙ e) lt
