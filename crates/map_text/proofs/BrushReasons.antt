-- The first reason against a brush is the first of those against its faces.
use Rattle.std.proofs.Common.{◌≡◌, ℕ, ◌+◌, ◌<◌, ◌≤◌, ◌||◌, Bool, true, false, not, nat_lt, cond, List, [], ◌∷◌, ◌++◌, length, map, Option, None, Some, Ok, unsigned_abs, ap, sym, ◌∙◌, refl, arith, ◌⊎◌, inl, inr, ⊎_elim, length-append}
use Rattle.std.proofs.lemmas.Bool.{cases_lt}
use Rattle.std.proofs.lemmas.Bool.Decides.{nat_tests}
use Rattle.std.proofs.lemmas.List.{length-map, map-append}
use Rattle.std.proofs.lemmas.List.Folds.{list_any-append}
use Rattle.std.specs.List.{list_any}
use Rattle.std.specs.Option.{option_map_or}
use Rattle.uv_lock.specs.declared.face.Face.{Face}
use Rattle.map_text.specs.declared.document.RawBrush.{RawBrush}
use Rattle.map_text.specs.declared.document.RawBrush.TheVariants.{Faces as AllFaces, Bad}
use Rattle.map_text.specs.declared.document.Reason.{Reason}
use Rattle.map_text.specs.declared.document.Reason.TheVariants.{Point as NoWholePoint, Range, Texture, Surface, Flat, Many}
use Rattle.map_text.specs.Grammar.{PointText, FaceText}
use Rattle.map_text.specs.Meaning.{is_whole, whole_of, has_fraction, passes_range, passes_limit, has_no_surface, lies_on_line, reason_of, face_of_text, raw_brush_of}
use Rattle.map_text.specs.Judged.{first_reason, first_of, or_else, judge, coordinate_reason, point_reason, points_reason, face_reason, with_face}

-- a reason that holds where the test does, or another one
pick : Bool → Reason → Option Reason → Option Reason
pick b r rest = cond b (Some r) rest

-- ---- the reason against a face

pairs : (a b c d : Bool) → first_of (pick a NoWholePoint (pick b Range None)) (pick c NoWholePoint (pick d Range None)) ≡ pick (a || c) NoWholePoint (pick (b || d) Range None)
unfolding pick
pairs true b true d = refl
pairs true b false true = refl
pairs true b false false = refl
pairs false true true d = refl
pairs false false true d = refl
pairs false true false true = refl
pairs false true false false = refl
pairs false false false true = refl
pairs false false false false = refl

or_assoc : (a b c : Bool) → ((a || b) || c) ≡ (a || (b || c))
or_assoc true b c = refl
or_assoc false b c = refl

or_three : (a b c : Bool) → ((a || b) || c) ≡ (a || (b || (c || false)))
or_three true b c = refl
or_three false true c = refl
or_three false false true = refl
or_three false false false = refl

is_fraction : List ℕ → Bool
is_fraction w = not (is_whole w)

is_far : List ℕ → Bool
is_far w = nat_lt 4352 (unsigned_abs (whole_of w))

-- the first of the reasons of coordinates
reason_in : List (List ℕ) → Option Reason
reason_in ws = pick (list_any is_fraction ws) NoWholePoint (pick (list_any is_far ws) Range None)

point_reason-is : (p : PointText) → point_reason p ≡ reason_in (p.x ∷ p.y ∷ p.z ∷ [])
unfolding pick is_fraction is_far reason_in
point_reason-is p =
    ap (λ r. first_of r (coordinate_reason p.z)) (pairs (is_fraction p.x) (is_far p.x) (is_fraction p.y) (is_far p.y))
    ∙ pairs (is_fraction p.x || is_fraction p.y) (is_far p.x || is_far p.y) (is_fraction p.z) (is_far p.z)
    ∙ (λ i. pick (or_three (is_fraction p.x) (is_fraction p.y) (is_fraction p.z) i) NoWholePoint (pick (or_three (is_far p.x) (is_far p.y) (is_far p.z) i) Range None))

reason_in-append : (xs ys : List (List ℕ)) → first_of (reason_in xs) (reason_in ys) ≡ reason_in (xs ++ ys)
unfolding reason_in
reason_in-append xs ys =
    pairs (list_any is_fraction xs) (list_any is_far xs) (list_any is_fraction ys) (list_any is_far ys)
    ∙ (λ i. pick (sym (list_any-append is_fraction xs ys) i) NoWholePoint (pick (sym (list_any-append is_far xs ys) i) Range None))

points_reason-is : (p q r : PointText) → points_reason (p, q, r) ≡ reason_in (p.x ∷ p.y ∷ p.z ∷ q.x ∷ q.y ∷ q.z ∷ r.x ∷ r.y ∷ r.z ∷ [])
points_reason-is p q r =
    (λ i. first_of (first_of (point_reason-is p i) (point_reason-is q i)) (point_reason-is r i))
    ∙ ap (λ x. first_of x (reason_in (r.x ∷ r.y ∷ r.z ∷ []))) (reason_in-append (p.x ∷ p.y ∷ p.z ∷ []) (q.x ∷ q.y ∷ q.z ∷ []))
    ∙ reason_in-append (p.x ∷ p.y ∷ p.z ∷ q.x ∷ q.y ∷ q.z ∷ []) (r.x ∷ r.y ∷ r.z ∷ [])

-- the first reason, by the tests of the five that a face can have
first_five : (a b c s d : Bool) → Option Reason
first_five a b c s d = pick a NoWholePoint (pick b Range (pick c Texture (pick s Surface (pick d Flat None))))

in_order : (a b c s d : Bool)
    → or_else (pick a NoWholePoint (pick b Range None)) (or_else (or_else (pick c Texture None) (pick s Surface None)) (pick d Flat None)) ≡ first_five a b c s d
unfolding pick first_five
in_order true b c s d = refl
in_order false true c s d = refl
in_order false false true s d = refl
in_order false false false true d = refl
in_order false false false false d = refl

face_reason-is : (f : FaceText) → face_reason f ≡ first_five (has_fraction f) (passes_range f) (passes_limit f.texture) (has_no_surface f.surface) (lies_on_line f)
unfolding pick reason_in is_fraction is_far
face_reason-is f =
    ap (λ r. or_else r (or_else (or_else (pick (passes_limit f.texture) Texture None) (pick (has_no_surface f.surface) Surface None)) (pick (lies_on_line f) Flat None)))
    (points_reason-is f.p0 f.p1 f.p2)
    ∙ in_order (has_fraction f) (passes_range f) (passes_limit f.texture) (has_no_surface f.surface) (lies_on_line f)

-- ---- the first reason of two lists of faces

-- r comes before the reason, if there is one
record ComesFirst (r : Reason) (o : Option Reason) : Type 0 where
  left : first_of (Some r) o ≡ Some r
  right : first_of o (Some r) ≡ Some r

first_none : (r : Reason) → ComesFirst r None
first_none r = record { left = refl; right = refl }

first_pick : (r s : Reason) (b : Bool) (o : Option Reason) → first_reason r s ≡ r → first_reason s r ≡ r → ComesFirst r o → ComesFirst r (pick b s o)
unfolding pick
first_pick r s true o e h k = record { left = ap Some e; right = ap Some h }
first_pick r s false o e h k = k

join_pick : (r : Reason) (a b : Bool) (x y : Option Reason) → first_reason r r ≡ r → ComesFirst r x → ComesFirst r y → first_of (pick a r x) (pick b r y) ≡ pick (a || b) r (first_of x y)
unfolding pick
join_pick r true true x y e h k = ap Some e
join_pick r true false x y e h k = k.left
join_pick r false true x y e h k = h.right
join_pick r false false x y e h k = refl

flats : (a b : Bool) → first_of (pick a Flat None) (pick b Flat None) ≡ pick (a || b) Flat None
flats a b = join_pick Flat a b None None refl (first_none Flat) (first_none Flat)

before_flat : (r : Reason) (d : Bool) → first_reason r Flat ≡ r → first_reason Flat r ≡ r → ComesFirst r (pick d Flat None)
before_flat r d e h = first_pick r Flat d None e h (first_none r)

before_surface : (r : Reason) (s d : Bool) → first_reason r Flat ≡ r → first_reason Flat r ≡ r → first_reason r Surface ≡ r → first_reason Surface r ≡ r
    → ComesFirst r (pick s Surface (pick d Flat None))
before_surface r s d e h k l = first_pick r Surface s (pick d Flat None) k l (before_flat r d e h)

from_surface : (s d s' d' : Bool) → first_of (pick s Surface (pick d Flat None)) (pick s' Surface (pick d' Flat None)) ≡ pick (s || s') Surface (pick (d || d') Flat None)
from_surface s d s' d' =
    join_pick Surface s s' (pick d Flat None) (pick d' Flat None) refl (before_flat Surface d refl refl) (before_flat Surface d' refl refl) ∙ ap (pick (s || s') Surface) (flats d d')

from_texture : (c s d c' s' d' : Bool) → first_of (pick c Texture (pick s Surface (pick d Flat None))) (pick c' Texture (pick s' Surface (pick d' Flat None)))
    ≡ pick (c || c') Texture (pick (s || s') Surface (pick (d || d') Flat None))
from_texture c s d c' s' d' =
    join_pick Texture c c' (pick s Surface (pick d Flat None)) (pick s' Surface (pick d' Flat None)) refl (before_surface Texture s d refl refl refl refl) (before_surface Texture s' d' refl refl refl refl)
    ∙ ap (pick (c || c') Texture) (from_surface s d s' d')

before_texture : (r : Reason) (c s d : Bool) → first_reason r Flat ≡ r → first_reason Flat r ≡ r → first_reason r Surface ≡ r → first_reason Surface r ≡ r
    → first_reason r Texture ≡ r → first_reason Texture r ≡ r → ComesFirst r (pick c Texture (pick s Surface (pick d Flat None)))
before_texture r c s d e h k l m n = first_pick r Texture c (pick s Surface (pick d Flat None)) m n (before_surface r s d e h k l)

first_five-join : (a b c s d a' b' c' s' d' : Bool)
    → first_of (first_five a b c s d) (first_five a' b' c' s' d') ≡ first_five (a || a') (b || b') (c || c') (s || s') (d || d')
unfolding first_five
first_five-join a b c s d a' b' c' s' d' =
    join_pick NoWholePoint a a' (pick b Range (pick c Texture (pick s Surface (pick d Flat None)))) (pick b' Range (pick c' Texture (pick s' Surface (pick d' Flat None)))) refl
    (first_pick NoWholePoint Range b _ refl refl (before_texture NoWholePoint c s d refl refl refl refl refl refl))
    (first_pick NoWholePoint Range b' _ refl refl (before_texture NoWholePoint c' s' d' refl refl refl refl refl refl))
    ∙ ap (pick (a || a') NoWholePoint)
    (join_pick Range b b' (pick c Texture (pick s Surface (pick d Flat None))) (pick c' Texture (pick s' Surface (pick d' Flat None))) refl
    (before_texture Range c s d refl refl refl refl refl refl) (before_texture Range c' s' d' refl refl refl refl refl refl)
    ∙ ap (pick (b || b') Range) (from_texture c s d c' s' d'))

-- such a reason comes before Many
five_before_many : (a b c s d : Bool) (r : Reason) → first_five a b c s d ≡ Some r → first_reason Many r ≡ r
unfolding first_five pick
five_before_many true b c s d r e = let is : NoWholePoint ≡ r = cc in ap (first_reason Many) (sym is) ∙ is
five_before_many false true c s d r e = let is : Range ≡ r = cc in ap (first_reason Many) (sym is) ∙ is
five_before_many false false true s d r e = let is : Texture ≡ r = cc in ap (first_reason Many) (sym is) ∙ is
five_before_many false false false true d r e = let is : Surface ≡ r = cc in ap (first_reason Many) (sym is) ∙ is
five_before_many false false false false true r e = let is : Flat ≡ r = cc in ap (first_reason Many) (sym is) ∙ is
five_before_many false false false false false r e = absurd (cc)

-- the first of the five that holds in some face
reason_in_faces : List FaceText → Option Reason
reason_in_faces fs = first_five (list_any has_fraction fs) (list_any passes_range fs) (list_any (λ f. passes_limit f.texture) fs) (list_any (λ f. has_no_surface f.surface) fs) (list_any lies_on_line fs)

or_none : (a b : Bool) → (a || b) ≡ (a || (b || false))
or_none true b = refl
or_none false true = refl
or_none false false = refl

any_more : {X : Type 0} (p : X → Bool) (xs : List X) (x : X) → (list_any p xs || p x) ≡ list_any p (xs ++ x ∷ [])
any_more p xs x = or_none (list_any p xs) (p x) ∙ sym (list_any-append p xs (x ∷ []))

reason_in_faces-more : (fs : List FaceText) (f : FaceText) → first_of (reason_in_faces fs) (face_reason f) ≡ reason_in_faces (fs ++ f ∷ [])
unfolding reason_in_faces
reason_in_faces-more fs f =
    ap (first_of (reason_in_faces fs)) (face_reason-is f)
    ∙ first_five-join (list_any has_fraction fs) (list_any passes_range fs) (list_any (λ f. passes_limit f.texture) fs) (list_any (λ f. has_no_surface f.surface) fs) (list_any lies_on_line fs)
    (has_fraction f) (passes_range f) (passes_limit f.texture) (has_no_surface f.surface) (lies_on_line f)
    ∙ (λ i. first_five (any_more has_fraction fs f i) (any_more passes_range fs f i) (any_more (λ f. passes_limit f.texture) fs f i)
    (any_more (λ f. has_no_surface f.surface) fs f i) (any_more lies_on_line fs f i))

many_if : ℕ → Option Reason
many_if n = cond (nat_lt 256 n) (Some Many) None

chain : (a b c s d m : Bool) → or_else (first_five a b c s d) (cond m (Some Many) None)
    ≡ cond a (Some NoWholePoint) (cond b (Some Range) (cond c (Some Texture) (cond s (Some Surface) (cond d (Some Flat) (cond m (Some Many) None)))))
unfolding first_five pick
chain true b c s d m = refl
chain false true c s d m = refl
chain false false true s d m = refl
chain false false false true d m = refl
chain false false false false true m = refl
chain false false false false false m = refl

reason_of-is : (fs : List FaceText) → or_else (reason_in_faces fs) (many_if (length fs)) ≡ reason_of fs
unfolding reason_in_faces many_if
reason_of-is fs = chain (list_any has_fraction fs) (list_any passes_range fs) (list_any (λ f. passes_limit f.texture) fs) (list_any (λ f. has_no_surface f.surface) fs) (list_any lies_on_line fs) (nat_lt 256 (length fs))

-- ---- a brush with one more face

brush_by : Option Reason → ℕ → List Face → RawBrush
brush_by reason n faces = option_map_or Bad (or_else reason (many_if n)) (AllFaces faces)

many_no : (n : ℕ) → n ≤ 256 → many_if n ≡ None
unfolding many_if
many_no n h = let test : nat_lt 256 n ≡ false = grind (arith, nat_tests) in rw test refl

many_yes : (n : ℕ) → 256 < n → many_if n ≡ Some Many
unfolding many_if
many_yes n h = let test : nat_lt 256 n ≡ true = grind (arith, nat_tests) in rw test refl

small_more : (n : ℕ) (faces : List Face) (face : Face) → length faces ≡ n → n < 256 → with_face (brush_by None n faces) (Ok face) ≡ brush_by None (n + 1) (faces ++ face ∷ [])
unfolding brush_by
small_more n faces face len h =
    let test : nat_lt (length faces) 256 ≡ true = grind (arith, nat_tests) in
    rw (many_no n (omega arith), test, many_no (n + 1) (omega arith)) refl

full_more : (n : ℕ) (faces : List Face) (face : Face) → length faces ≡ n → n ≡ 256 → with_face (brush_by None n faces) (Ok face) ≡ brush_by None (n + 1) (faces ++ face ∷ [])
unfolding brush_by
full_more n faces face len h =
    let test : nat_lt (length faces) 256 ≡ false = grind (arith, nat_tests) in
    rw (many_no n (omega arith), test, many_yes (n + 1) (omega arith)) refl

past_more : (n : ℕ) (faces : List Face) (face : Face) → 256 < n → with_face (brush_by None n faces) (Ok face) ≡ brush_by None (n + 1) (faces ++ face ∷ [])
unfolding brush_by
past_more n faces face h = rw (many_yes n h, many_yes (n + 1) (omega arith)) refl

good_more : (n : ℕ) (faces : List Face) (face : Face) → length faces ≡ n → with_face (brush_by None n faces) (Ok face) ≡ brush_by None (n + 1) (faces ++ face ∷ [])
good_more n faces face len = by_cases (cases_lt n 256) (cases_lt 256 n)
  where
    by_cases : (n < 256) ⊎ (256 ≤ n) → (256 < n) ⊎ (n ≤ 256) → with_face (brush_by None n faces) (Ok face) ≡ brush_by None (n + 1) (faces ++ face ∷ [])
    by_cases (inl h) k = small_more n faces face len h
    by_cases (inr h) (inl k) = past_more n faces face k
    by_cases (inr h) (inr k) = full_more n faces face len (omega arith)

brush_by-more : (e s : Option Reason) (n : ℕ) (faces : List Face) (face : Face) → length faces ≡ n → ((r : Reason) → s ≡ Some r → first_reason Many r ≡ r)
    → with_face (brush_by e n faces) (judge s face) ≡ brush_by (first_of e s) (n + 1) (faces ++ face ∷ [])
unfolding brush_by
brush_by-more (Some a) (Some b) n faces face len h = refl
brush_by-more (Some a) None n faces face len h = refl
brush_by-more None (Some b) n faces face len h =
    ⊎_elim (λ l. rw (many_yes n l) (ap Bad (h b refl))) (λ l. rw (many_no n l) refl) (cases_lt 256 n)
brush_by-more None None n faces face len h = good_more n faces face len

brush_by-is : (fs : List FaceText) → brush_by (reason_in_faces fs) (length fs) (map face_of_text fs) ≡ raw_brush_of fs
unfolding brush_by
brush_by-is fs = ap (λ r. option_map_or Bad r (AllFaces (map face_of_text fs))) (reason_of-is fs)

five_or_less : (f : FaceText) (r : Reason) → face_reason f ≡ Some r → first_reason Many r ≡ r
five_or_less f r e = five_before_many (has_fraction f) (passes_range f) (passes_limit f.texture) (has_no_surface f.surface) (lies_on_line f) r (sym (face_reason-is f) ∙ e)

pub one_face_more : (fs : List FaceText) (f : FaceText) → with_face (raw_brush_of fs) (judge (face_reason f) (face_of_text f)) ≡ raw_brush_of (fs ++ f ∷ [])
one_face_more fs f =
    ap (λ b. with_face b (judge (face_reason f) (face_of_text f))) (sym (brush_by-is fs))
    ∙ brush_by-more (reason_in_faces fs) (face_reason f) (length fs) (map face_of_text fs) (face_of_text f) (length-map fs face_of_text) (five_or_less f)
    ∙ (λ i. brush_by (reason_in_faces-more fs f i) (sym (length-append fs (f ∷ [])) i) (sym (map-append face_of_text fs (f ∷ [])) i))
    ∙ brush_by-is (fs ++ f ∷ [])
