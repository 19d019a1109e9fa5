-- The sides of faces, and what is built of them.
use Rattle.std.proofs.Common.{◌≡◌, ℕ, suc, ◌+◌, ◌<◌, ◌≤◌, List, [], ◌∷◌, ◌++◌, map, length, get_or, take, refl, ap, sym, subst, ◌∙◌, arith, zero-add}
use Rattle.std.proofs.lemmas.List.{length-map, take_more, length-take-le}
use Rattle.algebra.specs.Members.{◌∈◌, here, there, Every}
use Rattle.algebra.specs.Space.{HalfSpace}
use Rattle.exact_geom.specs.Planes.{half_space}
use Rattle.trim_laws.specs.Trim.{Trims, ends, keeps, drops, Trim, TrimsFaces, no_faces, keeps_face, drops_face}
use Rattle.trim_laws.proofs.Faces.{trim_faces}
use Rattle.solid_brush.specs.declared.side.Side.{Side}
use Rattle.solid_brush.specs.Sides.{half_spaces, bounds, HaveTags, DistinctTags, no_sides, one_more_side, IsBuiltOf}
use Rattle.uv_lock.specs.declared.face.Face.{Face}
use Rattle.map_nodes.specs.Seen.{sides_from, sides_of}

-- ---- the sides of faces

-- Their half-spaces are those of the faces.
pub spaces : (k : ℕ) (fs : List Face) → half_spaces (sides_from k fs) ≡ map (λ f. half_space f.plane) fs
spaces k [] = refl
spaces k (f ∷ fs) = ap (λ F. half_space f.plane ∷ F) (spaces (suc k) fs)

-- They are as many as the faces.
pub sides_length : (k : ℕ) (fs : List Face) → length (sides_from k fs) ≡ length fs
sides_length k [] = refl
sides_length k (f ∷ fs) = ap suc (sides_length (suc k) fs)

tag_within : (k : ℕ) (fs : List Face) (s : Side) → s ∈ sides_from k fs → (k ≤ s.tag) × (s.tag < k + length fs)
tag_within k [] s i = elim i [ ]
tag_within k (f ∷ fs) s here = (omega arith, omega arith)
tag_within k (f ∷ fs) s (there i) = let r = tag_within (suc k) fs s i in let a = r.0 in let b = r.1 in (omega arith, omega arith)

tags_apart : (k : ℕ) (fs : List Face) → DistinctTags (sides_from k fs)
tags_apart k [] = no_sides
tags_apart k (f ∷ fs) = one_more_side (λ t i e. apart k t (tag_within (suc k) fs t i).0 e) (tags_apart (suc k) fs)
  where
    apart : (k : ℕ) (t : Side) → suc k ≤ t.tag → k ≡ t.tag → ⊥
    apart k t w e = omega arith

-- Tags tell them apart.
pub have_tags : (fs : List Face) → length fs ≤ 256 → HaveTags (sides_of fs)
have_tags fs few = record { distinct = tags_apart 0 fs; small = λ s i. let r = (tag_within 0 fs s i).1 in omega arith }

-- Each tag is the place of a face.
pub tags_within : (fs : List Face) → Every (λ s. s.tag < length fs) (sides_of fs)
tags_within fs s i = let r = (tag_within 0 fs s i).1 in omega arith

sides_append : (k : ℕ) (xs : List Face) (x : Face) → sides_from k (xs ++ x ∷ []) ≡ sides_from k xs ++ record { plane = x.plane; tag = k + length xs } ∷ []
sides_append k [] x = λ i. record { plane = x.plane; tag = (let e : k ≡ k + 0 = omega arith in e) i } ∷ []
sides_append k (y ∷ xs) x = ap (λ l. record { plane = y.plane; tag = k } ∷ l)
    (sides_append (suc k) xs x ∙ ap (λ n. sides_from (suc k) xs ++ record { plane = x.plane; tag = n } ∷ []) (let e : suc k + length xs ≡ k + suc (length xs) = omega arith in e))

-- One side more.
pub sides_more : (fs : List Face) (i : ℕ) (f : Face) → i < length fs → f ≡ get_or fs i f → sides_of (take (i + 1) fs) ≡ sides_of (take i fs) ++ record { plane = f.plane; tag = i } ∷ []
sides_more fs i f lt is =
    ap sides_of (take_more fs i f lt) ∙ sides_append 0 (take i fs) (get_or fs i f)
    ∙ (λ j. sides_of (take i fs) ++ record { plane = (sym is j).plane; tag = (zero-add (length (take i fs)) ∙ length-take-le i fs (let w : i ≤ length fs = omega arith in w)) j } ∷ [])

-- ---- what trimming keeps

-- What is kept was there.
pub kept_of : {A : Type 0} {plane : A → HalfSpace} {F earlier rest kept : List A} → TrimsFaces plane F earlier rest kept → (x : A) → x ∈ kept → x ∈ rest
kept_of no_faces x i = i
kept_of (keeps_face k t) x here = here
kept_of (keeps_face k t) x (there i) = there (kept_of t x i)
kept_of (drops_face k t) x i = there (kept_of t x i)

pub kept_fewer : {A : Type 0} {plane : A → HalfSpace} {F earlier rest kept : List A} → TrimsFaces plane F earlier rest kept → length kept ≤ length rest
kept_fewer no_faces = omega arith
kept_fewer (keeps_face k t) = let h = kept_fewer t in omega arith
kept_fewer (drops_face k t) = let h = kept_fewer t in omega arith

-- As many faces as there were are all of them.
pub kept_same : {A : Type 0} {plane : A → HalfSpace} {F earlier rest kept : List A} → TrimsFaces plane F earlier rest kept → length rest ≤ length kept → kept ≡ rest
kept_same no_faces l = refl
kept_same (keeps_face {f = f} k t) l = ap (λ xs. f ∷ xs) (kept_same t (omega arith))
kept_same (drops_face k t) l = absurd (let h = kept_fewer t in omega arith)

trims_fewer : {F earlier rest kept : List HalfSpace} → Trims F earlier rest kept → length kept ≤ length rest
trims_fewer ends = omega arith
trims_fewer (keeps k t) = let h = trims_fewer t in omega arith
trims_fewer (drops k t) = let h = trims_fewer t in omega arith

-- Where trimming keeps as many half-spaces as there are faces, it keeps every face.
pub whole_kept : {A : Type 0} (plane : A → HalfSpace) (F earlier rest : List A) {kept : List HalfSpace} → length rest ≤ length kept → Trims (map plane F) (map plane earlier) (map plane rest) kept →
    TrimsFaces plane F earlier rest rest
whole_kept plane F earlier [] l t = no_faces
whole_kept plane F earlier (f ∷ rest) l (keeps k t) = keeps_face k (whole_kept plane F (f ∷ earlier) rest (omega arith) t)
whole_kept plane F earlier (f ∷ rest) l (drops k t) = let h = trims_fewer t in let e = length-map rest plane in absurd (omega arith)

-- A solid that is built of faces that are all needed has their sides.
pub solid_is : (fs : List Face) (s : List Side) → Trim (map (λ f. half_space f.plane) fs) (map (λ f. half_space f.plane) fs) → IsBuiltOf (sides_of fs) s → s ≡ sides_of fs
solid_is fs s needed built =
    let trimmed : Trim (half_spaces (sides_of fs)) (half_spaces (sides_of fs)) = subst (λ F. Trim F F) (sym (spaces 0 fs)) needed in
    let all = whole_kept bounds (sides_of fs) [] (sides_of fs) (let e = length-map (sides_of fs) bounds in omega arith) trimmed in
    (trim_faces Side bounds (sides_of fs) s built.trim).only (sides_of fs) all
