-- What the tests on solids tell.
use Rattle.std.proofs.Common.{ap, ◌∙◌, arith, inr, cond, length, Result, Ok, Err, ◌≡◌, refl, sym, subst, true≢false, Bool, true, false, not, ◌&&◌, ◌||◌, List, [], ◌∷◌, map, ℤ, pos, ◌*ℤ◌, ◌<ℤ◌}
use Rattle.std.specs.Prelude.{int_lt, T, filter, nat_lt}
use Rattle.std.specs.Bool.{Decides}
use Rattle.std.specs.List.{list_any}
use Rattle.std.specs.Ordering.{int_eq}
use Rattle.std.specs.Int.Signed.{lt_z_yes}
use Rattle.std.proofs.lemmas.Bool.Decides.{Decides-int_eq, Decides-and, Decides-like, Decides-ltb}
use Rattle.algebra.specs.Members.{◌∈◌, here, there}
use Rattle.algebra.specs.Space.{HalfSpace, SameHalfSpace, dot, cross}
use Rattle.trim_laws.specs.SameHalfSpace.{SameByNumbers}
use Rattle.trim_laws.specs.Trim.{IsKept, TrimFaces, TrimsFaces, no_faces, keeps_face, drops_face}
use Rattle.trim_laws.proofs.SameHalfSpace.{same_by_numbers}
use Rattle.trim_laws.proofs.Faces.{trim_faces}
use Rattle.map_model.specs.Faces.{Face}
use Rattle.map_model.specs.Shape.{half_spaces}
use Rattle.map_model.specs.Below.{Below, IsRight}
use Rattle.map_model.specs.Brushes.{is_same_half_space, have_one_half_space, put_if, trimmed, trimmed_from, has_inside, piece_lists, vertices_of}
use Rattle.map_model.specs.Meant.{plane_of, ProperFaces, BoundedFaces, AllBounded, TrimsEach, no_lists, has_piece, no_piece, TrimmedLaw, InsideLaw, OneTrimLaw, PiecesLaw, VerticesLaw, JudgedLaw}
use Rattle.solid_laws.proofs.OneList.{one_list}
use Rattle.map_text.specs.declared.document.Reason.{Reason}
use Rattle.map_text.specs.declared.document.Reason.TheVariants.{Volume, World, Faces as TooManyFaces}

so : (t : Bool) → T t → t ≡ true
so true h = refl
so false h = absurd h

decides_less : (x y : ℤ) → Decides (int_lt x y) (x <ℤ y)
decides_less x y = (λ e. lt_z_yes (subst T (sym e) tt), λ h. so (int_lt x y) h.lt)

-- The test by numbers tells whether two half-spaces are one.
numbers : (f g : HalfSpace) → Decides (is_same_half_space f g) (SameByNumbers f g)
numbers f g =
    Decides-like (is_same_half_space f g)
    (λ h. record { parallel = h.0; along = h.1.0; distance = h.1.1 })
    (λ s. (s.parallel, (s.along, s.distance)))
    (Decides-and (int_eq (dot (cross f.normal g.normal) (cross f.normal g.normal)) (pos 0))
    (int_lt (pos 0) (dot f.normal g.normal) && int_eq (f.distance *ℤ dot g.normal g.normal) (g.distance *ℤ dot f.normal g.normal))
    (Decides-int_eq (dot (cross f.normal g.normal) (cross f.normal g.normal)) (pos 0))
    (Decides-and (int_lt (pos 0) (dot f.normal g.normal)) (int_eq (f.distance *ℤ dot g.normal g.normal) (g.distance *ℤ dot f.normal g.normal))
    (decides_less (pos 0) (dot f.normal g.normal))
    (Decides-int_eq (f.distance *ℤ dot g.normal g.normal) (g.distance *ℤ dot f.normal g.normal))))

pub same_half_space : (f g : HalfSpace) → pos 0 <ℤ dot f.normal f.normal → pos 0 <ℤ dot g.normal g.normal →
    Decides (is_same_half_space f g) (SameHalfSpace f g)
same_half_space f g p q =
    Decides-like (is_same_half_space f g) (same_by_numbers f g p q).1 (same_by_numbers f g p q).0 (numbers f g)

-- None of the faces has the half-space of h.
abbrev NoneIs : List Face → HalfSpace → Type 0
NoneIs fs h = (g : HalfSpace) → g ∈ half_spaces fs → ¬ (SameHalfSpace g h)

none_more : (f : Face) (fs : List Face) (h : HalfSpace) → (¬ (SameHalfSpace (plane_of f) h)) × NoneIs fs h → NoneIs (f ∷ fs) h
none_more f fs h n g here = n.0
none_more f fs h n g (there m) = n.1 g m

none_less : (f : Face) (fs : List Face) (h : HalfSpace) → NoneIs (f ∷ fs) h → (¬ (SameHalfSpace (plane_of f) h)) × NoneIs fs h
none_less f fs h n = (n (plane_of f) here, λ g m. n g (there m))

-- A test of a first item or of the others, at none.
not_or : {P Q : Type 0} (x y : Bool) → Decides x P → Decides (not y) Q → Decides (not (x || y)) ((¬ P) × Q)
not_or true y d k = (λ e. absurd (true≢false (sym e)), λ h. absurd (h.0 (d.0 refl)))
not_or false y d k = (λ e. (λ p. true≢false (sym (d.1 p)), k.0 e), λ h. k.1 h.1)

none_is : (fs : List Face) (f : Face) → ProperFaces fs → pos 0 <ℤ dot (plane_of f).normal (plane_of f).normal →
    Decides (not (list_any (λ g. have_one_half_space g.plane f.plane) fs)) (NoneIs fs (plane_of f))
none_is [] f proper p = (λ e g m. elim m [ ], λ n. refl)
none_is (g ∷ fs) f proper p =
    Decides-like (not (list_any (λ k. have_one_half_space k.plane f.plane) (g ∷ fs))) (none_more g fs (plane_of f)) (none_less g fs (plane_of f))
    (not_or (have_one_half_space g.plane f.plane) (list_any (λ k. have_one_half_space k.plane f.plane) fs)
    (same_half_space (plane_of g) (plane_of f) (proper (plane_of g) here) p)
    (none_is fs f (λ h m. proper h (there m)) p))

-- Whether a face is kept.
kept : (b : Below) (all earlier : List Face) (f : Face) → IsRight b → ProperFaces all → BoundedFaces all → plane_of f ∈ half_spaces all → ProperFaces earlier →
    pos 0 <ℤ dot (plane_of f).normal (plane_of f).normal →
    Decides (not (list_any (λ g. have_one_half_space g.plane f.plane) earlier) && b.bears (half_spaces all) (plane_of f))
    (IsKept (map plane_of all) (map plane_of earlier) (plane_of f))
kept b all earlier f right proper bounded among proper_earlier p =
    Decides-like (not (list_any (λ g. have_one_half_space g.plane f.plane) earlier) && b.bears (half_spaces all) (plane_of f))
    (λ h. record { first = h.0; bears = h.1 }) (λ k. (k.first, k.bears))
    (Decides-and (not (list_any (λ g. have_one_half_space g.plane f.plane) earlier)) (b.bears (half_spaces all) (plane_of f))
    (none_is earlier f proper_earlier p) (right.bears (half_spaces all) (plane_of f) proper bounded among))

keep : (all earlier rest found : List Face) (f : Face) (t : Bool) → Decides t (IsKept (map plane_of all) (map plane_of earlier) (plane_of f)) →
    TrimsFaces plane_of all (f ∷ earlier) rest found → TrimsFaces plane_of all earlier (f ∷ rest) (put_if t f found)
keep all earlier rest found f true d trims = keeps_face (d.0 refl) trims
keep all earlier rest found f false d trims = drops_face (λ k. true≢false (sym (d.1 k))) trims

more_proper : (f : Face) (fs : List Face) → pos 0 <ℤ dot (plane_of f).normal (plane_of f).normal → ProperFaces fs → ProperFaces (f ∷ fs)
more_proper f fs p proper g here = p
more_proper f fs p proper g (there m) = proper g m

trims : (b : Below) (all earlier rest : List Face) → IsRight b → ProperFaces all → BoundedFaces all → ProperFaces earlier →
    ((g : HalfSpace) → g ∈ half_spaces rest → g ∈ half_spaces all) →
    TrimsFaces plane_of all earlier rest (trimmed_from b all earlier rest)
trims b all earlier [] right proper bounded before among = no_faces
trims b all earlier (f ∷ rest) right proper bounded before among =
    let p = proper (plane_of f) (among (plane_of f) here) in
    keep all earlier rest (trimmed_from b all (f ∷ earlier) rest) f
    (not (list_any (λ g. have_one_half_space g.plane f.plane) earlier) && b.bears (half_spaces all) (plane_of f))
    (kept b all earlier f right proper bounded (among (plane_of f) here) before p)
    (trims b all (f ∷ earlier) rest right proper bounded (more_proper f earlier p before) (λ g m. among g (there m)))

pub trimmed_law : TrimmedLaw
trimmed_law b fs right proper bounded = trims b fs [] fs right proper bounded (λ g m. elim m [ ]) (λ g m. m)

pub inside_law : InsideLaw
inside_law b fs right proper bounded = right.is_solid (half_spaces fs) proper bounded

pub one_trim_law : OneTrimLaw
one_trim_law b c fs right too proper bounded =
    (trim_faces Face plane_of fs (trimmed b fs) (trimmed_law b fs right proper bounded)).only (trimmed c fs) (trimmed_law c fs too proper bounded)

-- There is one trimmed list.
one_trim : (b : Below) (fs kept : List Face) → IsRight b → ProperFaces fs → BoundedFaces fs → TrimFaces plane_of fs kept → trimmed b fs ≡ kept
one_trim b fs kept right proper bounded t = (trim_faces Face plane_of fs (trimmed b fs) (trimmed_law b fs right proper bounded)).only kept t

cond_true : {A : Type 0} (t : Bool) (x y : A) → t ≡ true → cond t x y ≡ x
cond_true t x y e = ap (λ u. cond u x y) e

cond_false : {A : Type 0} (t : Bool) (x y : A) → t ≡ false → cond t x y ≡ y
cond_false t x y e = ap (λ u. cond u x y) e

not_so : {P : Type 0} (t : Bool) → Decides t P → ¬ P → t ≡ false
not_so true d n = absurd (n (d.0 refl))
not_so false d n = refl

-- Pieces, list by list.
pieces_of : (b : Below) (lists results : List (List Face)) → IsRight b → AllBounded lists → TrimsEach lists results →
    map (trimmed b) (filter (has_inside b) lists) ≡ results
pieces_of b [] results right bounded no_lists = refl
pieces_of b (fs ∷ lists) results right bounded (has_piece {kept = kept} {results = rest} inside t each) =
    let here_bounded = bounded fs here in
    ap (map (trimmed b)) (cond_true (has_inside b fs) (fs ∷ filter (has_inside b) lists) (filter (has_inside b) lists) ((right.is_solid (half_spaces fs) here_bounded.0 here_bounded.1).1 inside))
    ∙ ap (λ p. p ∷ map (trimmed b) (filter (has_inside b) lists)) (one_trim b fs kept right here_bounded.0 here_bounded.1 t)
    ∙ ap (λ ps. kept ∷ ps) (pieces_of b lists rest right (λ gs m. bounded gs (there m)) each)
pieces_of b (fs ∷ lists) results right bounded (no_piece outside each) =
    let here_bounded = bounded fs here in
    ap (map (trimmed b)) (cond_false (has_inside b fs) (fs ∷ filter (has_inside b) lists) (filter (has_inside b) lists) (not_so (has_inside b fs) (right.is_solid (half_spaces fs) here_bounded.0 here_bounded.1) outside))
    ∙ pieces_of b lists results right (λ gs m. bounded gs (there m)) each

pub pieces_law : PiecesLaw
pieces_law b a by results right bounded are = pieces_of b (piece_lists a by) results right bounded are

pub vertices_law : VerticesLaw
vertices_law b fs vs right valid are = one_list (half_spaces fs) (vertices_of b fs) vs (right.vertices (half_spaces fs) valid) are

-- The faces of a file.
judged : (b : Below) (fs kept : List Face) → Result (List Face) Reason
judged b fs kept = cond (b.is_empty (half_spaces fs)) (Err Volume) (cond (b.leaves_world (half_spaces fs)) (Err World) (cond (nat_lt 128 (length kept)) (Err TooManyFaces) (Ok kept)))

pub judged_law : JudgedLaw
unfolding judged
judged_law b fs right proper =
    let F = half_spaces fs in
    record {
      empty = λ none. cond_true (b.is_empty F) _ _ ((right.is_empty F proper).1 none);
      outside = λ some leaves.
          cond_false (b.is_empty F) _ _ (not_so (b.is_empty F) (right.is_empty F proper) some)
          ∙ cond_true (b.leaves_world F) _ _ ((right.leaves_world F proper (inr some)).1 leaves);
      many = λ kept some stays bounded t more.
          cond_false (b.is_empty F) _ _ (not_so (b.is_empty F) (right.is_empty F proper) some)
          ∙ (cond_false (b.leaves_world F) _ _ (not_so (b.leaves_world F) (right.leaves_world F proper (inr some)) stays)
          ∙ (ap (λ k. cond (nat_lt 128 (length k)) (Err TooManyFaces) (Ok k)) (one_trim b fs kept right proper bounded t)
          ∙ cond_true (nat_lt 128 (length kept)) (Err TooManyFaces) (Ok kept) ((Decides-ltb 128 (length kept)).1 more)));
      good = λ kept some stays bounded t few.
          cond_false (b.is_empty F) _ _ (not_so (b.is_empty F) (right.is_empty F proper) some)
          ∙ (cond_false (b.leaves_world F) _ _ (not_so (b.leaves_world F) (right.leaves_world F proper (inr some)) stays)
          ∙ (ap (λ k. cond (nat_lt 128 (length k)) (Err TooManyFaces) (Ok k)) (one_trim b fs kept right proper bounded t)
          ∙ cond_false (nat_lt 128 (length kept)) (Err TooManyFaces) (Ok kept) (not_so (nat_lt 128 (length kept)) (Decides-ltb 128 (length kept)) (λ more. omega (arith, few, more)))));
    }
