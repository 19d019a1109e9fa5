-- The pieces of a brush without another, as faces.
use Rattle.std.proofs.Common.{◌≡◌, ℕ, zero, suc, ◌+◌, ◌-◌, ◌^◌, ◌<◌, ◌≤◌, List, [], ◌∷◌, ◌++◌, length, map, true, false, Bool, cond, Option, None, Some, refl, ap, sym, subst, ◌∙◌, arith, inl, inr, pos, ◌<ℤ◌}
use Rattle.std.specs.Prelude.{filter}
use Rattle.algebra.specs.Members.{◌∈◌, here, there, Every}
use Rattle.algebra.specs.Space.{HalfSpace, dot, scale, reverse}
use Rattle.algebra.proofs.Expr.{read}
use Rattle.algebra.proofs.Ring.{ring}
use Rattle.algebra.proofs.Orders.{lt_by}
use Rattle.algebra.proofs.Identities.{with_vector, through-swap}
use Rattle.exact_geom.specs.Planes.{vector, half_space}
use Rattle.trim_laws.specs.Solid.{IsInside, Proper}
use Rattle.trim_laws.specs.Valid.{HasInside, Valid}
use Rattle.piece_laws.specs.Pieces.{AreTrimsOf, no_lists, one_solid, one_empty, piece_lists, ArePieces}
use Rattle.solid_brush.specs.declared.side.Side.{Side}
use Rattle.solid_brush.specs.Sides.{bounds, DistinctTags, no_sides, one_more_side, HaveTags, IsSolid, with_base}
use Rattle.solid_brush.specs.Sides as solid
use Rattle.solid_brush.proofs.Meeting.{trimmed_proper}
use Rattle.csg_ops.specs.Cuts.{reversed}
use Rattle.map_nodes.specs.Seen.{sides_from, sides_of}
use Rattle.map_model.specs.Faces.{Face}
use Rattle.map_model.specs.Shape.{half_spaces}
use Rattle.map_model.specs.Meant.{TrimsEach, no_lists as none_left, has_piece, no_piece, AllBounded, ProperFaces, BoundedFaces}
use Rattle.map_model.specs.Below.{Below, IsRight}
use Rattle.map_model.specs.Brushes.{has_inside, pieces, trimmed}
use Rattle.map_model.specs.Brushes as faces
use Rattle.map_model.proofs.Meaning.{pieces_law}
use Rattle.cut_plans.specs.Told.{face_of, faces_of, IsTold}
use Rattle.cut_plans.proofs.Faces.{spaces, old_told, new_told, faces_joined, planes_told, trim_told, kept_among, tag_within}
use Rattle.cut_plans.proofs.Trimmed.{valid_faces, valid_bounded, bounded_more}

-- The sides of two brushes, those of the second with tags from the base on. ---------------------------------------------------------

pub raised : (base k : ℕ) (fs : List Face) → map (with_base base) (sides_from k fs) ≡ sides_from (k + base) fs
raised base k [] = refl
raised base k (f ∷ fs) = ap (λ l. record { plane = f.plane; tag = k + base } ∷ l) (raised base (suc k) fs ∙ ap (λ j. sides_from j fs) (let e : suc k + base ≡ suc (k + base) = omega arith in e))

pub both_told : (base : ℕ) (old new : List Face) → length old ≤ base → faces_of base old new (sides_of old ++ sides_from base new) ≡ old ++ new
both_told base old new le = faces_joined base old new (sides_of old) (sides_from base new) ∙ (λ i. old_told base old new le i ++ new_told base old new i)

distinct_joined : (k : ℕ) (fs : List Face) (others : List Side) → Every (λ t. k + length fs ≤ t.tag) others → DistinctTags others → DistinctTags (sides_from k fs ++ others)
distinct_joined k [] others above d = d
distinct_joined k (f ∷ fs) others above d =
    one_more_side (λ t i e. apart t i e) (distinct_joined (suc k) fs others (λ t i. let h = above t i in omega arith) d)
  where
    later : (xs : List Face) (j : ℕ) (t : Side) → Every (λ u. k < u.tag) others → k < j → t ∈ (sides_from j xs ++ others) → k < t.tag
    later [] j t each lt i = each t i
    later (x ∷ xs) j t each lt here = lt
    later (x ∷ xs) j t each lt (there i) = later xs (suc j) t each (omega arith) i

    apart : (t : Side) → t ∈ (sides_from (suc k) fs ++ others) → k ≡ t.tag → ⊥
    apart t i e = let h = later fs (suc k) t (λ u j. let w = above u j in omega arith) (omega arith) i in omega arith

distinct : (k : ℕ) (fs : List Face) → DistinctTags (sides_from k fs)
distinct k [] = no_sides
distinct k (f ∷ fs) = one_more_side (λ t i e. apart t i e) (distinct (suc k) fs)
  where
    apart : (t : Side) → t ∈ sides_from (suc k) fs → k ≡ t.tag → ⊥
    apart t i e = let w = (tag_within (suc k) fs t i).0 in omega arith

in_either : (xs ys : List Side) (P : Side → Type 0) → Every P xs → Every P ys → Every P (xs ++ ys)
in_either [] ys P p q s i = q s i
in_either (x ∷ xs) ys P p q s here = p x here
in_either (x ∷ xs) ys P p q s (there i) = in_either xs ys P (λ t j. p t (there j)) q s i

pub both_tags : (base : ℕ) (old new : List Face) → length old ≤ base → base + length new ≤ 2 ^ 31 → HaveTags (sides_of old ++ sides_from base new)
both_tags base old new le few = record {
  distinct = distinct_joined 0 old (sides_from base new) (λ t i. let w = (tag_within base new t i).0 in omega arith) (distinct base new);
  small = in_either (sides_of old) (sides_from base new) (λ s. s.tag < 2 ^ 31) (λ s i. let w = (tag_within 0 old s i).1 in omega arith) (λ s i. let w = (tag_within base new s i).1 in omega arith);
}

pub old_are_told : (base : ℕ) (old new : List Face) → length old ≤ base → Every (IsTold base old new) (sides_of old)
old_are_told base old new le s i = let w = (tag_within 0 old s i).1 in inl (omega arith, omega arith)

pub new_are_told : (base : ℕ) (old new : List Face) → Every (IsTold base old new) (sides_from base new)
new_are_told base old new s i = let w = tag_within base new s i in let a = w.0 in let b = w.1 in inr (a, omega arith)

-- Proper lists. ---------------------------------------------------------------------------------------------------------------------

pub brush_proper : (fs : List Face) → IsSolid (sides_of fs) → Proper (half_spaces fs)
brush_proper fs is = let v = valid_faces fs is in trimmed_proper (half_spaces fs) v.volume.at v.trimmed v.volume.inside

pub spaces_more : (xs ys : List Face) → Proper (half_spaces xs) → Proper (half_spaces ys) → Proper (half_spaces (xs ++ ys))
spaces_more [] ys p q g i = q g i
spaces_more (x ∷ xs) ys p q g here = p _ here
spaces_more (x ∷ xs) ys p q g (there i) = spaces_more xs ys (λ h j. p h (there j)) q g i

-- What a piece is trimmed from, as faces. -------------------------------------------------------------------------------------------

module _ (base : ℕ) (old new : List Face) where
  lists_told : (A B : List Side) → map (faces_of base old new) (piece_lists reversed A B) ≡ faces.piece_lists (faces_of base old new A) (faces_of base old new B)
  lists_told A [] = refl
  lists_told A (s ∷ B) =
      (λ i. faces_joined base old new A (reversed s ∷ []) i ∷ map (faces_of base old new) (piece_lists reversed (A ++ s ∷ []) B))
      ∙ ap (λ l. (faces_of base old new A ++ face_of base old new (reversed s) ∷ []) ∷ l)
      (lists_told (A ++ s ∷ []) B ∙ ap (λ l. faces.piece_lists l (faces_of base old new B)) (faces_joined base old new A (s ∷ [])))

  each_told : (lists solids : List (List Side)) → AreTrimsOf bounds lists solids → TrimsEach (map (faces_of base old new) lists) (map (faces_of base old new) solids)
  each_told [] solids no_lists = none_left
  each_told (all ∷ lists) solids (one_solid {kept = kept} {solids = rest} t more) =
      has_piece (subst HasInside (sym (planes_told base old new all)) t.volume) (trim_told base old new all kept t.trim) (each_told lists rest more)
  each_told (all ∷ lists) solids (one_empty none more) =
      no_piece (λ h. none h.at (subst (λ F. IsInside F h.at) (planes_told base old new all) h.inside)) (each_told lists solids more)

  -- The sides of the pieces tell faces.
  told_in : (A B : List Side) → Every (IsTold base old new) A → Every (IsTold base old new) B → (list : List Side) → list ∈ piece_lists reversed A B → Every (IsTold base old new) list
  told_in A [] p q list i = elim i [ ]
  told_in A (s ∷ B) p q list here = in_either A (reversed s ∷ []) (IsTold base old new) p (only s (q s here))
    where
      only : (s : Side) → IsTold base old new s → Every (IsTold base old new) (reversed s ∷ [])
      only s is t here = is
      only s is t (there i) = elim i [ ]
  told_in A (s ∷ B) p q list (there i) = told_in (A ++ s ∷ []) B (in_either A (s ∷ []) (IsTold base old new) p (only s (q s here))) (λ t j. q t (there j)) list i
    where
      only : (s : Side) → IsTold base old new s → Every (IsTold base old new) (s ∷ [])
      only s is t here = is
      only s is t (there i) = elim i [ ]

  trims_told : (lists solids : List (List Side)) → AreTrimsOf bounds lists solids → ((list : List Side) → list ∈ lists → Every (IsTold base old new) list) →
      (kept : List Side) → kept ∈ solids → Every (IsTold base old new) kept
  trims_told [] solids no_lists each kept i = elim i [ ]
  trims_told (all ∷ lists) solids (one_solid t more) each kept here = λ s j. each all here s (kept_among s t.trim j)
  trims_told (all ∷ lists) solids (one_solid {solids = rest} t more) each kept (there i) = trims_told lists rest more (λ l j. each l (there j)) kept i
  trims_told (all ∷ lists) solids (one_empty none more) each kept i = trims_told lists solids more (λ l j. each l (there j)) kept i

-- The pieces of a brush without another. --------------------------------------------------------------------------------------------

turned : (f : Face) → half_space (faces.reversed f).plane ≡ reverse (half_space f.plane)
turned f = through-swap (vector f.plane.p0) (vector f.plane.p1) (vector f.plane.p2)

reverse_proper : (h : HalfSpace) → pos 0 <ℤ dot h.normal h.normal → pos 0 <ℤ dot (reverse h).normal (reverse h).normal
unfolding reverse dot scale
reverse_proper h p = lt_by (dot h.normal h.normal) p (ring (with_vector h.normal []) (search read depth 20) tt)

alone_proper : (f : Face) → pos 0 <ℤ dot (half_space f.plane).normal (half_space f.plane).normal → ProperFaces (f ∷ [])
alone_proper f p g here = p
alone_proper f p g (there i) = elim i [ ]

reversed_proper : (f : Face) → pos 0 <ℤ dot (half_space f.plane).normal (half_space f.plane).normal → ProperFaces (faces.reversed f ∷ [])
reversed_proper f p = alone_proper (faces.reversed f) (subst (λ h. pos 0 <ℤ dot h.normal h.normal) (sym (turned f)) (reverse_proper (half_space f.plane) p))

spaces_first : (xs ys : List Face) (g : HalfSpace) → g ∈ half_spaces xs → g ∈ half_spaces (xs ++ ys)
spaces_first [] ys g i = elim i [ ]
spaces_first (x ∷ xs) ys g here = here
spaces_first (x ∷ xs) ys g (there i) = there (spaces_first xs ys g i)

more_bounded : (xs ys : List Face) → BoundedFaces xs → BoundedFaces (xs ++ ys)
more_bounded xs ys bounded = bounded_more (half_spaces xs) (half_spaces (xs ++ ys)) (spaces_first xs ys) bounded

lists_bounded : (so_far rest : List Face) → ProperFaces so_far → BoundedFaces so_far → ProperFaces rest → AllBounded (faces.piece_lists so_far rest)
lists_bounded so_far [] p bounded q fs i = elim i [ ]
lists_bounded so_far (f ∷ rest) p bounded q fs here =
    (spaces_more so_far (faces.reversed f ∷ []) p (reversed_proper f (q (half_space f.plane) here)), more_bounded so_far (faces.reversed f ∷ []) bounded)
lists_bounded so_far (f ∷ rest) p bounded q fs (there i) =
    lists_bounded (so_far ++ f ∷ []) rest (spaces_more so_far (f ∷ []) p (alone_proper f (q (half_space f.plane) here))) (more_bounded so_far (f ∷ []) bounded) (λ g j. q g (there j)) fs i

module _ (base : ℕ) (old new : List Face) (solids : List (List Side)) (le : length old ≤ base) (is : IsSolid (sides_of old)) (also : IsSolid (sides_of new)) (are : ArePieces bounds reversed (sides_of old) (sides_from base new) solids) where
  pub pieces_are : (b : Below) → IsRight b → pieces b old new ≡ map (faces_of base old new) solids
  pieces_are b right =
      pieces_law b old new (map (faces_of base old new) solids) right
      (lists_bounded old new (brush_proper old is) (valid_bounded (half_spaces old) (valid_faces old is)) (brush_proper new also))
      (subst (λ l. TrimsEach l (map (faces_of base old new) solids))
      (lists_told base old new (sides_of old) (sides_from base new) ∙ (λ i. faces.piece_lists (old_told base old new le i) (new_told base old new i)))
      (each_told base old new (piece_lists reversed (sides_of old) (sides_from base new)) solids are))

  pub pieces_told : (kept : List Side) → kept ∈ solids → Every (IsTold base old new) kept
  pieces_told = trims_told base old new (piece_lists reversed (sides_of old) (sides_from base new)) solids are
      (told_in base old new (sides_of old) (sides_from base new) (old_are_told base old new le) (new_are_told base old new))

-- There are no more pieces than the other brush has faces.
chosen : {A B : Type 0} (f : A → B) (test : A → Bool) (xs : List A) → length (map f (filter test xs)) ≤ length xs
chosen f test [] = omega arith
chosen f test (x ∷ xs) = let h = chosen f test xs in
    elim (test x) as (λ t. length (map f (cond t (x ∷ filter test xs) (filter test xs))) ≤ suc (length xs)) [ true ↦ omega arith | false ↦ omega arith ]

lists_count : (so_far rest : List Face) → length (faces.piece_lists so_far rest) ≡ length rest
lists_count so_far [] = refl
lists_count so_far (f ∷ rest) = ap suc (lists_count (so_far ++ f ∷ []) rest)

pub pieces_few : (b : Below) (a by : List Face) → length (pieces b a by) ≤ length by
pieces_few b a by = omega (arith, chosen (trimmed b) (has_inside b) (faces.piece_lists a by), lists_count a by)
