-- Pieces of sides, as pieces of faces.
use Rattle.std.proofs.Common.{◌≡◌, ℕ, suc, ◌≤◌, List, [], ◌∷◌, ◌++◌, length, map, Bool, true, false, cond, refl, ap, sym, subst, ◌∙◌, arith, pos, ◌<ℤ◌}
use Rattle.std.specs.Prelude.{filter}
use Rattle.std.proofs.lemmas.List.{length-map}
use Rattle.algebra.specs.Members.{◌∈◌, here, there, Every}
use Rattle.algebra.specs.Space.{HalfSpace, dot, scale, reverse}
use Rattle.algebra.proofs.Expr.{read}
use Rattle.algebra.proofs.Ring.{ring}
use Rattle.algebra.proofs.Orders.{lt_by}
use Rattle.algebra.proofs.Identities.{with_vector, through-swap}
use Rattle.exact_geom.specs.Planes.{half_space, vector}
use Rattle.trim_laws.specs.Solid.{IsInside}
use Rattle.trim_laws.specs.Valid.{HasInside}
use Rattle.piece_laws.specs.Pieces.{AreTrimsOf, no_lists, one_solid, one_empty}
use Rattle.piece_laws.specs.Pieces as solid_pieces
use Rattle.solid_brush.specs.declared.side.Side.{Side}
use Rattle.solid_brush.specs.Sides.{bounds}
use Rattle.map_model.specs.Faces.{Face}
use Rattle.map_model.specs.Shape.{half_spaces}
use Rattle.map_model.specs.Below.{Below, IsRight}
use Rattle.map_model.specs.Brushes.{reversed, piece_lists, pieces, trimmed, has_inside}
use Rattle.map_model.specs.Meant.{ProperFaces, BoundedFaces, TrimsEach, has_piece, no_piece, AllBounded}
use Rattle.map_model.specs.Meant as meant
use Rattle.map_model.proofs.Meaning.{pieces_law}
use Rattle.csg_ops.specs.Cuts.{reversed as reversed_side}
use Rattle.cut_plans.specs.Told.{faces_of, IsTold}
use Rattle.cut_plans.proofs.Faces.{faces_joined, planes_told, trim_told, kept_among}
use Rattle.cut_plans.proofs.Trimmed.{bounded_more}

module _ (base : ℕ) (old new : List Face) where
  abbrev told_lists : List (List Side) → List (List Face)
  told_lists lists = map (faces_of base old new) lists

  lists_told : (a b : List Side) → told_lists (solid_pieces.piece_lists reversed_side a b) ≡ piece_lists (faces_of base old new a) (faces_of base old new b)
  lists_told a [] = refl
  lists_told a (s ∷ b) =
      (λ i. faces_joined base old new a (reversed_side s ∷ []) i ∷ lists_told (a ++ s ∷ []) b i)
      ∙ ap (λ l. (faces_of base old new a ++ faces_of base old new (reversed_side s ∷ [])) ∷ piece_lists l (faces_of base old new b)) (faces_joined base old new a (s ∷ []))

  each_told : {lists solids : List (List Side)} → AreTrimsOf bounds lists solids → TrimsEach (told_lists lists) (told_lists solids)
  each_told no_lists = meant.no_lists
  each_told (one_solid {all = all} {kept = kept} h later) =
      has_piece (subst HasInside (sym (planes_told base old new all)) h.volume) (trim_told base old new all kept h.trim) (each_told later)
  each_told (one_empty {all = all} none later) =
      no_piece (λ h. none h.at (subst (λ F. IsInside F h.at) (planes_told base old new all) h.inside)) (each_told later)

  -- The solids are the pieces that tests make of the faces.
  pub pieces_are : (a b : List Side) (solids : List (List Side)) → solid_pieces.ArePieces bounds reversed_side a b solids → AllBounded (piece_lists (faces_of base old new a) (faces_of base old new b)) →
      (c : Below) → IsRight c → pieces c (faces_of base old new a) (faces_of base old new b) ≡ told_lists solids
  pieces_are a b solids are bounded c right =
      pieces_law c (faces_of base old new a) (faces_of base old new b) (told_lists solids) right bounded (subst (λ l. TrimsEach l (told_lists solids)) (lists_told a b) (each_told are))

  -- Their sides' tags tell faces.
  each_joined : (P : Side → Type 0) (xs ys : List Side) → Every P xs → Every P ys → Every P (xs ++ ys)
  each_joined P [] ys p q s i = q s i
  each_joined P (x ∷ xs) ys p q s here = p s here
  each_joined P (x ∷ xs) ys p q s (there i) = each_joined P xs ys (λ r j. p r (there j)) q s i

  only_told : (s : Side) → IsTold base old new s → Every (IsTold base old new) (s ∷ [])
  only_told s h r here = h
  only_told s h r (there i) = elim i [ ]

  only_turned : (s : Side) → IsTold base old new s → Every (IsTold base old new) (reversed_side s ∷ [])
  only_turned s h r here = h
  only_turned s h r (there i) = elim i [ ]

  told_in_lists : (a b : List Side) → Every (IsTold base old new) a → Every (IsTold base old new) b → Every (Every (IsTold base old new)) (solid_pieces.piece_lists reversed_side a b)
  told_in_lists a [] p q l i = elim i [ ]
  told_in_lists a (s ∷ b) p q l here = each_joined (IsTold base old new) a (reversed_side s ∷ []) p (only_turned s (q s here))
  told_in_lists a (s ∷ b) p q l (there i) = told_in_lists (a ++ s ∷ []) b (each_joined (IsTold base old new) a (s ∷ []) p (only_told s (q s here))) (λ r j. q r (there j)) l i

  told_kept : {lists solids : List (List Side)} → AreTrimsOf bounds lists solids → Every (Every (IsTold base old new)) lists → Every (Every (IsTold base old new)) solids
  told_kept no_lists p l i = elim i [ ]
  told_kept (one_solid {all = all} h later) p l here = λ s j. p all here s (kept_among s h.trim j)
  told_kept (one_solid h later) p l (there i) = told_kept later (λ k j. p k (there j)) l i
  told_kept (one_empty none later) p l i = told_kept later (λ k j. p k (there j)) l i

  pub pieces_told : (a b : List Side) (solids : List (List Side)) → solid_pieces.ArePieces bounds reversed_side a b solids → Every (IsTold base old new) a → Every (IsTold base old new) b →
      Every (Every (IsTold base old new)) solids
  pieces_told a b solids are p q = told_kept are (told_in_lists a b p q)

-- Lists of pieces are proper and bounded. -------------------------------------------------------------------------------------------

proper_joined : (xs ys : List Face) → ProperFaces xs → ProperFaces ys → ProperFaces (xs ++ ys)
proper_joined [] ys p q g i = q g i
proper_joined (x ∷ xs) ys p q g here = p (half_space x.plane) here
proper_joined (x ∷ xs) ys p q g (there i) = proper_joined xs ys (λ h j. p h (there j)) q g i

first_in : (xs ys : List Face) (g : HalfSpace) → g ∈ half_spaces xs → g ∈ half_spaces (xs ++ ys)
first_in [] ys g i = elim i [ ]
first_in (x ∷ xs) ys g here = here
first_in (x ∷ xs) ys g (there i) = there (first_in xs ys g i)

single : (f : Face) → pos 0 <ℤ dot (half_space f.plane).normal (half_space f.plane).normal → ProperFaces (f ∷ [])
single f h g here = h
single f h g (there i) = elim i [ ]

reverse_proper : (f : HalfSpace) → pos 0 <ℤ dot f.normal f.normal → pos 0 <ℤ dot (reverse f).normal (reverse f).normal
unfolding reverse dot scale
reverse_proper f p = lt_by (dot f.normal f.normal) p (ring (with_vector f.normal []) (search read depth 20) tt)

turned : (f : Face) → half_space (reversed f).plane ≡ reverse (half_space f.plane)
turned f = through-swap (vector f.plane.p0) (vector f.plane.p1) (vector f.plane.p2)

proper_turned : (f : Face) → pos 0 <ℤ dot (half_space f.plane).normal (half_space f.plane).normal → ProperFaces (reversed f ∷ [])
proper_turned f h = single (reversed f) (subst (λ g. pos 0 <ℤ dot g.normal g.normal) (sym (turned f)) (reverse_proper (half_space f.plane) h))

pub lists_bounded : (a b : List Face) → ProperFaces a → BoundedFaces a → ((f : Face) → f ∈ b → pos 0 <ℤ dot (half_space f.plane).normal (half_space f.plane).normal) → AllBounded (piece_lists a b)
lists_bounded a [] p q each l i = elim i [ ]
lists_bounded a (f ∷ b) p q each l here = (
  proper_joined a (reversed f ∷ []) p (proper_turned f (each f here)),
  bounded_more (half_spaces a) (half_spaces (a ++ reversed f ∷ [])) (first_in a (reversed f ∷ [])) q,
)
lists_bounded a (f ∷ b) p q each l (there i) =
    lists_bounded (a ++ f ∷ []) b (proper_joined a (f ∷ []) p (single f (each f here))) (bounded_more (half_spaces a) (half_spaces (a ++ f ∷ [])) (first_in a (f ∷ [])) q) (λ g j. each g (there j)) l i

-- How many pieces there are.
kept_fewer : {A : Type 0} (p : A → Bool) (xs : List A) → length (filter p xs) ≤ length xs
kept_fewer p [] = omega arith
kept_fewer {A} p (x ∷ xs) = by (p x) (kept_fewer p xs)
  where
    by : (t : Bool) → length (filter p xs) ≤ length xs → length (cond t (x ∷ filter p xs) (filter p xs)) ≤ length (x ∷ xs)
    by true h = omega arith
    by false h = omega arith

lists_many : (a b : List Face) → length (piece_lists a b) ≡ length b
lists_many a [] = refl
lists_many a (f ∷ b) = ap suc (lists_many (a ++ f ∷ []) b)

pub few_pieces : (c : Below) (a b : List Face) → length (pieces c a b) ≤ length b
few_pieces c a b = omega (arith, length-map (filter (has_inside c) (piece_lists a b)) (trimmed c), kept_fewer (has_inside c) (piece_lists a b), lists_many a b)
