-- The common part of brushes, as faces.
use Rattle.std.proofs.Common.{◌≡◌, ℕ, zero, suc, ◌+◌, ◌*◌, ◌^◌, ◌<◌, ◌≤◌, List, [], ◌∷◌, ◌++◌, length, map, take, get_or, IsTrue, Bool, true, false, Option, None, Some, refl, ap, sym, subst, ◌∙◌, arith, append_assoc, append-nil, add-one}
use Rattle.std.specs.Prelude.{not}
use Rattle.std.specs.Bool.{Decides}
use Rattle.std.proofs.lemmas.List.{length-map, length-append, take_all}
use Rattle.algebra.specs.Members.{◌∈◌, here, there, Every}
use Rattle.algebra.specs.Space.{HalfSpace}
use Rattle.exact_geom.specs.Planes.{half_space}
use Rattle.trim_laws.specs.Solid.{IsInside}
use Rattle.trim_laws.specs.Valid.{HasInside}
use Rattle.solid_brush.specs.declared.side.Side.{Side}
use Rattle.solid_brush.specs.Sides as solid
use Rattle.solid_brush.specs.Sides.{HaveTags}
use Rattle.solid_brush.specs.Blocks.{IsTrimmedTo}
use Rattle.csg_ops.specs.Cuts.{all_sides, IsFirstApart}
use Rattle.map_nodes.specs.Seen.{sides_from, sides_of}
use Rattle.uv_lock.specs.declared.texture.Format.{Format}
use Rattle.map_model.specs.Faces.{Face}
use Rattle.map_model.specs.Tree.{Whole, brush, is_brush, faces_at, format_of}
use Rattle.map_model.specs.Shape.{FaceOk, FacesOk, half_spaces}
use Rattle.map_model.specs.Below.{Below, IsRight}
use Rattle.map_model.specs.Brushes.{has_inside}
use Rattle.map_model.specs.Replies.{Refusal, Apart}
use Rattle.map_model.specs.Rows.{all_faces, first_apart, refuse, first, intersection}
use Rattle.map_model.proofs.Members.{in_flat}
use Rattle.map_laws.proofs.Skeleton.{kind_is}
use Rattle.map_laws.proofs.BrushRows.{brush_faces}
use Rattle.map_laws.proofs.TrimmedFaces.{Encloses, brush_encloses, encloses_more, faces_proper}
use Rattle.tree_node.specs.Held.{IsMap}
use Rattle.cut_plans.specs.Told.{faces_of, IsTold}
use Rattle.cut_plans.specs.Intersects.{sides_in_turn}
use Rattle.cut_plans.proofs.Faces.{spaces, sides_joined, old_told, are_told, kept_among}
use Rattle.cut_plans.proofs.Trimmed.{not_so, trimmed_is}
use Rattle.cut_plans.proofs.OneSide.{have_tags}

-- The sides of all brushes are those of all faces. --------------------------------------------------------------------------------------

pub all_in_turn : (m : Whole) (k : ℕ) (ns : List ℕ) → all_sides (sides_in_turn m k ns) ≡ sides_from k (all_faces m ns)
all_in_turn m k [] = refl
all_in_turn m k (n ∷ ns) = ap (λ l. sides_from k (faces_at m n) ++ l) (all_in_turn m (k + length (faces_at m n)) ns) ∙ sym (sides_joined k (faces_at m n) (all_faces m ns))

first_in_turn : (m : Whole) (k j : ℕ) (ns : List ℕ) → take j (sides_in_turn m k ns) ≡ sides_in_turn m k (take j ns)
first_in_turn m k zero [] = refl
first_in_turn m k (suc j) [] = refl
first_in_turn m k zero (n ∷ ns) = refl
first_in_turn m k (suc j) (n ∷ ns) = ap (λ l. sides_from k (faces_at m n) ∷ l) (first_in_turn m (k + length (faces_at m n)) j ns)

halves_in_turn : (m : Whole) (j : ℕ) (ns : List ℕ) → solid.half_spaces (all_sides (take j (sides_in_turn m 0 ns))) ≡ half_spaces (all_faces m (take j ns))
halves_in_turn m j ns = ap (λ l. solid.half_spaces (all_sides l)) (first_in_turn m 0 j ns) ∙ ap solid.half_spaces (all_in_turn m 0 (take j ns)) ∙ spaces 0 (all_faces m (take j ns))

pub count_in_turn : (m : Whole) (k : ℕ) (ns : List ℕ) → length (sides_in_turn m k ns) ≡ length ns
count_in_turn m k [] = refl
count_in_turn m k (n ∷ ns) = ap suc (count_in_turn m (k + length (faces_at m n)) ns)

-- The first brush with which the faces so far have no point inside. ---------------------------------------------------------------------

module _ (b : Below) (m : Whole) where
  apart_none : (so_far : List Face) (ns : List ℕ) → ((j : ℕ) → j < length ns → has_inside b (so_far ++ all_faces m (take (suc j) ns)) ≡ true) → first_apart b m so_far ns ≡ None
  apart_none so_far [] each = refl
  apart_none so_far (n ∷ ns) each =
      ap (λ t. first (refuse (not t) (Apart n) ∷ first_apart b m (so_far ++ faces_at m n) ns ∷ []))
      (ap (λ l. has_inside b (so_far ++ l)) (sym (append-nil (faces_at m n))) ∙ each 0 (omega arith))
      ∙ ap (λ o. first (o ∷ [])) (apart_none (so_far ++ faces_at m n) ns
      (λ j lt. ap (has_inside b) (append_assoc so_far (faces_at m n) (all_faces m (take (suc j) ns))) ∙ each (suc j) (omega arith)))

  apart_at : (so_far : List Face) (ns : List ℕ) (k d : ℕ) → k < length ns → ((j : ℕ) → j < k → has_inside b (so_far ++ all_faces m (take (suc j) ns)) ≡ true) →
      has_inside b (so_far ++ all_faces m (take (suc k) ns)) ≡ false → first_apart b m so_far ns ≡ Some (Apart (get_or ns k d))
  apart_at so_far [] k d lt each none = absurd (omega arith)
  apart_at so_far (n ∷ ns) zero d lt each none =
      ap (λ t. first (refuse (not t) (Apart n) ∷ first_apart b m (so_far ++ faces_at m n) ns ∷ []))
      (ap (λ l. has_inside b (so_far ++ l)) (sym (append-nil (faces_at m n))) ∙ none)
  apart_at so_far (n ∷ ns) (suc k) d lt each none =
      ap (λ t. first (refuse (not t) (Apart n) ∷ first_apart b m (so_far ++ faces_at m n) ns ∷ []))
      (ap (λ l. has_inside b (so_far ++ l)) (sym (append-nil (faces_at m n))) ∙ each 0 (omega arith))
      ∙ ap (λ o. first (o ∷ [])) (apart_at (so_far ++ faces_at m n) ns k d (omega arith)
      (λ j l. ap (has_inside b) (append_assoc so_far (faces_at m n) (all_faces m (take (suc j) ns))) ∙ each (suc j) (omega arith))
      (ap (has_inside b) (append_assoc so_far (faces_at m n) (all_faces m (take (suc k) ns))) ∙ none))

-- What is inside all is inside the first of them. ---------------------------------------------------------------------------------------

still_in : (xs ys zs : List Face) → ((h : HalfSpace) → h ∈ half_spaces ys → h ∈ half_spaces zs) → (h : HalfSpace) → h ∈ half_spaces (xs ++ ys) → h ∈ half_spaces (xs ++ zs)
still_in [] ys zs more h i = more h i
still_in (x ∷ xs) ys zs more h here = here
still_in (x ∷ xs) ys zs more h (there i) = there (still_in xs ys zs more h i)

in_first : (m : Whole) (j k : ℕ) (ns : List ℕ) → j ≤ k → (h : HalfSpace) → h ∈ half_spaces (all_faces m (take j ns)) → h ∈ half_spaces (all_faces m (take k ns))
in_first m zero k ns le h i = elim i [ ]
in_first m (suc j) zero ns le h i = absurd (omega arith)
in_first m (suc j) (suc k) [] le h i = i
in_first m (suc j) (suc k) (n ∷ ns) le h i = still_in (faces_at m n) (all_faces m (take j ns)) (all_faces m (take k ns)) (λ g w. in_first m j k ns (omega arith) g w) h i

inside_first : (m : Whole) (j k : ℕ) (ns : List ℕ) → j ≤ k → HasInside (half_spaces (all_faces m (take k ns))) → HasInside (half_spaces (all_faces m (take j ns)))
inside_first m j k ns le h = record { at = h.at; inside = record { weight = h.inside.weight; all = λ f i. h.inside.all f (in_first m j k ns le f i) } }

-- Whether any point is inside faces that enclose a part of the world.
module _ (b : Below) (right : IsRight b) (f : Format) (fs : List Face) (e : Encloses f fs) where
  decides : Decides (has_inside b fs) (HasInside (half_spaces fs))
  decides = right.is_solid (half_spaces fs) (faces_proper f fs e.each) e.bounded

  has_some : HasInside (half_spaces fs) → has_inside b fs ≡ true
  has_some h = decides.1 h

  has_none : ¬ (HasInside (half_spaces fs)) → has_inside b fs ≡ false
  has_none n = not_so (has_inside b fs) decides n

-- The brushes of a map. -----------------------------------------------------------------------------------------------------------------

in_taken : (j : ℕ) (ns : List ℕ) (q : ℕ) → q ∈ take j ns → q ∈ ns
in_taken zero ns q i = elim i [ ]
in_taken (suc j) [] q i = i
in_taken (suc j) (n ∷ ns) q here = here
in_taken (suc j) (n ∷ ns) q (there i) = there (in_taken j ns q i)

module _ (m : Whole) (map_is : IsMap m) where
  brush_ok : (n : ℕ) → IsTrue (is_brush m n) → FacesOk (format_of m) (faces_at m n)
  brush_ok n is = brush_faces m n map_is.shape (kind_is m brush n is)

  all_ok : (ns : List ℕ) → ((q : ℕ) → q ∈ ns → IsTrue (is_brush m q)) → Every (FaceOk (format_of m)) (all_faces m ns)
  all_ok ns brushes g i = let x = in_flat (faces_at m) ns g i in (brush_ok x.0 (brushes x.0 x.1)).each g x.2

  encloses : (n : ℕ) (ns : List ℕ) → ((q : ℕ) → q ∈ (n ∷ ns) → IsTrue (is_brush m q)) → Encloses (format_of m) (all_faces m (n ∷ ns))
  encloses n ns brushes =
      encloses_more (format_of m) (faces_at m n) (all_faces m ns) (brush_encloses (format_of m) (faces_at m n) (brush_ok n (brushes n here))) (all_ok ns (λ q i. brushes q (there i)))

  encloses_first : (j : ℕ) (ns : List ℕ) → 0 < length ns → ((q : ℕ) → q ∈ ns → IsTrue (is_brush m q)) → Encloses (format_of m) (all_faces m (take (suc j) ns))
  encloses_first j [] lt brushes = absurd (omega arith)
  encloses_first j (n ∷ ns) lt brushes = encloses n (take j ns) (λ q i. brushes q (in_taken (suc j) (n ∷ ns) q i))

  encloses_all : (ns : List ℕ) → 0 < length ns → ((q : ℕ) → q ∈ ns → IsTrue (is_brush m q)) → Encloses (format_of m) (all_faces m ns)
  encloses_all [] lt brushes = absurd (omega arith)
  encloses_all (n ∷ ns) lt brushes = encloses n ns brushes

  few_at : (n : ℕ) → IsTrue (is_brush m n) → length (faces_at m n) ≤ 128
  few_at n is = subst (λ k. k ≤ 128) (length-map (faces_at m n) (λ f. half_space f.plane)) (brush_ok n is).valid.most

  pub few_all : (ns : List ℕ) → ((q : ℕ) → q ∈ ns → IsTrue (is_brush m q)) → length (all_faces m ns) ≤ 128 * length ns
  few_all [] brushes = omega arith
  few_all (n ∷ ns) brushes =
      let a = few_at n (brushes n here) in
      let b = few_all ns (λ q i. brushes q (there i)) in
      let e : length (all_faces m (n ∷ ns)) ≡ length (faces_at m n) + length (all_faces m ns) = length-append (faces_at m n) (all_faces m ns) in
      omega (arith, a, b, e)

  module _ (ns : List ℕ) (some : 0 < length ns) (brushes : (q : ℕ) → q ∈ ns → IsTrue (is_brush m q)) where
    abbrev all : List Face
    all = all_faces m ns

    pub turn_tags : length ns < 4096 → HaveTags (all_sides (sides_in_turn m 0 ns))
    turn_tags lt = subst HaveTags (sym (all_in_turn m 0 ns)) (have_tags all (omega (arith, few_all ns brushes)))

    meet_first : (k : ℕ) → HasInside (half_spaces (all_faces m (take k ns))) → (j : ℕ) → j < k → (b : Below) → IsRight b → has_inside b (all_faces m (take (suc j) ns)) ≡ true
    meet_first k h j lt b right = has_some b right (format_of m) (all_faces m (take (suc j) ns)) (encloses_first j ns some brushes) (inside_first m (suc j) k ns (omega arith) h)

    -- The brush at the place k is the first one that is apart.
    pub apart_here : (k d : ℕ) → IsFirstApart (sides_in_turn m 0 ns) k → (b : Below) → IsRight b → first_apart b m [] ns ≡ Some (Apart (get_or ns k d))
    apart_here k d h b right =
        apart_at b m [] ns k d (omega (arith, h.within, count_in_turn m 0 ns))
        (λ j lt. meet_first k (subst HasInside (halves_in_turn m k ns) h.common) j lt b right)
        (has_none b right (format_of m) (all_faces m (take (suc k) ns)) (encloses_first k ns some brushes)
        (λ g. h.empty g.at (subst (λ F. IsInside F g.at) (sym (halves_in_turn m (k + 1) ns ∙ ap (λ j. half_spaces (all_faces m (take j ns))) (add-one k))) g.inside)))

    -- The sides that are kept of all.
    module _ (kept : List Side) (t : IsTrimmedTo (all_sides (sides_in_turn m 0 ns)) kept) where
      all_trimmed : IsTrimmedTo (sides_of all) kept
      all_trimmed = subst (λ l. IsTrimmedTo l kept) (all_in_turn m 0 ns) t

      all_inside : HasInside (half_spaces all)
      all_inside = subst HasInside (spaces 0 all) all_trimmed.volume

      pub none_apart : (b : Below) → IsRight b → first_apart b m [] ns ≡ None
      none_apart b right =
          apart_none b m [] ns (λ j lt. meet_first (length ns) (subst (λ l. HasInside (half_spaces (all_faces m l))) (sym (take_all (length ns) ns (omega arith))) all_inside) j lt b right)

      pub common_is : (b : Below) → IsRight b → intersection b m ns ≡ faces_of (length all) all [] kept
      common_is b right = trimmed_is (length all) all [] (sides_of all) all (old_told (length all) all [] (omega arith)) (encloses_all ns some brushes).bounded kept all_trimmed b right

      pub common_told : Every (IsTold (length all) all []) kept
      common_told s i = are_told (length all) all [] refl s (subst (λ l. s ∈ sides_of l) (sym (append-nil all)) (kept_among s all_trimmed.trim i))
