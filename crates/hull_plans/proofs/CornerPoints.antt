-- The vertices of brushes as points, one brush after another.
use Rattle.std.proofs.Common.{◌≡◌, ℕ, ◌+◌, ◌*◌, ◌<◌, ◌≤◌, ◌^◌, List, [], ◌∷◌, ◌++◌, length, map, flat_map, take, get_or, Bool, true, false, not, ◌&&◌, Option, None, Some, Result, Ok, Err, refl, ap, sym, subst, ◌∙◌, arith, pos, append_assoc}
use Rattle.std.specs.Prelude.{IsErrAnd}
use Rattle.std.specs.List.{list_all}
use Rattle.std.proofs.lemmas.Bool.Decides.{Decides-int_eq}
use Rattle.std.proofs.lemmas.List.{append-nil, length-append, length-map, take_all, take_more}
use Rattle.algebra.specs.Members.{◌∈◌, here, there, Every}
use Rattle.algebra.specs.Space.{Homogeneous, whole_point}
use Rattle.algebra.specs.World.{InCube, world}
use Rattle.exact_geom.specs.declared.point.Point.{Point}
use Rattle.solid_laws.specs.Names.{AreVertices}
use Rattle.solid_laws.proofs.OneList.{one_list}
use Rattle.solid_brush.specs.declared.side.Side.{Side}
use Rattle.solid_brush.specs.Sides.{IsSolid}
use Rattle.solid_brush.specs.Sides as solid
use Rattle.hull_merge.specs.Gathered.{whole_of, HasWeight}
use Rattle.map_nodes.specs.Seen.{sides_of}
use Rattle.map_model.specs.Faces.{Face}
use Rattle.map_model.specs.Shape.{half_spaces}
use Rattle.map_model.specs.Tree.{Whole, faces_at}
use Rattle.map_model.specs.Below.{Below, IsRight}
use Rattle.map_model.specs.Brushes.{is_whole, as_point, vertices_of}
use Rattle.map_model.specs.Replies.{FractionalVertex}
use Rattle.map_model.specs.Rows.{refuse}
use Rattle.map_model.proofs.Members.{map_in}
use Rattle.map_laws.proofs.Tests.{all_true}
use Rattle.tree_ops.specs.declared.fault.OpFault.{OpFault}
use Rattle.tree_ops.specs.declared.fault.OpFault.TheVariants.{No, Memory}
use Rattle.tree_ops.proofs.Outcomes.{err_is}
use Rattle.brush_plans.proofs.RowLoops.{Passed, passed_row, stopped_row, passed_all}
use Rattle.cut_plans.proofs.Faces.{spaces}
use Rattle.cut_plans.proofs.Trimmed.{valid_faces}
use Rattle.hull_plans.specs.Merges.{AreInWorld, corners_at, fraction, AreCornersAt, IsCornersAt, IsCorners}

-- Whole vertices are their points.
as_points : (points : List Point) → map as_point (map whole_of points) ≡ points
unfolding whole_point
as_points [] = refl
as_points (p ∷ points) = ap (λ l. p ∷ l) (as_points points)

all_whole : (points : List Point) → list_all is_whole (map whole_of points) ≡ true
unfolding whole_point
all_whole [] = refl
all_whole (p ∷ points) = ap (λ t. t && list_all is_whole (map whole_of points)) ((Decides-int_eq (pos 1) (pos 1)).1 refl) ∙ all_whole points

not_whole : (V : List Homogeneous) → HasWeight V → list_all is_whole V ≡ false
not_whole V w = by (list_all is_whole V) refl
  where
    by : (t : Bool) → list_all is_whole V ≡ t → t ≡ false
    by false e = refl
    by true e = absurd (w.weight ((Decides-int_eq w.at.weight (pos 1)).0 (all_true is_whole V e w.at w.among)))

-- The vertices of one brush.
module _ (m : Whole) (n : ℕ) (faces : List Face) (sides : List Side) (V : List Homogeneous) (is : faces ≡ faces_at m n) (valid : IsSolid (sides_of faces)) (these : sides ≡ sides_of faces)
    (are : AreVertices (solid.half_spaces sides) V) where
  their_vertices : (b : Below) → IsRight b → vertices_of b (faces_at m n) ≡ V
  their_vertices b right =
      let F = half_spaces faces in
      ap (vertices_of b) (sym is)
      ∙ one_list F (vertices_of b faces) V (right.vertices F (valid_faces faces valid)) (subst (λ G. AreVertices G V) (ap solid.half_spaces these ∙ spaces 0 faces) are)

  pub corners_are : (points : List Point) → map whole_of points ≡ V → Every (InCube world) V → length V ≤ 1040384 → AreCornersAt m n points
  corners_are points e within few = record {
    are = λ b right. ap (map as_point) (their_vertices b right ∙ sym e) ∙ as_points points;
    whole = λ b right.
        ap (λ vs. refuse (not (list_all is_whole vs)) (FractionalVertex n)) (their_vertices b right ∙ sym e)
        ∙ ap (λ t. refuse (not t) (FractionalVertex n)) (all_whole points);
    within = λ p i. within (whole_of p) (subst (λ W. whole_of p ∈ W) e (map_in whole_of points p i));
    few = subst (λ k. k ≤ 1040384) (ap length (sym e) ∙ length-map points whole_of) few;
  }

  pub fraction_is : HasWeight V → (b : Below) → IsRight b → fraction m n b ≡ Some (FractionalVertex n)
  fraction_is w b right =
      ap (λ vs. refuse (not (list_all is_whole vs)) (FractionalVertex n)) (their_vertices b right)
      ∙ ap (λ t. refuse (not t) (FractionalVertex n)) (not_whole V w)

-- Those of several.
flat-more : {A B : Type 0} (f : A → List B) (xs : List A) (x : A) → flat_map f (xs ++ x ∷ []) ≡ flat_map f xs ++ f x
flat-more f [] x = append-nil (f x)
flat-more f (y ∷ xs) x = ap (λ l. f y ++ l) (flat-more f xs x) ∙ sym (append_assoc (f y) (flat_map f xs) (f x))

joined : (xs ys : List Point) → AreInWorld xs → AreInWorld ys → AreInWorld (xs ++ ys)
joined [] ys a b p i = b p i
joined (x ∷ xs) ys a b p here = a _ here
joined (x ∷ xs) ys a b p (there i) = joined xs ys (λ q j. a q (there j)) b p i

few_points : (n k : ℕ) → k < 4096 → n ≤ k * 1040384 → n < 2 ^ 32
few_points n k l m = omega arith

module _ (m : Whole) (ns : List ℕ) where
  -- The first i brushes are done.
  pub record Gathering (i : ℕ) (now : List Point) : Type 0 where
    pub reached : i ≤ length ns
    pub are : (b : Below) → IsRight b → flat_map (corners_at b m) (take i ns) ≡ now
    pub passed : (b : Below) → IsRight b → Passed (λ n. fraction m n b) ns i
    pub within : AreInWorld now
    pub few : length now ≤ i * 1040384

  pub none_gathered : (now : List Point) → now ≡ [] → Gathering 0 now
  none_gathered now e = record {
    reached = omega arith;
    are = λ b right. sym e;
    passed = λ b right. record { rest = refl };
    within = subst AreInWorld (sym e) (λ p i. elim i [ ]);
    few = subst (λ l. length l ≤ 0 * 1040384) (sym e) (omega arith);
  }

  pub one_gathered : (i n : ℕ) (now new points : List Point) → i < length ns → n ≡ get_or ns i n → Gathering i now → AreCornersAt m n points → new ≡ now ++ points → Gathering (i + 1) new
  one_gathered i n now new points lt is g c more = record {
    reached = omega (arith, lt);
    are = λ b right.
        ap (flat_map (corners_at b m)) (take_more ns i n lt) ∙ flat-more (corners_at b m) (take i ns) (get_or ns i n)
        ∙ (λ j. g.are b right j ++ (ap (corners_at b m) (sym is) ∙ c.are b right) j) ∙ sym more;
    passed = λ b right. passed_row (λ n. fraction m n b) ns i n lt is (g.passed b right) (c.whole b right);
    within = subst AreInWorld (sym more) (joined now points g.within c.within);
    few = let a = g.few in let k = c.few in let e = ap length more in let l = length-append now points in omega arith;
  }

  pub gathering_stops : (i n : ℕ) (now : List Point) (why : OpFault) (r : Result (List Point) OpFault) → i < length ns → n ≡ get_or ns i n → Gathering i now → IsErrAnd r (λ e. e ≡ why) →
      IsCornersAt m n (Err why) → IsCorners m ns r
  gathering_stops i n now (No refusal) r lt is g e stops = subst (IsCorners m ns) (sym (err_is r (No refusal) e))
      (λ b right. stopped_row (λ n. fraction m n b) ns i n lt is (g.passed b right) refusal (stops b right))
  gathering_stops i n now Memory r lt is g e stops = subst (IsCorners m ns) (sym (err_is r Memory e)) tt

  pub all_gathered : (i : ℕ) (now all : List Point) → length ns < 4096 → length ns ≤ i → Gathering i now → all ≡ now → IsCorners m ns (Ok all)
  all_gathered i now all most le g e = record {
    are = λ b right. ap (flat_map (corners_at b m)) (sym (take_all i ns le)) ∙ g.are b right ∙ sym e;
    whole = λ b right. passed_all (λ n. fraction m n b) ns i le (g.passed b right);
    within = subst AreInWorld (sym e) g.within;
    few = subst (λ l. length l < 2 ^ 32) (sym e) (few_points (length now) i (omega (arith, most, g.reached)) g.few);
  }
