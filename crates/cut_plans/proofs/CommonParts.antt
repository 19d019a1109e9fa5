-- What a call makes of the solids of brushes, as what `intersect` makes of a map.
use Rattle.std.proofs.Common.{◌≡◌, ℕ, ◌+◌, ◌*◌, ◌^◌, ◌<◌, ◌≤◌, List, [], ◌∷◌, length, take, IsTrue, get_or, Option, Some, Ok, refl, ap, sym, subst, ◌∙◌, arith}
use Rattle.algebra.specs.Members.{◌∈◌, Every}
use Rattle.solid_brush.specs.declared.side.Side.{Side}
use Rattle.solid_brush.specs.Sides.{HaveTags, IsSolid}
use Rattle.solid_brush.specs.Blocks.{IsTrimmedTo}
use Rattle.csg_ops.specs.Cuts.{all_sides, IsFirstApart, IsOverfullOf}
use Rattle.map_model.specs.Faces.{Face}
use Rattle.map_model.specs.Tree.{Whole}
use Rattle.map_model.specs.Below.{Below, IsRight}
use Rattle.map_model.specs.Commands.{Settings}
use Rattle.map_model.specs.Replies.{Apart, TooManyFaces}
use Rattle.map_model.specs.Rows.{first, first_of, all_faces}
use Rattle.tree_node.specs.Held.{IsMap}
use Rattle.tree_ops.specs.Passing.{passes}
use Rattle.brush_plans.specs.NamedRows.{brush_rows}
use Rattle.cut_plans.specs.Told.{faces_of, IsTold}
use Rattle.cut_plans.specs.Intersects.{sides_in_turn, intersect_refusal, IsIntersection}
use Rattle.cut_plans.proofs.Intersected.{count_in_turn, few_all, turn_tags, common_told}
use Rattle.cut_plans.proofs.IntersectRows.{first_is, brushes, stops_apart, intersects, stops_many}

module _ (s : Settings) (m : Whole) (ns : List ℕ) (named : Ok tt ≡ passes (first (brush_rows m ns))) (map_is : IsMap m) (some : 0 < length ns) (list : List (List Side)) (these : list ≡ sides_in_turn m 0 ns) where
  pub some_solids : 0 < length list
  some_solids = omega (arith, some, ap length these, count_in_turn m 0 ns)

  pub solid_tags : length ns < 4096 → HaveTags (all_sides list)
  solid_tags few = subst (λ l. HaveTags (all_sides l)) (sym these) (turn_tags m map_is ns some (brushes s m ns named map_is some) few)

  pub first_apart_is : (k d : ℕ) → IsFirstApart list k → (b : Below) → IsRight b → intersect_refusal s m ns b ≡ Some (Apart (get_or ns k d))
  first_apart_is k d h = stops_apart s m ns named map_is some k d (subst (λ l. IsFirstApart l k) these h)

  pub place_within : (k : ℕ) → IsFirstApart list k → k < length ns
  place_within k h = omega (arith, h.within, ap length these, count_in_turn m 0 ns)

  pub overfull_is : (count : ℕ) → IsOverfullOf (all_sides list) count → (b : Below) → IsRight b → intersect_refusal s m ns b ≡ Some (TooManyFaces (first_of ns) count)
  overfull_is count h = stops_many s m ns named map_is some count (subst (λ l. IsOverfullOf (all_sides l) count) these h)

  -- The same with the numbers as they are read.
  pub first_apart_told : {raw : ℕ} (d k x y : ℕ) → raw ≡ k → x ≡ get_or ns raw d → y ≡ x → IsFirstApart list k → (b : Below) → IsRight b → intersect_refusal s m ns b ≡ Some (Apart y)
  first_apart_told d k x y e is same h b right = first_apart_is k d h b right ∙ (λ i. Some (Apart ((ap (λ j. get_or ns j d) (sym e) ∙ sym is ∙ sym same) i)))

  pub overfull_told : (d count x y z : ℕ) → x ≡ get_or ns 0 d → y ≡ x → count ≡ z → IsOverfullOf (all_sides list) count → (b : Below) → IsRight b → intersect_refusal s m ns b ≡ Some (TooManyFaces y z)
  overfull_told d count x y z is same e h b right = overfull_is count h b right ∙ (λ i. Some (TooManyFaces (sym (same ∙ is ∙ first_is ns d some) i) (e i)))

  module _ (faces : List Face) (those : faces ≡ all_faces m ns) where
    pub few_faces_of_all : length ns < 4096 → length faces < 2 ^ 32
    few_faces_of_all few = omega (arith, few, ap length those, few_all m map_is ns (brushes s m ns named map_is some))

    module _ (kept : List Side) (t : IsTrimmedTo (all_sides list) kept) where
      trimmed_to : IsTrimmedTo (all_sides (sides_in_turn m 0 ns)) kept
      trimmed_to = subst (λ l. IsTrimmedTo (all_sides l) kept) these t

      pub part_told : Every (IsTold (length faces) faces []) kept
      part_told = subst (λ l. Every (IsTold (length l) l []) kept) (sym those) (common_told m map_is ns some (brushes s m ns named map_is some) kept trimmed_to)

      pub part_is : (body : List Face) → IsSolid kept → body ≡ faces_of (length faces) faces [] kept → IsIntersection s m ns body
      part_is body is e = intersects s m ns named map_is some kept trimmed_to body is (e ∙ ap (λ l. faces_of (length l) l [] kept) those)
