-- The rows of `intersect`, and what is known where they pass.
use Rattle.std.proofs.Common.{arith, ◌≡◌, ℕ, ◌<◌, ◌≤◌, List, [], ◌∷◌, length, IsTrue, get_or, Option, None, Some, Result, Ok, Err, refl, ap, sym, subst, ◌∙◌}
use Rattle.std.specs.Prelude.{IsErrAnd}
use Rattle.std.proofs.lemmas.List.{length-map}
use Rattle.algebra.specs.Members.{◌∈◌}
use Rattle.solid_brush.specs.declared.side.Side.{Side}
use Rattle.solid_brush.specs.Sides.{IsSolid}
use Rattle.solid_brush.specs.Blocks.{IsTrimmedTo}
use Rattle.csg_ops.specs.Cuts.{all_sides, IsFirstApart, IsOverfullOf}
use Rattle.map_model.specs.Faces.{Face}
use Rattle.map_model.specs.Tree.{Whole, is_brush}
use Rattle.map_model.specs.Below.{Below, IsRight}
use Rattle.map_model.specs.Commands.{Settings, Intersect}
use Rattle.map_model.specs.Replies.{Refusal, Apart, TooManyFaces}
use Rattle.map_model.specs.Rows.{first, first_of, first_apart, apart, all_faces, intersection, too_many, too_many_faces}
use Rattle.tree_node.specs.Held.{IsMap}
use Rattle.tree_ops.specs.Passing.{passes}
use Rattle.tree_ops.specs.declared.fault.OpFault.{OpFault}
use Rattle.tree_ops.specs.declared.fault.OpFault.TheVariants.{No}
use Rattle.tree_ops.proofs.Outcomes.{err_is}
use Rattle.brush_plans.specs.NamedRows.{brush_rows}
use Rattle.brush_plans.proofs.RowLoops.{no_row, that_row, alone}
use Rattle.cut_plans.specs.Told.{face_of, faces_of}
use Rattle.cut_plans.specs.Intersects.{sides_in_turn, intersect_refusal, IsIntersection, IsIntersected}
use Rattle.cut_plans.proofs.Trimmed.{kept_needed}
use Rattle.cut_plans.proofs.OneSide.{not_many, too_many_are}
use Rattle.cut_plans.proofs.ClipRows.{are_brushes, front_stops, front_passes}
use Rattle.cut_plans.proofs.Intersected.{apart_here, none_apart, common_is}

module _ (s : Settings) (m : Whole) (ns : List ℕ) where
  abbrev later : Below → List (Option Refusal)
  later b = apart b m (Intersect ns) ∷ too_many_faces b s m (Intersect ns) ∷ []

  pub stops_named : (x : Refusal) (r : Result (List Face) OpFault) → IsErrAnd r (λ e. e ≡ No x) → Err x ≡ passes (first (brush_rows m ns)) → IsIntersected s m ns r
  stops_named x r is e = subst (IsIntersected s m ns) (sym (err_is r (No x) is)) (λ b right. front_stops (brush_rows m ns) (later b) x (that_row (first (brush_rows m ns)) x e))

  module _ (named : Ok tt ≡ passes (first (brush_rows m ns))) (map_is : IsMap m) (some : 0 < length ns) where
    pub brushes : (q : ℕ) → q ∈ ns → IsTrue (is_brush m q)
    brushes q i = are_brushes m ns (no_row (first (brush_rows m ns)) named) q i

    past_named : (b : Below) → intersect_refusal s m ns b ≡ first (later b)
    past_named b = front_passes (brush_rows m ns) (later b) (no_row (first (brush_rows m ns)) named)

    pub stops_apart : (k d : ℕ) → IsFirstApart (sides_in_turn m 0 ns) k → (b : Below) → IsRight b → intersect_refusal s m ns b ≡ Some (Apart (get_or ns k d))
    stops_apart k d h b right = past_named b ∙ ap (λ o. first (o ∷ too_many_faces b s m (Intersect ns) ∷ [])) (apart_here m map_is ns some brushes k d h b right)

    module _ (kept : List Side) (t : IsTrimmedTo (all_sides (sides_in_turn m 0 ns)) kept) where
      last_row : (b : Below) → IsRight b → intersect_refusal s m ns b ≡ too_many (first_of ns) (intersection b m ns)
      last_row b right =
          past_named b ∙ ap (λ o. first (o ∷ too_many_faces b s m (Intersect ns) ∷ [])) (none_apart m map_is ns some brushes kept t b right)
          ∙ alone (too_many_faces b s m (Intersect ns))

      pub intersects : (body : List Face) → IsSolid kept → body ≡ faces_of (length (all_faces m ns)) (all_faces m ns) [] kept → IsIntersection s m ns body
      intersects body is e =
          let made : (b : Below) → IsRight b → intersection b m ns ≡ body = λ b right. common_is m map_is ns some brushes kept t b right ∙ sym e in
          record {
            passes = λ b right. last_row b right ∙ ap (too_many (first_of ns)) (made b right)
                ∙ not_many (first_of ns) body (subst (λ l. length l ≤ 128) (sym e) (kept_needed (length (all_faces m ns)) (all_faces m ns) [] kept is).most);
            made = made;
          }

    pub stops_many : (count : ℕ) → IsOverfullOf (all_sides (sides_in_turn m 0 ns)) count → (b : Below) → IsRight b → intersect_refusal s m ns b ≡ Some (TooManyFaces (first_of ns) count)
    stops_many count h b right =
        let all = all_faces m ns in
        last_row h.kept h.trimmed b right ∙ ap (too_many (first_of ns)) (common_is m map_is ns some brushes h.kept h.trimmed b right)
        ∙ too_many_are (first_of ns) count (faces_of (length all) all [] h.kept) (length-map h.kept (face_of (length all) all []) ∙ h.count) h.above

pub first_is : (ns : List ℕ) (d : ℕ) → 0 < length ns → get_or ns 0 d ≡ first_of ns
first_is [] d lt = absurd (omega arith)
first_is (n ∷ ns) d lt = refl
