-- The rows of `subtract`, and what is known where they pass.
use Rattle.std.proofs.Common.{◌≡◌, ℕ, ◌≤◌, List, [], ◌∷◌, ◌++◌, length, map, true, not, Option, None, Some, Result, Ok, Err, refl, ap, sym, subst, ◌∙◌}
use Rattle.std.specs.Prelude.{IsErrAnd}
use Rattle.algebra.specs.Members.{◌∈◌}
use Rattle.map_model.specs.Faces.{Face}
use Rattle.map_model.specs.Tree.{Whole, faces_at}
use Rattle.map_model.specs.Below.{Below, IsRight}
use Rattle.map_model.specs.Brushes.{has_inside}
use Rattle.map_model.specs.Commands.{Settings, Subtract}
use Rattle.map_model.specs.Replies.{Refusal, Apart}
use Rattle.map_model.specs.Rows.{first, apart, too_many_faces}
use Rattle.map_laws.proofs.Refused.{refuse_none, each_none}
use Rattle.map_laws.proofs.Tests.{not_false}
use Rattle.tree_ops.specs.Passing.{passes}
use Rattle.tree_ops.specs.declared.fault.OpFault.{OpFault}
use Rattle.tree_ops.specs.declared.fault.OpFault.TheVariants.{No, Memory}
use Rattle.tree_ops.proofs.Outcomes.{err_is}
use Rattle.brush_plans.specs.NamedRows.{brush_rows}
use Rattle.brush_plans.specs.Saying.{Says}
use Rattle.brush_plans.proofs.RowLoops.{no_row, that_row, alone}
use Rattle.cut_plans.specs.declared.subtracting.Parted.{Parted}
use Rattle.cut_plans.specs.Subtracts.{apart_row, apart_any, overfull_pieces, AreParted, subtract_refusal, AreSubtracted, IsSubtracted, HaveFewPieces}
use Rattle.cut_plans.proofs.Laws.{some_are_right}
use Rattle.cut_plans.proofs.ClipRows.{front_stops, front_passes}
use Rattle.cut_plans.proofs.PartedPlacing.{few_pieces}

-- Each brush has a point inside in common with the brush that cuts.
pub meet_each : (m : Whole) (by : List Face) (ns : List ℕ) → ((b : Below) → IsRight b → apart_any m by ns b ≡ None) → (n : ℕ) → n ∈ ns → (b : Below) → IsRight b → has_inside b (faces_at m n ++ by) ≡ true
meet_each m by ns pass n i b right =
    not_false (has_inside b (faces_at m n ++ by)) (refuse_none (not (has_inside b (faces_at m n ++ by))) (Apart n) (each_none ns (λ n. apart_row m by n b) (pass b right) n i))

module _ (s : Settings) (m : Whole) (by : ℕ) (ns : List ℕ) where
  abbrev pub later : Below → List (Option Refusal)
  later b = apart b m (Subtract by ns) ∷ too_many_faces b s m (Subtract by ns) ∷ []

  pub stops_named : (x : Refusal) (r : Result (List Parted) OpFault) → IsErrAnd r (λ e. e ≡ No x) → Err x ≡ passes (first (brush_rows m (by ∷ ns))) → IsSubtracted s m by ns r
  stops_named x r is e = subst (IsSubtracted s m by ns) (sym (err_is r (No x) is))
      (λ b right. front_stops (brush_rows m (by ∷ ns)) (later b) x (that_row (first (brush_rows m (by ∷ ns))) x e))

  module _ (named : Ok tt ≡ passes (first (brush_rows m (by ∷ ns)))) where
    past_named : (b : Below) → subtract_refusal s m by ns b ≡ first (later b)
    past_named b = front_passes (brush_rows m (by ∷ ns)) (later b) (no_row (first (brush_rows m (by ∷ ns))) named)

    pub stops_apart : (why : OpFault) (r : Result (List Parted) OpFault) → IsErrAnd r (λ e. e ≡ why) → Says (apart_any m (faces_at m by) ns) (Err why) → IsSubtracted s m by ns r
    stops_apart (No x) r is says = subst (IsSubtracted s m by ns) (sym (err_is r (No x) is))
        (λ b right. past_named b ∙ ap (λ o. first (o ∷ too_many_faces b s m (Subtract by ns) ∷ [])) (says b right))
    stops_apart Memory r is says = subst (IsSubtracted s m by ns) (sym (err_is r Memory is)) tt

    module _ (hit : (b : Below) → IsRight b → apart_any m (faces_at m by) ns b ≡ None) where
      last_row : (b : Below) → IsRight b → subtract_refusal s m by ns b ≡ overfull_pieces m (faces_at m by) ns b
      last_row b right =
          past_named b ∙ ap (λ o. first (o ∷ too_many_faces b s m (Subtract by ns) ∷ [])) (hit b right) ∙ alone (too_many_faces b s m (Subtract by ns))

      pub subtracts : (r : Result (List Parted) OpFault) → length (faces_at m by) ≤ 128 → AreParted m (faces_at m by) ns r → IsSubtracted s m by ns r
      subtracts (Ok list) le h = record {
        passes = λ b right. last_row b right ∙ (h b right).1;
        made = λ b right. (h b right).0;
        few = subst HaveFewPieces ((h some_are_right.tests some_are_right.right).0) (few_pieces m (faces_at m by) some_are_right.tests ns le);
      }
      subtracts (Err (No x)) le h = λ b right. last_row b right ∙ h b right
      subtracts (Err Memory) le h = tt
