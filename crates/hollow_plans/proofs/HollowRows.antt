-- The rows of `hollow`, and what is known where they pass.
use Rattle.std.proofs.Common.{◌≡◌, ℕ, List, [], ◌∷◌, true, not, Option, Result, Ok, Err, ap, sym, subst, ◌∙◌, ℤ}
use Rattle.std.specs.Prelude.{IsErrAnd}
use Rattle.algebra.specs.Members.{◌∈◌}
use Rattle.map_model.specs.Tree.{Whole, faces_at}
use Rattle.map_model.specs.Below.{Below}
use Rattle.map_model.specs.Brushes.{is_box}
use Rattle.map_model.specs.Replies.{Refusal, NotBox}
use Rattle.map_model.specs.Rows.{first, at_each}
use Rattle.map_laws.proofs.Refused.{refuse_none, each_none}
use Rattle.tree_ops.specs.Passing.{passes}
use Rattle.tree_ops.specs.declared.fault.OpFault.{OpFault}
use Rattle.tree_ops.specs.declared.fault.OpFault.TheVariants.{No, Memory}
use Rattle.tree_ops.proofs.Outcomes.{err_is}
use Rattle.brush_plans.specs.NamedRows.{brush_rows}
use Rattle.brush_plans.proofs.RowLoops.{no_row, that_row, alone}
use Rattle.map_laws.proofs.Tests.{not_false}
use Rattle.cut_plans.proofs.ClipRows.{front_stops, front_passes}
use Rattle.hollow_plans.specs.declared.walls.Hollowed.{Hollowed}
use Rattle.hollow_plans.specs.Walls.{no_box, thick_any, AreHollowed, IsHollow, hollow_refusal}

pub are_boxes : (m : Whole) (ns : List ℕ) → Ok tt ≡ passes (at_each ns (no_box m)) → (n : ℕ) → n ∈ ns → is_box (faces_at m n) ≡ true
are_boxes m ns pass n i = not_false (is_box (faces_at m n)) (refuse_none (not (is_box (faces_at m n))) (NotBox n) (each_none ns (no_box m) (no_row (at_each ns (no_box m)) pass) n i))

module _ (m : Whole) (t : ℤ) (ns : List ℕ) where
  abbrev later : Below → List (Option Refusal)
  later b = at_each ns (no_box m) ∷ thick_any m t ns b ∷ []

  pub stops_named : (x : Refusal) (r : Result (List Hollowed) OpFault) → IsErrAnd r (λ e. e ≡ No x) → Err x ≡ passes (first (brush_rows m ns)) → IsHollow m t ns r
  stops_named x r is e = subst (IsHollow m t ns) (sym (err_is r (No x) is))
      (λ b right. front_stops (brush_rows m ns) (later b) x (that_row (first (brush_rows m ns)) x e))

  module _ (named : Ok tt ≡ passes (first (brush_rows m ns))) where
    past_named : (b : Below) → hollow_refusal m t ns b ≡ first (later b)
    past_named b = front_passes (brush_rows m ns) (later b) (no_row (first (brush_rows m ns)) named)

    pub stops_other : (x : Refusal) (r : Result (List Hollowed) OpFault) → IsErrAnd r (λ e. e ≡ No x) → Err x ≡ passes (at_each ns (no_box m)) → IsHollow m t ns r
    stops_other x r is e = subst (IsHollow m t ns) (sym (err_is r (No x) is))
        (λ b right. past_named b ∙ ap (λ o. first (o ∷ thick_any m t ns b ∷ [])) (that_row (at_each ns (no_box m)) x e))

    module _ (boxes : Ok tt ≡ passes (at_each ns (no_box m))) where
      last_row : (b : Below) → hollow_refusal m t ns b ≡ thick_any m t ns b
      last_row b = past_named b ∙ ap (λ o. first (o ∷ thick_any m t ns b ∷ [])) (no_row (at_each ns (no_box m)) boxes) ∙ alone (thick_any m t ns b)

      pub hollows : (r : Result (List Hollowed) OpFault) → AreHollowed m t ns r → IsHollow m t ns r
      hollows (Ok list) h = record { passes = λ b right. last_row b ∙ (h b right).1; made = λ b right. (h b right).0 }
      hollows (Err (No x)) h = λ b right. last_row b ∙ h b right
      hollows (Err Memory) h = tt
