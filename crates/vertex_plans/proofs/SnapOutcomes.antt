-- The rows of `snap`, and what comes of it.
use Rattle.std.proofs.Common.{◌≡◌, ℕ, ◌+◌, List, [], ◌∷◌, ◌++◌, map, Option, None, Some, Result, Ok, Err, refl, ap, sym, subst, ◌∙◌, arith, ℤ, IsTrue}
use Rattle.std.specs.Prelude.{IsErrAnd}
use Rattle.algebra.specs.Members.{◌∈◌}
use Rattle.map_model.specs.Tree.{Whole, is_brush}
use Rattle.map_model.specs.Edits.{swap, each_in_turn}
use Rattle.map_model.specs.Below.{Below, IsRight}
use Rattle.map_model.specs.Commands.{Settings, Snap, IsGood}
use Rattle.map_model.specs.Own.{own}
use Rattle.map_model.specs.Promises.{Plans}
use Rattle.map_model.specs.Replies.{Refusal, Done}
use Rattle.map_model.specs.Rows.{first, at_each, too_many}
use Rattle.map_laws.specs.BoxCommand.{KeepsMaterial}
use Rattle.map_laws.specs.Reshaping.{reshaping_rows}
use Rattle.tree_node.specs.Held.{IsMap}
use Rattle.tree_ops.specs.Faults.{RefusesRightly}
use Rattle.tree_ops.specs.Passing.{passes}
use Rattle.tree_ops.specs.declared.fault.OpFault.{OpFault}
use Rattle.tree_ops.specs.declared.fault.OpFault.TheVariants.{No, Memory}
use Rattle.tree_ops.specs.declared.planned.Planned.{Planned}
use Rattle.tree_ops.proofs.Outcomes.{err_is}
use Rattle.brush_plans.specs.NamedRows.{brush_rows}
use Rattle.brush_plans.proofs.RowLoops.{no_row, that_row}
use Rattle.cut_plans.specs.Ending.{Ends, Makes}
use Rattle.cut_plans.proofs.Outcomes as outcome
use Rattle.cut_plans.proofs.ClipRows.{are_brushes, front_stops, front_passes}
use Rattle.vertex_plans.specs.declared.putting.NewBody.{NewBody}
use Rattle.vertex_plans.specs.declared.snapping.Snapped.{Snapped}
use Rattle.vertex_plans.specs.Putting.{put_body}
use Rattle.vertex_plans.specs.Snaps.{faces_by, flat, snapped_by, AreSnapped, AreFew, overfull, bodies_of, AreRounded, IsRounded}
use Rattle.vertex_plans.proofs.SnapLists.{rows_are, bodies_are, puts_are, bodies-next}

module _ (s : Settings) (m : Whole) (grid : ℤ) (ns : List ℕ) where
  abbrev row_faces : Below → Option Refusal
  row_faces b = at_each ns (λ n. too_many n (faces_by m grid b n))

  snap_rows : (b : Below) → reshaping_rows b s m (Snap grid ns) ≡ brush_rows m ns ++ at_each ns (flat m grid b) ∷ row_faces b ∷ []
  snap_rows b = refl

  pub stops_named : (x : Refusal) (r : Result (List NewBody) OpFault) → IsErrAnd r (λ e. e ≡ No x) → Err x ≡ passes (first (brush_rows m ns)) → IsRounded s m grid ns r
  stops_named x r is e = subst (IsRounded s m grid ns) (sym (err_is r (No x) is))
      (λ b right. front_stops (brush_rows m ns) (at_each ns (flat m grid b) ∷ row_faces b ∷ []) x (that_row (first (brush_rows m ns)) x e))

  module _ (named : Ok tt ≡ passes (first (brush_rows m ns))) where
    pub brushes : (n : ℕ) → n ∈ ns → IsTrue (is_brush m n)
    brushes = are_brushes m ns (no_row (first (brush_rows m ns)) named)

    past_named : (b : Below) → first (reshaping_rows b s m (Snap grid ns)) ≡ first (at_each ns (flat m grid b) ∷ row_faces b ∷ [])
    past_named b = front_passes (brush_rows m ns) (at_each ns (flat m grid b) ∷ row_faces b ∷ []) (no_row (first (brush_rows m ns)) named)

    pub stops_flat : (why : OpFault) (r : Result (List NewBody) OpFault) → IsErrAnd r (λ e. e ≡ why) → AreSnapped m grid ns (Err why) → IsRounded s m grid ns r
    stops_flat (No x) r is says = subst (IsRounded s m grid ns) (sym (err_is r (No x) is)) (λ b right. past_named b ∙ ap (λ o. first (o ∷ row_faces b ∷ [])) (says b right))
    stops_flat Memory r is says = subst (IsRounded s m grid ns) (sym (err_is r Memory is)) tt

    module _ (list : List Snapped) (snapped : AreSnapped m grid ns (Ok list)) where
      alone : (r : Option Refusal) → first (r ∷ []) ≡ r
      alone None = refl
      alone (Some x) = refl

      last_row : (b : Below) → IsRight b → first (reshaping_rows b s m (Snap grid ns)) ≡ first (map overfull list)
      last_row b right =
          past_named b ∙ ap (λ o. first (o ∷ row_faces b ∷ [])) (snapped b right).1 ∙ alone (row_faces b)
          ∙ sym (rows_are m grid b ns) ∙ ap (λ l. first (map overfull l)) (snapped b right).0

      pub rounds : (r : Result (List NewBody) OpFault) → AreFew list r → IsRounded s m grid ns r
      rounds (Ok bodies) h = record {
        passes = λ b right. last_row b right ∙ h.1;
        made = λ b right.
            let e = (snapped b right).0 in
            sym (bodies_are m grid b ns (ap (λ l. first (map overfull l)) e ∙ h.1)) ∙ ap bodies_of e ∙ sym h.0;
      }
      rounds (Err (No x)) h = λ b right. last_row b right ∙ h
      rounds (Err Memory) h = tt

module _ (s : Settings) (m : Whole) (grid : ℤ) (ns : List ℕ) (material : KeepsMaterial s) (good : IsGood (Snap grid ns)) (map_is : IsMap m) where
  pub refuses : (fault : OpFault) → IsRounded s m grid ns (Err fault) → RefusesRightly s m (Snap grid ns) fault
  refuses (No refusal) says = outcome.refuses s m (Snap grid ns) material refl tt good map_is refusal says
  refuses Memory says = tt

  module _ (bodies : List NewBody) (rounded : AreRounded s m grid ns bodies) where
    own_is : (b : Below) → IsRight b → own b s m (Snap grid ns) ≡ each_in_turn put_body bodies m
    own_is b right = puts_are m grid b ns m ∙ ap (λ l. each_in_turn put_body l m) (rounded.made b right)

    next_is : (each_in_turn put_body bodies m).next ≡ m.next + 0
    next_is = omega (arith, bodies-next bodies m)

    pub refuses_late : (fault : OpFault) → Ends m ns (each_in_turn put_body bodies m) 0 Done (Err fault) → RefusesRightly s m (Snap grid ns) fault
    refuses_late fault ends = outcome.refuses_late s m (Snap grid ns) material refl tt good map_is rounded.passes (each_in_turn put_body bodies m) 0 Done own_is next_is refl fault ends

    module _ (p : Planned) (makes : Makes m ns (each_in_turn put_body bodies m) 0 Done p) where
      pub plans : Plans s m (Snap grid ns) p.change p.reply
      plans = outcome.plans s m (Snap grid ns) material refl tt good map_is rounded.passes (each_in_turn put_body bodies m) 0 Done own_is next_is refl p makes

      pub is_map : IsMap (swap m p.change)
      is_map = outcome.is_map s m (Snap grid ns) material refl tt good map_is rounded.passes (each_in_turn put_body bodies m) 0 Done own_is next_is refl p makes
