-- The rows of `vertex`, and what comes of it.
use Rattle.std.proofs.Common.{◌≡◌, ℕ, ◌+◌, List, [], ◌∷◌, ◌++◌, Bool, true, false, cond, not, ◌==◌, Option, None, Some, Result, Ok, Err, refl, ap, sym, subst, ◌∙◌, arith, ℤ, IsTrue}
use Rattle.std.specs.Prelude.{is_none, nat_lt, count_by, IsErrAnd}
use Rattle.algebra.specs.Members.{◌∈◌, here}
use Rattle.map_model.specs.Faces.{Face}
use Rattle.map_model.specs.Tree.{Whole, at, is_brush, faces_at, with_faces}
use Rattle.map_model.specs.Edits.{swap, each_in_turn, renew}
use Rattle.map_model.specs.Below.{Below, IsRight}
use Rattle.map_model.specs.Commands.{Settings, Vertex, IsGood, points_in}
use Rattle.map_model.specs.Own.{own}
use Rattle.map_model.specs.Promises.{Plans}
use Rattle.map_model.specs.Replies.{Refusal, Done, NoNode, Repeated, WrongKind, LockedLayer}
use Rattle.map_model.specs.Rows.{first, refuse, at_each, is_in_frozen}
use Rattle.map_laws.specs.BoxCommand.{KeepsMaterial}
use Rattle.map_laws.specs.Reshaping.{reshaping_rows}
use Rattle.tree_node.specs.Held.{IsMap}
use Rattle.tree_ops.specs.Faults.{RefusesRightly}
use Rattle.tree_ops.specs.Passing.{passes}
use Rattle.tree_ops.specs.declared.fault.OpFault.{OpFault}
use Rattle.tree_ops.specs.declared.fault.OpFault.TheVariants.{No, Memory}
use Rattle.tree_ops.specs.declared.planned.Planned.{Planned}
use Rattle.tree_ops.proofs.Outcomes.{err_is}
use Rattle.brush_plans.specs.NamedRows.{brush_rows}
use Rattle.brush_plans.proofs.RowLoops.{no_row, that_row}
use Rattle.cut_plans.specs.Ending.{Ends, Makes}
use Rattle.cut_plans.proofs.Outcomes as outcome
use Rattle.cut_plans.proofs.ClipRows.{are_brushes, front_stops, front_passes}
use Rattle.vertex_plans.specs.declared.putting.NewBody.{NewBody}
use Rattle.vertex_plans.specs.Putting.{put_body}
use Rattle.vertex_plans.specs.Moves.{move_rows, IsMovedBody, IsVertexMoved}

-- The rows. ------------------------------------------------------------------------------------------------------------------------------

module _ (m : Whole) (n : ℕ) where
  abbrev absent : Option Refusal
  absent = at_each (n ∷ []) (λ k. refuse (is_none (at m k)) (NoNode k))

  abbrev other : Option Refusal
  other = at_each (n ∷ []) (λ k. refuse (not (is_brush m k)) (WrongKind k))

  abbrev frozen : Option Refusal
  frozen = at_each (n ∷ []) (λ k. refuse (is_in_frozen m k) (LockedLayer k))

  abbrev named_rows : List (Option Refusal)
  named_rows = absent ∷ other ∷ frozen ∷ []

  -- One number isn't named twice.
  once : (t : Bool) (r : Refusal) → first (refuse (nat_lt 1 (0 + cond t 1 0)) r ∷ []) ≡ None
  once true r = refl
  once false r = refl

  skipped : (r : Option Refusal) (rest : List (Option Refusal)) → first (r ∷ None ∷ rest) ≡ first (r ∷ rest)
  skipped None rest = refl
  skipped (Some x) rest = refl

  pub named_are : first (brush_rows m (n ∷ [])) ≡ first named_rows
  named_are = (λ i. first (absent ∷ once (n == n) (Repeated n) i ∷ other ∷ frozen ∷ [])) ∙ skipped absent (other ∷ frozen ∷ [])

module _ (s : Settings) (m : Whole) (n : ℕ) (shift : List ℤ) (picks : List (List ℤ)) where
  rows_are : (b : Below) → reshaping_rows b s m (Vertex n shift picks) ≡ named_rows m n ++ move_rows b (faces_at m n) n shift (points_in picks)
  rows_are b = refl

  pub stops_named : (x : Refusal) (r : Result (List Face) OpFault) → IsErrAnd r (λ e. e ≡ No x) → Err x ≡ passes (first (brush_rows m (n ∷ []))) → IsVertexMoved s m n shift picks r
  stops_named x r is e = subst (IsVertexMoved s m n shift picks) (sym (err_is r (No x) is))
      (λ b right. front_stops (named_rows m n) (move_rows b (faces_at m n) n shift (points_in picks)) x (sym (named_are m n) ∙ that_row (first (brush_rows m (n ∷ []))) x e))

  module _ (named : Ok tt ≡ passes (first (brush_rows m (n ∷ [])))) where
    none_named : first (brush_rows m (n ∷ [])) ≡ None
    none_named = no_row (first (brush_rows m (n ∷ []))) named

    pub brush_is : IsTrue (is_brush m n)
    brush_is = are_brushes m (n ∷ []) none_named n here

    past_named : (b : Below) → first (reshaping_rows b s m (Vertex n shift picks)) ≡ first (move_rows b (faces_at m n) n shift (points_in picks))
    past_named b = front_passes (named_rows m n) (move_rows b (faces_at m n) n shift (points_in picks)) (sym (named_are m n) ∙ none_named)

    pub vertex_moved : (r : Result (List Face) OpFault) → IsMovedBody (faces_at m n) n shift (points_in picks) r → IsVertexMoved s m n shift picks r
    vertex_moved (Ok body) h = λ b right. ((h b right).0, past_named b ∙ (h b right).1)
    vertex_moved (Err (No refusal)) h = λ b right. past_named b ∙ h b right
    vertex_moved (Err Memory) h = tt

-- What comes of it. ----------------------------------------------------------------------------------------------------------------------

module _ (s : Settings) (m : Whole) (n : ℕ) (shift : List ℤ) (picks : List (List ℤ)) (material : KeepsMaterial s) (good : IsGood (Vertex n shift picks)) (map_is : IsMap m) where
  pub refuses : (fault : OpFault) → IsVertexMoved s m n shift picks (Err fault) → RefusesRightly s m (Vertex n shift picks) fault
  refuses (No refusal) says = outcome.refuses s m (Vertex n shift picks) material refl tt good map_is refusal says
  refuses Memory says = tt

  module _ (body : List Face) (moved : IsVertexMoved s m n shift picks (Ok body)) where
    abbrev pub bodies : List NewBody
    bodies = record { id = n; body = body } ∷ []

    passes_all : (b : Below) → IsRight b → first (reshaping_rows b s m (Vertex n shift picks)) ≡ None
    passes_all b right = (moved b right).1

    own_is : (b : Below) → IsRight b → own b s m (Vertex n shift picks) ≡ each_in_turn put_body bodies m
    own_is b right = ap (λ fs. renew n (with_faces fs) m) (moved b right).0

    next_is : (each_in_turn put_body bodies m).next ≡ m.next + 0
    next_is = omega arith

    pub refuses_late : (fault : OpFault) → Ends m (n ∷ []) (each_in_turn put_body bodies m) 0 Done (Err fault) → RefusesRightly s m (Vertex n shift picks) fault
    refuses_late fault ends = outcome.refuses_late s m (Vertex n shift picks) material refl tt good map_is passes_all (each_in_turn put_body bodies m) 0 Done own_is next_is refl fault ends

    module _ (p : Planned) (makes : Makes m (n ∷ []) (each_in_turn put_body bodies m) 0 Done p) where
      pub plans : Plans s m (Vertex n shift picks) p.change p.reply
      plans = outcome.plans s m (Vertex n shift picks) material refl tt good map_is passes_all (each_in_turn put_body bodies m) 0 Done own_is next_is refl p makes

      pub is_map : IsMap (swap m p.change)
      is_map = outcome.is_map s m (Vertex n shift picks) material refl tt good map_is passes_all (each_in_turn put_body bodies m) 0 Done own_is next_is refl p makes
