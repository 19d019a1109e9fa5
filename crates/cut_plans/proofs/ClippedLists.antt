-- Brushes that are clipped one after another.
use Rattle.std.proofs.Common.{◌≡◌, ℕ, suc, ◌+◌, ◌<◌, ◌≤◌, List, [], ◌∷◌, ◌++◌, length, map, take, get_or, Option, None, Some, Result, Ok, Err, refl, ap, sym, subst, ◌∙◌}
use Rattle.std.specs.Prelude.{IsErrAnd}
use Rattle.map_model.specs.Tree.{Whole}
use Rattle.map_model.specs.Below.{Below, IsRight}
use Rattle.map_model.specs.Commands.{Part}
use Rattle.map_model.specs.Replies.{Refusal}
use Rattle.map_model.specs.Rows.{at_each}
use Rattle.tree_ops.specs.declared.fault.OpFault.{OpFault}
use Rattle.tree_ops.specs.declared.fault.OpFault.TheVariants.{No, Memory}
use Rattle.tree_ops.proofs.Outcomes.{err_is}
use Rattle.brush_plans.proofs.Lists.{mapped_more, mapped_all}
use Rattle.brush_plans.proofs.RowLoops.{Passed, passed_row, stopped_row, passed_all}
use Rattle.cut_plans.specs.declared.clipping.Clipped.{Clipped}
use Rattle.cut_plans.specs.declared.clipping.Cut.{Cut}
use Rattle.cut_plans.specs.Clips.{clipped_by, overfull, overfull_any, IsClipped, AreClipped}

module _ (m : Whole) (cut : Cut) (part : Part) (ns : List ℕ) where
  abbrev row : Below → ℕ → Option Refusal
  row b n = overfull (clipped_by m cut part b n)

  -- The first i brushes are clipped, and none has a part with too many faces.
  pub record Clipping (i : ℕ) (now : List Clipped) (b : Below) : Type 0 where
    pub made : now ≡ map (clipped_by m cut part b) (take i ns)
    pub passed : Passed (row b) ns i

  pub none_clipped : (now : List Clipped) → now ≡ [] → (b : Below) → Clipping 0 now b
  none_clipped now e b = record { made = e; passed = record { rest = refl } }

  pub one_clipped : (i n : ℕ) (now new : List Clipped) (c : Clipped) → i < length ns → n ≡ get_or ns i n → ((b : Below) → IsRight b → Clipping i now b) → IsClipped m cut part n (Ok c) → new ≡ now ++ c ∷ [] →
      (b : Below) → IsRight b → Clipping (i + 1) new b
  one_clipped i n now new c lt is so_far clipped more b right =
      let h = so_far b right in
      let k = clipped b right in record {
        made = mapped_more (clipped_by m cut part b) ns now new i n c lt is h.made (sym k.0) more;
        passed = passed_row (row b) ns i n lt is h.passed (ap overfull k.0 ∙ k.1);
      }

  pub clipping_stops : (i n : ℕ) (now : List Clipped) (why : OpFault) (r : Result (List Clipped) OpFault) → i < length ns → n ≡ get_or ns i n → ((b : Below) → IsRight b → Clipping i now b) → IsErrAnd r (λ e. e ≡ why) →
      IsClipped m cut part n (Err why) → AreClipped m cut part ns r
  clipping_stops i n now (No refusal) r lt is so_far e stops = subst (AreClipped m cut part ns) (sym (err_is r (No refusal) e))
      (λ b right. stopped_row (row b) ns i n lt is (so_far b right).passed refusal (stops b right))
  clipping_stops i n now Memory r lt is so_far e stops = subst (AreClipped m cut part ns) (sym (err_is r Memory e)) tt

  pub all_clipped : (i : ℕ) (now list : List Clipped) → length ns ≤ i → ((b : Below) → IsRight b → Clipping i now b) → list ≡ now → AreClipped m cut part ns (Ok list)
  all_clipped i now list le so_far e b right =
      let h = so_far b right in
      (sym (e ∙ mapped_all (clipped_by m cut part b) ns now i le h.made), passed_all (row b) ns i le h.passed)
