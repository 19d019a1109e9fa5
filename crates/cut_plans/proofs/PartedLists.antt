-- Brushes that are cut into pieces one after another.
use Rattle.std.proofs.Common.{◌≡◌, ℕ, suc, ◌+◌, ◌<◌, ◌≤◌, List, [], ◌∷◌, ◌++◌, length, map, take, get_or, Option, None, Some, Result, Ok, Err, refl, ap, sym, subst, ◌∙◌}
use Rattle.std.specs.Prelude.{IsErrAnd}
use Rattle.map_model.specs.Faces.{Face}
use Rattle.map_model.specs.Tree.{Whole}
use Rattle.map_model.specs.Below.{Below, IsRight}
use Rattle.map_model.specs.Replies.{Refusal}
use Rattle.map_model.specs.Rows.{at_each}
use Rattle.tree_ops.specs.declared.fault.OpFault.{OpFault}
use Rattle.tree_ops.specs.declared.fault.OpFault.TheVariants.{No, Memory}
use Rattle.tree_ops.proofs.Outcomes.{err_is}
use Rattle.brush_plans.proofs.Lists.{mapped_more, mapped_all}
use Rattle.brush_plans.proofs.RowLoops.{Passed, passed_row, stopped_row, passed_all}
use Rattle.cut_plans.specs.declared.subtracting.Parted.{Parted}
use Rattle.cut_plans.specs.Subtracts.{parted_by, overfull_piece, overfull_pieces, IsParted, AreParted}

module _ (m : Whole) (by : List Face) (ns : List ℕ) where
  abbrev row : Below → ℕ → Option Refusal
  row b n = overfull_piece (parted_by m by b n)

  -- The first i brushes are cut, and none has a piece with too many faces.
  pub record Parting (i : ℕ) (now : List Parted) (b : Below) : Type 0 where
    pub made : now ≡ map (parted_by m by b) (take i ns)
    pub passed : Passed (row b) ns i

  pub none_parted : (now : List Parted) → now ≡ [] → (b : Below) → Parting 0 now b
  none_parted now e b = record { made = e; passed = record { rest = refl } }

  pub one_parted : (i n : ℕ) (now new : List Parted) (c : Parted) → i < length ns → n ≡ get_or ns i n → ((b : Below) → IsRight b → Parting i now b) → IsParted m by n (Ok c) → new ≡ now ++ c ∷ [] →
      (b : Below) → IsRight b → Parting (i + 1) new b
  one_parted i n now new c lt is so_far parted more b right =
      let h = so_far b right in
      let k = parted b right in record {
        made = mapped_more (parted_by m by b) ns now new i n c lt is h.made (sym k.0) more;
        passed = passed_row (row b) ns i n lt is h.passed (ap overfull_piece k.0 ∙ k.1);
      }

  pub parting_stops : (i n : ℕ) (now : List Parted) (why : OpFault) (r : Result (List Parted) OpFault) → i < length ns → n ≡ get_or ns i n → ((b : Below) → IsRight b → Parting i now b) → IsErrAnd r (λ e. e ≡ why) →
      IsParted m by n (Err why) → AreParted m by ns r
  parting_stops i n now (No refusal) r lt is so_far e stops = subst (AreParted m by ns) (sym (err_is r (No refusal) e))
      (λ b right. stopped_row (row b) ns i n lt is (so_far b right).passed refusal (stops b right))
  parting_stops i n now Memory r lt is so_far e stops = subst (AreParted m by ns) (sym (err_is r Memory e)) tt

  pub all_parted : (i : ℕ) (now list : List Parted) → length ns ≤ i → ((b : Below) → IsRight b → Parting i now b) → list ≡ now → AreParted m by ns (Ok list)
  all_parted i now list le so_far e b right =
      let h = so_far b right in
      (sym (e ∙ mapped_all (parted_by m by b) ns now i le h.made), passed_all (row b) ns i le h.passed)
