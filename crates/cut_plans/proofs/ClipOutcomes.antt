-- What comes of `clip`.
use Rattle.std.proofs.Common.{◌≡◌, ℕ, ◌+◌, ◌<◌, ◌≤◌, List, [], ◌∷◌, ◌++◌, length, map, ◌==◌, IsTrue, Bool, true, false, Option, None, Some, Ok, Err, refl, ap, sym, subst, ◌∙◌, arith, inl, inr, ◌⊎◌, ℤ, option_map, unwrap_or, true≢false}
use Rattle.std.specs.Prelude.{nat_lt, count_by}
use Rattle.std.proofs.lemmas.Bool.{cases_lt, ltb-false}
use Rattle.algebra.specs.Members.{◌∈◌}
use Rattle.map_model.specs.Tree.{Whole, Node, brush, at, is_brush, has_kind}
use Rattle.map_model.specs.Edits.{swap, each_in_turn}
use Rattle.map_model.specs.Below.{Below, IsRight}
use Rattle.map_model.specs.Commands.{Settings, Part, Front, Back, Both, Clip, IsGood, plane_in}
use Rattle.map_model.specs.Rows.{first}
use Rattle.map_model.specs.Own.{own}
use Rattle.map_model.specs.Apply.{reply_of}
use Rattle.map_model.specs.Promises.{Plans}
use Rattle.map_laws.specs.BoxCommand.{KeepsMaterial}
use Rattle.map_laws.proofs.Lists.{tally, tally-member, count-tally}
use Rattle.tree_node.specs.Held.{IsMap}
use Rattle.tree_ops.specs.Faults.{RefusesRightly}
use Rattle.tree_ops.specs.declared.fault.OpFault.{OpFault}
use Rattle.tree_ops.specs.declared.fault.OpFault.TheVariants.{No, Memory}
use Rattle.tree_ops.specs.declared.planned.Planned.{Planned}
use Rattle.brush_plans.specs.NamedRows.{brush_rows}
use Rattle.cut_plans.specs.declared.clipping.Clipped.{Clipped}
use Rattle.cut_plans.specs.Ending.{Makes, Ends}
use Rattle.cut_plans.specs.Clips.{cut_by, clipped_by, put_clipped, drawn_by, drawn_for, clip_reply, AreCut, IsCut}
use Rattle.cut_plans.proofs.Laws.{some_are_right, some_number, numbered}
use Rattle.cut_plans.proofs.Outcomes as outcome
use Rattle.cut_plans.proofs.Others.{Untouched, clips_are, all_clipped-next}
use Rattle.cut_plans.proofs.Placing.{drawn_is}
use Rattle.cut_plans.proofs.ClipRows.{are_brushes, are_once, front_none, later}

-- A brush of the map has a number below the next one.
below_next : (m : Whole) → IsMap m → (n : ℕ) → IsTrue (is_brush m n) → n < m.next
below_next m map n is = by (at m n) refl
  where
    by : (o : Option Node) → at m n ≡ o → n < m.next
    by None e = absurd (true≢false (sym is ∙ ap (λ p. unwrap_or (option_map (has_kind brush) p) false) e))
    by (Some x) e = numbered m n x map e

once_each : (m : Whole) (ns : List ℕ) → first (brush_rows m ns) ≡ None → (q : ℕ) → tally q ns ≤ 1
once_each m ns pass q = by (cases_lt 0 (tally q ns))
  where
    by : (0 < tally q ns) ⊎ (tally q ns ≤ 0) → tally q ns ≤ 1
    by (inl lt) = omega (arith, ltb-false 1 (count_by (λ k. k == q) ns) (are_once m ns pass q (tally-member q ns lt)), count-tally q ns)
    by (inr le) = omega arith

pub untouched : (m : Whole) → IsMap m → (ns : List ℕ) → first (brush_rows m ns) ≡ None → Untouched m m ns
untouched m map ns pass = record {
  faces = λ q i. refl;
  format = refl;
  below = λ q i. below_next m map q (are_brushes m ns pass q i);
  world = some_number m map;
  once = once_each m ns pass;
}

replies : (m : Whole) (part : Part) (points : List (List ℤ)) (ns : List ℕ) (made : ℕ) → reply_of m (Clip part points ns) made ≡ clip_reply part made m.next
replies m Back points ns made = refl
replies m Front points ns made = refl
replies m Both points ns made = refl

module _ (s : Settings) (m : Whole) (part : Part) (points : List (List ℤ)) (ns : List ℕ) (material : KeepsMaterial s) (good : IsGood (Clip part points ns)) (map_is : IsMap m) where
  pub refuses : (fault : OpFault) → IsCut s m part points ns (Err fault) → RefusesRightly s m (Clip part points ns) fault
  refuses (No refusal) says = outcome.refuses s m (Clip part points ns) material refl tt good map_is refusal says
  refuses Memory says = tt

  module _ (list : List Clipped) (cut : AreCut s m part points ns list) where
    pub drawn : drawn_by list ≡ drawn_for part ns
    drawn = ap drawn_by (sym (cut.made some_are_right.tests some_are_right.right)) ∙ drawn_is m (cut_by s m (plane_in points)) part some_are_right.tests ns

    own_is : (b : Below) → IsRight b → own b s m (Clip part points ns) ≡ each_in_turn put_clipped list m
    own_is b right =
        clips_are b s (plane_in points) m part ns m (untouched m map_is ns (front_none (brush_rows m ns) (later s m part points ns b) (cut.passes b right)))
        ∙ ap (λ l. each_in_turn put_clipped l m) (cut.made b right)

    next_is : (each_in_turn put_clipped list m).next ≡ m.next + drawn_for part ns
    next_is = all_clipped-next list m ∙ ap (λ k. m.next + k) drawn

    pub refuses_late : (fault : OpFault) → Ends m ns (each_in_turn put_clipped list m) (drawn_for part ns) (clip_reply part (drawn_for part ns) m.next) (Err fault) → RefusesRightly s m (Clip part points ns) fault
    refuses_late fault ends =
        outcome.refuses_late s m (Clip part points ns) material refl tt good map_is cut.passes (each_in_turn put_clipped list m) (drawn_for part ns) (clip_reply part (drawn_for part ns) m.next)
        own_is next_is (replies m part points ns (drawn_for part ns)) fault ends

    module _ (p : Planned) (makes : Makes m ns (each_in_turn put_clipped list m) (drawn_for part ns) (clip_reply part (drawn_for part ns) m.next) p) where
      pub plans : Plans s m (Clip part points ns) p.change p.reply
      plans = outcome.plans s m (Clip part points ns) material refl tt good map_is cut.passes (each_in_turn put_clipped list m) (drawn_for part ns) (clip_reply part (drawn_for part ns) m.next)
          own_is next_is (replies m part points ns (drawn_for part ns)) p makes

      pub is_map : IsMap (swap m p.change)
      is_map = outcome.is_map s m (Clip part points ns) material refl tt good map_is cut.passes (each_in_turn put_clipped list m) (drawn_for part ns) (clip_reply part (drawn_for part ns) m.next)
          own_is next_is (replies m part points ns (drawn_for part ns)) p makes
