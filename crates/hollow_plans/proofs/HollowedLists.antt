-- Boxes that get walls one after another.
use Rattle.std.proofs.Common.{◌≡◌, ℕ, ◌+◌, ◌<◌, ◌≤◌, List, [], ◌∷◌, ◌++◌, length, map, take, get_or, Option, Result, Ok, Err, refl, sym, subst, ◌∙◌, ℤ}
use Rattle.std.specs.Prelude.{IsErrAnd}
use Rattle.map_model.specs.Faces.{Face}
use Rattle.map_model.specs.Tree.{Whole, faces_at}
use Rattle.map_model.specs.Below.{Below, IsRight}
use Rattle.map_model.specs.Replies.{Refusal}
use Rattle.tree_ops.specs.declared.fault.OpFault.{OpFault}
use Rattle.tree_ops.specs.declared.fault.OpFault.TheVariants.{No, Memory}
use Rattle.tree_ops.proofs.Outcomes.{err_is}
use Rattle.brush_plans.proofs.Lists.{mapped_more, mapped_all}
use Rattle.brush_plans.proofs.RowLoops.{Passed, passed_row, stopped_row, passed_all}
use Rattle.hollow_plans.specs.declared.walls.Hollowed.{Hollowed}
use Rattle.hollow_plans.specs.Walls.{too_thick, hollowed_by, AreWalls, IsHollowed, AreHollowed}

-- One box.
pub one_is : (m : Whole) (t : ℤ) (n : ℕ) (fs : List Face) (walls : List (List Face)) → fs ≡ faces_at m n → AreWalls t n fs (Ok walls) → IsHollowed m t n (Ok (record { id = n; walls = walls }))
one_is m t n fs walls e h b right =
    let are = subst (λ l. AreWalls t n l (Ok walls)) e h b right in
    (λ i. record { id = n; walls = are.0 i }, are.1)

pub one_stops : (m : Whole) (t : ℤ) (n : ℕ) (fs : List Face) (why : OpFault) (r : Result Hollowed OpFault) → fs ≡ faces_at m n → IsErrAnd r (λ e. e ≡ why) → AreWalls t n fs (Err why) → IsHollowed m t n r
one_stops m t n fs (No refusal) r e is h = subst (IsHollowed m t n) (sym (err_is r (No refusal) is)) (subst (λ l. AreWalls t n l (Err (No refusal))) e h)
one_stops m t n fs Memory r e is h = subst (IsHollowed m t n) (sym (err_is r Memory is)) tt

module _ (m : Whole) (t : ℤ) (ns : List ℕ) where
  abbrev row : Below → ℕ → Option Refusal
  row b n = too_thick t n (faces_at m n) b

  -- The first i boxes have their walls, and none is too thick.
  pub record Hollowing (i : ℕ) (now : List Hollowed) (b : Below) : Type 0 where
    pub made : now ≡ map (hollowed_by m t b) (take i ns)
    pub passed : Passed (row b) ns i

  pub none_hollowed : (now : List Hollowed) → now ≡ [] → (b : Below) → Hollowing 0 now b
  none_hollowed now e b = record { made = e; passed = record { rest = refl } }

  pub one_hollowed : (i n : ℕ) (now new : List Hollowed) (h : Hollowed) → i < length ns → n ≡ get_or ns i n → ((b : Below) → IsRight b → Hollowing i now b) → IsHollowed m t n (Ok h) → new ≡ now ++ h ∷ [] →
      (b : Below) → IsRight b → Hollowing (i + 1) new b
  one_hollowed i n now new h lt is so_far hollowed more b right =
      let p = so_far b right in
      let k = hollowed b right in record {
        made = mapped_more (hollowed_by m t b) ns now new i n h lt is p.made (sym k.0) more;
        passed = passed_row (row b) ns i n lt is p.passed k.1;
      }

  pub hollowing_stops : (i n : ℕ) (now : List Hollowed) (why : OpFault) (r : Result (List Hollowed) OpFault) → i < length ns → n ≡ get_or ns i n → ((b : Below) → IsRight b → Hollowing i now b) → IsErrAnd r (λ e. e ≡ why) →
      IsHollowed m t n (Err why) → AreHollowed m t ns r
  hollowing_stops i n now (No refusal) r lt is so_far e stops = subst (AreHollowed m t ns) (sym (err_is r (No refusal) e))
      (λ b right. stopped_row (row b) ns i n lt is (so_far b right).passed refusal (stops b right))
  hollowing_stops i n now Memory r lt is so_far e stops = subst (AreHollowed m t ns) (sym (err_is r Memory e)) tt

  pub all_hollowed : (i : ℕ) (now list : List Hollowed) → length ns ≤ i → ((b : Below) → IsRight b → Hollowing i now b) → list ≡ now → AreHollowed m t ns (Ok list)
  all_hollowed i now list le so_far e b right =
      let h = so_far b right in
      (sym (e ∙ mapped_all (hollowed_by m t b) ns now i le h.made), passed_all (row b) ns i le h.passed)
