-- The first of the four rows on motions that holds.
use Rattle.std.proofs.Common.{◌≡◌, ℕ, List, [], ◌∷◌, Bool, Option, Result, Ok, Err}
use Rattle.std.specs.Prelude.{IsErrAnd}
use Rattle.map_model.specs.Motions.{Motion}
use Rattle.map_model.specs.Tree.{Whole}
use Rattle.map_model.specs.Below.{Below}
use Rattle.map_model.specs.Replies.{Refusal}
use Rattle.map_model.specs.Rows.{first}
use Rattle.tree_ops.specs.Passing.{passes}
use Rattle.tree_ops.specs.declared.fault.OpFault.{OpFault}
use Rattle.tree_ops.specs.declared.fault.OpFault.TheVariants.{No}
use Rattle.brush_plans.specs.Saying.{Says}
use Rattle.edit_ops.specs.Moving.{points_row, world_row, offsets_row, origins_row, motion_rows}
use Rattle.brush_plans.proofs.RowLoops.{no_row, that_row, first_behind, first_stops, says_stop, says_err}

module _ (lock : Bool) (r : Motion) (m : Whole) (ns : List ℕ) where
  abbrev all_four : Below → Option Refusal
  all_four b = first (motion_rows lock r m ns b)

  pub stops_points : (x : Refusal) (result : Result (Unit {0}) OpFault) → IsErrAnd result (λ e. e ≡ No x) → Err x ≡ passes (points_row r m ns) → Says all_four result
  stops_points x result is e =
      says_err all_four result (No x) is (λ b right. first_stops [] (points_row r m ns) (world_row r m ns b ∷ offsets_row lock r m ns ∷ origins_row r m ns ∷ []) x tt (that_row (points_row r m ns) x e))

  module _ (points : Ok tt ≡ passes (points_row r m ns)) where
    pub stops_world : (why : OpFault) (result : Result (Unit {0}) OpFault) → IsErrAnd result (λ e. e ≡ why) → Says (world_row r m ns) (Err why) → Says all_four result
    stops_world why result is says =
        says_err all_four result why is
        (says_stop (world_row r m ns) all_four (λ b right x e. first_stops (points_row r m ns ∷ []) (world_row r m ns b) (offsets_row lock r m ns ∷ origins_row r m ns ∷ []) x (no_row (points_row r m ns) points, tt) e) why says)

    module _ (world : Says (world_row r m ns) (Ok tt)) where
      pub stops_offsets : (x : Refusal) (result : Result (Unit {0}) OpFault) → IsErrAnd result (λ e. e ≡ No x) → Err x ≡ passes (offsets_row lock r m ns) → Says all_four result
      stops_offsets x result is e =
          says_err all_four result (No x) is (λ b right. first_stops (points_row r m ns ∷ world_row r m ns b ∷ []) (offsets_row lock r m ns) (origins_row r m ns ∷ []) x
          (no_row (points_row r m ns) points, (world b right, tt)) (that_row (offsets_row lock r m ns) x e))

      module _ (offsets : Ok tt ≡ passes (offsets_row lock r m ns)) where
        pub stops_origins : (x : Refusal) (result : Result (Unit {0}) OpFault) → IsErrAnd result (λ e. e ≡ No x) → Err x ≡ passes (origins_row r m ns) → Says all_four result
        stops_origins x result is e =
            says_err all_four result (No x) is (λ b right. first_stops (points_row r m ns ∷ world_row r m ns b ∷ offsets_row lock r m ns ∷ []) (origins_row r m ns) [] x
            (no_row (points_row r m ns) points, (world b right, (no_row (offsets_row lock r m ns) offsets, tt))) (that_row (origins_row r m ns) x e))

        pub passes_all : Ok tt ≡ passes (origins_row r m ns) → Says all_four (Ok tt)
        passes_all origins = λ b right. first_behind (points_row r m ns ∷ world_row r m ns b ∷ offsets_row lock r m ns ∷ origins_row r m ns ∷ []) []
            (no_row (points_row r m ns) points, (world b right, (no_row (offsets_row lock r m ns) offsets, (no_row (origins_row r m ns) origins, tt))))
