-- The first of seven rows that holds.
use Rattle.std.proofs.Common.{◌≡◌, List, [], ◌∷◌, Option, None, Some, Result, Ok, Err, refl, sym, ◌∙◌}
use Rattle.map_model.specs.Replies.{Refusal}
use Rattle.map_model.specs.Rows.{first}
use Rattle.tree_ops.specs.Passing.{passes}

-- The row lets the command pass: what the others say.
passed : (r : Option Refusal) (rows : List (Option Refusal)) → passes r ≡ Ok tt → passes (first (r ∷ rows)) ≡ passes (first rows)
passed None rows e = refl
passed (Some refusal) rows e = absurd (cc)

-- The row refuses the command.
stopped : (r : Option Refusal) (rows : List (Option Refusal)) (refusal : Refusal) → passes r ≡ Err refusal → passes (first (r ∷ rows)) ≡ Err refusal
stopped None rows refusal e = absurd (cc)
stopped (Some refusal) rows other e = e

-- What the last row says.
last : (r : Option Refusal) (answer : Result (Unit {0}) Refusal) → answer ≡ passes r → passes (first (r ∷ [])) ≡ answer
last None answer e = sym e
last (Some refusal) answer e = sym e

module _ (a b c d e f g : Option Refusal) where
  pub stops_first : (x : Refusal) → passes a ≡ Err x → Err x ≡ passes (first (a ∷ b ∷ c ∷ d ∷ e ∷ f ∷ g ∷ []))
  stops_first x stop = sym (stopped a (b ∷ c ∷ d ∷ e ∷ f ∷ g ∷ []) x stop)

  pub stops_second : (x : Refusal) → passes a ≡ Ok tt → passes b ≡ Err x → Err x ≡ passes (first (a ∷ b ∷ c ∷ d ∷ e ∷ f ∷ g ∷ []))
  stops_second x pa stop = sym (passed a (b ∷ c ∷ d ∷ e ∷ f ∷ g ∷ []) pa ∙ stopped b (c ∷ d ∷ e ∷ f ∷ g ∷ []) x stop)

  pub stops_third : (x : Refusal) → passes a ≡ Ok tt → passes b ≡ Ok tt → passes c ≡ Err x → Err x ≡ passes (first (a ∷ b ∷ c ∷ d ∷ e ∷ f ∷ g ∷ []))
  stops_third x pa pb stop = sym (passed a (b ∷ c ∷ d ∷ e ∷ f ∷ g ∷ []) pa ∙ passed b (c ∷ d ∷ e ∷ f ∷ g ∷ []) pb ∙ stopped c (d ∷ e ∷ f ∷ g ∷ []) x stop)

  pub stops_fourth : (x : Refusal) → passes a ≡ Ok tt → passes b ≡ Ok tt → passes c ≡ Ok tt → passes d ≡ Err x → Err x ≡ passes (first (a ∷ b ∷ c ∷ d ∷ e ∷ f ∷ g ∷ []))
  stops_fourth x pa pb pc stop = sym (passed a (b ∷ c ∷ d ∷ e ∷ f ∷ g ∷ []) pa ∙ passed b (c ∷ d ∷ e ∷ f ∷ g ∷ []) pb ∙ passed c (d ∷ e ∷ f ∷ g ∷ []) pc ∙ stopped d (e ∷ f ∷ g ∷ []) x stop)

  pub stops_fifth : (x : Refusal) → passes a ≡ Ok tt → passes b ≡ Ok tt → passes c ≡ Ok tt → passes d ≡ Ok tt → passes e ≡ Err x → Err x ≡ passes (first (a ∷ b ∷ c ∷ d ∷ e ∷ f ∷ g ∷ []))
  stops_fifth x pa pb pc pd stop = sym (passed a (b ∷ c ∷ d ∷ e ∷ f ∷ g ∷ []) pa ∙ passed b (c ∷ d ∷ e ∷ f ∷ g ∷ []) pb ∙ passed c (d ∷ e ∷ f ∷ g ∷ []) pc ∙ passed d (e ∷ f ∷ g ∷ []) pd ∙ stopped e (f ∷ g ∷ []) x stop)

  pub stops_sixth : (x : Refusal) → passes a ≡ Ok tt → passes b ≡ Ok tt → passes c ≡ Ok tt → passes d ≡ Ok tt → passes e ≡ Ok tt → passes f ≡ Err x → Err x ≡ passes (first (a ∷ b ∷ c ∷ d ∷ e ∷ f ∷ g ∷ []))
  stops_sixth x pa pb pc pd pe stop = sym (passed a (b ∷ c ∷ d ∷ e ∷ f ∷ g ∷ []) pa ∙ passed b (c ∷ d ∷ e ∷ f ∷ g ∷ []) pb ∙ passed c (d ∷ e ∷ f ∷ g ∷ []) pc ∙ passed d (e ∷ f ∷ g ∷ []) pd ∙ passed e (f ∷ g ∷ []) pe ∙ stopped f (g ∷ []) x stop)

  pub says_last : (answer : Result (Unit {0}) Refusal) → passes a ≡ Ok tt → passes b ≡ Ok tt → passes c ≡ Ok tt → passes d ≡ Ok tt → passes e ≡ Ok tt → passes f ≡ Ok tt → answer ≡ passes g → answer ≡ passes (first (a ∷ b ∷ c ∷ d ∷ e ∷ f ∷ g ∷ []))
  says_last answer pa pb pc pd pe pf says = sym (passed a (b ∷ c ∷ d ∷ e ∷ f ∷ g ∷ []) pa ∙ passed b (c ∷ d ∷ e ∷ f ∷ g ∷ []) pb ∙ passed c (d ∷ e ∷ f ∷ g ∷ []) pc ∙ passed d (e ∷ f ∷ g ∷ []) pd ∙ passed e (f ∷ g ∷ []) pe ∙ passed f (g ∷ []) pf ∙ last g answer says)
