-- What an option holds.
use Rattle.std.proofs.Common.{◌≡◌, Some, None, is_some, sym, ap}
use Rattle.std.proofs.lemmas.Bool.{true≢false}

pub no_some : {A P : Type 0} {x : A} → None ≡ Some x → P
no_some e = absurd (true≢false (sym (ap is_some e)))

pub of_some : {A : Type 0} {x y : A} → Some x ≡ Some y → x ≡ y
of_some {A} {x} {y} e = ap (λ o. elim o as (λ o. A) [ None ↦ x | Some a ↦ a ]) e
