-- Tables of new numbers.
use Rattle.std.proofs.Common.{◌≡◌, ℕ, ◌+◌, ◌<◌, List, length, get_or, drop, Bool, true, false, cond, nat_eq, Option, Some, unwrap_or, refl, ap, ap₂, sym, ◌∙◌, arith, drop-cons, add-one}
use Rattle.std.specs.HashMap.{HashMap, get}
use Rattle.map_nodes.specs.Nodes.{number_in}
use Rattle.map_model.specs.Edits.{renumbered, numbered_from}

with_one : (b : Bool) (v q : ℕ) (o : Option ℕ) → unwrap_or (cond b (Some v) o) q ≡ cond b v (unwrap_or o q)
with_one true v q o = refl
with_one false v q o = refl

one_more : (first l : ℕ) (big : ℕ) → big ≡ l + 1 → first + big ≡ (first + l) + 1
one_more first l big e = omega (arith, e)

-- the table has the numbers from place l + 1 on, and then also that of place l
pub table_more : {S : Type 0} (old new : HashMap ℕ ℕ S) (ids : List ℕ) (first l big key v x q : ℕ) → big ≡ l + 1 → l < length ids
    → get nat_eq new q ≡ cond (nat_eq key q) (Some v) (get nat_eq old q) → key ≡ x → x ≡ get_or ids l x → v ≡ first + l
    → number_in old q ≡ renumbered (numbered_from (first + big) (drop big ids)) q → number_in new q ≡ renumbered (numbered_from (first + l) (drop l ids)) q
table_more old new ids first l big key v x q e lt added at_key at_x at_v so_far =
    ap (λ o. unwrap_or o q) added ∙ with_one (nat_eq key q) v q (get nat_eq old q)
    ∙ ap₂ (λ k w. cond (nat_eq k q) w (number_in old q)) (at_key ∙ at_x) at_v
    ∙ ap (cond (nat_eq (get_or ids l x) q) (first + l)) (so_far ∙ ap₂ (λ a j. renumbered (numbered_from a (drop j ids)) q) (one_more first l big e) (e ∙ add-one l))
    ∙ sym (ap (λ ns. renumbered (numbered_from (first + l) ns) q) (drop-cons ids l x lt))
