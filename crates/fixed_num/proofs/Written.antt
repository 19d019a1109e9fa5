-- What a written text is, whatever the number of decimals.
use Rattle.std.proofs.Common.{◌≡◌, ℕ, ◌+◌, ◌^◌, ◌<◌, ◌≤◌, List, sym, subst, ℤ, unsigned_abs}
use Rattle.fixed_num.specs.DecimalValue.{RoundsTo}
use Rattle.fixed_num.specs.Shortest.{IsShortest, shortest_decimal}
use Rattle.fixed_num.proofs.Counts.{RoundsTo-from_exact}
use Rattle.fixed_num.proofs.Decimals.{IsShortest-shortest_decimal, exact-shortest_decimal}

pub shortest_from_text : (decimals : ℕ) (count : ℤ) (text : List ℕ) → decimals ≤ 12 → unsigned_abs count < 10 ^ (6 + decimals) → text ≡ shortest_decimal decimals count
    → IsShortest decimals text count
shortest_from_text decimals count text few below e =
    subst (λ t. IsShortest decimals t count) (sym e) (IsShortest-shortest_decimal decimals count few below)

pub reads_back_from_text : (decimals : ℕ) (count : ℤ) (text : List ℕ) → decimals ≤ 12 → unsigned_abs count < 10 ^ (6 + decimals) → text ≡ shortest_decimal decimals count
    → RoundsTo decimals text count
reads_back_from_text decimals count text few below e =
    subst (λ t. RoundsTo decimals t count) (sym e) (RoundsTo-from_exact decimals _ count (exact-shortest_decimal decimals count few below))
