-- A stream that was read up to one byte past a limit was read whole, or is longer than the limit.
use Rattle.std.proofs.Common.{◌≡◌, ℕ, ◌+◌, ◌-◌, ◌^◌, ◌<◌, ◌≤◌, min, Bool, true, false, List, [], ◌++◌, length, take, Option, Some, None, ap, sym, ◌∙◌, IfSome, arith, length-take, take_all}
use Rattle.std.proofs.Math.Dec.{leb}
use Rattle.std.proofs.lemmas.Bool.{leb-true, leb-false}
use Rattle.std.specs.Prelude.{option_map}
use Rattle.outside_io.specs.Streams.{IsWhole}

module _ (bytes out : List ℕ) (limit most : ℕ) (m : most ≡ min (limit + 1) (2 ^ 64 - 1)) (e : out ≡ take most bytes) (small : length out < 2 ^ 63) where
  counted : length out ≡ min most (length bytes)
  counted = ap length e ∙ length-take most bytes

  pub is_whole : (fits : Bool) → leb (length out) limit ≡ fits → IsWhole bytes limit out fits
  is_whole true t =
      let within : length out ≤ limit = leb-true (length out) limit t in
      let short : length bytes ≤ most = omega (arith, counted, m) in
      (omega (arith, counted, m), e ∙ take_all most bytes short)
  is_whole false t = let past : limit < length out = leb-false (length out) limit t in omega (arith, counted, m)

pub read_is_whole : (known : Option (List ℕ)) (out cleared : List ℕ) (limit most count : ℕ) → most ≡ min (limit + 1) (2 ^ 64 - 1) → cleared ≡ [] → count ≡ length out → length out < 2 ^ 63 →
    IfSome (option_map (take most) known) (λ xs. out ≡ cleared ++ xs) → IfSome known (λ bytes. IsWhole bytes limit out (leb count limit))
read_is_whole None out cleared limit most count m c n small h = tt
read_is_whole (Some bytes) out cleared limit most count m c n small h =
    is_whole bytes out limit most m (h ∙ ap (λ l. l ++ take most bytes) c) small (leb count limit) (ap (λ k. leb k limit) (sym n))
