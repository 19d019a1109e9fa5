-- A text that is written over zeros is padded.
use Rattle.std.proofs.Common.{◌≡◌, ℕ, ◌≤◌, List, ◌++◌, length, take, drop, refl, arith, length-append}
use Rattle.std.specs.Prelude.{replicate}
use Rattle.std.proofs.lemmas.List.{drop-replicate}
use Rattle.std.proofs.Math.Seq.{take-append_seam}
use Rattle.key_table.specs.Padding.{padded}

-- the text is there, and zeros after it
pub written_over_zeros : (text written : List ℕ) → written ≡ text →
    let bytes = written ++ drop (length text) (replicate 32 0) in
    (length text ≤ length bytes) × (bytes ≡ padded (take (length text) bytes))
written_over_zeros text written same =
    rw same (
      omega (arith, length-append text (drop (length text) (replicate 32 0))),
      rw (take-append_seam, drop-replicate) refl,
    )

pub starts_with_text : (text written rest : List ℕ) → written ≡ text → take (length text) (written ++ rest) ≡ text
starts_with_text text written rest same = rw (same, take-append_seam) refl
