-- The front of a list, held in a buffer.
use Rattle.std.proofs.Common.{◌≡◌, ℕ, ◌+◌, ◌<◌, List, [], ◌∷◌, ◌++◌, length, take, slice_set, sym, ◌∙◌, arith, length-take, length-append, take_all}
use Rattle.std.proofs.lemmas.List.{take_more_set, take-append-le}

-- One more byte is held, where there is room.
pub held_more : (buffer : List ℕ) (len n b : ℕ) → len < n → len < length buffer → take (len + 1) (slice_set buffer len b) ≡ take n (take len buffer ++ b ∷ [])
held_more buffer len n b room fits =
    take_more_set buffer len b fits ∙ sym (take_all n (take len buffer ++ b ∷ []) (omega (arith, length-append (take len buffer) (b ∷ []), length-take len buffer)))

-- Where there is none, what is held stays.
pub held_full : (held : List ℕ) (n b : ℕ) → length held ≡ n → held ≡ take n (held ++ b ∷ [])
held_full held n b full = sym (take-append-le n held (b ∷ []) (omega arith) ∙ take_all n held (omega arith))
