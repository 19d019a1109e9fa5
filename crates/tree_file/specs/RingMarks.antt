-- Walks up from places, which find rings. Of each place `met` tells where the walk began that met it; 0 is none.
use Rattle.std.specs.Prelude.{◌≡◌, ◌≢◌, ◌⊎◌, ℕ, ◌<◌, Bool, false, List, length, slice_index, slice_index_or}
use Rattle.algebra.specs.Members.{◌∈◌}
use Rattle.file_laws.specs.Build.{breaks_ring, places_above}

abbrev pub IsMet : List ℕ → ℕ → Type 0
IsMet met place = slice_index met place ≢ 0

-- The walk from `start` met the place, below where it stopped.
pub record IsNew (parents before : List ℕ) (start : ℕ) (after : List ℕ) (stop place : ℕ) : Type 0 where
  pub unmet : slice_index before place ≡ 0
  pub now : slice_index after place ≡ start
  pub leads : stop ∈ places_above parents (length parents) place
  pub next : (slice_index parents place ≡ stop) ⊎ IsMet after (slice_index parents place)

-- A walk from `start` stopped at the world or at a place that was met.
pub record WalkedUp (parents before : List ℕ) (start : ℕ) (after : List ℕ) (stop : ℕ) : Type 0 where
  pub same_length : length after ≡ length before
  pub within : stop < length parents
  pub ended : (stop ≡ 0) ⊎ IsMet after stop
  pub begun : IsMet after start
  pub each : (place : ℕ) → (slice_index after place ≡ slice_index before place) ⊎ IsNew parents before start after stop place

-- The walks from all places below `next` are done. Above a place that was met all are met, and it has its flag.
pub record Settled (parents : List ℕ) (next : ℕ) (met : List ℕ) (breaks : List Bool) : Type 0 where
  pub length_met : length met ≡ length parents
  pub length_breaks : length breaks ≡ length parents
  pub earlier : (place : ℕ) → slice_index met place < next
  pub all_below : (place : ℕ) → 0 < place → place < next → IsMet met place
  pub closed : (place : ℕ) → IsMet met place → (slice_index parents place ≡ 0) ⊎ IsMet met (slice_index parents place)
  pub flagged : (place : ℕ) → IsMet met place → slice_index_or breaks place false ≡ breaks_ring parents place
  pub unflagged : (place : ℕ) → slice_index met place ≡ 0 → slice_index_or breaks place false ≡ false
