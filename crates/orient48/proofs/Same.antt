-- Motions are equal where their orientations have the same number and their shifts the same three numbers.
use Rattle.std.proofs.Common.{◌≡◌, ℕ, ◌<◌, Bool, ◌&&◌, List, ℤ, sym, ap, ◌∙◌}
use Rattle.std.specs.Bool.{Decides}
use Rattle.std.proofs.lemmas.Bool.Decides.{Decides-like, Decides-and}
use Rattle.exact_geom.specs.Planes.{parts}
use Rattle.orient48.specs.Kept.{motion_at, vector_in, IsShift}
use Rattle.orient48.proofs.Numbers.{one_number}
use Rattle.orient48.proofs.Parts.{three_parts}

same_shift : (s t : List ℤ) → IsShift s → IsShift t → vector_in s ≡ vector_in t → s ≡ t
same_shift s t p q e = three_parts s p.three ∙ ap parts e ∙ sym (three_parts t q.three)

pub decides_motion : (j k : ℕ) (s t : List ℤ) (a b : Bool) → j < 48 → k < 48 → IsShift s → IsShift t → Decides a (j ≡ k) → Decides b (s ≡ t) → Decides (a && b) (motion_at j s ≡ motion_at k t)
decides_motion j k s t a b below_j below_k short_s short_t da db = Decides-like (a && b)
    (λ h i. motion_at (h.0 i) (h.1 i))
    (λ e. (one_number j k below_j below_k (ap (λ m. m.matrix) e), same_shift s t short_s short_t (ap (λ m. m.shift) e)))
    (Decides-and a b da db)
