-- A map without linked groups has no link sets.
use Rattle.std.proofs.Common.{◌≡◌, ℕ, ◌==◌, false, List, [], ◌∷◌, length, filter_map, Option, None, option_map, refl, ap, sym}
use Rattle.map_model.specs.Tree.{Whole, is_linked, set_at, live}
use Rattle.map_model.specs.Brushes.{first_of_each}
use Rattle.map_model.specs.Counts.{link_count}
use Rattle.file_laws.proofs.Candidates.{no_link_at}

none_mapped : (f : ℕ → Option ℕ) (ns : List ℕ) → ((n : ℕ) → f n ≡ None) → filter_map f ns ≡ []
none_mapped f [] none = refl
none_mapped f (n ∷ ns) none = rw none (none_mapped f ns none)

pub no_sets : (m : Whole) → ((n : ℕ) → is_linked m n ≡ false) → 0 ≡ link_count m
no_sets m unlinked = sym (ap (λ sets. length (first_of_each ◌==◌ sets)) (none_mapped (set_at m) (live m) (λ n. ap (option_map (λ l. l.set)) (no_link_at m n (unlinked n)))))
