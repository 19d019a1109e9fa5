-- Half-edges in numbered slots that a motion moves.
use Rattle.std.specs.Prelude.{◌≡◌, ℕ}
use Rattle.orient48.specs.Motions.{Motion, moved_half, moved_at}
use Rattle.poly_laws.specs.Links.{Links, HasEdge}

-- Points and planes are moved, and the links stay.
abbrev pub moved_links : Motion → Links → Links
moved_links r L = record L { point = λ x. moved_at r (L.point x); plane = λ k. moved_half r (L.plane k) }

-- Each half-edge turned round: it begins where it ended, and the next one of its face is the one before.
abbrev pub turned_links : (before : ℕ → ℕ) → Links → Links
turned_links before L = record L { origin = λ e. L.origin (L.twin e); next = before }

-- Before each live half-edge of a face a live one leads to it, and it is the only one.
pub record LeadsBack (L : Links) (before : ℕ → ℕ) : Type 0 where
  pub live : (e : ℕ) → HasEdge L e → HasEdge L (before e)
  pub onward : (e : ℕ) → HasEdge L e → L.next (before e) ≡ e
  pub back : (e : ℕ) → HasEdge L e → before (L.next e) ≡ e
