-- What is said of a cut, as a cut of a trimmed list.
use Rattle.std.proofs.Common.{◌≡◌, refl, ap, List, [], ◌∷◌, ◌++◌, ℕ, ◌+◌, ◌≤◌}
use Rattle.std.proofs.lemmas.List.{map-append}
use Rattle.algebra.specs.Space.{HalfSpace}
use Rattle.trim_laws.specs.Trim.{Trim}
use Rattle.trim_laws.proofs.Faces.{trim_faces}
use Rattle.cut_laws.specs.Cut.{back}
use Rattle.poly_laws.specs.Cuts.{CutsOne, misses, halves}
use Rattle.poly_laws.proofs.Neats.{inside_back}
use Rattle.half_poly.specs.declared.cut.Cut.TheVariants.{Missed, Gone, Halved}
use Rattle.half_poly.specs.Shapes.{Tagged, bounds, solid_of, SaysLaw}
use Rattle.poly_laws.specs.Counts.{AmongVertices, AmongEdges}

same_list : (G K : List HalfSpace) (P : HalfSpace) → K ≡ G → CutsOne G P G → CutsOne G P K
same_list G K P q c = rw q c

pub says : SaysLaw
says sides after side Missed w s n = same_list (solid_of sides) (solid_of after) (bounds side) (ap solid_of s.1) (misses s.0)
says sides after side Gone w s n = absurd (n refl)
says sides after side Halved w s n =
    let b = s.1 in
    let k = inside_back (solid_of sides) (bounds side) w.at b.at w.inside b.vertex.inside b.behind in
    let t : Trim (back (solid_of sides) (bounds side)) (solid_of after) = rw (map-append bounds sides (side ∷ [])) at (trim_faces Tagged bounds (sides ++ side ∷ []) after s.2).half_spaces in
    halves (record { at = k.at; inside = k.inside }) t

-- ---- steps
pub steps_at : (a b : List Tagged) → a ≡ b → (m n : ℕ) → ((v e : ℕ) → AmongVertices (solid_of a) v → AmongEdges (solid_of a) e → n ≤ m + v + e) → (v e : ℕ) → AmongVertices (solid_of b) v → AmongEdges (solid_of b) e → n ≤ m + v + e
steps_at a b q m n f v e x y = f v e (rw q x) (rw q y)
