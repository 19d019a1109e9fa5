-- The faces that a point of a solid is on.
use Rattle.std.proofs.Common.{◌≡◌, List, [], ◌∷◌, arith, pos}
use Rattle.std.proofs.lemmas.Int.{ints, by_lt_z}
use Rattle.algebra.specs.Members.{◌∈◌, here, there}
use Rattle.algebra.specs.Space.{Homogeneous, HalfSpace, side}
use Rattle.algebra.proofs.Members.{each_of_more}
use Rattle.trim_laws.specs.Solid.{IsIn}

-- The faces of F on which p is.
pub record Tight (F : List HalfSpace) (p : Homogeneous) : Type 0 where
  pub faces : List HalfSpace
  pub all : (f : HalfSpace) → f ∈ F → side f p ≡ pos 0 → f ∈ faces
  pub only : (f : HalfSpace) → f ∈ faces → (f ∈ F) × (side f p ≡ pos 0)

pub tight : (F : List HalfSpace) (p : Homogeneous) → IsIn F p → Tight F p
tight [] p i = record { faces = []; all = λ f m. elim m [ ]; only = λ f m. elim m [ ] }
tight (e ∷ F) p i =
    let r = tight F p (record { weight = i.weight; all = λ f m. i.all f (there m) }) in by_lt_z (side e p) (pos 0)
    (λ l. record {
      faces = r.faces;
      all = each_of_more (λ f. side f p ≡ pos 0 → f ∈ r.faces) e F (λ z. absurd (omega (arith, ints))) r.all;
      only = λ f m. let o = r.only f m in (there o.0, o.1);
    })
    (λ l. let k = i.all e here in let z : side e p ≡ pos 0 = omega (arith, ints) in record {
      faces = e ∷ r.faces;
      all = each_of_more (λ f. side f p ≡ pos 0 → f ∈ (e ∷ r.faces)) e F (λ y. here) (λ f m y. there (r.all f m y));
      only = each_of_more (λ f. (f ∈ (e ∷ F)) × (side f p ≡ pos 0)) e r.faces (here, z) (λ f m. let o = r.only f m in (there o.0, o.1));
    })
