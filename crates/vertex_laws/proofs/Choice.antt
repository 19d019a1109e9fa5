-- Some member of a list has one property, or each has the other.
use Rattle.std.proofs.Common.{List, [], ◌∷◌, ◌⊎◌, inl, inr, ⊎_elim}
use Rattle.algebra.specs.Members.{◌∈◌, here, there, Every}
use Rattle.algebra.specs.Space.{HalfSpace}
use Rattle.algebra.proofs.Members.{each_of_more}

pub record Some (Q : HalfSpace → Type 0) (T : List HalfSpace) : Type 0 where
  pub it : HalfSpace
  pub among : it ∈ T
  pub has : Q it

pub some_or_all : (Q R : HalfSpace → Type 0) (T : List HalfSpace) → Every (λ f. Q f ⊎ R f) T → Some Q T ⊎ Every R T
some_or_all Q R [] d = inr (λ f m. elim m [ ])
some_or_all Q R (e ∷ T) d = ⊎_elim (λ q. inl (record { it = e; among = here; has = q }))
    (λ r. ⊎_elim (λ s. inl (record { it = s.it; among = there s.among; has = s.has })) (λ all. inr (each_of_more R e T r all))
    (some_or_all Q R T (λ f m. d f (there m))))
    (d e here)
