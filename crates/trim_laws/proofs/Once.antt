-- There is only one trimmed list, trimming it again changes nothing, and it can be a valid brush.
use Rattle.std.proofs.Common.{◌≡◌, refl, ap, List, [], ◌∷◌}
use Rattle.algebra.specs.Members.{◌∈◌, here, there}
use Rattle.algebra.specs.Space.{HalfSpace}
use Rattle.algebra.proofs.Members.{each_of_more}
use Rattle.trim_laws.specs.Trim.{Bears, Trims, ends, keeps, drops}
use Rattle.trim_laws.specs.Laws.{TrimUniqueLaw, TrimAgainLaw, ValidLaw}
use Rattle.trim_laws.proofs.Trimmed.{trimmed_in, trim}

unique : {F earlier rest G H : List HalfSpace} → Trims F earlier rest G → Trims F earlier rest H → G ≡ H
unique ends ends = refl
unique (keeps {f = f} k t) (keeps l u) = ap (λ x. f ∷ x) (unique t u)
unique (keeps k t) (drops l u) = absurd (l k)
unique (drops k t) (keeps l u) = absurd (k l)
unique (drops k t) (drops l u) = unique t u

pub trim_unique : TrimUniqueLaw
trim_unique F G H t u = unique t u

-- A face that bears in a list bears in each part of it.
pub bears_in_part : (F G : List HalfSpace) (f : HalfSpace) → ((g : HalfSpace) → g ∈ G → g ∈ F) → Bears F f → Bears G f
bears_in_part F G f sub b = record { at = b.at; weight = b.weight; on = b.on; others = λ g m n. b.others g (sub g m) n }

again : {F earlier rest kept : List HalfSpace} (G before : List HalfSpace) → ((g : HalfSpace) → g ∈ G → g ∈ F) → ((g : HalfSpace) → g ∈ before → g ∈ earlier) →
    Trims F earlier rest kept → Trims G before kept kept
again G before sub first ends = ends
again {F} {earlier} G before sub first (keeps {f = f} k t) = keeps
    (record { first = λ g m s. k.first g (first g m) s; bears = bears_in_part F G f sub k.bears })
    (again G (f ∷ before) sub (each_of_more (λ g. g ∈ (f ∷ earlier)) f before here (λ g m. there (first g m))) t)
again G before sub first (drops k t) = again G before sub (λ g m. there (first g m)) t

pub trim_again : TrimAgainLaw
trim_again F G t = again G [] (trimmed_in t) (λ g m. elim m [ ]) t

pub valid : ValidLaw
valid F G o r i w t l n = record {
  trimmed = trim_again F G t;
  least = l;
  most = n;
  volume = record { at = o; inside = record { weight = i.weight; all = λ f m. i.all f (trimmed_in t f m) } };
  within = λ p j. w p (trim F G o p r i t j);
}
