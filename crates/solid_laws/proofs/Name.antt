-- Each vertex has one name.
use Rattle.std.proofs.Common.{◌≡◌, ℕ, ◌⊎◌, inl, inr, ⊎_elim, List, length, subst}
use Rattle.std.proofs.lemmas.Option.{slice_get_within}
use Rattle.algebra.specs.Space.{Homogeneous, HalfSpace}
use Rattle.solid_laws.specs.Names.{Triple, Earlier, MeetAt, IsName}
use Rattle.solid_laws.specs.Laws.{NameLaw}
use Rattle.solid_laws.proofs.Least.{Least, least_of, least_within}
use Rattle.solid_laws.proofs.Triples.{triple, compare, decide_meet, meeting}

-- ---- the first triple: the least first number, with it the least second one, with both the least third one
abbrev Third : List HalfSpace → Homogeneous → ℕ → ℕ → Type 0
Third F p i j = Least (λ k. MeetAt F (triple i j k) p)

abbrev Second : List HalfSpace → Homogeneous → ℕ → Type 0
Second F p i = Least (λ j. Third F p i j)

abbrev First : List HalfSpace → Homogeneous → Type 0
First F p = Least (λ i. Second F p i)

decide_third : (F : List HalfSpace) (p : Homogeneous) (i j : ℕ) → Third F p i j ⊎ ¬ (Third F p i j)
decide_third F p i j = least_within (λ k. MeetAt F (triple i j k) p) (λ k. decide_meet F p (triple i j k)) (length F) (λ k m. slice_get_within F k m.h m.third)

decide_second : (F : List HalfSpace) (p : Homogeneous) (i : ℕ) → Second F p i ⊎ ¬ (Second F p i)
decide_second F p i = least_within (λ j. Third F p i j) (λ j. decide_third F p i j) (length F) (λ j t. slice_get_within F j t.has.g t.has.second)

third : (F : List HalfSpace) (p : Homogeneous) (t : Triple) → MeetAt F t p → Third F p t.first t.second
third F p t m = least_of (λ k. MeetAt F (triple t.first t.second k) p) (λ k. decide_meet F p (triple t.first t.second k)) t.third m

second : (F : List HalfSpace) (p : Homogeneous) (t : Triple) → MeetAt F t p → Second F p t.first
second F p t m = least_of (λ j. Third F p t.first j) (λ j. decide_third F p t.first j) t.second (third F p t m)

first : (F : List HalfSpace) (p : Homogeneous) (t : Triple) → MeetAt F t p → First F p
first F p t m = least_of (λ i. Second F p i) (λ i. decide_second F p i) t.first (second F p t m)

none_earlier : (F : List HalfSpace) (p : Homogeneous) (l : First F p) (s : Triple) → MeetAt F s p → ¬ (Earlier s (triple l.at l.has.at l.has.has.at))
none_earlier F p l s m (inl a) = l.below s.first a (second F p s m)
none_earlier F p l s m (inr (e, inl a)) = l.has.below s.second a (subst (λ i. Third F p i s.second) e (third F p s m))
none_earlier F p l s m (inr (e, inr (f, a))) = l.has.has.below s.third a (subst (λ j. MeetAt F (triple l.at j s.third) p) f (subst (λ i. MeetAt F (triple i s.second s.third) p) e m))

pub same_name : (F : List HalfSpace) (p : Homogeneous) (s t : Triple) → IsName F p s → IsName F p t → s ≡ t
same_name F p s t a b = ⊎_elim (λ e. absurd (b.least s a.meet e)) (λ r. ⊎_elim (λ e. e) (λ e. absurd (a.least t b.meet e)) r) (compare s t)

pub name : NameLaw
name F v u =
    let m = meeting F v u in let l = first F v m.triple m.meet in
    let n : IsName F v (triple l.at l.has.at l.has.has.at) = record { meet = l.has.has.has; least = none_earlier F v l } in
    record { name = triple l.at l.has.at l.has.has.at; named = n; only = λ t a. same_name F v t (triple l.at l.has.at l.has.has.at) a n }
