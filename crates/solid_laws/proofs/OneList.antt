-- The vertices of a list, in the order of their names, are one list.
use Rattle.std.proofs.Common.{◌≡◌, refl, sym, ap, subst, ◌∙◌, List, [], ◌∷◌}
use Rattle.algebra.specs.Members.{◌∈◌, here, there, Every}
use Rattle.algebra.specs.Space.{Homogeneous, HalfSpace}
use Rattle.solid_laws.specs.Names.{Earlier, NamedBefore, NamesRise, one_more_point}
use Rattle.solid_laws.specs.Laws.{OneListLaw}
use Rattle.solid_laws.proofs.Triples.{earlier_clash}
use Rattle.solid_laws.proofs.Name.{same_name}

pub named_apart : (F : List HalfSpace) (p q : Homogeneous) → NamedBefore F p q → NamedBefore F q p → ⊥
named_apart F p q a b =
    let e = same_name F p b.q_name a.p_name b.named_q a.named_p in let f = same_name F q b.p_name a.q_name b.named_p a.named_q in
    earlier_clash a.p_name a.q_name a.earlier (subst (λ t. Earlier t a.p_name) f (subst (λ t. Earlier b.p_name t) e b.earlier))

heads : (F : List HalfSpace) (p q : Homogeneous) (V W : List Homogeneous) → Every (NamedBefore F p) V → Every (NamedBefore F q) W →
    p ∈ (q ∷ W) → q ∈ (p ∷ V) → p ≡ q
heads F p q V W a b here n = refl
heads F p q V W a b (there m) here = refl
heads F p q V W a b (there m) (there n) = absurd (named_apart F p q (a q n) (b p m))

-- A later member is no first one.
later : (F : List HalfSpace) (p q x : Homogeneous) (W : List Homogeneous) → p ≡ q → NamedBefore F p x → x ∈ (q ∷ W) → x ∈ W
later F p q x W e b here = let c = subst (λ t. NamedBefore F t q) e b in absurd (named_apart F q q c c)
later F p q x W e b (there m) = m

same_list : (F : List HalfSpace) (V W : List Homogeneous) → NamesRise F V → NamesRise F W →
    ((v : Homogeneous) → v ∈ V → v ∈ W) → ((v : Homogeneous) → v ∈ W → v ∈ V) → V ≡ W
same_list F [] [] a b sub back = refl
same_list F [] (q ∷ W) a b sub back = elim (back q here) [ ]
same_list F (p ∷ V) [] a b sub back = elim (sub p here) [ ]
same_list F (p ∷ V) (q ∷ W) (one_more_point a r) (one_more_point b s) sub back =
    let e = heads F p q V W a b (sub p here) (back q here) in
    ap (λ x. x ∷ V) e ∙ ap (λ X. q ∷ X) (same_list F V W r s
    (λ v m. later F p q v W e (a v m) (sub v (there m))) (λ v m. later F q p v V (sym e) (b v m) (back v (there m))))

pub one_list : OneListLaw
one_list F V W a b = same_list F V W a.order b.order (λ v m. let u = a.each v m in b.all v u.0 u.1) (λ v m. let u = b.each v m in a.all v u.0 u.1)
