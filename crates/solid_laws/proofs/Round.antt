-- The turns of a face tell the order of its vertices.
use Rattle.std.proofs.Common.{◌≡◌, refl, sym, ap, subst, ◌∙◌, arith, List, [], ◌∷◌, ◌++◌, ℤ, pos, neg_ℤ, ◌*ℤ◌, ◌<ℤ◌}
use Rattle.std.proofs.lemmas.Int.{ints}
use Rattle.algebra.specs.Members.{◌∈◌, here, there}
use Rattle.algebra.specs.Space.{Homogeneous, HalfSpace, SamePoint}
use Rattle.algebra.proofs.Orders.{positive-mul}
use Rattle.algebra.proofs.Points.{same_point_refl, same_point_sym}
use Rattle.vertex_laws.specs.HalfEdge.{turn}
use Rattle.vertex_laws.specs.Loop.{IsNext, at_front, later, closed, Distinct, distinct_more}
use Rattle.vertex_laws.proofs.HalfEdge.{turn-swap}

-- A part of a loop, from some point to the end.
pub record Round (f : HalfSpace) (S : List Homogeneous) : Type 0 where
  pub once : Distinct S
  pub positive : (p : Homogeneous) → p ∈ S → pos 0 <ℤ p.weight
  pub turns : (a b c : Homogeneous) → IsNext a b S → c ∈ S → ¬ (SamePoint c a) → ¬ (SamePoint c b) → pos 0 <ℤ turn f a b c

pub apart : {s : Homogeneous} {S : List Homogeneous} → Distinct (s ∷ S) → (p : Homogeneous) → p ∈ S → ¬ (SamePoint s p)
apart (distinct_more n d) = n

distinct_rest : {s : Homogeneous} {S : List Homogeneous} → Distinct (s ∷ S) → Distinct S
distinct_rest (distinct_more n d) = d

pub rest : {f : HalfSpace} {s : Homogeneous} {S : List Homogeneous} → Round f (s ∷ S) → Round f S
rest {f} {s} {S} r = record { once = distinct_rest r.once; positive = λ p m. r.positive p (there m); turns = λ a b c n m. r.turns a b c (later n) (there m) }

-- The third of three points is on the inner side.
inner : (f : HalfSpace) (a b c : Homogeneous) (S : List Homogeneous) → Round f (a ∷ b ∷ S) → c ∈ S → pos 0 <ℤ turn f a b c
inner f a b c S r m = r.turns a b c at_front (there (there m)) (λ s. apart r.once c (there m) (same_point_sym s)) (λ s. apart (distinct_rest r.once) c m (same_point_sym s))

opposite : {A : Type 0} (v w s t : ℤ) → pos 0 <ℤ v → pos 0 <ℤ w → pos 0 <ℤ s → pos 0 <ℤ t → v *ℤ s ≡ neg_ℤ (w *ℤ t) → A
opposite {A} v w s t h k l m e = let x = positive-mul h l in let y = positive-mul k m in absurd (omega (arith, ints))

-- Two loops go from a to the same point.
same_next : (f : HalfSpace) (a b c : Homogeneous) (S T : List Homogeneous) → Round f (a ∷ b ∷ S) → Round f (a ∷ c ∷ T) → b ∈ (c ∷ T) → c ∈ (b ∷ S) → b ≡ c
same_next f a b c S T r t here n = refl
same_next f a b c S T r t (there m) here = refl
same_next f a b c S T r t (there m) (there n) = opposite c.weight b.weight (turn f a b c) (turn f a c b)
    (t.positive c (there here)) (r.positive b (there here)) (inner f a b c S r n) (inner f a c b T t m) (turn-swap f a b c)

-- A later member is no first one.
not_first : (b c x : Homogeneous) (T : List Homogeneous) → b ≡ c → ¬ (SamePoint b x) → x ∈ (c ∷ T) → x ∈ T
not_first b c x T e n here = absurd (n (subst (λ y. SamePoint b y) e (same_point_refl b)))
not_first b c x T e n (there m) = m

-- Without the first point, the other members are the same.
pub others : (b c : Homogeneous) (S T : List Homogeneous) → b ≡ c → Distinct (b ∷ S) → ((x : Homogeneous) → x ∈ (b ∷ S) → x ∈ (c ∷ T)) → (x : Homogeneous) → x ∈ S → x ∈ T
others b c S T e d sub x m = not_first b c x T e (apart d x m) (sub x (there m))

-- From the same point on, two loops with the same other members are one list.
pub walk : (f : HalfSpace) (a : Homogeneous) (S T : List Homogeneous) → Round f (a ∷ S) → Round f (a ∷ T) →
    ((x : Homogeneous) → x ∈ S → x ∈ T) → ((x : Homogeneous) → x ∈ T → x ∈ S) → S ≡ T
walk f a [] [] r t sub back = refl
walk f a [] (c ∷ T) r t sub back = elim (back c here) [ ]
walk f a (b ∷ S) [] r t sub back = elim (sub b here) [ ]
walk f a (b ∷ S) (c ∷ T) r t sub back =
    let e = same_next f a b c S T r t (sub b here) (back c here) in let q = rest r in let u = rest t in
    ap (λ x. x ∷ S) e ∙ ap (λ X. c ∷ X) (walk f c S T (subst (λ x. Round f (x ∷ S)) e q) u
    (others b c S T e q.once sub) (others c b T S (sym e) u.once back))

-- ---- a loop, once round
next_append : (a b : Homogeneous) (S T : List Homogeneous) → IsNext a b S → IsNext a b (S ++ T)
next_append a b (x ∷ y ∷ S) T at_front = at_front
next_append a b (x ∷ S) T (later n) = later (next_append a b S T n)
next_append a b [] T n = elim n [ ]

pub next_closed : (a b : Homogeneous) (S : List Homogeneous) → IsNext a b S → IsNext a b (closed S)
next_closed a b [] n = n
next_closed a b (s ∷ S) n = next_append a b (s ∷ S) (s ∷ []) n
