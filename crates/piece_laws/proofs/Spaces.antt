-- The pieces of a solid without another are the remainder.
use Rattle.std.proofs.Common.{List, [], ◌∷◌, arith, ℤ, pos, neg_ℤ, ◌<ℤ◌, ◌≤ℤ◌}
use Rattle.std.proofs.lemmas.Int.{ints, by_lt_z}
use Rattle.algebra.specs.Members.{◌∈◌, here, there}
use Rattle.algebra.specs.Space.{Homogeneous, HalfSpace, dot, scale, side, reverse}
use Rattle.algebra.proofs.Expr.{read}
use Rattle.algebra.proofs.Ring.{ring}
use Rattle.algebra.proofs.Orders.{lt_by}
use Rattle.algebra.proofs.Identities.{with_vector, side-reverse}
use Rattle.algebra.proofs.Members.{each_of_more}
use Rattle.trim_laws.specs.Solid.{IsIn, IsInside, Proper}
use Rattle.trim_laws.proofs.Bearing.{in_of_inside}
use Rattle.trim_laws.proofs.Trimmed.{trim, trim_back, trim_inside}
use Rattle.trim_laws.proofs.Steps.{below_le}
use Rattle.cut_laws.specs.Cut.{back}
use Rattle.cut_laws.proofs.Backs.{each_of_back, in_last, back_proper, back_in, in_of_back, behind_of_back}
use Rattle.poly_laws.proofs.Neats.{inside_back}
use Rattle.piece_laws.specs.Pieces.{IsInSome, Apart, no_solids, one_more_solid, Remainder}
use Rattle.piece_laws.proofs.Fronts.{front, Pieces, none_left, piece, empty}

reverse_proper : (f : HalfSpace) → pos 0 <ℤ dot f.normal f.normal → pos 0 <ℤ dot (reverse f).normal (reverse f).normal
unfolding reverse dot scale
reverse_proper f p = lt_by (dot f.normal f.normal) p (ring (with_vector f.normal []) (search read depth 20) tt)

back_inside : (F : List HalfSpace) (f : HalfSpace) (o : Homogeneous) → IsInside F o → side f o <ℤ pos 0 → IsInside (back F f) o
back_inside F f o i l = record { weight = i.weight; all = each_of_back (λ g. side g o <ℤ pos 0) F f i.all l }

-- ---- over plain numbers
neg_front : {a : ℤ} → pos 0 <ℤ a → neg_ℤ a <ℤ pos 0
neg_front {a} h = omega (arith, ints)

unreverse_le : {a : ℤ} → neg_ℤ a ≤ℤ pos 0 → pos 0 ≤ℤ a
unreverse_le {a} h = omega (arith, ints)

unreverse_lt : {a : ℤ} → neg_ℤ a <ℤ pos 0 → pos 0 <ℤ a
unreverse_lt {a} h = omega (arith, ints)

clash : {P : Type 0} {a : ℤ} → pos 0 ≤ℤ a → a <ℤ pos 0 → P
clash {P} {a} h k = absurd (omega (arith, ints))

clash_strict : {P : Type 0} {a : ℤ} → pos 0 <ℤ a → a ≤ℤ pos 0 → P
clash_strict {P} {a} h k = absurd (omega (arith, ints))

-- ---- first faces
in_more : {f : HalfSpace} {F : List HalfSpace} {p : Homogeneous} → side f p ≤ℤ pos 0 → IsIn F p → IsIn (f ∷ F) p
in_more {f} {F} {p} l i = record { weight = i.weight; all = each_of_more (λ g. side g p ≤ℤ pos 0) f F l i.all }

tail_inside : {f : HalfSpace} {F : List HalfSpace} {p : Homogeneous} → IsInside (f ∷ F) p → IsInside F p
tail_inside i = record { weight = i.weight; all = λ g m. i.all g (there m) }

in_later : {G : List HalfSpace} {Gs : List (List HalfSpace)} {p : Homogeneous} → IsInSome Gs p → IsInSome (G ∷ Gs) p
in_later h = record { solid = h.solid; among = there h.among; is_in = h.is_in }

-- ---- each point of A that is not in B
covers : (A B : List HalfSpace) (Gs : List (List HalfSpace)) (o : Homogeneous) → Pieces A B Gs → IsInside A o → IsInside B o → (p : Homogeneous) → IsIn A p → ¬ (IsIn B p) → IsInSome Gs p
covers A [] (G ∷ Gs) o t i j p h n = elim t [ ]
covers A [] [] o none_left i j p h n = absurd (n (record { weight = h.weight; all = λ f m. elim m [ ] }))
covers A (b ∷ B) (G ∷ Gs) o (piece q k t r) i j p h n = by_lt_z (pos 0) (side b p)
    (λ l. record { solid = G; among = here; is_in = trim_back (front A b) G p t (back_in A (reverse b) p h (rw side-reverse (below_le (neg_front l)))) })
    (λ l. in_later (covers (back A b) B Gs o r (back_inside A b o i (j.all b here)) (tail_inside j) p (back_in A b p h l) (λ m. n (in_more l m))))
covers A (b ∷ B) Gs o (empty e r) i j p h n = by_lt_z (pos 0) (side b p)
    (λ l. let q = inside_back A (reverse b) o p i h (rw side-reverse (neg_front l)) in absurd (e q.at q.inside))
    (λ l. covers (back A b) B Gs o r (back_inside A b o i (j.all b here)) (tail_inside j) p (back_in A b p h l) (λ m. n (in_more l m)))

-- ---- each point of a piece
within : (A B : List HalfSpace) (Gs : List (List HalfSpace)) → Pieces A B Gs → Proper A → Proper B → (p : Homogeneous) (G : List HalfSpace) → G ∈ Gs → IsIn G p → IsIn A p × ¬ (IsInside B p)
within A [] (K ∷ Gs) t r s p G m i = elim t [ ]
within A [] [] none_left r s p G m i = elim m [ ]
within A (b ∷ B) (K ∷ Gs) (piece q k t u) r s p G here i =
    let j = trim (front A b) K q p (back_proper A (reverse b) r (reverse_proper b (s b here))) k t i in
    (in_of_back A (reverse b) p j, λ n. clash (unreverse_le (rw side-reverse at (behind_of_back A (reverse b) p j))) (n.all b here))
within A (b ∷ B) (K ∷ Gs) (piece q k t u) r s p G (there m) i =
    let h = within (back A b) B Gs u (back_proper A b r (s b here)) (λ g l. s g (there l)) p G m i in
    (in_of_back A b p h.0, λ n. h.1 (tail_inside n))
within A (b ∷ B) Gs (empty e u) r s p G m i =
    let h = within (back A b) B Gs u (back_proper A b r (s b here)) (λ g l. s g (there l)) p G m i in
    (in_of_back A b p h.0, λ n. h.1 (tail_inside n))

apart : (A B : List HalfSpace) (Gs : List (List HalfSpace)) → Pieces A B Gs → Proper A → Proper B → Apart Gs
apart A [] (K ∷ Gs) t r s = elim t [ ]
apart A [] [] none_left r s = no_solids
apart A (b ∷ B) (K ∷ Gs) (piece q k t u) r s = one_more_solid
    (λ H m p i j.
    let f = trim_inside (front A b) K q p (back_proper A (reverse b) r (reverse_proper b (s b here))) k t i in
    let g = (within (back A b) B Gs u (back_proper A b r (s b here)) (λ g l. s g (there l)) p H m (in_of_inside j)).0 in
    clash_strict (unreverse_lt (rw side-reverse at (f.all (reverse b) (in_last A (reverse b))))) (behind_of_back A b p g))
    (apart (back A b) B Gs u (back_proper A b r (s b here)) (λ g l. s g (there l)))
apart A (b ∷ B) Gs (empty e u) r s = apart (back A b) B Gs u (back_proper A b r (s b here)) (λ g l. s g (there l))

pub remainder : (A B : List HalfSpace) (Gs : List (List HalfSpace)) (o : Homogeneous) → Proper A → Proper B → IsInside A o → IsInside B o → Pieces A B Gs → Remainder A B Gs
remainder A B Gs o r s i j t = record {
  covers = covers A B Gs o t i j;
  within = λ p h. within A B Gs t r s p h.solid h.among h.is_in;
  apart = apart A B Gs t r s;
}
