-- The face with the most of some vertices.
use Rattle.std.proofs.Common.{◌≡◌, ℕ, ◌+◌, ◌<◌, ◌≤◌, List, length, get_or, arith, subst, ◌⊎◌, inl, inr, sym}
use Rattle.algebra.specs.Space.{Homogeneous, HalfSpace}
use Rattle.hull_laws.specs.Moved.{Carried, nowhere, OldFace}
use Rattle.vertex_edit.specs.Carrying.{onto, count_on, IsFullest}
use Rattle.vertex_edit.proofs.Carries.{count_is}

below_next : (P : ℕ → Type 0) (n : ℕ) → ((j : ℕ) → j < n → P j) → P n → (j : ℕ) → j < n + 1 → P j
below_next P n h p j l = by_last (last j n l)
  where
    last : (j n : ℕ) → j < n + 1 → (j < n) ⊎ (n ≡ j)
    last j n l = grind arith

    by_last : (j < n) ⊎ (n ≡ j) → P j
    by_last (inl i) = h j i
    by_last (inr e) = subst P e p

pub fullest_first : (F : List HalfSpace) (V : List Homogeneous) → IsFullest F V 1 0
fullest_first F V = record {
  within = omega arith;
  most = λ j l. let e = zero_of j l in rw e (omega arith);
  first = λ j l. absurd (omega arith);
}
  where
    zero_of : (j : ℕ) → j < 1 → j ≡ 0
    zero_of j l = omega arith

pub fullest_stays : (F : List HalfSpace) (V : List Homogeneous) (n i : ℕ) → IsFullest F V n i → count_on V (get_or F n nowhere) ≤ count_on V (get_or F i nowhere) → IsFullest F V (n + 1) i
fullest_stays F V n i f l = record {
  within = let w = f.within in omega arith;
  most = below_next (λ j. count_on V (get_or F j nowhere) ≤ count_on V (get_or F i nowhere)) n f.most l;
  first = f.first;
}

pub fullest_new : (F : List HalfSpace) (V : List Homogeneous) (n i : ℕ) → IsFullest F V n i → count_on V (get_or F i nowhere) < count_on V (get_or F n nowhere) → IsFullest F V (n + 1) n
fullest_new F V n i f l = record {
  within = omega arith;
  most = below_next (λ j. count_on V (get_or F j nowhere) ≤ count_on V (get_or F n nowhere)) n (λ j m. below (f.most j m) l) (omega arith);
  first = λ j m. less (f.most j m) l;
}
  where
    below : {a b c : ℕ} → a ≤ b → b < c → a ≤ c
    below {a} {b} {c} h k = omega arith

    less : {a b c : ℕ} → a ≤ b → b < c → a < c
    less {a} {b} {c} h k = omega arith

-- the fullest face of the vertices that are carried onto g is the old face of g
pub old_of : (F : List HalfSpace) (vs : List Carried) (g : HalfSpace) (n i : ℕ) → IsFullest F (onto g vs) n i → n ≡ length F → OldFace F vs g i
old_of F vs g n i f e = record {
  i_in = let w = f.within in omega arith;
  most = λ j l. rw (sym (count_is vs g (get_or F j nowhere)), sym (count_is vs g (get_or F i nowhere))) (f.most j (subst (λ m. j < m) (sym e) l));
  first = λ j l. rw (sym (count_is vs g (get_or F j nowhere)), sym (count_is vs g (get_or F i nowhere))) (f.first j l);
}
