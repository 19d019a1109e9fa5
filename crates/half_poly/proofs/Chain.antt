-- Lists of numbers that follow one another: none twice, and so no more than there are numbers.
use Rattle.std.proofs.Common.{◌≡◌, ℕ, zero, suc, ◌+◌, ◌<◌, ◌≤◌, ◌⊎◌, inl, inr, ⊎_elim, List, [], ◌∷◌, ◌++◌, length, map, refl, subst, arith}
use Rattle.algebra.specs.Members.{◌∈◌, here, there}
use Rattle.algebra.specs.Space.{Homogeneous}
use Rattle.algebra.proofs.Members.{each_of_more}
use Rattle.vertex_laws.specs.Loop.{IsNext, at_front, later}

-- ---- members
pub at_end : {A : Type 0} (y : A) (xs : List A) → y ∈ (xs ++ (y ∷ []))
at_end y [] = here
at_end y (x ∷ xs) = there (at_end y xs)

pub in_front : {A : Type 0} (x y : A) (xs : List A) → x ∈ xs → x ∈ (xs ++ (y ∷ []))
in_front x y [] m = elim m [ ]
in_front x y (z ∷ xs) here = here
in_front x y (z ∷ xs) (there m) = there (in_front x y xs m)

pub split_end : {A : Type 0} (x y : A) (xs : List A) → x ∈ (xs ++ (y ∷ [])) → (x ∈ xs) ⊎ (x ≡ y)
split_end x y [] here = inr refl
split_end x y [] (there m) = elim m [ ]
split_end x y (z ∷ xs) here = inl here
split_end x y (z ∷ xs) (there m) = ⊎_elim (λ i. inl (there i)) (λ e. inr e) (split_end x y xs m)

-- ---- no element twice
abbrev pub Once : {A : Type 0} → List A → Type 0
Once [] = Unit {0}
Once (x ∷ xs) = (¬ (x ∈ xs)) × Once xs

pub once_more : {A : Type 0} (xs : List A) (y : A) → Once xs → ¬ (y ∈ xs) → Once (xs ++ (y ∷ []))
once_more [] y o n = (λ m. elim m [ ], tt)
once_more (x ∷ xs) y o n =
    (λ m. ⊎_elim o.0 (λ e. n (subst (λ z. z ∈ (x ∷ xs)) e here)) (split_end x y xs m), once_more xs y o.1 (λ m. n (there m)))

pub once_last : {A : Type 0} (xs : List A) (y : A) → Once (xs ++ (y ∷ [])) → ¬ (y ∈ xs)
once_last [] y o m = elim m [ ]
once_last (x ∷ xs) y o here = o.0 (at_end x xs)
once_last (x ∷ xs) y o (there m) = once_last xs y o.1 m

-- ---- each element related to the next
abbrev pub Along : {A : Type 0} → (A → A → Type 0) → List A → Type 0
Along R [] = Unit {0}
Along R (x ∷ []) = Unit {0}
Along R (x ∷ y ∷ xs) = R x y × Along R (y ∷ xs)

pub along_more : {A : Type 0} (R : A → A → Type 0) (xs : List A) (y z : A) → Along R (xs ++ (y ∷ [])) → R y z → Along R ((xs ++ (y ∷ [])) ++ (z ∷ []))
along_more R [] y z a r = (r, tt)
along_more R (x ∷ []) y z a r = (a.0, (r, tt))
along_more R (x ∷ w ∷ xs) y z a r = (a.0, along_more R (w ∷ xs) y z a.1 r)

pub along_map : {A B : Type 0} (f : A → B) (R : B → B → Type 0) (xs : List A) → Along (λ a b. R (f a) (f b)) xs → Along R (map f xs)
along_map f R [] a = tt
along_map f R (x ∷ []) a = tt
along_map f R (x ∷ y ∷ xs) a = (a.0, along_map f R (y ∷ xs) a.1)

pub along_next : (R : Homogeneous → Homogeneous → Type 0) (S : List Homogeneous) → Along R S → (a b : Homogeneous) → IsNext a b S → R a b
along_next R (x ∷ y ∷ S) h a b at_front = h.0
along_next R (x ∷ y ∷ S) h a b (later n) = along_next R (y ∷ S) h.1 a b n
along_next R (x ∷ []) h a b (later n) = elim n [ ]
along_next R [] h a b n = elim n [ ]

-- An element of xs that is related to y.
pub record Before {A : Type 0} (R : A → A → Type 0) (xs : List A) (y : A) : Type 0 where
  pub it : A
  pub among : it ∈ xs
  pub leads : R it y

previous : {A : Type 0} (R : A → A → Type 0) (x : A) (xs : List A) (z y : A) → Along R (x ∷ (xs ++ (z ∷ []))) → y ∈ (xs ++ (z ∷ [])) → Before R (x ∷ xs) y
previous R x [] z y a here = record { it = x; among = here; leads = a.0 }
previous R x [] z y a (there m) = elim m [ ]
previous R x (w ∷ xs) z y a here = record { it = x; among = here; leads = a.0 }
previous R x (w ∷ xs) z y a (there m) = let r = previous R w xs z y a.1 m in record { it = r.it; among = there r.among; leads = r.leads }

abbrev pub Starts : {A : Type 0} → A → List A → Type 0
Starts x [] = ⊥
Starts x (y ∷ ys) = y ≡ x

pub starts_more : {A : Type 0} (x : A) (xs ys : List A) → Starts x xs → Starts x (xs ++ ys)
starts_more x [] ys s = absurd s
starts_more x (y ∷ xs) ys s = s

-- Each element but the first has one before it, and that one isn't the last.
pub first_or_before : {A : Type 0} (R : A → A → Type 0) (x : A) (xs : List A) (z y : A) → Along R (xs ++ (z ∷ [])) → Starts x (xs ++ (z ∷ [])) →
    y ∈ (xs ++ (z ∷ [])) → (y ≡ x) ⊎ Before R xs y
first_or_before R x [] z y a s here = inl s
first_or_before R x [] z y a s (there m) = elim m [ ]
first_or_before R x (w ∷ xs) z y a s here = inl s
first_or_before R x (w ∷ xs) z y a s (there m) = inr (previous R w xs z y a m)

-- ---- how many numbers below n there are
pub le_or_less : (a b : ℕ) → (b ≤ a) ⊎ (a < b)
le_or_less a b = grind arith

-- The list without n.
record Without (n : ℕ) (xs : List ℕ) : Type 0 where
  rest : List ℕ
  once : Once rest
  below : (x : ℕ) → x ∈ rest → x < n
  kept : (x : ℕ) → x ∈ rest → x ∈ xs
  count : length xs ≤ length rest + 1

without : (n : ℕ) (xs : List ℕ) → Once xs → ((x : ℕ) → x ∈ xs → x < suc n) → Without n xs
without n [] o h = record { rest = []; once = tt; below = λ x m. elim m [ ]; kept = λ x m. m; count = omega arith }
without n (x ∷ xs) o h = ⊎_elim
    (λ (l : n ≤ x). let k = h x here in let e : x ≡ n = omega arith in record {
      rest = xs;
      once = o.1;
      below = λ y m. ⊎_elim (λ (g : n ≤ y). let i = h y (there m) in let d : y ≡ x = omega arith in absurd (o.0 (subst (λ z. z ∈ xs) d m))) (λ g. g) (le_or_less y n);
      kept = λ y m. there m;
      count = omega arith;
    })
    (λ l. let r = without n xs o.1 (λ y m. h y (there m)) in let c = r.count in record {
      rest = x ∷ r.rest;
      once = (λ m. o.0 (r.kept x m), r.once);
      below = each_of_more (λ y. y < n) x r.rest l r.below;
      kept = each_of_more (λ y. y ∈ (x ∷ xs)) x r.rest here (λ y m. there (r.kept y m));
      count = omega arith;
    })
    (le_or_less x n)

pub few : (n : ℕ) (xs : List ℕ) → Once xs → ((x : ℕ) → x ∈ xs → x < n) → length xs ≤ n
few zero [] o h = omega arith
few zero (x ∷ xs) o h = let k = h x here in absurd (omega arith)
few (suc n) xs o h = let r = without n xs o h in let k = few n r.rest r.once r.below in let c = r.count in omega arith
