-- The three least numbers, with one number more.
use Rattle.std.proofs.Common.{◌≡◌, ℕ, ◌<◌, ◌≤◌, refl, arith, inl, inr, ◌⊎◌, ⊎_elim}
use Rattle.half_poly.specs.declared.names.Name.{Name}
use Rattle.half_poly.specs.Names.{AreLeast}

abbrev pub name : ℕ → ℕ → ℕ → Name
name a b c = record { first = a; second = b; third = c }

-- S, or this number.
abbrev pub OneMore : (ℕ → Type 0) → ℕ → ℕ → Type 0
OneMore S n j = S j ⊎ (j ≡ n)

module _ (S : ℕ → Type 0) (limit a b c n : ℕ) where
  kept : (x : ℕ) → S x ⊎ (x ≡ limit) → OneMore S n x ⊎ (x ≡ limit)
  kept x (inl s) = inl (inl s)
  kept x (inr e) = inr e

  pub least_first : n < limit → AreLeast S limit (name a b c) → n < a → AreLeast (OneMore S n) limit (name n a b)
  least_first w h l = record {
    first_in = inl (inr refl);
    second_in = kept a h.first_in;
    third_in = kept b h.second_in;
    first_within = omega arith;
    second_within = h.first_within;
    third_within = h.second_within;
    second_after = inl l;
    third_after = h.second_after;
    all = all;
  }
    where
      past : (j : ℕ) → c ≤ j → b < c ⊎ (c ≡ limit) → b ≤ j
      past j k (inl d) = omega arith
      past j k (inr e) = let i = h.second_within in omega arith

      old : (j : ℕ) → (j ≡ a) ⊎ (j ≡ b) ⊎ (c ≤ j) → (j ≡ n) ⊎ (j ≡ a) ⊎ (b ≤ j)
      old j (inl e) = inr (inl e)
      old j (inr (inl e)) = inr (inr (omega arith))
      old j (inr (inr k)) = inr (inr (past j k h.third_after))

      all : (j : ℕ) → OneMore S n j → (j ≡ n) ⊎ (j ≡ a) ⊎ (b ≤ j)
      all j (inl s) = old j (h.all j s)
      all j (inr e) = inl e

  pub least_second : n < limit → AreLeast S limit (name a b c) → a < n → n < b → AreLeast (OneMore S n) limit (name a n b)
  least_second w h l m = record {
    first_in = kept a h.first_in;
    second_in = inl (inr refl);
    third_in = kept b h.second_in;
    first_within = h.first_within;
    second_within = omega arith;
    third_within = h.second_within;
    second_after = inl l;
    third_after = inl m;
    all = all;
  }
    where
      past : (j : ℕ) → c ≤ j → b < c ⊎ (c ≡ limit) → b ≤ j
      past j k (inl d) = omega arith
      past j k (inr e) = let i = h.second_within in omega arith

      old : (j : ℕ) → (j ≡ a) ⊎ (j ≡ b) ⊎ (c ≤ j) → (j ≡ a) ⊎ (j ≡ n) ⊎ (b ≤ j)
      old j (inl e) = inl e
      old j (inr (inl e)) = inr (inr (omega arith))
      old j (inr (inr k)) = inr (inr (past j k h.third_after))

      all : (j : ℕ) → OneMore S n j → (j ≡ a) ⊎ (j ≡ n) ⊎ (b ≤ j)
      all j (inl s) = old j (h.all j s)
      all j (inr e) = inr (inl e)

  pub least_third : n < limit → AreLeast S limit (name a b c) → b < n → n < c → AreLeast (OneMore S n) limit (name a b n)
  least_third w h l m = record {
    first_in = kept a h.first_in;
    second_in = kept b h.second_in;
    third_in = inl (inr refl);
    first_within = h.first_within;
    second_within = h.second_within;
    third_within = omega arith;
    second_after = h.second_after;
    third_after = inl l;
    all = all;
  }
    where
      old : (j : ℕ) → (j ≡ a) ⊎ (j ≡ b) ⊎ (c ≤ j) → (j ≡ a) ⊎ (j ≡ b) ⊎ (n ≤ j)
      old j (inl e) = inl e
      old j (inr (inl e)) = inr (inl e)
      old j (inr (inr k)) = inr (inr (omega arith))

      all : (j : ℕ) → OneMore S n j → (j ≡ a) ⊎ (j ≡ b) ⊎ (n ≤ j)
      all j (inl s) = old j (h.all j s)
      all j (inr e) = inr (inr (omega arith))

  -- where the number is one of the three, or after them
  pub least_same : AreLeast S limit (name a b c) → (n ≡ a) ⊎ (n ≡ b) ⊎ (c ≤ n) → AreLeast (OneMore S n) limit (name a b c)
  least_same h o = record {
    first_in = kept a h.first_in;
    second_in = kept b h.second_in;
    third_in = kept c h.third_in;
    first_within = h.first_within;
    second_within = h.second_within;
    third_within = h.third_within;
    second_after = h.second_after;
    third_after = h.third_after;
    all = all;
  }
    where
      new : (j : ℕ) → j ≡ n → (n ≡ a) ⊎ (n ≡ b) ⊎ (c ≤ n) → (j ≡ a) ⊎ (j ≡ b) ⊎ (c ≤ j)
      new j e (inl q) = inl (omega arith)
      new j e (inr (inl q)) = inr (inl (omega arith))
      new j e (inr (inr k)) = inr (inr (omega arith))

      all : (j : ℕ) → OneMore S n j → (j ≡ a) ⊎ (j ≡ b) ⊎ (c ≤ j)
      all j (inl s) = h.all j s
      all j (inr e) = new j e o

pub least_none : (S : ℕ → Type 0) (limit : ℕ) → ((j : ℕ) → ¬ (S j)) → AreLeast S limit (name limit limit limit)
least_none S limit none = record {
  first_in = inr refl;
  second_in = inr refl;
  third_in = inr refl;
  first_within = omega arith;
  second_within = omega arith;
  third_within = omega arith;
  second_after = inr refl;
  third_after = inr refl;
  all = λ j s. absurd (none j s);
}

-- The same for a property that holds of the same numbers.
pub least_as : {S T : ℕ → Type 0} {limit : ℕ} {n : Name} → ((j : ℕ) → S j → T j) → ((j : ℕ) → T j → S j) → AreLeast S limit n → AreLeast T limit n
least_as {S} {T} {limit} {n} to from h = record {
  first_in = moved n.first h.first_in;
  second_in = moved n.second h.second_in;
  third_in = moved n.third h.third_in;
  first_within = h.first_within;
  second_within = h.second_within;
  third_within = h.third_within;
  second_after = h.second_after;
  third_after = h.third_after;
  all = λ j t. h.all j (from j t);
}
  where
    moved : (x : ℕ) → S x ⊎ (x ≡ limit) → T x ⊎ (x ≡ limit)
    moved x (inl s) = inl (to x s)
    moved x (inr e) = inr e

three_plain : (a b c limit i j k : ℕ) → (i ≡ a) ⊎ (i ≡ b) ⊎ (c ≤ i) → (j ≡ a) ⊎ (j ≡ b) ⊎ (c ≤ j) → (k ≡ a) ⊎ (k ≡ b) ⊎ (c ≤ k) → i < limit → j < limit → k < limit →
    ¬ (i ≡ j) → ¬ (j ≡ k) → ¬ (k ≡ i) → c < limit
three_plain a b c limit i j k u v w l m n d e f = grind arith

-- With three numbers below the limit, all three are there, and they rise.
pub record AreThree (S : ℕ → Type 0) (n : Name) : Type 0 where
  pub first_in : S n.first
  pub second_in : S n.second
  pub third_in : S n.third
  pub second_after : n.first < n.second
  pub third_after : n.second < n.third
  pub all : (j : ℕ) → S j → (j ≡ n.first) ⊎ (j ≡ n.second) ⊎ (n.third ≤ j)

pub are_three : {S : ℕ → Type 0} {limit : ℕ} {n : Name} → AreLeast S limit n → (i j k : ℕ) → S i → S j → S k → i < limit → j < limit → k < limit → ¬ (i ≡ j) → ¬ (j ≡ k) → ¬ (k ≡ i) → AreThree S n
are_three {S} {limit} {n} h i j k s t u l m o d e f =
    let w : n.third < limit = three_plain n.first n.second n.third limit i j k (h.all i s) (h.all j t) (h.all k u) l m o d e f in
    let y : n.second < n.third = ⊎_elim (λ x. x) (λ x. absurd (omega arith)) h.third_after in
    let z : n.first < n.second = ⊎_elim (λ x. x) (λ x. absurd (omega arith)) h.second_after in record {
      first_in = ⊎_elim (λ x. x) (λ x. absurd (omega arith)) h.first_in;
      second_in = ⊎_elim (λ x. x) (λ x. absurd (omega arith)) h.second_in;
      third_in = ⊎_elim (λ x. x) (λ x. absurd (omega arith)) h.third_in;
      second_after = z;
      third_after = y;
      all = h.all;
    }
