-- Laws of runs of a machine: one after another, in part, and that replies leave no choice.
use Rattle.std.proofs.Common.{◌≡◌, ℕ, List, [], ◌∷◌, ◌++◌, take, drop, Option, refl, ap, sym, subst, ◌∙◌, append_assoc, append-nil, inl, take-append-drop, ⊎_elim}
use Rattle.outside_io.proofs.Grown.{Grew-then, Grew-none}
use Rattle.line_machine.specs.Machine.{Step, Answers, Follows, SoFar, NeverSaysMemory, OneEnd}
use Rattle.line_machine.specs.Served.{Served, ServedSoFar, Answered, AnsweredInPart}

module _ {S : Type 0} (m : Step S) where
  -- One run after another.
  pub Follows-then : (s : S) (ls ks : List (List ℕ)) (r q : List ℕ) (t u : S) → Follows m s ls r t → Follows m t ks q u → Follows m s (ls ++ ks) (r ++ q) u
  Follows-then s [] ks r q t u f g = subst (λ x. Follows m s ks (x ++ q) u) (sym f.0) (subst (λ x. Follows m x ks q u) f.1 g)
  Follows-then s (l ∷ ls) ks r q t u f g =
      (f.0, f.1 ++ q, f.2, f.3, ap (λ x. x ++ q) f.4 ∙ append_assoc f.0 f.1 q, Follows-then f.2 ls ks f.1 q t u f.5 g)

  -- One line as a run.
  pub Follows-line : (s : S) (l r : List ℕ) (t : S) → Answers m s l r t → Follows m s (l ∷ []) r t
  Follows-line s l r t a = (r, [], t, a, sym (append-nil r), (refl, refl))

  -- Every script has a run.
  pub run_on : (s : S) (ls : List (List ℕ)) → (r : List ℕ) × (t : S) × Follows m s ls r t
  run_on s [] = ([], s, (refl, refl))
  run_on s (l ∷ ls) =
      let more = run_on (m.next s l) ls in
      (m.reply s l ++ more.0, more.1, (m.reply s l, more.0, m.next s l, inl (refl, refl), refl, more.2))

  -- A run so far, after whole lines, and then before further lines.
  pub SoFar-after : (s : S) (ls ks : List (List ℕ)) (r q : List ℕ) (t : S) → Follows m s ls r t → SoFar m t ks q → SoFar m s (ls ++ ks) (r ++ q)
  SoFar-after s ls ks r q t f g =
      (g.0, g.1, subst (λ x. Follows m s (ls ++ ks) x g.1) (sym (append_assoc r q g.0)) (Follows-then s ls ks r (q ++ g.0) t g.1 f g.2))

  pub SoFar-before : (s : S) (ls ks : List (List ℕ)) (r : List ℕ) → SoFar m s ls r → SoFar m s (ls ++ ks) r
  SoFar-before s ls ks r g =
      let more = run_on g.1 ks in
      (g.0 ++ more.0, more.1, subst (λ x. Follows m s (ls ++ ks) x more.1) (append_assoc r g.0 more.0) (Follows-then s ls ks (r ++ g.0) more.0 g.1 more.1 g.2 more.2))

  pub SoFar-whole : (s : S) (ls : List (List ℕ)) (r : List ℕ) (t : S) → Follows m s ls r t → SoFar m s ls r
  SoFar-whole s ls r t f = ([], t, subst (λ x. Follows m s ls x t) (sym (append-nil r)) f)

  -- A line in part is a run so far.
  pub SoFar-line : (s : S) (l r : List ℕ) (n : ℕ) (t : S) → Answers m s l r t → SoFar m s (l ∷ []) (take n r)
  SoFar-line s l r n t a = (drop n r, t, subst (λ x. Follows m s (l ∷ []) x t) (sym (take-append-drop n r)) (Follows-line s l r t a))

  -- Where replies go after others.
  pub Served-then : {s t u : S} {ls ks : List (List ℕ)} {a b c : Option (List ℕ)} → Served m s ls t a b → Served m t ks u b c → Served m s (ls ++ ks) u a c
  Served-then {s} {t} {u} {ls} {ks} {a} {b} {c} f g = record {
    bytes = f.bytes ++ g.bytes;
    follows = Follows-then s ls ks f.bytes g.bytes t u f.follows g.follows;
    grew = Grew-then a b c f.bytes g.bytes f.grew g.grew;
  }

  pub Served-so_far : {s t : S} {ls ks : List (List ℕ)} {a b c : Option (List ℕ)} → Served m s ls t a b → ServedSoFar m t ks b c → ServedSoFar m s (ls ++ ks) a c
  Served-so_far {s} {t} {ls} {ks} {a} {b} {c} f g = record {
    bytes = f.bytes ++ g.bytes;
    so_far = SoFar-after s ls ks f.bytes g.bytes t f.follows g.so_far;
    grew = Grew-then a b c f.bytes g.bytes f.grew g.grew;
  }

  pub so_far-before : {s : S} {ls : List (List ℕ)} {a b : Option (List ℕ)} (ks : List (List ℕ)) → ServedSoFar m s ls a b → ServedSoFar m s (ls ++ ks) a b
  so_far-before {s} {ls} {a} {b} ks g = record { bytes = g.bytes; so_far = SoFar-before s ls ks g.bytes g.so_far; grew = g.grew }

  pub so_far-whole : {s t : S} {ls : List (List ℕ)} {a b : Option (List ℕ)} → Served m s ls t a b → ServedSoFar m s ls a b
  so_far-whole {s} {t} {ls} f = record { bytes = f.bytes; so_far = SoFar-whole s ls f.bytes t f.follows; grew = f.grew }

  pub one_line : {s t : S} {l : List ℕ} {a b : Option (List ℕ)} → Answered m s l t a b → Served m s (l ∷ []) t a b
  one_line {s} {t} {l} f = record { bytes = f.bytes; follows = Follows-line s l f.bytes t f.answers; grew = f.grew }

  pub part_of_line : {s : S} {l : List ℕ} {a b : Option (List ℕ)} → AnsweredInPart m s l a b → ServedSoFar m s (l ∷ []) a b
  part_of_line {s} {l} f = record { bytes = take f.sent f.bytes; so_far = SoFar-line s l f.bytes f.sent f.state f.answers; grew = f.grew }

  pub none_served : (s : S) (a : Option (List ℕ)) → Served m s [] s a a
  none_served s a = record { bytes = []; follows = (refl, refl); grew = Grew-none a }

append_cancel : (a x y : List ℕ) → a ++ x ≡ a ++ y → x ≡ y
append_cancel [] x y e = e
append_cancel (b ∷ a) x y e = append_cancel a x y (ap (drop 1) e)

-- Where no reply can be taken for the line memory, the replies leave no choice of states.
pub Follows-one : {S : Type 0} (m : Step S) →
    NeverSaysMemory m →
    (s : S) (ls : List (List ℕ)) (r : List ℕ) (t u : S) → Follows m s ls r t → Follows m s ls r u → t ≡ u
Follows-one m apart s [] r t u f g = f.1 ∙ sym g.1
Follows-one {S} m apart s (l ∷ ls) r t u f g =
    let goes : (a b : List ℕ) (x y : List ℕ) (v w : S) → a ≡ b → v ≡ w → r ≡ a ++ x → r ≡ b ++ y → Follows m v ls x t → Follows m w ls y u → t ≡ u =
    λ a b x y v w e h p q fs gs.
    let rest : x ≡ y = append_cancel b x y (sym (ap (λ z. z ++ x) e) ∙ sym p ∙ q) in
    Follows-one m apart w ls y t u (subst (λ z. Follows m w ls z t) rest (subst (λ z. Follows m z ls x t) h fs)) gs in
    ⊎_elim
    (λ a. ⊎_elim
    (λ b. goes f.0 g.0 f.1 g.1 f.2 g.2 (a.0 ∙ sym b.0) (a.1 ∙ sym b.1) f.4 g.4 f.5 g.5)
    (λ b. absurd (apart s l f.1 g.1 b.0 (sym (ap (λ z. z ++ f.1) a.0) ∙ sym f.4 ∙ g.4 ∙ ap (λ z. z ++ g.1) b.1))) g.3)
    (λ a. ⊎_elim
    (λ b. absurd (apart s l g.1 f.1 a.0 (sym (ap (λ z. z ++ g.1) b.0) ∙ sym g.4 ∙ f.4 ∙ ap (λ z. z ++ f.1) a.1)))
    (λ b. goes f.0 g.0 f.1 g.1 f.2 g.2 (a.1 ∙ sym b.1) (a.2 ∙ sym b.2) f.4 g.4 f.5 g.5) g.3) f.3

pub one_end : {S : Type 0} (m : Step S) → NeverSaysMemory m → OneEnd m
one_end m apart s lines r t u f g = Follows-one m apart s lines r t u f g
