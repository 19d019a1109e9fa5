-- What is there while the entries of a change are exchanged, one after another.
use Rattle.std.proofs.Common.{◌≡◌, ◌≢◌, ℕ, zero, suc, ◌+◌, ◌<◌, List, [], ◌∷◌, ◌++◌, length, take, drop, get_or, set as list_set, Option, Bool, true, false, cond, ◌==◌, refl, ap, ap₂, sym, subst, ◌∙◌, arith, eqb-true, ne_eqb, append_assoc, add-one, drop-cons, length-take-le}
use Rattle.std.proofs.lemmas.List.{take_more}
use Rattle.std.proofs.lemmas.Grind.{common_steps}
use Rattle.std.proofs.Math.Seq.{take-append_seam}
use Rattle.map_nodes.specs.declared.node.Node.{Node}
use Rattle.map_nodes.specs.declared.entry.Entry.{Entry}
use Rattle.map_model.specs.Tree.{slot_at, whole}
use Rattle.map_model.specs.Edits.{Apart, swap}
use Rattle.tree_node.specs.Held.{by_entries, taken_from, numbers_of, Above, Rising}
use Rattle.tree_node.proofs.Changes.{same_whole, at-with_entries}

pub slot_at-written : (ss : List (Option Node)) (n q : ℕ) (o : Option Node) → n < length ss → slot_at (list_set ss n o) q ≡ cond (n == q) o (slot_at ss q)
slot_at-written [] n q o h = absurd (omega arith)
slot_at-written (s ∷ ss) zero zero o h = refl
slot_at-written (s ∷ ss) zero (suc q) o h = ap (λ b. cond b o (slot_at ss q)) (sym (ne_eqb 0 (suc q) (λ e. absurd (omega arith))))
slot_at-written (s ∷ ss) (suc n) zero o h = ap (λ b. cond b o s) (sym (ne_eqb (suc n) 0 (λ e. absurd (omega arith))))
slot_at-written (s ∷ ss) (suc n) (suc q) o h = slot_at-written ss n q o (omega arith) ∙ ap (λ b. cond b o (slot_at ss q)) (grind arith)

pub apart_tests : (a b q : ℕ) (x y z : Option Node) → a ≢ b → cond (a == q) x (cond (b == q) y z) ≡ cond (b == q) y (cond (a == q) x z)
apart_tests a b q x y z ne =
    let cases : (s t : Bool) → (a == q) ≡ s → (b == q) ≡ t → cond s x (cond t y z) ≡ cond t y (cond s x z) = λ s t. elim s as (λ s. (a == q) ≡ s → (b == q) ≡ t → cond s x (cond t y z) ≡ cond t y (cond s x z)) [
      | true ↦ elim t as (λ t. (a == q) ≡ true → (b == q) ≡ t → cond true x (cond t y z) ≡ cond t y (cond true x z)) [
        | true ↦ λ e f. absurd (ne (eqb-true a q e ∙ sym (eqb-true b q f)))
        | false ↦ λ e f. refl
      ]
      | false ↦ λ e f. refl
    ] in
    cases (a == q) (b == q) refl refl

-- one more entry, whose number none of those before has
by_more : (es : List Entry) (e : Entry) (q : ℕ) (d : Option Node) → ((k : ℕ) (f : Entry) → k < length es → (get_or es k f).id ≢ e.id) → by_entries (es ++ e ∷ []) q d ≡ cond (e.id == q) e.node (by_entries es q d)
by_more [] e q d h = refl
by_more (x ∷ es) e q d h = ap (cond (x.id == q) x.node) (by_more es e q d (λ k f lt. h (suc k) f (omega arith))) ∙ apart_tests x.id e.id q x.node e.node (by_entries es q d) (h 0 x (omega arith))

-- an item in the middle
written_at : (xs : List Entry) (x y : Entry) (ys : List Entry) (k : ℕ) → length xs ≡ k → list_set (xs ++ x ∷ ys) k y ≡ xs ++ y ∷ ys
written_at [] x y ys zero e = refl
written_at [] x y ys (suc k) e = absurd (omega arith)
written_at (z ∷ xs) x y ys zero e = absurd (omega arith)
written_at (z ∷ xs) x y ys (suc k) e = ap (λ l. z ∷ l) (written_at xs x y ys k (omega arith))

read_at : (xs : List Entry) (x : Entry) (ys : List Entry) (k : ℕ) (d : Entry) → length xs ≡ k → get_or (xs ++ x ∷ ys) k d ≡ x
read_at [] x ys zero d e = refl
read_at [] x ys (suc k) d e = absurd (omega arith)
read_at (z ∷ xs) x ys zero d e = absurd (omega arith)
read_at (z ∷ xs) x ys (suc k) d e = read_at xs x ys k d (omega arith)

length-taken : (ss : List (Option Node)) (es : List Entry) → length (taken_from ss es) ≡ length es
length-taken ss [] = refl
length-taken ss (e ∷ es) = ap suc (length-taken ss es)

taken-append : (ss : List (Option Node)) (es fs : List Entry) → taken_from ss (es ++ fs) ≡ taken_from ss es ++ taken_from ss fs
taken-append ss [] fs = refl
taken-append ss (e ∷ es) fs = ap (λ l. record e { node = slot_at ss e.id } ∷ l) (taken-append ss es fs)

pub by_none : (es : List Entry) (q : ℕ) (d : Option Node) → ((k : ℕ) (f : Entry) → k < length es → (get_or es k f).id ≢ q) → by_entries es q d ≡ d
by_none [] q d h = refl
by_none (x ∷ es) q d h = ap (λ b. cond b x.node (by_entries es q d)) (ne_eqb x.id q (h 0 x (omega arith))) ∙ by_none es q d (λ k f lt. h (suc k) f (omega arith))

taken_item : (es : List Entry) (j k : ℕ) (f : Entry) → j < k → get_or (take k es) j f ≡ get_or es j f
taken_item es j k f lt = grind (arith, common_steps)

module _ (slots ss : List (Option Node)) (es now : List Entry) (k : ℕ) (d : Entry) (lt : k < length es) (apart : Apart es)
    (there : (q : ℕ) → slot_at ss q ≡ by_entries (take k es) q (slot_at slots q)) (here : now ≡ taken_from slots (take k es) ++ drop k es) where
  taken_length : length (taken_from slots (take k es)) ≡ k
  taken_length = length-taken slots (take k es) ∙ length-take-le k es (omega arith)

  -- the entry at k is still that of before
  pub entry_is : get_or now k d ≡ get_or es k d
  entry_is = ap (λ l. get_or l k d) (here ∙ ap (λ l. taken_from slots (take k es) ++ l) (drop-cons es k d lt)) ∙ read_at (taken_from slots (take k es)) (get_or es k d) (drop (suc k) es) k d taken_length

  earlier : (j : ℕ) (f : Entry) → j < length (take k es) → (get_or (take k es) j f).id ≢ (get_or es k d).id
  earlier j f l = let below : j < k = omega (arith, length-take-le k es (omega arith)) in
      subst (λ e. e.id ≢ (get_or es k d).id) (sym (taken_item es j k f below)) (apart j k f d below lt)

  -- the slot of the entry is still that of before
  pub slot_is : slot_at ss (get_or es k d).id ≡ slot_at slots (get_or es k d).id
  slot_is = there (get_or es k d).id ∙ by_none (take k es) (get_or es k d).id (slot_at slots (get_or es k d).id) earlier

  pub there_more : (get_or es k d).id < length ss → (q : ℕ) → slot_at (list_set ss (get_or es k d).id (get_or es k d).node) q ≡ by_entries (take (k + 1) es) q (slot_at slots q)
  there_more room q = slot_at-written ss (get_or es k d).id q (get_or es k d).node room ∙ ap (cond ((get_or es k d).id == q) (get_or es k d).node) (there q)
      ∙ sym (by_more (take k es) (get_or es k d) q (slot_at slots q) earlier) ∙ ap (λ l. by_entries l q (slot_at slots q)) (sym (take_more es k d lt))

  pub here_more : list_set now k (record { id = (get_or es k d).id; node = slot_at slots (get_or es k d).id }) ≡ taken_from slots (take (k + 1) es) ++ drop (k + 1) es
  here_more = ap (λ l. list_set l k (record { id = (get_or es k d).id; node = slot_at slots (get_or es k d).id })) (here ∙ ap (λ l. taken_from slots (take k es) ++ l) (drop-cons es k d lt))
      ∙ written_at (taken_from slots (take k es)) (get_or es k d) (record { id = (get_or es k d).id; node = slot_at slots (get_or es k d).id }) (drop (suc k) es) k taken_length
      ∙ sym (ap₂ (λ l n. taken_from slots l ++ drop n es) (take_more es k d lt) (add-one k)
      ∙ ap (λ l. l ++ drop (suc k) es) (taken-append slots (take k es) (get_or es k d ∷ [])) ∙ append_assoc (taken_from slots (take k es)) (record { id = (get_or es k d).id; node = slot_at slots (get_or es k d).id } ∷ []) (drop (suc k) es))

above_taken : (n : ℕ) (slots : List (Option Node)) (es : List Entry) → Above n es → Above n (taken_from slots es)
above_taken n slots [] a = tt
above_taken n slots (e ∷ es) a = (a.0, above_taken e.id slots es a.1)

pub rising_taken : (slots : List (Option Node)) (es : List Entry) → Rising es → Rising (taken_from slots es)
rising_taken slots [] r = tt
rising_taken slots (e ∷ es) r = above_taken e.id slots es r

-- Exchanged twice, each number has what it had.
exchanged_back : (slots : List (Option Node)) (es : List Entry) (q : ℕ) → by_entries (taken_from slots es) q (by_entries es q (slot_at slots q)) ≡ slot_at slots q
exchanged_back slots [] q = refl
exchanged_back slots (e ∷ es) q =
    let cases : (t : Bool) → (e.id == q) ≡ t → cond t (slot_at slots e.id) (by_entries (taken_from slots es) q (cond t e.node (by_entries es q (slot_at slots q)))) ≡ slot_at slots q =
    λ t. elim t as (λ t. (e.id == q) ≡ t → cond t (slot_at slots e.id) (by_entries (taken_from slots es) q (cond t e.node (by_entries es q (slot_at slots q)))) ≡ slot_at slots q) [
      | true ↦ λ is. ap (slot_at slots) (eqb-true e.id q is)
      | false ↦ λ is. exchanged_back slots es q
    ] in
    cases (e.id == q) refl

-- The two whole maps of an exchange.
pub now_swapped : (slots ss : List (Option Node)) (es : List Entry) (next k : ℕ) → ((q : ℕ) → slot_at ss q ≡ by_entries es q (slot_at slots q)) →
    whole (record { slots = ss; next = k }) ≡ swap (whole (record { slots = slots; next = next })) (record { entries = es; next = k })
now_swapped slots ss es next k there = same_whole _ _ refl (λ q. there q ∙ sym (at-with_entries es (whole (record { slots = slots; next = next })) q))

pub swapped_back : (slots ss : List (Option Node)) (es fs : List Entry) (next k : ℕ) → ((q : ℕ) → slot_at ss q ≡ by_entries es q (slot_at slots q)) → fs ≡ taken_from slots es →
    swap (whole (record { slots = ss; next = k })) (record { entries = fs; next = next }) ≡ whole (record { slots = slots; next = next })
swapped_back slots ss es fs next k there here = same_whole _ _ refl (λ q.
    at-with_entries fs (whole (record { slots = ss; next = k })) q ∙ ap₂ (λ l o. by_entries l q o) here (there q) ∙ exchanged_back slots es q)

-- A map's slots and a change's entries after an exchange, as the fields have them.
pub refilled : {X : Type 0} (n : ℕ) (new old : List X) → length new ≡ n → take n (new ++ drop (length new) old) ≡ new
refilled n new old e = ap (λ k. take k (new ++ drop (length new) old)) (sym e) ∙ take-append_seam new (drop (length new) old)

pub numbers_taken : (slots : List (Option Node)) (es : List Entry) → numbers_of (taken_from slots es) ≡ numbers_of es
numbers_taken slots [] = refl
numbers_taken slots (e ∷ es) = ap (λ ids. e.id ∷ ids) (numbers_taken slots es)
