-- Entries whose numbers rise: where a number stands, and what is put there.
use Rattle.std.proofs.Common.{◌≡◌, ◌≢◌, ◌⊎◌, inl, inr, ℕ, zero, suc, ◌+◌, ◌-◌, ◌<◌, ◌≤◌, List, [], ◌∷◌, length, get_or, set as list_set, Option, Some, Bool, true, false, cond, ◌==◌, refl, ap, sym, subst, ◌∙◌, arith, eqb-true, ne_eqb, eq-eqb}
use Rattle.std.specs.List.{insert, slice_get}
use Rattle.map_nodes.specs.declared.node.Node.{Node}
use Rattle.map_nodes.specs.declared.entry.Entry.{Entry}
use Rattle.map_model.specs.Edits.{Apart}
use Rattle.tree_node.specs.Held.{by_entries, numbers_of, AllBelow, Above, Rising, IsFrom, IsGap, IsAt}
use Rattle.tree_node.proofs.Changes.{First, by_entries-written}
use Rattle.tree_node.proofs.Exchanges.{apart_tests}

-- an item within a list doesn't depend on what stands for one beyond it
pub get_or-any : (es : List Entry) (i : ℕ) (d e : Entry) → i < length es → get_or es i d ≡ get_or es i e
get_or-any [] i d e lt = absurd (omega arith)
get_or-any (x ∷ es) zero d e lt = refl
get_or-any (x ∷ es) (suc i) d e lt = get_or-any es i d e (omega arith)

pub rising_tail : (n : ℕ) (es : List Entry) → Above n es → Rising es
rising_tail n [] a = tt
rising_tail n (x ∷ es) a = a.1

pub above_at : (n : ℕ) (es : List Entry) → Above n es → (j : ℕ) (e : Entry) → j < length es → n < (get_or es j e).id
above_at n [] a j e lt = absurd (omega arith)
above_at n (x ∷ es) a zero e lt = a.0
above_at n (x ∷ es) a (suc j) e lt = omega (arith, a.0, above_at x.id es a.1 j e (omega arith))

pub rising_at : (es : List Entry) → Rising es → (i j : ℕ) (e : Entry) → i < j → j < length es → (get_or es i e).id < (get_or es j e).id
rising_at [] r i j e lt l = absurd (omega arith)
rising_at (x ∷ es) r i zero e lt l = absurd (omega arith)
rising_at (x ∷ es) r zero (suc j) e lt l = above_at x.id es r j e (omega arith)
rising_at (x ∷ es) r (suc i) (suc j) e lt l = rising_at es (rising_tail x.id es r) i j e (omega arith) (omega arith)

pub apart_of : (es : List Entry) → Rising es → Apart es
apart_of es r i j e f lt l same =
    let here : (get_or es i e).id < (get_or es j e).id = rising_at es r i j e lt l in
    let other : (get_or es j e).id ≡ (get_or es j f).id = ap (λ x. x.id) (get_or-any es j e f l) in
    absurd (omega (arith, here, other, same))

-- ---- the search

-- the numbers before low are lower, and those from high on are not
pub record Between (es : List Entry) (id low high : ℕ) : Type 0 where
  pub order : low ≤ high
  pub within : high ≤ length es
  pub before : (j : ℕ) (e : Entry) → j < low → (get_or es j e).id < id
  pub from : (j : ℕ) (e : Entry) → high ≤ j → j < length es → id ≤ (get_or es j e).id

pub between_all : (es : List Entry) (id : ℕ) → Between es id 0 (length es)
between_all es id = record { order = omega arith; within = omega arith; before = λ j e lt. absurd (omega arith); from = λ j e ge lt. absurd (omega arith) }

module _ (es : List Entry) (rising : Rising es) (id low high m : ℕ) (d : Entry) (b : Between es id low high) (in_low : low ≤ m) (in_high : m < high) where
  inside : m < length es
  inside = omega (arith, b.within)

  lower : (get_or es m d).id < id → (j : ℕ) (e : Entry) → j < m + 1 → (t : Bool) → (j == m) ≡ t → (get_or es j e).id < id
  lower lt j e l true is = subst (λ k. (get_or es k e).id < id) (sym (eqb-true j m is)) (subst (λ x. x.id < id) (get_or-any es m d e inside) lt)
  lower lt j e l false is = omega (arith, rising_at es rising j m e (grind arith) inside, subst (λ x. x.id < id) (get_or-any es m d e inside) lt)

  pub between_up : (get_or es m d).id < id → Between es id (m + 1) high
  between_up lt = record {
    order = omega arith;
    within = b.within;
    before = λ j e l. lower lt j e l (j == m) refl;
    from = b.from;
  }

  upper : id ≤ (get_or es m d).id → (j : ℕ) (e : Entry) → m ≤ j → j < length es → (t : Bool) → (j == m) ≡ t → id ≤ (get_or es j e).id
  upper le j e ge l true is = subst (λ k. id ≤ (get_or es k e).id) (sym (eqb-true j m is)) (subst (λ x. id ≤ x.id) (get_or-any es m d e inside) le)
  upper le j e ge l false is = omega (arith, rising_at es rising m j e (grind arith) l, subst (λ x. id ≤ x.id) (get_or-any es m d e inside) le)

  pub between_down : id ≤ (get_or es m d).id → Between es id low m
  between_down le = record {
    order = in_low;
    within = omega (arith, b.within);
    before = b.before;
    from = λ j e ge l. upper le j e ge l (j == m) refl;
  }

pub between_done : (es : List Entry) (id low high : ℕ) → Between es id low high → high ≤ low → IsFrom es id low
between_done es id low high b le = record {
  within = omega (arith, b.order, b.within);
  before = b.before;
  from = λ j e ge l. b.from j e (omega arith) l;
}

-- ---- what is found

nat_cases : (j k : ℕ) → (j < k) ⊎ (k ≤ j)
nat_cases j zero = inr (omega arith)
nat_cases zero (suc k) = inl (omega arith)
nat_cases (suc j) (suc k) = elim (nat_cases j k) [ inl l ↦ inl (omega arith) | inr g ↦ inr (omega arith) ]

pub gap_past : (es : List Entry) (id k : ℕ) → IsFrom es id k → length es ≤ k → IsGap es id k
gap_past es id k f le = record { within = f.within; before = f.before; after = λ j e ge l. absurd (omega arith) }

less : (id n : ℕ) → id ≤ n → n ≢ id → id < n
less id n le ne = grind arith

module _ (es : List Entry) (id k : ℕ) (d : Entry) (rising : Rising es) (f : IsFrom es id k) (lt : k < length es) (ne : (get_or es k d).id ≢ id) where
  first : (e : Entry) → id < (get_or es k e).id
  first e = subst (λ x. id < x.id) (get_or-any es k d e lt) (less id (get_or es k d).id (f.from k d (omega arith) lt) ne)

  later : (j : ℕ) (e : Entry) → k ≤ j → j < length es → (t : Bool) → (j == k) ≡ t → id < (get_or es j e).id
  later j e ge l true is = subst (λ i. id < (get_or es i e).id) (sym (eqb-true j k is)) (first e)
  later j e ge l false is = omega (arith, rising_at es rising k j e (grind arith) l, first e)

  pub gap_here : IsGap es id k
  gap_here = record { within = f.within; before = f.before; after = λ j e ge l. later j e ge l (j == k) refl }

pub at_here : (es : List Entry) (id k : ℕ) (d : Entry) → k < length es → (get_or es k d).id ≡ id → IsAt es id k
at_here es id k d lt same = record { here = lt; is = λ e. ap (λ x. x.id) (get_or-any es k e d lt) ∙ same }

pub first_of : (es : List Entry) (id k : ℕ) → Rising es → IsAt es id k → First es id k
first_of es id k rising at = record {
  here = at.here;
  is = λ e. eq-eqb (get_or es k e).id id (at.is e);
  before = λ j e lt. ne_eqb (get_or es j e).id id (λ same. absurd (omega (arith, rising_at es rising j k e lt at.here, at.is e, same)));
}

pub absent_of : (es : List Entry) (id k : ℕ) → IsGap es id k → (j : ℕ) (e : Entry) → j < length es → (get_or es j e).id ≢ id
absent_of es id k gap j e lt same = elim (nat_cases j k) [
  | inl l ↦ absurd (omega (arith, gap.before j e l, same))
  | inr g ↦ absurd (omega (arith, gap.after j e g lt, same))
]

-- ---- what is put

above_set : (n : ℕ) (es : List Entry) (id k : ℕ) (o : Option Node) → Above n es → k < length es → ((e : Entry) → (get_or es k e).id ≡ id) → Above n (list_set es k (record { id = id; node = o }))
above_set n [] id k o a lt same = absurd (omega arith)
above_set n (x ∷ es) id zero o a lt same = (subst (λ i. n < i) (same x) a.0, subst (λ i. Above i es) (same x) a.1)
above_set n (x ∷ es) id (suc k) o a lt same = (a.0, above_set x.id es id k o a.1 (omega arith) same)

pub rising_set : (es : List Entry) (id k : ℕ) (o : Option Node) → Rising es → IsAt es id k → Rising (list_set es k (record { id = id; node = o }))
rising_set [] id k o r at = absurd (omega (arith, at.here))
rising_set (x ∷ es) id zero o r at = subst (λ i. Above i es) (at.is x) r
rising_set (x ∷ es) id (suc k) o r at = above_set x.id es id k o r (omega (arith, at.here)) at.is

above_insert : (n : ℕ) (es : List Entry) (x : Entry) (k : ℕ) → n < x.id → Above n es → ((j : ℕ) (e : Entry) → j < k → (get_or es j e).id < x.id) → ((j : ℕ) (e : Entry) → k ≤ j → j < length es → x.id < (get_or es j e).id) → k ≤ length es → Above n (insert es k x)
above_insert n [] x zero lt a before after w = (lt, tt)
above_insert n [] x (suc k) lt a before after w = absurd (omega arith)
above_insert n (y ∷ es) x zero lt a before after w = (lt, (after 0 y (omega arith) (omega arith), a.1))
above_insert n (y ∷ es) x (suc k) lt a before after w =
    (a.0, above_insert y.id es x k (before 0 y (omega arith)) a.1 (λ j e l. before (suc j) e (omega arith)) (λ j e g l. after (suc j) e (omega arith) (omega arith)) (omega arith))

pub rising_insert : (es : List Entry) (x : Entry) (k : ℕ) → Rising es → IsGap es x.id k → Rising (insert es k x)
rising_insert [] x zero r g = tt
rising_insert [] x (suc k) r g = absurd (omega (arith, g.within))
rising_insert (y ∷ es) x zero r g = (g.after 0 y (omega arith) (omega arith), r)
rising_insert (y ∷ es) x (suc k) r g =
    above_insert y.id es x k (g.before 0 y (omega arith)) r (λ j e l. g.before (suc j) e (omega arith)) (λ j e h l. g.after (suc j) e (omega arith) (omega arith)) (omega (arith, g.within))

put_in_gap : (es : List Entry) (x : Entry) (k q : ℕ) (d : Option Node) → k ≤ length es → ((j : ℕ) (e : Entry) → j < length es → (get_or es j e).id ≢ x.id) → by_entries (insert es k x) q d ≡ by_entries (x ∷ es) q d
put_in_gap [] x zero q d w absent = refl
put_in_gap [] x (suc k) q d w absent = absurd (omega arith)
put_in_gap (y ∷ es) x zero q d w absent = refl
put_in_gap (y ∷ es) x (suc k) q d w absent =
    ap (cond (y.id == q) y.node) (put_in_gap es x k q d (omega arith) (λ j e l. absent (suc j) e (omega arith))) ∙ apart_tests y.id x.id q y.node x.node (by_entries es q d) (absent 0 y (omega arith))

pub by_insert : (es : List Entry) (x : Entry) (k q : ℕ) (d : Option Node) → IsGap es x.id k → by_entries (insert es k x) q d ≡ by_entries (x ∷ es) q d
by_insert es x k q d gap = put_in_gap es x k q d gap.within (absent_of es x.id k gap)

pub by_set : (es : List Entry) (id k q : ℕ) (d o : Option Node) → Rising es → IsAt es id k → by_entries (list_set es k (record { id = id; node = o })) q d ≡ by_entries (record { id = id; node = o } ∷ es) q d
by_set es id k q d o rising at = by_entries-written es id k q d o (first_of es id k rising at)

-- ---- the last number is the greatest

item_at : (es : List Entry) (n : ℕ) (x e : Entry) → Some x ≡ slice_get es n → get_or es n e ≡ x
item_at [] n x e h = absurd (cc)
item_at (y ∷ es) zero x e h = cc
item_at (y ∷ es) (suc n) x e h = item_at es n x e h

pub below_last : (es : List Entry) (x : Entry) → Rising es → Some x ≡ slice_get es (length es - 1) → (k : ℕ) (e : Entry) → k < length es → (get_or es k e).id < x.id + 1
below_last es x rising h k e lt = by (k == length es - 1) refl
  where
    by : (t : Bool) → (k == length es - 1) ≡ t → (get_or es k e).id < x.id + 1
    by true is = omega (arith, ap (λ i. (get_or es i e).id) (eqb-true k (length es - 1) is), ap (λ y. y.id) (item_at es (length es - 1) x e h))
    by false is = omega (arith, rising_at es rising k (length es - 1) e (grind arith) (omega arith), ap (λ y. y.id) (item_at es (length es - 1) x e h))

-- ---- numbers

pub number_at : (es : List Entry) (k : ℕ) (d : Entry) → get_or (numbers_of es) k d.id ≡ (get_or es k d).id
number_at [] k d = refl
number_at (e ∷ es) zero d = refl
number_at (e ∷ es) (suc k) d = number_at es k d

pub number_count : (es : List Entry) → length (numbers_of es) ≡ length es
number_count [] = refl
number_count (e ∷ es) = ap suc (number_count es)

-- entries with the same numbers are below the same number
pub below_kept : (n : ℕ) (es fs : List Entry) → numbers_of fs ≡ numbers_of es → AllBelow n es → AllBelow n fs
below_kept n es fs same below k e lt =
    let lt2 : k < length es = omega (arith, number_count es, number_count fs, ap length same) in
    subst (λ i. i < n) (sym (number_at es k e) ∙ sym (ap (λ l. get_or l k e.id) same) ∙ number_at fs k e) (below k e lt2)
