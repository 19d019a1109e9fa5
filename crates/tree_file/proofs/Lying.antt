-- The children of places, one item after another.
use Rattle.std.proofs.Common.{◌≡◌, inl, inr, ℕ, zero, suc, ◌+◌, ◌<◌, ◌≤◌, Bool, true, false, cond, ◌&&◌, ◌==◌, nat_lt, List, [], ◌∷◌, ◌++◌, length, get_or, set, take, drop, map, filter, replicate, refl, ap, ap₂, sym, ◌∙◌, subst, arith, add-one, append-nil}
use Rattle.std.proofs.lemmas.Bool.{cases_eq, eq-eqb, ne_eqb, lt-ltb, le-ltb, and_from}
use Rattle.std.proofs.lemmas.List.{take_more, drop_more, length-set, length-replicate, get_or-set_same, get_or-set_other, get_or-replicate, map-append}
use Rattle.std.proofs.lemmas.List.Elements.{filter-append}
use Rattle.algebra.specs.Members.{◌∈◌, here, there}
use Rattle.file_laws.specs.Build.{Item, place_of, number_of, lies_in}
use Rattle.tree_file.specs.Passes.{Children, PlacesRise}

abbrev pub listed : List Item → List Item → ℕ → List ℕ
listed kept part p = map (λ j. number_of kept (place_of j)) (filter (lies_in p) part)

listed_push : (kept part : List Item) (i : Item) (p : ℕ) (b : Bool) → lies_in p i ≡ b → listed kept (part ++ i ∷ []) p ≡ listed kept part p ++ cond b (number_of kept (place_of i) ∷ []) []
listed_push kept part i p b e =
    ap (map (λ j. number_of kept (place_of j))) (filter-append (lies_in p) part (i ∷ []))
    ∙ map-append (λ j. number_of kept (place_of j)) (filter (lies_in p) part) (filter (lies_in p) (i ∷ []))
    ∙ ap (λ t. listed kept part p ++ map (λ j. number_of kept (place_of j)) (cond t (i ∷ []) [])) e
    ∙ ap (λ l. listed kept part p ++ l) (one b)
  where
    one : (b : Bool) → map (λ j. number_of kept (place_of j)) (cond b (i ∷ []) []) ≡ cond b (number_of kept (place_of i) ∷ []) []
    one true = refl
    one false = refl

-- an item that lies at a place
child_pushed : (n : ℕ) (kept part : List Item) (lists : List (List ℕ)) (i : Item) (parent child : ℕ) → Children n kept part lists → 0 < place_of i → parent ≡ i.parent → parent < n →
    child ≡ number_of kept (place_of i) → Children n kept (part ++ i ∷ []) (set lists parent (get_or lists parent [] ++ child ∷ []))
child_pushed n kept part lists i parent child h some is lt num = record {
  count = length-set lists parent (get_or lists parent [] ++ child ∷ []) ∙ h.count;
  list = λ p w. elim (cases_eq p parent) [
    | inl e ↦
        ap (λ q. get_or (set lists parent (get_or lists parent [] ++ child ∷ [])) q []) e
        ∙ get_or-set_same lists parent (get_or lists parent [] ++ child ∷ []) [] (subst (λ m. parent < m) (sym h.count) lt)
        ∙ (λ j. (h.list parent lt ∙ ap (listed kept part) (sym e)) j ++ num j ∷ [])
        ∙ sym (listed_push kept part i p true (and_from (nat_lt 0 (place_of i)) (i.parent == p) (lt-ltb 0 (place_of i) some) (eq-eqb i.parent p (sym (e ∙ is)))))
    | inr d ↦
        get_or-set_other lists parent p (get_or lists parent [] ++ child ∷ []) [] d ∙ h.list p w ∙ sym (append-nil (listed kept part p))
        ∙ sym (listed_push kept part i p false (ap₂ (λ a b. a && b) (lt-ltb 0 (place_of i) some) (ne_eqb i.parent p (λ e. d (sym (is ∙ e))))))
  ];
}

-- the world lies nowhere
world_pushed : (n : ℕ) (kept part : List Item) (lists : List (List ℕ)) (i : Item) → Children n kept part lists → place_of i ≡ 0 → Children n kept (part ++ i ∷ []) lists
world_pushed n kept part lists i h none = record {
  count = h.count;
  list = λ p w. h.list p w ∙ sym (append-nil (listed kept part p)) ∙ sym (listed_push kept part i p false (ap (λ b. b && (i.parent == p)) (le-ltb 0 (place_of i) (omega arith))));
}

front_more : (kept : List Item) (k : ℕ) (i : Item) → k < length kept → i ≡ get_or kept k i → take k kept ++ i ∷ [] ≡ take (k + 1) kept
front_more kept k i lt is = ap (λ j. take k kept ++ j ∷ []) is ∙ sym (take_more kept k i lt)

pub one_child : (n : ℕ) (kept : List Item) (lists : List (List ℕ)) (k : ℕ) (i : Item) (parent child : ℕ) → k < length kept → i ≡ get_or kept k i → Children n kept (take k kept) lists →
    0 < place_of i → parent ≡ i.parent → parent < n → child ≡ number_of kept (place_of i) → Children n kept (take (k + 1) kept) (set lists parent (get_or lists parent [] ++ child ∷ []))
one_child n kept lists k i parent child lt at h some is w num =
    subst (λ part. Children n kept part (set lists parent (get_or lists parent [] ++ child ∷ []))) (front_more kept k i lt at) (child_pushed n kept (take k kept) lists i parent child h some is w num)

pub no_child : (n : ℕ) (kept : List Item) (lists : List (List ℕ)) (k : ℕ) (i : Item) → k < length kept → i ≡ get_or kept k i → Children n kept (take k kept) lists → place_of i ≡ 0 →
    Children n kept (take (k + 1) kept) lists
no_child n kept lists k i lt at h none = subst (λ part. Children n kept part lists) (front_more kept k i lt at) (world_pushed n kept (take k kept) lists i h none)

pub no_children : (n : ℕ) (kept : List Item) (lists : List (List ℕ)) → lists ≡ replicate n [] → Children n kept [] lists
no_children n kept lists e = record {
  count = ap length e ∙ length-replicate n [];
  list = λ p w. ap (λ l. get_or l p []) e ∙ get_or-replicate n p [] [] w;
}

-- ---- places that rise

rises_to : (n : ℕ) (kept : List Item) (j : Item) → PlacesRise n kept → j ∈ kept → n ≤ place_of j
rises_to n [] j rising m = elim m [ ]
rises_to n (i ∷ items) j rising here = rising.0
rises_to n (i ∷ items) j rising (there m) = let first = rising.0 in let rest = rises_to (suc (place_of i)) items j rising.1 m in omega arith

behind : (n : ℕ) (kept : List Item) (k : ℕ) (d j : Item) → PlacesRise n kept → k < length kept → j ∈ drop (suc k) kept → place_of (get_or kept k d) < place_of j
behind n [] k d j rising lt m = absurd (omega arith)
behind n (i ∷ items) zero d j rising lt m = rises_to (suc (place_of i)) items j rising.1 m
behind n (i ∷ items) (suc k) d j rising lt m = behind (suc (place_of i)) items k d j rising.1 (omega arith) m

-- the lists of the items that are left, when that of the first is taken out
abbrev pub AreLeft : List Item → ℕ → List (List ℕ) → Type 0
AreLeft kept k lists = (j : Item) → j ∈ drop k kept → get_or lists (place_of j) [] ≡ listed kept kept (place_of j)

pub left_more : (kept : List Item) (k : ℕ) (i : Item) (place : ℕ) (lists : List (List ℕ)) → PlacesRise 0 kept → k < length kept → i ≡ get_or kept k i → place ≡ place_of i →
    AreLeft kept k lists → AreLeft kept (k + 1) (set lists place [])
left_more kept k i place lists rising lt at is left j m =
    let later : place_of (get_or kept k i) < place_of j = behind 0 kept k i j rising lt (subst (λ q. j ∈ drop q kept) (add-one k) m) in
    let same : place ≡ place_of (get_or kept k i) = is ∙ ap place_of at in
    get_or-set_other lists place (place_of j) [] [] (let d : place_of j ≡ place → ⊥ = λ e. omega arith in d)
    ∙ left j (subst (λ l. j ∈ l) (sym (drop_more kept k i lt)) (there m))

pub taken_is : (kept : List Item) (k : ℕ) (i : Item) (lists : List (List ℕ)) → k < length kept → i ≡ get_or kept k i → AreLeft kept k lists → get_or lists (place_of i) [] ≡ listed kept kept (place_of i)
taken_is kept k i lists lt at left = left i (subst (λ l. i ∈ l) (sym (drop_more kept k i lt)) (subst (λ j. i ∈ (j ∷ drop (k + 1) kept)) at here))

pub in_kept : (kept : List Item) (k : ℕ) (i : Item) → k < length kept → i ≡ get_or kept k i → i ∈ kept
in_kept [] k i lt is = absurd (omega arith)
in_kept (j ∷ items) zero i lt is = subst (λ q. i ∈ (q ∷ items)) is here
in_kept (j ∷ items) (suc k) i lt is = there (in_kept items k i (omega arith) is)
