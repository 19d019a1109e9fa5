-- How many slots items take, and the numbers that they draw.
use Rattle.std.proofs.Common.{◌≡◌, inl, inr, ℕ, zero, suc, ◌+◌, ◌<◌, ◌≤◌, Bool, true, false, cond, ◌||◌, ◌==◌, Result, Ok, Err, List, [], ◌∷◌, ◌++◌, length, get_or, set, take, replicate, flat_map, Some, None, refl, ap, ap₂, sym, ◌∙◌, subst, arith, add-zero, zero-add, add_assoc, append-nil}
use Rattle.std.specs.List.{list_any}
use Rattle.std.proofs.Math.Bool.{or-false}
use Rattle.std.proofs.lemmas.Bool.{cases_Bool, cases_eq, eq-eqb, ne_eqb, cond-true, cond-false, or_parts}
use Rattle.std.proofs.lemmas.List.{take_more, take_all, get_or-set_same, get_or-set_other, get_or-replicate, get_or_default, length-append, length-map}
use Rattle.std.proofs.lemmas.List.Folds.{list_any-append}
use Rattle.std.proofs.lemmas.Grind.{flat_map-append}
use Rattle.map_text.specs.declared.document.Reason.{Reason}
use Rattle.map_model.specs.Faces.{Face}
use Rattle.map_model.specs.Tree.{Brush}
use Rattle.file_laws.specs.Build.{Item, place_of, kept_brushes, size, number_of, slots_of}
use Rattle.tree_file.specs.Passes.{Numbers, PlacesRise, bodies_of, room}

-- ---- how many slots items take

pub few_bodies : (brushes : List (Result (List Face) Reason)) → length (bodies_of brushes) ≤ length brushes
few_bodies [] = omega arith
few_bodies (Ok faces ∷ brushes) = let h = few_bodies brushes in omega arith
few_bodies (Err reason ∷ brushes) = let h = few_bodies brushes in omega arith

abbrev pub sizes : List Item → ℕ
sizes [] = 0
sizes (i ∷ items) = size i + sizes items

size_is : (all : List Item) (i : Item) → length (slots_of all i) ≡ size i
size_is all i = ap suc (length-map (kept_brushes i.reading) (λ faces. Some (Brush (number_of all (place_of i)) None faces)))

pub sizes_are : (all part : List Item) → length (flat_map (slots_of all) part) ≡ sizes part
sizes_are all [] = refl
sizes_are all (i ∷ part) = length-append (slots_of all i) (flat_map (slots_of all) part) ∙ ap₂ (λ a b. a + b) (size_is all i) (sizes_are all part)

pub sizes_few : (kept : List Item) → sizes kept ≤ room kept
sizes_few [] = omega arith
sizes_few (i ∷ items) = let one = few_bodies i.reading.brushes in let rest = sizes_few items in omega arith

sizes_push : (items : List Item) (i : Item) → sizes (items ++ i ∷ []) ≡ sizes items + size i
sizes_push [] i = add-zero (size i) ∙ sym (zero-add (size i))
sizes_push (j ∷ items) i = ap (λ n. size j + n) (sizes_push items i) ∙ sym (add_assoc (size j) (sizes items) (size i))

pub sizes_more : (kept : List Item) (k : ℕ) (i : Item) → k < length kept → i ≡ get_or kept k i → sizes (take (k + 1) kept) ≡ sizes (take k kept) + size i
sizes_more kept k i lt is = ap sizes (take_more kept k i lt) ∙ sizes_push (take k kept) (get_or kept k i) ∙ ap (λ j. sizes (take k kept) + size j) (sym is)

sizes_within : (kept : List Item) (k : ℕ) (d : Item) → k < length kept → sizes (take k kept) + size (get_or kept k d) ≤ sizes kept
sizes_within [] k d lt = absurd (omega arith)
sizes_within (i ∷ items) zero d lt = omega arith
sizes_within (i ∷ items) (suc k) d lt = let rest = sizes_within items k d (omega arith) in omega arith

pub sizes_within_at : (kept : List Item) (k : ℕ) (i : Item) → k < length kept → i ≡ get_or kept k i → sizes (take k kept) + size i ≤ sizes kept
sizes_within_at kept k i lt is = subst (λ j. sizes (take k kept) + size j ≤ sizes kept) (sym is) (sizes_within kept k i lt)

room_at : (kept : List Item) (k : ℕ) (d : Item) → k < length kept → suc (length (get_or kept k d).reading.brushes) ≤ room kept
room_at [] k d lt = absurd (omega arith)
room_at (i ∷ items) zero d lt = omega arith
room_at (i ∷ items) (suc k) d lt = let rest = room_at items k d (omega arith) in omega arith

pub room_of : (kept : List Item) (k : ℕ) (i : Item) → k < length kept → i ≡ get_or kept k i → suc (length i.reading.brushes) ≤ room kept
room_of kept k i lt is = subst (λ j. suc (length j.reading.brushes) ≤ room kept) (sym is) (room_at kept k i lt)

-- ---- the number of an item

rises_at : (n : ℕ) (kept : List Item) (k : ℕ) (d : Item) → PlacesRise n kept → k < length kept → n ≤ place_of (get_or kept k d)
rises_at n [] k d rising lt = absurd (omega arith)
rises_at n (i ∷ items) zero d rising lt = rising.0
rises_at n (i ∷ items) (suc k) d rising lt = let here = rising.0 in let rest = rises_at (suc (place_of i)) items k d rising.1 (omega arith) in omega arith

number_got : (n : ℕ) (kept : List Item) (k : ℕ) (d : Item) → PlacesRise n kept → k < length kept → number_of kept (place_of (get_or kept k d)) ≡ sizes (take k kept)
number_got n [] k d rising lt = absurd (omega arith)
number_got n (i ∷ items) zero d rising lt = cond-true (place_of i == place_of i) 0 (size i + number_of items (place_of i)) (eq-eqb (place_of i) (place_of i) refl)
number_got n (i ∷ items) (suc k) d rising lt =
    let p = place_of (get_or items k d) in
    let above = rises_at (suc (place_of i)) items k d rising.1 (omega arith) in
    cond-false (place_of i == p) 0 (size i + number_of items p) (ne_eqb (place_of i) p (omega arith))
    ∙ ap (λ m. size i + m) (number_got (suc (place_of i)) items k d rising.1 (omega arith))

pub number_at : (kept : List Item) (k : ℕ) (i : Item) → PlacesRise 0 kept → k < length kept → i ≡ get_or kept k i → number_of kept (place_of i) ≡ sizes (take k kept)
number_at kept k i rising lt is = ap (λ j. number_of kept (place_of j)) is ∙ number_got 0 kept k i rising lt

-- behind the number of an item there is room for its slots
pub number_fits : (kept : List Item) (k : ℕ) (i : Item) → PlacesRise 0 kept → k < length kept → i ≡ get_or kept k i → number_of kept (place_of i) + size i ≤ sizes kept
number_fits kept k i rising lt is =
    subst (λ m. m + size i ≤ sizes kept) (sym (number_at kept k i rising lt is)) (sizes_within_at kept k i lt is)

-- ---- the table of numbers

-- what the table tells of a place when it has the numbers of the first items
abbrev pub told : List Item → List Item → ℕ → ℕ
told kept front p = cond (list_any (λ j. place_of j == p) front) (number_of kept p) (sizes kept)

absent : (kept : List Item) (p : ℕ) → list_any (λ j. place_of j == p) kept ≡ false → number_of kept p ≡ sizes kept
absent [] p none = refl
absent (i ∷ items) p none =
    let r = or_parts (place_of i == p) (list_any (λ j. place_of j == p) items) none in
    cond-false (place_of i == p) 0 (size i + number_of items p) r.0 ∙ ap (λ m. size i + m) (absent items p r.1)

pub told_all : (kept : List Item) (p : ℕ) → told kept kept p ≡ number_of kept p
told_all kept p = elim (cases_Bool (list_any (λ j. place_of j == p) kept)) [
  | inl t ↦ cond-true (list_any (λ j. place_of j == p) kept) (number_of kept p) (sizes kept) t
  | inr f ↦ cond-false (list_any (λ j. place_of j == p) kept) (number_of kept p) (sizes kept) f ∙ sym (absent kept p f)
]

any_more : (kept : List Item) (k : ℕ) (i : Item) (p : ℕ) → k < length kept → i ≡ get_or kept k i →
    list_any (λ j. place_of j == p) (take (k + 1) kept) ≡ (list_any (λ j. place_of j == p) (take k kept) || (place_of i == p))
any_more kept k i p lt is =
    ap (list_any (λ j. place_of j == p)) (take_more kept k i lt)
    ∙ list_any-append (λ j. place_of j == p) (take k kept) (get_or kept k i ∷ [])
    ∙ ap (λ b. list_any (λ j. place_of j == p) (take k kept) || b) (or-false (place_of (get_or kept k i) == p) ∙ ap (λ j. place_of j == p) (sym is))

or_true : (b : Bool) → (b || true) ≡ true
or_true true = refl
or_true false = refl

-- one number more
pub told_more : (kept : List Item) (numbers : List ℕ) (k next at n : ℕ) (i : Item) → PlacesRise 0 kept → k < length kept → i ≡ get_or kept k i → at ≡ place_of i → at < n → length numbers ≡ n →
    next ≡ sizes (take k kept) → ((p : ℕ) → p < n → get_or numbers p 0 ≡ told kept (take k kept) p) →
    (p : ℕ) → p < n → get_or (set numbers at next) p 0 ≡ told kept (take (k + 1) kept) p
told_more kept numbers k next at n i rising lt is here within count next_is so_far p w = elim (cases_eq p at) [
  | inl e ↦
      ap (λ q. get_or (set numbers at next) q 0) e ∙ get_or-set_same numbers at next 0 (subst (λ m. at < m) (sym count) within)
      ∙ next_is ∙ sym (number_at kept k i rising lt is) ∙ ap (number_of kept) (sym (e ∙ here))
      ∙ sym (cond-true (list_any (λ j. place_of j == p) (take (k + 1) kept)) (number_of kept p) (sizes kept)
      (any_more kept k i p lt is ∙ ap (λ b. list_any (λ j. place_of j == p) (take k kept) || b) (eq-eqb (place_of i) p (sym (e ∙ here))) ∙ or_true (list_any (λ j. place_of j == p) (take k kept))))
  | inr d ↦
      get_or-set_other numbers at p next 0 d ∙ so_far p w
      ∙ ap (λ b. cond b (number_of kept p) (sizes kept))
      (sym (any_more kept k i p lt is ∙ ap (λ b. list_any (λ j. place_of j == p) (take k kept) || b) (ne_eqb (place_of i) p (λ e. d (sym (here ∙ e)))) ∙ or-false (list_any (λ j. place_of j == p) (take k kept))))
]

-- none yet
pub told_none : (kept : List Item) (numbers : List ℕ) (n total p : ℕ) → numbers ≡ replicate n total → total ≡ sizes kept → p < n → get_or numbers p 0 ≡ told kept (take 0 kept) p
told_none kept numbers n total p blank all w = ap (λ l. get_or l p 0) blank ∙ get_or-replicate n p total 0 w ∙ all

pub numbered : (kept : List Item) (numbers : List ℕ) (n k : ℕ) → length numbers ≡ n → length kept ≤ k → ((p : ℕ) → p < n → get_or numbers p 0 ≡ told kept (take k kept) p) → Numbers n kept numbers
numbered kept numbers n k count all so_far = record {
  count = count;
  number = λ p w. so_far p w ∙ ap (λ front. told kept front p) (take_all k kept all) ∙ told_all kept p;
}

-- the number that is read at a place
pub drawn : (kept : List Item) (numbers : List ℕ) (n at p found : ℕ) → Numbers n kept numbers → at ≡ p → p < n → found ≡ get_or numbers at found → found ≡ number_of kept p
drawn kept numbers n at p found has same within is =
    is ∙ ap (λ q. get_or numbers q found) same ∙ get_or_default numbers p found 0 (subst (λ m. p < m) (sym has.count) within) ∙ has.number p within

-- the slots of one item more
pub slots_more : (all kept : List Item) (k : ℕ) (i : Item) → k < length kept → i ≡ get_or kept k i → flat_map (slots_of all) (take (k + 1) kept) ≡ flat_map (slots_of all) (take k kept) ++ slots_of all i
slots_more all kept k i lt is =
    ap (flat_map (slots_of all)) (take_more kept k i lt) ∙ flat_map-append (slots_of all) (take k kept) (get_or kept k i ∷ [])
    ∙ ap (λ l. flat_map (slots_of all) (take k kept) ++ l) (append-nil (slots_of all (get_or kept k i)) ∙ ap (slots_of all) (sym is))
