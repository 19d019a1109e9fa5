-- Readings and items that stand at their places.
use Rattle.std.proofs.Common.{◌≡◌, inl, inr, ℕ, zero, suc, ◌+◌, ◌<◌, ◌≤◌, Bool, true, false, cond, not, ◌&&◌, List, [], ◌∷◌, ◌++◌, map, filter, length, get_or, Option, Some, None, unwrap_or, option_and_then, flat_map, append_assoc, refl, ap, sym, ◌∙◌, subst, arith, add-one, zero-add}
use Rattle.std.specs.List.{find}
use Rattle.std.proofs.lemmas.Bool.{cases_Bool, cond-true, cond-false}
use Rattle.std.proofs.lemmas.List.{get_or-map, length-map}
use Rattle.algebra.specs.Members.{◌∈◌}
use Rattle.algebra.proofs.Members.{at_of_member}
use Rattle.map_model.specs.Tree.{Kind, group, layer, has_kind, numbers_from}
use Rattle.file_laws.specs.Readings.{Reading}
use Rattle.file_laws.specs.Build.{Note, Item, brush_notes, notes, place_of, item, items, place_named, named_parent, or_else, first_parents, breaks_ring, without_empty, kept_items, is_empty_group, has_this_id}
use Rattle.file_laws.proofs.Lists.{in_map, of_map, map_of_map, of_filter}
use Rattle.file_laws.proofs.Standing.{of_numbers}
use Rattle.tree_file.specs.Passes.{InPlaceFrom, InPlace, AreInPlace, AreWithin, PlacesRise, ring_flags, id_notes, parent_notes, empty_notes}
use Rattle.tree_file.proofs.Placed.{found_at}

-- ---- numbers in order

pub numbers_length : (k n : ℕ) → length (numbers_from k n) ≡ n
numbers_length k zero = refl
numbers_length k (suc n) = ap suc (numbers_length (k + 1) n)

pub number_at : (k n i d : ℕ) → i < n → get_or (numbers_from k n) i d ≡ k + i
number_at k zero i d lt = absurd (omega arith)
number_at k (suc n) zero d lt = omega arith
number_at k (suc n) (suc i) d lt = let e = number_at (k + 1) n i d (omega arith) in omega arith

-- Where the places count from 0, each member stands at its place.
pub stands_at : {A : Type 0} (f : A → ℕ) (xs : List A) → map f xs ≡ numbers_from 0 (length xs) → (i : ℕ) (x : A) → i < length xs → x ≡ get_or xs i x → f x ≡ i
stands_at f xs at i x lt is =
    ap f is ∙ sym (get_or-map f xs i x 0 lt) ∙ ap (λ l. get_or l i 0) at ∙ number_at 0 (length xs) i 0 lt ∙ zero-add i

pub at_its_place : {A : Type 0} (f : A → ℕ) (xs : List A) → map f xs ≡ numbers_from 0 (length xs) → (x : A) → x ∈ xs → (d : A) → get_or xs (f x) d ≡ x
at_its_place f xs at x t d =
    let a = at_of_member xs x x t in
    let b = at_of_member xs x d t in
    let here_is = stands_at f xs at b.index x b.within (sym (same_default xs b.index x d b.within ∙ b.is)) in
    ap (λ n. get_or xs n d) here_is ∙ b.is
  where
    same_default : {A : Type 0} (xs : List A) (i : ℕ) (a b : A) → i < length xs → get_or xs i a ≡ get_or xs i b
    same_default [] i a b lt = absurd (omega arith)
    same_default (x ∷ xs) zero a b lt = refl
    same_default (x ∷ xs) (suc i) a b lt = same_default xs i a b (omega arith)

pub one_at_place : {A : Type 0} (f : A → ℕ) (xs : List A) → map f xs ≡ numbers_from 0 (length xs) → (x y : A) → x ∈ xs → y ∈ xs → f x ≡ f y → x ≡ y
one_at_place f xs at x y t u e = sym (at_its_place f xs at x t x) ∙ ap (λ n. get_or xs n x) e ∙ at_its_place f xs at y u x

pub place_below : {A : Type 0} (f : A → ℕ) (xs : List A) → map f xs ≡ numbers_from 0 (length xs) → (x : A) → x ∈ xs → f x < length xs
place_below f xs at x t =
    let r = of_numbers 0 (length xs) (f x) (subst (λ (l : List ℕ). f x ∈ l) at (in_map f xs x t)) in
    let a = r.1 in
    let b = r.2 in
    omega arith

-- ---- readings

reading_places : (k : ℕ) (rs : List Reading) → InPlaceFrom k rs → map (λ (r : Reading). r.place) rs ≡ numbers_from k (length rs)
reading_places k [] at = refl
reading_places k (r ∷ rs) at = λ i. at.0 i ∷ (reading_places (suc k) rs at.1 ∙ ap (λ n. numbers_from n (length rs)) (sym (add-one k))) i

pub readings_at : (rs : List Reading) → InPlace rs → map (λ (r : Reading). r.place) rs ≡ numbers_from 0 (length rs)
readings_at rs at = reading_places 0 rs at

pub place_at : (rs : List Reading) → InPlace rs → (i : ℕ) (r : Reading) → i < length rs → r ≡ get_or rs i r → r.place ≡ i
place_at rs at i r lt is = stands_at (λ (q : Reading). q.place) rs (readings_at rs at) i r lt is

pub flags_length : (rs : List Reading) (breaks : List Bool) → breaks ≡ ring_flags rs → length breaks ≡ length rs
flags_length rs breaks e = ap length e ∙ length-map (numbers_from 0 (length rs)) (breaks_ring (first_parents rs)) ∙ numbers_length 0 (length rs)

pub flag_at : (rs : List Reading) (breaks : List Bool) → breaks ≡ ring_flags rs → (p : ℕ) → p < length rs → get_or breaks p false ≡ breaks_ring (first_parents rs) p
flag_at rs breaks e p lt =
    let n = numbers_length 0 (length rs) in
    ap (λ l. get_or l p false) e
    ∙ get_or-map (breaks_ring (first_parents rs)) (numbers_from 0 (length rs)) p 0 false (omega arith)
    ∙ ap (breaks_ring (first_parents rs)) (number_at 0 (length rs) p 0 lt ∙ zero-add p)

pub parents_length : (rs : List Reading) → length (first_parents rs) ≡ length rs
parents_length rs = length-map rs (λ r. unwrap_or (named_parent rs r) 0)

pub parent_at : (rs : List Reading) (ps : List ℕ) → ps ≡ first_parents rs → (i : ℕ) (r : Reading) → i < length rs → r ≡ get_or rs i r → get_or ps i 0 ≡ unwrap_or (named_parent rs r) 0
parent_at rs ps e i r lt is =
    ap (λ l. get_or l i 0) e ∙ get_or-map (λ q. unwrap_or (named_parent rs q) 0) rs i r 0 lt ∙ ap (λ q. unwrap_or (named_parent rs q) 0) (sym is)

-- a reading with what stands at its place among the parents and among the flags is the item there
pub item_is : (rs : List Reading) → InPlace rs → (ps : List ℕ) → ps ≡ first_parents rs → (breaks : List Bool) → breaks ≡ ring_flags rs → (i : ℕ) (r : Reading) → i < length rs → r ≡ get_or rs i r →
    (x : Item) → x.reading ≡ r → x.parent ≡ cond (get_or breaks r.place false) 0 (get_or ps r.place 0) → item rs (first_parents rs) r ≡ x
item_is rs at ps e breaks f i r lt is x same parent =
    let here_is = place_at rs at i r lt is in
    let flag = flag_at rs breaks f r.place (omega arith) in
    let up = ap (λ n. get_or ps n 0) here_is ∙ parent_at rs ps e i r lt is in
    sym (λ j. record { reading = same j; parent = (parent ∙ (λ k. cond (flag k) 0 (up k))) j })

-- ---- parents are places of the file

named_below : (rs : List Reading) → InPlace rs → (k : Kind) (id : Option ℕ) (p : ℕ) → place_named rs k id ≡ Some p → p < length rs
named_below rs at k None p e = absurd (cc e)
named_below rs at k (Some id) p e = by_found (find (has_this_id id) rs) refl e
  where
    one : {x y : ℕ} → Some x ≡ Some y → x ≡ y
    one e = cc

    by_found : (o : Option Reading) → find (has_this_id id) rs ≡ o → option_and_then (λ (r : Reading). cond (has_kind k r.node) (Some r.place) None) o ≡ Some p → p < length rs
    by_found None f e = absurd (cc e)
    by_found (Some r) f e = elim (cases_Bool (has_kind k r.node)) [
      | inl t ↦ subst (λ (n : ℕ). n < length rs) (one (sym (cond-true (has_kind k r.node) (Some r.place) None t) ∙ e)) (found_at rs at (has_this_id id) r f).0
      | inr t ↦ absurd (let g : None ≡ Some p = sym (cond-false (has_kind k r.node) (Some r.place) None t) ∙ e in cc g)
    ]

either_below : (n : ℕ) (a b : Option ℕ) → ((p : ℕ) → a ≡ Some p → p < n) → ((p : ℕ) → b ≡ Some p → p < n) → 0 < n → unwrap_or (or_else a b) 0 < n
either_below n None None f g some = some
either_below n None (Some p) f g some = g p refl
either_below n (Some p) b f g some = f p refl

some_length : {A : Type 0} (xs : List A) (x : A) → x ∈ xs → 0 < length xs
some_length [] x t = elim t [ ]
some_length (y ∷ xs) x t = omega arith

pub parent_below : (rs : List Reading) → InPlace rs → (r : Reading) → r ∈ rs → unwrap_or (named_parent rs r) 0 < length rs
parent_below rs at r t = either_below (length rs) (place_named rs group r.in_group) (place_named rs layer r.in_layer)
    (named_below rs at group r.in_group) (named_below rs at layer r.in_layer) (some_length rs r t)

pub parents_within : (rs : List Reading) → InPlace rs → (p : ℕ) → p ∈ first_parents rs → p < length (first_parents rs)
parents_within rs at p t =
    let r = of_map (λ q. unwrap_or (named_parent rs q) 0) rs p t in
    let w = subst (λ (n : ℕ). n < length rs) (sym r.2) (parent_below rs at r.0 r.1) in
    let n = parents_length rs in
    omega arith

-- ---- items

pub items_at : (rs : List Reading) → InPlace rs → AreInPlace (items rs)
items_at rs at =
    map_of_map place_of (item rs (first_parents rs)) rs ∙ readings_at rs at
    ∙ ap (numbers_from 0) (sym (length-map rs (item rs (first_parents rs))))

mended_below : (n : ℕ) (t : Bool) (p : ℕ) → p < n → cond t 0 p < n
mended_below n true p w = omega arith
mended_below n false p w = w

pub items_within : (rs : List Reading) → InPlace rs → AreWithin (length rs) (items rs)
items_within rs at i t =
    let r = of_map (item rs (first_parents rs)) rs i t in
    subst (λ (x : Item). (place_of x < length rs) × (x.parent < length rs)) (sym r.2) (
      place_below (λ (q : Reading). q.place) rs (readings_at rs at) r.0 r.1,
      mended_below (length rs) (breaks_ring (first_parents rs) r.0.place) (unwrap_or (named_parent rs r.0) 0) (parent_below rs at r.0 r.1),
    )

-- ---- what is kept

filter_twice : {A : Type 0} (p q : A → Bool) (xs : List A) → filter q (filter p xs) ≡ filter (λ x. p x && q x) xs
filter_twice p q [] = refl
filter_twice p q (x ∷ xs) = elim (cases_Bool (p x)) [
  | inl e ↦ elim (cases_Bool (q x)) [
    | inl f ↦ rw (e, f) (ap (λ l. x ∷ l) (filter_twice p q xs))
    | inr f ↦ rw (e, f) (filter_twice p q xs)
  ]
  | inr e ↦ rw e (filter_twice p q xs)
]

all_pass : {A : Type 0} (xs : List A) → filter (λ (x : A). true) xs ≡ xs
all_pass [] = refl
all_pass (x ∷ xs) = ap (λ l. x ∷ l) (all_pass xs)

some_stay : (n : ℕ) (K : List Item) → (q : Item → Bool) × (without_empty n K ≡ filter q K)
some_stay zero K = (λ i. true, sym (all_pass K))
some_stay (suc n) K =
    let r = some_stay n (filter (λ i. not (is_empty_group K i)) K) in
    (λ i. not (is_empty_group K i) && r.0 i, r.1 ∙ filter_twice (λ i. not (is_empty_group K i)) r.0 K)

pub kept_is : (K : List Item) → (q : Item → Bool) × (kept_items K ≡ filter q K)
kept_is K = some_stay (length K) K

pub kept_within : (n : ℕ) (K : List Item) → AreWithin n K → AreWithin n (kept_items K)
kept_within n K w i t = let q = kept_is K in w i (of_filter q.0 K i (subst (λ (l : List Item). i ∈ l) q.1 t)).0

rises_from : (k : ℕ) (xs : List Item) → map place_of xs ≡ numbers_from k (length xs) → PlacesRise k xs
rises_from k [] at = tt
rises_from k (x ∷ xs) at =
    let first : place_of x ≡ k = head at in
    (omega arith, subst (λ (n : ℕ). PlacesRise n xs) (omega arith) (rises_from (k + 1) xs (tail at)))
  where
    head : {a b : ℕ} {xs ys : List ℕ} → a ∷ xs ≡ b ∷ ys → a ≡ b
    head e = cc

    tail : {a b : ℕ} {xs ys : List ℕ} → a ∷ xs ≡ b ∷ ys → xs ≡ ys
    tail e = cc

rises_later : (j k : ℕ) (xs : List Item) → j ≤ k → PlacesRise k xs → PlacesRise j xs
rises_later j k [] w r = tt
rises_later j k (x ∷ xs) w r = (let v = r.0 in omega arith, r.1)

rises_filtered : (k : ℕ) (p : Item → Bool) (xs : List Item) → PlacesRise k xs → PlacesRise k (filter p xs)
rises_filtered k p [] r = tt
rises_filtered k p (x ∷ xs) r = elim (cases_Bool (p x)) [
  | inl e ↦ rw e (r.0, rises_filtered (suc (place_of x)) p xs r.1)
  | inr e ↦ rw e (rises_filtered k p xs (rises_later k (suc (place_of x)) xs (let v = r.0 in omega arith) r.1))
]

pub kept_rises : (K : List Item) → AreInPlace K → PlacesRise 0 (kept_items K)
kept_rises K at = let q = kept_is K in subst (PlacesRise 0) (sym q.1) (rises_filtered 0 q.0 K (rises_from 0 K at))

-- ---- what the passes hand on

pub flags_are : (rs : List Reading) (ps : List ℕ) (breaks : List Bool) → ps ≡ first_parents rs → breaks ≡ map (breaks_ring ps) (numbers_from 0 (length ps)) → breaks ≡ ring_flags rs
flags_are rs ps breaks e f =
    f ∙ (λ j. map (breaks_ring (e j)) (numbers_from 0 (length (e j))))
    ∙ ap (λ n. map (breaks_ring (first_parents rs)) (numbers_from 0 n)) (parents_length rs)

pub each_parent_within : (rs : List Reading) → InPlace rs → (ps : List ℕ) → ps ≡ first_parents rs → (p : ℕ) → p ∈ ps → p < length ps
each_parent_within rs at ps e = subst (λ (l : List ℕ). (p : ℕ) → p ∈ l → p < length l) (sym e) (parents_within rs at)

pub items_length : (rs : List Reading) → length (items rs) ≡ length rs
items_length rs = length-map rs (item rs (first_parents rs))

pub placed_within : (rs : List Reading) → InPlace rs → (placed : List Item) → placed ≡ items rs → AreWithin (length placed) placed
placed_within rs at placed e = subst (λ (l : List Item). AreWithin (length l) l) (sym e) (subst (λ (n : ℕ). AreWithin n (items rs)) (sym (items_length rs)) (items_within rs at))

pub all_notes : (rs : List Reading) (placed : List Item) (start brushes parents all : List Note) → start ≡ [] → brushes ≡ start ++ flat_map brush_notes rs
    → parents ≡ (brushes ++ id_notes rs) ++ parent_notes rs → placed ≡ items rs → all ≡ parents ++ empty_notes placed → all ≡ notes rs (items rs) (kept_items (items rs))
all_notes rs placed start brushes parents all a b c d e =
    e ∙ (λ j. c j ++ empty_notes (d j)) ∙ (λ j. ((b j ++ id_notes rs) ++ parent_notes rs) ++ empty_notes (items rs))
    ∙ (λ j. (((a j ++ flat_map brush_notes rs) ++ id_notes rs) ++ parent_notes rs) ++ empty_notes (items rs))
    ∙ append_assoc (flat_map brush_notes rs ++ id_notes rs) (parent_notes rs) (empty_notes (items rs))
    ∙ append_assoc (flat_map brush_notes rs) (id_notes rs) (parent_notes rs ++ empty_notes (items rs))
