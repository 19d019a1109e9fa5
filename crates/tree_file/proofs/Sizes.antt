-- How many readings, items and slots a document has: none are more than its parts.
use Rattle.std.proofs.Common.{◌≡◌, ℕ, zero, suc, ◌+◌, ◌≤◌, Bool, true, false, cond, not, List, [], ◌∷◌, map, length, refl, ap, sym, ◌∙◌, arith}
use Rattle.std.specs.Prelude.{filter}
use Rattle.std.specs.List.{sum_by}
use Rattle.std.proofs.lemmas.List.{length-map}
use Rattle.std.proofs.lemmas.List.Sums.{sum_by-cons}
use Rattle.uv_lock.specs.declared.texture.Format.{Format}
use Rattle.map_text.specs.declared.document.RawEntity.{RawEntity}
use Rattle.file_laws.specs.Leaves.{Leaves}
use Rattle.file_laws.specs.Readings.{Reading, readings_from, judged}
use Rattle.file_laws.specs.Build.{Item, item, items, is_empty_group, without_empty, kept_items}
use Rattle.tree_file.specs.Passes.{room}

-- the entities and brushes of readings
abbrev pub parts : List Reading → ℕ
parts [] = 0
parts (r ∷ rs) = suc (length r.brushes) + parts rs

pub readings_length : (w : Leaves) (f : Format) (k : ℕ) (raws : List RawEntity) → length (readings_from w f k raws) ≡ length raws
readings_length w f k [] = refl
readings_length w f k (raw ∷ raws) = ap suc (readings_length w f (suc k) raws)

one_part : (n a b l s : ℕ) → a ≡ n → b ≡ l + s → suc a + b ≡ suc l + (n + s)
one_part n a b l s e f = omega arith

pub parts_read : (w : Leaves) (f : Format) (k : ℕ) (raws : List RawEntity) → parts (readings_from w f k raws) ≡ length raws + sum_by (λ e. length e.brushes) raws
parts_read w f k [] = refl
parts_read w f k (raw ∷ raws) =
    one_part (length raw.brushes) (length (map (judged w) raw.brushes)) (parts (readings_from w f (suc k) raws)) (length raws) (sum_by (λ e. length e.brushes) raws)
    (length-map raw.brushes (judged w)) (parts_read w f (suc k) raws)
    ∙ ap (λ n. suc (length raws) + n) (sym (sum_by-cons (λ e. length e.brushes) raw raws))

room_items : (rs : List Reading) (ps : List ℕ) (xs : List Reading) → room (map (item rs ps) xs) ≡ parts xs
room_items rs ps [] = refl
room_items rs ps (r ∷ xs) = ap (λ n. suc (length r.brushes) + n) (room_items rs ps xs)

room_filter : (p : Item → Bool) (all : List Item) → room (filter p all) ≤ room all
room_filter p [] = omega arith
room_filter p (i ∷ all) = by_test (p i) (room_filter p all)
  where
    by_test : (t : Bool) → room (filter p all) ≤ room all → room (cond t (i ∷ filter p all) (filter p all)) ≤ suc (length i.reading.brushes) + room all
    by_test true h = omega arith
    by_test false h = omega arith

room_kept : (k : ℕ) (all : List Item) → room (without_empty k all) ≤ room all
room_kept zero all = omega arith
room_kept (suc k) all =
    let a = room_kept k (filter (λ i. not (is_empty_group all i)) all) in
    let b = room_filter (λ i. not (is_empty_group all i)) all in
    omega arith

pub room_of_kept : (rs : List Reading) → room (kept_items (items rs)) ≤ parts rs
room_of_kept rs =
    let a = room_kept (length (items rs)) (items rs) in
    let b = room_items rs (Rattle.file_laws.specs.Build.first_parents rs) rs in
    omega arith
