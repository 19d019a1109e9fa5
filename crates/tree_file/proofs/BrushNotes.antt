-- Notes on brushes, and brushes of a map among those of a file, one more at a time.
use Rattle.std.proofs.Common.{◌≡◌, inl, inr, ℕ, suc, ◌+◌, ◌<◌, true, false, nat_lt, is_ok, length-append, take_all, ◌≤◌, Option, Some, None, SomeIff, List, [], ◌∷◌, ◌++◌, flat_map, length, get_or, take, Result, Ok, Err, refl, ap, sym, ◌∙◌, arith, add-zero, zero-add, append_assoc, append-nil}
use Rattle.std.proofs.lemmas.Bool.{lt-ltb}
use Rattle.std.proofs.lemmas.List.{take_more, length-take-le}
use Rattle.algebra.specs.Members.{◌∈◌}
use Rattle.map_text.specs.declared.document.Reason.{Reason}
use Rattle.map_model.specs.Faces.{Face}
use Rattle.file_laws.specs.Build.{kept_brush, brush_note, brush_notes_from}
use Rattle.file_laws.proofs.Lists.{head_or_tail}
use Rattle.tree_file.specs.Passes.{bodies_of}

notes_append : (place k : ℕ) (bs : List (Result (List Face) Reason)) (b : Result (List Face) Reason) → brush_notes_from place k (bs ++ b ∷ []) ≡ brush_notes_from place k bs ++ brush_note place (k + length bs) b
notes_append place k [] b = append-nil (brush_note place k b) ∙ ap (λ n. brush_note place n b) (sym (add-zero k))
notes_append place k (c ∷ bs) b =
    ap (λ l. brush_note place k c ++ l)
    (notes_append place (suc k) bs b ∙ ap (λ n. brush_notes_from place (suc k) bs ++ brush_note place n b) (let e : suc k + length bs ≡ k + suc (length bs) = omega arith in e))
    ∙ sym (append_assoc (brush_note place k c) (brush_notes_from place (suc k) bs) (brush_note place (k + suc (length bs)) b))

pub notes_more : (place i : ℕ) (bs : List (Result (List Face) Reason)) (b : Result (List Face) Reason) → i < length bs → b ≡ get_or bs i b →
    brush_notes_from place 0 (take (i + 1) bs) ≡ brush_notes_from place 0 (take i bs) ++ brush_note place i b
notes_more place i bs b lt is =
    ap (brush_notes_from place 0) (take_more bs i b lt) ∙ notes_append place 0 (take i bs) (get_or bs i b)
    ∙ (λ j. brush_notes_from place 0 (take i bs) ++ brush_note place ((zero-add (length (take i bs)) ∙ length-take-le i bs (omega arith)) j) (sym is j))

-- of flat_map
flat_append : {A B : Type 0} (f : A → List B) (xs : List A) (x : A) → flat_map f (xs ++ x ∷ []) ≡ flat_map f xs ++ f x
flat_append f [] x = append-nil (f x)
flat_append f (y ∷ xs) x = ap (λ l. f y ++ l) (flat_append f xs x) ∙ sym (append_assoc (f y) (flat_map f xs) (f x))

pub flat_more : {A B : Type 0} (f : A → List B) (xs : List A) (i : ℕ) (x : A) → i < length xs → x ≡ get_or xs i x → flat_map f (take (i + 1) xs) ≡ flat_map f (take i xs) ++ f x
flat_more f xs i x lt is = ap (flat_map f) (take_more xs i x lt) ∙ flat_append f (take i xs) (get_or xs i x) ∙ ap (λ y. flat_map f (take i xs) ++ f y) (sym is)

-- ---- whether some brush is kept

pub none_more : (bs : List (Result (List Face) Reason)) (i : ℕ) (b : Result (List Face) Reason) → i < length bs → b ≡ get_or bs i b → is_ok b ≡ false → bodies_of (take i bs) ≡ [] → bodies_of (take (i + 1) bs) ≡ []
none_more bs i b lt is h none = flat_more kept_brush bs i b lt is ∙ (λ j. none j ++ by_outcome b h j)
  where
    by_outcome : (b : Result (List Face) Reason) → is_ok b ≡ false → kept_brush b ≡ []
    by_outcome (Ok faces) h = absurd (cc h)
    by_outcome (Err reason) h = refl

pub some_kept : (bs : List (Result (List Face) Reason)) (b : Result (List Face) Reason) → b ∈ bs → is_ok b ≡ true → nat_lt 0 (length (bodies_of bs)) ≡ true
some_kept bs b t h = lt-ltb 0 (length (bodies_of bs)) (counted bs b t h)
  where
    ok_counted : (b : Result (List Face) Reason) → is_ok b ≡ true → 0 < length (kept_brush b)
    ok_counted (Ok faces) h = omega arith
    ok_counted (Err reason) h = absurd (cc h)

    counted : (bs : List (Result (List Face) Reason)) (b : Result (List Face) Reason) → b ∈ bs → is_ok b ≡ true → 0 < length (bodies_of bs)
    counted [] b t h = elim t [ ]
    counted (c ∷ bs) b t h =
        let long = length-append (kept_brush c) (bodies_of bs) in
        elim (head_or_tail b c bs t) [
          | inl e ↦ let w = ok_counted c (ap is_ok (sym e) ∙ h) in omega arith
          | inr u ↦ let w = counted bs b u h in omega arith
        ]

pub none_kept : (bs : List (Result (List Face) Reason)) (i : ℕ) → length bs ≤ i → bodies_of (take i bs) ≡ [] → false ≡ nat_lt 0 (length (bodies_of bs))
none_kept bs i w none = ap (λ l. nat_lt 0 (length l)) (sym none ∙ ap bodies_of (take_all i bs w))

-- a sum that is given by its test
pub counted_on : (o : Option ℕ) (P : Type 0) (v n : ℕ) → SomeIff o P v → o ≡ Some n → n ≡ v
counted_on None P v n s e = absurd (cc e)
counted_on (Some x) P v n s e = sym (one e) ∙ s.1
  where
    one : {a b : ℕ} → Some a ≡ Some b → a ≡ b
    one e = cc
