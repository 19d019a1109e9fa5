-- A kept motion is read as it is written.
use Rattle.std.proofs.Common.{◌≡◌, ℕ, suc, ◌+◌, ◌*◌, ◌/◌, ◌%◌, ◌<◌, ◌≤◌, true, false, ◌&&◌, ◌||◌, ◌==◌, nat_le, List, [], ◌∷◌, ◌++◌, map, length, refl, ap, sym, ◌∙◌, subst, arith, inl, inr, append-nil, ℤ, pos, negsuc, unsigned_abs, int_div, int_rem}
use Rattle.std.specs.Prelude.{Some, None, option_map, option_and_then}
use Rattle.std.specs.Ordering.{int_eq}
use Rattle.std.specs.List.{list_any, join_with_byte}
use Rattle.std.specs.Fmt.{decimal, signed_decimal, digits}
use Rattle.std.proofs.lemmas.Bool.{cases_eq, and_parts, and_from, or_parts, or_cases, cond-true, leb-true, lt-ltb, eqb-true}
use Rattle.algebra.specs.Members.{◌∈◌, here, there}
use Rattle.algebra.specs.Space.{Vector}
use Rattle.fixed_num.specs.Count.{is_number_word, count_of}
use Rattle.fixed_num.specs.Scan.{scan, scan_unsigned, scan_power}
use Rattle.fixed_num.specs.Shortest.{shortest_decimal}
use Rattle.map_lex.specs.Bytes.{is_blank, begins_blank}
use Rattle.map_lex.specs.Cut.{begins_word}
use Rattle.map_text.specs.Spelled.{is_small}
use Rattle.map_write.proofs.NumberWords.{whole_spells}
use Rattle.map_model.specs.Motions.{Motion, transposed, is_unit, is_signed_permutation, is_short, is_kept_motion}
use Rattle.orient48.specs.MotionTexts.{words_of, motion_text, whole_in, wholes_in, motion_of_numbers, read_motion}

-- ---- one number

record ReadsWhole (w : List ℕ) (z : ℤ) : Type 0 where
  reads : whole_in w ≡ Some z
  unblank : list_any is_blank w ≡ false
  begins : begins_blank w ≡ false
  some : 0 < length w

begins_no_blank : (w : List ℕ) → list_any is_blank w ≡ false → begins_blank w ≡ false
begins_no_blank [] h = refl
begins_no_blank (b ∷ w) h = (or_parts (is_blank b) (list_any is_blank w) h).0

begins_some : (w : List ℕ) → begins_word w ≡ true → 0 < length w
begins_some [] h = absurd (cc h)
begins_some (b ∷ w) h = omega arith

whole_reads : (z : ℤ) → unsigned_abs z ≤ 1000000 → ReadsWhole (signed_decimal z) z
whole_reads z h =
    let written = whole_spells z (omega arith) in
    record {
      reads =
          cond-true (is_number_word (signed_decimal z) && int_eq (int_rem (count_of 6 (signed_decimal z)) (pos 1000000)) (pos 0)) (Some (int_div (count_of 6 (signed_decimal z)) (pos 1000000))) None
          (and_from (is_number_word (signed_decimal z)) (int_eq (int_rem (count_of 6 (signed_decimal z)) (pos 1000000)) (pos 0)) written.spells.number written.whole)
          ∙ ap Some written.value;
      unblank = written.spells.is_word.unblank;
      begins = begins_no_blank (signed_decimal z) written.spells.is_word.unblank;
      some = begins_some (signed_decimal z) written.spells.is_word.begins;
    }

-- ---- words between blanks

words_last : (w : List ℕ) → list_any is_blank w ≡ false → words_of w ≡ w ∷ []
words_last [] h = refl
words_last (b ∷ w) h = let r = or_parts (is_blank b) (list_any is_blank w) h in rw (r.0, words_last w r.1) refl

words_more : (w rest : List ℕ) → list_any is_blank w ≡ false → begins_blank rest ≡ false → words_of (w ++ (32 ∷ rest)) ≡ w ∷ words_of rest
words_more [] rest h k = rw k refl
words_more (b ∷ w) rest h k = let r = or_parts (is_blank b) (list_any is_blank w) h in rw (r.0, words_more w rest r.1 k) refl

joined_begins : (w : List ℕ) (ws : List (List ℕ)) → begins_blank w ≡ false → 0 < length w → begins_blank (join_with_byte 32 (w ∷ ws)) ≡ false
joined_begins [] ws h k = absurd (omega arith)
joined_begins (b ∷ w) [] h k = h
joined_begins (b ∷ w) (u ∷ us) h k = h

words_joined : (z : ℤ) (zs : List ℤ) → ((y : ℤ) → y ∈ (z ∷ zs) → ReadsWhole (signed_decimal y) y) → words_of (join_with_byte 32 (map signed_decimal (z ∷ zs))) ≡ map signed_decimal (z ∷ zs)
words_joined z [] h = words_last (signed_decimal z) (h z here).unblank
words_joined z (y ∷ zs) h =
    let a = h y (there here) in
    words_more (signed_decimal z) (join_with_byte 32 (map signed_decimal (y ∷ zs))) (h z here).unblank (joined_begins (signed_decimal y) (map signed_decimal zs) a.begins a.some)
    ∙ ap (λ l. signed_decimal z ∷ l) (words_joined y zs (λ x i. h x (there i)))

wholes_back : (zs : List ℤ) → ((y : ℤ) → y ∈ zs → ReadsWhole (signed_decimal y) y) → wholes_in (map signed_decimal zs) ≡ Some zs
wholes_back [] h = refl
wholes_back (z ∷ zs) h =
    (λ i. option_and_then (λ n. option_map (λ ns. n ∷ ns) (wholes_back zs (λ y j. h y (there j)) i)) ((h z here).reads i))

-- ---- the numbers of a kept motion

at_most_million : (x k : ℕ) → k ≤ 1 → (x == k) ≡ true → x ≤ 1000000
at_most_million x k w e = let f = eqb-true x k e in omega arith

-- The three numbers of a row.
record AreShort (v : Vector) : Type 0 where
  x : unsigned_abs v.x ≤ 1000000
  y : unsigned_abs v.y ≤ 1000000
  z : unsigned_abs v.z ≤ 1000000

three_short : (v : Vector) (i j k : ℕ) → i ≤ 1 → j ≤ 1 → k ≤ 1 → (unsigned_abs v.x == i && (unsigned_abs v.y == j && unsigned_abs v.z == k)) ≡ true → AreShort v
three_short v i j k a b c p =
    let q = and_parts (unsigned_abs v.x == i) (unsigned_abs v.y == j && unsigned_abs v.z == k) p in
    let r = and_parts (unsigned_abs v.y == j) (unsigned_abs v.z == k) q.1 in
    record { x = at_most_million (unsigned_abs v.x) i a q.0; y = at_most_million (unsigned_abs v.y) j b r.0; z = at_most_million (unsigned_abs v.z) k c r.1 }

unit_short : (v : Vector) → is_unit v ≡ true → AreShort v
unit_short v h =
    elim (or_cases (unsigned_abs v.x == 1 && (unsigned_abs v.y == 0 && unsigned_abs v.z == 0))
    ((unsigned_abs v.x == 0 && (unsigned_abs v.y == 1 && unsigned_abs v.z == 0)) || (unsigned_abs v.x == 0 && (unsigned_abs v.y == 0 && unsigned_abs v.z == 1))) h) [
      | inl p ↦ three_short v 1 0 0 (omega arith) (omega arith) (omega arith) p
      | inr q ↦ elim (or_cases (unsigned_abs v.x == 0 && (unsigned_abs v.y == 1 && unsigned_abs v.z == 0)) (unsigned_abs v.x == 0 && (unsigned_abs v.y == 0 && unsigned_abs v.z == 1)) q) [
        | inl p ↦ three_short v 0 1 0 (omega arith) (omega arith) (omega arith) p
        | inr p ↦ three_short v 0 0 1 (omega arith) (omega arith) (omega arith) p
      ]
    ]

shift_short : (v : Vector) → is_short v ≡ true → AreShort v
shift_short v h =
    let q = and_parts (nat_le (unsigned_abs v.x) 1000000) (nat_le (unsigned_abs v.y) 1000000 && nat_le (unsigned_abs v.z) 1000000) h in
    let r = and_parts (nat_le (unsigned_abs v.y) 1000000) (nat_le (unsigned_abs v.z) 1000000) q.1 in
    record { x = leb-true (unsigned_abs v.x) 1000000 q.0; y = leb-true (unsigned_abs v.y) 1000000 r.0; z = leb-true (unsigned_abs v.z) 1000000 r.1 }

-- The rest of the sixteen numbers, from a row on.
abbrev row_on : Vector → ℤ → List ℤ → List ℤ
row_on v shift rest = v.x ∷ v.y ∷ v.z ∷ shift ∷ rest

row_reads : (v : Vector) (shift : ℤ) (rest : List ℤ) → AreShort v → unsigned_abs shift ≤ 1000000 → ((y : ℤ) → y ∈ rest → ReadsWhole (signed_decimal y) y) →
    (y : ℤ) → y ∈ row_on v shift rest → ReadsWhole (signed_decimal y) y
row_reads v shift rest s t h y here = whole_reads v.x s.x
row_reads v shift rest s t h y (there here) = whole_reads v.y s.y
row_reads v shift rest s t h y (there (there here)) = whole_reads v.z s.z
row_reads v shift rest s t h y (there (there (there here))) = whole_reads shift t
row_reads v shift rest s t h y (there (there (there (there i)))) = h y i

abbrev last_row : List ℤ
last_row = pos 0 ∷ pos 0 ∷ pos 0 ∷ pos 1 ∷ []

last_reads : (y : ℤ) → y ∈ last_row → ReadsWhole (signed_decimal y) y
last_reads y here = whole_reads (pos 0) (omega arith)
last_reads y (there here) = whole_reads (pos 0) (omega arith)
last_reads y (there (there here)) = whole_reads (pos 0) (omega arith)
last_reads y (there (there (there here))) = whole_reads (pos 1) (omega arith)
last_reads y (there (there (there (there i)))) = elim i [ ]

abbrev sixteen : Motion → List ℤ
sixteen r = row_on r.matrix.x r.shift.x (row_on r.matrix.y r.shift.y (row_on r.matrix.z r.shift.z last_row))

sixteen_read : (r : Motion) → is_kept_motion r ≡ true → (y : ℤ) → y ∈ sixteen r → ReadsWhole (signed_decimal y) y
sixteen_read r h =
    let a = and_parts (is_signed_permutation r.matrix) (is_short r.shift) h in
    let rows = (and_parts (is_unit r.matrix.x && (is_unit r.matrix.y && is_unit r.matrix.z)) (is_unit (transposed r.matrix).x && (is_unit (transposed r.matrix).y && is_unit (transposed r.matrix).z)) a.0).0 in
    let b = and_parts (is_unit r.matrix.x) (is_unit r.matrix.y && is_unit r.matrix.z) rows in
    let c = and_parts (is_unit r.matrix.y) (is_unit r.matrix.z) b.1 in
    let s = shift_short r.shift a.1 in
    row_reads r.matrix.x r.shift.x (row_on r.matrix.y r.shift.y (row_on r.matrix.z r.shift.z last_row)) (unit_short r.matrix.x b.0) s.x
    (row_reads r.matrix.y r.shift.y (row_on r.matrix.z r.shift.z last_row) (unit_short r.matrix.y c.0) s.y
    (row_reads r.matrix.z r.shift.z last_row (unit_short r.matrix.z c.1) s.z last_reads))

text_is : (r : Motion) → motion_text r ≡ join_with_byte 32 (map signed_decimal (sixteen r))
unfolding digits
text_is r = refl

pub motion_again : (r : Motion) → is_kept_motion r ≡ true → read_motion (motion_text r) ≡ Some r
motion_again r h =
    ap (λ t. option_and_then motion_of_numbers (wholes_in (words_of t))) (text_is r)
    ∙ ap (λ ws. option_and_then motion_of_numbers (wholes_in ws)) (words_joined r.matrix.x.x (r.matrix.x.y ∷ r.matrix.x.z ∷ r.shift.x ∷ row_on r.matrix.y r.shift.y (row_on r.matrix.z r.shift.z last_row)) (sixteen_read r h))
    ∙ ap (option_and_then motion_of_numbers) (wholes_back (sixteen r) (sixteen_read r h))
    ∙ cond-true (is_kept_motion r) (Some r) None h
