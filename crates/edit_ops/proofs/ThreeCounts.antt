-- The counts of places: number words, and counts that a motion moves.
use Rattle.std.proofs.Common.{◌≡◌, ℕ, ◌^◌, ◌<◌, ◌≤◌, List, [], ◌∷◌, Bool, true, false, cond, None, Some, ℤ, refl, ap, sym, ◌∙◌, arith, unsigned_abs, subst, get_or, pos, ◌+ℤ◌, ◌*ℤ◌, to_z, of_z, w32, w64}
use Rattle.std.proofs.lemmas.Bool.Decides.{nat_tests}
use Rattle.std.specs.Prelude.{nat_lt}
use Rattle.std.proofs.lemmas.Int.{ints}
use Rattle.std.proofs.lemmas.Bool.{lt-ltb, ltb-true, ltb-false}
use Rattle.fixed_num.specs.NumberWord.{IsNumberWord}
use Rattle.fixed_num.specs.DecimalValue.{RoundsTo}
use Rattle.fixed_num.specs.Count.{is_number_word, count_of}
use Rattle.fixed_num.proofs.Count.{words_are, only_count}
use Rattle.algebra.specs.Space.{Vector, plus, scale}
use Rattle.algebra.proofs.Identities.{vector_by}
use Rattle.exact_geom.specs.Machine.{IsWithin}
use Rattle.exact_geom.specs.Planes.{parts}
use Rattle.exact_geom.proofs.Exactly.{var}
use Rattle.orient48.specs.MotionTexts.{is_blank, begins_blank, put_front, words_of}
use Rattle.orient48.proofs.Parts.{kept, within_short}
use Rattle.orient48.proofs.Units.{turned_size}
use Rattle.orient48.specs.Motions.{Matrix, Motion, vector_at, turned, is_short, is_signed_permutation}
use Rattle.map_model.specs.Origins.{three_counts, moved_counts}
use Rattle.edit_ops.specs.Places.{small, count_in}

-- Number words. --------------------------------------------------------------------------------------------------------------------------

is_word : (w : List ℕ) (count : ℤ) → RoundsTo 6 w count → is_number_word w ≡ true
is_word w count r = (words_are w).1 (r.parts, r.has_parts)

no_word : (w : List ℕ) → (IsNumberWord w → ⊥) → is_number_word w ≡ false
no_word w never = by (is_number_word w) refl
  where
    by : (b : Bool) → is_number_word w ≡ b → is_number_word w ≡ false
    by true e = absurd (never ((words_are w).0 e))
    by false e = e

pub small_is : (count : ℤ) → unsigned_abs count < 10 ^ 12 → Some count ≡ small count
small_is count lt = sym (ap (λ b. cond b (Some count) None) (lt-ltb (unsigned_abs count) (10 ^ 12) lt))

large_test : (a n : ℕ) → n ≤ a → nat_lt a n ≡ false
large_test a n le = grind (arith, nat_tests)

pub large_is : (count : ℤ) → 10 ^ 12 ≤ unsigned_abs count → None ≡ small count
large_is count le = sym (ap (λ b. cond b (Some count) None) (large_test (unsigned_abs count) (10 ^ 12) le))

count_is : (w : List ℕ) (count : ℤ) → RoundsTo 6 w count → count_in w ≡ small count
count_is w count r = ap (λ b. cond b (small (count_of 6 w)) None) (is_word w count r) ∙ ap small (sym (only_count 6 w count r))

pub count_some : (w : List ℕ) (count : ℤ) → RoundsTo 6 w count → unsigned_abs count < 10 ^ 12 → Some count ≡ count_in w
count_some w count r lt = small_is count lt ∙ sym (count_is w count r)

pub count_large : (w : List ℕ) (count : ℤ) → RoundsTo 6 w count → 10 ^ 12 ≤ unsigned_abs count → None ≡ count_in w
count_large w count r le = large_is count le ∙ sym (count_is w count r)

pub count_none : (w : List ℕ) → (IsNumberWord w → ⊥) → None ≡ count_in w
count_none w never = sym (ap (λ b. cond b (small (count_of 6 w)) None) (no_word w never))

pub count_ok : (w : List ℕ) (count : ℤ) → RoundsTo 6 w count → (10 ^ 12 ≤ unsigned_abs count → ⊥) → Some count ≡ count_in w
count_ok w count r never = by (nat_lt (unsigned_abs count) (10 ^ 12)) refl
  where
    by : (b : Bool) → nat_lt (unsigned_abs count) (10 ^ 12) ≡ b → Some count ≡ count_in w
    by true e = count_some w count r (ltb-true (unsigned_abs count) (10 ^ 12) e)
    by false e = absurd (never (ltb-false (unsigned_abs count) (10 ^ 12) e))

-- More than three words. ------------------------------------------------------------------------------------------------------------------

module _ (x y z : List ℕ) where
  front_word : (b : ℕ) (ws : List (List ℕ)) → three_counts (x ∷ y ∷ z ∷ put_front b ws) ≡ None
  front_word b [] = refl
  front_word b (w ∷ ws) = refl

  some_front : (b : ℕ) (ws : List (List ℕ)) (c d : Bool) → three_counts (x ∷ y ∷ z ∷ ws) ≡ None → three_counts (x ∷ y ∷ z ∷ cond c (cond d ws ([] ∷ ws)) (put_front b ws)) ≡ None
  some_front b ws true true h = h
  some_front b ws true false h = refl
  some_front b ws false d h = front_word b ws

  some_word : (text : List ℕ) → three_counts (x ∷ y ∷ z ∷ words_of text) ≡ None
  some_word [] = refl
  some_word (b ∷ text) = some_front b (words_of text) (is_blank b) (begins_blank text) (some_word text)

  pub more_words : (text rest : List ℕ) → words_of text ≡ x ∷ y ∷ z ∷ words_of rest → None ≡ three_counts (words_of text)
  more_words text rest e = sym (ap three_counts e ∙ some_word rest)

-- Moved counts. -----------------------------------------------------------------------------------------------------------------------------

abbrev tz : ℤ → ℤ
tz x = to_z w64 (of_z w64 x)

at_most : (a : ℤ) → unsigned_abs a < 10 ^ 12 → unsigned_abs a ≤ 999999999999
at_most a h = omega arith

-- The list is the turned vector of counts.
pub record IsTurned (m : Matrix) (v : Vector) (l : List ℤ) : Type 0 where
  pub is : l ≡ parts (turned m v)
  pub within : IsWithin 999999999999 (turned m v)

kept_small : (a : ℤ) → unsigned_abs a < 10 ^ 12 → tz a ≡ a
kept_small a h = kept a (omega (arith, h))

pub is_turned : (m : Matrix) (a b c x y z : ℤ) (l : List ℤ) → is_signed_permutation m ≡ true → unsigned_abs a < 10 ^ 12 → unsigned_abs b < 10 ^ 12 → unsigned_abs c < 10 ^ 12 → a ≡ x → b ≡ y → c ≡ z →
    l ≡ parts (turned m (vector_at (tz a) (tz b) (tz c))) → IsTurned m (vector_at x y z) l
is_turned m a b c x y z l signed ha hb hc ea eb ec e =
    let v = vector_by (kept_small a ha ∙ ea) (kept_small b hb ∙ eb) (kept_small c hc ∙ ec) in
    record {
      is = e ∙ ap (λ u. parts (turned m u)) v;
      within = turned_size m (vector_at x y z) 999999999999 signed (record {
        x = subst (λ k. unsigned_abs k ≤ 999999999999) ea (at_most a ha);
        y = subst (λ k. unsigned_abs k ≤ 999999999999) eb (at_most b hb);
        z = subst (λ k. unsigned_abs k ≤ 999999999999) ec (at_most c hc);
      });
    }

near : (a t : ℤ) → a ≡ t → unsigned_abs t ≤ 999999999999 → unsigned_abs (tz a) < 10 ^ 12
near a t e h =
    let small : unsigned_abs t < 10 ^ 12 = omega (arith, h) in
    subst (λ k. unsigned_abs k < 10 ^ 12) (sym (ap tz e ∙ kept_small t small)) small

pub near_x : (m : Matrix) (v : Vector) (l : List ℤ) → IsTurned m v l → unsigned_abs (tz (get_or l 0 (pos 0))) < 10 ^ 12
near_x m v l t = near (get_or l 0 (pos 0)) (turned m v).x (ap (λ k. get_or k 0 (pos 0)) t.is) t.within.x

pub near_y : (m : Matrix) (v : Vector) (l : List ℤ) → IsTurned m v l → unsigned_abs (tz (get_or l 1 (pos 0))) < 10 ^ 12
near_y m v l t = near (get_or l 1 (pos 0)) (turned m v).y (ap (λ k. get_or k 1 (pos 0)) t.is) t.within.y

pub near_z : (m : Matrix) (v : Vector) (l : List ℤ) → IsTurned m v l → unsigned_abs (tz (get_or l 2 (pos 0))) < 10 ^ 12
near_z m v l t = near (get_or l 2 (pos 0)) (turned m v).z (ap (λ k. get_or k 2 (pos 0)) t.is) t.within.z

-- A coordinate of a shift.
short_at : (a h : ℤ) → a ≡ h → unsigned_abs h ≤ 1000000 → to_z w32 (of_z w32 a) ≡ h
short_at a h e s = ap (λ k. to_z w32 (of_z w32 k)) e ∙ (var w32 h s tt).is

pub short_coordinate : (a h : ℤ) → a ≡ h → unsigned_abs h ≤ 1000000 → unsigned_abs (to_z w32 (of_z w32 a)) ≤ 1000000
short_coordinate a h e s = subst (λ k. unsigned_abs k ≤ 1000000) (sym (short_at a h e s)) s

sum_small : (t h : ℤ) → unsigned_abs t ≤ 999999999999 → unsigned_abs h ≤ 1000000 → unsigned_abs (t +ℤ pos 1000000 *ℤ h) < 2 ^ 63
sum_small t h a b = omega (arith, ints)

coordinate : (a t h l k : ℤ) → a ≡ tz l +ℤ pos 1000000 *ℤ to_z w32 (of_z w32 k) → l ≡ t → k ≡ h → unsigned_abs t ≤ 999999999999 → unsigned_abs h ≤ 1000000 → tz a ≡ t +ℤ pos 1000000 *ℤ h
coordinate a t h l k e el ek ht hh =
    let is : a ≡ t +ℤ pos 1000000 *ℤ h = e ∙ (λ i. (ap tz el ∙ kept_small t (omega (arith, ht))) i +ℤ pos 1000000 *ℤ short_at k h ek hh i) in
    ap tz is ∙ kept (t +ℤ pos 1000000 *ℤ h) (sum_small t h ht hh)

-- Three shifted counts are the moved ones.
pub moved_are : (r : Motion) (v : Vector) (l s : List ℤ) (a b c : ℤ) → IsTurned r.matrix v l → s ≡ parts r.shift → is_short r.shift ≡ true →
    a ≡ tz (get_or l 0 (pos 0)) +ℤ pos 1000000 *ℤ to_z w32 (of_z w32 (get_or s 0 (pos 0))) → b ≡ tz (get_or l 1 (pos 0)) +ℤ pos 1000000 *ℤ to_z w32 (of_z w32 (get_or s 1 (pos 0))) →
    c ≡ tz (get_or l 2 (pos 0)) +ℤ pos 1000000 *ℤ to_z w32 (of_z w32 (get_or s 2 (pos 0))) → vector_at (tz a) (tz b) (tz c) ≡ moved_counts r v
unfolding plus scale
moved_are r v l s a b c t es short ea eb ec =
    let w = within_short r.shift short in
    let u = turned r.matrix v in
    vector_by
    (coordinate a u.x r.shift.x (get_or l 0 (pos 0)) (get_or s 0 (pos 0)) ea (ap (λ k. get_or k 0 (pos 0)) t.is) (ap (λ k. get_or k 0 (pos 0)) es) t.within.x w.x)
    (coordinate b u.y r.shift.y (get_or l 1 (pos 0)) (get_or s 1 (pos 0)) eb (ap (λ k. get_or k 1 (pos 0)) t.is) (ap (λ k. get_or k 1 (pos 0)) es) t.within.y w.y)
    (coordinate c u.z r.shift.z (get_or l 2 (pos 0)) (get_or s 2 (pos 0)) ec (ap (λ k. get_or k 2 (pos 0)) t.is) (ap (λ k. get_or k 2 (pos 0)) es) t.within.z w.z)
