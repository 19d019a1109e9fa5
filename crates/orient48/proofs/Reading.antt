-- The numbers of a motion's text.
use Rattle.std.proofs.Common.{◌≡◌, ℕ, suc, ◌+◌, ◌-◌, ◌<◌, Bool, true, false, cond, List, [], ◌∷◌, ◌++◌, take, length, Option, Some, None, refl, sym, ap, ◌∙◌, arith, ℤ}
use Rattle.std.specs.Prelude.{option_map, option_and_then}
use Rattle.std.proofs.lemmas.List.{take_more_set, take_all}
use Rattle.std.proofs.Math.ListN.{set}
use Rattle.orient48.specs.MotionTexts.{words_of, put_front, is_blank, begins_blank}
use Rattle.orient48.specs.Reading.{small_in, first_numbers}

pub app_assoc : {A : Type 0} (p q r : List A) → (p ++ q) ++ r ≡ p ++ (q ++ r)
app_assoc [] q r = refl
app_assoc (x ∷ p) q r = ap (λ l. x ∷ l) (app_assoc p q r)

app_nil : {A : Type 0} (p : List A) → p ++ [] ≡ p
app_nil [] = refl
app_nil (x ∷ p) = ap (λ l. x ∷ l) (app_nil p)

-- The first `count` of sixteen numbers are read, and these words are left.
pub record ReadSoFar (text : List ℕ) (numbers : List ℤ) (count : ℕ) (left : List (List ℕ)) : Type 0 where
  pub is : first_numbers 16 (words_of text) ≡ option_map (λ ns. take count numbers ++ ns) (first_numbers (16 - count) left)

none_yet : (o : Option (List ℤ)) → o ≡ option_map (λ ns. ns) o
none_yet None = refl
none_yet (Some ns) = refl

pub read_none : (text : List ℕ) (numbers : List ℤ) → ReadSoFar text numbers 0 (words_of text)
read_none text numbers = record { is = none_yet (first_numbers 16 (words_of text)) }

-- one number more
step_left : (n : ℕ) (word : List ℕ) (left : List (List ℕ)) (x : ℤ) → small_in word ≡ Some x → first_numbers (suc n) (word ∷ left) ≡ option_map (λ ns. x ∷ ns) (first_numbers n left)
step_left n word left x e = ap (option_and_then (λ y. option_map (λ ns. y ∷ ns) (first_numbers n left))) e

step_none : (n : ℕ) (word : List ℕ) (left : List (List ℕ)) → small_in word ≡ None → first_numbers (suc n) (word ∷ left) ≡ None
step_none n word left e = ap (option_and_then (λ y. option_map (λ ns. y ∷ ns) (first_numbers n left))) e

one_longer : (p q : List ℤ) (x : ℤ) (o : Option (List ℤ)) → q ≡ p ++ x ∷ [] → option_map (λ ns. p ++ ns) (option_map (λ ns. x ∷ ns) o) ≡ option_map (λ ns. q ++ ns) o
one_longer p q x None e = refl
one_longer p q x (Some ns) e = ap Some (sym (ap (λ l. l ++ ns) e ∙ app_assoc p (x ∷ []) ns))

sixteen_left : (count : ℕ) → count < 16 → 16 - count ≡ suc (16 - (count + 1))
sixteen_left count l = omega arith

pub read_more : (text : List ℕ) (numbers : List ℤ) (count : ℕ) (word : List ℕ) (words left : List (List ℕ)) (x : ℤ) → count < 16 → length numbers ≡ 16 →
    words ≡ word ∷ left → small_in word ≡ Some x → ReadSoFar text numbers count words → ReadSoFar text (set numbers count x) (count + 1) left
read_more text numbers count word words left x l len w e r = record {
  is = r.is ∙ ap (option_map (λ ns. take count numbers ++ ns))
      (ap (first_numbers (16 - count)) w ∙ ap (λ n. first_numbers n (word ∷ left)) (sixteen_left count l) ∙ step_left (16 - (count + 1)) word left x e)
      ∙ one_longer (take count numbers) (take (count + 1) (set numbers count x)) x (first_numbers (16 - (count + 1)) left) (take_more_set numbers count x (omega (arith, len)));
}

-- a word that is no such number, and no word where one is wanted
pub stops_at_word : (text : List ℕ) (numbers : List ℤ) (count : ℕ) (word : List ℕ) (words left : List (List ℕ)) → count < 16 →
    words ≡ word ∷ left → small_in word ≡ None → ReadSoFar text numbers count words → first_numbers 16 (words_of text) ≡ None
stops_at_word text numbers count word words left l w e r =
    r.is ∙ ap (option_map (λ ns. take count numbers ++ ns))
    (ap (first_numbers (16 - count)) w ∙ ap (λ n. first_numbers n (word ∷ left)) (sixteen_left count l) ∙ step_none (16 - (count + 1)) word left e)

pub stops_at_end : (text : List ℕ) (numbers : List ℤ) (count : ℕ) → count < 16 → ReadSoFar text numbers count [] → first_numbers 16 (words_of text) ≡ None
stops_at_end text numbers count l r =
    r.is ∙ ap (option_map (λ ns. take count numbers ++ ns)) (ap (λ n. first_numbers n []) (sixteen_left count l))

-- sixteen are read
pub read_all : (text : List ℕ) (numbers : List ℤ) (count : ℕ) → count ≡ 16 → length numbers ≡ 16 → ReadSoFar text numbers count [] → first_numbers 16 (words_of text) ≡ Some numbers
read_all text numbers count c len r =
    r.is ∙ ap (λ n. option_map (λ ns. take n numbers ++ ns) (first_numbers (16 - n) [])) c
    ∙ ap Some (app_nil (take 16 numbers) ∙ take_all 16 numbers (omega (arith, len)))

front_word : (b : ℕ) (ws : List (List ℕ)) → first_numbers 0 (put_front b ws) ≡ None
front_word b [] = refl
front_word b (w ∷ ws) = refl

some_front : (b : ℕ) (ws : List (List ℕ)) (c d : Bool) → first_numbers 0 ws ≡ None → first_numbers 0 (cond c (cond d ws ([] ∷ ws)) (put_front b ws)) ≡ None
some_front b ws true true h = h
some_front b ws true false h = refl
some_front b ws false d h = front_word b ws

some_word : (text : List ℕ) → first_numbers 0 (words_of text) ≡ None
some_word [] = refl
some_word (b ∷ text) = some_front b (words_of text) (is_blank b) (begins_blank text) (some_word text)

pub more_left : (text rest : List ℕ) (numbers : List ℤ) (count : ℕ) → count ≡ 16 → ReadSoFar text numbers count (words_of rest) → first_numbers 16 (words_of text) ≡ None
more_left text rest numbers count c r =
    r.is ∙ ap (λ n. option_map (λ ns. take n numbers ++ ns) (first_numbers (16 - n) (words_of rest))) c
    ∙ ap (option_map (λ ns. take 16 numbers ++ ns)) (some_word rest)
