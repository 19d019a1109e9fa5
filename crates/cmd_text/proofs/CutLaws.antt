-- A line has one cut at most, and it is the one that is computed.
use Rattle.std.proofs.Common.{◌≡◌, ◌↔◌, ℕ, zero, suc, ◌+◌, ◌<◌, ◌≤◌, inl, inr, Bool, true, false, not, ◌&&◌, ◌||◌, cond, nat_lt, List, [], ◌∷◌, ◌++◌, length, take, drop, Option, Some, None, position, refl, sym, ap, ◌∙◌, subst, append_assoc, length-append, length-take-le, add-one, arith}
use Rattle.std.proofs.Math.Seq.{take-append_seam, drop-append_seam}
use Rattle.std.proofs.lemmas.List.{drop_at, take-append-drop}
use Rattle.std.proofs.lemmas.Bool.Decides.{nat_tests}
use Rattle.std.specs.List.{position_or_len, list_any, list_all}
use Rattle.std.proofs.lemmas.Bool.{and_parts}
use Rattle.cmd_text.specs.Cut.{is_blank, is_quote, is_stray, stands_apart, is_plain, IsFirst, IsWords, IsCut}
use Rattle.cmd_text.specs.Pieces.{WordsLeft, put_first, behind_blanks, Begin, Ends, Stops, Begins, begins_apart, quoted_at, plain_at, begin_of, words_by, words_left, cut_of}
use Rattle.cmd_text.proofs.Lefts.{left_by, blanks-cons, BeginsFull, no_blank_first, full_word}

-- blanks before a text are passed
blanks_passed : (blanks text : List ℕ) → list_all is_blank blanks ≡ true → behind_blanks (blanks ++ text) ≡ behind_blanks text
blanks_passed [] text all = refl
blanks_passed (b ∷ blanks) text all =
    let parts = and_parts (is_blank b) (list_all is_blank blanks) all in
    blanks-cons b (blanks ++ text) true parts.0 ∙ blanks_passed blanks text parts.1

-- and a text is blanks and what stands behind them
pub record Split (text : List ℕ) : Type 0 where
  pub blanks : List ℕ
  pub are_blanks : list_all is_blank blanks ≡ true
  pub whole : text ≡ blanks ++ behind_blanks text

split_more : (b : ℕ) (text : List ℕ) → Split text → (t : Bool) → is_blank b ≡ t → Split (b ∷ text)
split_more b text later true e = record {
  blanks = b ∷ later.blanks;
  are_blanks = ap (λ s. s && list_all is_blank later.blanks) e ∙ later.are_blanks;
  whole = ap (λ l. b ∷ l) later.whole ∙ ap (λ l. b ∷ (later.blanks ++ l)) (sym (blanks-cons b text true e));
}
split_more b text later false e = record { blanks = []; are_blanks = refl; whole = sym (blanks-cons b text false e) }

split : (text : List ℕ) → Split text
split [] = record { blanks = []; are_blanks = refl; whole = refl }
split (b ∷ text) = split_more b text (split text) (is_blank b) refl

-- a text that is all blanks has nothing behind them, and the other way round
nothing_behind : (text : List ℕ) → list_all is_blank text ≡ true → behind_blanks text ≡ []
nothing_behind [] all = refl
nothing_behind (b ∷ text) all =
    let parts = and_parts (is_blank b) (list_all is_blank text) all in blanks-cons b text true parts.0 ∙ nothing_behind text parts.1

append_nothing : (xs : List ℕ) → xs ++ [] ≡ xs
append_nothing [] = refl
append_nothing (x ∷ xs) = ap (λ l. x ∷ l) (append_nothing xs)

all_blank : (text : List ℕ) → behind_blanks text ≡ [] → list_all is_blank text ≡ true
all_blank text e =
    let s = split text in
    let whole : text ≡ s.blanks = s.whole ∙ ap (λ l. s.blanks ++ l) e ∙ append_nothing s.blanks in
    ap (list_all is_blank) whole ∙ s.are_blanks

one_more : (n : ℕ) → 1 + n ≡ suc n
one_more n = omega arith

-- the front of a word and what stands apart from it
pub plain_byte : (b : ℕ) (word : List ℕ) → list_all (λ b. not (is_blank b || is_quote b)) (b ∷ word) ≡ true → (is_blank b ≡ false) × (is_quote b ≡ false) × (list_all (λ b. not (is_blank b || is_quote b)) word ≡ true)
plain_byte b word all = by (is_blank b) (is_quote b) all
  where
    by : (s t : Bool) → (not (s || t) && list_all (λ b. not (is_blank b || is_quote b)) word) ≡ true → (s ≡ false) × (t ≡ false) × (list_all (λ b. not (is_blank b || is_quote b)) word ≡ true)
    by true t e = absurd (cc)
    by false true e = absurd (cc)
    by false false e = (refl, refl, e)

len-cons : (b : ℕ) (text : List ℕ) (t : Bool) → is_blank b ≡ t → position_or_len is_blank (b ∷ text) ≡ cond (not t) (1 + position_or_len is_blank text) 0
len-cons b text t e = ap (λ s. cond (not s) (1 + position_or_len is_blank text) 0) e

plain_len : (word rest : List ℕ) → list_all (λ b. not (is_blank b || is_quote b)) word ≡ true → stands_apart rest ≡ true → position_or_len is_blank (word ++ rest) ≡ length word
plain_len [] [] all apart = refl
plain_len [] (b ∷ rest) all apart = len-cons b rest true apart
plain_len (b ∷ word) rest all apart =
    let parts = plain_byte b word all in len-cons b (word ++ rest) false parts.0 ∙ ap (λ n. 1 + n) (plain_len word rest parts.2 apart) ∙ one_more (length word)

no_quote : (word : List ℕ) → list_all (λ b. not (is_blank b || is_quote b)) word ≡ true → list_any is_quote word ≡ false
no_quote [] all = refl
no_quote (b ∷ word) all = let parts = plain_byte b word all in ap (λ t. t || list_any is_quote word) parts.1 ∙ no_quote word parts.2

take_front : (word rest : List ℕ) → take (length word) (word ++ rest) ≡ word
take_front word rest = take-append_seam word rest

drop_front : (word rest : List ℕ) → drop (length word) (word ++ rest) ≡ rest
drop_front word rest = drop-append_seam word rest

-- the place of the quote that ends a quoted word
quote_at : (word rest : List ℕ) → list_all (λ b. not (is_quote b)) word ≡ true → position_or_len is_quote (word ++ 34 ∷ rest) ≡ length word
quote_at [] rest all = refl
quote_at (b ∷ word) rest all = by (is_quote b) refl all (λ more. quote_at word rest more)
  where
    by : (t : Bool) → is_quote b ≡ t → (not t && list_all (λ b. not (is_quote b)) word) ≡ true
        → (list_all (λ b. not (is_quote b)) word ≡ true → position_or_len is_quote (word ++ 34 ∷ rest) ≡ length word)
        → position_or_len is_quote ((b ∷ word) ++ 34 ∷ rest) ≡ length (b ∷ word)
    by true e more later = absurd (cc)
    by false e more later = ap (λ s. cond (not s) (1 + position_or_len is_quote (word ++ 34 ∷ rest)) 0) e ∙ ap (λ n. 1 + n) (later more) ∙ one_more (length word)

position_by : (text : List ℕ) (n : ℕ) → position_or_len is_quote text ≡ n → n < length text → position is_quote text ≡ Some n
position_by text n e h =
    let k : nat_lt (position_or_len is_quote text) (length text) ≡ true = grind (arith, nat_tests) in
    ap (λ t. cond t (Some (position_or_len is_quote text)) None) k ∙ ap Some e

-- a first word begins its line
begin_plain : (word rest : List ℕ) → is_plain word ≡ true → stands_apart rest ≡ true → begin_of (word ++ rest) ≡ Begins word rest
begin_plain [] rest plain apart = absurd (cc)
begin_plain (b ∷ word) rest plain apart =
    let parts = plain_byte b word plain in
    let len : position_or_len is_blank ((b ∷ word) ++ rest) ≡ length (b ∷ word) = plain_len (b ∷ word) rest plain apart in
    ap (λ t. cond t (quoted_at (word ++ rest) (position is_quote (word ++ rest))) (plain_at ((b ∷ word) ++ rest) (position_or_len is_blank ((b ∷ word) ++ rest)))) parts.1
    ∙ ap (plain_at ((b ∷ word) ++ rest)) len
    ∙ ap (λ t. cond (list_any is_quote t) Stops (Begins t (drop (length (b ∷ word)) ((b ∷ word) ++ rest)))) (take_front (b ∷ word) rest)
    ∙ ap (λ t. cond t Stops (Begins (b ∷ word) (drop (length (b ∷ word)) ((b ∷ word) ++ rest)))) (no_quote (b ∷ word) plain)
    ∙ ap (Begins (b ∷ word)) (drop_front (b ∷ word) rest)

begin_quoted : (word rest : List ℕ) → list_all (λ b. not (is_quote b)) word ≡ true → stands_apart rest ≡ true → begin_of ((34 ∷ (word ++ 34 ∷ [])) ++ rest) ≡ Begins word rest
begin_quoted word rest all apart =
    let text = word ++ 34 ∷ rest in
    let place : position is_quote text ≡ Some (length word) = position_by text (length word) (quote_at word rest all) (omega (arith, length-append word (34 ∷ rest))) in
    let behind : drop (length word + 1) text ≡ rest = ap (λ t. drop (length word + 1) t) (sym (append_assoc word (34 ∷ []) rest)) ∙ drop_at (word ++ 34 ∷ []) rest (length word + 1) (length-append word (34 ∷ [])) in
    ap (λ t. begin_of (34 ∷ t)) (append_assoc word (34 ∷ []) rest)
    ∙ ap (quoted_at text) place
    ∙ (λ i. begins_apart (take_front word (34 ∷ rest) i) (behind i))
    ∙ ap (λ t. cond t (Begins word rest) Stops) apart

full_passed : (text : List ℕ) → BeginsFull text → behind_blanks text ≡ text
unfolding BeginsFull
full_passed [] full = refl
full_passed (b ∷ text) full = blanks-cons b text false full

pub first_begins : (line word rest : List ℕ) → IsFirst line word rest → begin_of (behind_blanks line) ≡ Begins word rest
first_begins line word rest f =
    let passed : behind_blanks line ≡ behind_blanks (f.bytes ++ rest) = ap behind_blanks f.whole ∙ blanks_passed f.blanks (f.bytes ++ rest) f.are_blanks in
    ap begin_of passed ∙ elim f.spells [
      | inl plain ↦ ap (λ t. begin_of (behind_blanks (t ++ rest))) plain.0 ∙ of_plain word plain.1
      | inr quoted ↦ ap (λ t. begin_of (behind_blanks (t ++ rest))) quoted.0 ∙ begin_quoted word rest quoted.1 f.apart
    ]
  where
    of_plain : (word : List ℕ) → is_plain word ≡ true → begin_of (behind_blanks (word ++ rest)) ≡ Begins word rest
    of_plain [] plain = absurd (cc)
    of_plain (b ∷ word) plain = ap begin_of (blanks-cons b (word ++ rest) false (plain_byte b word plain).0) ∙ begin_plain (b ∷ word) rest plain f.apart

quote_is : (b : ℕ) → is_quote b ≡ true → b ≡ 34
quote_is b q = grind (arith, nat_tests, q)

-- the other way round: what is computed is a first word
quote_split : (text : List ℕ) (n : ℕ) → position_or_len is_quote text ≡ n → n < length text → (text ≡ take n text ++ 34 ∷ drop (n + 1) text) × (list_all (λ b. not (is_quote b)) (take n text) ≡ true)
quote_split [] n e h = absurd (omega (arith, h))
quote_split (b ∷ text) n e h = by (is_quote b) refl n e h (quote_split text)
  where
    Parts : List ℕ → ℕ → Type 0
    Parts t m = (t ≡ take m t ++ 34 ∷ drop (m + 1) t) × (list_all (λ b. not (is_quote b)) (take m t) ≡ true)

    by : (t : Bool) → is_quote b ≡ t → (n : ℕ) → position_or_len is_quote (b ∷ text) ≡ n → n < length (b ∷ text)
        → ((m : ℕ) → position_or_len is_quote text ≡ m → m < length text → (text ≡ take m text ++ 34 ∷ drop (m + 1) text) × (list_all (λ b. not (is_quote b)) (take m text) ≡ true))
        → (b ∷ text ≡ take n (b ∷ text) ++ 34 ∷ drop (n + 1) (b ∷ text)) × (list_all (λ b. not (is_quote b)) (take n (b ∷ text)) ≡ true)
    by true q zero e h later = (ap (λ c. c ∷ text) (quote_is b q), refl)
    by true q (suc n) e h later = let k : 0 ≡ suc n = sym (ap (λ s. cond (not s) (1 + position_or_len is_quote text) 0) q) ∙ e in absurd (omega arith)
    by false q zero e h later = let k : 1 + position_or_len is_quote text ≡ 0 = sym (ap (λ s. cond (not s) (1 + position_or_len is_quote text) 0) q) ∙ e in absurd (omega arith)
    by false q (suc n) e h later =
        let k : 1 + position_or_len is_quote text ≡ suc n = sym (ap (λ s. cond (not s) (1 + position_or_len is_quote text) 0) q) ∙ e in
        let parts = later n (omega arith) (omega (arith, h)) in
        (rw add-one (ap (λ l. b ∷ l) (rw add-one at parts.0)), ap (λ s. not s && list_all (λ b. not (is_quote b)) (take n text)) q ∙ parts.1)

apart_is : (w r word rest : List ℕ) → begins_apart w r ≡ Begins word rest → (w ≡ word) × (r ≡ rest) × (stands_apart r ≡ true)
apart_is w r word rest e = by (stands_apart r) refl e
  where
    by : (t : Bool) → stands_apart r ≡ t → cond t (Begins w r) Stops ≡ Begins word rest → (w ≡ word) × (r ≡ rest) × (stands_apart r ≡ true)
    by true a e = (cc, cc, a)
    by false a e = absurd (cc)

quoted_is : (text word rest : List ℕ) → quoted_at text (position is_quote text) ≡ Begins word rest → (text ≡ word ++ 34 ∷ rest) × (list_all (λ b. not (is_quote b)) word ≡ true) × (stands_apart rest ≡ true)
quoted_is text word rest e = by (nat_lt (position_or_len is_quote text) (length text)) refl e
  where
    by : (t : Bool) → nat_lt (position_or_len is_quote text) (length text) ≡ t → quoted_at text (cond t (Some (position_or_len is_quote text)) None) ≡ Begins word rest
        → (text ≡ word ++ 34 ∷ rest) × (list_all (λ b. not (is_quote b)) word ≡ true) × (stands_apart rest ≡ true)
    by true h e =
        let end = position_or_len is_quote text in
        let cut = quote_split text end refl (grind (arith, nat_tests, h)) in
        let apart = apart_is (take end text) (drop (end + 1) text) word rest e in (
          cut.0 ∙ (λ i. apart.0 i ++ 34 ∷ apart.1 i),
          subst (λ w. list_all (λ b. not (is_quote b)) w ≡ true) apart.0 cut.1,
          subst (λ r. stands_apart r ≡ true) apart.1 apart.2,
        )
    by false h e = absurd (cc)

-- the bytes before the first blank, where no quote is among them
pub record PlainFront (text : List ℕ) (end : ℕ) : Type 0 where
  pub within : end ≤ length text
  pub all_plain : list_any is_quote (take end text) ≡ false → list_all (λ b. not (is_blank b || is_quote b)) (take end text) ≡ true
  pub apart : stands_apart (drop end text) ≡ true

plain_front_more : (b : ℕ) (text : List ℕ) → PlainFront text (position_or_len is_blank text) → (t : Bool) → is_blank b ≡ t → PlainFront (b ∷ text) (cond (not t) (suc (position_or_len is_blank text)) 0)
plain_front_more b text later true e = record { within = omega arith; all_plain = λ none. refl; apart = e }
plain_front_more b text later false e = record {
  within = omega (arith, later.within);
  all_plain = λ none. by (is_quote b) refl none;
  apart = later.apart;
}
  where
    end : ℕ
    end = position_or_len is_blank text

    by : (t : Bool) → is_quote b ≡ t → (t || list_any is_quote (take (position_or_len is_blank text) text)) ≡ false
        → list_all (λ b. not (is_blank b || is_quote b)) (b ∷ take (position_or_len is_blank text) text) ≡ true
    by true q none = absurd (cc)
    by false q none =
        (λ i. not (e i || q i) && list_all (λ b. not (is_blank b || is_quote b)) (take (position_or_len is_blank text) text)) ∙ later.all_plain none

plain_front : (text : List ℕ) → PlainFront text (position_or_len is_blank text)
plain_front [] = record { within = omega arith; all_plain = λ none. refl; apart = refl }
plain_front (b ∷ text) =
    subst (λ n. PlainFront (b ∷ text) (cond (not (is_blank b)) n 0)) (sym (one_more (position_or_len is_blank text)))
    (plain_front_more b text (plain_front text) (is_blank b) refl)

plain_from : (word : List ℕ) → 0 < length word → list_all (λ b. not (is_blank b || is_quote b)) word ≡ true → is_plain word ≡ true
plain_from [] some all = absurd (omega (arith, some))
plain_from (b ∷ word) some all = all

plain_is : (text word rest : List ℕ) → 0 < position_or_len is_blank text → plain_at text (position_or_len is_blank text) ≡ Begins word rest → (text ≡ word ++ rest) × (is_plain word ≡ true) × (stands_apart rest ≡ true)
plain_is text word rest full e = by (list_any is_quote (take (position_or_len is_blank text) text)) refl e
  where
    by : (t : Bool) → list_any is_quote (take (position_or_len is_blank text) text) ≡ t
        → cond t Stops (Begins (take (position_or_len is_blank text) text) (drop (position_or_len is_blank text) text)) ≡ Begins word rest
        → (text ≡ word ++ rest) × (is_plain word ≡ true) × (stands_apart rest ≡ true)
    by true q e = absurd (cc)
    by false q e =
        let end = position_or_len is_blank text in
        let front = plain_front text in
        let w : take end text ≡ word = cc in
        let r : drop end text ≡ rest = cc in
        let some : 0 < length (take end text) = omega (arith, length-take-le end text front.within, full) in (
          sym (take-append-drop end text) ∙ (λ i. w i ++ r i),
          subst (λ x. is_plain x ≡ true) w (plain_from (take end text) some (front.all_plain q)),
          subst (λ x. stands_apart x ≡ true) r front.apart,
        )

of_front : (line blanks front word rest : List ℕ) → list_all is_blank blanks ≡ true → line ≡ blanks ++ front → BeginsFull front → begin_of front ≡ Begins word rest → IsFirst line word rest
unfolding BeginsFull
of_front line blanks [] word rest all whole full e = absurd (cc)
of_front line blanks (b ∷ text) word rest all whole full e = by (is_quote b) refl e
  where
    by : (t : Bool) → is_quote b ≡ t → cond t (quoted_at text (position is_quote text)) (plain_at (b ∷ text) (position_or_len is_blank (b ∷ text))) ≡ Begins word rest → IsFirst line word rest
    by true q e =
        let parts = quoted_is text word rest e in
        record {
          blanks = blanks;
          bytes = 34 ∷ (word ++ 34 ∷ []);
          whole = whole ∙ ap (λ l. blanks ++ l) ((λ i. quote_is b q i ∷ parts.0 i) ∙ ap (λ l. 34 ∷ l) (sym (append_assoc word (34 ∷ []) rest)));
          are_blanks = all;
          spells = inr (refl, parts.1);
          apart = parts.2;
        }
    by false q e =
        let parts = plain_is (b ∷ text) word rest (full_word b text full) e in
        record {
          blanks = blanks;
          bytes = word;
          whole = whole ∙ ap (λ l. blanks ++ l) parts.0;
          are_blanks = all;
          spells = inl (refl, parts.1);
          apart = parts.2;
        }

begins_first : (line word rest : List ℕ) → begin_of (behind_blanks line) ≡ Begins word rest → IsFirst line word rest
begins_first line word rest e = let s = split line in of_front line s.blanks (behind_blanks line) word rest s.are_blanks s.whole (no_blank_first line) e

never_ends : (b : ℕ) (text : List ℕ) → begin_of (b ∷ text) ≡ Ends → ⊥
never_ends b text e = by (is_quote b) e
  where
    apart : (w r : List ℕ) (t : Bool) → cond t (Begins w r) Stops ≡ Ends → ⊥
    apart w r true e = cc
    apart w r false e = cc

    quoted : (place : Option ℕ) → quoted_at text place ≡ Ends → ⊥
    quoted None e = cc
    quoted (Some end) e = apart (take end text) (drop (end + 1) text) (stands_apart (drop (end + 1) text)) e

    plain : (w r : List ℕ) (t : Bool) → cond t Stops (Begins w r) ≡ Ends → ⊥
    plain w r true e = cc
    plain w r false e = cc

    by : (t : Bool) → cond t (quoted_at text (position is_quote text)) (plain_at (b ∷ text) (position_or_len is_blank (b ∷ text))) ≡ Ends → ⊥
    by true e = quoted (position is_quote text) e
    by false e =
        let end = position_or_len is_blank (b ∷ text) in
        plain (take end (b ∷ text)) (drop end (b ∷ text)) (list_any is_quote (take end (b ∷ text))) e

ends_empty : (front : List ℕ) → begin_of front ≡ Ends → front ≡ []
ends_empty [] e = refl
ends_empty (b ∷ text) e = absurd (never_ends b text e)

abbrev all_of : List (List ℕ) → WordsLeft
all_of words = record { list = words; whole = true }

pub words_are : (words : List (List ℕ)) (line : List ℕ) → IsWords line words → words_left line ≡ all_of words
words_are [] line all = left_by line ∙ ap (λ t. words_by words_left (begin_of t)) (nothing_behind line all)
words_are (word ∷ words) line first =
    left_by line ∙ ap (words_by words_left) (first_begins line word first.0 first.1) ∙ ap (put_first word) (words_are words first.0 first.2)

no_words : (line : List ℕ) (begin : Begin) → begin_of (behind_blanks line) ≡ begin → words_by words_left begin ≡ all_of [] → list_all is_blank line ≡ true
no_words line Ends b e = all_blank line (ends_empty (behind_blanks line) b)
no_words line Stops b e = let k : false ≡ true = ap (λ (w : WordsLeft). w.whole) e in absurd (cc)
no_words line (Begins word rest) b e = let k : word ∷ (words_left rest).list ≡ [] = ap (λ (w : WordsLeft). w.list) e in absurd (cc)

more_words : (line word : List ℕ) (words : List (List ℕ)) (begin : Begin) → begin_of (behind_blanks line) ≡ begin → words_by words_left begin ≡ all_of (word ∷ words)
    → ((rest : List ℕ) → words_left rest ≡ all_of words → IsWords rest words) → IsWords line (word ∷ words)
more_words line word words Ends b e later = let k : [] ≡ word ∷ words = ap (λ (w : WordsLeft). w.list) e in absurd (cc)
more_words line word words Stops b e later = let k : [] ≡ word ∷ words = ap (λ (w : WordsLeft). w.list) e in absurd (cc)
more_words line word words (Begins other rest) b e later =
    let k : other ∷ (words_left rest).list ≡ word ∷ words = ap (λ (w : WordsLeft). w.list) e in
    let same : other ≡ word = cc in
    let list : (words_left rest).list ≡ words = cc in
    let whole : (words_left rest).whole ≡ true = ap (λ (w : WordsLeft). w.whole) e in
    (rest, begins_first line word rest (b ∙ ap (λ w. Begins w rest) same), later rest (λ i. record { list = list i; whole = whole i }))

pub are_words : (words : List (List ℕ)) (line : List ℕ) → words_left line ≡ all_of words → IsWords line words
are_words [] line e = no_words line (begin_of (behind_blanks line)) refl (sym (left_by line) ∙ e)
are_words (word ∷ words) line e = more_words line word words (begin_of (behind_blanks line)) refl (sym (left_by line) ∙ e) (are_words words)

pub cut_law : (line : List ℕ) (words : List (List ℕ)) → (cut_of line ≡ Some words) ↔ IsCut line words
unfolding cut_of
cut_law line words = (λ e. from (list_any is_stray line) refl (words_left line).whole refl e, back)
  where
    from : (s : Bool) → list_any is_stray line ≡ s → (t : Bool) → (words_left line).whole ≡ t → cond s None (cond t (Some (words_left line).list) None) ≡ Some words → IsCut line words
    from true clean t whole e = absurd (cc)
    from false clean false whole e = absurd (cc)
    from false clean true whole e =
        let list : (words_left line).list ≡ words = cc in
        record { clean = ap not clean; is_words = are_words words line (λ i. record { list = list i; whole = whole i }) }

    not_true : (s : Bool) → not s ≡ true → s ≡ false
    not_true true e = absurd (cc)
    not_true false e = refl

    back : IsCut line words → cond (list_any is_stray line) None (cond (words_left line).whole (Some (words_left line).list) None) ≡ Some words
    back cut =
        let all : words_left line ≡ all_of words = words_are words line cut.is_words in
        ap (λ s. cond s None (cond (words_left line).whole (Some (words_left line).list) None)) (not_true (list_any is_stray line) cut.clean)
        ∙ ap (λ (w : WordsLeft). cond w.whole (Some w.list) None) all
