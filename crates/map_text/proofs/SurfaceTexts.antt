-- Surface numbers that are read.
use Rattle.std.proofs.Common.{◌≡◌, ◌≢◌, ℕ, ◌^◌, ◌&&◌, ◌||◌, Bool, true, false, not, T, int_le, List, [], ◌∷◌, slice_get, None, Some, Result, Ok, Err, ℤ, pos, negsuc, ◌*ℤ◌, ap, sym, subst, ◌∙◌, refl}
use Rattle.std.proofs.lemmas.Bool.{false≢true}
use Rattle.fixed_num.specs.DecimalValue.{RoundsTo}
use Rattle.fixed_num.specs.Count.{count_of}
use Rattle.fixed_num.specs.Decimals.{surface_decimals}
use Rattle.fixed_num.specs.Whole.{IsWide}
use Rattle.uv_lock.specs.SurfaceNumbers.{SurfaceNumbers}
use Rattle.map_lex.specs.TokenList.{TokenValue}
use Rattle.map_text.specs.declared.document.Reason.{Reason}
use Rattle.map_text.specs.declared.document.Reason.TheVariants.{Surface}
use Rattle.map_text.specs.Grammar.{SurfaceText, word}
use Rattle.map_text.specs.Meaning.{is_whole, whole_of, is_large, is_bits}
use Rattle.map_text.specs.Refusals.{a_number, a_surface, a_face, is_number}
use Rattle.map_text.specs.Reading.{ReaderState, Passes, IsNext, IsRead}
use Rattle.map_text.specs.Judged.{count_or, bits_or, bits_in, surface_from}
use Rattle.map_text.specs.Parts.{number_part, bits_part, surface_part}
use Rattle.map_text.proofs.Passing.{passes_token, joined, framed, no_surface, and_left, and_right}
use Rattle.map_text.proofs.NumberTexts.{whole_test, whole_value, fraction_test, word_of_rounds, some_from_word, number_if, no_number_if, number_fits, number_symbol}
use Rattle.map_text.proofs.Judging.{large_then, large_last}

-- ---- contents and flags

true_of : (b : Bool) → T b → b ≡ true
true_of true h = refl
true_of false h = absurd h

of_true : (b : Bool) → b ≡ true → T b
of_true true e = tt
of_true false e = absurd (false≢true e)

wide_test : (n : ℤ) → IsWide n → (int_le (negsuc 2147483647) n && int_le n (pos 4294967295)) ≡ true
wide_test n h = (λ i. true_of (int_le (negsuc 2147483647) n) h.0.le i && true_of (int_le n (pos 4294967295)) h.1.le i)

wide_from : (n : ℤ) → (int_le (negsuc 2147483647) n && int_le n (pos 4294967295)) ≡ true → IsWide n
wide_from n e = (
  record { le = of_true (int_le (negsuc 2147483647) n) (and_left (int_le (negsuc 2147483647) n) _ e) },
  record { le = of_true (int_le n (pos 4294967295)) (and_right (int_le (negsuc 2147483647) n) _ e) },
)

bits_test : (w : List ℕ) (whole : ℤ) → RoundsTo 6 w (whole *ℤ pos (10 ^ 6)) → IsWide whole → is_bits w ≡ true
bits_test w whole r h = (λ i. whole_test w whole r i && wide_test (whole_of w) (subst IsWide (sym (whole_value w whole r)) h) i)

fraction_no_bits : (w : List ℕ) → is_whole w ≡ false → is_bits w ≡ false
fraction_no_bits w e = ap (λ b. b && (int_le (negsuc 2147483647) (whole_of w) && int_le (whole_of w) (pos 4294967295))) e

far_no_bits : (w : List ℕ) (whole : ℤ) → RoundsTo 6 w (whole *ℤ pos (10 ^ 6)) → (IsWide whole → ⊥) → is_bits w ≡ false
far_no_bits w whole r never = by (is_bits w) refl
  where
    by : (b : Bool) → is_bits w ≡ b → is_bits w ≡ false
    by true e = absurd (never (subst IsWide (whole_value w whole r) (wide_from (whole_of w) (and_right (is_whole w) _ e))))
    by false e = e

no_bits : (t : TokenValue) (count : ℤ) → t.quoted ≡ false → RoundsTo 6 t.text count → is_bits t.text ≡ false → Some (Err Surface) ≡ bits_in t
no_bits t count plain r e = some_from_word t (Err Surface) (bits_or t.text) plain (word_of_rounds 6 t.text count r) (rw e refl)

pub bits_near : (t : TokenValue) (whole : ℤ) → t.quoted ≡ false → RoundsTo 6 t.text (whole *ℤ pos (10 ^ 6)) → IsWide whole → Some (Ok whole) ≡ bits_in t
bits_near t whole plain r h =
    some_from_word t (Ok whole) (bits_or t.text) plain (word_of_rounds 6 t.text _ r) (rw (bits_test t.text whole r h, whole_value t.text whole r) refl)

pub bits_far : (t : TokenValue) → t.quoted ≡ false → (whole : ℤ) × RoundsTo 6 t.text (whole *ℤ pos (10 ^ 6)) × ¬ IsWide whole → Some (Err Surface) ≡ bits_in t
bits_far t plain h = no_bits t _ plain h.1 (far_no_bits t.text h.0 h.1 h.2)

pub bits_fraction : (t : TokenValue) → t.quoted ≡ false → (count : ℤ) × RoundsTo 6 t.text count × ((whole : ℤ) → count ≢ whole *ℤ pos (10 ^ 6)) → Some (Err Surface) ≡ bits_in t
bits_fraction t plain h = no_bits t h.0 plain h.1 (fraction_no_bits t.text (fraction_test t.text h.0 h.1 h.2))

-- ---- three numbers, or none

pub flags_read : (old new : ReaderState) (t : TokenValue) (value : Result ℤ Reason) → IsNext old t new → Some value ≡ bits_in t → IsRead bits_part (a_number ∷ []) [] old new value
flags_read old new t value next found =
    let is : (is_number t ≡ true) × (value ≡ bits_or t.text) = number_if t value (bits_or t.text) found in
    record {
      text = t.text;
      fit = number_fits t is.0;
      passes = passes_token old new a_number t [] (word t.text) next refl (rw (is.0) refl) (number_symbol t is.0);
      meaning = is.1;
    }

some_same : (a b : TokenValue) → Some a ≡ Some b → a ≡ b
some_same a b e = cc

-- the token that was looked at is the one that is taken
peeked : (old new : ReaderState) (seen t : TokenValue) → IsNext old t new → Some seen ≡ slice_get old.left.tokens 0 → seen ≡ t
peeked old new seen t next e = some_same seen t (e ∙ ap (λ l. slice_get l.tokens 0) next.left)

pub contents_begin : (old new : ReaderState) (seen t : TokenValue) (value : Result ℤ Reason) → IsNext old t new → Some seen ≡ slice_get old.left.tokens 0 → Some value ≡ bits_in seen
    → IsRead bits_part (a_surface ∷ []) (a_number ∷ a_number ∷ a_face ∷ []) old new value
contents_begin old new seen t value next e found =
    let is : (is_number t ≡ true) × (value ≡ bits_or t.text) = number_if t value (bits_or t.text) (found ∙ ap bits_in (peeked old new seen t next e)) in
    record {
      text = t.text;
      fit = number_fits t is.0;
      passes = passes_token old new a_surface t (a_number ∷ a_number ∷ a_face ∷ []) (word t.text) next refl (rw (is.0) refl) (number_symbol t is.0);
      meaning = is.1;
    }

pub no_contents : (old : ReaderState) (seen : TokenValue) → Some seen ≡ slice_get old.left.tokens 0 → None ≡ bits_in seen → Passes old old (a_surface ∷ []) (a_face ∷ []) [] []
no_contents old seen e none = no_surface old (Some seen) e (λ t h. ap is_number (sym (some_same seen t h)) ∙ no_number_if seen (bits_or seen.text) none)

pub no_token : (old : ReaderState) → None ≡ slice_get old.left.tokens 0 → Passes old old (a_surface ∷ []) (a_face ∷ []) [] []
no_token old e = no_surface old None e (λ t h. cc)

surface_meaning : (c f v : List ℕ) → let s : SurfaceText = record { contents = c; flags = f; value = v } in
    surface_from (bits_or c) (bits_or f) (count_or Surface surface_decimals v) ≡ surface_part.meaning (Some s)
surface_meaning c f v =
    let s : SurfaceNumbers = record { contents = whole_of c; flags = whole_of f; value = count_of surface_decimals v } in
    large_then Surface (not (is_bits c)) (not (is_bits f) || is_large surface_decimals v) (whole_of c) (Some s) _
    (large_then Surface (not (is_bits f)) (is_large surface_decimals v) (whole_of f) (Some s) _
    (large_last Surface (is_large surface_decimals v) (count_of surface_decimals v)
    (λ v. Some (let s : SurfaceNumbers = record { contents = whole_of c; flags = whole_of f; value = v } in s))))

pub surface_read : {s0 s1 s2 s3 : ReaderState} {c f v : Result ℤ Reason} → IsRead bits_part (a_surface ∷ []) (a_number ∷ a_number ∷ a_face ∷ []) s0 s1 c
    → IsRead bits_part (a_number ∷ []) [] s1 s2 f → IsRead (number_part Surface surface_decimals) (a_number ∷ []) [] s2 s3 v
    → IsRead surface_part (a_surface ∷ []) (a_face ∷ []) s0 s3 (surface_from c f v)
surface_read {s0} {s1} {s2} {s3} hc hf hv = record {
  text = Some (record { contents = hc.text; flags = hf.text; value = hv.text });
  fit = (λ i. hc.fit i && (hf.fit i && (hv.fit i && true)));
  passes = joined s0 s1 s3 (a_surface ∷ []) (a_number ∷ a_number ∷ a_face ∷ []) (a_face ∷ []) _ _ _ _ hc.passes
      (joined s1 s2 s3 (a_number ∷ a_number ∷ a_face ∷ []) (a_number ∷ a_face ∷ []) (a_face ∷ []) _ _ _ _
      (framed s1 s2 (a_number ∷ []) [] _ _ (a_number ∷ a_face ∷ []) hf.passes) (framed s2 s3 (a_number ∷ []) [] _ _ (a_face ∷ []) hv.passes));
  meaning = (λ i. surface_from (hc.meaning i) (hf.meaning i) (hv.meaning i)) ∙ surface_meaning hc.text hf.text hv.text;
}

pub surface_absent : {s0 s1 : ReaderState} → Passes s0 s1 (a_surface ∷ []) (a_face ∷ []) [] [] → IsRead surface_part (a_surface ∷ []) (a_face ∷ []) s0 s1 (Ok None)
surface_absent h = record { text = None; fit = refl; passes = h; meaning = refl }
