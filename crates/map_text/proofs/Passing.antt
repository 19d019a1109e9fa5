-- How reading goes on by one token, and from part to part.
use Rattle.std.proofs.Common.{◌≡◌, ℕ, Bool, true, false, ◌&&◌, not, cond, List, [], ◌∷◌, ◌++◌, map, slice_get, Option, None, Some, Result, Err, IfOk, IfErr, refl, sym, ap, ◌∙◌, append_assoc, subst, length, length-append, arith, ◌<◌, ◌≤◌}
use Rattle.std.proofs.lemmas.Bool.{false≢true}
use Rattle.std.proofs.lemmas.List.{length-map}
use Rattle.std.proofs.lemmas.List.Folds.{list_all-append}
use Rattle.std.proofs.lemmas.Result.{err_from_is_err_and}
use Rattle.std.specs.Option.{ok_or}
use Rattle.std.specs.Result.{IsErrAnd}
use Rattle.std.proofs.lemmas.Slice.Eq.{bytes_eq-Decides}
use Rattle.std.specs.List.{list_all}
use Rattle.std.specs.Str.{bytes_eq}
use Rattle.map_lex.specs.declared.lexer.LexFault.{LexFault}
use Rattle.map_lex.specs.TokenList.{TokenValue, TokenList, put_first}
use Rattle.uv_lock.specs.declared.texture.Format.{Format}
use Rattle.map_text.specs.declared.read_fault.ReadFault.{ReadFault}
use Rattle.map_text.specs.declared.read_fault.ReadFault.TheVariants.{EndsEarly, Expected}
use Rattle.map_text.specs.declared.read_fault.What.{What}
use Rattle.map_text.specs.Grammar.{Symbol, symbol_of, bracket, word, quote}
use Rattle.map_text.specs.Refusals.{Awaited, an_entity, an_item, a_value, first_in_brush, a_face, mark, a_number, a_material, a_texture, a_surface, Step, fits, refused, step, face_step, settled, stopped_by, go_on, is_bracket, is_number}
use Rattle.map_text.specs.Reading.{ReaderState, reads_on, first_after, all_are, Passes, IsRefused, IsNext, is_inner}

-- ---- one token

abbrev pub is_texture : Awaited → Bool
is_texture a_texture = true
is_texture _ = false

pub settled-other : (first : Option Format) (place : Awaited) (t : TokenValue) → is_texture place ≡ false → settled first place t ≡ first
settled-other (Some first) place t h = refl
settled-other None an_entity t h = refl
settled-other None an_item t h = refl
settled-other None a_value t h = refl
settled-other None first_in_brush t h = refl
settled-other None a_face t h = refl
settled-other None (mark byte what) t h = refl
settled-other None a_number t h = refl
settled-other None a_material t h = refl
settled-other None a_texture t h = absurd (false≢true (sym h))
settled-other None a_surface t h = refl

-- one step, by the table of places
pub step_on : (last : ℕ) (first : Option Format) (place : Awaited) (places : List Awaited) (t : TokenValue) (tokens : List TokenValue) (fault : Option LexFault) (s : Step)
    → step first place t ≡ s → go_on last first (place ∷ places) (t ∷ tokens) fault
    ≡ elim s [ fits more ↦ go_on last (settled first place t) (more ++ places) tokens fault | refused why ↦ stopped_by why ]
step_on last first place places t tokens fault s e =
    ap (λ s. elim s [ fits more ↦ go_on last (settled first place t) (more ++ places) tokens fault | refused why ↦ stopped_by why ]) e

pub goes_on : (old new : ReaderState) (place : Awaited) (t : TokenValue) (more : List Awaited) → old.left ≡ put_first t new.left → new.last ≡ old.last
    → new.first ≡ settled old.first place t → step old.first place t ≡ fits more → (rest : List Awaited) → reads_on old (place ∷ rest) ≡ reads_on new (more ++ rest)
goes_on old new place t more left last first fit rest =
    ap (λ l. go_on old.last old.first (place ∷ rest) l.tokens l.fault) left
    ∙ step_on old.last old.first place rest t new.left.tokens new.left.fault (fits more) fit
    ∙ ap (λ n. go_on n (settled old.first place t) (more ++ rest) new.left.tokens new.left.fault) (sym last)
    ∙ ap (λ f. go_on new.last f (more ++ rest) new.left.tokens new.left.fault) (sym first)

pub stops_here : (old : ReaderState) (place : Awaited) (t : TokenValue) (left : TokenList) (why : ReadFault) → old.left ≡ put_first t left
    → step old.first place t ≡ refused why → IsRefused old (place ∷ []) why
stops_here old place t left why first refuses = λ rest.
    ap (λ l. go_on old.last old.first (place ∷ rest) l.tokens l.fault) first
    ∙ step_on old.last old.first place rest t left.tokens left.fault (refused why) refuses

pub first_after-none : (first : Option Format) → first ≡ first_after first []
first_after-none None = refl
first_after-none (Some first) = refl

pub all_are-none : (first : Option Format) → all_are first [] ≡ true
all_are-none None = refl
all_are-none (Some first) = refl

-- a token that begins no texture
pub passes_token : (old new : ReaderState) (place : Awaited) (t : TokenValue) (more : List Awaited) (s : Symbol) → IsNext old t new → is_texture place ≡ false
    → step old.first place t ≡ fits more → symbol_of t ≡ s → Passes old new (place ∷ []) more (s ∷ []) []
passes_token old new place t more s next other fit is = record {
  goes = goes_on old new place t more next.left next.last (next.first ∙ sym (settled-other old.first place t other)) fit;
  symbols = ap (λ l. map symbol_of l.tokens) next.left ∙ ap (λ x. x ∷ map symbol_of new.left.tokens) is;
  fault = ap (λ l. l.fault) next.left;
  first = next.first ∙ first_after-none old.first;
  one_format = all_are-none new.first;
}

pub stops_token : (old new : ReaderState) (place : Awaited) (t : TokenValue) (why : ReadFault) → IsNext old t new → step old.first place t ≡ refused why → IsRefused old (place ∷ []) why
stops_token old new place t why next refuses = stops_here old place t new.left why next.left refuses

-- ---- what a token is

pub and_left : (a b : Bool) → (a && b) ≡ true → a ≡ true
and_left true b h = refl
and_left false b h = absurd (false≢true h)

pub and_right : (a b : Bool) → (a && b) ≡ true → b ≡ true
and_right true b h = h
and_right false b h = absurd (false≢true h)

pub not_true : (a : Bool) → not a ≡ true → a ≡ false
not_true true h = absurd (false≢true h)
not_true false h = refl

pub word_of : (t : TokenValue) → t.quoted ≡ false → symbol_of t ≡ word t.text
word_of t h = ap (λ q. record { text = t.text; quoted = q }) h

pub quote_of : (t : TokenValue) → t.quoted ≡ true → symbol_of t ≡ quote t.text
quote_of t h = ap (λ q. record { text = t.text; quoted = q }) h

pub bracket_of : (t : TokenValue) (byte : ℕ) → is_bracket byte t ≡ true → symbol_of t ≡ bracket byte
bracket_of t byte h =
    word_of t (not_true t.quoted (and_left (not t.quoted) _ h)) ∙ ap word ((bytes_eq-Decides t.text (byte ∷ [])).0 (and_right (not t.quoted) _ h))

-- a bracket that was taken
pub mark_taken : (old new : ReaderState) (byte line : ℕ) → IsNext old (record { text = byte ∷ []; quoted = false; line = line }) new
    → (what : What) → Passes old new (mark byte what ∷ []) [] (bracket byte ∷ []) []
mark_taken old new byte line next what =
    let is : bytes_eq (byte ∷ []) (byte ∷ []) ≡ true = (bytes_eq-Decides (byte ∷ []) (byte ∷ [])).1 refl in
    passes_token old new (mark byte what) (record { text = byte ∷ []; quoted = false; line = line }) [] (bracket byte) next refl
    (ap (λ b. cond b (fits []) (refused (Expected what line))) is) refl

-- ---- from part to part

pub framed : (a b : ReaderState) (p q : List Awaited) (s : List Symbol) (f : List Format) (more : List Awaited) → Passes a b p q s f → Passes a b (p ++ more) (q ++ more) s f
framed a b p q s f more x = record {
  goes = λ rest. ap (reads_on a) (append_assoc p more rest) ∙ x.goes (more ++ rest) ∙ ap (reads_on b) (sym (append_assoc q more rest));
  symbols = x.symbols;
  fault = x.fault;
  first = x.first;
  one_format = x.one_format;
}

pub first_after-append : (first : Option Format) (f g : List Format) → first_after (first_after first f) g ≡ first_after first (f ++ g)
first_after-append None [] g = refl
first_after-append None (x ∷ f) g = refl
first_after-append (Some x) f g = refl

pub all_are-append : (a b c : Option Format) (f g : List Format) → b ≡ first_after a f → c ≡ first_after b g → all_are b f ≡ true → all_are c g ≡ true → all_are c (f ++ g) ≡ true
all_are-append None None c [] g h k l m = m
all_are-append None None c (x ∷ f) g h k l m = absurd (cc)
all_are-append None (Some y) c f g h k l m = rw (k, list_all-append) (rw l (rw k at m))
all_are-append (Some x) None c f g h k l m = absurd (cc)
all_are-append (Some x) (Some y) c f g h k l m = rw (k, list_all-append) (rw l (rw k at m))

pub joined : (a b c : ReaderState) (p q r : List Awaited) (s t : List Symbol) (f g : List Format) → Passes a b p q s f → Passes b c q r t g → Passes a c p r (s ++ t) (f ++ g)
joined a b c p q r s t f g x y = record {
  goes = λ rest. x.goes rest ∙ y.goes rest;
  symbols = x.symbols ∙ ap (λ l. s ++ l) y.symbols ∙ sym (append_assoc s t (map symbol_of c.left.tokens));
  fault = x.fault ∙ y.fault;
  first = y.first ∙ ap (λ o. first_after o g) x.first ∙ first_after-append a.first f g;
  one_format = all_are-append a.first b.first c.first f g x.first y.first x.one_format y.one_format;
}

-- ---- the end of the text

at_once : (old : ReaderState) (places : List Awaited) (fault : Option LexFault) → old.left.tokens ≡ [] → old.left.fault ≡ fault → reads_on old places ≡ go_on old.last old.first places [] fault
at_once old places fault none is = ap (λ l. go_on old.last old.first places l old.left.fault) none ∙ ap (go_on old.last old.first places []) is

pub ends_inside : (old : ReaderState) (place : Awaited) → old.left.tokens ≡ [] → old.left.fault ≡ None → is_inner place ≡ true → IsRefused old (place ∷ []) (EndsEarly old.last)
ends_inside old an_entity none sound inner = absurd (false≢true inner)
ends_inside old an_item none sound inner = λ rest. at_once old (an_item ∷ rest) None none sound
ends_inside old a_value none sound inner = λ rest. at_once old (a_value ∷ rest) None none sound
ends_inside old first_in_brush none sound inner = λ rest. at_once old (first_in_brush ∷ rest) None none sound
ends_inside old a_face none sound inner = λ rest. at_once old (a_face ∷ rest) None none sound
ends_inside old (mark byte what) none sound inner = λ rest. at_once old (mark byte what ∷ rest) None none sound
ends_inside old a_number none sound inner = λ rest. at_once old (a_number ∷ rest) None none sound
ends_inside old a_material none sound inner = λ rest. at_once old (a_material ∷ rest) None none sound
ends_inside old a_texture none sound inner = λ rest. at_once old (a_texture ∷ rest) None none sound
ends_inside old a_surface none sound inner = λ rest. at_once old (a_surface ∷ rest) None none sound

-- ---- the exit of a `?`

-- what holds of the fault that is passed on
pub passed_on : {T : Type 0} (P : ReadFault → Type 0) (r : Result T ReadFault) (why : ReadFault) → IsErrAnd r (λ y. y ≡ why) → P why → IfErr r P
passed_on P r why e h = let made : (y : ReadFault) × (r ≡ Err y) × (y ≡ why) = err_from_is_err_and r e in rw (made.1, made.2) h

-- ---- a result that is made of an option

pub ok_of_found : {V : Type 0} (P : V → Type 0) (found : Option V) (r : Result V ReadFault) (why : ReadFault) → r ≡ ok_or found why → ((v : V) → Some v ≡ found → P v) → IfOk r P
ok_of_found P None r why e h = rw e tt
ok_of_found P (Some v) r why e h = rw e (h v refl)

pub err_of_found : {V : Type 0} (Q : ReadFault → Type 0) (found : Option V) (r : Result V ReadFault) (why : ReadFault) → r ≡ ok_or found why → (None ≡ found → Q why) → IfErr r Q
err_of_found Q None r why e h = rw e (h refl)
err_of_found Q (Some v) r why e h = rw e tt

-- ---- one part behind another

pub next_part : {a b c : ReaderState} {p more r : List Awaited} {s t : List Symbol} {f g : List Format} → Passes a b p [] s f → Passes b c more r t g → Passes a c (p ++ more) r (s ++ t) (f ++ g)
next_part {a} {b} {c} {p} {more} {r} {s} {t} {f} {g} x y = joined a b c (p ++ more) more r s t f g (framed a b p [] s f more x) y

pub all_appended : {X : Type 0} (p : X → Bool) (xs ys : List X) → list_all p xs ≡ true → list_all p ys ≡ true → list_all p (xs ++ ys) ≡ true
all_appended p xs ys h k = list_all-append p xs ys ∙ (λ i. h i && k i)

-- ---- no surface numbers

-- where no number stands behind the last scale, what stands there stands behind the face
pub goes_without : (last : ℕ) (first : Option Format) (rest : List Awaited) (t : TokenValue) (tokens : List TokenValue) (fault : Option LexFault) → is_number t ≡ false
    → go_on last first (a_surface ∷ rest) (t ∷ tokens) fault ≡ go_on last first (a_face ∷ rest) (t ∷ tokens) fault
goes_without last first rest t tokens fault h =
    step_on last first a_surface rest t tokens fault (face_step t) (ap (λ b. cond b (fits (a_number ∷ a_number ∷ a_face ∷ [])) (face_step t)) h)
    ∙ ap (λ f. elim (face_step t) [ fits more ↦ go_on last f (more ++ rest) tokens fault | refused why ↦ stopped_by why ])
    (settled-other first a_surface t refl ∙ sym (settled-other first a_face t refl))

none_stands : (last : ℕ) (first : Option Format) (rest : List Awaited) (tokens : List TokenValue) (fault : Option LexFault) (o : Option TokenValue) → o ≡ slice_get tokens 0
    → ((t : TokenValue) → o ≡ Some t → is_number t ≡ false) → go_on last first (a_surface ∷ rest) tokens fault ≡ go_on last first (a_face ∷ rest) tokens fault
none_stands last first rest [] None o e h = refl
none_stands last first rest [] (Some fault) o e h = refl
none_stands last first rest (t ∷ tokens) fault o e h = goes_without last first rest t tokens fault (h t e)

pub no_surface : (old : ReaderState) (o : Option TokenValue) → o ≡ slice_get old.left.tokens 0 → ((t : TokenValue) → o ≡ Some t → is_number t ≡ false) → Passes old old (a_surface ∷ []) (a_face ∷ []) [] []
no_surface old o e h = record {
  goes = λ rest. none_stands old.last old.first rest old.left.tokens old.left.fault o e h;
  symbols = refl;
  fault = refl;
  first = first_after-none old.first;
  one_format = all_are-none old.first;
}

-- ---- loops

pub passes_none : (s : ReaderState) (p : List Awaited) → Passes s s p p [] []
passes_none s p = record {
  goes = λ rest. refl;
  symbols = refl;
  fault = refl;
  first = first_after-none s.first;
  one_format = all_are-none s.first;
}

pub passes_as : {a b : ReaderState} {p q : List Awaited} {s t : List Symbol} {f g : List Format} → Passes a b p q s f → s ≡ t → f ≡ g → Passes a b p q t g
passes_as {a} {b} {p} {q} {s} {t} {f} {g} x e h = subst (λ f. Passes a b p q t f) h (subst (λ s. Passes a b p q s f) e x)

-- fewer tokens are left
pub shorter : {a b : ReaderState} {p q : List Awaited} {x : Symbol} {s : List Symbol} {f : List Format} → Passes a b p q (x ∷ s) f → length b.left.tokens < length a.left.tokens
shorter {a} {b} {p} {q} {x} {s} {f} h =
    let l : length (map symbol_of a.left.tokens) ≡ length (x ∷ s ++ map symbol_of b.left.tokens) = ap length h.symbols in
    omega (arith, l, length-map a.left.tokens symbol_of, length-map b.left.tokens symbol_of, length-append s (map symbol_of b.left.tokens))

pub no_longer : {a b : ReaderState} {p q : List Awaited} {s : List Symbol} {f : List Format} → Passes a b p q s f → length b.left.tokens ≤ length a.left.tokens
no_longer {a} {b} {p} {q} {s} {f} h =
    let l : length (map symbol_of a.left.tokens) ≡ length (s ++ map symbol_of b.left.tokens) = ap length h.symbols in
    omega (arith, l, length-map a.left.tokens symbol_of, length-map b.left.tokens symbol_of, length-append s (map symbol_of b.left.tokens))
