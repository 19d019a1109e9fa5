-- A text that isn't refused is that of a right file: by what fills all places that are awaited.
use Rattle.std.proofs.Common.{◌≡◌, ℕ, ◌&&◌, true, List, [], ◌∷◌, ◌++◌, map, Option, None, Some, refl, ap, sym, ◌∙◌, append_assoc}
use Rattle.std.proofs.lemmas.List.{append-nil}
use Rattle.std.specs.List.{list_all}
use Rattle.map_lex.specs.declared.lexer.LexFault.{LexFault}
use Rattle.map_lex.specs.TokenList.{TokenValue, TokenList, token_list, no_more}
use Rattle.uv_lock.specs.declared.texture.Format.{Format}
use Rattle.map_lex.specs.OneToken.{ends_with_backslash}
use Rattle.map_text.specs.declared.document.MapDoc.{MapDoc}
use Rattle.map_text.specs.Grammar.{Symbol, symbol_of, Item, file_symbols}
use Rattle.map_text.specs.Fits.{is_material, formats}
use Rattle.map_text.specs.Meaning.{document_of}
use Rattle.map_text.specs.Refusals.{Awaited, an_entity, an_item, a_value, first_in_brush, a_face, mark, a_number, a_material, a_texture, a_surface, Step, fits, refused, step, settled, Outcome, passed, stopped_by, go_on, refusal_of, first_refusal, is_bracket, is_number, names_block, last_line}
use Rattle.map_text.specs.Reading.{first_after, all_are}
use Rattle.map_text.specs.Reads.{Reads}
use Rattle.map_text.proofs.Passing.{step_on, first_after-none, first_after-append, all_are-none, all_are-append, and_left, and_right}
use Rattle.map_text.proofs.MapTexts.{entity_fits}
use Rattle.map_text.proofs.Fillings.{Fillings, formats_in, all_symbols, all_fit, all_formats, Split, split, Rebuilt, Rebuilds, either, fits_same, at_fits, never}
use Rattle.map_text.proofs.FilledItems.{entity_rebuilt, key_rebuilt, brush_rebuilt, closed_entity, value_rebuilt, mark_rebuilt, number_rebuilt, material_rebuilt}
use Rattle.map_text.proofs.FilledTextures.{texture_rebuilt}
use Rattle.map_text.proofs.FilledFaces.{face_rebuilt, first_rebuilt, next_rebuilt, closed_face, closed_brush, closed_behind, surface_rebuilt}

-- ---- each place

rebuilt : (first : Option Format) (p : Awaited) (t : TokenValue) (more : List Awaited) → step first p t ≡ fits more → Rebuilds first p t more
rebuilt first an_entity t more e =
    either (is_bracket 123 t) _ _ (fits more) e (λ h k. at_fits (Rebuilds first an_entity t) _ more (entity_rebuilt first t h) k) (λ h k. never _ more k)
rebuilt first an_item t more e =
    either t.quoted _ _ (fits more) e
    (λ q k. either (ends_with_backslash t.text) _ _ (fits more) k (λ h l. never _ more l) (λ h l. at_fits (Rebuilds first an_item t) _ more (key_rebuilt first t q h) l))
    (λ q k. either (is_bracket 123 t) _ _ (fits more) k (λ h l. at_fits (Rebuilds first an_item t) _ more (brush_rebuilt first t h) l)
    (λ h l. either (is_bracket 125 t) _ _ (fits more) l (λ c m. at_fits (Rebuilds first an_item t) _ more (closed_entity first t c) m) (λ c m. never _ more m)))
rebuilt first a_value t more e = either t.quoted _ _ (fits more) e (λ h k. at_fits (Rebuilds first a_value t) _ more (value_rebuilt first t h) k) (λ h k. never _ more k)
rebuilt first first_in_brush t more e =
    either (names_block t) _ _ (fits more) e (λ h k. never _ more k)
    (λ h k. either (is_bracket 40 t) _ _ (fits more) k (λ c l. at_fits (Rebuilds first first_in_brush t) _ more (first_rebuilt first t c) l)
    (λ c l. either (is_bracket 125 t) _ _ (fits more) l (λ d m. at_fits (Rebuilds first first_in_brush t) _ more (closed_brush first t d) m) (λ d m. never _ more m)))
rebuilt first a_face t more e =
    either (is_bracket 40 t) _ _ (fits more) e (λ c l. at_fits (Rebuilds first a_face t) _ more (face_rebuilt first t c) l)
    (λ c l. either (is_bracket 125 t) _ _ (fits more) l (λ d m. at_fits (Rebuilds first a_face t) _ more (closed_face first t d) m) (λ d m. never _ more m))
rebuilt first (mark byte what) t more e =
    either (is_bracket byte t) _ _ (fits more) e (λ h k. at_fits (Rebuilds first (mark byte what) t) _ more (mark_rebuilt first byte what t h) k) (λ h k. never _ more k)
rebuilt first a_number t more e = either (is_number t) _ _ (fits more) e (λ h k. at_fits (Rebuilds first a_number t) _ more (number_rebuilt first t h) k) (λ h k. never _ more k)
rebuilt first a_material t more e =
    either (is_material (symbol_of t)) _ _ (fits more) e (λ h k. at_fits (Rebuilds first a_material t) _ more (material_rebuilt first t h) k) (λ h k. never _ more k)
rebuilt first a_texture t more e = texture_rebuilt first t more e
rebuilt first a_surface t more e =
    either (is_number t) _ _ (fits more) e (λ h k. at_fits (Rebuilds first a_surface t) _ more (surface_rebuilt first t h) k)
    (λ h k. either (is_bracket 40 t) _ _ (fits more) k (λ c l. at_fits (Rebuilds first a_surface t) _ more (next_rebuilt first t c) l)
    (λ c l. either (is_bracket 125 t) _ _ (fits more) l (λ d m. at_fits (Rebuilds first a_surface t) _ more (closed_behind first t d) m) (λ d m. never _ more m)))

-- ---- all places

record Filled (first new : Option Format) (places : List Awaited) (tokens : List TokenValue) (fault : Option LexFault) (left : TokenList) : Type 0 where
  filling : Fillings places
  symbols : map symbol_of tokens ≡ all_symbols places filling ++ map symbol_of left.tokens
  fit : all_fit places filling ≡ true
  same_fault : fault ≡ left.fault
  first_is : new ≡ first_after first (all_formats places filling)
  one : all_are new (all_formats places filling) ≡ true

one_more : (first new : Option Format) (p : Awaited) (ps more : List Awaited) (t : TokenValue) (tokens : List TokenValue) (fault : Option LexFault) (left : TokenList) → step first p t ≡ fits more
    → Filled (settled first p t) new (more ++ ps) tokens fault left → Filled first new (p ∷ ps) (t ∷ tokens) fault left
unfolding Rebuilds
one_more first new p ps more t tokens fault left e f =
    let s : Split more ps f.filling = split more ps f.filling in
    let b : Rebuilt first p t more s.front = rebuilt first p t more e s.front in
    let L : List Symbol = map symbol_of left.tokens in
    let A : List Format = all_formats more s.front in
    let B : List Format = all_formats ps s.back in
    let fits_both : (all_fit more s.front && all_fit ps s.back) ≡ true = sym s.fit ∙ f.fit in
    let here : formats_in p b.filling ++ B ≡ b.kinds ++ (A ++ B) = ap (λ l. l ++ B) b.formats_are ∙ append_assoc b.kinds A B in
    record {
      filling = (b.filling, s.back);
      symbols = ap (λ l. symbol_of t ∷ l) (f.symbols ∙ ap (λ l. l ++ map symbol_of left.tokens) s.symbols) ∙ ap (λ l. (l ++ all_symbols ps s.back) ++ map symbol_of left.tokens) (sym b.symbols);
      fit = (λ i. b.fit (and_left (all_fit more s.front) _ fits_both) i && and_right (all_fit more s.front) _ fits_both i);
      same_fault = f.same_fault;
      first_is = f.first_is ∙ (λ i. first_after (b.settles i) (s.kinds i)) ∙ first_after-append first b.kinds (A ++ B) ∙ ap (first_after first) (sym here);
      one = ap (all_are new) here
          ∙ all_are-append first (settled first p t) new b.kinds (A ++ B) b.settles (f.first_is ∙ ap (first_after (settled first p t)) s.kinds) b.agrees (ap (all_are new) (sym s.kinds) ∙ f.one);
    }

-- an outcome that isn't a refusal
left_of : Outcome → TokenList
left_of (passed first left) = left
left_of (stopped_by why) = no_more

first_of_outcome : Outcome → Option Format
first_of_outcome (passed first left) = first
first_of_outcome (stopped_by why) = None

passed_left : (f g : Option Format) (a b : TokenList) → passed f a ≡ passed g b → a ≡ b
unfolding left_of
passed_left f g a b e = ap left_of e

passed_first : (f g : Option Format) (a b : TokenList) → passed f a ≡ passed g b → f ≡ g
unfolding first_of_outcome
passed_first f g a b e = ap first_of_outcome e

none_awaited : (first new : Option Format) (tokens : List TokenValue) (fault : Option LexFault) (left : TokenList) → go_on 0 first [] tokens fault ≡ passed new left → Filled first new [] tokens fault left
none_awaited first new tokens fault left e =
    let is = passed_left first new (record { tokens = tokens; fault = fault }) left e in
    record {
      filling = tt;
      symbols = ap (λ l. map symbol_of l.tokens) is;
      fit = refl;
      same_fault = ap (λ l. l.fault) is;
      first_is = sym (passed_first first new (record { tokens = tokens; fault = fault }) left e) ∙ first_after-none first;
      one = all_are-none new;
    }

at_the_end : (last : ℕ) (first new : Option Format) (places : List Awaited) (fault : Option LexFault) (left : TokenList) → go_on last first places [] fault ≡ passed new left → Filled first new places [] fault left
at_the_end last first new [] fault left e = none_awaited first new [] fault left e
at_the_end last first new (an_entity ∷ []) None left e =
    let is = passed_left first new (record { tokens = []; fault = None }) left e in
    record {
      filling = ([], tt);
      symbols = ap (λ l. map symbol_of l.tokens) is;
      fit = refl;
      same_fault = ap (λ l. l.fault) is;
      first_is = sym (passed_first first new (record { tokens = []; fault = None }) left e) ∙ first_after-none first;
      one = all_are-none new;
    }
at_the_end last first new (p ∷ ps) (Some fault) left e = absurd (cc)
at_the_end last first new (an_entity ∷ p ∷ ps) None left e = absurd (cc)
at_the_end last first new (an_item ∷ ps) None left e = absurd (cc)
at_the_end last first new (a_value ∷ ps) None left e = absurd (cc)
at_the_end last first new (first_in_brush ∷ ps) None left e = absurd (cc)
at_the_end last first new (a_face ∷ ps) None left e = absurd (cc)
at_the_end last first new (mark byte what ∷ ps) None left e = absurd (cc)
at_the_end last first new (a_number ∷ ps) None left e = absurd (cc)
at_the_end last first new (a_material ∷ ps) None left e = absurd (cc)
at_the_end last first new (a_texture ∷ ps) None left e = absurd (cc)
at_the_end last first new (a_surface ∷ ps) None left e = absurd (cc)

next_step : (last : ℕ) (first new : Option Format) (p : Awaited) (ps : List Awaited) (t : TokenValue) (tokens : List TokenValue) (fault : Option LexFault) (left : TokenList)
    → go_on last first (p ∷ ps) (t ∷ tokens) fault ≡ passed new left
    → ((more : List Awaited) → go_on last (settled first p t) (more ++ ps) tokens fault ≡ passed new left → Filled (settled first p t) new (more ++ ps) tokens fault left)
    → Filled first new (p ∷ ps) (t ∷ tokens) fault left
next_step last first new p ps t tokens fault left e later = by (step first p t) refl
  where
    by : (s : Step) → step first p t ≡ s → Filled first new (p ∷ ps) (t ∷ tokens) fault left
    by (fits more) h = one_more first new p ps more t tokens fault left h (later more (sym (step_on last first p ps t tokens fault (fits more) h) ∙ e))
    by (refused why) h = absurd (let n : stopped_by why ≡ passed new left = sym (step_on last first p ps t tokens fault (refused why) h) ∙ e in cc)

filled : (last : ℕ) (tokens : List TokenValue) (first new : Option Format) (places : List Awaited) (fault : Option LexFault) (left : TokenList) → go_on last first places tokens fault ≡ passed new left
    → Filled first new places tokens fault left
filled last [] first new places fault left e = at_the_end last first new places fault left e
filled last (t ∷ tokens) first new [] fault left e = none_awaited first new (t ∷ tokens) fault left e
filled last (t ∷ tokens) first new (p ∷ ps) fault left e =
    next_step last first new p ps t tokens fault left e (λ more h. filled last tokens (settled first p t) new (more ++ ps) fault left h)

-- ---- where an entity is awaited last, nothing is left

Based : List Awaited → Type 0
Based places = (above : List Awaited) × (places ≡ above ++ (an_entity ∷ []))

tail_of : List Awaited → List Awaited
tail_of [] = []
tail_of (p ∷ ps) = ps

head_of : List Awaited → Awaited
head_of [] = a_value
head_of (p ∷ ps) = p

never_empty : {A : Type 0} (above : List Awaited) → [] ≡ above ++ (an_entity ∷ []) → A
never_empty [] e = absurd (cc)
never_empty (p ∷ above) e = absurd (cc)

still_based : (first : Option Format) (p : Awaited) (ps more : List Awaited) (t : TokenValue) → step first p t ≡ fits more → Based (p ∷ ps) → Based (more ++ ps)
unfolding Based tail_of head_of
still_based first p ps more t e b = by b.0 b.1
  where
    by : (above : List Awaited) → p ∷ ps ≡ above ++ (an_entity ∷ []) → (above : List Awaited) × (more ++ ps ≡ above ++ (an_entity ∷ []))
    by [] h =
        let entity : p ≡ an_entity = ap head_of h in
        let here : step first an_entity t ≡ fits more = ap (λ q. step first q t) (sym entity) ∙ e in
        either (is_bracket 123 t) _ _ (fits more) here
        (λ c k. (an_item ∷ [], (λ i. sym (fits_same (an_item ∷ an_entity ∷ []) more k) i ++ ap tail_of h i)))
        (λ c k. never _ more k)
    by (q ∷ above) h = (more ++ above, ap (λ l. more ++ l) (ap tail_of h) ∙ sym (append_assoc more above (an_entity ∷ [])))

ends_at_end : (last : ℕ) (first new : Option Format) (places : List Awaited) (fault : Option LexFault) (left : TokenList) → Based places → go_on last first places [] fault ≡ passed new left → left ≡ no_more
unfolding Based
ends_at_end last first new [] fault left b e = never_empty b.0 b.1
ends_at_end last first new (an_entity ∷ []) None left b e = sym (passed_left first new no_more left e)
ends_at_end last first new (p ∷ ps) (Some fault) left b e = absurd (cc)
ends_at_end last first new (an_entity ∷ p ∷ ps) None left b e = absurd (cc)
ends_at_end last first new (an_item ∷ ps) None left b e = absurd (cc)
ends_at_end last first new (a_value ∷ ps) None left b e = absurd (cc)
ends_at_end last first new (first_in_brush ∷ ps) None left b e = absurd (cc)
ends_at_end last first new (a_face ∷ ps) None left b e = absurd (cc)
ends_at_end last first new (mark byte what ∷ ps) None left b e = absurd (cc)
ends_at_end last first new (a_number ∷ ps) None left b e = absurd (cc)
ends_at_end last first new (a_material ∷ ps) None left b e = absurd (cc)
ends_at_end last first new (a_texture ∷ ps) None left b e = absurd (cc)
ends_at_end last first new (a_surface ∷ ps) None left b e = absurd (cc)

ends_later : (last : ℕ) (first new : Option Format) (p : Awaited) (ps : List Awaited) (t : TokenValue) (tokens : List TokenValue) (fault : Option LexFault) (left : TokenList)
    → Based (p ∷ ps) → go_on last first (p ∷ ps) (t ∷ tokens) fault ≡ passed new left
    → ((more : List Awaited) → Based (more ++ ps) → go_on last (settled first p t) (more ++ ps) tokens fault ≡ passed new left → left ≡ no_more) → left ≡ no_more
ends_later last first new p ps t tokens fault left b e later = by (step first p t) refl
  where
    by : (s : Step) → step first p t ≡ s → left ≡ no_more
    by (fits more) h = later more (still_based first p ps more t h b) (sym (step_on last first p ps t tokens fault (fits more) h) ∙ e)
    by (refused why) h = absurd (let n : stopped_by why ≡ passed new left = sym (step_on last first p ps t tokens fault (refused why) h) ∙ e in cc)

ends_whole : (last : ℕ) (tokens : List TokenValue) (first new : Option Format) (places : List Awaited) (fault : Option LexFault) (left : TokenList) → Based places
    → go_on last first places tokens fault ≡ passed new left → left ≡ no_more
unfolding Based
ends_whole last [] first new places fault left b e = ends_at_end last first new places fault left b e
ends_whole last (t ∷ tokens) first new [] fault left b e = never_empty b.0 b.1
ends_whole last (t ∷ tokens) first new (p ∷ ps) fault left b e =
    ends_later last first new p ps t tokens fault left b e (λ more c h. ends_whole last tokens (settled first p t) new (more ++ ps) fault left c h)

-- ---- whole texts

record IsPassed (o : Outcome) : Type 0 where
  new : Option Format
  left : TokenList
  is : o ≡ passed new left

not_refused : (o : Outcome) → refusal_of o ≡ None → IsPassed o
not_refused (passed new left) e = record { new = new; left = left; is = refl }
not_refused (stopped_by why) e = absurd (cc)

pub some_reading : (text : List ℕ) → first_refusal text ≡ None → (doc : MapDoc) × Reads text doc
unfolding first_refusal Based
some_reading text e =
    let list : TokenList = token_list text in
    let o : IsPassed (go_on (last_line text) None (an_entity ∷ []) (token_list text).tokens (token_list text).fault) = not_refused _ e in
    let f : Filled None o.new (an_entity ∷ []) (token_list text).tokens (token_list text).fault o.left = filled (last_line text) (token_list text).tokens None o.new (an_entity ∷ []) (token_list text).fault o.left o.is in
    let whole : o.left ≡ no_more = ends_whole (last_line text) (token_list text).tokens None o.new (an_entity ∷ []) (token_list text).fault o.left ([], refl) o.is in
    let file : List (List Item) = f.filling.0 in
    let kinds : all_formats (an_entity ∷ []) f.filling ≡ formats f.filling.0 = append-nil (formats f.filling.0) in (
      document_of f.filling.0,
      record {
        file = f.filling.0;
        fit = and_left (list_all entity_fits f.filling.0) true f.fit;
        one_format = (λ i. all_are (first_after None (sym kinds i)) (sym kinds i)) ∙ ap (λ o. all_are o (all_formats (an_entity ∷ []) f.filling)) (sym f.first_is) ∙ f.one;
        symbols = f.symbols ∙ (λ i. append-nil (file_symbols f.filling.0) i ++ map symbol_of (whole i).tokens) ∙ append-nil (file_symbols f.filling.0);
        no_fault = f.same_fault ∙ ap (λ l. l.fault) whole;
        meaning = refl;
      },
    )
