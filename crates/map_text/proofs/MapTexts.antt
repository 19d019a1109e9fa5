-- Whole texts that are read.
use Rattle.std.proofs.Common.{◌≡◌, ◌≢◌, ℕ, ◌+◌, ◌<◌, ◌≤◌, ◌&&◌, Bool, true, false, cond, List, [], ◌∷◌, ◌++◌, map, length, sum_by, Option, None, Some, ap, sym, ◌∙◌, refl, arith, length-append, drop, get_or, drop-cons, suc, add-one}
use Rattle.std.proofs.lemmas.List.{append-nil, drop_all, map-append, length-map}
use Rattle.std.proofs.lemmas.Grind.{flat_map-append}
use Rattle.std.proofs.lemmas.List.Sums.{sum_by-cons}
use Rattle.std.specs.List.{flat_map, list_all}
use Rattle.std.specs.Option.{option_map_or}
use Rattle.std.specs.Str.{bytes_eq}
use Rattle.map_lex.specs.TokenList.{token_list, no_more}
use Rattle.uv_lock.specs.declared.texture.Format.{Format}
use Rattle.map_text.specs.declared.document.MapDoc.{MapDoc}
use Rattle.map_text.specs.declared.document.RawEntity.{RawEntity}
use Rattle.map_text.specs.declared.read_fault.ReadFault.{ReadFault}
use Rattle.map_text.specs.declared.read_fault.ReadFault.TheVariants.{Lex, Expected, MixedFormat, UnknownBlock, EndsEarly, Memory}
use Rattle.map_text.specs.Grammar.{Item, property, brush, symbol_of, item_symbols, entity_symbols, file_symbols, face_symbols, bracket}
use Rattle.map_text.specs.Fits.{is_format, item_fits, formats}
use Rattle.map_text.specs.Meaning.{raw_entity_of, brushes_of_item, document_of, format_by_version, value_of_key}
use Rattle.map_text.specs.Refusals.{an_entity, an_item, last_line, first_refusal, refusal_of, go_on, passed}
use Rattle.map_text.specs.Reading.{ReaderState, reads_on, Passes, IsRead, IsStopped}
use Rattle.map_text.specs.Parts.{entity_part}
use Rattle.map_text.specs.Items.{BeginsEntity}
use Rattle.map_text.specs.Reads.{Reads, IsRefusedAs, part_count}
use Rattle.map_text.proofs.Passing.{passes_none, passes_as, joined, framed, all_appended, shorter, no_longer}
use Rattle.map_text.proofs.EntityTexts.{formats_of}

-- ---- the entities so far

abbrev pub entity_fits : List Item → Bool
entity_fits items = list_all item_fits items

pub record MapSoFar (start now : ReaderState) (entities : List RawEntity) : Type 0 where
  pub file : List (List Item)
  pub fit : list_all entity_fits file ≡ true
  pub passes : Passes start now (an_entity ∷ []) (an_entity ∷ []) (file_symbols file) (formats file)
  pub meaning : entities ≡ map raw_entity_of file

pub no_entities : (start : ReaderState) (entities : List RawEntity) → entities ≡ [] → MapSoFar start start entities
no_entities start entities e = record { file = []; fit = refl; passes = passes_none start (an_entity ∷ []); meaning = e }

pub entity_more : {start s1 s2 s3 : ReaderState} {entities : List RawEntity} {value : RawEntity} → MapSoFar start s1 entities → BeginsEntity s1 s2 true → IsRead entity_part (an_item ∷ []) [] s2 s3 value
    → MapSoFar start s3 (entities ++ value ∷ [])
entity_more {start} {s1} {s2} {s3} m begins e = record {
  file = m.file ++ e.text ∷ [];
  fit = all_appended entity_fits m.file (e.text ∷ []) m.fit (λ i. e.fit i && true);
  passes = passes_as
      (joined start s1 s3 (an_entity ∷ []) (an_entity ∷ []) (an_entity ∷ []) _ _ _ _ m.passes
      (joined s1 s2 s3 (an_entity ∷ []) (an_item ∷ an_entity ∷ []) (an_entity ∷ []) _ _ _ _ begins (framed s2 s3 (an_item ∷ []) [] _ _ (an_entity ∷ []) e.passes)))
      (ap (λ l. file_symbols m.file ++ l) (sym (append-nil (entity_symbols e.text))) ∙ sym (flat_map-append entity_symbols m.file (e.text ∷ [])))
      (ap (λ l. formats m.file ++ l) (sym (append-nil (formats_of e.text))) ∙ sym (flat_map-append formats_of m.file (e.text ∷ [])));
  meaning = (λ i. m.meaning i ++ e.meaning i ∷ []) ∙ sym (map-append raw_entity_of m.file (e.text ∷ []));
}

pub entity_shorter : {s1 s2 s3 : ReaderState} {value : RawEntity} → BeginsEntity s1 s2 true → IsRead entity_part (an_item ∷ []) [] s2 s3 value → length s3.left.tokens < length s1.left.tokens
entity_shorter begins e = let h = shorter begins in let k = no_longer e.passes in omega (arith, h, k)

-- ---- the whole text

abbrev pub start_of : List ℕ → ReaderState
start_of text = record { last = last_line text; first = None; left = token_list text }

refused_by : (text : List ℕ) (why : ReadFault) → why ≢ Memory → IsStopped (start_of text) (an_entity ∷ []) why → first_refusal text ≡ Some why
unfolding first_refusal
refused_by text why ne h = ap refusal_of (h ne [])

pub is_refused : (text : List ℕ) (why : ReadFault) → IsStopped (start_of text) (an_entity ∷ []) why → IsRefusedAs text why
is_refused text (Lex fault) h = refused_by text (Lex fault) (λ e. cc) h
is_refused text (Expected what line) h = refused_by text (Expected what line) (λ e. cc) h
is_refused text (MixedFormat line) h = refused_by text (MixedFormat line) (λ e. cc) h
is_refused text (UnknownBlock line) h = refused_by text (UnknownBlock line) (λ e. cc) h
is_refused text (EndsEarly line) h = refused_by text (EndsEarly line) (λ e. cc) h
is_refused text Memory h = tt

passes_end : (s : ReaderState) → s.left ≡ no_more → reads_on s (an_entity ∷ []) ≡ passed s.first no_more
passes_end s e = ap (λ l. go_on s.last s.first (an_entity ∷ []) l.tokens l.fault) e

pub is_accepted : (text : List ℕ) (s : ReaderState) (entities : List RawEntity) → MapSoFar (start_of text) s entities → s.left ≡ no_more → first_refusal text ≡ None
unfolding first_refusal
is_accepted text s entities m e = ap refusal_of (m.passes.goes [] ∙ passes_end s e)

-- the format of the document
abbrev pub format_or : Option Format → Format → Format
format_or first other = option_map_or (λ format. format) first other

pub text_read : (text : List ℕ) (s : ReaderState) (entities : List RawEntity) (format : Format) → MapSoFar (start_of text) s entities → s.left ≡ no_more
    → format ≡ format_or s.first (format_by_version entities) → Reads text (let d : MapDoc = record { format = format; entities = entities } in d)
text_read text s entities format m e f = record {
  file = m.file;
  fit = m.fit;
  one_format = ap (λ o. option_map_or (λ f. list_all (is_format f) (formats m.file)) o true) (sym m.passes.first) ∙ m.passes.one_format;
  symbols = m.passes.symbols ∙ ap (λ l. file_symbols m.file ++ map symbol_of l.tokens) e ∙ append-nil (file_symbols m.file);
  no_fault = m.passes.fault ∙ ap (λ l. l.fault) e;
  meaning = (λ i. let d : MapDoc = record { format = (f ∙ (λ j. format_or (m.passes.first j) (format_by_version (m.meaning j)))) i; entities = m.meaning i } in d);
}

-- ---- no more parts than bytes

item_parts : (item : Item) → length (brushes_of_item item) ≤ length (item_symbols item)
item_parts (property key value) = omega arith
item_parts (brush faces) = omega (arith, length-append (flat_map face_symbols faces) (bracket 125 ∷ []))

items_parts : (items : List Item) → length (flat_map brushes_of_item items) ≤ length (flat_map item_symbols items)
items_parts [] = omega arith
items_parts (item ∷ items) =
    omega (arith, item_parts item, items_parts items, length-append (brushes_of_item item) (flat_map brushes_of_item items), length-append (item_symbols item) (flat_map item_symbols items))

file_parts : (file : List (List Item)) → length (map raw_entity_of file) + sum_by (λ entity. length entity.brushes) (map raw_entity_of file) ≤ length (file_symbols file)
file_parts [] = omega arith
file_parts (items ∷ file) =
    let here : sum_by (λ entity. length entity.brushes) (map raw_entity_of (items ∷ file))
    ≡ length (flat_map brushes_of_item items) + sum_by (λ entity. length entity.brushes) (map raw_entity_of file) = sum_by-cons (λ entity. length entity.brushes) (raw_entity_of items) (map raw_entity_of file) in
    omega (arith, here, items_parts items, file_parts file, length-append (flat_map item_symbols items) (bracket 125 ∷ []), length-append (entity_symbols items) (file_symbols file))

pub few_parts : (text : List ℕ) (doc : MapDoc) → Reads text doc → length (token_list text).tokens ≤ length text → part_count doc ≤ length text
few_parts text doc r few =
    let parts : part_count doc ≡ part_count (document_of r.file) = ap part_count r.meaning in
    let tokens : length (map symbol_of (token_list text).tokens) ≡ length (file_symbols r.file) = ap length r.symbols in
    let file : part_count (document_of r.file) ≤ length (file_symbols r.file) = file_parts r.file in
    omega (arith, parts, tokens, file, few, length-map (token_list text).tokens symbol_of)

-- ---- the value of a key

pub value_left : (key : List ℕ) (ps : List (List ℕ × List ℕ)) (i : ℕ) (p : List ℕ × List ℕ) → i < length ps → p ≡ get_or ps i p
    → value_of_key key (drop i ps) ≡ cond (bytes_eq p.0 key) (Some p.1) (value_of_key key (drop (i + 1) ps))
value_left key ps i p within is =
    ap (value_of_key key) (drop-cons ps i p within ∙ ap (λ x. x ∷ drop (suc i) ps) (sym is) ∙ ap (λ m. p ∷ drop m ps) (sym (add-one i)))

-- the value is not among the first i
pub record NotYet (key : List ℕ) (ps : List (List ℕ × List ℕ)) (i : ℕ) : Type 0 where
  pub left : value_of_key key ps ≡ value_of_key key (drop i ps)

pub none_yet : (key : List ℕ) (ps : List (List ℕ × List ℕ)) → NotYet key ps 0
none_yet key ps = record { left = refl }

pub not_this : (key : List ℕ) (ps : List (List ℕ × List ℕ)) (i : ℕ) (p : List ℕ × List ℕ) → NotYet key ps i → i < length ps → p ≡ get_or ps i p → bytes_eq p.0 key ≡ false
    → NotYet key ps (i + 1)
not_this key ps i p h within is test = record { left = h.left ∙ value_left key ps i p within is ∙ ap (λ b. cond b (Some p.1) (value_of_key key (drop (i + 1) ps))) test }

pub this_one : (key : List ℕ) (ps : List (List ℕ × List ℕ)) (i : ℕ) (p : List ℕ × List ℕ) → NotYet key ps i → i < length ps → p ≡ get_or ps i p → bytes_eq p.0 key ≡ true
    → Some p.1 ≡ value_of_key key ps
this_one key ps i p h within is test = sym (h.left ∙ value_left key ps i p within is ∙ ap (λ b. cond b (Some p.1) (value_of_key key (drop (i + 1) ps))) test)

pub no_such : (key : List ℕ) (ps : List (List ℕ × List ℕ)) (i : ℕ) → NotYet key ps i → length ps ≤ i → None ≡ value_of_key key ps
no_such key ps i h past = sym (h.left ∙ ap (value_of_key key) (drop_all i ps past))
