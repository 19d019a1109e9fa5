-- Brushes that are read.
use Rattle.std.proofs.Common.{◌≡◌, ◌<◌, ◌&&◌, Bool, true, false, List, [], ◌∷◌, ◌++◌, map, length, Result, ap, sym, ◌∙◌, refl, arith, Option}
use Rattle.std.proofs.lemmas.Bool.{false≢true}
use Rattle.std.proofs.lemmas.List.{append-nil, map-append}
use Rattle.std.proofs.lemmas.Grind.{flat_map-append}
use Rattle.std.specs.List.{flat_map, list_all}
use Rattle.map_lex.specs.TokenList.{TokenValue}
use Rattle.uv_lock.specs.declared.face.Face.{Face}
use Rattle.uv_lock.specs.declared.texture.Format.{Format}
use Rattle.map_text.specs.declared.document.RawBrush.{RawBrush}
use Rattle.map_text.specs.declared.document.Reason.{Reason}
use Rattle.map_text.specs.declared.read_fault.ReadFault.TheVariants.{Expected, UnknownBlock}
use Rattle.map_text.specs.declared.read_fault.What.TheVariants.{Face as AFace}
use Rattle.map_text.specs.Grammar.{FaceText, face_symbols, bracket}
use Rattle.map_text.specs.Fits.{face_fits}
use Rattle.map_text.specs.Meaning.{raw_brush_of}
use Rattle.map_text.specs.Refusals.{first_in_brush, a_face, rest_of_face, is_bracket, names_block, step, fits, refused}
use Rattle.map_text.specs.Reading.{ReaderState, Passes, IsNext, IsRead, IsRefused, is_inner}
use Rattle.map_text.specs.Judged.{with_face}
use Rattle.map_text.specs.Parts.{face_part, brush_part, format_of_face, face_place, BeginsFace}
use Rattle.map_text.proofs.Passing.{is_texture, passes_none, passes_as, passes_token, stops_token, bracket_of, joined, all_appended, shorter, no_longer}
use Rattle.map_text.proofs.BrushReasons.{one_face_more}

-- ---- the bracket of a face, or of the brush's end

face_opens : (first : Bool) (t : TokenValue) → (first && names_block t) ≡ false → is_bracket 40 t ≡ true → (f : Option Format) → step f (face_place first) t ≡ fits rest_of_face
face_opens true t h k f = rw (h, k) refl
face_opens false t h k f = rw k refl

face_closes : (first : Bool) (t : TokenValue) → (first && names_block t) ≡ false → is_bracket 40 t ≡ false → is_bracket 125 t ≡ true → (f : Option Format) → step f (face_place first) t ≡ fits []
face_closes true t h k l f = rw (h, k, l) refl
face_closes false t h k l f = rw (k, l) refl

face_unfits : (first : Bool) (t : TokenValue) → (first && names_block t) ≡ false → is_bracket 40 t ≡ false → is_bracket 125 t ≡ false → (f : Option Format) → step f (face_place first) t ≡ refused (Expected AFace t.line)
face_unfits true t h k l f = rw (h, k, l) refl
face_unfits false t h k l f = rw (k, l) refl

block_stops : (first : Bool) (t : TokenValue) → first ≡ true → names_block t ≡ true → (f : Option Format) → step f (face_place first) t ≡ refused (UnknownBlock t.line)
block_stops true t h k f = rw k refl
block_stops false t h k f = absurd (false≢true h)

no_texture_there : (first : Bool) → is_texture (face_place first) ≡ false
no_texture_there true = refl
no_texture_there false = refl

pub begins_face_yes : (old new : ReaderState) (t : TokenValue) (first : Bool) → IsNext old t new → (first && names_block t) ≡ false → is_bracket 40 t ≡ true → BeginsFace old new first true
begins_face_yes old new t first next h k =
    passes_token old new (face_place first) t rest_of_face (bracket 40) next (no_texture_there first) (face_opens first t h k old.first) (bracket_of t 40 k)

pub begins_face_no : (old new : ReaderState) (t : TokenValue) (first : Bool) → IsNext old t new → (first && names_block t) ≡ false → is_bracket 40 t ≡ false → is_bracket 125 t ≡ true → BeginsFace old new first false
begins_face_no old new t first next h k l =
    passes_token old new (face_place first) t [] (bracket 125) next (no_texture_there first) (face_closes first t h k l old.first) (bracket_of t 125 l)

pub no_face : (old new : ReaderState) (t : TokenValue) (first : Bool) → IsNext old t new → (first && names_block t) ≡ false → is_bracket 40 t ≡ false → is_bracket 125 t ≡ false
    → IsRefused old (face_place first ∷ []) (Expected AFace t.line)
no_face old new t first next h k l = stops_token old new (face_place first) t (Expected AFace t.line) next (face_unfits first t h k l old.first)

pub other_block : (old new : ReaderState) (t : TokenValue) (first : Bool) → IsNext old t new → first ≡ true → names_block t ≡ true → IsRefused old (face_place first ∷ []) (UnknownBlock t.line)
other_block old new t first next h k = stops_token old new (face_place first) t (UnknownBlock t.line) next (block_stops first t h k old.first)

pub is_inner_face : (first : Bool) → is_inner (face_place first) ≡ true
is_inner_face true = refl
is_inner_face false = refl

-- ---- the faces so far

pub record BrushSoFar (start now : ReaderState) (is_first : Bool) (brush : RawBrush) : Type 0 where
  pub texts : List FaceText
  pub fit : list_all face_fits texts ≡ true
  pub passes : Passes start now (first_in_brush ∷ []) (face_place is_first ∷ []) (flat_map face_symbols texts) (map format_of_face texts)
  pub meaning : brush ≡ raw_brush_of texts

pub no_faces : (start : ReaderState) (brush : RawBrush) → brush ≡ raw_brush_of [] → BrushSoFar start start true brush
no_faces start brush e = record { texts = []; fit = refl; passes = passes_none start (first_in_brush ∷ []); meaning = e }

pub face_more : {start s1 s2 s3 : ReaderState} {is_first : Bool} {brush : RawBrush} {face : Result Face Reason} → BrushSoFar start s1 is_first brush → BeginsFace s1 s2 is_first true
    → IsRead face_part rest_of_face (a_face ∷ []) s2 s3 face → BrushSoFar start s3 false (with_face brush face)
face_more {start} {s1} {s2} {s3} {is_first} b begins f = record {
  texts = b.texts ++ f.text ∷ [];
  fit = all_appended face_fits b.texts (f.text ∷ []) b.fit (λ i. f.fit i && true);
  passes = passes_as
      (joined start s1 s3 (first_in_brush ∷ []) (face_place is_first ∷ []) (a_face ∷ []) _ _ _ _ b.passes
      (joined s1 s2 s3 (face_place is_first ∷ []) rest_of_face (a_face ∷ []) _ _ _ _ begins f.passes))
      (ap (λ l. flat_map face_symbols b.texts ++ l) (sym (append-nil (face_symbols f.text))) ∙ sym (flat_map-append face_symbols b.texts (f.text ∷ [])))
      (sym (map-append format_of_face b.texts (f.text ∷ [])));
  meaning = (λ i. with_face (b.meaning i) (f.meaning i)) ∙ one_face_more b.texts f.text;
}

pub brush_read : {start s1 s2 : ReaderState} {is_first : Bool} {brush : RawBrush} → BrushSoFar start s1 is_first brush → BeginsFace s1 s2 is_first false
    → IsRead brush_part (first_in_brush ∷ []) [] start s2 brush
brush_read {start} {s1} {s2} {is_first} b ends = record {
  text = b.texts;
  fit = b.fit;
  passes = passes_as (joined start s1 s2 (first_in_brush ∷ []) (face_place is_first ∷ []) [] _ _ _ _ b.passes ends) refl (append-nil (map format_of_face b.texts));
  meaning = b.meaning;
}

pub face_shorter : {s1 s2 s3 : ReaderState} (is_first : Bool) {face : Result Face Reason} → BeginsFace s1 s2 is_first true → IsRead face_part rest_of_face (a_face ∷ []) s2 s3 face
    → length s3.left.tokens < length s1.left.tokens
face_shorter is_first begins f = let h = shorter begins in let k = no_longer f.passes in omega (arith, h, k)
