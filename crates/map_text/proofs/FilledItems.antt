-- Entities, properties and single tokens by what fills their places.
use Rattle.std.proofs.Common.{◌≡◌, ℕ, ◌&&◌, true, false, not, List, [], ◌∷◌, ◌++◌, map, Option, refl, ap, sym, ◌∙◌, append_assoc}
use Rattle.std.proofs.lemmas.List.{append-nil}
use Rattle.std.specs.List.{flat_map, list_all}
use Rattle.map_lex.specs.TokenList.{TokenValue}
use Rattle.uv_lock.specs.declared.texture.Format.{Format}
use Rattle.map_lex.specs.OneToken.{ends_with_backslash}
use Rattle.map_text.specs.declared.read_fault.What.{What}
use Rattle.map_text.specs.Grammar.{Symbol, symbol_of, quote, bracket, face_symbols, property, brush, item_symbols, file_symbols}
use Rattle.map_text.specs.Fits.{is_material, face_fits, item_fits, formats}
use Rattle.map_text.specs.Refusals.{an_entity, an_item, a_value, first_in_brush, mark, a_number, a_material, settled, is_bracket, is_number}
use Rattle.map_text.specs.Parts.{format_of_face}
use Rattle.map_text.proofs.Passing.{all_are-none, and_left, and_right, quote_of, bracket_of}
use Rattle.map_text.proofs.NumberTexts.{number_fits, number_symbol}
use Rattle.map_text.proofs.EntityTexts.{formats_of}
use Rattle.map_text.proofs.MapTexts.{entity_fits}
use Rattle.map_text.proofs.Fillings.{Rebuilds, settles_other}

pub entity_rebuilt : (first : Option Format) (t : TokenValue) → is_bracket 123 t ≡ true → Rebuilds first an_entity t (an_item ∷ an_entity ∷ [])
unfolding Rebuilds
entity_rebuilt first t h = λ y. record {
  filling = y.0 ∷ y.1.0;
  symbols = (λ i. sym (bracket_of t 123 h) i ∷ (flat_map item_symbols y.0 ++ bracket 125 ∷ []) ++ sym (append-nil (file_symbols y.1.0)) i);
  fit = λ k. (λ i. and_left (entity_fits y.0) _ k i && and_left (list_all entity_fits y.1.0) true (and_right (entity_fits y.0) _ k) i);
  kinds = [];
  formats_are = ap (λ l. formats_of y.0 ++ l) (sym (append-nil (formats y.1.0)));
  settles = settles_other first an_entity t refl;
  agrees = all_are-none (settled first an_entity t);
}

pub key_rebuilt : (first : Option Format) (t : TokenValue) → t.quoted ≡ true → ends_with_backslash t.text ≡ false → Rebuilds first an_item t (a_value ∷ an_item ∷ [])
unfolding Rebuilds
key_rebuilt first t h e = λ y. record {
  filling = property t.text y.0 ∷ y.1.0;
  symbols = (λ i. sym (quote_of t h) i ∷ quote y.0 ∷ sym (append-nil (flat_map item_symbols y.1.0 ++ bracket 125 ∷ [])) i);
  fit = λ k. (λ i. not (e i) && and_left (list_all item_fits y.1.0) true k i);
  kinds = [];
  formats_are = sym (append-nil (formats_of y.1.0));
  settles = settles_other first an_item t refl;
  agrees = all_are-none (settled first an_item t);
}

pub brush_rebuilt : (first : Option Format) (t : TokenValue) → is_bracket 123 t ≡ true → Rebuilds first an_item t (first_in_brush ∷ an_item ∷ [])
unfolding Rebuilds
brush_rebuilt first t h = λ y.
    let faces : List Symbol = flat_map face_symbols y.0 ++ bracket 125 ∷ [] in
    record {
      filling = brush y.0 ∷ y.1.0;
      symbols = ap (λ l. bracket 123 ∷ l) (append_assoc faces (flat_map item_symbols y.1.0) (bracket 125 ∷ []))
          ∙ (λ i. sym (bracket_of t 123 h) i ∷ faces ++ sym (append-nil (flat_map item_symbols y.1.0 ++ bracket 125 ∷ [])) i);
      fit = λ k. (λ i. and_left (list_all face_fits y.0) _ k i && and_left (list_all item_fits y.1.0) true (and_right (list_all face_fits y.0) _ k) i);
      kinds = [];
      formats_are = ap (λ l. map format_of_face y.0 ++ l) (sym (append-nil (formats_of y.1.0)));
      settles = settles_other first an_item t refl;
      agrees = all_are-none (settled first an_item t);
    }

pub closed_entity : (first : Option Format) (t : TokenValue) → is_bracket 125 t ≡ true → Rebuilds first an_item t []
unfolding Rebuilds
closed_entity first t h = λ y. record {
  filling = [];
  symbols = ap (λ s. s ∷ []) (sym (bracket_of t 125 h));
  fit = λ k. refl;
  kinds = [];
  formats_are = refl;
  settles = settles_other first an_item t refl;
  agrees = all_are-none (settled first an_item t);
}

pub value_rebuilt : (first : Option Format) (t : TokenValue) → t.quoted ≡ true → Rebuilds first a_value t []
unfolding Rebuilds
value_rebuilt first t h = λ y. record {
  filling = t.text;
  symbols = ap (λ s. s ∷ []) (sym (quote_of t h));
  fit = λ k. refl;
  kinds = [];
  formats_are = refl;
  settles = settles_other first a_value t refl;
  agrees = all_are-none (settled first a_value t);
}

pub mark_rebuilt : (first : Option Format) (byte : ℕ) (what : What) (t : TokenValue) → is_bracket byte t ≡ true → Rebuilds first (mark byte what) t []
unfolding Rebuilds
mark_rebuilt first byte what t h = λ y. record {
  filling = tt;
  symbols = ap (λ s. s ∷ []) (sym (bracket_of t byte h));
  fit = λ k. refl;
  kinds = [];
  formats_are = refl;
  settles = settles_other first (mark byte what) t refl;
  agrees = all_are-none (settled first (mark byte what) t);
}

pub number_rebuilt : (first : Option Format) (t : TokenValue) → is_number t ≡ true → Rebuilds first a_number t []
unfolding Rebuilds
number_rebuilt first t h = λ y. record {
  filling = t.text;
  symbols = ap (λ s. s ∷ []) (sym (number_symbol t h));
  fit = λ k. number_fits t h;
  kinds = [];
  formats_are = refl;
  settles = settles_other first a_number t refl;
  agrees = all_are-none (settled first a_number t);
}

pub material_rebuilt : (first : Option Format) (t : TokenValue) → is_material (symbol_of t) ≡ true → Rebuilds first a_material t []
unfolding Rebuilds
material_rebuilt first t h = λ y. record {
  filling = symbol_of t;
  symbols = refl;
  fit = λ k. h;
  kinds = [];
  formats_are = refl;
  settles = settles_other first a_material t refl;
  agrees = all_are-none (settled first a_material t);
}
