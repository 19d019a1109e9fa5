-- The faces of a brush by what fills their places.
use Rattle.std.proofs.Common.{◌≡◌, ◌&&◌, Bool, true, List, [], ◌∷◌, ◌++◌, map, Option, None, Some, refl, ap, sym, ◌∙◌, append_assoc}
use Rattle.std.proofs.lemmas.List.{append-nil}
use Rattle.std.specs.List.{flat_map, list_all}
use Rattle.fixed_num.specs.Count.{is_number_word}
use Rattle.map_lex.specs.TokenList.{TokenValue}
use Rattle.uv_lock.specs.declared.texture.Format.{Format}
use Rattle.map_text.specs.Grammar.{Symbol, symbol_of, word, bracket, texture_symbols, SurfaceText, surface_symbols, FaceText, face_symbols}
use Rattle.map_text.specs.Fits.{is_material, texture_numbers, surface_numbers, face_fits}
use Rattle.map_text.specs.Refusals.{first_in_brush, a_face, a_number, a_surface, settled, is_bracket, is_number, rest_of_face}
use Rattle.map_text.specs.Parts.{format_of_face}
use Rattle.map_text.proofs.Passing.{all_are-none, and_left, and_right, bracket_of}
use Rattle.map_text.proofs.NumberTexts.{number_fits, number_symbol}
use Rattle.map_text.proofs.Fillings.{Fillings, all_symbols, all_fit, Rebuilds, settles_other}

-- the face of what fills its places
abbrev face_from : Fillings rest_of_face → FaceText
face_from y = record {
  p0 = record { x = y.0; y = y.1.0; z = y.1.1.0 };
  p1 = record { x = y.1.1.1.1.1.0; y = y.1.1.1.1.1.1.0; z = y.1.1.1.1.1.1.1.0 };
  p2 = record { x = y.1.1.1.1.1.1.1.1.1.1.0; y = y.1.1.1.1.1.1.1.1.1.1.1.0; z = y.1.1.1.1.1.1.1.1.1.1.1.1.0 };
  material = y.1.1.1.1.1.1.1.1.1.1.1.1.1.1.0;
  texture = y.1.1.1.1.1.1.1.1.1.1.1.1.1.1.1.0;
  surface = y.1.1.1.1.1.1.1.1.1.1.1.1.1.1.1.1.0.0;
}

-- the faces behind it
abbrev faces_from : Fillings rest_of_face → List FaceText
faces_from y = y.1.1.1.1.1.1.1.1.1.1.1.1.1.1.1.1.0.1

-- a face before its texture
abbrev face_start : Symbol → FaceText → List Symbol → List Symbol
face_start s f l =
    s ∷ word f.p0.x ∷ word f.p0.y ∷ word f.p0.z ∷ bracket 41 ∷ bracket 40 ∷ word f.p1.x ∷ word f.p1.y ∷ word f.p1.z ∷ bracket 41
    ∷ bracket 40 ∷ word f.p2.x ∷ word f.p2.y ∷ word f.p2.z ∷ bracket 41 ∷ f.material ∷ l

-- the end of a brush behind a face
abbrev faces_end : List FaceText → List Symbol
faces_end fs = flat_map face_symbols fs ++ bracket 125 ∷ []

face_symbols_are : (t : TokenValue) (y : Fillings rest_of_face) → is_bracket 40 t ≡ true
    → flat_map face_symbols (face_from y ∷ faces_from y) ++ bracket 125 ∷ [] ≡ symbol_of t ∷ all_symbols rest_of_face y
face_symbols_are t y h =
    let texture = texture_symbols (face_from y).texture in
    let surface = surface_symbols (face_from y).surface in
    ap (face_start (bracket 40) (face_from y))
    (append_assoc (texture ++ surface) (flat_map face_symbols (faces_from y)) (bracket 125 ∷ []) ∙ append_assoc texture surface (faces_end (faces_from y)))
    ∙ (λ i. face_start (sym (bracket_of t 40 h) i) (face_from y) (texture ++ sym (append-nil (surface ++ faces_end (faces_from y))) i))

-- thirteen tests, regrouped
regrouped : (a b c d e f g h i m x s l : Bool) → (a && (b && (c && (d && (e && (f && (g && (h && (i && (m && (x && ((s && l) && true)))))))))))) ≡ true
    → (((a && (b && (c && (d && (e && (f && (g && (h && (i && true))))))))) && (m && (x && s))) && l) ≡ true
regrouped a b c d e f g h i m x s l k =
    let kb = and_right a _ k in let kc = and_right b _ kb in let kd = and_right c _ kc in let ke = and_right d _ kd in let kf = and_right e _ ke in let kg = and_right f _ kf in
    let kh = and_right g _ kg in let ki = and_right h _ kh in let km = and_right i _ ki in let kx = and_right m _ km in let kl = and_left (s && l) true (and_right x _ kx) in
    (λ j. (((and_left a _ k j && (and_left b _ kb j && (and_left c _ kc j && (and_left d _ kd j && (and_left e _ ke j && (and_left f _ kf j && (and_left g _ kg j && (and_left h _ kh j && (and_left i _ ki j && true)))))))))
    && (and_left m _ km j && (and_left x _ kx j && and_left s _ kl j))) && and_right s _ kl j))

face_fit_is : (y : Fillings rest_of_face) → all_fit rest_of_face y ≡ true → list_all face_fits (face_from y ∷ faces_from y) ≡ true
face_fit_is y k =
    regrouped (is_number_word (face_from y).p0.x) (is_number_word (face_from y).p0.y) (is_number_word (face_from y).p0.z)
    (is_number_word (face_from y).p1.x) (is_number_word (face_from y).p1.y) (is_number_word (face_from y).p1.z)
    (is_number_word (face_from y).p2.x) (is_number_word (face_from y).p2.y) (is_number_word (face_from y).p2.z)
    (is_material (face_from y).material) (list_all is_number_word (texture_numbers (face_from y).texture)) (list_all is_number_word (surface_numbers (face_from y).surface))
    (list_all face_fits (faces_from y)) k

-- ---- a face begins: the first one of its brush, a further one, or one behind a face without surface numbers

pub face_rebuilt : (first : Option Format) (t : TokenValue) → is_bracket 40 t ≡ true → Rebuilds first a_face t rest_of_face
unfolding Rebuilds
face_rebuilt first t h = λ y. record {
  filling = face_from y ∷ faces_from y;
  symbols = face_symbols_are t y h;
  fit = face_fit_is y;
  kinds = [];
  formats_are = ap (λ l. format_of_face (face_from y) ∷ l) (sym (append-nil (map format_of_face (faces_from y))));
  settles = settles_other first a_face t refl;
  agrees = all_are-none (settled first a_face t);
}

pub first_rebuilt : (first : Option Format) (t : TokenValue) → is_bracket 40 t ≡ true → Rebuilds first first_in_brush t rest_of_face
unfolding Rebuilds
first_rebuilt first t h = λ y. record {
  filling = face_from y ∷ faces_from y;
  symbols = face_symbols_are t y h;
  fit = face_fit_is y;
  kinds = [];
  formats_are = ap (λ l. format_of_face (face_from y) ∷ l) (sym (append-nil (map format_of_face (faces_from y))));
  settles = settles_other first first_in_brush t refl;
  agrees = all_are-none (settled first first_in_brush t);
}

pub next_rebuilt : (first : Option Format) (t : TokenValue) → is_bracket 40 t ≡ true → Rebuilds first a_surface t rest_of_face
unfolding Rebuilds
next_rebuilt first t h = λ y. record {
  filling = (None, face_from y ∷ faces_from y);
  symbols = face_symbols_are t y h;
  fit = face_fit_is y;
  kinds = [];
  formats_are = ap (λ l. format_of_face (face_from y) ∷ l) (sym (append-nil (map format_of_face (faces_from y))));
  settles = settles_other first a_surface t refl;
  agrees = all_are-none (settled first a_surface t);
}

-- ---- a brush ends

pub closed_face : (first : Option Format) (t : TokenValue) → is_bracket 125 t ≡ true → Rebuilds first a_face t []
unfolding Rebuilds
closed_face first t h = λ y. record {
  filling = [];
  symbols = ap (λ s. s ∷ []) (sym (bracket_of t 125 h));
  fit = λ k. refl;
  kinds = [];
  formats_are = refl;
  settles = settles_other first a_face t refl;
  agrees = all_are-none (settled first a_face t);
}

pub closed_brush : (first : Option Format) (t : TokenValue) → is_bracket 125 t ≡ true → Rebuilds first first_in_brush t []
unfolding Rebuilds
closed_brush first t h = λ y. record {
  filling = [];
  symbols = ap (λ s. s ∷ []) (sym (bracket_of t 125 h));
  fit = λ k. refl;
  kinds = [];
  formats_are = refl;
  settles = settles_other first first_in_brush t refl;
  agrees = all_are-none (settled first first_in_brush t);
}

pub closed_behind : (first : Option Format) (t : TokenValue) → is_bracket 125 t ≡ true → Rebuilds first a_surface t []
unfolding Rebuilds
closed_behind first t h = λ y. record {
  filling = (None, []);
  symbols = ap (λ s. s ∷ []) (sym (bracket_of t 125 h));
  fit = λ k. refl;
  kinds = [];
  formats_are = refl;
  settles = settles_other first a_surface t refl;
  agrees = all_are-none (settled first a_surface t);
}

-- ---- surface numbers begin

four_fit : (a b c l : Bool) → a ≡ true → (b && (c && (l && true))) ≡ true → ((a && (b && (c && true))) && l) ≡ true
four_fit a b c l h k =
    let kc = and_right b _ k in let kl = and_right c _ kc in
    (λ i. ((h i && (and_left b _ k i && (and_left c _ kc i && true))) && and_left l true kl i))

pub surface_rebuilt : (first : Option Format) (t : TokenValue) → is_number t ≡ true → Rebuilds first a_surface t (a_number ∷ a_number ∷ a_face ∷ [])
unfolding Rebuilds
surface_rebuilt first t h = λ y. record {
  filling = (Some (let s : SurfaceText = record { contents = t.text; flags = y.0; value = y.1.0 } in s), y.1.1.0);
  symbols = (λ i. sym (number_symbol t h) i ∷ word y.0 ∷ word y.1.0 ∷ sym (append-nil (faces_end y.1.1.0)) i);
  fit = λ k. four_fit (is_number_word t.text) (is_number_word y.0) (is_number_word y.1.0) (list_all face_fits y.1.1.0) (number_fits t h) k;
  kinds = [];
  formats_are = sym (append-nil (map format_of_face y.1.1.0));
  settles = settles_other first a_surface t refl;
  agrees = all_are-none (settled first a_surface t);
}
