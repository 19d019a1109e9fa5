-- The symbols of a file determine it.
use Rattle.std.proofs.Common.{◌≡◌, ℕ, ◌&&◌, true, false, Option, None, Some, List, [], ◌∷◌, ◌++◌, refl, ap, sym, ◌∙◌, append_assoc, arith}
use Rattle.std.proofs.lemmas.Bool.{false≢true}
use Rattle.std.specs.List.{flat_map, list_all}
use Rattle.fixed_num.specs.Count.{is_number_word}
use Rattle.fixed_num.specs.Scan.{scan, scan_unsigned}
use Rattle.map_text.specs.declared.document.MapDoc.{MapDoc}
use Rattle.map_text.specs.Grammar.{Symbol, word, quote, bracket, AxisText, TextureText, standard, valve, texture_symbols, SurfaceText, surface_symbols, FaceText, face_symbols, Item, property, brush, item_symbols, file_symbols}
use Rattle.map_text.specs.Fits.{coordinates, is_material, texture_numbers, surface_numbers, face_fits, item_fits}
use Rattle.map_text.specs.Meaning.{document_of}
use Rattle.map_text.specs.Reads.{Reads}
use Rattle.map_text.proofs.Passing.{and_left, and_right}
use Rattle.map_text.proofs.MapTexts.{entity_fits}

-- ---- equal lists of symbols

symbol_or_none : List Symbol → Symbol
symbol_or_none [] = word []
symbol_or_none (s ∷ ss) = s

rest_of : List Symbol → List Symbol
rest_of [] = []
rest_of (s ∷ ss) = ss

heads : (s t : Symbol) (ss ts : List Symbol) → s ∷ ss ≡ t ∷ ts → s ≡ t
unfolding symbol_or_none
heads s t ss ts e = ap symbol_or_none e

texts : (s t : Symbol) (ss ts : List Symbol) → s ∷ ss ≡ t ∷ ts → s.text ≡ t.text
texts s t ss ts e = ap (λ s. s.text) (heads s t ss ts e)

tails : (s t : Symbol) (ss ts : List Symbol) → s ∷ ss ≡ t ∷ ts → ss ≡ ts
unfolding rest_of
tails s t ss ts e = ap rest_of e

-- a word is no quoted text
plain_quoted : {A : Type 0} (a b : List ℕ) (ss ts : List Symbol) → word a ∷ ss ≡ quote b ∷ ts → A
plain_quoted a b ss ts e = absurd (false≢true (ap (λ s. s.quoted) (heads (word a) (quote b) ss ts e)))

-- the byte of a bracket
first_byte : List ℕ → ℕ
first_byte [] = 0
first_byte (b ∷ text) = b

pub bracket_is_no_number : is_number_word (91 ∷ []) ≡ false
unfolding is_number_word scan scan_unsigned
bracket_is_no_number = refl

pub opening_is_no_number : is_number_word (40 ∷ []) ≡ false
unfolding is_number_word scan scan_unsigned
opening_is_no_number = refl

pub closing_is_no_number : is_number_word (125 ∷ []) ≡ false
unfolding is_number_word scan scan_unsigned
closing_is_no_number = refl

number_is_no_bracket : {A : Type 0} (w : List ℕ) (byte : ℕ) (ss ts : List Symbol) → is_number_word w ≡ true → is_number_word (byte ∷ []) ≡ false → word w ∷ ss ≡ bracket byte ∷ ts → A
number_is_no_bracket w byte ss ts h never e =
    absurd (false≢true (sym never ∙ ap is_number_word (sym (texts (word w) (bracket byte) ss ts e)) ∙ h))

-- ---- textures

record SameTexture (a b : TextureText) (r q : List Symbol) : Type 0 where
  texture : a ≡ b
  rest : r ≡ q

texture_one : (a b : TextureText) (r q : List Symbol) → list_all is_number_word (texture_numbers a) ≡ true → list_all is_number_word (texture_numbers b) ≡ true
    → texture_symbols a ++ r ≡ texture_symbols b ++ q → SameTexture a b r q
texture_one (standard a0 a1 a2 a3 a4) (standard b0 b1 b2 b3 b4) r q h k e =
    let e1 = tails _ _ _ _ e in let e2 = tails _ _ _ _ e1 in let e3 = tails _ _ _ _ e2 in let e4 = tails _ _ _ _ e3 in
    record {
      texture = (λ i. standard (texts _ _ _ _ e i) (texts _ _ _ _ e1 i) (texts _ _ _ _ e2 i) (texts _ _ _ _ e3 i) (texts _ _ _ _ e4 i));
      rest = tails _ _ _ _ e4;
    }
texture_one (standard a0 a1 a2 a3 a4) (valve u v b2 b3 b4) r q h k e = number_is_no_bracket a0 91 _ _ (and_left (is_number_word a0) _ h) bracket_is_no_number e
texture_one (valve u v a2 a3 a4) (standard b0 b1 b2 b3 b4) r q h k e = number_is_no_bracket b0 91 _ _ (and_left (is_number_word b0) _ k) bracket_is_no_number (sym e)
texture_one (valve u v a2 a3 a4) (valve u' v' b2 b3 b4) r q h k e =
    let x1 = tails _ _ _ _ e in let x2 = tails _ _ _ _ x1 in let x3 = tails _ _ _ _ x2 in let x4 = tails _ _ _ _ x3 in let x5 = tails _ _ _ _ x4 in let x6 = tails _ _ _ _ x5 in
    let y1 = tails _ _ _ _ x6 in let y2 = tails _ _ _ _ y1 in let y3 = tails _ _ _ _ y2 in let y4 = tails _ _ _ _ y3 in let y5 = tails _ _ _ _ y4 in let y6 = tails _ _ _ _ y5 in
    let z1 = tails _ _ _ _ y6 in let z2 = tails _ _ _ _ z1 in
    record {
      texture = (λ i. valve (let a : AxisText = record { x = texts _ _ _ _ x1 i; y = texts _ _ _ _ x2 i; z = texts _ _ _ _ x3 i; offset = texts _ _ _ _ x4 i } in a)
          (let a : AxisText = record { x = texts _ _ _ _ y1 i; y = texts _ _ _ _ y2 i; z = texts _ _ _ _ y3 i; offset = texts _ _ _ _ y4 i } in a)
          (texts _ _ _ _ y6 i) (texts _ _ _ _ z1 i) (texts _ _ _ _ z2 i));
      rest = tails _ _ _ _ z2;
    }

-- ---- faces

-- what stands behind a face in a brush: further faces, and the bracket of the end
behind_face : List FaceText → List Symbol → List Symbol
behind_face fs r = flat_map face_symbols fs ++ (bracket 125 ∷ r)

-- no number word begins there
number_is_not_behind : {A : Type 0} (w : List ℕ) (fs : List FaceText) (r ss : List Symbol) → is_number_word w ≡ true → word w ∷ ss ≡ behind_face fs r → A
unfolding behind_face
number_is_not_behind w [] r ss h e = number_is_no_bracket w 125 _ _ h closing_is_no_number e
number_is_not_behind w (f ∷ fs) r ss h e = number_is_no_bracket w 40 _ _ h opening_is_no_number e

record SameSurface (a b : Option SurfaceText) (r q : List Symbol) : Type 0 where
  surface : a ≡ b
  rest : r ≡ q

surface_one : (a b : Option SurfaceText) (fs gs : List FaceText) (r q : List Symbol) → list_all is_number_word (surface_numbers a) ≡ true → list_all is_number_word (surface_numbers b) ≡ true
    → surface_symbols a ++ behind_face fs r ≡ surface_symbols b ++ behind_face gs q → SameSurface a b (behind_face fs r) (behind_face gs q)
surface_one None None fs gs r q h k e = record { surface = refl; rest = e }
surface_one (Some a) None fs gs r q h k e = number_is_not_behind a.contents gs q _ (and_left (is_number_word a.contents) _ h) e
surface_one None (Some b) fs gs r q h k e = number_is_not_behind b.contents fs r _ (and_left (is_number_word b.contents) _ k) (sym e)
surface_one (Some a) (Some b) fs gs r q h k e =
    let e1 = tails _ _ _ _ e in let e2 = tails _ _ _ _ e1 in
    record {
      surface = (λ i. Some (let s : SurfaceText = record { contents = texts _ _ _ _ e i; flags = texts _ _ _ _ e1 i; value = texts _ _ _ _ e2 i } in s));
      rest = tails _ _ _ _ e2;
    }

record SameFace (a b : FaceText) (r q : List Symbol) : Type 0 where
  face : a ≡ b
  rest : r ≡ q

texture_fit : (f : FaceText) → face_fits f ≡ true → list_all is_number_word (texture_numbers f.texture) ≡ true
texture_fit f h =
    let texture = list_all is_number_word (texture_numbers f.texture) in
    let surface = list_all is_number_word (surface_numbers f.surface) in
    and_left texture surface (and_right (is_material f.material) (texture && surface) (and_right (list_all is_number_word (coordinates f)) (is_material f.material && (texture && surface)) h))

pub surface_fit : (f : FaceText) → face_fits f ≡ true → list_all is_number_word (surface_numbers f.surface) ≡ true
surface_fit f h =
    let texture = list_all is_number_word (texture_numbers f.texture) in
    let surface = list_all is_number_word (surface_numbers f.surface) in
    and_right texture surface (and_right (is_material f.material) (texture && surface) (and_right (list_all is_number_word (coordinates f)) (is_material f.material && (texture && surface)) h))

face_one : (a b : FaceText) (fs gs : List FaceText) (r q : List Symbol) → face_fits a ≡ true → face_fits b ≡ true → face_symbols a ++ behind_face fs r ≡ face_symbols b ++ behind_face gs q
    → SameFace a b (behind_face fs r) (behind_face gs q)
face_one a b fs gs r q h k e =
    let x1 = tails _ _ _ _ e in let x2 = tails _ _ _ _ x1 in let x3 = tails _ _ _ _ x2 in let x4 = tails _ _ _ _ x3 in let x5 = tails _ _ _ _ x4 in
    let y1 = tails _ _ _ _ x5 in let y2 = tails _ _ _ _ y1 in let y3 = tails _ _ _ _ y2 in let y4 = tails _ _ _ _ y3 in let y5 = tails _ _ _ _ y4 in
    let z1 = tails _ _ _ _ y5 in let z2 = tails _ _ _ _ z1 in let z3 = tails _ _ _ _ z2 in let z4 = tails _ _ _ _ z3 in let z5 = tails _ _ _ _ z4 in
    let behind = sym (append_assoc (texture_symbols a.texture) (surface_symbols a.surface) (behind_face fs r)) ∙ tails _ _ _ _ z5
    ∙ append_assoc (texture_symbols b.texture) (surface_symbols b.surface) (behind_face gs q) in
    let t : SameTexture a.texture b.texture (surface_symbols a.surface ++ behind_face fs r) (surface_symbols b.surface ++ behind_face gs q) =
    texture_one a.texture b.texture _ _ (texture_fit a h) (texture_fit b k) behind in
    let s : SameSurface a.surface b.surface (behind_face fs r) (behind_face gs q) = surface_one a.surface b.surface fs gs r q (surface_fit a h) (surface_fit b k) t.rest in
    record {
      face = (λ i. let f : FaceText = record {
        p0 = record { x = texts _ _ _ _ x1 i; y = texts _ _ _ _ x2 i; z = texts _ _ _ _ x3 i };
        p1 = record { x = texts _ _ _ _ y1 i; y = texts _ _ _ _ y2 i; z = texts _ _ _ _ y3 i };
        p2 = record { x = texts _ _ _ _ z1 i; y = texts _ _ _ _ z2 i; z = texts _ _ _ _ z3 i };
        material = heads _ _ _ _ z5 i;
        texture = t.texture i;
        surface = s.surface i;
      } in f);
      rest = s.rest;
    }

record SameFaces (a b : List FaceText) (r q : List Symbol) : Type 0 where
  faces : a ≡ b
  rest : r ≡ q

-- a face begins with another bracket than the one that ends a brush
open_closes : {A : Type 0} (ss ts : List Symbol) → bracket 40 ∷ ss ≡ bracket 125 ∷ ts → A
unfolding first_byte
open_closes ss ts e = let n : 40 ≡ 125 = ap first_byte (texts (bracket 40) (bracket 125) ss ts e) in absurd (omega (arith, n))

faces_one : (xs ys : List FaceText) (r q : List Symbol) → list_all face_fits xs ≡ true → list_all face_fits ys ≡ true → behind_face xs r ≡ behind_face ys q → SameFaces xs ys r q
unfolding behind_face
faces_one [] [] r q h k e = record { faces = refl; rest = tails _ _ _ _ e }
faces_one [] (b ∷ ys) r q h k e = open_closes _ _ (sym e)
faces_one (a ∷ xs) [] r q h k e = open_closes _ _ e
faces_one (a ∷ xs) (b ∷ ys) r q h k e =
    let e' : face_symbols a ++ behind_face xs r ≡ face_symbols b ++ behind_face ys q =
    sym (append_assoc (face_symbols a) (flat_map face_symbols xs) (bracket 125 ∷ r)) ∙ e ∙ append_assoc (face_symbols b) (flat_map face_symbols ys) (bracket 125 ∷ q) in
    let f : SameFace a b (behind_face xs r) (behind_face ys q) = face_one a b xs ys r q (and_left (face_fits a) _ h) (and_left (face_fits b) _ k) e' in
    let fs : SameFaces xs ys r q = faces_one xs ys r q (and_right (face_fits a) _ h) (and_right (face_fits b) _ k) f.rest in
    record { faces = (λ i. f.face i ∷ fs.faces i); rest = fs.rest }

-- ---- items

record SameItems (a b : List Item) (r q : List Symbol) : Type 0 where
  items : a ≡ b
  rest : r ≡ q

brush_closes : {A : Type 0} (ss ts : List Symbol) → bracket 123 ∷ ss ≡ bracket 125 ∷ ts → A
unfolding first_byte
brush_closes ss ts e = let n : 123 ≡ 125 = ap first_byte (texts (bracket 123) (bracket 125) ss ts e) in absurd (omega (arith, n))

-- what stands behind the faces of a brush
behind_faces : List FaceText → List Item → List Symbol → List Symbol
behind_faces fs items r = flat_map face_symbols fs ++ (bracket 125 ∷ (flat_map item_symbols items ++ (bracket 125 ∷ r)))

brush_first : (fs : List FaceText) (items : List Item) (r : List Symbol) → flat_map item_symbols (brush fs ∷ items) ++ (bracket 125 ∷ r) ≡ bracket 123 ∷ behind_faces fs items r
unfolding behind_faces
brush_first fs items r =
    ap (λ l. bracket 123 ∷ l)
    (append_assoc (flat_map face_symbols fs ++ bracket 125 ∷ []) (flat_map item_symbols items) (bracket 125 ∷ r)
    ∙ append_assoc (flat_map face_symbols fs) (bracket 125 ∷ []) (flat_map item_symbols items ++ (bracket 125 ∷ r)))

items_one : (xs ys : List Item) (r q : List Symbol) → list_all item_fits xs ≡ true → list_all item_fits ys ≡ true
    → flat_map item_symbols xs ++ (bracket 125 ∷ r) ≡ flat_map item_symbols ys ++ (bracket 125 ∷ q) → SameItems xs ys r q
unfolding behind_faces behind_face
items_one [] [] r q h k e = record { items = refl; rest = tails _ _ _ _ e }
items_one [] (property key value ∷ ys) r q h k e = plain_quoted (125 ∷ []) key _ _ e
items_one [] (brush fs ∷ ys) r q h k e = brush_closes _ _ (sym e)
items_one (property key value ∷ xs) [] r q h k e = plain_quoted (125 ∷ []) key _ _ (sym e)
items_one (brush fs ∷ xs) [] r q h k e = brush_closes _ _ e
items_one (property key value ∷ xs) (brush fs ∷ ys) r q h k e = plain_quoted (123 ∷ []) key _ _ (sym e)
items_one (brush fs ∷ xs) (property key value ∷ ys) r q h k e = plain_quoted (123 ∷ []) key _ _ e
items_one (property key value ∷ xs) (property key' value' ∷ ys) r q h k e =
    let e1 = tails _ _ _ _ e in
    let more : SameItems xs ys r q = items_one xs ys r q (and_right (item_fits (property key value)) _ h) (and_right (item_fits (property key' value')) _ k) (tails _ _ _ _ e1) in
    record { items = (λ i. property (texts _ _ _ _ e i) (texts _ _ _ _ e1 i) ∷ more.items i); rest = more.rest }
items_one (brush fs ∷ xs) (brush gs ∷ ys) r q h k e =
    let e' : behind_faces fs xs r ≡ behind_faces gs ys q = tails _ _ _ _ (sym (brush_first fs xs r) ∙ e ∙ brush_first gs ys q) in
    let f : SameFaces fs gs (flat_map item_symbols xs ++ (bracket 125 ∷ r)) (flat_map item_symbols ys ++ (bracket 125 ∷ q)) =
    faces_one fs gs (flat_map item_symbols xs ++ (bracket 125 ∷ r)) (flat_map item_symbols ys ++ (bracket 125 ∷ q)) (and_left (item_fits (brush fs)) _ h) (and_left (item_fits (brush gs)) _ k) e' in
    let more : SameItems xs ys r q = items_one xs ys r q (and_right (item_fits (brush fs)) _ h) (and_right (item_fits (brush gs)) _ k) f.rest in
    record { items = (λ i. brush (f.faces i) ∷ more.items i); rest = more.rest }

-- ---- files

pub entity_first : (items : List Item) (file : List (List Item)) → file_symbols (items ∷ file) ≡ bracket 123 ∷ (flat_map item_symbols items ++ (bracket 125 ∷ file_symbols file))
entity_first items file = ap (λ l. bracket 123 ∷ l) (append_assoc (flat_map item_symbols items) (bracket 125 ∷ []) (file_symbols file))

no_symbol : {A : Type 0} (s : Symbol) (ss : List Symbol) → [] ≡ s ∷ ss → A
no_symbol s ss e = absurd (cc)

file_one : (xs ys : List (List Item)) → list_all entity_fits xs ≡ true → list_all entity_fits ys ≡ true → file_symbols xs ≡ file_symbols ys → xs ≡ ys
file_one [] [] h k e = refl
file_one [] (b ∷ ys) h k e = no_symbol _ _ e
file_one (a ∷ xs) [] h k e = no_symbol _ _ (sym e)
file_one (a ∷ xs) (b ∷ ys) h k e =
    let same : SameItems a b (file_symbols xs) (file_symbols ys) =
    items_one a b (file_symbols xs) (file_symbols ys) (and_left (entity_fits a) _ h) (and_left (entity_fits b) _ k) (tails _ _ _ _ (sym (entity_first a xs) ∙ e ∙ entity_first b ys)) in
    (λ i. same.items i ∷ file_one xs ys (and_right (entity_fits a) _ h) (and_right (entity_fits b) _ k) same.rest i)

pub one_reading : (text : List ℕ) (a b : MapDoc) → Reads text a → Reads text b → a ≡ b
one_reading text a b r q = r.meaning ∙ ap document_of (file_one r.file q.file r.fit q.fit (sym r.symbols ∙ q.symbols)) ∙ sym q.meaning
