-- What fills the places that are awaited, and a place by its first token and what fills those behind it.
use Rattle.std.proofs.Common.{◌≡◌, ℕ, ◌&&◌, Bool, true, false, cond, List, [], ◌∷◌, ◌++◌, map, Option, refl, ap, sym, subst, ◌∙◌, append_assoc}
use Rattle.std.specs.List.{flat_map, list_all}
use Rattle.fixed_num.specs.Count.{is_number_word}
use Rattle.map_lex.specs.TokenList.{TokenValue}
use Rattle.uv_lock.specs.declared.texture.Format.{Format}
use Rattle.map_text.specs.declared.read_fault.ReadFault.{ReadFault}
use Rattle.map_text.specs.Grammar.{Symbol, symbol_of, word, quote, bracket, TextureText, texture_symbols, SurfaceText, surface_symbols, FaceText, face_symbols, Item, item_symbols, file_symbols}
use Rattle.map_text.specs.Fits.{is_material, texture_numbers, surface_numbers, face_fits, item_fits, format_of, formats}
use Rattle.map_text.specs.Refusals.{Awaited, an_entity, an_item, a_value, first_in_brush, a_face, mark, a_number, a_material, a_texture, a_surface, Step, fits, refused, settled}
use Rattle.map_text.specs.Reading.{first_after, all_are}
use Rattle.map_text.specs.Parts.{format_of_face}
use Rattle.map_text.proofs.Passing.{settled-other, first_after-none, is_texture}
use Rattle.map_text.proofs.EntityTexts.{formats_of}
use Rattle.map_text.proofs.MapTexts.{entity_fits}

-- ---- what fills places

abbrev pub Filling : Awaited → Type 0
Filling an_entity = List (List Item)
Filling an_item = List Item
Filling a_value = List ℕ
Filling first_in_brush = List FaceText
Filling a_face = List FaceText
Filling (mark byte what) = Unit {0}
Filling a_number = List ℕ
Filling a_material = Symbol
Filling a_texture = TextureText
Filling a_surface = Option SurfaceText × List FaceText

abbrev pub symbols_in : (p : Awaited) → Filling p → List Symbol
symbols_in an_entity file = file_symbols file
symbols_in an_item items = flat_map item_symbols items ++ bracket 125 ∷ []
symbols_in a_value text = quote text ∷ []
symbols_in first_in_brush faces = flat_map face_symbols faces ++ bracket 125 ∷ []
symbols_in a_face faces = flat_map face_symbols faces ++ bracket 125 ∷ []
symbols_in (mark byte what) u = bracket byte ∷ []
symbols_in a_number w = word w ∷ []
symbols_in a_material s = s ∷ []
symbols_in a_texture t = texture_symbols t
symbols_in a_surface x = surface_symbols x.0 ++ (flat_map face_symbols x.1 ++ bracket 125 ∷ [])

abbrev pub fits_in : (p : Awaited) → Filling p → Bool
fits_in an_entity file = list_all entity_fits file
fits_in an_item items = list_all item_fits items
fits_in a_value text = true
fits_in first_in_brush faces = list_all face_fits faces
fits_in a_face faces = list_all face_fits faces
fits_in (mark byte what) u = true
fits_in a_number w = is_number_word w
fits_in a_material s = is_material s
fits_in a_texture t = list_all is_number_word (texture_numbers t)
fits_in a_surface x = list_all is_number_word (surface_numbers x.0) && list_all face_fits x.1

abbrev pub formats_in : (p : Awaited) → Filling p → List Format
formats_in an_entity file = formats file
formats_in an_item items = formats_of items
formats_in a_value text = []
formats_in first_in_brush faces = map format_of_face faces
formats_in a_face faces = map format_of_face faces
formats_in (mark byte what) u = []
formats_in a_number w = []
formats_in a_material s = []
formats_in a_texture t = format_of t ∷ []
formats_in a_surface x = map format_of_face x.1

abbrev pub Fillings : List Awaited → Type 0
Fillings [] = Unit {0}
Fillings (p ∷ ps) = Filling p × Fillings ps

abbrev pub all_symbols : (ps : List Awaited) → Fillings ps → List Symbol
all_symbols [] x = []
all_symbols (p ∷ ps) x = symbols_in p x.0 ++ all_symbols ps x.1

abbrev pub all_fit : (ps : List Awaited) → Fillings ps → Bool
all_fit [] x = true
all_fit (p ∷ ps) x = fits_in p x.0 && all_fit ps x.1

abbrev pub all_formats : (ps : List Awaited) → Fillings ps → List Format
all_formats [] x = []
all_formats (p ∷ ps) x = formats_in p x.0 ++ all_formats ps x.1

-- ---- what fills a place and what fills those behind it

pub record Split (more ps : List Awaited) (x : Fillings (more ++ ps)) : Type 0 where
  pub front : Fillings more
  pub back : Fillings ps
  pub symbols : all_symbols (more ++ ps) x ≡ all_symbols more front ++ all_symbols ps back
  pub fit : all_fit (more ++ ps) x ≡ (all_fit more front && all_fit ps back)
  pub kinds : all_formats (more ++ ps) x ≡ all_formats more front ++ all_formats ps back

and_assoc : (a b c : Bool) → (a && (b && c)) ≡ ((a && b) && c)
and_assoc true b c = refl
and_assoc false b c = refl

pub split : (more ps : List Awaited) (x : Fillings (more ++ ps)) → Split more ps x
split [] ps x = record { front = tt; back = x; symbols = refl; fit = refl; kinds = refl }
split (m ∷ more) ps x =
    let s : Split more ps x.1 = split more ps x.1 in
    record {
      front = (x.0, s.front);
      back = s.back;
      symbols = ap (λ l. symbols_in m x.0 ++ l) s.symbols ∙ sym (append_assoc (symbols_in m x.0) (all_symbols more s.front) (all_symbols ps s.back));
      fit = ap (λ b. fits_in m x.0 && b) s.fit ∙ and_assoc (fits_in m x.0) (all_fit more s.front) (all_fit ps s.back);
      kinds = ap (λ l. formats_in m x.0 ++ l) s.kinds ∙ sym (append_assoc (formats_in m x.0) (all_formats more s.front) (all_formats ps s.back));
    }

-- ---- a place by its first token and what fills the places behind that

pub record Rebuilt (first : Option Format) (p : Awaited) (t : TokenValue) (more : List Awaited) (y : Fillings more) : Type 0 where
  pub filling : Filling p
  pub symbols : symbols_in p filling ≡ symbol_of t ∷ all_symbols more y
  pub fit : all_fit more y ≡ true → fits_in p filling ≡ true
  pub kinds : List Format
  pub formats_are : formats_in p filling ≡ kinds ++ all_formats more y
  pub settles : settled first p t ≡ first_after first kinds
  pub agrees : all_are (settled first p t) kinds ≡ true

unfoldable pub Rebuilds : Option Format → Awaited → TokenValue → List Awaited → Type 0
Rebuilds first p t more = (y : Fillings more) → Rebuilt first p t more y

-- by cases on a step
pub either : {A : Type 0} (b : Bool) (x y s : Step) → cond b x y ≡ s → (b ≡ true → x ≡ s → A) → (b ≡ false → y ≡ s → A) → A
either true x y s e f g = f refl e
either false x y s e f g = g refl e

places_of : Step → List Awaited
places_of (fits more) = more
places_of (refused why) = []

pub fits_same : (x more : List Awaited) → fits x ≡ fits more → x ≡ more
unfolding places_of
fits_same x more e = ap places_of e

pub at_fits : (P : List Awaited → Type 0) (x more : List Awaited) → P x → fits x ≡ fits more → P more
at_fits P x more p e = subst P (fits_same x more e) p

pub never : {A : Type 0} (why : ReadFault) (more : List Awaited) → refused why ≡ fits more → A
never why more e = absurd (cc)

pub settles_other : (first : Option Format) (p : Awaited) (t : TokenValue) → is_texture p ≡ false → settled first p t ≡ first_after first []
settles_other first p t h = settled-other first p t h ∙ first_after-none first
