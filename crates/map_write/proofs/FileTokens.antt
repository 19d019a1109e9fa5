-- The tokens of the written text are the symbols of the document's file.
use Rattle.std.proofs.Common.{◌≡◌, ℕ, ◌+◌, Bool, true, ◌&&◌, List, [], ◌∷◌, ◌++◌, map, length, drop, refl, ap, sym, subst, ◌∙◌, append_assoc, codes, leb}
use Rattle.std.specs.List.{list_all, flat_map, enumerate_from}
use Rattle.std.specs.Fmt.{decimal}
use Rattle.std.proofs.lemmas.Bool.{and_parts}
use Rattle.std.proofs.lemmas.List.Concat.{flat_map-append}
use Rattle.uv_lock.specs.declared.face.Face.{Face}
use Rattle.map_lex.specs.TokenList.{token_list, tokens_left, without_mark}
use Rattle.map_lex.specs.LineTexts.{text_of}
use Rattle.map_lex.specs.OneToken.{is_value_text, is_key_text}
use Rattle.map_text.specs.declared.document.MapDoc.{MapDoc}
use Rattle.map_text.specs.declared.document.RawEntity.{RawEntity}
use Rattle.map_text.specs.declared.document.RawBrush.{RawBrush}
use Rattle.map_text.specs.Grammar.{Symbol, bracket, quote, face_symbols, Item, property, brush, item_symbols, entity_symbols, file_symbols}
use Rattle.map_text.specs.Spelled.{faces_of_brush, is_savable_face, is_spelled_brush, keys_are_distinct, is_spelled_entity}
use Rattle.map_write.specs.Written.{TextureDecimals, kept, face_line, line_of, face_text, property_line, brush_lines, entity_lines, written_text, written_with}
use Rattle.map_write.proofs.Gives.{Lists, Gives, gives_end}
use Rattle.map_write.proofs.Lines.{gives_line, gives_property, gives_bracket, gives_group}
use Rattle.map_write.proofs.FaceFacts.{face_fine}
use Rattle.map_write.proofs.WriteLemmas.{numbered}

-- the items of an entity: its properties, and then its brushes.
abbrev pub items_of : TextureDecimals → RawEntity → List Item
items_of d e = map (λ p. property p.0 p.1) e.props ++ map (λ b. brush (map (face_text d) (faces_of_brush b))) e.brushes

-- the file of a document.
abbrev pub file_of : TextureDecimals → MapDoc → List (List Item)
file_of d doc = map (items_of d) doc.entities

-- a line before lines, and a symbols before symbols
pub gives_more : (line text rest : List ℕ) (first inner symbols : List Symbol) → Gives (line ++ 10 ∷ (text ++ rest)) (first ++ (inner ++ symbols)) →
    Gives (((line ++ 10 ∷ []) ++ text) ++ rest) ((first ++ inner) ++ symbols)
gives_more line text rest first inner symbols later =
    subst (λ t. Gives t ((first ++ inner) ++ symbols)) (sym (regroup line (10 ∷ []) text rest))
    (subst (Gives (line ++ 10 ∷ (text ++ rest))) (sym (append_assoc first inner symbols)) later)
  where
    regroup : (a b c d : List ℕ) → ((a ++ b) ++ c) ++ d ≡ a ++ (b ++ (c ++ d))
    regroup a b c d = simp append_assoc

faces_give : (faces : List Face) (rest : List ℕ) (symbols : List Symbol) → list_all is_savable_face faces ≡ true → Gives rest symbols →
    Gives (text_of (map (face_line kept) faces) ++ rest) (flat_map face_symbols (map (face_text kept) faces) ++ symbols)
faces_give [] rest symbols e later = later
faces_give (f ∷ faces) rest symbols e later =
    let parts = and_parts (is_savable_face f) (list_all is_savable_face faces) e in
    let text = text_of (map (face_line kept) faces) in
    let inner = flat_map face_symbols (map (face_text kept) faces) in
    gives_more (line_of (face_symbols (face_text kept f))) text rest (face_symbols (face_text kept f)) inner symbols
    (gives_line (bracket 40) (drop 1 (face_symbols (face_text kept f))) (text ++ rest) (inner ++ symbols) (face_fine f parts.0) (faces_give faces rest symbols parts.1 later))

-- the item of a property, and that of a brush
abbrev pub property_item : (List ℕ × List ℕ) → Item
property_item p = property p.0 p.1

abbrev pub brush_item : RawBrush → Item
brush_item b = brush (map (face_text kept) (faces_of_brush b))

brush_gives : (k : ℕ) (b : RawBrush) (rest : List ℕ) (symbols : List Symbol) → is_spelled_brush b ≡ true → Gives rest symbols →
    Gives (text_of (brush_lines kept k b) ++ rest) (item_symbols (brush_item b) ++ symbols)
brush_gives k b rest symbols e later =
    let faces = faces_of_brush b in
    let savable = (and_parts (leb (length faces) 256) (list_all is_savable_face faces) e).1 in
    gives_group (codes " brush ") k (map (face_line kept) faces) (flat_map face_symbols (map (face_text kept) faces)) rest symbols refl
    (faces_give faces (125 ∷ 10 ∷ rest) (bracket 125 ∷ symbols) savable (gives_bracket 125 rest symbols refl refl refl later))

-- groups of lines, one after another
gives_groups : (lines : List (List ℕ)) (others : List (List ℕ)) (rest : List ℕ) (first inner symbols : List Symbol) → Gives (text_of lines ++ (text_of others ++ rest)) (first ++ (inner ++ symbols)) →
    Gives (text_of (lines ++ others) ++ rest) ((first ++ inner) ++ symbols)
gives_groups lines others rest first inner symbols later =
    let whole : text_of (lines ++ others) ++ rest ≡ text_of lines ++ (text_of others ++ rest) =
    ap (λ t. t ++ rest) (flat_map-append (λ line. line ++ 10 ∷ []) lines others) ∙ append_assoc (text_of lines) (text_of others) rest in
    subst (λ t. Gives t ((first ++ inner) ++ symbols)) (sym whole)
    (subst (Gives (text_of lines ++ (text_of others ++ rest))) (sym (append_assoc first inner symbols)) later)

brushes_give : (k : ℕ) (bs : List RawBrush) (rest : List ℕ) (symbols : List Symbol) → list_all is_spelled_brush bs ≡ true → Gives rest symbols →
    Gives (numbered (brush_lines kept) k bs ++ rest) (flat_map item_symbols (map brush_item bs) ++ symbols)
brushes_give k [] rest symbols e later = later
brushes_give k (b ∷ bs) rest symbols e later =
    let parts = and_parts (is_spelled_brush b) (list_all is_spelled_brush bs) e in
    let others = flat_map (λ ((n, c) : ℕ × RawBrush). brush_lines kept n c) (enumerate_from (k + 1) bs) in
    let inner = flat_map item_symbols (map brush_item bs) in
    gives_groups (brush_lines kept k b) others rest (item_symbols (brush_item b)) inner symbols
    (brush_gives k b (text_of others ++ rest) (inner ++ symbols) parts.0 (brushes_give (k + 1) bs rest symbols parts.1 later))

-- a property that can be saved
abbrev pub is_savable_property : (List ℕ × List ℕ) → Bool
is_savable_property p = is_key_text p.0 && is_value_text p.1

properties_give : (ps : List (List ℕ × List ℕ)) (rest : List ℕ) (symbols : List Symbol) → list_all is_savable_property ps ≡ true → Gives rest symbols →
    Gives (text_of (map property_line ps) ++ rest) (flat_map item_symbols (map property_item ps) ++ symbols)
properties_give [] rest symbols e later = later
properties_give (p ∷ ps) rest symbols e later =
    let parts = and_parts (is_savable_property p) (list_all is_savable_property ps) e in
    let first = and_parts (is_key_text p.0) (is_value_text p.1) parts.0 in
    let text = text_of (map property_line ps) in
    let inner = flat_map item_symbols (map property_item ps) in
    gives_more (property_line p) text rest (quote p.0 ∷ quote p.1 ∷ []) inner symbols
    (gives_property p.0 p.1 (text ++ rest) (inner ++ symbols) first.0 first.1 (properties_give ps rest symbols parts.1 later))

entity_gives : (k : ℕ) (e : RawEntity) (rest : List ℕ) (symbols : List Symbol) → is_spelled_entity e ≡ true → Gives rest symbols →
    Gives (text_of (entity_lines kept k e) ++ rest) (entity_symbols (items_of kept e) ++ symbols)
entity_gives k e rest symbols spelled later =
    let outer = and_parts (keys_are_distinct e.props) (list_all is_savable_property e.props && list_all is_spelled_brush e.brushes) spelled in
    let inner = and_parts (list_all is_savable_property e.props) (list_all is_spelled_brush e.brushes) outer.1 in
    let properties = map property_line e.props in
    let brushes = flat_map (λ ((n, b) : ℕ × RawBrush). brush_lines kept n b) (enumerate_from 0 e.brushes) in
    let property_items = map property_item e.props in
    let brush_items = map brush_item e.brushes in
    let tail : (properties ++ brushes) ++ codes "}" ∷ [] ≡ properties ++ (brushes ++ codes "}" ∷ []) = append_assoc properties brushes (codes "}" ∷ []) in
    subst (λ ls. Gives (text_of ((codes "// entity " ++ decimal k) ∷ codes "{" ∷ ls) ++ rest) (entity_symbols (items_of kept e) ++ symbols)) tail
    (gives_group (codes " entity ") k (properties ++ brushes) (flat_map item_symbols (items_of kept e)) rest symbols refl
    (subst (λ ss. Gives (text_of (properties ++ brushes) ++ 125 ∷ 10 ∷ rest) (ss ++ bracket 125 ∷ symbols)) (sym (flat_map-append item_symbols property_items brush_items))
    (gives_groups properties brushes (125 ∷ 10 ∷ rest) (flat_map item_symbols property_items) (flat_map item_symbols brush_items) (bracket 125 ∷ symbols)
    (properties_give e.props (text_of brushes ++ 125 ∷ 10 ∷ rest) (flat_map item_symbols brush_items ++ bracket 125 ∷ symbols) inner.0
    (brushes_give 0 e.brushes (125 ∷ 10 ∷ rest) (bracket 125 ∷ symbols) inner.1 (gives_bracket 125 rest symbols refl refl refl later))))))

entities_give : (k : ℕ) (es : List RawEntity) → list_all is_spelled_entity es ≡ true → Gives (numbered (entity_lines kept) k es) (flat_map entity_symbols (map (items_of kept) es))
entities_give k [] e = gives_end
entities_give k (e ∷ es) spelled =
    let parts = and_parts (is_spelled_entity e) (list_all is_spelled_entity es) spelled in
    let others = flat_map (λ ((n, c) : ℕ × RawEntity). entity_lines kept n c) (enumerate_from (k + 1) es) in
    let inner = flat_map entity_symbols (map (items_of kept) es) in
    subst (λ t. Gives t (entity_symbols (items_of kept e) ++ inner)) (sym (flat_map-append (λ line. line ++ 10 ∷ []) (entity_lines kept k e) others))
    (entity_gives k e (text_of others) inner parts.0 (entities_give (k + 1) es parts.1))

no_mark : (es : List RawEntity) → without_mark (numbered (entity_lines kept) 0 es) ≡ numbered (entity_lines kept) 0 es
no_mark [] = refl
no_mark (e ∷ es) = refl

-- the tokens of the written text
pub written_tokens : (doc : MapDoc) → list_all is_spelled_entity doc.entities ≡ true → Lists (token_list (written_text doc)) (file_symbols (file_of kept doc))
unfolding token_list written_with
written_tokens doc spelled =
    subst (λ t. Lists (tokens_left 1 t) (file_symbols (file_of kept doc))) (sym (no_mark doc.entities)) (entities_give 0 doc.entities spelled 1)
