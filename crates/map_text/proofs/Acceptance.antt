-- A text whose tokens are those of a right file is not refused.
use Rattle.std.proofs.Common.{◌≡◌, ℕ, ◌&&◌, Bool, true, false, not, cond, ◌⊎◌, inl, inr, ⊎_elim, List, [], ◌∷◌, ◌++◌, map, Option, None, Some, refl, ap, sym, ◌∙◌, append_assoc}
use Rattle.std.proofs.lemmas.Bool.{false≢true}
use Rattle.std.proofs.lemmas.List.Folds.{list_all-append}
use Rattle.std.proofs.lemmas.Slice.Eq.{bytes_eq-Decides}
use Rattle.std.specs.List.{flat_map, list_all}
use Rattle.std.specs.Str.{bytes_eq}
use Rattle.fixed_num.specs.Count.{is_number_word}
use Rattle.map_lex.specs.TokenList.{TokenValue, token_list, no_more}
use Rattle.uv_lock.specs.declared.texture.Format.{Format}
use Rattle.uv_lock.specs.declared.texture.Format.TheVariants.{Standard, Valve}
use Rattle.map_lex.specs.OneToken.{ends_with_backslash}
use Rattle.map_text.specs.declared.document.MapDoc.{MapDoc}
use Rattle.map_text.specs.declared.read_fault.What.{What}
use Rattle.map_text.specs.declared.read_fault.What.TheVariants.{Entity, Item as AnItem, Key, Value, Face, Point, Number, Material, Axis}
use Rattle.map_text.specs.declared.read_fault.ReadFault.{ReadFault}
use Rattle.map_text.specs.declared.read_fault.ReadFault.TheVariants.{Expected, MixedFormat, UnknownBlock}
use Rattle.map_text.specs.Grammar.{Symbol, symbol_of, word, quote, bracket, PointText, AxisText, TextureText, standard, valve, texture_symbols, SurfaceText, surface_symbols, FaceText, face_symbols, Item, property, brush, item_symbols, file_symbols}
use Rattle.map_text.specs.Fits.{is_material, texture_numbers, surface_numbers, face_fits, item_fits, format_of, is_format, formats}
use Rattle.map_text.specs.Refusals.{Awaited, an_entity, an_item, a_value, first_in_brush, a_face, mark, a_number, a_material, a_texture, a_surface, Step, fits, refused, step, settled, Outcome, passed, go_on, refusal_of, first_refusal, is_bracket, is_number, names_block, face_step, texture_format, texture_step, rest_of_point, rest_of_axis, rest_of_face, rest_of_texture, last_line}
use Rattle.map_text.specs.Reading.{first_after, all_are, allows}
use Rattle.map_text.specs.Parts.{point_end, point_fits, face_end, format_of_face}
use Rattle.map_text.specs.Reads.{Reads}
use Rattle.map_text.proofs.Passing.{is_texture, step_on, goes_without, settled-other, first_after-none, first_after-append, and_left, and_right, not_true}
use Rattle.map_text.proofs.TextureTexts.{same_format, texture_fits, texture_settles, valve_kind, standard_kind}
use Rattle.map_text.proofs.OneReading.{bracket_is_no_number, opening_is_no_number, closing_is_no_number, entity_first, surface_fit}
use Rattle.map_text.proofs.EntityTexts.{formats_of}
use Rattle.map_text.proofs.MapTexts.{entity_fits}

-- ---- lines don't matter

-- a symbol as a token on line 0
abbrev token_of : Symbol → TokenValue
token_of s = record { text = s.text; quoted = s.quoted; line = 0 }

abbrev unlined : TokenValue → TokenValue
unlined t = token_of (symbol_of t)

-- both steps fit alike, or both refuse
Alike : Step → Step → Type 0
Alike a b = ((more : List Awaited) × (a ≡ fits more) × (b ≡ fits more)) ⊎ ((why : ReadFault) × (other : ReadFault) × (a ≡ refused why) × (b ≡ refused other))

fit : (more : List Awaited) → Alike (fits more) (fits more)
unfolding Alike
fit more = inl (more, refl, refl)

refuse : (why other : ReadFault) → Alike (refused why) (refused other)
unfolding Alike
refuse why other = inr (why, other, refl, refl)

alike_if : (b : Bool) (x x' y y' : Step) → Alike x x' → Alike y y' → Alike (cond b x y) (cond b x' y')
alike_if true x x' y y' h k = h
alike_if false x x' y y' h k = k

face_alike : (t : TokenValue) → Alike (face_step t) (face_step (unlined t))
face_alike t =
    alike_if (is_bracket 40 t) (fits rest_of_face) (fits rest_of_face) _ _ (fit rest_of_face)
    (alike_if (is_bracket 125 t) (fits []) (fits []) _ _ (fit []) (refuse (Expected Face t.line) (Expected Face 0)))

texture_alike : (first : Option Format) (t u : TokenValue) (o : Option Format) → Alike (texture_step first t o) (texture_step first u o)
texture_alike first t u None = refuse (Expected Number t.line) (Expected Number u.line)
texture_alike None t u (Some format) = fit (rest_of_texture format)
texture_alike (Some first) t u (Some format) =
    alike_if (is_format first format) (fits (rest_of_texture format)) (fits (rest_of_texture format)) _ _ (fit (rest_of_texture format)) (refuse (MixedFormat t.line) (MixedFormat u.line))

step_alike : (first : Option Format) (p : Awaited) (t : TokenValue) → Alike (step first p t) (step first p (unlined t))
step_alike first an_entity t = alike_if (is_bracket 123 t) (fits (an_item ∷ an_entity ∷ [])) (fits (an_item ∷ an_entity ∷ [])) _ _ (fit (an_item ∷ an_entity ∷ [])) (refuse (Expected Entity t.line) (Expected Entity 0))
step_alike first an_item t =
    alike_if t.quoted _ _ _ _
    (alike_if (ends_with_backslash t.text) (refused (Expected Key t.line)) (refused (Expected Key 0)) (fits (a_value ∷ an_item ∷ [])) (fits (a_value ∷ an_item ∷ []))
    (refuse (Expected Key t.line) (Expected Key 0)) (fit (a_value ∷ an_item ∷ [])))
    (alike_if (is_bracket 123 t) (fits (first_in_brush ∷ an_item ∷ [])) (fits (first_in_brush ∷ an_item ∷ [])) _ _ (fit (first_in_brush ∷ an_item ∷ []))
    (alike_if (is_bracket 125 t) (fits []) (fits []) _ _ (fit []) (refuse (Expected AnItem t.line) (Expected AnItem 0))))
step_alike first a_value t = alike_if t.quoted (fits []) (fits []) _ _ (fit []) (refuse (Expected Value t.line) (Expected Value 0))
step_alike first first_in_brush t = alike_if (names_block t) (refused (UnknownBlock t.line)) (refused (UnknownBlock 0)) _ _ (refuse (UnknownBlock t.line) (UnknownBlock 0)) (face_alike t)
step_alike first a_face t = face_alike t
step_alike first (mark byte what) t = alike_if (is_bracket byte t) (fits []) (fits []) _ _ (fit []) (refuse (Expected what t.line) (Expected what 0))
step_alike first a_number t = alike_if (is_number t) (fits []) (fits []) _ _ (fit []) (refuse (Expected Number t.line) (Expected Number 0))
step_alike first a_material t = alike_if (is_material (symbol_of t)) (fits []) (fits []) _ _ (fit []) (refuse (Expected Material t.line) (Expected Material 0))
step_alike first a_texture t = texture_alike first t (unlined t) (texture_format t)
step_alike first a_surface t =
    alike_if (is_number t) (fits (a_number ∷ a_number ∷ a_face ∷ [])) (fits (a_number ∷ a_number ∷ a_face ∷ [])) _ _ (fit (a_number ∷ a_number ∷ a_face ∷ [])) (face_alike t)

settled_same : (first : Option Format) (p : Awaited) (t : TokenValue) → settled first p (unlined t) ≡ settled first p t
settled_same (Some first) p t = refl
settled_same None an_entity t = refl
settled_same None an_item t = refl
settled_same None a_value t = refl
settled_same None first_in_brush t = refl
settled_same None a_face t = refl
settled_same None (mark byte what) t = refl
settled_same None a_number t = refl
settled_same None a_material t = refl
settled_same None a_texture t = refl
settled_same None a_surface t = refl

-- reading over symbols
abbrev run : Option Format → List Awaited → List Symbol → Outcome
run first places ss = go_on 0 first places (map token_of ss) None

end_same : (last : ℕ) (first : Option Format) (places : List Awaited) → refusal_of (go_on 0 first places [] None) ≡ None → refusal_of (go_on last first places [] None) ≡ None
end_same last first [] h = refl
end_same last first (an_entity ∷ []) h = refl
end_same last first (an_entity ∷ p ∷ ps) h = absurd (cc)
end_same last first (an_item ∷ ps) h = absurd (cc)
end_same last first (a_value ∷ ps) h = absurd (cc)
end_same last first (first_in_brush ∷ ps) h = absurd (cc)
end_same last first (a_face ∷ ps) h = absurd (cc)
end_same last first (mark byte what ∷ ps) h = absurd (cc)
end_same last first (a_number ∷ ps) h = absurd (cc)
end_same last first (a_material ∷ ps) h = absurd (cc)
end_same last first (a_texture ∷ ps) h = absurd (cc)
end_same last first (a_surface ∷ ps) h = absurd (cc)

lines_apart : (last : ℕ) (tokens : List TokenValue) (first : Option Format) (places : List Awaited) → refusal_of (run first places (map symbol_of tokens)) ≡ None
    → refusal_of (go_on last first places tokens None) ≡ None
unfolding Alike
lines_apart last [] first places h = end_same last first places h
lines_apart last (t ∷ tokens) first [] h = refl
lines_apart last (t ∷ tokens) first (p ∷ ps) h =
    ⊎_elim (λ w.
    ap refusal_of (step_on last first p ps t tokens None (fits w.0) w.1)
    ∙ lines_apart last tokens (settled first p t) (w.0 ++ ps)
    (ap (λ f. refusal_of (run f (w.0 ++ ps) (map symbol_of tokens))) (sym (settled_same first p t))
    ∙ sym (ap refusal_of (step_on 0 first p ps (unlined t) (map token_of (map symbol_of tokens)) None (fits w.0) w.2)) ∙ h))
    (λ w. absurd (let e : refusal_of (run first (p ∷ ps) (symbol_of t ∷ map symbol_of tokens)) ≡ Some w.1 =
    ap refusal_of (step_on 0 first p ps (unlined t) (map token_of (map symbol_of tokens)) None (refused w.1) w.3) in let n : Some w.1 ≡ None = sym e ∙ h in cc))
    (step_alike first p t)

-- ---- single symbols

symbol_runs : (first : Option Format) (place : Awaited) (s : Symbol) (more places : List Awaited) (r : List Symbol) → is_texture place ≡ false → step first place (token_of s) ≡ fits more
    → run first (place ∷ places) (s ∷ r) ≡ run first (more ++ places) r
symbol_runs first place s more places r other e =
    step_on 0 first place places (token_of s) (map token_of r) None (fits more) e ∙ ap (λ f. run f (more ++ places) r) (settled-other first place (token_of s) other)

number_runs : (first : Option Format) (w : List ℕ) (places : List Awaited) (r : List Symbol) → is_number_word w ≡ true → run first (a_number ∷ places) (word w ∷ r) ≡ run first places r
number_runs first w places r h = symbol_runs first a_number (word w) [] places r refl (ap (λ b. cond b (fits []) (refused (Expected Number 0))) h)

mark_runs : (first : Option Format) (byte : ℕ) (what : What) (places : List Awaited) (r : List Symbol) → run first (mark byte what ∷ places) (bracket byte ∷ r) ≡ run first places r
mark_runs first byte what places r =
    symbol_runs first (mark byte what) (bracket byte) [] places r refl (ap (λ b. cond b (fits []) (refused (Expected what 0))) ((bytes_eq-Decides (byte ∷ []) (byte ∷ [])).1 refl))

-- ---- parts of faces

point_runs : (first : Option Format) (p : PointText) (places : List Awaited) (r : List Symbol) → point_fits p ≡ true → run first (rest_of_point ++ places) (point_end p ++ r) ≡ run first places r
point_runs first p places r h =
    let y = and_right (is_number_word p.x) _ h in let z = and_right (is_number_word p.y) _ y in
    number_runs first p.x (a_number ∷ a_number ∷ mark 41 Point ∷ places) (word p.y ∷ word p.z ∷ bracket 41 ∷ r) (and_left (is_number_word p.x) _ h)
    ∙ number_runs first p.y (a_number ∷ mark 41 Point ∷ places) (word p.z ∷ bracket 41 ∷ r) (and_left (is_number_word p.y) _ y)
    ∙ number_runs first p.z (mark 41 Point ∷ places) (bracket 41 ∷ r) (and_left (is_number_word p.z) _ z)
    ∙ mark_runs first 41 Point places r

axis_end : AxisText → List Symbol
axis_end a = word a.x ∷ word a.y ∷ word a.z ∷ word a.offset ∷ bracket 93 ∷ []

axis_runs : (first : Option Format) (a : AxisText) (places : List Awaited) (r : List Symbol) → is_number_word a.x ≡ true → is_number_word a.y ≡ true → is_number_word a.z ≡ true → is_number_word a.offset ≡ true
    → run first (rest_of_axis ++ places) (axis_end a ++ r) ≡ run first places r
unfolding axis_end
axis_runs first a places r x y z o =
    number_runs first a.x (a_number ∷ a_number ∷ a_number ∷ mark 93 Axis ∷ places) (word a.y ∷ word a.z ∷ word a.offset ∷ bracket 93 ∷ r) x
    ∙ number_runs first a.y (a_number ∷ a_number ∷ mark 93 Axis ∷ places) (word a.z ∷ word a.offset ∷ bracket 93 ∷ r) y
    ∙ number_runs first a.z (a_number ∷ mark 93 Axis ∷ places) (word a.offset ∷ bracket 93 ∷ r) z
    ∙ number_runs first a.offset (mark 93 Axis ∷ places) (bracket 93 ∷ r) o
    ∙ mark_runs first 93 Axis places r

begins_runs : (first : Option Format) (s : Symbol) (format : Format) (places : List Awaited) (r : List Symbol) → texture_format (token_of s) ≡ Some format → allows first format ≡ true
    → run first (a_texture ∷ places) (s ∷ r) ≡ run (Some format) (rest_of_texture format ++ places) r
begins_runs first s format places r kind allowed =
    step_on 0 first a_texture places (token_of s) (map token_of r) None (fits (rest_of_texture format)) (texture_fits first (token_of s) format kind allowed)
    ∙ ap (λ f. run f (rest_of_texture format ++ places) r) (sym (texture_settles first (token_of s) format kind allowed))

no_bracket : (w : List ℕ) → is_number_word w ≡ true → is_bracket 91 (token_of (word w)) ≡ false
no_bracket w h = by (bytes_eq w (91 ∷ [])) refl
  where
    by : (b : Bool) → bytes_eq w (91 ∷ []) ≡ b → is_bracket 91 (token_of (word w)) ≡ false
    by true e = absurd (false≢true (sym bracket_is_no_number ∙ ap is_number_word (sym ((bytes_eq-Decides w (91 ∷ [])).0 e)) ∙ h))
    by false e = e

texture_runs : (first : Option Format) (t : TextureText) (places : List Awaited) (r : List Symbol) → list_all is_number_word (texture_numbers t) ≡ true → allows first (format_of t) ≡ true
    → run first (a_texture ∷ places) (texture_symbols t ++ r) ≡ run (Some (format_of t)) places r
unfolding axis_end
texture_runs first (standard a b c d e) places r h allowed =
    let hb = and_right (is_number_word a) _ h in let hc = and_right (is_number_word b) _ hb in let hd = and_right (is_number_word c) _ hc in let he = and_right (is_number_word d) _ hd in
    let ha : is_number_word a ≡ true = and_left (is_number_word a) _ h in
    begins_runs first (word a) Standard places (word b ∷ word c ∷ word d ∷ word e ∷ r) (standard_kind (token_of (word a)) (no_bracket a ha) ha) allowed
    ∙ number_runs (Some Standard) b (a_number ∷ a_number ∷ a_number ∷ places) (word c ∷ word d ∷ word e ∷ r) (and_left (is_number_word b) _ hb)
    ∙ number_runs (Some Standard) c (a_number ∷ a_number ∷ places) (word d ∷ word e ∷ r) (and_left (is_number_word c) _ hc)
    ∙ number_runs (Some Standard) d (a_number ∷ places) (word e ∷ r) (and_left (is_number_word d) _ hd)
    ∙ number_runs (Some Standard) e places r (and_left (is_number_word e) _ he)
texture_runs first (valve u v c d e) places r h allowed =
    let u1 = and_right (is_number_word u.x) _ h in let u2 = and_right (is_number_word u.y) _ u1 in let u3 = and_right (is_number_word u.z) _ u2 in let v0 = and_right (is_number_word u.offset) _ u3 in
    let v1 = and_right (is_number_word v.x) _ v0 in let v2 = and_right (is_number_word v.y) _ v1 in let v3 = and_right (is_number_word v.z) _ v2 in let hc = and_right (is_number_word v.offset) _ v3 in
    let hd = and_right (is_number_word c) _ hc in let he = and_right (is_number_word d) _ hd in
    let turns : List Symbol = word c ∷ word d ∷ word e ∷ r in
    let second : List Symbol = bracket 91 ∷ axis_end v ++ turns in
    begins_runs first (bracket 91) Valve places (axis_end u ++ second) (valve_kind (token_of (bracket 91)) refl) allowed
    ∙ axis_runs (Some Valve) u (mark 91 Axis ∷ rest_of_axis ++ (a_number ∷ a_number ∷ a_number ∷ places)) second (and_left (is_number_word u.x) _ h) (and_left (is_number_word u.y) _ u1) (and_left (is_number_word u.z) _ u2) (and_left (is_number_word u.offset) _ u3)
    ∙ mark_runs (Some Valve) 91 Axis (rest_of_axis ++ (a_number ∷ a_number ∷ a_number ∷ places)) (axis_end v ++ turns)
    ∙ axis_runs (Some Valve) v (a_number ∷ a_number ∷ a_number ∷ places) turns (and_left (is_number_word v.x) _ v0) (and_left (is_number_word v.y) _ v1) (and_left (is_number_word v.z) _ v2) (and_left (is_number_word v.offset) _ v3)
    ∙ number_runs (Some Valve) c (a_number ∷ a_number ∷ places) (word d ∷ word e ∷ r) (and_left (is_number_word c) _ hc)
    ∙ number_runs (Some Valve) d (a_number ∷ places) (word e ∷ r) (and_left (is_number_word d) _ hd)
    ∙ number_runs (Some Valve) e places r (and_left (is_number_word e) _ he)

material_runs : (first : Option Format) (s : Symbol) (places : List Awaited) (r : List Symbol) → is_material s ≡ true → run first (a_material ∷ places) (s ∷ r) ≡ run first places r
material_runs first s places r h = symbol_runs first a_material s [] places r refl (ap (λ b. cond b (fits []) (refused (Expected Material 0))) h)

-- the nine coordinates by three points
coordinate_fits : (p q r : PointText) → list_all is_number_word ((p.x ∷ p.y ∷ p.z ∷ []) ++ ((q.x ∷ q.y ∷ q.z ∷ []) ++ (r.x ∷ r.y ∷ r.z ∷ []))) ≡ true
    → (point_fits p && (point_fits q && point_fits r)) ≡ true
coordinate_fits p q r h =
    ap (λ b. point_fits p && b) (sym (list_all-append is_number_word (q.x ∷ q.y ∷ q.z ∷ []) (r.x ∷ r.y ∷ r.z ∷ [])))
    ∙ sym (list_all-append is_number_word (p.x ∷ p.y ∷ p.z ∷ []) (q.x ∷ q.y ∷ q.z ∷ r.x ∷ r.y ∷ r.z ∷ [])) ∙ h

face_runs : (first : Option Format) (f : FaceText) (places : List Awaited) (r : List Symbol) → face_fits f ≡ true → allows first (format_of_face f) ≡ true
    → run first (rest_of_face ++ places) (face_end f ++ r) ≡ run (Some (format_of_face f)) (a_surface ∷ places) (surface_symbols f.surface ++ r)
face_runs first f places r h allowed =
    let points : (point_fits f.p0 && (point_fits f.p1 && point_fits f.p2)) ≡ true = coordinate_fits f.p0 f.p1 f.p2 (and_left _ _ h) in
    let others = and_right (point_fits f.p0) _ points in
    let tail = and_right _ _ h in
    let after0 = mark 40 Point ∷ rest_of_point ++ (mark 40 Point ∷ rest_of_point ++ (a_material ∷ a_texture ∷ a_surface ∷ places)) in
    let after1 = mark 40 Point ∷ rest_of_point ++ (a_material ∷ a_texture ∷ a_surface ∷ places) in
    let texture : List Symbol = (texture_symbols f.texture ++ surface_symbols f.surface) ++ r in
    let third : List Symbol = point_end f.p2 ++ (f.material ∷ texture) in
    let second : List Symbol = point_end f.p1 ++ (bracket 40 ∷ third) in
    point_runs first f.p0 after0 (bracket 40 ∷ second) (and_left (point_fits f.p0) _ points)
    ∙ mark_runs first 40 Point (rest_of_point ++ after1) second
    ∙ point_runs first f.p1 after1 (bracket 40 ∷ third) (and_left (point_fits f.p1) _ others)
    ∙ mark_runs first 40 Point (rest_of_point ++ (a_material ∷ a_texture ∷ a_surface ∷ places)) third
    ∙ point_runs first f.p2 (a_material ∷ a_texture ∷ a_surface ∷ places) (f.material ∷ texture) (and_right (point_fits f.p1) _ others)
    ∙ material_runs first f.material (a_texture ∷ a_surface ∷ places) texture (and_left (is_material f.material) _ tail)
    ∙ ap (run first (a_texture ∷ a_surface ∷ places)) (append_assoc (texture_symbols f.texture) (surface_symbols f.surface) r)
    ∙ texture_runs first f.texture (a_surface ∷ places) (surface_symbols f.surface ++ r) (and_left _ _ (and_right (is_material f.material) _ tail)) allowed

-- what stands behind a face in a brush: further faces, and the bracket of the end
behind_face : List FaceText → List Symbol → List Symbol
behind_face fs r = flat_map face_symbols fs ++ (bracket 125 ∷ r)

surface_runs : (first : Option Format) (s : Option SurfaceText) (fs : List FaceText) (places : List Awaited) (r : List Symbol) → list_all is_number_word (surface_numbers s) ≡ true
    → run first (a_surface ∷ places) (surface_symbols s ++ behind_face fs r) ≡ run first (a_face ∷ places) (behind_face fs r)
unfolding behind_face
surface_runs first None [] places r h = goes_without 0 first places (token_of (bracket 125)) _ None closing_is_no_number
surface_runs first None (f ∷ fs) places r h = goes_without 0 first places (token_of (bracket 40)) _ None opening_is_no_number
surface_runs first (Some s) fs places r h =
    let hf = and_right (is_number_word s.contents) _ h in let hv = and_right (is_number_word s.flags) _ hf in
    let rest : List Symbol = flat_map face_symbols fs ++ (bracket 125 ∷ r) in
    symbol_runs first a_surface (word s.contents) (a_number ∷ a_number ∷ a_face ∷ []) places (word s.flags ∷ word s.value ∷ rest) refl
    (ap (λ b. cond b (fits (a_number ∷ a_number ∷ a_face ∷ [])) (face_step (token_of (word s.contents)))) (and_left (is_number_word s.contents) _ h))
    ∙ number_runs first s.flags (a_number ∷ a_face ∷ places) (word s.value ∷ rest) (and_left (is_number_word s.flags) _ hf)
    ∙ number_runs first s.value (a_face ∷ places) rest (and_left (is_number_word s.value) _ hv)

-- ---- formats

-- these formats may follow a first one, if there is one
OneFormat : Option Format → List Format → Type 0
OneFormat first fs = all_are (first_after first fs) fs ≡ true

one_left : (first : Option Format) (f g : List Format) → OneFormat first (f ++ g) → OneFormat first f
unfolding OneFormat
one_left None [] g h = refl
one_left None (x ∷ f) g h = and_left (list_all (is_format x) (x ∷ f)) (list_all (is_format x) g) (sym (list_all-append (is_format x) (x ∷ f) g) ∙ h)
one_left (Some x) f g h = and_left (list_all (is_format x) f) (list_all (is_format x) g) (sym (list_all-append (is_format x) f g) ∙ h)

one_right : (first : Option Format) (f g : List Format) → OneFormat first (f ++ g) → OneFormat (first_after first f) g
unfolding OneFormat
one_right None [] g h = h
one_right None (x ∷ f) g h = and_right (list_all (is_format x) (x ∷ f)) (list_all (is_format x) g) (sym (list_all-append (is_format x) (x ∷ f) g) ∙ h)
one_right (Some x) f g h = and_right (list_all (is_format x) f) (list_all (is_format x) g) (sym (list_all-append (is_format x) f g) ∙ h)

one_allows : (first : Option Format) (x : Format) (f : List Format) → OneFormat first (x ∷ f) → allows first x ≡ true
unfolding OneFormat
one_allows None x f h = refl
one_allows (Some y) x f h = and_left (is_format y x) _ h

one_settles : (first : Option Format) (x : Format) (f : List Format) → OneFormat first (x ∷ f) → first_after first (x ∷ []) ≡ Some x
unfolding OneFormat
one_settles None x f h = refl
one_settles (Some y) x f h = ap Some (same_format y x (and_left (is_format y x) _ h))

-- ---- brushes, entities and files

faces_run : (first : Option Format) (fs : List FaceText) (places : List Awaited) (r : List Symbol) → list_all face_fits fs ≡ true → OneFormat first (map format_of_face fs)
    → run first (a_face ∷ places) (flat_map face_symbols fs ++ (bracket 125 ∷ r)) ≡ run (first_after first (map format_of_face fs)) places r
unfolding behind_face
faces_run first [] places r h one = symbol_runs first a_face (bracket 125) [] places r refl refl ∙ ap (λ f. run f places r) (first_after-none first)
faces_run first (f ∷ fs) places r h one =
    let g : Option Format = first_after first (format_of_face f ∷ []) in
    ap (run first (a_face ∷ places)) (append_assoc (face_symbols f) (flat_map face_symbols fs) (bracket 125 ∷ r))
    ∙ symbol_runs first a_face (bracket 40) rest_of_face places (face_end f ++ (flat_map face_symbols fs ++ (bracket 125 ∷ r))) refl refl
    ∙ face_runs first f places (flat_map face_symbols fs ++ (bracket 125 ∷ r)) (and_left (face_fits f) _ h) (one_allows first (format_of_face f) (map format_of_face fs) one)
    ∙ surface_runs (Some (format_of_face f)) f.surface fs places r (surface_fit f (and_left (face_fits f) _ h))
    ∙ ap (λ o. run o (a_face ∷ places) (flat_map face_symbols fs ++ (bracket 125 ∷ r))) (sym (one_settles first (format_of_face f) (map format_of_face fs) one))
    ∙ faces_run (first_after first (format_of_face f ∷ [])) fs places r (and_right (face_fits f) _ h) (one_right first (format_of_face f ∷ []) (map format_of_face fs) one)
    ∙ ap (λ o. run o places r) (first_after-append first (format_of_face f ∷ []) (map format_of_face fs))

brush_runs : (first : Option Format) (fs : List FaceText) (places : List Awaited) (r : List Symbol) → list_all face_fits fs ≡ true → OneFormat first (map format_of_face fs)
    → run first (first_in_brush ∷ places) (flat_map face_symbols fs ++ (bracket 125 ∷ r)) ≡ run (first_after first (map format_of_face fs)) places r
brush_runs first [] places r h one = symbol_runs first first_in_brush (bracket 125) [] places r refl refl ∙ ap (λ f. run f places r) (first_after-none first)
brush_runs first (f ∷ fs) places r h one =
    ap (run first (first_in_brush ∷ places)) (append_assoc (face_symbols f) (flat_map face_symbols fs) (bracket 125 ∷ r))
    ∙ symbol_runs first first_in_brush (bracket 40) rest_of_face places (face_end f ++ (flat_map face_symbols fs ++ (bracket 125 ∷ r))) refl refl
    ∙ sym (symbol_runs first a_face (bracket 40) rest_of_face places (face_end f ++ (flat_map face_symbols fs ++ (bracket 125 ∷ r))) refl refl)
    ∙ ap (run first (a_face ∷ places)) (sym (append_assoc (face_symbols f) (flat_map face_symbols fs) (bracket 125 ∷ r)))
    ∙ faces_run first (f ∷ fs) places r h one

key_step : (first : Option Format) (key : List ℕ) → not (ends_with_backslash key) ≡ true → step first an_item (token_of (quote key)) ≡ fits (a_value ∷ an_item ∷ [])
key_step first key h = ap (λ b. cond b (refused (Expected Key 0)) (fits (a_value ∷ an_item ∷ []))) (not_true (ends_with_backslash key) h)

items_run : (first : Option Format) (items : List Item) (places : List Awaited) (r : List Symbol) → list_all item_fits items ≡ true → OneFormat first (formats_of items)
    → run first (an_item ∷ places) (flat_map item_symbols items ++ (bracket 125 ∷ r)) ≡ run (first_after first (formats_of items)) places r
items_run first [] places r h one = symbol_runs first an_item (bracket 125) [] places r refl refl ∙ ap (λ f. run f places r) (first_after-none first)
items_run first (property key value ∷ items) places r h one =
    symbol_runs first an_item (quote key) (a_value ∷ an_item ∷ []) places (quote value ∷ flat_map item_symbols items ++ (bracket 125 ∷ r)) refl (key_step first key (and_left (not (ends_with_backslash key)) _ h))
    ∙ symbol_runs first a_value (quote value) [] (an_item ∷ places) (flat_map item_symbols items ++ (bracket 125 ∷ r)) refl refl
    ∙ items_run first items places r (and_right (not (ends_with_backslash key)) _ h) one
items_run first (brush fs ∷ items) places r h one =
    let rest : List Symbol = flat_map item_symbols items ++ (bracket 125 ∷ r) in
    ap (λ l. run first (an_item ∷ places) (bracket 123 ∷ l))
    (append_assoc (flat_map face_symbols fs ++ bracket 125 ∷ []) (flat_map item_symbols items) (bracket 125 ∷ r)
    ∙ append_assoc (flat_map face_symbols fs) (bracket 125 ∷ []) (flat_map item_symbols items ++ (bracket 125 ∷ r)))
    ∙ symbol_runs first an_item (bracket 123) (first_in_brush ∷ an_item ∷ []) places (flat_map face_symbols fs ++ (bracket 125 ∷ (flat_map item_symbols items ++ (bracket 125 ∷ r)))) refl refl
    ∙ brush_runs first fs (an_item ∷ places) (flat_map item_symbols items ++ (bracket 125 ∷ r)) (and_left (list_all face_fits fs) _ h) (one_left first (map format_of_face fs) (formats_of items) one)
    ∙ items_run (first_after first (map format_of_face fs)) items places r (and_right (list_all face_fits fs) _ h) (one_right first (map format_of_face fs) (formats_of items) one)
    ∙ ap (λ o. run o places r) (first_after-append first (map format_of_face fs) (formats_of items))

file_runs : (first : Option Format) (file : List (List Item)) → list_all entity_fits file ≡ true → OneFormat first (formats file) → run first (an_entity ∷ []) (file_symbols file) ≡ passed (first_after first (formats file)) no_more
file_runs first [] h one = ap (λ f. passed f no_more) (first_after-none first)
file_runs first (items ∷ file) h one =
    ap (run first (an_entity ∷ [])) (entity_first items file)
    ∙ symbol_runs first an_entity (bracket 123) (an_item ∷ an_entity ∷ []) [] (flat_map item_symbols items ++ (bracket 125 ∷ file_symbols file)) refl refl
    ∙ items_run first items (an_entity ∷ []) (file_symbols file) (and_left (entity_fits items) _ h) (one_left first (formats_of items) (formats file) one)
    ∙ file_runs (first_after first (formats_of items)) file (and_right (entity_fits items) _ h) (one_right first (formats_of items) (formats file) one)
    ∙ ap (λ f. passed f no_more) (first_after-append first (formats_of items) (formats file))

pub accepted : (text : List ℕ) (doc : MapDoc) → Reads text doc → first_refusal text ≡ None
unfolding first_refusal OneFormat
accepted text doc r =
    ap (λ f. refusal_of (go_on (last_line text) None (an_entity ∷ []) (token_list text).tokens f)) r.no_fault
    ∙ lines_apart (last_line text) (token_list text).tokens None (an_entity ∷ [])
    (ap (λ ss. refusal_of (run None (an_entity ∷ []) ss)) r.symbols ∙ ap refusal_of (file_runs None r.file r.fit r.one_format))
