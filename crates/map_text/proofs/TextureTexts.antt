-- Textures that are read.
use Rattle.std.proofs.Common.{◌≡◌, ℕ, ◌&&◌, ◌||◌, Bool, true, false, cond, List, [], ◌∷◌, ◌++◌, Option, None, Some, Result, ℤ, option_map, map, ap, sym, subst, ◌∙◌, refl}
use Rattle.std.proofs.lemmas.Bool.{false≢true}
use Rattle.fixed_num.specs.Count.{is_number_word, count_of}
use Rattle.fixed_num.specs.Decimals.{axis_decimals, offset_decimals, rotation_decimals, scale_decimals}
use Rattle.uv_lock.specs.SurfaceNumbers.{SurfaceNumbers}
use Rattle.uv_lock.specs.declared.texture.Format.{Format}
use Rattle.uv_lock.specs.declared.texture.Format.TheVariants.{Standard, Valve}
use Rattle.map_lex.specs.TokenList.{TokenValue, put_first}
use Rattle.map_text.specs.declared.document.Reason.{Reason}
use Rattle.map_text.specs.declared.document.Reason.TheVariants.{Texture}
use Rattle.map_text.specs.declared.read_fault.ReadFault.TheVariants.{Expected, MixedFormat}
use Rattle.map_text.specs.declared.read_fault.What.TheVariants.{Axis, Number}
use Rattle.map_text.specs.Grammar.{AxisText, standard, valve, SurfaceText, bracket, symbol_of}
use Rattle.std.specs.List.{list_all}
use Rattle.map_text.specs.Fits.{is_format, texture_numbers}
use Rattle.map_text.specs.Meaning.{is_large, is_axis_large, axis_of, surface_of, tex_of}
use Rattle.map_text.specs.Refusals.{a_number, a_texture, a_surface, a_face, mark, rest_of_axis, rest_of_texture, is_bracket, is_number, texture_format, texture_step, settled, step, fits, refused}
use Rattle.map_text.specs.Reading.{ReaderState, Passes, IsRead, IsNext, IsRefused, allows, first_after, all_are}
use Rattle.map_text.specs.Judged.{judge, reason_if, or_else, surface_reason, count_or, count_in, axis_from, turn_from, standard_from, valve_from}
use Rattle.map_text.specs.Parts.{number_part, axis_part, turn_part, Turn, turn_places, surface_part, texture_part, with_format}
use Rattle.map_text.proofs.Passing.{joined, framed, next_part, all_appended, goes_on, stops_token, bracket_of}
use Rattle.map_text.proofs.NumberTexts.{number_if, no_number_if, number_fits, number_symbol}
use Rattle.map_text.proofs.Judging.{large_then, large_last, then_else, then_judged}

-- ---- tests of several numbers

or_none : (a : Bool) → a ≡ (a || false)
or_none true = refl
or_none false = refl

or_three : (a b c d : Bool) → (a || (b || (c || d))) ≡ ((a || (b || (c || false))) || d)
or_three true b c d = refl
or_three false true c d = refl
or_three false false true d = refl
or_three false false false d = refl

as_large : {A : Type 0} (r : Result A Reason) (p q : Bool) (x : A) → r ≡ judge (reason_if p Texture) x → p ≡ q → r ≡ judge (reason_if q Texture) x
as_large r p q x e h = e ∙ ap (λ b. judge (reason_if b Texture) x) h

-- ---- axes, and what follows them

axis_meaning : (x y z o : List ℕ) → let a : AxisText = record { x = x; y = y; z = z; offset = o } in
    axis_from (count_or Texture axis_decimals x) (count_or Texture axis_decimals y) (count_or Texture axis_decimals z) (count_or Texture offset_decimals o) ≡ axis_part.meaning a
axis_meaning x y z o =
    let l : List ℕ → Bool = is_large axis_decimals in
    let n : List ℕ → ℤ = count_of axis_decimals in
    as_large _ (l x || (l y || (l z || is_large offset_decimals o))) ((l x || (l y || (l z || false))) || is_large offset_decimals o)
    (n x ∷ n y ∷ n z ∷ [], count_of offset_decimals o)
    (large_then Texture (l x) (l y || (l z || is_large offset_decimals o)) (n x) (n x ∷ n y ∷ n z ∷ [], count_of offset_decimals o) _
    (large_then Texture (l y) (l z || is_large offset_decimals o) (n y) (n x ∷ n y ∷ n z ∷ [], count_of offset_decimals o) _
    (large_then Texture (l z) (is_large offset_decimals o) (n z) (n x ∷ n y ∷ n z ∷ [], count_of offset_decimals o) _
    (large_last Texture (is_large offset_decimals o) (count_of offset_decimals o) (λ o. (n x ∷ n y ∷ n z ∷ [], o))))))
    (or_three (l x) (l y) (l z) (is_large offset_decimals o))

turn_meaning : (r u v : List ℕ) → turn_from (count_or Texture rotation_decimals r) (count_or Texture scale_decimals u) (count_or Texture scale_decimals v) ≡ turn_part.meaning (r, u, v)
turn_meaning r u v =
    let l : List ℕ → Bool = is_large scale_decimals in
    let n : List ℕ → ℤ = count_of scale_decimals in
    as_large _ (is_large rotation_decimals r || (l u || l v)) (is_large rotation_decimals r || (l u || (l v || false))) (count_of rotation_decimals r, n u ∷ n v ∷ [])
    (large_then Texture (is_large rotation_decimals r) (l u || l v) (count_of rotation_decimals r) (count_of rotation_decimals r, n u ∷ n v ∷ []) _
    (large_then Texture (l u) (l v) (n u) (count_of rotation_decimals r, n u ∷ n v ∷ []) _
    (large_last Texture (l v) (n v) (λ v. (count_of rotation_decimals r, n u ∷ v ∷ [])))))
    (ap (λ b. is_large rotation_decimals r || (l u || b)) (or_none (l v)))

pub axis_read : {s0 s1 s2 s3 s4 s5 : ReaderState} {x y z o : Result ℤ Reason} → IsRead (number_part Texture axis_decimals) (a_number ∷ []) [] s0 s1 x
    → IsRead (number_part Texture axis_decimals) (a_number ∷ []) [] s1 s2 y → IsRead (number_part Texture axis_decimals) (a_number ∷ []) [] s2 s3 z
    → IsRead (number_part Texture offset_decimals) (a_number ∷ []) [] s3 s4 o → Passes s4 s5 (mark 93 Axis ∷ []) [] (bracket 93 ∷ []) []
    → IsRead axis_part rest_of_axis [] s0 s5 (axis_from x y z o)
axis_read hx hy hz ho close = record {
  text = record { x = hx.text; y = hy.text; z = hz.text; offset = ho.text };
  fit = (λ i. hx.fit i && (hy.fit i && (hz.fit i && (ho.fit i && true))));
  passes = next_part hx.passes (next_part hy.passes (next_part hz.passes (next_part ho.passes close)));
  meaning = (λ i. axis_from (hx.meaning i) (hy.meaning i) (hz.meaning i) (ho.meaning i)) ∙ axis_meaning hx.text hy.text hz.text ho.text;
}

pub turn_read : {s0 s1 s2 s3 : ReaderState} {r u v : Result ℤ Reason} → IsRead (number_part Texture rotation_decimals) (a_number ∷ []) [] s0 s1 r
    → IsRead (number_part Texture scale_decimals) (a_number ∷ []) [] s1 s2 u → IsRead (number_part Texture scale_decimals) (a_number ∷ []) [] s2 s3 v
    → IsRead turn_part turn_places [] s0 s3 (turn_from r u v)
turn_read hr hu hv = record {
  text = (hr.text, hu.text, hv.text);
  fit = (λ i. hr.fit i && (hu.fit i && (hv.fit i && true)));
  passes = next_part hr.passes (next_part hu.passes hv.passes);
  meaning = (λ i. turn_from (hr.meaning i) (hu.meaning i) (hv.meaning i)) ∙ turn_meaning hr.text hu.text hv.text;
}

-- ---- whole textures

two_and_turn : (a b c : Bool) (s : Option Reason)
    → or_else (reason_if a Texture) (or_else (reason_if b Texture) (or_else (reason_if c Texture) s)) ≡ or_else (reason_if ((a || (b || false)) || c) Texture) s
two_and_turn true b c s = refl
two_and_turn false true c s = refl
two_and_turn false false c s = refl

axes_and_turn : (a b c : Bool) (s : Option Reason)
    → or_else (reason_if a Texture) (or_else (reason_if b Texture) (or_else (reason_if c Texture) s)) ≡ or_else (reason_if (a || (b || c)) Texture) s
axes_and_turn true b c s = refl
axes_and_turn false true c s = refl
axes_and_turn false false c s = refl

-- a rotation or a scale is large
is_turn_large : Turn → Bool
is_turn_large t = is_large rotation_decimals t.0 || (is_large scale_decimals t.1 || (is_large scale_decimals t.2 || false))

standard_meaning : (u v : List ℕ) (t : Turn) (s : Option SurfaceText)
    → standard_from (count_or Texture offset_decimals u) (count_or Texture offset_decimals v) (turn_part.meaning t) (surface_part.meaning s) ≡ texture_part.meaning (standard u v t.0 t.1 t.2, s)
unfolding is_turn_large
standard_meaning u v t s =
    then_else (reason_if (is_large offset_decimals u) Texture) _ (count_of offset_decimals u) (tex_of (standard u v t.0 t.1 t.2) s) _
    (then_else (reason_if (is_large offset_decimals v) Texture) _ (count_of offset_decimals v) (tex_of (standard u v t.0 t.1 t.2) s) _
    (then_else (reason_if (is_turn_large t) Texture) (surface_reason s) (count_of rotation_decimals t.0, count_of scale_decimals t.1 ∷ count_of scale_decimals t.2 ∷ []) (tex_of (standard u v t.0 t.1 t.2) s) _
    (then_judged (surface_reason s) (option_map surface_of s) _)))
    ∙ ap (λ r. judge r (tex_of (standard u v t.0 t.1 t.2) s)) (two_and_turn (is_large offset_decimals u) (is_large offset_decimals v) (is_turn_large t) (surface_reason s))

valve_meaning : (u v : AxisText) (t : Turn) (s : Option SurfaceText)
    → valve_from (axis_part.meaning u) (axis_part.meaning v) (turn_part.meaning t) (surface_part.meaning s) ≡ texture_part.meaning (valve u v t.0 t.1 t.2, s)
unfolding is_turn_large
valve_meaning u v t s =
    then_else (reason_if (is_axis_large u) Texture) _ (axis_of u, count_of offset_decimals u.offset) (tex_of (valve u v t.0 t.1 t.2) s) _
    (then_else (reason_if (is_axis_large v) Texture) _ (axis_of v, count_of offset_decimals v.offset) (tex_of (valve u v t.0 t.1 t.2) s) _
    (then_else (reason_if (is_turn_large t) Texture) (surface_reason s) (count_of rotation_decimals t.0, count_of scale_decimals t.1 ∷ count_of scale_decimals t.2 ∷ []) (tex_of (valve u v t.0 t.1 t.2) s) _
    (then_judged (surface_reason s) (option_map surface_of s) _)))
    ∙ ap (λ r. judge r (tex_of (valve u v t.0 t.1 t.2) s)) (axes_and_turn (is_axis_large u) (is_axis_large v) (is_turn_large t) (surface_reason s))

pub standard_read : {s0 s1 s2 s3 s4 : ReaderState} {u v : Result ℤ Reason} {t : Result (ℤ × List ℤ) Reason} {s : Result (Option SurfaceNumbers) Reason}
    → IsRead (with_format Standard (number_part Texture offset_decimals)) (a_texture ∷ []) (rest_of_texture Standard) s0 s1 u
    → IsRead (number_part Texture offset_decimals) (a_number ∷ []) [] s1 s2 v → IsRead turn_part turn_places [] s2 s3 t → IsRead surface_part (a_surface ∷ []) (a_face ∷ []) s3 s4 s
    → IsRead texture_part (a_texture ∷ a_surface ∷ []) (a_face ∷ []) s0 s4 (standard_from u v t s)
standard_read {s0} {s1} {s2} {s3} {s4} hu hv ht hs = record {
  text = (standard hu.text hv.text ht.text.0 ht.text.1 ht.text.2, hs.text);
  fit = (λ i. (hu.fit i && (hv.fit i && ht.fit i)) && hs.fit i);
  passes = joined s0 s1 s4 (a_texture ∷ a_surface ∷ []) (rest_of_texture Standard ++ (a_surface ∷ [])) (a_face ∷ []) _ _ _ _
      (framed s0 s1 (a_texture ∷ []) (rest_of_texture Standard) _ _ (a_surface ∷ []) hu.passes) (next_part hv.passes (next_part ht.passes hs.passes));
  meaning = (λ i. standard_from (hu.meaning i) (hv.meaning i) (ht.meaning i) (hs.meaning i)) ∙ standard_meaning hu.text hv.text ht.text hs.text;
}

pub valve_read : {s0 s1 s2 s3 s4 s5 s6 : ReaderState} {u v : Result (List ℤ × ℤ) Reason} {t : Result (ℤ × List ℤ) Reason} {s : Result (Option SurfaceNumbers) Reason}
    → Passes s0 s1 (a_texture ∷ []) (rest_of_texture Valve) (bracket 91 ∷ []) (Valve ∷ [])
    → IsRead axis_part rest_of_axis [] s1 s2 u → Passes s2 s3 (mark 91 Axis ∷ []) [] (bracket 91 ∷ []) [] → IsRead axis_part rest_of_axis [] s3 s4 v → IsRead turn_part turn_places [] s4 s5 t
    → IsRead surface_part (a_surface ∷ []) (a_face ∷ []) s5 s6 s → IsRead texture_part (a_texture ∷ a_surface ∷ []) (a_face ∷ []) s0 s6 (valve_from u v t s)
valve_read {s0} {s1} {s2} {s3} {s4} {s5} {s6} start hu again hv ht hs =
    let fit : list_all is_number_word (texture_numbers (valve hu.text hv.text ht.text.0 ht.text.1 ht.text.2)) ≡ true =
    all_appended is_number_word (hu.text.x ∷ hu.text.y ∷ hu.text.z ∷ hu.text.offset ∷ [])
    ((hv.text.x ∷ hv.text.y ∷ hv.text.z ∷ hv.text.offset ∷ []) ++ (ht.text.0 ∷ ht.text.1 ∷ ht.text.2 ∷ [])) hu.fit
    (all_appended is_number_word (hv.text.x ∷ hv.text.y ∷ hv.text.z ∷ hv.text.offset ∷ []) (ht.text.0 ∷ ht.text.1 ∷ ht.text.2 ∷ []) hv.fit ht.fit) in
    record {
      text = (valve hu.text hv.text ht.text.0 ht.text.1 ht.text.2, hs.text);
      fit = (λ i. fit i && hs.fit i);
      passes = joined s0 s1 s6 (a_texture ∷ a_surface ∷ []) (rest_of_texture Valve ++ (a_surface ∷ [])) (a_face ∷ []) _ _ _ _
          (framed s0 s1 (a_texture ∷ []) (rest_of_texture Valve) _ _ (a_surface ∷ []) start) (next_part hu.passes (next_part again (next_part hv.passes (next_part ht.passes hs.passes))));
      meaning = (λ i. valve_from (hu.meaning i) (hv.meaning i) (ht.meaning i) (hs.meaning i)) ∙ valve_meaning hu.text hv.text ht.text hs.text;
    }

-- ---- the first token of a texture

pub same_format : (f g : Format) → is_format f g ≡ true → f ≡ g
same_format Standard Standard h = refl
same_format Standard Valve h = absurd (false≢true h)
same_format Valve Standard h = absurd (false≢true h)
same_format Valve Valve h = refl

pub is_format-same : (f : Format) → is_format f f ≡ true
is_format-same Standard = refl
is_format-same Valve = refl

pub texture_fits : (first : Option Format) (t : TokenValue) (format : Format) → texture_format t ≡ Some format → allows first format ≡ true → step first a_texture t ≡ fits (rest_of_texture format)
texture_fits None t format e h = ap (texture_step None t) e
texture_fits (Some first) t format e h = ap (texture_step (Some first) t) e ∙ ap (λ b. cond b (fits (rest_of_texture format)) (refused (MixedFormat t.line))) h

texture_mixes : (first : Option Format) (t : TokenValue) (format : Format) → texture_format t ≡ Some format → allows first format ≡ false → step first a_texture t ≡ refused (MixedFormat t.line)
texture_mixes None t format e h = absurd (false≢true (sym h))
texture_mixes (Some first) t format e h = ap (texture_step (Some first) t) e ∙ ap (λ b. cond b (fits (rest_of_texture format)) (refused (MixedFormat t.line))) h

no_texture : (first : Option Format) (t : TokenValue) → texture_format t ≡ None → step first a_texture t ≡ refused (Expected Number t.line)
no_texture first t e = ap (texture_step first t) e

pub texture_settles : (first : Option Format) (t : TokenValue) (format : Format) → texture_format t ≡ Some format → allows first format ≡ true → Some format ≡ settled first a_texture t
texture_settles None t format e h = sym e
texture_settles (Some first) t format e h = ap Some (sym (same_format first format h))

pub first_after-allowed : (first : Option Format) (format : Format) → allows first format ≡ true → Some format ≡ first_after first (format ∷ [])
first_after-allowed None format h = refl
first_after-allowed (Some first) format h = ap Some (sym (same_format first format h))

pub texture_begins : (old now new : ReaderState) (t : TokenValue) (format : Format) → IsNext old t now → allows now.first format ≡ true
    → new ≡ record { last = now.last; first = Some format; left = now.left } → texture_format t ≡ Some format
    → Passes old new (a_texture ∷ []) (rest_of_texture format) (symbol_of t ∷ []) (format ∷ [])
texture_begins old now new t format next allowed is kind =
    let allowed' : allows old.first format ≡ true = ap (λ f. allows f format) (sym next.first) ∙ allowed in
    let left : old.left ≡ put_first t new.left = next.left ∙ ap (λ s. put_first t s.left) (sym is) in
    record {
      goes = goes_on old new a_texture t (rest_of_texture format) left (ap (λ s. s.last) is ∙ next.last)
          (ap (λ s. s.first) is ∙ texture_settles old.first t format kind allowed') (texture_fits old.first t format kind allowed');
      symbols = ap (λ l. map symbol_of l.tokens) left;
      fault = ap (λ l. l.fault) left;
      first = ap (λ s. s.first) is ∙ first_after-allowed old.first format allowed';
      one_format = ap (λ s. all_are s.first (format ∷ [])) is ∙ ap (λ b. b && true) (is_format-same format);
    }

pub texture_stops : (old now : ReaderState) (t : TokenValue) (format : Format) → IsNext old t now → allows now.first format ≡ false → texture_format t ≡ Some format
    → IsRefused old (a_texture ∷ []) (MixedFormat t.line)
texture_stops old now t format next other kind =
    stops_token old now a_texture t (MixedFormat t.line) next (texture_mixes old.first t format kind (ap (λ f. allows f format) (sym next.first) ∙ other))

pub valve_kind : (t : TokenValue) → is_bracket 91 t ≡ true → texture_format t ≡ Some Valve
valve_kind t h = rw h refl

pub standard_kind : (t : TokenValue) → is_bracket 91 t ≡ false → is_number t ≡ true → texture_format t ≡ Some Standard
standard_kind t h k = rw (h, k) refl

pub axes_begin : (old now new : ReaderState) (t : TokenValue) → IsNext old t now → allows now.first Valve ≡ true → new ≡ record { last = now.last; first = Some Valve; left = now.left }
    → is_bracket 91 t ≡ true → Passes old new (a_texture ∷ []) (rest_of_texture Valve) (bracket 91 ∷ []) (Valve ∷ [])
axes_begin old now new t next allowed is h =
    let b = texture_begins old now new t Valve next allowed is (valve_kind t h) in
    subst (λ s. Passes old new (a_texture ∷ []) (rest_of_texture Valve) (s ∷ []) (Valve ∷ [])) (bracket_of t 91 h) b

pub offset_begins : (old now new : ReaderState) (t : TokenValue) (number : Result ℤ Reason) → IsNext old t now → allows now.first Standard ≡ true
    → new ≡ record { last = now.last; first = Some Standard; left = now.left } → is_bracket 91 t ≡ false → Some number ≡ count_in Texture offset_decimals t
    → IsRead (with_format Standard (number_part Texture offset_decimals)) (a_texture ∷ []) (rest_of_texture Standard) old new number
offset_begins old now new t number next allowed is h found =
    let n : (is_number t ≡ true) × (number ≡ count_or Texture offset_decimals t.text) = number_if t number (count_or Texture offset_decimals t.text) found in
    record {
      text = t.text;
      fit = number_fits t n.0;
      passes = subst (λ s. Passes old new (a_texture ∷ []) (rest_of_texture Standard) (s ∷ []) (Standard ∷ [])) (number_symbol t n.0)
          (texture_begins old now new t Standard next allowed is (standard_kind t h n.0));
      meaning = n.1;
    }

pub offset_stops : (old now : ReaderState) (t : TokenValue) (number : Result ℤ Reason) → IsNext old t now → allows now.first Standard ≡ false → is_bracket 91 t ≡ false → Some number ≡ count_in Texture offset_decimals t
    → IsRefused old (a_texture ∷ []) (MixedFormat t.line)
offset_stops old now t number next other h found =
    let n : (is_number t ≡ true) × (number ≡ count_or Texture offset_decimals t.text) = number_if t number (count_or Texture offset_decimals t.text) found in
    texture_stops old now t Standard next other (standard_kind t h n.0)

pub no_texture_begins : (old now : ReaderState) (t : TokenValue) → IsNext old t now → is_bracket 91 t ≡ false → None ≡ count_in Texture offset_decimals t → IsRefused old (a_texture ∷ []) (Expected Number t.line)
no_texture_begins old now t next h none =
    let n : is_number t ≡ false = no_number_if t (count_or Texture offset_decimals t.text) none in
    let kind : texture_format t ≡ None = rw (h, n) refl in
    stops_token old now a_texture t (Expected Number t.line) next (no_texture old.first t kind)
