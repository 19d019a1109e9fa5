-- Textures by what fills their places.
use Rattle.std.proofs.Common.{◌≡◌, ◌&&◌, Bool, true, false, cond, List, [], ◌∷◌, Option, None, Some, refl, ap, sym, ◌∙◌}
use Rattle.map_lex.specs.TokenList.{TokenValue}
use Rattle.uv_lock.specs.declared.texture.Format.{Format}
use Rattle.uv_lock.specs.declared.texture.Format.TheVariants.{Standard, Valve}
use Rattle.map_text.specs.Grammar.{word, AxisText, standard, valve}
use Rattle.map_text.specs.Fits.{is_format}
use Rattle.map_text.specs.Refusals.{Awaited, a_texture, fits, step, settled, is_bracket, is_number, texture_format, texture_step, rest_of_texture}
use Rattle.map_text.specs.Reading.{all_are, allows}
use Rattle.map_text.proofs.Passing.{bracket_of}
use Rattle.map_text.proofs.NumberTexts.{number_fits, number_symbol}
use Rattle.map_text.proofs.TextureTexts.{texture_settles, first_after-allowed, is_format-same}
use Rattle.map_text.proofs.Fillings.{all_symbols, Rebuilds, either, at_fits, never}

texture_agrees : (first : Option Format) (t : TokenValue) (format : Format) → texture_format t ≡ Some format → allows first format ≡ true → all_are (settled first a_texture t) (format ∷ []) ≡ true
texture_agrees first t format kind allowed =
    ap (λ o. all_are o (format ∷ [])) (sym (texture_settles first t format kind allowed)) ∙ ap (λ b. b && true) (is_format-same format)

standard_rebuilt : (first : Option Format) (t : TokenValue) → is_number t ≡ true → texture_format t ≡ Some Standard → allows first Standard ≡ true → Rebuilds first a_texture t (rest_of_texture Standard)
unfolding Rebuilds
standard_rebuilt first t h kind allowed = λ y. record {
  filling = standard t.text y.0 y.1.0 y.1.1.0 y.1.1.1.0;
  symbols = ap (λ s. s ∷ word y.0 ∷ word y.1.0 ∷ word y.1.1.0 ∷ word y.1.1.1.0 ∷ []) (sym (number_symbol t h));
  fit = λ k. (λ i. number_fits t h i && k i);
  kinds = Standard ∷ [];
  formats_are = refl;
  settles = sym (texture_settles first t Standard kind allowed) ∙ first_after-allowed first Standard allowed;
  agrees = texture_agrees first t Standard kind allowed;
}

valve_rebuilt : (first : Option Format) (t : TokenValue) → is_bracket 91 t ≡ true → texture_format t ≡ Some Valve → allows first Valve ≡ true → Rebuilds first a_texture t (rest_of_texture Valve)
unfolding Rebuilds
valve_rebuilt first t h kind allowed = λ y.
    let u : AxisText = record { x = y.0; y = y.1.0; z = y.1.1.0; offset = y.1.1.1.0 } in
    let v : AxisText = record { x = y.1.1.1.1.1.1.0; y = y.1.1.1.1.1.1.1.0; z = y.1.1.1.1.1.1.1.1.0; offset = y.1.1.1.1.1.1.1.1.1.0 } in
    record {
      filling = valve u v y.1.1.1.1.1.1.1.1.1.1.1.0 y.1.1.1.1.1.1.1.1.1.1.1.1.0 y.1.1.1.1.1.1.1.1.1.1.1.1.1.0;
      symbols = ap (λ s. s ∷ all_symbols (rest_of_texture Valve) y) (sym (bracket_of t 91 h));
      fit = λ k. k;
      kinds = Valve ∷ [];
      formats_are = refl;
      settles = sym (texture_settles first t Valve kind allowed) ∙ first_after-allowed first Valve allowed;
      agrees = texture_agrees first t Valve kind allowed;
    }

texture_more : (P : List Awaited → Type 0) (first : Option Format) (t : TokenValue) (format : Format) (more : List Awaited) → texture_step first t (Some format) ≡ fits more
    → (allows first format ≡ true → P (rest_of_texture format)) → P more
texture_more P None t format more e f = at_fits P (rest_of_texture format) more (f refl) e
texture_more P (Some first) t format more e f =
    either (is_format first format) _ _ (fits more) e (λ h k. at_fits P (rest_of_texture format) more (f h) k) (λ h k. never _ more k)

pub texture_rebuilt : (first : Option Format) (t : TokenValue) (more : List Awaited) → step first a_texture t ≡ fits more → Rebuilds first a_texture t more
texture_rebuilt first t more e = by (is_bracket 91 t) refl (is_number t) refl
  where
    by : (b : Bool) → is_bracket 91 t ≡ b → (n : Bool) → is_number t ≡ n → Rebuilds first a_texture t more
    by true h n k =
        let kind : texture_format t ≡ Some Valve = ap (λ b. cond b (Some Valve) (cond (is_number t) (Some Standard) None)) h in
        texture_more (Rebuilds first a_texture t) first t Valve more (sym (ap (texture_step first t) kind) ∙ e) (valve_rebuilt first t h kind)
    by false h true k =
        let kind : texture_format t ≡ Some Standard = ap (λ b. cond b (Some Valve) (cond (is_number t) (Some Standard) None)) h ∙ ap (λ b. cond b (Some Standard) None) k in
        texture_more (Rebuilds first a_texture t) first t Standard more (sym (ap (texture_step first t) kind) ∙ e) (standard_rebuilt first t k kind)
    by false h false k =
        let kind : texture_format t ≡ None = ap (λ b. cond b (Some Valve) (cond (is_number t) (Some Standard) None)) h ∙ ap (λ b. cond b (Some Standard) None) k in
        never _ more (sym (ap (texture_step first t) kind) ∙ e)
