-- The refusal of a text is never want of memory.
use Rattle.std.proofs.Common.{◌≡◌, ℕ, Bool, true, false, List, [], ◌∷◌, ◌++◌, Option, Some, None, refl, ap, sym, ◌∙◌}
use Rattle.std.specs.Prelude.{if◌then◌else◌}
use Rattle.map_lex.specs.declared.lexer.LexFault.{LexFault}
use Rattle.map_lex.specs.TokenList.{TokenValue, token_list}
use Rattle.uv_lock.specs.declared.texture.Format.{Format}
use Rattle.map_lex.specs.OneToken.{ends_with_backslash}
use Rattle.map_text.specs.declared.read_fault.ReadFault.{ReadFault}
use Rattle.map_text.specs.declared.read_fault.ReadFault.TheVariants.{Memory}
use Rattle.map_text.specs.Grammar.{symbol_of}
use Rattle.map_text.specs.Fits.{is_material, is_format}
use Rattle.map_text.specs.Refusals.{Awaited, an_entity, an_item, a_value, first_in_brush, a_face, mark, a_number, a_material, a_texture, a_surface, Step, fits, refused, is_bracket, is_number, names_block, texture_format, texture_step, face_step, step, settled, Outcome, passed, stopped_by, at_end, go_on, last_line, refusal_of, first_refusal}

-- It has a cause in the text.
abbrev is_caused : ReadFault → Bool
is_caused Memory = false
is_caused why = true

abbrev is_step_caused : Step → Bool
is_step_caused (fits places) = true
is_step_caused (refused why) = is_caused why

abbrev Caused : Step → Type 0
Caused s = is_step_caused s ≡ true

either : (c : Bool) (x y : Step) → Caused x → Caused y → Caused (if c then x else y)
either true x y p q = p
either false x y p q = q

face_caused : (t : TokenValue) → Caused (face_step t)
face_caused t = either (is_bracket 40 t) _ _ refl (either (is_bracket 125 t) _ _ refl refl)

texture_caused : (first : Option Format) (t : TokenValue) (format : Option Format) → Caused (texture_step first t format)
texture_caused first t None = refl
texture_caused None t (Some format) = refl
texture_caused (Some first) t (Some format) = either (is_format first format) _ _ refl refl

step_caused : (first : Option Format) (place : Awaited) (t : TokenValue) → Caused (step first place t)
step_caused first an_entity t = either (is_bracket 123 t) _ _ refl refl
step_caused first an_item t =
    either t.quoted _ _ (either (ends_with_backslash t.text) _ _ refl refl)
    (either (is_bracket 123 t) _ _ refl (either (is_bracket 125 t) _ _ refl refl))
step_caused first a_value t = either t.quoted _ _ refl refl
step_caused first first_in_brush t = either (names_block t) _ _ refl (face_caused t)
step_caused first a_face t = face_caused t
step_caused first (mark byte what) t = either (is_bracket byte t) _ _ refl refl
step_caused first a_number t = either (is_number t) _ _ refl refl
step_caused first a_material t = either (is_material (symbol_of t)) _ _ refl refl
step_caused first a_texture t = texture_caused first t (texture_format t)
step_caused first a_surface t = either (is_number t) _ _ refl (face_caused t)

-- An outcome that isn't want of memory.
abbrev is_outcome_caused : Outcome → Bool
is_outcome_caused (passed first tokens) = true
is_outcome_caused (stopped_by why) = is_caused why

end_caused : (last : ℕ) (first : Option Format) (places : List Awaited) (fault : Option LexFault) → is_outcome_caused (at_end last first places fault) ≡ true
end_caused last first places (Some fault) = refl
end_caused last first (an_entity ∷ []) None = refl
end_caused last first places None = refl

go_on_caused : (last : ℕ) (first : Option Format) (places : List Awaited) (tokens : List TokenValue) (fault : Option LexFault) → is_outcome_caused (go_on last first places tokens fault) ≡ true
go_on_caused last first [] tokens fault = refl
go_on_caused last first (place ∷ places) [] fault = end_caused last first (place ∷ places) fault
go_on_caused last first (place ∷ places) (t ∷ tokens) fault =
    at (step first place t) (step_caused first place t) (λ more. go_on_caused last (settled first place t) (more ++ places) tokens fault)
  where
    at : (s : Step) → Caused s → ((more : List Awaited) → is_outcome_caused (go_on last (settled first place t) (more ++ places) tokens fault) ≡ true) →
        is_outcome_caused (elim s [ fits more ↦ go_on last (settled first place t) (more ++ places) tokens fault | refused why ↦ stopped_by why ]) ≡ true
    at (fits more) caused later = later more
    at (refused why) caused later = caused

no_memory : (o : Outcome) → is_outcome_caused o ≡ true → refusal_of o ≡ Some Memory → ⊥
no_memory (passed first tokens) caused e = cc e
no_memory (stopped_by why) caused e = let f : why ≡ Memory = cc e in let g : false ≡ true = ap is_caused (sym f) ∙ caused in cc g

pub never_memory : (text : List ℕ) → first_refusal text ≡ Some Memory → ⊥
unfolding first_refusal
never_memory text e =
    no_memory (go_on (last_line text) None (an_entity ∷ []) (token_list text).tokens (token_list text).fault)
    (go_on_caused (last_line text) None (an_entity ∷ []) (token_list text).tokens (token_list text).fault) e
