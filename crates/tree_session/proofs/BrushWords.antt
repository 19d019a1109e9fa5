-- The vertices of a face, one word after another.
use Rattle.std.proofs.Common.{◌≡◌, ℕ, ◌+◌, Bool, true, false, cond, List, [], ◌∷◌, ◌++◌, take, map, None, Some, option_map, Result, Ok, Err, pos, refl, ap, ap₂, sym, ◌∙◌, append_assoc, append-nil}
use Rattle.std.specs.Prelude.{slice_get, unwrap_or, OnOk}
use Rattle.std.specs.Ordering.{int_eq}
use Rattle.std.specs.Fmt.{signed_decimal}
use Rattle.std.proofs.lemmas.Grind.{flat_map-append}
use Rattle.std.proofs.lemmas.List.{map-append}
use Rattle.algebra.specs.Space.{HalfSpace, Homogeneous}
use Rattle.solid_laws.specs.Names.{AreVertices}
use Rattle.solid_laws.specs.FaceLoop.{HasVertex}
use Rattle.map_model.specs.Listings.{vertex_text, vertex_word, point_words}
use Rattle.loop_laws.proofs.Lists.{take_next}
use Rattle.loop_laws.proofs.Places.{vertex_is}
use Rattle.tree_session.specs.Lines.{weight_text}
use Rattle.tree_session.specs.Brushes.{spaced, AddsVertex}

spaced_last : (ws : List (List ℕ)) (w : List ℕ) → spaced (ws ++ w ∷ []) ≡ spaced ws ++ 32 ∷ w
spaced_last ws w = flat_map-append (λ v. 32 ∷ v) ws (w ∷ []) ∙ ap (λ l. spaced ws ++ l) (append-nil (32 ∷ w))

-- The step of a loop that adds the vertices of a face.
pub one_vertex_more : (V : List Homogeneous) (L : List ℕ) (k n : ℕ) (first old new : List ℕ) → slice_get L k ≡ Some n →
    old ≡ first ++ spaced (map (vertex_word V) (take k L)) → new ≡ old ++ 32 ∷ vertex_word V n → new ≡ first ++ spaced (map (vertex_word V) (take (k + 1) L))
one_vertex_more V L k n first old new e o w =
    w ∙ ap (λ l. l ++ 32 ∷ vertex_word V n) o
    ∙ append_assoc first (spaced (map (vertex_word V) (take k L))) (32 ∷ vertex_word V n)
    ∙ ap (λ l. first ++ l) (sym (spaced_last (map (vertex_word V) (take k L)) (vertex_word V n))
    ∙ ap spaced (sym (map-append (vertex_word V) (take k L) (n ∷ []))) ∙ ap (λ ns. spaced (map (vertex_word V) ns)) (sym (take_next L k n e)))

-- A vertex that is written after its blank.
pub no_vertex : (F : List HalfSpace) (k : ℕ) (V : List Homogeneous) (old new : List ℕ) → HasVertex F k None → AreVertices F V → new ≡ old ++ 32 ∷ [] → new ≡ old ++ 32 ∷ vertex_word V k
no_vertex F k V old new h vertices e = e ∙ ap (λ o. old ++ 32 ∷ unwrap_or (option_map vertex_text o) []) (sym (vertex_is F k None V h vertices))

either_way : (t : Bool) (a b : List ℕ) → cond t a (a ++ b) ≡ a ++ cond t [] b
either_way true a b = sym (append-nil a)
either_way false a b = refl

vertex_made : (old mid : List ℕ) (v : Homogeneous) → mid ≡ old ++ 32 ∷ [] → (mid ++ point_words v) ++ weight_text v.weight ≡ old ++ 32 ∷ vertex_text v
vertex_made old mid v e =
    append_assoc mid (point_words v) (weight_text v.weight)
    ∙ ap₂ (λ l t. l ++ t) e (sym (either_way (int_eq v.weight (pos 1)) (point_words v) (47 ∷ signed_decimal v.weight)))
    ∙ append_assoc old (32 ∷ []) (vertex_text v)

pub one_vertex : {A E : Type 0} (r : Result A E) (F : List HalfSpace) (k : ℕ) (v : Homogeneous) (old mid new : List ℕ) → HasVertex F k (Some v) →
    mid ≡ old ++ 32 ∷ [] → OnOk r (new ≡ (mid ++ point_words v) ++ weight_text v.weight) → OnOk r (AddsVertex F k old new)
one_vertex (Err x) F k v old mid new h m e = tt
one_vertex (Ok x) F k v old mid new h m e = λ V vertices.
    e ∙ vertex_made old mid v m ∙ ap (λ o. old ++ 32 ∷ unwrap_or (option_map vertex_text o) []) (sym (vertex_is F k (Some v) V h vertices))
