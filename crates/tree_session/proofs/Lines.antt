-- Lines that are written piece by piece.
use Rattle.std.proofs.Common.{◌≡◌, ℕ, zero, suc, ◌+◌, ◌<◌, List, [], ◌∷◌, ◌++◌, length, take, map, Some, Result, Ok, Err, refl, ap, sym, ◌∙◌, arith, append_assoc, append-nil}
use Rattle.std.specs.Prelude.{slice_get, flat_map, OnOk, codes}
use Rattle.std.proofs.lemmas.Grind.{flat_map-append}
use Rattle.std.specs.List.{enumerate_from}
use Rattle.std.specs.Fmt.{decimal}
use Rattle.algebra.specs.Space.{HalfSpace}
use Rattle.exact_geom.specs.Planes.{half_space}
use Rattle.trim_laws.specs.Valid.{Valid}
use Rattle.solid_laws.specs.FaceLoop.{HasVertexCount}
use Rattle.cmd_text.specs.Replies.{reply_line}
use Rattle.cmd_text.specs.Lines.{line_text}
use Rattle.map_write.specs.Written.{written, material_symbol}
use Rattle.map_model.specs.Faces.{Face}
use Rattle.map_model.specs.Shape.{half_spaces}
use Rattle.map_model.specs.Loops.{loop}
use Rattle.map_model.specs.Listings.{ok_line, words, line, pair_line, vertex_word, face_line}
use Rattle.tree_session.specs.Lines.{pair_at}
use Rattle.tree_session.specs.Brushes.{spaced, AddsLoop, AddsFace, AddsFaces, AddsBrush}
use Rattle.loop_laws.proofs.Lists.{take_next, got, one_more_text}
use Rattle.loop_laws.proofs.Places.{count_is}

-- A line of words is the first of them, and then each with a blank before.
pub words_spaced : (w : List ℕ) (ws : List (List ℕ)) → words (w ∷ ws) ≡ w ++ spaced ws
words_spaced w [] = sym (append-nil w)
words_spaced w (v ∷ ws) = ap (λ l. w ++ 32 ∷ l) (words_spaced v ws)

-- A listing that a last call has ended.
pub ends : {A E : Type 0} (r : Result A E) (mid text new goal : List ℕ) → OnOk r (new ≡ mid ++ text) → mid ++ text ≡ goal → OnOk r (new ≡ goal)
ends (Ok x) mid text new goal e f = e ∙ f
ends (Err x) mid text new goal e f = tt

-- The step of a loop that adds a pair.
pub one_pair_more : (protected : List (List ℕ)) (ps : List (List ℕ × List ℕ)) (k : ℕ) (first old new : List ℕ) → k < length ps →
    old ≡ first ++ flat_map (pair_line protected) (take k ps) → new ≡ old ++ pair_at protected (slice_get ps k) → new ≡ first ++ flat_map (pair_line protected) (take (k + 1) ps)
one_pair_more protected ps k first old new h o n =
    let g = got ps k h in
    one_more_text (pair_line protected) ps k g.item first old new g.is o (n ∙ ap (λ p. old ++ pair_at protected p) g.is)

-- Words and lines that are written piece by piece.
pub point_made : (old mid t : List ℕ) → mid ≡ (old ++ 40 ∷ []) ++ t → mid ++ 41 ∷ [] ≡ old ++ ((40 ∷ t) ++ 41 ∷ [])
point_made old mid t e = ap (λ l. l ++ 41 ∷ []) (e ∙ append_assoc old (40 ∷ []) t) ∙ append_assoc old (40 ∷ t) (41 ∷ [])

pub face_made : (old n m : List ℕ) (ws : List (List ℕ)) →
    (((((old ++ codes "face ") ++ n) ++ 32 ∷ []) ++ m) ++ spaced ws) ++ 10 ∷ [] ≡ old ++ line (codes "face" ∷ n ∷ m ∷ ws)
face_made old n m ws = pieces ∙ sym (ap (λ l. old ++ ((codes "face" ++ 32 ∷ (n ++ 32 ∷ l)) ++ 10 ∷ [])) (words_spaced m ws))
  where
    pieces : (((((old ++ codes "face ") ++ n) ++ 32 ∷ []) ++ m) ++ spaced ws) ++ 10 ∷ [] ≡ old ++ ((codes "face" ++ 32 ∷ (n ++ 32 ∷ (m ++ spaced ws))) ++ 10 ∷ [])
    pieces = simp append_assoc

pub adds_face : {A E : Type 0} (r : Result A E) (F : List HalfSpace) (k : ℕ) (face : Face) (old a b c d e new : List ℕ) → slice_get F k ≡ Some (half_space face.plane) →
    a ≡ old ++ codes "face " → b ≡ a ++ decimal k → c ≡ b ++ 32 ∷ [] → d ≡ c ++ written (material_symbol face.material) → AddsLoop F k d e →
    OnOk r (new ≡ e ++ 10 ∷ []) → OnOk r (AddsFace F k face old new)
adds_face (Err x) F k face old a b c d e new is ea eb ec ed ee en = tt
adds_face (Ok x) F k face old a b c d e new is ea eb ec ed ee en = λ V vertices.
    let m = written (material_symbol face.material) in
    let ws = map (vertex_word V) (loop V (half_space face.plane)) in
    en ∙ ap (λ l. l ++ 10 ∷ []) (ee V (half_space face.plane) vertices is
    ∙ ap (λ l. l ++ spaced ws) (ed ∙ ap (λ l. l ++ m) (ec ∙ ap (λ l. l ++ 32 ∷ []) (eb ∙ ap (λ l. l ++ decimal k) ea))))
    ∙ face_made old (decimal k) m ws

pub brush_made : (old n fs vs : List ℕ) →
    (((((old ++ codes "brush ") ++ n) ++ 32 ∷ []) ++ fs) ++ 32 ∷ []) ++ vs ++ 10 ∷ [] ≡ old ++ line (codes "brush" ∷ n ∷ fs ∷ vs ∷ [])
brush_made old n fs vs = simp append_assoc

-- The lines of a brush: the first one, and those of its faces, whatever right tests give its vertices.
pub adds_brush : {A E : Type 0} (r : Result A E) (n : ℕ) (fs : List Face) (count : ℕ) (old mid new : List ℕ) → Valid (half_spaces fs) →
    HasVertexCount (half_spaces fs) count → mid ≡ old ++ line (codes "brush" ∷ decimal n ∷ decimal (length fs) ∷ decimal count ∷ []) →
    OnOk r (AddsFaces fs mid new) → OnOk r (AddsBrush n fs old new)
adds_brush (Err x) n fs count old mid new valid counts e f = tt
adds_brush (Ok x) n fs count old mid new valid counts e f = λ b right.
    let vs = b.vertices (half_spaces fs) in let vertices = right.vertices (half_spaces fs) valid in
    let lines = flat_map (face_line vs) (enumerate_from 0 fs) in
    f vs vertices ∙ ap (λ l. l ++ lines) (e ∙ ap (λ k. old ++ line (codes "brush" ∷ decimal n ∷ decimal (length fs) ∷ decimal k ∷ [])) (sym (count_is (half_spaces fs) count vs counts vertices)))
    ∙ append_assoc old (line (codes "brush" ∷ decimal n ∷ decimal (length fs) ∷ decimal (length vs) ∷ [])) lines

pub brush_first : (old a b c d e f mid n fs vs : List ℕ) → a ≡ old ++ codes "brush " → b ≡ a ++ n → c ≡ b ++ 32 ∷ [] → d ≡ c ++ fs → e ≡ d ++ 32 ∷ [] → f ≡ e ++ vs →
    mid ≡ f ++ 10 ∷ [] → mid ≡ old ++ line (codes "brush" ∷ n ∷ fs ∷ vs ∷ [])
brush_first old a b c d e f mid n fs vs ea eb ec ed ee ef em =
    em ∙ ap (λ l. l ++ 10 ∷ []) (ef ∙ ap (λ l. l ++ vs) (ee ∙ ap (λ l. l ++ 32 ∷ []) (ed ∙ ap (λ l. l ++ fs) (ec ∙ ap (λ l. l ++ 32 ∷ []) (eb ∙ ap (λ l. l ++ n) ea)))))
    ∙ brush_made old n fs vs

-- The last line of a listing.
pub ok_is : 111 ∷ 107 ∷ 10 ∷ [] ≡ ok_line
unfolding reply_line line_text
ok_is = refl
