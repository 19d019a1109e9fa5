-- Lines that are written piece by piece.
use Rattle.std.proofs.Common.{◌≡◌, ℕ, ◌+◌, if◌then◌else◌, List, [], ◌∷◌, ◌++◌, length, map, Option, None, Some, Result, Ok, Err, refl, ap, sym, subst, ◌∙◌, append_assoc, append-nil}
use Rattle.std.specs.Prelude.{slice_get, OnOk, codes, flat_map, is_ok}
use Rattle.std.specs.Fmt.{decimal}
use Rattle.algebra.specs.Space.{HalfSpace, Homogeneous}
use Rattle.algebra.specs.World.{InCube, world}
use Rattle.exact_geom.specs.Planes.{half_space}
use Rattle.trim_laws.specs.Valid.{Valid}
use Rattle.solid_laws.specs.Names.{AreVertices}
use Rattle.solid_laws.specs.FaceLoop.{HasVertex, HasLoopVertex}
use Rattle.solid_laws.proofs.Numbered.{got_member}
use Rattle.map_model.specs.Faces.{Face}
use Rattle.map_model.specs.Shape.{half_spaces}
use Rattle.map_model.specs.Loops.{loop}
use Rattle.map_model.specs.Listings.{words, line}
use Rattle.loop_laws.proofs.Places.{number_is}
use Rattle.obj_export.specs.Text.{vertex_line, vertex_number, turned, material_name, face_lines}
use Rattle.obj_export.specs.Adding.{spaced, corner_at, AddsCorner, AddsLoop, AddsFace, AddsVertices, AddsFaces, AddsLines}

-- A vertex of a brush lies in the world.
pub in_world : (F : List HalfSpace) (k : ℕ) (v : Homogeneous) → Valid F → HasVertex F k (Some v) → InCube world v
in_world F k v valid h = valid.within v (h.vertices.each v (got_member h.V k v h.is_vertex)).0.inside

-- A line of words is the first of them, and then each with a blank before.
pub words_spaced : (w : List ℕ) (ws : List (List ℕ)) → words (w ∷ ws) ≡ w ++ spaced ws
words_spaced w [] = sym (append-nil w)
words_spaced w (v ∷ ws) = ap (λ l. w ++ 32 ∷ l) (words_spaced v ws)

five : (a u n m s t : List ℕ) → ((((a ++ u) ++ n) ++ m) ++ s) ++ t ≡ a ++ (u ++ (n ++ (m ++ (s ++ t))))
five a u n m s t = simp append_assoc

face_made : (old name : List ℕ) (ws : List (List ℕ)) →
    ((((old ++ codes "usemtl ") ++ name) ++ codes "\nf") ++ spaced ws) ++ 10 ∷ [] ≡ old ++ (line (codes "usemtl" ∷ name ∷ []) ++ line (codes "f" ∷ ws))
face_made old name ws = pieces ∙ sym (ap (λ l. old ++ (line (codes "usemtl" ∷ name ∷ []) ++ (l ++ 10 ∷ []))) (words_spaced (codes "f") ws))
  where
    pieces : ((((old ++ codes "usemtl ") ++ name) ++ codes "\nf") ++ spaced ws) ++ 10 ∷ [] ≡ old ++ (line (codes "usemtl" ∷ name ∷ []) ++ ((codes "f" ++ spaced ws) ++ 10 ∷ []))
    pieces = five old (codes "usemtl ") name (codes "\nf") (spaced ws) (10 ∷ [])
        ∙ ap (λ l. old ++ (codes "usemtl " ++ l)) (sym (append_assoc name (10 ∷ []) (102 ∷ (spaced ws ++ 10 ∷ []))))

pub adds_face : {A E : Type 0} (r : Result A E) (F : List HalfSpace) (k : ℕ) (face : Face) (before : ℕ) (old a b c d new : List ℕ) →
    slice_get F k ≡ Some (half_space face.plane) → a ≡ old ++ codes "usemtl " → b ≡ a ++ material_name face.material → c ≡ b ++ codes "\nf" →
    AddsLoop F k before c d → new ≡ (if is_ok r then d ++ 10 ∷ [] else d) → OnOk r (AddsFace F face before old new)
adds_face (Err x) F k face before old a b c d new is ea eb ec ed en = tt
adds_face (Ok x) F k face before old a b c d new is ea eb ec ed en = λ V vertices.
    let ws = map (vertex_number before) (turned (loop V (half_space face.plane))) in
    en ∙ ap (λ l. l ++ 10 ∷ []) (ed V (half_space face.plane) vertices is
    ∙ ap (λ l. l ++ spaced ws) (ec ∙ ap (λ l. l ++ codes "\nf") (eb ∙ ap (λ l. l ++ material_name face.material) ea)))
    ∙ face_made old (material_name face.material) ws

pub adds_corner : {A E : Type 0} (r : Result A E) (F : List HalfSpace) (face k before n m : ℕ) (old new : List ℕ) → HasLoopVertex F face k (Some n) →
    m ≡ before + 1 + n → OnOk r (new ≡ old ++ 32 ∷ decimal m) → OnOk r (AddsCorner F face k before old new)
adds_corner (Err x) F face k before n m old new h is en = tt
adds_corner (Ok x) F face k before n m old new h is en = λ V f vertices e.
    en ∙ ap (λ z. old ++ 32 ∷ decimal z) is
    ∙ ap (λ o. old ++ corner_at before o) (sym (number_is F face k (Some n) V f vertices e h))

pub no_corner : (F : List HalfSpace) (face k before : ℕ) (text : List ℕ) → HasLoopVertex F face k None → AddsCorner F face k before text text
no_corner F face k before text h = λ V f vertices e.
    sym (append-nil text) ∙ ap (λ o. text ++ corner_at before o) (sym (number_is F face k None V f vertices e h))

pub adds_lines : {A E : Type 0} (r : Result A E) (fs : List Face) (F : List HalfSpace) (before : ℕ) (old mid new : List ℕ) → F ≡ half_spaces fs →
    AddsVertices F old mid → OnOk r (AddsFaces fs before mid new) → OnOk r (AddsLines fs before old new)
adds_lines (Err x) fs F before old mid new is av af = tt
adds_lines (Ok x) fs F before old mid new is av af = λ V vertices.
    let its = subst (λ G. AreVertices G V) (sym is) vertices in
    af V vertices ∙ ap (λ l. l ++ flat_map (face_lines before V) fs) (av V its)
    ∙ append_assoc old (flat_map vertex_line V) (flat_map (face_lines before V) fs)
