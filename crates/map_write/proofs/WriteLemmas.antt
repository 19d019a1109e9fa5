-- The written text, put together from its parts.
use Rattle.std.proofs.Common.{◌≡◌, ℕ, suc, ◌+◌, ◌<◌, ◌≤◌, List, [], ◌∷◌, ◌++◌, map, length, get_or, slice_index_or, drop, Option, None, Some, Result, Ok, Err, OnOk, ℤ, ap, sym, ◌∙◌, add-one, append_assoc, append-nil, drop-cons, codes}
use Rattle.std.specs.Option.{option_map}
use Rattle.std.specs.List.{flat_map, enumerate_from}
use Rattle.std.specs.Fmt.{decimal}
use Rattle.std.proofs.lemmas.List.{drop_all}
use Rattle.std.proofs.lemmas.List.Concat.{flat_map-append}
use Rattle.fixed_num.specs.Decimals.{rotation_decimals, scale_decimals}
use Rattle.fixed_num.specs.Shortest.{shortest_decimal}
use Rattle.uv_lock.specs.SurfaceNumbers.{SurfaceNumbers}
use Rattle.uv_lock.specs.declared.face.Face.{Face}
use Rattle.uv_lock.specs.declared.texture.Tex.TheVariants.{Valve}
use Rattle.map_lex.specs.LineTexts.{text_of}
use Rattle.map_text.specs.Grammar.{Symbol, PointText, TextureText, standard, valve, SurfaceText, point_symbols, axis_symbols, texture_symbols, surface_symbols, face_symbols}
use Rattle.map_text.specs.declared.document.RawEntity.{RawEntity}
use Rattle.map_text.specs.declared.document.RawBrush.{RawBrush}
use Rattle.map_write.specs.Written.{kept, at, written, line_of, point_text, axis_text, texture_text, surface_text, surface_of_tex, surface_end, face_line, material_symbol, property_line, brush_lines, entity_lines}

-- three words in brackets
pub three_written : (old x y z : List ℕ) →
    ((((((old ++ 40 ∷ 32 ∷ []) ++ x) ++ 32 ∷ []) ++ y) ++ 32 ∷ []) ++ z) ++ 32 ∷ 41 ∷ []
    ≡ old ++ (40 ∷ 32 ∷ (x ++ 32 ∷ (y ++ 32 ∷ (z ++ 32 ∷ 41 ∷ []))))
three_written old x y z = simp append_assoc

-- four words in square brackets
pub four_written : (old x y z w : List ℕ) →
    ((((((((old ++ 91 ∷ 32 ∷ []) ++ x) ++ 32 ∷ []) ++ y) ++ 32 ∷ []) ++ z) ++ 32 ∷ []) ++ w) ++ 32 ∷ 93 ∷ []
    ≡ old ++ (91 ∷ 32 ∷ (x ++ 32 ∷ (y ++ 32 ∷ (z ++ 32 ∷ (w ++ 32 ∷ 93 ∷ [])))))
four_written old x y z w = simp append_assoc

-- two axes, and the rotation and the scales behind them
axes_written : (old x0 y0 z0 o0 x1 y1 z1 o1 c d e : List ℕ) →
    (old ++ ((91 ∷ 32 ∷ (x0 ++ 32 ∷ (y0 ++ 32 ∷ (z0 ++ 32 ∷ (o0 ++ 32 ∷ 93 ∷ []))))) ++ 32 ∷ (91 ∷ 32 ∷ (x1 ++ 32 ∷ (y1 ++ 32 ∷ (z1 ++ 32 ∷ (o1 ++ 32 ∷ 93 ∷ []))))))) ++ (32 ∷ (c ++ 32 ∷ (d ++ 32 ∷ e)))
    ≡ old ++ (91 ∷ 32 ∷ (x0 ++ 32 ∷ (y0 ++ 32 ∷ (z0 ++ 32 ∷ (o0 ++ 32 ∷ 93 ∷ 32 ∷ 91 ∷ 32 ∷ (x1 ++ 32 ∷ (y1 ++ 32 ∷ (z1 ++ 32 ∷ (o1 ++ 32 ∷ 93 ∷ 32 ∷ (c ++ 32 ∷ (d ++ 32 ∷ e)))))))))))
axes_written old x0 y0 z0 o0 x1 y1 z1 o1 c d e = simp append_assoc

-- the rotation and the scales of a texture, with a space before each
abbrev pub turn_text : ℤ → List ℤ → List ℕ
turn_text rotation scale =
    32 ∷ (shortest_decimal rotation_decimals rotation ++ 32 ∷ (shortest_decimal scale_decimals (at scale 0) ++ 32 ∷ shortest_decimal scale_decimals (at scale 1)))

pub valve_written : (old : List ℕ) (axis : List (List ℤ)) (off : List ℤ) (rotation : ℤ) (scale : List ℤ) (surface : Option SurfaceNumbers) →
    (old ++ (line_of (axis_symbols (axis_text kept (slice_index_or axis 0 []) (at off 0))) ++ 32 ∷ line_of (axis_symbols (axis_text kept (slice_index_or axis 1 []) (at off 1))))) ++ turn_text rotation scale
    ≡ old ++ line_of (texture_symbols (texture_text kept (Valve (record { axis = axis; off = off; rotation = rotation; scale = scale; surface = surface }))))
valve_written old axis off rotation scale surface =
    let u = axis_text kept (slice_index_or axis 0 []) (at off 0) in
    let v = axis_text kept (slice_index_or axis 1 []) (at off 1) in
    axes_written old u.x u.y u.z u.offset v.x v.y v.z v.offset (shortest_decimal rotation_decimals rotation) (shortest_decimal scale_decimals (at scale 0)) (shortest_decimal scale_decimals (at scale 1))

-- what holds where a result is Ok
pub on_ok : {A E : Type 0} (r : Result A E) (P Q : Type 0) → OnOk r P → (P → Q) → OnOk r Q
on_ok (Ok x) P Q h f = f h
on_ok (Err x) P Q h f = h

-- three words, with a space before each
pub spaced_written : (old x y z : List ℕ) →
    (((((old ++ 32 ∷ []) ++ x) ++ 32 ∷ []) ++ y) ++ 32 ∷ []) ++ z ≡ old ++ (32 ∷ (x ++ 32 ∷ (y ++ 32 ∷ z)))
spaced_written old x y z = simp append_assoc

-- the line of a face, from its parts
parts_joined : (x0 y0 z0 x1 y1 z1 x2 y2 z2 m t : List ℕ) →
    40 ∷ 32 ∷ (x0 ++ 32 ∷ (y0 ++ 32 ∷ (z0 ++ 32 ∷ 41 ∷ 32 ∷ 40 ∷ 32 ∷ (x1 ++ 32 ∷ (y1 ++ 32 ∷ (z1 ++ 32 ∷ 41 ∷ 32 ∷ 40 ∷ 32 ∷ (x2 ++ 32 ∷ (y2 ++ 32 ∷ (z2 ++ 32 ∷ 41 ∷ 32 ∷ (m ++ 32 ∷ t))))))))))
    ≡ (40 ∷ 32 ∷ (x0 ++ 32 ∷ (y0 ++ 32 ∷ (z0 ++ 32 ∷ 41 ∷ [])))) ++ 32 ∷ ((40 ∷ 32 ∷ (x1 ++ 32 ∷ (y1 ++ 32 ∷ (z1 ++ 32 ∷ 41 ∷ [])))) ++ 32 ∷ ((40 ∷ 32 ∷ (x2 ++ 32 ∷ (y2 ++ 32 ∷ (z2 ++ 32 ∷ 41 ∷ [])))) ++ 32 ∷ (m ++ 32 ∷ t)))
parts_joined x0 y0 z0 x1 y1 z1 x2 y2 z2 m t = simp append_assoc

face_parts : (p0 p1 p2 : PointText) (m : Symbol) (t : TextureText) (s : Option SurfaceText) →
    line_of (face_symbols (record { p0 = p0; p1 = p1; p2 = p2; material = m; texture = t; surface = s }))
    ≡ line_of (point_symbols p0) ++ 32 ∷ (line_of (point_symbols p1) ++ 32 ∷ (line_of (point_symbols p2) ++ 32 ∷ (written m ++ 32 ∷ line_of (texture_symbols t ++ surface_symbols s))))
face_parts p0 p1 p2 m (standard a b c d e) s = parts_joined p0.x p0.y p0.z p1.x p1.y p1.z p2.x p2.y p2.z (written m) (line_of (texture_symbols (standard a b c d e) ++ surface_symbols s))
face_parts p0 p1 p2 m (valve u v c d e) s = parts_joined p0.x p0.y p0.z p1.x p1.y p1.z p2.x p2.y p2.z (written m) (line_of (texture_symbols (valve u v c d e) ++ surface_symbols s))

-- surface numbers behind the last scale
five_joined : (a b c d e s : List ℕ) → (a ++ 32 ∷ (b ++ 32 ∷ (c ++ 32 ∷ (d ++ 32 ∷ e)))) ++ s ≡ a ++ 32 ∷ (b ++ 32 ∷ (c ++ 32 ∷ (d ++ 32 ∷ (e ++ s))))
five_joined a b c d e s = simp append_assoc

axes_joined : (x0 y0 z0 o0 x1 y1 z1 o1 c d e s : List ℕ) →
    (91 ∷ 32 ∷ (x0 ++ 32 ∷ (y0 ++ 32 ∷ (z0 ++ 32 ∷ (o0 ++ 32 ∷ 93 ∷ 32 ∷ 91 ∷ 32 ∷ (x1 ++ 32 ∷ (y1 ++ 32 ∷ (z1 ++ 32 ∷ (o1 ++ 32 ∷ 93 ∷ 32 ∷ (c ++ 32 ∷ (d ++ 32 ∷ e))))))))))) ++ s
    ≡ 91 ∷ 32 ∷ (x0 ++ 32 ∷ (y0 ++ 32 ∷ (z0 ++ 32 ∷ (o0 ++ 32 ∷ 93 ∷ 32 ∷ 91 ∷ 32 ∷ (x1 ++ 32 ∷ (y1 ++ 32 ∷ (z1 ++ 32 ∷ (o1 ++ 32 ∷ 93 ∷ 32 ∷ (c ++ 32 ∷ (d ++ 32 ∷ (e ++ s)))))))))))
axes_joined x0 y0 z0 o0 x1 y1 z1 o1 c d e s = simp append_assoc

surface_joined : (t : TextureText) (s : Option SurfaceNumbers) →
    line_of (texture_symbols t) ++ surface_end s ≡ line_of (texture_symbols t ++ surface_symbols (option_map surface_text s))
surface_joined t None = append-nil (line_of (texture_symbols t)) ∙ ap line_of (sym (append-nil (texture_symbols t)))
surface_joined (standard a b c d e) (Some s) = five_joined a b c d e (surface_end (Some s))
surface_joined (valve u v c d e) (Some s) = axes_joined u.x u.y u.z u.offset v.x v.y v.z v.offset c d e (surface_end (Some s))

regroup : (old a b c m t : List ℕ) →
    (((((((((old ++ a) ++ 32 ∷ []) ++ b) ++ 32 ∷ []) ++ c) ++ 32 ∷ []) ++ m) ++ 32 ∷ []) ++ t) ++ 10 ∷ []
    ≡ old ++ ((a ++ 32 ∷ (b ++ 32 ∷ (c ++ 32 ∷ (m ++ 32 ∷ t)))) ++ 10 ∷ [])
regroup old a b c m t = simp append_assoc

pub face_written : (f : Face) (old : List ℕ) →
    (((((((((old ++ line_of (point_symbols (point_text f.plane.p0))) ++ 32 ∷ []) ++ line_of (point_symbols (point_text f.plane.p1))) ++ 32 ∷ []) ++ line_of (point_symbols (point_text f.plane.p2))) ++ 32 ∷ []) ++ written (material_symbol f.material)) ++ 32 ∷ [])
    ++ (line_of (texture_symbols (texture_text kept f.tex)) ++ surface_end (surface_of_tex f.tex))) ++ 10 ∷ []
    ≡ old ++ (face_line kept f ++ 10 ∷ [])
face_written f old =
    let p0 = point_text f.plane.p0 in
    let p1 = point_text f.plane.p1 in
    let p2 = point_text f.plane.p2 in
    let m = material_symbol f.material in
    let t = texture_text kept f.tex in
    let s = surface_of_tex f.tex in
    regroup old (line_of (point_symbols p0)) (line_of (point_symbols p1)) (line_of (point_symbols p2)) (written m) (line_of (texture_symbols t) ++ surface_end s)
    ∙ ap (λ l. old ++ ((line_of (point_symbols p0) ++ 32 ∷ (line_of (point_symbols p1) ++ 32 ∷ (line_of (point_symbols p2) ++ 32 ∷ (written m ++ 32 ∷ l)))) ++ 10 ∷ [])) (surface_joined t s)
    ∙ ap (λ line. old ++ (line ++ 10 ∷ [])) (sym (face_parts p0 p1 p2 m t (option_map surface_text s)))

-- the texts of lines for each of these from i on are not yet written
pub each_left : {X : Type 0} (line : X → List ℕ) (before : List ℕ) (xs : List X) (i : ℕ) (text : List ℕ) (d x : X) → i < length xs → get_or xs i d ≡ x →
    text ++ text_of (map line (drop i xs)) ≡ before ++ text_of (map line xs) →
    (text ++ (line x ++ 10 ∷ [])) ++ text_of (map line (drop (i + 1) xs)) ≡ before ++ text_of (map line xs)
each_left line before xs i text d x i_in is so_far =
    let here : drop i xs ≡ x ∷ drop (i + 1) xs = rw add-one (drop-cons xs i d i_in ∙ ap (λ y. y ∷ drop (suc i) xs) is) in
    rw append_assoc (rw here at so_far)

pub each_done : {X : Type 0} (line : X → List ℕ) (before : List ℕ) (xs : List X) (i : ℕ) (text : List ℕ) → length xs ≤ i →
    text ++ text_of (map line (drop i xs)) ≡ before ++ text_of (map line xs) → text ≡ before ++ text_of (map line xs)
each_done line before xs i text ended so_far = sym (append-nil text) ∙ rw (drop_all i xs ended) at so_far

-- the texts of numbered groups of lines, for each of these from k on, are not yet written
abbrev pub numbered : {X : Type 0} → (ℕ → X → List (List ℕ)) → ℕ → List X → List ℕ
numbered lines k xs = text_of (flat_map (λ (n, x). lines n x) (enumerate_from k xs))

pub numbered_left : {X : Type 0} (lines : ℕ → X → List (List ℕ)) (before : List ℕ) (xs : List X) (k : ℕ) (text : List ℕ) (d x : X) → k < length xs → get_or xs k d ≡ x →
    text ++ numbered lines k (drop k xs) ≡ before ++ numbered lines 0 xs →
    (text ++ text_of (lines k x)) ++ numbered lines (k + 1) (drop (k + 1) xs) ≡ before ++ numbered lines 0 xs
numbered_left {X} lines before xs k text d x k_in is so_far =
    let here : drop k xs ≡ x ∷ drop (k + 1) xs = rw add-one (drop-cons xs k d k_in ∙ ap (λ y. y ∷ drop (suc k) xs) is) in
    let split : numbered lines k (x ∷ drop (k + 1) xs) ≡ text_of (lines k x) ++ numbered lines (k + 1) (drop (k + 1) xs) =
    flat_map-append (λ line. line ++ 10 ∷ []) (lines k x) (flat_map (λ ((n, y) : ℕ × X). lines n y) (enumerate_from (k + 1) (drop (k + 1) xs))) in
    append_assoc text (text_of (lines k x)) (numbered lines (k + 1) (drop (k + 1) xs))
    ∙ ap (λ more. text ++ more) (sym split ∙ ap (λ ys. numbered lines k ys) (sym here))
    ∙ so_far

pub numbered_done : {X : Type 0} (lines : ℕ → X → List (List ℕ)) (before : List ℕ) (xs : List X) (k : ℕ) (text : List ℕ) → length xs ≤ k →
    text ++ numbered lines k (drop k xs) ≡ before ++ numbered lines 0 xs → text ≡ before ++ numbered lines 0 xs
numbered_done lines before xs k text ended so_far = sym (append-nil text) ∙ rw (drop_all k xs ended) at so_far

regroup_entity : (old a n p b e : List ℕ) →
    (((old ++ (a ++ (n ++ 10 ∷ 123 ∷ 10 ∷ []))) ++ p) ++ b) ++ e ≡ old ++ (((a ++ n) ++ 10 ∷ []) ++ (123 ∷ 10 ∷ (p ++ (b ++ e))))
regroup_entity old a n p b e = simp append_assoc

pub entity_written : (k : ℕ) (e : RawEntity) (old : List ℕ) →
    (((old ++ (codes "// entity " ++ (decimal k ++ codes "\n{\n"))) ++ text_of (map property_line e.props)) ++ numbered (brush_lines kept) 0 e.brushes) ++ codes "}\n"
    ≡ old ++ text_of (entity_lines kept k e)
entity_written k e old =
    let properties = map property_line e.props in
    let brushes = flat_map (λ ((n, b) : ℕ × RawBrush). brush_lines kept n b) (enumerate_from 0 e.brushes) in
    let tail : text_of (properties ++ (brushes ++ codes "}" ∷ [])) ≡ text_of properties ++ (text_of brushes ++ codes "}\n") =
    flat_map-append (λ line. line ++ 10 ∷ []) properties (brushes ++ codes "}" ∷ [])
    ∙ ap (λ more. text_of properties ++ more) (flat_map-append (λ line. line ++ 10 ∷ []) brushes (codes "}" ∷ [])) in
    regroup_entity old (codes "// entity ") (decimal k) (text_of properties) (text_of brushes) (codes "}\n")
    ∙ ap (λ more. old ++ (((codes "// entity " ++ decimal k) ++ 10 ∷ []) ++ (123 ∷ 10 ∷ more))) (sym tail)
