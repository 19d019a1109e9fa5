-- Faces that are read.
use Rattle.std.proofs.Common.{◌≡◌, ℕ, ◌&&◌, Bool, true, false, not, nat_le, nat_lt, cond, List, [], ◌∷◌, Option, None, Some, Result, Ok, Err, unsigned_abs, ap, sym, ◌∙◌, refl, arith}
use Rattle.std.proofs.lemmas.Bool.Decides.{nat_tests}
use Rattle.std.specs.List.{list_all}
use Rattle.exact_geom.specs.declared.point.Point.{Point}
use Rattle.exact_geom.specs.declared.plane.PlaneFault.TheVariants.{Flat as FlatPoints}
use Rattle.exact_geom.specs.Planes.{ThreePoints, is_in_range, is_flat, plane_of}
use Rattle.fixed_num.specs.Count.{is_number_word}
use Rattle.uv_lock.specs.declared.face.Face.{Face}
use Rattle.uv_lock.specs.declared.texture.Tex.{Tex}
use Rattle.map_lex.specs.TokenList.{TokenValue}
use Rattle.map_text.specs.declared.document.Reason.{Reason}
use Rattle.map_text.specs.declared.document.Reason.TheVariants.{Point as NoWholePoint, Range, Flat}
use Rattle.map_text.specs.declared.read_fault.ReadFault.TheVariants.{Expected}
use Rattle.map_text.specs.declared.read_fault.What.TheVariants.{Material}
use Rattle.map_text.specs.Grammar.{PointText, symbol_of}
use Rattle.map_text.specs.Fits.{is_material, texture_numbers, surface_numbers}
use Rattle.map_text.specs.Meaning.{is_whole, whole_of, point_of, tex_of}
use Rattle.map_text.specs.Refusals.{a_material, a_texture, a_surface, a_face, rest_of_face}
use Rattle.map_text.specs.Reading.{ReaderState, IsNext, IsRead, IsRefused}
use Rattle.map_text.specs.Judged.{judge, first_of, or_else, coordinate_reason, point_reason, points_reason, texture_reason, surface_reason, flat_or, three_of, face_from}
use Rattle.map_text.specs.Parts.{points_part, points_places, material_part, texture_part, face_part, point_fits}
use Rattle.map_text.proofs.Passing.{next_part, all_appended, passes_token, stops_token, and_left, and_right}

-- ---- materials

pub material_read : (old new : ReaderState) (t : TokenValue) → IsNext old t new → is_material (symbol_of t) ≡ true → IsRead material_part (a_material ∷ []) [] old new t.text
material_read old new t next fit = record {
  text = symbol_of t;
  fit = fit;
  passes = passes_token old new a_material t [] (symbol_of t) next refl (rw fit refl) refl;
  meaning = refl;
}

pub no_material : (old new : ReaderState) (t : TokenValue) → IsNext old t new → is_material (symbol_of t) ≡ false → IsRefused old (a_material ∷ []) (Expected Material t.line)
no_material old new t next unfit = stops_token old new a_material t (Expected Material t.line) next (rw unfit refl)

-- ---- three points without a reason are in range

none_left : (a b : Option Reason) → first_of a b ≡ None → a ≡ None
none_left None b e = refl
none_left (Some a) None e = absurd (cc)
none_left (Some a) (Some b) e = absurd (cc)

none_right : (a b : Option Reason) → first_of a b ≡ None → b ≡ None
none_right None b e = e
none_right (Some a) None e = absurd (cc)
none_right (Some a) (Some b) e = absurd (cc)

near_if : (whole far : Bool) → cond (not whole) (Some NoWholePoint) (cond far (Some Range) None) ≡ None → far ≡ false
near_if true true e = absurd (cc)
near_if true false e = refl
near_if false far e = absurd (cc)

near : (w : List ℕ) → coordinate_reason w ≡ None → nat_le (unsigned_abs (whole_of w)) 4352 ≡ true
near w e = let h : nat_lt 4352 (unsigned_abs (whole_of w)) ≡ false = near_if (is_whole w) (nat_lt 4352 (unsigned_abs (whole_of w))) e in grind (arith, nat_tests)

point_near : (p : PointText) → point_reason p ≡ None → is_in_range (point_of p) ≡ true
point_near p e =
    let xy : first_of (coordinate_reason p.x) (coordinate_reason p.y) ≡ None = none_left (first_of (coordinate_reason p.x) (coordinate_reason p.y)) (coordinate_reason p.z) e in
    let x : nat_le (unsigned_abs (whole_of p.x)) 4352 ≡ true = near p.x (none_left (coordinate_reason p.x) (coordinate_reason p.y) xy) in
    let y : nat_le (unsigned_abs (whole_of p.y)) 4352 ≡ true = near p.y (none_right (coordinate_reason p.x) (coordinate_reason p.y) xy) in
    let z : nat_le (unsigned_abs (whole_of p.z)) 4352 ≡ true = near p.z (none_right (first_of (coordinate_reason p.x) (coordinate_reason p.y)) (coordinate_reason p.z) e) in
    (λ i. (x i && y i) && z i)

plane_if : (t : ThreePoints) → is_in_range t.p0 ≡ true → is_in_range t.p1 ≡ true → is_in_range t.p2 ≡ true → plane_of t ≡ cond (is_flat t) (Err FlatPoints) (Ok t)
plane_if t a b c = rw (a, b, c) refl

pub plane_near : (p q r : PointText) → points_reason (p, q, r) ≡ None
    → let t : ThreePoints = record { p0 = point_of p; p1 = point_of q; p2 = point_of r } in plane_of t ≡ cond (is_flat t) (Err FlatPoints) (Ok t)
plane_near p q r e =
    let pq : first_of (point_reason p) (point_reason q) ≡ None = none_left (first_of (point_reason p) (point_reason q)) (point_reason r) e in
    plane_if (record { p0 = point_of p; p1 = point_of q; p2 = point_of r })
    (point_near p (none_left (point_reason p) (point_reason q) pq)) (point_near q (none_right (point_reason p) (point_reason q) pq))
    (point_near r (none_right (first_of (point_reason p) (point_reason q)) (point_reason r) e))

-- ---- the face

face_by_reasons : (r s : Option Reason) (flat : Bool) (points : List Point) (t : ThreePoints) (material : List ℕ) (tex : Tex) → t ≡ three_of points
    → (r ≡ None → plane_of t ≡ cond flat (Err FlatPoints) (Ok t))
    → face_from (judge r points) material (judge s tex)
    ≡ judge (or_else r (or_else s (cond flat (Some Flat) None))) (let f : Face = record { plane = t; material = material; tex = tex } in f)
face_by_reasons (Some r) s flat points t material tex is plane = refl
face_by_reasons None (Some s) flat points t material tex is plane = refl
face_by_reasons None None true points t material tex is plane = ap (λ x. flat_or (plane_of x) material tex) (sym is) ∙ ap (λ p. flat_or p material tex) (plane refl)
face_by_reasons None None false points t material tex is plane = ap (λ x. flat_or (plane_of x) material tex) (sym is) ∙ ap (λ p. flat_or p material tex) (plane refl)

face_fit : (p q r : PointText) (m n : Bool) → (point_fits p && (point_fits q && point_fits r)) ≡ true → m ≡ true → n ≡ true
    → (list_all is_number_word (p.x ∷ p.y ∷ p.z ∷ q.x ∷ q.y ∷ q.z ∷ r.x ∷ r.y ∷ r.z ∷ []) && (m && n)) ≡ true
face_fit p q r m n h k l =
    let qr : (point_fits q && point_fits r) ≡ true = and_right (point_fits p) _ h in
    let all : list_all is_number_word (p.x ∷ p.y ∷ p.z ∷ q.x ∷ q.y ∷ q.z ∷ r.x ∷ r.y ∷ r.z ∷ []) ≡ true =
    all_appended is_number_word (p.x ∷ p.y ∷ p.z ∷ []) (q.x ∷ q.y ∷ q.z ∷ r.x ∷ r.y ∷ r.z ∷ []) (and_left (point_fits p) _ h)
    (all_appended is_number_word (q.x ∷ q.y ∷ q.z ∷ []) (r.x ∷ r.y ∷ r.z ∷ []) (and_left (point_fits q) _ qr) (and_right (point_fits q) _ qr)) in
    (λ i. all i && (k i && l i))

pub face_read : {s0 s1 s2 s3 : ReaderState} {points : Result (List Point) Reason} {material : List ℕ} {tex : Result Tex Reason} → IsRead points_part points_places [] s0 s1 points
    → IsRead material_part (a_material ∷ []) [] s1 s2 material → IsRead texture_part (a_texture ∷ a_surface ∷ []) (a_face ∷ []) s2 s3 tex
    → IsRead face_part rest_of_face (a_face ∷ []) s0 s3 (face_from points material tex)
face_read hp hm ht = record {
  text = record { p0 = hp.text.0; p1 = hp.text.1; p2 = hp.text.2; material = hm.text; texture = ht.text.0; surface = ht.text.1 };
  fit = face_fit hp.text.0 hp.text.1 hp.text.2 (is_material hm.text)
      (list_all is_number_word (texture_numbers ht.text.0) && list_all is_number_word (surface_numbers ht.text.1)) hp.fit hm.fit ht.fit;
  passes = next_part hp.passes (next_part hm.passes ht.passes);
  meaning = (λ i. face_from (hp.meaning i) (hm.meaning i) (ht.meaning i))
      ∙ face_by_reasons (points_reason hp.text) (or_else (texture_reason ht.text.0) (surface_reason ht.text.1)) (is_flat (record { p0 = point_of hp.text.0; p1 = point_of hp.text.1; p2 = point_of hp.text.2 }))
      (point_of hp.text.0 ∷ point_of hp.text.1 ∷ point_of hp.text.2 ∷ []) (record { p0 = point_of hp.text.0; p1 = point_of hp.text.1; p2 = point_of hp.text.2 })
      hm.text.text (tex_of ht.text.0 ht.text.1) refl (plane_near hp.text.0 hp.text.1 hp.text.2);
}
