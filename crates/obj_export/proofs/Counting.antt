-- The text is longer than its counts.
use Rattle.std.proofs.Common.{◌≡◌, ℕ, ◌+◌, ◌<◌, ◌≤◌, List, [], ◌∷◌, ◌++◌, length, map, refl, ap, ap₂, sym, subst, ◌∙◌, arith, length-append}
use Rattle.std.specs.Prelude.{flat_map, codes}
use Rattle.std.proofs.lemmas.List.{length-map}
use Rattle.algebra.specs.Space.{HalfSpace, Homogeneous}
use Rattle.exact_geom.specs.Planes.{half_space}
use Rattle.trim_laws.specs.Valid.{Valid}
use Rattle.solid_laws.specs.FaceLoop.{HasVertexCount}
use Rattle.fixed_num.specs.Decimals.{point_decimals}
use Rattle.fixed_num.specs.Shortest.{shortest_decimal}
use Rattle.map_model.specs.Faces.{Face}
use Rattle.map_model.specs.Shape.{half_spaces}
use Rattle.map_model.specs.Loops.{loop}
use Rattle.map_model.specs.Listings.{words, line}
use Rattle.loop_laws.proofs.Places.{count_is}
use Rattle.obj_export.specs.declared.obj.Obj.{Obj}
use Rattle.obj_export.specs.Text.{micros, vertex_line, vertex_number, turned, material_name, face_lines, brush_lines}
use Rattle.obj_export.specs.Adding.{AddsLines, AddsBrush}
use Rattle.obj_export.specs.Counted.{IsCounted}

line_some : (ws : List (List ℕ)) → 1 ≤ length (line ws)
line_some ws = let a = length-append (words ws) (10 ∷ []) in omega arith

vertex_some : (v : Homogeneous) → 1 ≤ length (vertex_line v)
vertex_some v = line_some (codes "v" ∷ map (shortest_decimal point_decimals) (micros v))

face_some : (before : ℕ) (V : List Homogeneous) (f : Face) → 1 ≤ length (face_lines before V f)
face_some before V f =
    let first = line (codes "usemtl" ∷ material_name f.material ∷ []) in
    let second = line (codes "f" ∷ map (vertex_number before) (turned (loop V (half_space f.plane)))) in
    let a = length-append first second in let b = line_some (codes "usemtl" ∷ material_name f.material ∷ []) in omega arith

more_text : {A : Type 0} (f : A → List ℕ) (xs : List A) → ((x : A) → 1 ≤ length (f x)) → length xs ≤ length (flat_map f xs)
more_text f [] each = omega arith
more_text f (x ∷ xs) each = let a = length-append (f x) (flat_map f xs) in let b = more_text f xs each in let c = each x in omega arith

pub long_enough : (before : ℕ) (V : List Homogeneous) (fs : List Face) → length V + length fs ≤ length (brush_lines before V fs)
long_enough before V fs =
    let a = length-append (flat_map vertex_line V) (flat_map (face_lines before V) fs) in
    let b = more_text vertex_line V vertex_some in let c = more_text (face_lines before V) fs (face_some before V) in omega arith

-- A brush has some faces.
pub some_faces : (fs : List Face) → Valid (half_spaces fs) → 1 ≤ length fs
some_faces fs valid = let least = valid.least in let n = length-map fs (λ (f : Face). half_space f.plane) in omega arith

module _ (fs : List Face) (count : ℕ) (old new : Obj) (valid : Valid (half_spaces fs)) (counts : HasVertexCount (half_spaces fs) count)
    (lines : AddsLines fs old.vertices old.text new.text) (brushes : new.brushes ≡ old.brushes + 1) (vertices : new.vertices ≡ old.vertices + count) (faces : new.faces ≡ old.faces + length fs) where
  pub still_counted : IsCounted old → IsCounted new
  still_counted c =
      let V = counts.V in let n = counts.is_count in
      let text = ap length (lines V counts.vertices) in
      let size = length-append old.text (brush_lines old.vertices V fs) in
      let long = long_enough old.vertices V fs in
      let some = some_faces fs valid in
      let b = c.brushes in let v = c.vertices in let f = c.faces in
      record { brushes = omega arith; vertices = omega arith; faces = omega arith }

  pub brush_added : AddsBrush fs old new
  brush_added b right =
      let V = b.vertices (half_spaces fs) in
      let its = right.vertices (half_spaces fs) valid in
      let n = count_is (half_spaces fs) count V counts its in
      let text = lines V its in
      let sum : new.vertices ≡ old.vertices + length V = omega (arith, vertices, n) in
      λ i. record { text = text i; brushes = brushes i; vertices = sum i; faces = faces i }
