-- The commands that remake brushes are edits of the brushes that they name.
use Rattle.std.proofs.Common.{◌≡◌, ℕ, List, [], ◌∷◌, ◌++◌, flat_map, map, ap, Some, None, true, false, Bool}
use Rattle.std.specs.List.{find}
use Rattle.algebra.specs.Members.{◌∈◌, here, there}
use Rattle.exact_geom.specs.Planes.{ThreePoints}
use Rattle.map_model.specs.Faces.{Face}
use Rattle.map_model.specs.Tree.{Whole, faces_at, with_faces}
use Rattle.map_model.specs.Edits.{renew, each_in_turn, delete, replace_by, put_after}
use Rattle.map_model.specs.Below.{Below}
use Rattle.map_model.specs.Brushes.{trimmed, pieces, inward, changed_faces, rounded, picked, facets, distinct_points, as_point, vertices_of, have_one_half_space, reversed_plane}
use Rattle.map_model.specs.Carry.{plain_tex}
use Rattle.map_model.specs.Commands.{Part, Front, Back, Both, Command, Settings, vector_in, points_in, plane_in, Tex, Clip, Subtract, Intersect, Hollow, Merge, Vertex, Snap}
use Rattle.map_model.specs.Rows.{named, plain_face, current_material, clipped_back, clipped_front, intersection, merged}
use Rattle.map_model.specs.Own.{own, clip, keep_first, change_at, retextured}
use Rattle.link_laws.proofs.Erasing.{erase, erased_faces, erased_format}
use Rattle.link_laws.proofs.BrushEdits.{BrushEdit, no_edit, edit_then, edit_turn, edit_by, faces_edit, delete_edit, replace_edit, after_edit}

-- The commands that name the brushes that they remake.
abbrev pub remakes_brushes : Command → Bool
remakes_brushes (Tex n face name off rotation scale surface) = true
remakes_brushes (Clip part plane ns) = true
remakes_brushes (Subtract by ns) = true
remakes_brushes (Intersect ns) = true
remakes_brushes (Hollow thickness ns) = true
remakes_brushes (Merge ns) = true
remakes_brushes (Vertex n shift picks) = true
remakes_brushes (Snap grid ns) = true
remakes_brushes c = false

pub erased_plain : (s : Settings) (m : Whole) → plain_face s (erase m) ≡ plain_face s m
erased_plain s m = λ i t. record { plane = t; material = current_material s; tex = plain_tex (erased_format m i) t }

pub all_erased : (m : Whole) → faces_at (erase m) ≡ faces_at m
all_erased m = λ i n. erased_faces m n i

pub erased_back : (b : Below) (s : Settings) (m : Whole) (plane : ThreePoints) (n : ℕ) → clipped_back b s (erase m) plane n ≡ clipped_back b s m plane n
erased_back b s m plane n = λ i. trimmed b (erased_faces m n i ++ erased_plain s m i plane ∷ [])

pub erased_front : (b : Below) (s : Settings) (m : Whole) (plane : ThreePoints) (n : ℕ) → clipped_front b s (erase m) plane n ≡ clipped_front b s m plane n
erased_front b s m plane n = erased_back b s m (reversed_plane plane) n

pub erased_merged : (b : Below) (s : Settings) (m : Whole) (ns : List ℕ) → merged b s (erase m) ns ≡ merged b s m ns
erased_merged b s m ns = λ i. map
    (λ t. elim (find (λ f. have_one_half_space f.plane t) (flat_map (all_erased m i) ns)) as (λ o. Face) [ None ↦ erased_plain s m i t | Some f ↦ record f { plane = t } ])
    (facets (distinct_points (flat_map (λ n. map as_point (vertices_of b (erased_faces m n i))) ns)))

clip_edit : {T : ℕ → Type 0} (b : Below) (s : Settings) (part : Part) (plane : ThreePoints) (n : ℕ) → T n → BrushEdit T (clip b s part plane n)
clip_edit b s Back plane n t = edit_by (λ m. clipped_back b s m plane n) (λ fs. renew n (with_faces fs)) (λ m. erased_back b s m plane n) (λ fs. faces_edit n t fs)
clip_edit b s Front plane n t = edit_by (λ m. clipped_front b s m plane n) (λ fs. renew n (with_faces fs)) (λ m. erased_front b s m plane n) (λ fs. faces_edit n t fs)
clip_edit b s Both plane n t =
    edit_by (λ m. clipped_back b s m plane n) (λ fs m. renew n (with_faces fs) (put_after n (clipped_front b s m plane n) m)) (λ m. erased_back b s m plane n) (λ fs.
    edit_by (λ m. clipped_front b s m plane n) (λ gs m. renew n (with_faces fs) (put_after n gs m)) (λ m. erased_front b s m plane n) (λ gs.
    edit_then (after_edit n t gs) (faces_edit n t fs)))

first_edit : (fs : List Face) (ns : List ℕ) → BrushEdit (λ n. n ∈ ns) (keep_first fs ns)
first_edit fs [] = no_edit
first_edit fs (n ∷ ns) = edit_then (faces_edit n here fs) (edit_turn delete (λ q i. delete_edit q i) ns (λ q i. there i))

pub brush_command : (b : Below) (s : Settings) (c : Command) → remakes_brushes c ≡ true → BrushEdit (λ n. n ∈ named c) (λ m. own b s m c)
brush_command b s (Tex n face name off rotation scale surface) is =
    let change = λ (f : Face). record f { material = name; tex = retextured off rotation scale surface f.tex } in
    edit_by (λ m. change_at face change (faces_at m n)) (λ fs. renew n (with_faces fs)) (λ m. ap (change_at face change) (erased_faces m n)) (λ fs. faces_edit n here fs)
brush_command b s (Clip part plane ns) is = edit_turn (clip b s part (plane_in plane)) (λ n i. clip_edit b s part (plane_in plane) n i) ns (λ n i. i)
brush_command b s (Subtract by ns) is =
    edit_by faces_at (λ F m. delete by (each_in_turn (λ n. replace_by n (pieces b (F n) (F by))) ns m)) all_erased (λ F.
    edit_then (edit_turn (λ n. replace_by n (pieces b (F n) (F by))) (λ n i. replace_edit n i (pieces b (F n) (F by))) ns (λ n i. there i)) (delete_edit by here))
brush_command b s (Intersect ns) is =
    edit_by (λ m. intersection b m ns) (λ fs. keep_first fs ns) (λ m. λ i. trimmed b (flat_map (all_erased m i) ns)) (λ fs. first_edit fs ns)
brush_command b s (Hollow thickness ns) is =
    edit_by faces_at (λ F. each_in_turn (λ n. replace_by n (pieces b (F n) (map (inward thickness) (F n)))) ns) all_erased (λ F.
    edit_turn (λ n. replace_by n (pieces b (F n) (map (inward thickness) (F n)))) (λ n i. replace_edit n i (pieces b (F n) (map (inward thickness) (F n)))) ns (λ n i. i))
brush_command b s (Merge ns) is = edit_by (λ m. merged b s m ns) (λ fs. keep_first fs ns) (λ m. erased_merged b s m ns) (λ fs. first_edit fs ns)
brush_command b s (Vertex n shift picks) is =
    let change = changed_faces b (picked (vector_in shift) (points_in picks)) in
    edit_by (λ m. change (faces_at m n)) (λ fs. renew n (with_faces fs)) (λ m. ap change (erased_faces m n)) (λ fs. faces_edit n here fs)
brush_command b s (Snap grid ns) is =
    edit_by faces_at (λ F. each_in_turn (λ n. renew n (with_faces (changed_faces b (rounded grid) (F n)))) ns) all_erased (λ F.
    edit_turn (λ n. renew n (with_faces (changed_faces b (rounded grid) (F n)))) (λ n i. faces_edit n i (changed_faces b (rounded grid) (F n))) ns (λ n i. i))
brush_command b s c is = absurd (cc)
