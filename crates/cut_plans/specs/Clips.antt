-- Brushes that `clip` cuts.
use Rattle.std.specs.Prelude.{◌≡◌, ℕ, ◌+◌, cond, Bool, true, not, ◌&&◌, List, [], ◌∷◌, ◌++◌, length, map, Option, None, Some, option_to_list, Result, Ok, Err, ℤ}
use Rattle.exact_geom.specs.Planes.{ThreePoints, is_flat}
use Rattle.map_model.specs.Faces.{Face}
use Rattle.map_model.specs.Tree.{Whole, faces_at, with_faces}
use Rattle.map_model.specs.Edits.{renew, put_after}
use Rattle.map_model.specs.Below.{Below, IsRight}
use Rattle.map_model.specs.Brushes.{has_inside, trimmed, reversed_plane}
use Rattle.map_model.specs.Commands.{Settings, Part, Front, Back, Both, Clip, plane_in}
use Rattle.map_model.specs.Replies.{Refusal, FlatPlane, PlaneMisses, Reply, Done, Made}
use Rattle.map_model.specs.Rows.{refuse, first, at_each, too_many, plain_face}
use Rattle.map_laws.specs.Reshaping.{reshaping_rows}
use Rattle.tree_ops.specs.declared.fault.OpFault.{OpFault}
use Rattle.tree_ops.specs.declared.fault.OpFault.TheVariants.{No, Memory}
use Rattle.cut_plans.specs.declared.clipping.Cut.{Cut}
use Rattle.cut_plans.specs.declared.clipping.Clipped.{Clipped}

-- The new faces of a cut: of the part behind the plane, and of that in front of it.
abbrev pub cut_by : Settings → Whole → ThreePoints → Cut
cut_by s m plane = record { back = plain_face s m plane ∷ []; front = plain_face s m (reversed_plane plane) ∷ [] }

-- Each part has one new face.
pub record IsCutting (cut : Cut) : Type 0 where
  pub one_back : length cut.back ≡ 1
  pub one_front : length cut.front ≡ 1

-- Some point of the brush n is behind the plane, and some point in front of it.
pub record HaveParts (m : Whole) (cut : Cut) (n : ℕ) : Type 0 where
  pub behind : (b : Below) → IsRight b → has_inside b (faces_at m n ++ cut.back) ≡ true
  pub before : (b : Below) → IsRight b → has_inside b (faces_at m n ++ cut.front) ≡ true

-- The plane of the cut misses the brush n.
abbrev pub misses : Whole → Cut → ℕ → Below → Option Refusal
misses m cut n b = refuse (not (has_inside b (faces_at m n ++ cut.back) && has_inside b (faces_at m n ++ cut.front))) (PlaneMisses n)

abbrev pub misses_any : Whole → Cut → List ℕ → Below → Option Refusal
misses_any m cut ns b = at_each ns (λ n. misses m cut n b)

-- What stays of a brush with the two parts, and what is put after it.
abbrev pub kept_part : Part → (back front : List Face) → List Face
kept_part Back back front = back
kept_part Front back front = front
kept_part Both back front = back

abbrev pub new_part : Part → (back front : List Face) → Option (List Face)
new_part Back back front = None
new_part Front back front = None
new_part Both back front = Some front

-- The brush n, clipped, by tests.
abbrev pub clipped_by : Whole → Cut → Part → Below → ℕ → Clipped
clipped_by m cut part b n =
    let back = trimmed b (faces_at m n ++ cut.back) in
    let front = trimmed b (faces_at m n ++ cut.front) in
    record { id = n; kept = kept_part part back front; new = new_part part back front }

-- A part of it has too many faces.
abbrev pub overfull : Clipped → Option Refusal
overfull c = at_each (c.kept ∷ option_to_list c.new) (too_many c.id)

abbrev pub overfull_any : Whole → Cut → Part → List ℕ → Below → Option Refusal
overfull_any m cut part ns b = at_each ns (λ n. overfull (clipped_by m cut part b n))

abbrev pub IsClipped : Whole → Cut → Part → ℕ → Result Clipped OpFault → Type 0
IsClipped m cut part n (Ok c) = (b : Below) → IsRight b → (clipped_by m cut part b n ≡ c) × (overfull c ≡ None)
IsClipped m cut part n (Err (No refusal)) = (b : Below) → IsRight b → overfull (clipped_by m cut part b n) ≡ Some refusal
IsClipped m cut part n (Err Memory) = Unit {0}

abbrev pub AreClipped : Whole → Cut → Part → List ℕ → Result (List Clipped) OpFault → Type 0
AreClipped m cut part ns (Ok list) = (b : Below) → IsRight b → (map (clipped_by m cut part b) ns ≡ list) × (overfull_any m cut part ns b ≡ None)
AreClipped m cut part ns (Err (No refusal)) = (b : Below) → IsRight b → overfull_any m cut part ns b ≡ Some refusal
AreClipped m cut part ns (Err Memory) = Unit {0}

-- The brushes in the map, and how many numbers they draw.
abbrev pub put_new : ℕ → Option (List Face) → Whole → Whole
put_new n None m = m
put_new n (Some faces) m = put_after n faces m

abbrev pub put_clipped : Clipped → Whole → Whole
put_clipped c m = renew c.id (with_faces c.kept) (put_new c.id c.new m)

abbrev pub drawn_by : List Clipped → ℕ
drawn_by [] = 0
drawn_by (c ∷ cs) = length (option_to_list c.new) + drawn_by cs

-- All rows, and the brushes where none holds.
abbrev pub clip_refusal : Settings → Whole → Part → List (List ℤ) → List ℕ → Below → Option Refusal
clip_refusal s m part plane ns b = first (reshaping_rows b s m (Clip part plane ns))

pub record AreCut (s : Settings) (m : Whole) (part : Part) (plane : List (List ℤ)) (ns : List ℕ) (list : List Clipped) : Type 0 where
  pub passes : (b : Below) → IsRight b → clip_refusal s m part plane ns b ≡ None
  pub made : (b : Below) → IsRight b → map (clipped_by m (cut_by s m (plane_in plane)) part b) ns ≡ list

abbrev pub IsCut : Settings → Whole → Part → List (List ℤ) → List ℕ → Result (List Clipped) OpFault → Type 0
IsCut s m part plane ns (Ok list) = AreCut s m part plane ns list
IsCut s m part plane ns (Err (No refusal)) = (b : Below) → IsRight b → clip_refusal s m part plane ns b ≡ Some refusal
IsCut s m part plane ns (Err Memory) = Unit {0}

-- How many numbers it draws for these brushes, and the reply.
abbrev pub drawn_for : Part → List ℕ → ℕ
drawn_for Back ns = 0
drawn_for Front ns = 0
drawn_for Both ns = length ns

abbrev pub clip_reply : Part → (made first : ℕ) → Reply
clip_reply Back made first = Done
clip_reply Front made first = Done
clip_reply Both made first = Made made first

-- The plane, or the refusal of three points on a line.
abbrev pub cut_plane : ThreePoints → Result ThreePoints Refusal
cut_plane plane = cond (is_flat plane) (Err FlatPlane) (Ok plane)
