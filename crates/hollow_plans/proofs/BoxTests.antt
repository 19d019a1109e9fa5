-- A brush that is a box, as faces and as sides.
use Rattle.std.proofs.Common.{◌≡◌, ℕ, suc, ◌+◌, ◌<◌, ◌≤◌, List, [], ◌∷◌, length, drop, get_or, Bool, true, false, not, ◌&&◌, ◌||◌, ◌==◌, refl, ap, sym, ◌∙◌, eqb-true, drop-cons, add-one, pos}
use Rattle.std.specs.Prelude.{nat_eq}
use Rattle.std.specs.Ordering.{int_eq}
use Rattle.std.specs.List.{list_all}
use Rattle.std.proofs.lemmas.Bool.{and_parts, and_from}
use Rattle.std.proofs.lemmas.List.{drop_all}
use Rattle.algebra.specs.Space.{Vector}
use Rattle.exact_geom.specs.Planes.{half_space}
use Rattle.map_nodes.specs.Seen.{sides_from, sides_of}
use Rattle.map_model.specs.Faces.{Face}
use Rattle.map_model.specs.Brushes.{is_along_axis, is_box}
use Rattle.csg_ops.specs.Hollows as solid
use Rattle.brush_plans.proofs.Sides.{sides_length}

by_parts : (x y z : Bool) → ((not x && (y && z)) || ((x && (not y && z)) || (x && (y && not z)))) ≡ true → ((y && z) || (z && x) || (x && y)) ≡ true
by_parts true true true e = refl
by_parts true true false e = refl
by_parts true false true e = refl
by_parts true false false e = absurd (cc)
by_parts false true true e = refl
by_parts false true false e = absurd (cc)
by_parts false false true e = absurd (cc)
by_parts false false false e = absurd (cc)

along : (n : Vector) → is_along_axis n ≡ true → solid.is_along_axis n ≡ true
along n e = by_parts (int_eq n.x (pos 0)) (int_eq n.y (pos 0)) (int_eq n.z (pos 0)) e

abbrev pub faces_along : Face → Bool
faces_along f = is_along_axis (half_space f.plane).normal

all_along : (k : ℕ) (fs : List Face) → list_all faces_along fs ≡ true → solid.are_along_axes (sides_from k fs) ≡ true
all_along k [] e = refl
all_along k (f ∷ fs) e =
    let p = and_parts (faces_along f) (list_all faces_along fs) e in
    and_from (solid.is_along_axis (half_space f.plane).normal) (solid.are_along_axes (sides_from (suc k) fs)) (along (half_space f.plane).normal p.0) (all_along (suc k) fs p.1)

pub six : (fs : List Face) → is_box fs ≡ true → length fs ≡ 6
six fs box = eqb-true (length fs) 6 (and_parts (length fs == 6) (list_all faces_along fs) box).0

pub box_sides : (fs : List Face) → is_box fs ≡ true → solid.is_box (sides_of fs) ≡ true
box_sides fs box =
    and_from (nat_eq (length (sides_of fs)) 6) (solid.are_along_axes (sides_of fs)) (ap (λ n. nat_eq n 6) (sides_length 0 fs ∙ six fs box))
    (all_along 0 fs (and_parts (length fs == 6) (list_all faces_along fs) box).1)

-- A walk over faces that looks for one that isn't along an axis.
module _ (fs : List Face) (i : ℕ) (f : Face) (lt : i < length fs) (is : f ≡ get_or fs i f) where
  here_is : list_all faces_along (drop i fs) ≡ (faces_along f && list_all faces_along (drop (suc i) fs))
  here_is = ap (list_all faces_along) (drop-cons fs i f lt) ∙ ap (λ g. faces_along g && list_all faces_along (drop (suc i) fs)) (sym is)

  pub along_next : faces_along f ≡ true → list_all faces_along (drop i fs) ≡ list_all faces_along fs → list_all faces_along (drop (i + 1) fs) ≡ list_all faces_along fs
  along_next e h = ap (λ k. list_all faces_along (drop k fs)) (add-one i) ∙ sym (here_is ∙ ap (λ t. t && list_all faces_along (drop (suc i) fs)) e) ∙ h

  pub along_stop : faces_along f ≡ false → list_all faces_along (drop i fs) ≡ list_all faces_along fs → false ≡ list_all faces_along fs
  along_stop e h = sym (here_is ∙ ap (λ t. t && list_all faces_along (drop (suc i) fs)) e) ∙ h

pub along_end : (fs : List Face) (i : ℕ) → length fs ≤ i → list_all faces_along (drop i fs) ≡ list_all faces_along fs → true ≡ list_all faces_along fs
along_end fs i le h = sym (ap (list_all faces_along) (drop_all i fs le)) ∙ h
