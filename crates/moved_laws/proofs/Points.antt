-- The points of moved solids.
use Rattle.std.proofs.Common.{List, [], ◌∷◌, map, sym, subst, pos, ◌<ℤ◌, ◌≤ℤ◌}
use Rattle.algebra.specs.Members.{◌∈◌, here, there}
use Rattle.algebra.specs.Space.{Homogeneous, HalfSpace, dot, side}
use Rattle.algebra.proofs.Members.{each_of_none, each_of_more}
use Rattle.orient48.specs.Motions.{Motion, turned, transposed, back, moved_half, moved_at}
use Rattle.orient48.specs.Laws.{IsTurn}
use Rattle.orient48.proofs.Matrices.{turn_back}
use Rattle.orient48.proofs.Signs.{dot_turned, turned_dot}
use Rattle.trim_laws.specs.Solid.{IsIn, IsInside, Proper, Bounded}
use Rattle.trim_laws.specs.Valid.{HasInside}
use Rattle.moved_laws.specs.Moved.{moved_list}
use Rattle.moved_laws.specs.Laws.{PointsLaw}
use Rattle.moved_laws.proofs.Halves.{side_moved, each_point, list_back}

-- ---- members
pub each_moved : {A B : Type 0} (g : A → B) (P : B → Type 0) (xs : List A) → ((x : A) → x ∈ xs → P (g x)) → (y : B) → y ∈ map g xs → P y
each_moved g P [] h = each_of_none P
each_moved g P (x ∷ xs) h = each_of_more P (g x) (map g xs) (h x here) (each_moved g P xs (λ z i. h z (there i)))

pub among_moved : {A B : Type 0} (g : A → B) (x : A) (xs : List A) → x ∈ xs → g x ∈ map g xs
among_moved g x [] i = elim i [ ]
among_moved g y (x ∷ xs) here = here
among_moved g x (y ∷ xs) (there i) = there (among_moved g x xs i)

-- ---- points
pub in_onto : (r : Motion) (F : List HalfSpace) (p : Homogeneous) → IsTurn r.matrix → IsIn F p → IsIn (moved_list r F) (moved_at r p)
in_onto r F p t h = record {
  weight = h.weight;
  all = each_moved (moved_half r) (λ g. side g (moved_at r p) ≤ℤ pos 0) F (λ f i. subst (λ s. s ≤ℤ pos 0) (sym (side_moved r f p t)) (h.all f i));
}

pub in_from : (r : Motion) (F : List HalfSpace) (p : Homogeneous) → IsTurn r.matrix → IsIn (moved_list r F) (moved_at r p) → IsIn F p
in_from r F p t h = record {
  weight = h.weight;
  all = λ f i. subst (λ s. s ≤ℤ pos 0) (side_moved r f p t) (h.all (moved_half r f) (among_moved (moved_half r) f F i));
}

pub inside_onto : (r : Motion) (F : List HalfSpace) (p : Homogeneous) → IsTurn r.matrix → IsInside F p → IsInside (moved_list r F) (moved_at r p)
inside_onto r F p t h = record {
  weight = h.weight;
  all = each_moved (moved_half r) (λ g. side g (moved_at r p) <ℤ pos 0) F (λ f i. subst (λ s. s <ℤ pos 0) (sym (side_moved r f p t)) (h.all f i));
}

pub inside_from : (r : Motion) (F : List HalfSpace) (p : Homogeneous) → IsTurn r.matrix → IsInside (moved_list r F) (moved_at r p) → IsInside F p
inside_from r F p t h = record {
  weight = h.weight;
  all = λ f i. subst (λ s. s <ℤ pos 0) (side_moved r f p t) (h.all (moved_half r f) (among_moved (moved_half r) f F i));
}

pub was_in : (r : Motion) (F : List HalfSpace) (q : Homogeneous) → IsTurn r.matrix → IsIn (moved_list r F) q → IsIn F (moved_at (back r) q)
was_in r F q t h = in_from r F (moved_at (back r) q) t (subst (IsIn (moved_list r F)) (sym (each_point r q t)) h)

pub was_inside : (r : Motion) (F : List HalfSpace) (q : Homogeneous) → IsTurn r.matrix → IsInside (moved_list r F) q → IsInside F (moved_at (back r) q)
was_inside r F q t h = inside_from r F (moved_at (back r) q) t (subst (IsInside (moved_list r F)) (sym (each_point r q t)) h)

pub has_inside_onto : (r : Motion) (F : List HalfSpace) → IsTurn r.matrix → HasInside F → HasInside (moved_list r F)
has_inside_onto r F t h = record { at = moved_at r h.at; inside = inside_onto r F h.at t h.inside }

-- ---- normals
pub proper_onto : (r : Motion) (F : List HalfSpace) → IsTurn r.matrix → Proper F → Proper (moved_list r F)
proper_onto r F t h = each_moved (moved_half r) (λ g. pos 0 <ℤ dot g.normal g.normal) F (λ f i. subst (λ s. pos 0 <ℤ s) (sym (dot_turned r.matrix f.normal f.normal t)) (h f i))

pub bounded_onto : (r : Motion) (F : List HalfSpace) → IsTurn r.matrix → Bounded F → Bounded (moved_list r F)
bounded_onto r F t h m l =
    let n = turned (transposed r.matrix) m in
    let a = h n (subst (λ s. pos 0 <ℤ s) (sym (dot_turned (transposed r.matrix) m m (turn_back r.matrix t))) l) in
    record {
      face = moved_half r a.face;
      among = among_moved (moved_half r) a.face F a.among;
      ahead = subst (λ s. pos 0 <ℤ s) (sym (turned_dot r.matrix a.face.normal m)) a.ahead;
    }

-- What holds of a list after each motion holds of it before.
pub by_back : (P : List HalfSpace → Type 0) → ((r : Motion) (F : List HalfSpace) → IsTurn r.matrix → P F → P (moved_list r F)) → (r : Motion) (F : List HalfSpace) → IsTurn r.matrix → P (moved_list r F) → P F
by_back P h r F t p = subst P (list_back r F t) (h (back r) (moved_list r F) (turn_back r.matrix t) p)

pub points_is : PointsLaw
points_is r F t = record {
  is_in = λ p. (in_onto r F p t, in_from r F p t);
  is_inside = λ p. (inside_onto r F p t, inside_from r F p t);
  was_in = λ q. (was_in r F q t, λ h. subst (IsIn (moved_list r F)) (each_point r q t) (in_onto r F (moved_at (back r) q) t h));
  was_inside = λ q. (was_inside r F q t, λ h. subst (IsInside (moved_list r F)) (each_point r q t) (inside_onto r F (moved_at (back r) q) t h));
  has_inside = (has_inside_onto r F t, by_back HasInside has_inside_onto r F t);
  proper = (proper_onto r F t, by_back Proper proper_onto r F t);
  bounded = (bounded_onto r F t, by_back Bounded bounded_onto r F t);
}
