-- Which faces of moved solids bear, and their trimmed lists.
use Rattle.std.proofs.Common.{◌≡◌, List, [], ◌∷◌, ap, sym, ◌∙◌, subst, pos, ◌<ℤ◌, ◌≤ℤ◌}
use Rattle.algebra.specs.Space.{Homogeneous, HalfSpace, side, SameHalfSpace}
use Rattle.orient48.specs.Motions.{Motion, back, moved_half, moved_at}
use Rattle.orient48.specs.Laws.{IsTurn}
use Rattle.orient48.proofs.Matrices.{turn_back}
use Rattle.trim_laws.specs.Trim.{Bears, IsKept, Trims, ends, keeps, drops, Trim}
use Rattle.moved_laws.specs.Moved.{moved_list}
use Rattle.moved_laws.specs.Laws.{TrimMovedLaw}
use Rattle.moved_laws.proofs.Halves.{side_moved, each_point, list_back}
use Rattle.moved_laws.proofs.Points.{each_moved, among_moved}

side_at : (r : Motion) (f : HalfSpace) (q : Homogeneous) → IsTurn r.matrix → side (moved_half r f) q ≡ side f (moved_at (back r) q)
side_at r f q t = ap (side (moved_half r f)) (sym (each_point r q t)) ∙ side_moved r f (moved_at (back r) q) t

pub same_onto : (r : Motion) (f g : HalfSpace) → IsTurn r.matrix → SameHalfSpace f g → SameHalfSpace (moved_half r f) (moved_half r g)
same_onto r f g t h = record {
  onto = λ q w l. subst (λ s. s ≤ℤ pos 0) (sym (side_at r g q t)) (h.onto (moved_at (back r) q) w (subst (λ s. s ≤ℤ pos 0) (side_at r f q t) l));
  back = λ q w l. subst (λ s. s ≤ℤ pos 0) (sym (side_at r f q t)) (h.back (moved_at (back r) q) w (subst (λ s. s ≤ℤ pos 0) (side_at r g q t) l));
}

pub same_from : (r : Motion) (f g : HalfSpace) → IsTurn r.matrix → SameHalfSpace (moved_half r f) (moved_half r g) → SameHalfSpace f g
same_from r f g t h = record {
  onto = λ p w l. subst (λ s. s ≤ℤ pos 0) (side_moved r g p t) (h.onto (moved_at r p) w (subst (λ s. s ≤ℤ pos 0) (sym (side_moved r f p t)) l));
  back = λ p w l. subst (λ s. s ≤ℤ pos 0) (side_moved r f p t) (h.back (moved_at r p) w (subst (λ s. s ≤ℤ pos 0) (sym (side_moved r g p t)) l));
}

pub bears_onto : (r : Motion) (F : List HalfSpace) (f : HalfSpace) → IsTurn r.matrix → Bears F f → Bears (moved_list r F) (moved_half r f)
bears_onto r F f t b = record {
  at = moved_at r b.at;
  weight = b.weight;
  on = side_moved r f b.at t ∙ b.on;
  others = each_moved (moved_half r) (λ g. ¬ (SameHalfSpace (moved_half r f) g) → side g (moved_at r b.at) <ℤ pos 0) F
      (λ g i n. subst (λ s. s <ℤ pos 0) (sym (side_moved r g b.at t)) (b.others g i (λ s. n (same_onto r f g t s))));
}

pub bears_from : (r : Motion) (F : List HalfSpace) (f : HalfSpace) → IsTurn r.matrix → Bears (moved_list r F) (moved_half r f) → Bears F f
bears_from r F f t b = record {
  at = moved_at (back r) b.at;
  weight = b.weight;
  on = sym (side_at r f b.at t) ∙ b.on;
  others = λ g i n. subst (λ s. s <ℤ pos 0) (side_at r g b.at t) (b.others (moved_half r g) (among_moved (moved_half r) g F i) (λ s. n (same_from r f g t s)));
}

pub kept_onto : (r : Motion) (F earlier : List HalfSpace) (f : HalfSpace) → IsTurn r.matrix → IsKept F earlier f → IsKept (moved_list r F) (moved_list r earlier) (moved_half r f)
kept_onto r F earlier f t k = record {
  first = each_moved (moved_half r) (λ g. ¬ (SameHalfSpace g (moved_half r f))) earlier (λ g i s. k.first g i (same_from r g f t s));
  bears = bears_onto r F f t k.bears;
}

pub kept_from : (r : Motion) (F earlier : List HalfSpace) (f : HalfSpace) → IsTurn r.matrix → IsKept (moved_list r F) (moved_list r earlier) (moved_half r f) → IsKept F earlier f
kept_from r F earlier f t k = record {
  first = λ g i s. k.first (moved_half r g) (among_moved (moved_half r) g earlier i) (same_onto r g f t s);
  bears = bears_from r F f t k.bears;
}

trims_onto : (r : Motion) (F earlier rest kept : List HalfSpace) → IsTurn r.matrix → Trims F earlier rest kept → Trims (moved_list r F) (moved_list r earlier) (moved_list r rest) (moved_list r kept)
trims_onto r F earlier [] [] t ends = ends
trims_onto r F earlier [] (g ∷ kept) t h = elim h [ ]
trims_onto r F earlier (f ∷ rest) (g ∷ kept) t (keeps k more) = keeps (kept_onto r F earlier f t k) (trims_onto r F (f ∷ earlier) rest kept t more)
trims_onto r F earlier (f ∷ rest) kept t (drops k more) = drops (λ m. k (kept_from r F earlier f t m)) (trims_onto r F (f ∷ earlier) rest kept t more)

pub trim_onto : (r : Motion) (F G : List HalfSpace) → IsTurn r.matrix → Trim F G → Trim (moved_list r F) (moved_list r G)
trim_onto r F G t h = trims_onto r F [] F G t h

trim_was : (r : Motion) (F G : List HalfSpace) → IsTurn r.matrix → Trim (moved_list r F) G → Trim F (moved_list (back r) G)
trim_was r F G t h = subst (λ X. Trim X (moved_list (back r) G)) (list_back r F t) (trim_onto (back r) (moved_list r F) G (turn_back r.matrix t) h)

trim_from : (r : Motion) (F G : List HalfSpace) → IsTurn r.matrix → Trim (moved_list r F) (moved_list r G) → Trim F G
trim_from r F G t h = subst (Trim F) (list_back r G t) (trim_was r F (moved_list r G) t h)

pub trim_is : TrimMovedLaw
trim_is r F t = record {
  same = λ f g. (same_onto r f g t, same_from r f g t);
  bears = λ f. (bears_onto r F f t, bears_from r F f t);
  trim = λ G. (trim_onto r F G t, trim_from r F G t);
  was_trim = λ G h. trim_was r F G t h;
}
