-- Which points a hull has.
use Rattle.std.proofs.Common.{◌≡◌, ℕ, refl, ap, sym, subst, Bool, true, false, if◌then◌else◌, not, ◌&&◌, int_eq, List, [], ◌∷◌, filter, map, pos, ◌≤ℤ◌, ◌↔◌}
use Rattle.std.proofs.lemmas.Bool.{false≢true}
use Rattle.std.proofs.lemmas.Bool.Decides.{Decides-int_eq}
use Rattle.algebra.specs.Members.{◌∈◌, here, there}
use Rattle.algebra.specs.Space.{Vector, side}
use Rattle.exact_geom.specs.declared.point.Point.{Point}
use Rattle.exact_geom.specs.Planes.{vector}
use Rattle.trim_laws.specs.Solid.{IsIn}
use Rattle.hull_laws.specs.Facets.{Spans, Triple, plane_of, Facets, Held, firsts}
use Rattle.hull_laws.specs.Moved.{same_point}
use Rattle.hull_laws.proofs.Faces.{each_of_map}
use Rattle.hull_laws.proofs.Places.{hull_law}
use Rattle.solid_brush.specs.declared.side.Side.{Side}
use Rattle.solid_brush.specs.Sides.{half_spaces}
use Rattle.hull_merge.specs.Hulls.{IsHull, HasTheHeld, distinct}
use Rattle.hull_merge.proofs.World.{in_map}

both : (a b : Bool) → (a && b) ≡ true → (a ≡ true) × (b ≡ true)
both true true h = (refl, refl)
both true false h = absurd (false≢true h)
both false b h = absurd (false≢true h)

-- points that the test finds to be the same are equal
pub equal_of_same : (p q : Vector) → same_point p q ≡ true → p ≡ q
equal_of_same p q h =
    let k = both (int_eq p.x q.x && int_eq p.y q.y) (int_eq p.z q.z) h in let l = both (int_eq p.x q.x) (int_eq p.y q.y) k.0 in
    let x = (Decides-int_eq p.x q.x).0 l.0 in let y = (Decides-int_eq p.y q.y).0 l.1 in let z = (Decides-int_eq p.z q.z).0 k.1 in
    λ i. record { x = x i; y = y i; z = z i }

kept_or_not : {A : Type 0} (p : A → Bool) (y x : A) (ys : List A) (b : Bool) → x ∈ (if b then y ∷ filter p ys else filter p ys) → (x ∈ filter p ys → x ∈ ys) → x ∈ (y ∷ ys)
kept_or_not p y x ys true here more = here
kept_or_not p y x ys true (there m) more = there (more m)
kept_or_not p y x ys false m more = there (more m)

of_filter : {A : Type 0} (p : A → Bool) (xs : List A) (x : A) → x ∈ filter p xs → x ∈ xs
of_filter p [] x m = elim m [ ]
of_filter p (y ∷ ys) x m = kept_or_not p y x ys (p y) m (of_filter p ys x)

first_kept : {A : Type 0} (p : A → Bool) (x : A) (ys : List A) (b : Bool) → b ≡ true → x ∈ (if b then x ∷ filter p ys else filter p ys)
first_kept p x ys true h = here
first_kept p x ys false h = absurd (false≢true h)

later_kept : {A : Type 0} (p : A → Bool) (y x : A) (ys : List A) (b : Bool) → x ∈ filter p ys → x ∈ (if b then y ∷ filter p ys else filter p ys)
later_kept p y x ys true m = there m
later_kept p y x ys false m = m

in_filter : {A : Type 0} (p : A → Bool) (xs : List A) (x : A) → x ∈ xs → p x ≡ true → x ∈ filter p xs
in_filter p [] x m h = elim m [ ]
in_filter p (y ∷ ys) x here h = first_kept p x ys (p x) h
in_filter p (y ∷ ys) x (there m) h = later_kept p y x ys (p y) (in_filter p ys x m h)

pub of_firsts : (xs : List Vector) (x : Vector) → x ∈ firsts same_point xs → x ∈ xs
of_firsts [] x m = elim m [ ]
of_firsts (y ∷ ys) x here = here
of_firsts (y ∷ ys) x (there m) = there (of_firsts ys x (of_filter (λ z. not (same_point y z)) (firsts same_point ys) x m))

same_or_later : (y x : Vector) (ys : List Vector) (b : Bool) → same_point y x ≡ b → x ∈ firsts same_point ys → x ∈ firsts same_point (y ∷ ys)
same_or_later y x ys true h m = subst (λ z. z ∈ firsts same_point (y ∷ ys)) (equal_of_same y x h) here
same_or_later y x ys false h m = there (in_filter (λ z. not (same_point y z)) (firsts same_point ys) x m (ap not h))

pub in_firsts : (xs : List Vector) (x : Vector) → x ∈ xs → x ∈ firsts same_point xs
in_firsts [] x m = elim m [ ]
in_firsts (y ∷ ys) x here = here
in_firsts (y ∷ ys) x (there m) = same_or_later y x ys (same_point y x) refl (in_firsts ys x m)

pub has_the_held : (points : List Point) (ts : List Triple) (solid : List Side) → Spans (distinct points) → Facets (distinct points) ts →
    half_spaces solid ≡ map (plane_of (distinct points)) ts → HasTheHeld points solid
has_the_held points ts solid S F e X w =
    let D = distinct points in let law = hull_law D ts S F X w in
    subst (λ G. IsIn G X ↔ Held (map vector points) X) (sym e) (
      λ i f b. law.0 (record { all = λ t m. i.all (plane_of D t) (in_map (plane_of D) ts t m) }) f (λ p m. b p (of_firsts (map vector points) p m)),
      λ h. record { weight = w; all = each_of_map (λ g. side g X ≤ℤ pos 0) (plane_of D) ts (law.1 (λ f b. h f (λ p m. b p (in_firsts (map vector points) p m)))).all },
    )

pub held_by_hull : (points : List Point) (rows : List (List ℕ)) (solid : List Side) → IsHull points rows solid → HasTheHeld points solid
held_by_hull points rows solid h = has_the_held points h.triples solid h.spans h.are_facets h.planes
