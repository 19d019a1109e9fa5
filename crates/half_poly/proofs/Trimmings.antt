-- Sides that trimming keeps, by their half-spaces; and their tags.
use Rattle.std.proofs.Common.{◌≡◌, List, [], ◌∷◌, ◌++◌, refl, sym, ap, subst, pos, ◌<ℤ◌, ◌≤ℤ◌, arith}
use Rattle.std.proofs.lemmas.Int.{ints}
use Rattle.algebra.specs.Members.{◌∈◌, here, there, Every}
use Rattle.algebra.specs.Space.{Homogeneous, HalfSpace, side, SameHalfSpace}
use Rattle.trim_laws.specs.Trim.{Trim, Trims, keeps, drops, TrimsFaces, TrimFaces, no_faces, keeps_face, drops_face}
use Rattle.trim_laws.proofs.Trimmed.{trimmed_in}
use Rattle.trim_laws.proofs.SameHalfSpace.{same_refl}
use Rattle.vertex_laws.specs.Vertex.{IsVertex}
use Rattle.cut_laws.proofs.TrimStep.{AllKept, none_more, one_more, all_kept}
use Rattle.half_poly.specs.Shapes.{Tagged, bounds, solid_of, DistinctTags, no_sides, one_more_side}

-- ---- a part of a list, in its order
pub data Part {A : Type 0} : List A → List A → Type 0 where
  part_end : Part [] []
  part_keep : {x : A} {rest kept : List A} → Part rest kept → Part (x ∷ rest) (x ∷ kept)
  part_drop : {x : A} {rest kept : List A} → Part rest kept → Part (x ∷ rest) kept

part_in : {A : Type 0} {rest kept : List A} → Part rest kept → (x : A) → x ∈ kept → x ∈ rest
part_in part_end x m = m
part_in (part_keep p) x here = here
part_in (part_keep p) x (there m) = there (part_in p x m)
part_in (part_drop p) x m = there (part_in p x m)

pub part_last : {A : Type 0} {rest kept : List A} (x : A) → Part rest kept → Part (rest ++ x ∷ []) (kept ++ x ∷ [])
part_last x part_end = part_keep part_end
part_last x (part_keep p) = part_keep (part_last x p)
part_last x (part_drop p) = part_drop (part_last x p)

-- ---- sides that bound different half-spaces
abbrev pub Apart : List Tagged → Type 0
Apart [] = Unit {0}
Apart (s ∷ sides) = ((t : Tagged) → t ∈ sides → ¬ (bounds t ≡ bounds s)) × Apart sides

image : (sides : List Tagged) (t : Tagged) → t ∈ sides → bounds t ∈ solid_of sides
image [] t m = elim m [ ]
image (s ∷ sides) t here = here
image (s ∷ sides) t (there m) = there (image sides t m)

later : {G B rest : List HalfSpace} {g f : HalfSpace} → AllKept G B rest → g ∈ B → f ∈ rest → ¬ (f ≡ g)
later {G} {B} {rest} {g} {f} (one_more k more) m here q = k.first g m (subst (λ h. SameHalfSpace g h) (sym q) (same_refl g))
later (one_more k more) m (there n) q = later more (there m) n q
later none_more m n q = elim n [ ]

apart_of : (sides : List Tagged) {G B : List HalfSpace} → AllKept G B (solid_of sides) → Apart sides
apart_of [] k = tt
apart_of (s ∷ sides) (one_more k more) = (λ t m. later more here (image sides t m), apart_of sides more)

-- a member of a list with one more at its end
data OfLast (sides : List Tagged) (s : Tagged) : Tagged → Type 0 where
  was_there : {t : Tagged} → t ∈ sides → OfLast sides s t
  came_last : OfLast sides s s

of_more : {x s t : Tagged} {sides : List Tagged} → OfLast sides s t → OfLast (x ∷ sides) s t
of_more (was_there m) = was_there (there m)
of_more came_last = came_last

of_last : (sides : List Tagged) (s t : Tagged) → t ∈ (sides ++ s ∷ []) → OfLast sides s t
of_last [] s t here = came_last
of_last [] s t (there m) = elim m [ ]
of_last (x ∷ sides) s t here = was_there here
of_last (x ∷ sides) s t (there m) = of_more (of_last sides s t m)

apart_one : (sides : List Tagged) (x s t : Tagged) → ((u : Tagged) → u ∈ sides → ¬ (bounds u ≡ bounds x)) → ¬ (bounds x ≡ bounds s) → OfLast sides s t → ¬ (bounds t ≡ bounds x)
apart_one sides x s t a n (was_there m) = a t m
apart_one sides x s t a n came_last = λ e. n (sym e)

apart_last : (sides : List Tagged) (s : Tagged) → Apart sides → ((t : Tagged) → t ∈ sides → ¬ (bounds t ≡ bounds s)) → Apart (sides ++ s ∷ [])
apart_last [] s a n = (λ t m. elim m [ ], tt)
apart_last (x ∷ sides) s a n = (λ t m. apart_one sides x s t a.0 (n x here) (of_last sides s t m), apart_last sides s a.1 (λ t m. n t (there m)))

-- ---- the sides that are kept
record Sourced (h : HalfSpace) (sides : List Tagged) : Type 0 where
  it : Tagged
  among : it ∈ sides
  is : bounds it ≡ h

sourced : (sides : List Tagged) (h : HalfSpace) → h ∈ solid_of sides → Sourced h sides
sourced [] h m = elim m [ ]
sourced (s ∷ sides) h here = record { it = s; among = here; is = refl }
sourced (s ∷ sides) h (there m) = let x = sourced sides h m in record { it = x.it; among = there x.among; is = x.is }

head_is : {A : Type 0} {x y : A} {xs ys : List A} → x ∷ xs ≡ y ∷ ys → x ≡ y
head_is {A} {x} {y} q = cc

tail_is : {A : Type 0} {x y : A} {xs ys : List A} → x ∷ xs ≡ y ∷ ys → xs ≡ ys
tail_is {A} {x} {y} {xs} {ys} q = cc

first_in : {h : HalfSpace} {G : List HalfSpace} (kept : List Tagged) → h ∷ G ≡ solid_of kept → Sourced h kept
first_in [] q = absurd (cc)
first_in (s ∷ kept) q = record { it = s; among = here; is = sym (head_is q) }

pub trims_faces : {F : List Tagged} (earlier rest kept : List Tagged) {G : List HalfSpace} → Trims (solid_of F) (solid_of earlier) (solid_of rest) G → Part rest kept → G ≡ solid_of kept → Apart rest →
    TrimsFaces bounds F earlier rest kept
trims_faces earlier [] [] t p q a = no_faces
trims_faces earlier [] (x ∷ kept) t p q a = elim p [ ]
trims_faces earlier (s ∷ rest) kept (keeps k t) (part_keep p) q a = keeps_face k (trims_faces (s ∷ earlier) rest _ t p (tail_is q) a.1)
trims_faces earlier (s ∷ rest) kept (keeps k t) (part_drop p) q a = let x = first_in kept q in absurd (a.0 x.it (part_in p x.it x.among) x.is)
trims_faces earlier (s ∷ rest) kept (drops n t) (part_drop p) q a = drops_face n (trims_faces (s ∷ earlier) rest kept t p q a.1)
trims_faces earlier (s ∷ rest) kept (drops n t) (part_keep p) q a =
    let x = sourced rest (bounds s) (trimmed_in t (bounds s) (subst (λ G. bounds s ∈ G) (sym q) here)) in absurd (a.0 x.it x.among x.is)

pub trim_sides : (sides kept : List Tagged) (s : Tagged) (b : Homogeneous) → Trim (solid_of sides) (solid_of sides) → IsVertex (solid_of sides) b → pos 0 <ℤ side (bounds s) b → Part sides kept →
    Trim (solid_of (sides ++ s ∷ [])) (solid_of (kept ++ s ∷ [])) → TrimFaces bounds (sides ++ s ∷ []) (kept ++ s ∷ [])
trim_sides sides kept s b t v h p u = trims_faces [] (sides ++ s ∷ []) (kept ++ s ∷ []) u (part_last s p) refl
    (apart_last sides s (apart_of sides (all_kept t)) (λ x m q. in_front x (v.inside.all (bounds x) (image sides x m)) q))
  where
    in_front : (x : Tagged) → side (bounds x) b ≤ℤ pos 0 → bounds x ≡ bounds s → ⊥
    in_front x l q = let e : side (bounds x) b ≡ side (bounds s) b = ap (λ f. side f b) q in absurd (omega (arith, ints))

-- all sides of a trimmed list are kept
all_part : {A : Type 0} (xs : List A) → Part xs xs
all_part [] = part_end
all_part (x ∷ xs) = part_keep (all_part xs)

pub trims_whole : (sides : List Tagged) → Trim (solid_of sides) (solid_of sides) → TrimFaces bounds sides sides
trims_whole sides t = trims_faces [] sides sides t (all_part sides) refl (apart_of sides (all_kept t))

-- ---- their tags
pub kept_in : {F earlier rest kept : List Tagged} → TrimsFaces bounds F earlier rest kept → (s : Tagged) → s ∈ kept → s ∈ rest
kept_in no_faces s m = m
kept_in (keeps_face k t) s here = here
kept_in (keeps_face k t) s (there m) = there (kept_in t s m)
kept_in (drops_face n t) s m = there (kept_in t s m)

pub kept_distinct : {F earlier rest kept : List Tagged} → TrimsFaces bounds F earlier rest kept → DistinctTags rest → DistinctTags kept
kept_distinct no_faces d = no_sides
kept_distinct (keeps_face k t) (one_more_side apart others) = one_more_side (λ s m. apart s (kept_in t s m)) (kept_distinct t others)
kept_distinct (drops_face n t) (one_more_side apart others) = kept_distinct t others

tag_apart : (sides : List Tagged) (x s t : Tagged) → Every (λ u. ¬ (x.tag ≡ u.tag)) sides → ¬ (x.tag ≡ s.tag) → OfLast sides s t → ¬ (x.tag ≡ t.tag)
tag_apart sides x s t a n (was_there m) = a t m
tag_apart sides x s t a n came_last = n

pub distinct_last : (sides : List Tagged) (s : Tagged) → DistinctTags sides → Every (λ t. ¬ (t.tag ≡ s.tag)) sides → DistinctTags (sides ++ s ∷ [])
distinct_last [] s d n = one_more_side (λ t m. elim m [ ]) no_sides
distinct_last (x ∷ sides) s (one_more_side apart others) n =
    one_more_side (λ t m. tag_apart sides x s t apart (n x here) (of_last sides s t m)) (distinct_last sides s others (λ t m. n t (there m)))
