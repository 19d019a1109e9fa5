-- The list of loops, face by face.
use Rattle.std.proofs.Common.{◌≡◌, ℕ, ◌+◌, ◌<◌, List, [], ◌∷◌, ◌++◌, length, length-append, get_or, map, slice_get, Option, Some, sym, ap, subst, ◌∙◌, arith, ⊎_elim}
use Rattle.std.proofs.lemmas.Bool.{cases_eq}
use Rattle.std.proofs.lemmas.List.{length-map, map-append, get_or_append_left, get_or_push}
use Rattle.std.proofs.lemmas.Option.{slice_get_within, slice_get-get_or, get_or_from_slice_get}
use Rattle.algebra.specs.Members.{◌∈◌}
use Rattle.algebra.specs.Space.{Homogeneous, HalfSpace}
use Rattle.algebra.proofs.Members.{member_at}
use Rattle.half_arena.specs.declared.ids.FaceId.{FaceId}
use Rattle.half_poly.specs.declared.links.HalfEdge.{HalfEdge}
use Rattle.half_poly.specs.declared.links.Face.{Face}
use Rattle.half_poly.specs.Arenas.{no_plane}
use Rattle.half_poly.specs.Shapes.{no_side, bounds, solid_of, side_at, sides_of}
use Rattle.half_poly.specs.Places.{ArePlaces}
use Rattle.half_poly.specs.Noted.{Table}
use Rattle.half_poly.specs.Rounds.{Least}
use Rattle.half_poly.proofs.Listed.{get_map}
use Rattle.solid_laws.specs.FaceLoop.{IsNumberedLoop}

-- ---- what was read through slices
abbrev pub id_at : List FaceId → ℕ → FaceId
id_at order k = get_or order k (record { 0 = 0 })

pub in_order : (order read : List FaceId) (k : ℕ) → read ≡ order → k < length read → id_at read k ∈ order
in_order order read k q l = subst (λ o. id_at read k ∈ o) q (member_at read k (record { 0 = 0 }) l)

pub least_at : {E : ℕ → Option HalfEdge} (numbers read : List ℕ) (table seen : Table) → read ≡ numbers → seen ≡ table → Least E read table → Least E numbers seen
least_at numbers read table seen q r h = rw (← q, r) h

pub places_at : (slots numbers read : List ℕ) (n : ℕ) → read ≡ numbers → ArePlaces slots numbers n → ArePlaces slots read n
places_at slots numbers read n q h = subst (λ t. ArePlaces slots t n) (sym q) h

pub within_at : {A : Type 0} (table seen : List A) (limit k : ℕ) → seen ≡ table → length table ≡ limit → k < limit → k < length seen
within_at table seen limit k q m l = subst (λ t. k < length t) (sym q) (subst (λ n. k < n) (sym m) l)

pub face_here : (Fc : ℕ → Option Face) (order read : List FaceId) (n : ℕ) (f : HalfSpace) → read ≡ order → n < length read → slice_get (solid_of (sides_of Fc order)) n ≡ Some f → f ≡ bounds (side_at Fc (id_at read n))
face_here Fc order read n f q l r =
    let w : n < length order = subst (λ o. n < length o) q l in
    sym (get_or_from_slice_get (solid_of (sides_of Fc order)) n f no_plane r)
    ∙ get_map bounds (sides_of Fc order) n no_side no_plane (subst (λ k. n < k) (sym (length-map order (side_at Fc))) w)
    ∙ ap bounds (get_map (side_at Fc) order n (record { 0 = 0 }) no_side w) ∙ ap (λ o. bounds (side_at Fc (id_at o n))) (sym q)

pub pushed_loops : {A B : Type 0} (f : A → B) (old new : List A) (x : A) → new ≡ old ++ x ∷ [] → map f new ≡ map f old ++ f x ∷ []
pushed_loops f old new x q = ap (map f) q ∙ map-append f old (x ∷ [])

pub pushed_count : {A : Type 0} (old new : List A) (x : A) (n : ℕ) → new ≡ old ++ x ∷ [] → length old ≡ n → length new ≡ n + 1
pushed_count old new x n q m = ap length q ∙ length-append old (x ∷ []) ∙ ap (λ k. k + 1) m

-- ---- the list of loops
-- The loops of the first n faces, and that of face n.
pub loops_more : (F : List HalfSpace) (V : List Homogeneous) (before after : List (List ℕ)) (n : ℕ) (more : List ℕ) (here : HalfSpace) → length before ≡ n → after ≡ before ++ more ∷ [] →
    ((f : HalfSpace) → slice_get F n ≡ Some f → f ≡ here) → IsNumberedLoop F here V more →
    ((k : ℕ) (f : HalfSpace) (numbers : List ℕ) → slice_get F k ≡ Some f → slice_get before k ≡ Some numbers → IsNumberedLoop F f V numbers) →
    (k : ℕ) (f : HalfSpace) (numbers : List ℕ) → slice_get F k ≡ Some f → slice_get after k ≡ Some numbers → IsNumberedLoop F f V numbers
loops_more F V before after n more here m q face l each k f numbers p r = ⊎_elim
    (λ (e : k ≡ n). subst (λ g. IsNumberedLoop F g V numbers) (sym (face f (ap (λ i. slice_get F i) (sym e) ∙ p)))
    (subst (λ ns. IsNumberedLoop F here V ns) (sym (get_or_push before more [] n m) ∙ ap (λ i. get_or (before ++ more ∷ []) i []) (sym e) ∙ read) l))
    (λ (d : ¬ (k ≡ n)).
    let w : k < length (before ++ more ∷ []) = subst (λ xs. k < length xs) q (slice_get_within after k numbers r) in
    let o = length-append before (more ∷ []) in
    let i : k < length before = omega arith in
    each k f numbers p (slice_get-get_or before k [] i ∙ ap (λ ns. Some ns) (sym (get_or_append_left before (more ∷ []) [] k i) ∙ read)))
    (cases_eq k n)
  where
    read : get_or (before ++ more ∷ []) k [] ≡ numbers
    read = ap (λ xs. get_or xs k []) (sym q) ∙ get_or_from_slice_get after k numbers [] r
