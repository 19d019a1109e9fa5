-- merge: the first brush becomes the hull of the vertices of all, and the others go.
use Rattle.std.proofs.Common.{◌≡◌, ℕ, ◌*◌, ◌≤◌, List, [], ◌∷◌, map, flat_map, Bool, true, false, not, cond, ◌&&◌, refl, ap, sym, subst, arith, Option, None, Some, ℤ, pos, ◌<ℤ◌, unsigned_abs}
use Rattle.std.specs.List.{list_all, find}
use Rattle.std.specs.Ordering.{int_eq}
use Rattle.std.proofs.lemmas.Bool.{and_parts}
use Rattle.std.proofs.lemmas.Bool.Decides.{Decides-int_eq}
use Rattle.std.proofs.lemmas.Int.{ints}
use Rattle.algebra.specs.Members.{◌∈◌, here, there, Every}
use Rattle.algebra.specs.Space.{Vector, Homogeneous, det, minus}
use Rattle.algebra.specs.World.{InCube, world}
use Rattle.exact_geom.specs.declared.point.Point.{Point}
use Rattle.exact_geom.specs.Planes.{ThreePoints, vector, IsPlane}
use Rattle.hull_laws.specs.Facets.{Spans}
use Rattle.map_model.specs.Faces.{Face}
use Rattle.map_model.specs.Tree.{Whole, faces_at, format_of}
use Rattle.map_model.specs.Shape.{Shape, FaceOk, half_spaces}
use Rattle.map_model.specs.Below.{Below, IsRight}
use Rattle.map_model.specs.Brushes.{spans_space, is_same_point, distinct_points, as_point, is_whole, vertices_of, have_one_half_space}
use Rattle.map_model.specs.Commands.{IsGood, Settings, Merge}
use Rattle.map_model.specs.Replies.{FractionalVertex}
use Rattle.map_model.specs.Rows.{rows, first, refuse, plain_face, all_faces, fields_for, hull_points, merged}
use Rattle.map_model.specs.Own.{own}
use Rattle.map_model.proofs.Members.{in_map, map_in, in_flat, flat_in, filter_in}
use Rattle.map_laws.specs.Unlinked.{Unlinked}
use Rattle.map_laws.specs.BoxCommand.{KeepsMaterial}
use Rattle.map_laws.proofs.Lists.{tally-no_member}
use Rattle.map_laws.proofs.InTurn.{by_member}
use Rattle.map_laws.proofs.Refused.{refuse_none, each_none, nodes_fit}
use Rattle.map_laws.proofs.RowsPass.{rows_pass}
use Rattle.map_laws.proofs.PlainFaces.{plain_ok}
use Rattle.map_laws.proofs.TrimmedFaces.{brush_encloses}
use Rattle.map_laws.proofs.FacetFaces.{InWorld, in_world, firsts_in}
use Rattle.map_laws.proofs.RoundedPoints.{size_of}
use Rattle.map_laws.proofs.VerticesSpan.{vertices_span}
use Rattle.map_laws.proofs.ChangedFaces.{Fields, facets_ok}
use Rattle.map_laws.proofs.Intersecting.{keeps_first}
use Rattle.map_laws.proofs.Tests.{not_false, all_true, any_by}
use Rattle.map_laws.proofs.BrushRows.{named_brushes, brush_faces, few}
use Rattle.map_laws.proofs.Unlinking.{Outcome}

-- Four points of a list. -----------------------------------------------------------------------------------------------------------------

not_zero : (z : ℤ) → pos 0 <ℤ z → not (int_eq z (pos 0)) ≡ true
not_zero z h = by (int_eq z (pos 0)) (Decides-int_eq z (pos 0)).0
  where
    by : (t : Bool) → (t ≡ true → z ≡ pos 0) → not t ≡ true
    by false f = refl
    by true f = let e = f refl in absurd (omega (arith, ints))

wide_by : (points : List Point) (a b c d : Point) → a ∈ points → b ∈ points → c ∈ points → d ∈ points → pos 0 <ℤ det (minus (vector b) (vector a)) (minus (vector c) (vector a)) (minus (vector d) (vector a)) → spans_space points ≡ true
wide_by points a b c d ia ib ic id h =
    any_by _ points a ia (any_by _ points b ib (any_by _ points c ic
    (any_by (λ d. not (int_eq (det (minus (vector b) (vector a)) (minus (vector c) (vector a)) (minus (vector d) (vector a))) (pos 0))) points d id
    (not_zero (det (minus (vector b) (vector a)) (minus (vector c) (vector a)) (minus (vector d) (vector a))) h))))

-- A point is among the distinct ones.
same_coordinates : (p q : Point) → is_same_point p q ≡ true → p ≡ q
same_coordinates p q e =
    let x = and_parts (int_eq p.x q.x) (int_eq p.y q.y && int_eq p.z q.z) e in
    let y = and_parts (int_eq p.y q.y) (int_eq p.z q.z) x.1 in
    (λ i. record { x = (Decides-int_eq p.x q.x).0 x.0 i; y = (Decides-int_eq p.y q.y).0 y.0 i; z = (Decides-int_eq p.z q.z).0 y.1 i })

still_there : (points : List Point) (p : Point) → p ∈ points → p ∈ distinct_points points
still_there [] p i = elim i [ ]
still_there (q ∷ points) p here = here
still_there (q ∷ points) p (there i) = by (is_same_point q p) refl (still_there points p i)
  where
    by : (t : Bool) → is_same_point q p ≡ t → p ∈ distinct_points points → p ∈ distinct_points (q ∷ points)
    by true e j = subst (λ r. r ∈ distinct_points (q ∷ points)) (same_coordinates q p e) here
    by false e j = there (filter_in (λ y. not (is_same_point q y)) (distinct_points points) p j (ap not e))

-- Fields of given faces. ------------------------------------------------------------------------------------------------------------------

find_in : {A : Type 0} (p : A → Bool) (xs : List A) (x : A) → find p xs ≡ Some x → x ∈ xs
find_in p [] x e = absurd (cc)
find_in {A} p (y ∷ ys) x e = by (p y) e (find_in p ys x)
  where
    one : {a b : A} → Some a ≡ Some b → a ≡ b
    one {a} {b} e = cc

    by : (t : Bool) → cond t (Some y) (find p ys) ≡ Some x → (find p ys ≡ Some x → x ∈ ys) → x ∈ (y ∷ ys)
    by true e later = subst (λ z. z ∈ (y ∷ ys)) (one e) here
    by false e later = there (later e)

given_fields : (s : Settings) (m : Whole) (given : List Face) → KeepsMaterial s → Every (FaceOk (format_of m)) given → Fields (format_of m) (fields_for s m given)
given_fields s m given material each = record {
  plane = λ t. plane t (find (λ f. have_one_half_space f.plane t) given);
  ok = λ t is. ok t is (find (λ f. have_one_half_space f.plane t) given) (λ f e. each f (find_in (λ f. have_one_half_space f.plane t) given f e));
}
  where
    plane : (t : ThreePoints) (o : Option Face) → (elim o as (λ o. Face) [ None ↦ plain_face s m t | Some f ↦ record f { plane = t } ]).plane ≡ t
    plane t None = refl
    plane t (Some f) = refl

    ok : (t : ThreePoints) → IsPlane t → (o : Option Face) → ((f : Face) → o ≡ Some f → FaceOk (format_of m) f) → FaceOk (format_of m) (elim o as (λ o. Face) [ None ↦ plain_face s m t | Some f ↦ record f { plane = t } ])
    ok t is None h = plain_ok s (format_of m) t material is
    ok t is (Some f) h = let k = h f refl in record { form = k.form; plane = is; material = k.material; numbers = k.numbers }

-- Whole vertices. --------------------------------------------------------------------------------------------------------------------------

vertex_world : (v : Homogeneous) → v.weight ≡ pos 1 → InCube world v → InWorld (as_point v)
vertex_world v w c = in_world (as_point v) (most v.vector.x (size_of v.weight v.vector.x some c.left c.right)) (most v.vector.y (size_of v.weight v.vector.y some c.near c.far)) (most v.vector.z (size_of v.weight v.vector.z some c.bottom c.top))
  where
    some : pos 0 <ℤ v.weight
    some = subst (λ z. pos 0 <ℤ z) (sym w) (omega (arith, ints))

    most : (x : ℤ) → unsigned_abs x ≤ 4096 * unsigned_abs v.weight → unsigned_abs x ≤ 4096
    most x h = subst (λ z. unsigned_abs x ≤ 4096 * unsigned_abs z) w h

-- A vertex of the first brush is among the points of all.
record Spot (points : List Point) (x : Vector) : Type 0 where
  at : Point
  among : at ∈ points
  is : x ≡ vector at

spot : (b : Below) (m : Whole) (n : ℕ) (ns : List ℕ) (x : Vector) → x ∈ map (λ v. v.vector) (vertices_of b (faces_at m n)) → Spot (distinct_points (flat_map (λ q. map as_point (vertices_of b (faces_at m q))) (n ∷ ns))) x
spot b m n ns x i =
    let v = in_map (λ v. v.vector) (vertices_of b (faces_at m n)) x i in
    record {
      at = as_point v.0;
      among = still_there (flat_map (λ q. map as_point (vertices_of b (faces_at m q))) (n ∷ ns)) (as_point v.0)
          (flat_in (λ q. map as_point (vertices_of b (faces_at m q))) (n ∷ ns) n (as_point v.0) here (map_in as_point (vertices_of b (faces_at m n)) v.0 v.1));
      is = v.2;
    }

wide_at : (points : List Point) {vs : List Vector} (s : Spans vs) → Spot points s.a → Spot points s.b → Spot points s.c → Spot points s.d → spans_space points ≡ true
wide_at points s a b c d =
    wide_by points a.at b.at c.at d.at a.among b.among c.among d.among
    (subst (λ z. pos 0 <ℤ z) (λ i. det (minus (b.is i) (a.is i)) (minus (c.is i) (a.is i)) (minus (d.is i) (a.is i))) s.volume)

pub merges : (b : Below) (s : Settings) (m : Whole) (ns : List ℕ) → IsRight b → KeepsMaterial s → IsGood (Merge ns) → Shape m → Unlinked m → first (rows b s m (Merge ns)) ≡ None → Outcome m (Merge ns) (own b s m (Merge ns))
merges b s m [] right material good shape u e = absurd (omega (arith, good.counts))
merges b s m (n ∷ ns) right material good shape u e =
    let c = Merge (n ∷ ns) in
    let f = format_of m in
    let r = rows_pass b s m c e in
    let fit = nodes_fit b s m c e in
    let brushes = named_brushes b s m c (λ q. refl) e in
    let faces = λ (q : ℕ) (i : q ∈ (n ∷ ns)). brush_faces m q shape (brushes q i) in
    let vs = λ (q : ℕ). vertices_of b (faces_at m q) in
    let all = flat_map (λ q. map as_point (vertices_of b (faces_at m q))) (n ∷ ns) in
    let are = λ (q : ℕ) (i : q ∈ (n ∷ ns)). right.vertices (half_spaces (faces_at m q)) (faces q i).valid in
    let whole = λ (q : ℕ) (i : q ∈ (n ∷ ns)) (v : Homogeneous) (j : v ∈ vs q).
    (Decides-int_eq v.weight (pos 1)).0 (all_true is_whole (vs q) (not_false (list_all is_whole (vs q)) (refuse_none (not (list_all is_whole (vs q))) (FractionalVertex q)
    (each_none (n ∷ ns) (λ q. refuse (not (list_all is_whole (vs q))) (FractionalVertex q)) r.whole q i))) v j) in
    let near = λ (p : Point) (i : p ∈ hull_points b m c).
    let q = in_flat (λ q. map as_point (vertices_of b (faces_at m q))) (n ∷ ns) p (firsts_in is_same_point all p i) in
    let v = in_map as_point (vs q.0) p q.2 in
    subst InWorld (sym v.2) (vertex_world v.0 (whole q.0 q.1 v.0 v.1) ((faces q.0 q.1).valid.within v.0 ((are q.0 q.1).each v.0 v.1).0.inside)) in
    let first_valid = (faces n here).valid in
    let spans = vertices_span (half_spaces (faces_at m n)) (vs n) first_valid.volume.at (brush_encloses f (faces_at m n) (faces n here)).bounded (are n here) first_valid.volume.inside (whole n here) in
    let wide = wide_at (hull_points b m c) spans (spot b m n ns spans.a spans.a_in) (spot b m n ns spans.b spans.b_in) (spot b m n ns spans.c spans.c_in) (spot b m n ns spans.d spans.d_in) in
    let each = λ (g : Face) (i : g ∈ all_faces m (n ∷ ns)). let x = in_flat (faces_at m) (n ∷ ns) g i in (faces x.0 x.1).each g x.2 in
    keeps_first m c (merged b s m (n ∷ ns)) n ns shape u refl (λ x. by_member x (n ∷ ns) (λ i. fit.once x i) (λ none. omega (arith, tally-no_member x (n ∷ ns) none))) brushes
    (facets_ok f (fields_for s m (all_faces m (n ∷ ns))) (given_fields s m (all_faces m (n ∷ ns)) material each) (hull_points b m c) near wide (few n (merged b s m (n ∷ ns)) r.few_faces))
