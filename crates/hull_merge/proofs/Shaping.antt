-- What is built of facets is the hull.
use Rattle.std.proofs.Common.{◌≡◌, refl, ap, ◌∙◌, sym, subst, ℕ, suc, ◌<◌, ◌≤◌, ◌+◌, ◌^◌, List, [], ◌∷◌, length, map, arith}
use Rattle.std.proofs.lemmas.List.{length-map}
use Rattle.algebra.specs.Members.{◌∈◌, here, there, Every}
use Rattle.algebra.specs.Space.{Vector, whole_point}
use Rattle.exact_geom.specs.declared.point.Point.{Point}
use Rattle.trim_laws.specs.Trim.{Trim}
use Rattle.algebra.specs.World.{InCube, world}
use Rattle.trim_laws.specs.Valid.{Cause, HasCause}
use Rattle.trim_laws.proofs.Faces.{trim_faces}
use Rattle.hull_laws.specs.Facets.{Spans, Triple, plane_of, FacetAt, Facets}
use Rattle.hull_laws.proofs.Faces.{faces}
use Rattle.hull_laws.proofs.Unique.{one_facets}
use Rattle.solid_brush.specs.declared.side.Side.{Side}
use Rattle.solid_brush.specs.Sides.{bounds, half_spaces, DistinctTags, no_sides, one_more_side, HaveTags, IsSolid, IsBuiltOf}
use Rattle.hull_search.specs.declared.corners.Corners.{Corners}
use Rattle.hull_search.specs.Places.{corners}
use Rattle.hull_merge.specs.Hulls.{AreFirstPlaces, IsWithin, IsHull, HasFacets, distinct, names, sides_from}
use Rattle.hull_merge.proofs.AllKept.{all_kept}
use Rattle.hull_merge.proofs.Siding.{bounds_is, corner_in}
use Rattle.hull_merge.proofs.World.{in_map, stays_in, no_cause}

pub each_facet : (ps : List Vector) (list : List Corners) → Facets ps (map corners list) → Every (λ t. FacetAt ps (corners t)) list
each_facet ps list F = λ t m. F.each (corners t) (in_map corners list t m)

pub each_within : (points : List Point) (places : List ℕ) (list : List Corners) → AreFirstPlaces points places → Facets (distinct points) (map corners list) →
    Every (λ t. IsWithin (length places) (corners t)) list
each_within points places list a F = λ t m. let f = each_facet (distinct points) list F t m in
    record { a = corner_in points places a t.a f.a_in; b = corner_in points places a t.b f.b_in; c = corner_in points places a t.c f.c_in }

spaces_are : (points : List Point) (places : List ℕ) → AreFirstPlaces points places → (n : ℕ) (ts : List Triple) → Every (FacetAt (distinct points)) ts →
    half_spaces (sides_from points places n ts) ≡ map (plane_of (distinct points)) ts
spaces_are points places a n [] each = refl
spaces_are points places a n (t ∷ ts) each = λ i. bounds_is points places a t n (each t here) i ∷ spaces_are points places a (n + 1) ts (λ u m. each u (there m)) i

pub count_is : (points : List Point) (places : List ℕ) (n : ℕ) (ts : List Triple) → length (sides_from points places n ts) ≡ length ts
count_is points places n [] = refl
count_is points places n (t ∷ ts) = ap suc (count_is points places (n + 1) ts)

record Between (a b n : ℕ) : Type 0 where
  pub low : a ≤ n
  pub high : n < b

tag_between : (points : List Point) (places : List ℕ) (n : ℕ) (ts : List Triple) (s : Side) → s ∈ sides_from points places n ts → Between n (n + length ts) s.tag
tag_between points places n [] s m = elim m [ ]
tag_between points places n (t ∷ ts) s here = record { low = omega arith; high = omega arith }
tag_between points places n (t ∷ ts) s (there m) = let h = tag_between points places (n + 1) ts s m in let l = h.low in let k = h.high in record { low = omega arith; high = omega arith }

distinct_tags : (points : List Point) (places : List ℕ) (n : ℕ) (ts : List Triple) → DistinctTags (sides_from points places n ts)
distinct_tags points places n [] = no_sides
distinct_tags points places n (t ∷ ts) =
    one_more_side (λ s m e. let h = (tag_between points places (n + 1) ts s m).low in omega arith) (distinct_tags points places (n + 1) ts)

small : (n k : ℕ) → n < 0 + k → k ≤ 128 → n < 2 ^ 31
small n k l m = omega arith

pub have_tags : (points : List Point) (places : List ℕ) (ts : List Triple) → length ts ≤ 128 → HaveTags (sides_from points places 0 ts)
have_tags points places ts l = record { distinct = distinct_tags points places 0 ts; small = λ s m. small s.tag (length ts) (tag_between points places 0 ts s m).high l }

pub accepted : (points : List Point) (places : List ℕ) (ts : List Triple) → AreFirstPlaces points places → Spans (distinct points) → Facets (distinct points) ts →
    Every (λ p. InCube world (whole_point p)) (distinct points) → length ts ≤ 128 → (c : Cause) → ¬ (HasCause (half_spaces (sides_from points places 0 ts)) c)
accepted points places ts a S F w l c =
    let ps = distinct points in let e = spaces_are points places a 0 ts F.each in let f = faces ps ts S F in
    subst (λ G. ¬ (HasCause G c)) (sym e) (no_cause (map (plane_of ps) ts) f.trim f.volume (stays_in ps ts S F w) (subst (λ n. n ≤ 128) (sym (length-map ts (plane_of ps))) l) c)

pub names_are : (places : List ℕ) (list : List Corners) → map (λ t. names places (corners t)) list ≡ map (names places) (map corners list)
names_are places [] = refl
names_are places (t ∷ list) = ap (λ l. names places (corners t) ∷ l) (names_are places list)

pub few_triples : (list : List Corners) → length list ≤ 128 → length (map corners list) ≤ 128
few_triples list l = subst (λ n. n ≤ 128) (sym (length-map list corners)) l

pub few_sides : (points : List Point) (places : List ℕ) (list : List Corners) → length list ≤ 128 → length (sides_from points places 0 (map corners list)) ≤ 128
few_sides points places list l = subst (λ n. n ≤ 128) (sym (count_is points places 0 (map corners list))) (few_triples list l)

pub is_hull : (points : List Point) (places : List ℕ) (ts : List Triple) (rows : List (List ℕ)) (solid : List Side) → AreFirstPlaces points places → Spans (distinct points) → Facets (distinct points) ts →
    rows ≡ map (names places) ts → IsBuiltOf (sides_from points places 0 ts) solid → IsSolid solid → IsHull points rows solid
is_hull points places ts rows solid a S F r b v =
    let ps = distinct points in let sides = sides_from points places 0 ts in
    let e = spaces_are points places a 0 ts F.each in let f = faces ps ts S F in
    let t : Trim (half_spaces sides) (half_spaces sides) = subst (λ G. Trim G G) (sym e) f.trim in
    let s : sides ≡ solid = (trim_faces Side bounds sides sides (all_kept bounds sides t)).only solid b.trim in
    record {
      spans = S;
      triples = ts;
      are_facets = F;
      places = places;
      are_places = a;
      named = r;
      sides = sym s;
      planes = ap half_spaces (sym s) ∙ e;
      valid = v;
    }

-- one number of facets
pub few_facets : (ps : List Vector) (list : List Corners) → Facets ps (map corners list) → length list ≤ 128 → (n : ℕ) → HasFacets ps n → n ≤ 128
few_facets ps list F l n h =
    let e = ap length (one_facets ps h.triples (map corners list) h.are_facets F) in let m = length-map list corners in let c = h.count in omega arith
