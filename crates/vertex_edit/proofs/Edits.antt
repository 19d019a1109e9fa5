-- The brush of moved vertices, from the hull of their places.
use Rattle.std.proofs.Common.{◌≡◌, ℕ, zero, suc, ◌+◌, ◌<◌, List, [], ◌∷◌, ◌++◌, length, get_or, map, refl, ap, ◌∙◌, sym, subst, arith, ◌⊎◌, inl, inr}
use Rattle.std.proofs.lemmas.List.{length-map, get_or_push, get_or_append_left, get_or_default, length-append}
use Rattle.algebra.specs.Space.{Homogeneous, HalfSpace, through}
use Rattle.exact_geom.specs.declared.point.Point.{Point}
use Rattle.exact_geom.specs.Planes.{vector}
use Rattle.hull_laws.specs.Facets.{Spans, Triple, origin, plane_of, Facets, firsts}
use Rattle.hull_laws.specs.Moved.{Carried, same_point, moved_points, OldFace}
use Rattle.solid_brush.specs.declared.side.Side.{Side}
use Rattle.solid_brush.specs.Sides.{bounds}
use Rattle.algebra.proofs.Members.{member_at}
use Rattle.hull_merge.specs.Hulls.{IsHull, distinct, side_of, sides_from, zero_point}
use Rattle.vertex_edit.specs.declared.shape.FromFace.{FromFace}
use Rattle.vertex_edit.specs.Carrying.{carry}
use Rattle.vertex_edit.specs.Edits.{corners_of, IsOldOf, AreFrom, IsFrom, IsEdit}

-- ---- the facets of the sides, one after another
-- The facets of the first k sides.
pub record FromBefore (F : List HalfSpace) (vs : List Carried) (sides : List Side) (k : ℕ) (facets : List FromFace) : Type 0 where
  pub count : length facets ≡ k
  pub each : (j : ℕ) (side : Side) (facet : FromFace) → j < k → IsOldOf F vs (get_or sides j side) (get_or facets j facet)

pub from_none : (F : List HalfSpace) (vs : List Carried) (sides : List Side) → FromBefore F vs sides 0 []
from_none F vs sides = record { count = refl; each = λ j side facet l. absurd (omega arith) }

pub from_more : (F : List HalfSpace) (vs : List Carried) (sides : List Side) (k : ℕ) (facets : List FromFace) (side : Side) (facet : FromFace) → k < length sides → side ≡ get_or sides k side → FromBefore F vs sides k facets →
    IsOldOf F vs side facet → FromBefore F vs sides (k + 1) (facets ++ facet ∷ [])
from_more F vs sides k facets side facet l e b o = record {
  count = let n = length-append facets (facet ∷ []) in let c = b.count in omega arith;
  each = λ j s f m. by_last j s f (last j k m);
}
  where
    last : (j k : ℕ) → j < k + 1 → (j < k) ⊎ (k ≡ j)
    last j k m = grind arith

    by_last : (j : ℕ) (s : Side) (f : FromFace) → (j < k) ⊎ (k ≡ j) → IsOldOf F vs (get_or sides j s) (get_or (facets ++ facet ∷ []) j f)
    by_last j s f (inl i) = subst (λ x. IsOldOf F vs (get_or sides j s) x) (sym (get_or_append_left facets (facet ∷ []) f j (let c = b.count in omega arith))) (b.each j s f i)
    by_last j s f (inr i) = subst (λ n. IsOldOf F vs (get_or sides n s) (get_or (facets ++ facet ∷ []) n f)) i
        (subst (λ x. IsOldOf F vs (get_or sides k s) x) (sym (get_or_push facets facet f k b.count))
        (subst (λ x. IsOldOf F vs x facet) (e ∙ get_or_default sides k side s l) o))

pub from_all : (F : List HalfSpace) (vs : List Carried) (sides : List Side) (k : ℕ) (facets : List FromFace) → length sides ≡ k → FromBefore F vs sides k facets → AreFrom F vs sides facets
from_all F vs sides k facets e b = record { count = b.count ∙ sym e; each = λ j s f l. b.each j s f (subst (λ n. j < n) e l) }

-- ---- the hull as a brush
new_places : (V : List Homogeneous) (places : List Point) → length places ≡ length V → map (λ v. v.new) (carry V places) ≡ map vector places
new_places [] [] e = refl
new_places [] (p ∷ places) e = absurd (omega arith)
new_places (v ∷ V) [] e = absurd (omega arith)
new_places (v ∷ V) (p ∷ places) e = ap (λ l. vector p ∷ l) (new_places V places (omega arith))

pub old_places : (V : List Homogeneous) (places : List Point) → length places ≡ length V → map (λ v. v.old) (carry V places) ≡ V
old_places [] [] e = refl
old_places [] (p ∷ places) e = absurd (omega arith)
old_places (v ∷ V) [] e = absurd (omega arith)
old_places (v ∷ V) (p ∷ places) e = ap (λ l. v ∷ l) (old_places V places (omega arith))

pub moved_are : (V : List Homogeneous) (places : List Point) → length places ≡ length V → moved_points (carry V places) ≡ distinct places
moved_are V places e = ap (firsts same_point) (new_places V places e)

side_at : (points : List Point) (places : List ℕ) (n : ℕ) (ts : List Triple) (k : ℕ) (d : Side) (t : Triple) → k < length ts → get_or (sides_from points places n ts) k d ≡ side_of points places (n + k) (get_or ts k t)
side_at points places n [] k d t l = absurd (omega arith)
side_at points places n (u ∷ ts) zero d t l = ap (λ m. side_of points places m u) (none n)
  where
    none : (n : ℕ) → n ≡ n + 0
    none n = omega arith
side_at points places n (u ∷ ts) (suc k) d t l = side_at points places (n + 1) ts k d t (omega arith) ∙ ap (λ m. side_of points places m (get_or ts k t)) (more n k)
  where
    more : (n k : ℕ) → (n + 1) + k ≡ n + suc k
    more n k = omega arith

pub is_edit : (F : List HalfSpace) (V : List Homogeneous) (places : List Point) (rows : List (List ℕ)) (facets : List FromFace) (solid : List Side) → length places ≡ length V → IsHull places rows solid →
    AreFrom F (carry V places) solid facets → IsEdit F (carry V places) facets solid
is_edit F V places rows facets solid n h a =
    let vs = carry V places in let ts = h.triples in let D = distinct places in
    let e = moved_are V places n in
    let count : length solid ≡ length ts = sym (length-map solid bounds) ∙ ap length h.planes ∙ length-map ts (plane_of D) in
    record {
      spans = subst Spans (sym e) h.spans;
      triples = ts;
      are_facets = subst (λ ps. Facets ps ts) (sym e) h.are_facets;
      facet_count = a.count ∙ count;
      side_count = count;
      each = λ k t facet side l. from k t facet side l count (at_side k t side l);
      planes = h.planes ∙ ap (λ ps. map (plane_of ps) ts) (sym e);
      valid = h.valid;
    }
  where
    at_side : (k : ℕ) (t : Triple) (side : Side) → k < length h.triples → get_or solid k side ≡ side_of places h.places k (get_or h.triples k t)
    at_side k t side l = ap (λ s. get_or s k side) h.sides ∙ side_at places h.places 0 h.triples k side t l ∙ ap (λ m. side_of places h.places m (get_or h.triples k t)) (none k)
      where
        none : (k : ℕ) → 0 + k ≡ k
        none k = omega arith

    from : (k : ℕ) (t : Triple) (facet : FromFace) (side : Side) → k < length h.triples → length solid ≡ length h.triples → get_or solid k side ≡ side_of places h.places k (get_or h.triples k t) →
        IsFrom F (carry V places) k (get_or h.triples k t) (get_or facets k facet) (get_or solid k side)
    from k t facet side l count s =
        let o = a.each k side facet (subst (λ n. k < n) (sym count) l) in
        let u = get_or h.triples k t in let f = h.are_facets.each u (member_at h.triples k t l) in
        let at : (i : ℕ) → i < length (distinct places) → vector (get_or places (get_or h.places i 0) zero_point) ≡ get_or (distinct places) i origin = λ i m. h.are_places.each i zero_point origin (subst (λ n. i < n) (sym h.are_places.count) m) in
        let ea = at u.a f.a_in in let eb = at u.b f.b_in in let ec = at u.c f.c_in in
        let corners : map vector (get_or facets k facet).points ≡ corners_of (distinct places) u =
        ap (map vector) (o.points ∙ ap (λ s. s.plane.p0 ∷ s.plane.p1 ∷ s.plane.p2 ∷ []) s) ∙ (λ i. ea i ∷ eb i ∷ ec i ∷ []) in
        let plane : bounds (get_or solid k side) ≡ plane_of (distinct places) u = ap bounds s ∙ (λ i. through (ea i) (eb i) (ec i)) in
        record {
          corners = corners ∙ ap (λ ps. corners_of ps u) (sym (moved_are V places n));
          old = subst (λ g. OldFace F (carry V places) g (get_or facets k facet).old) (plane ∙ ap (λ ps. plane_of ps u) (sym (moved_are V places n))) o.old;
          points = o.points;
          tag = ap (λ s. s.tag) s;
        }
