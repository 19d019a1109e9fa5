-- The vertices of several solids, gathered one after another.
use Rattle.std.proofs.Common.{◌≡◌, ◌≤◌, ℕ, suc, ◌⊎◌, inl, inr, ◌<◌, ◌+◌, ◌*◌, ◌^◌, List, [], ◌∷◌, ◌++◌, length, get_or, take, map, ap, ◌∙◌, sym, subst, refl, arith, pos, Option, Some, None, IsSome, IfSome, ◌↔◌}
use Rattle.std.proofs.lemmas.List.{append-nil, append_assoc, map-append, length-append, length-map, take_all, map_push}
use Rattle.std.proofs.Math.Seq.{take-suc}
use Rattle.algebra.specs.Members.{◌∈◌, here, there}
use Rattle.algebra.specs.Space.{Homogeneous, HalfSpace, whole_point}
use Rattle.exact_geom.specs.declared.point.Point.{Point}
use Rattle.exact_geom.specs.Planes.{vector}
use Rattle.solid_laws.specs.Names.{AreVertices}
use Rattle.solid_brush.specs.declared.side.Side.{Side}
use Rattle.solid_brush.specs.Sides.{half_spaces}
use Rattle.hull_merge.specs.Hulls.{AreFirstPlaces, distinct}
use Rattle.hull_merge.proofs.Placing.{firsts_fewer}
use Rattle.hull_merge.specs.Gathered.{whole_of, HasWeight, AreAllVertices, no_solids, one_more_solid, AreAllWhole, AreGathered, HasFraction, IsFirstFraction}

-- one solid more
all_push : (solids : List (List Side)) (all V : List Homogeneous) (s : List Side) → AreAllVertices solids all → AreVertices (half_spaces s) V → AreAllVertices (solids ++ s ∷ []) (all ++ V)
all_push [] [] V s no_solids v = subst (AreAllVertices (s ∷ [])) (append-nil V) (one_more_solid v no_solids)
all_push [] (_ ∷ _) V s none v = elim none [ ]
all_push (t ∷ ts) all V s (one_more_solid {V = W} {all = rest} u r) v =
    subst (AreAllVertices (t ∷ (ts ++ s ∷ []))) (sym (append_assoc W rest V)) (one_more_solid u (all_push ts rest V s r v))

-- The first k solids are done.
pub record Gathering (solids : List (List Side)) (k : ℕ) (all : List Point) : Type 0 where
  pub whole : AreAllWhole (take k solids) all
  pub few : length all ≤ k * 1040384
  pub before : (j : ℕ) → j < k → ¬ (HasFraction (half_spaces (get_or solids j [])))

pub none_gathered : (solids : List (List Side)) → Gathering solids 0 []
none_gathered solids = record { whole = no_solids; few = omega arith; before = λ j l. absurd (omega arith) }

pub all_whole : (points : List Point) (v : Homogeneous) → v ∈ map whole_of points → v.weight ≡ pos 1
unfolding whole_point
all_whole [] v i = elim i [ ]
all_whole (p ∷ points) v here = refl
all_whole (p ∷ points) v (there i) = all_whole points v i

-- a vertex that is whole, as a point
pub some_whole : (r : Option Point) (v : Homogeneous) → (IsSome r ↔ (v.weight ≡ pos 1)) → IfSome r (λ p. vector p ≡ v.vector) → IfSome r (λ p. whole_of p ≡ v)
unfolding whole_point
some_whole (Some p) v i e = λ j. record { vector = e j; weight = sym (i.0 refl) j }
some_whole None v i e = tt

pub no_fraction : (F : List HalfSpace) (V : List Homogeneous) (points : List Point) → AreVertices F V → map whole_of points ≡ V → ¬ (HasFraction F)
no_fraction F V points v e f = f.fraction (all_whole points f.at (subst (λ W. f.at ∈ W) (sym e) (v.all f.at f.vertex f.reduced)))

pub fraction_of : (F : List HalfSpace) (V : List Homogeneous) → AreVertices F V → HasWeight V → HasFraction F
fraction_of F V v w = let e = v.each w.at w.among in record { at = w.at; vertex = e.0; reduced = e.1; fraction = w.weight }

pub gathered_more : (solids : List (List Side)) (k : ℕ) (all points : List Point) (V : List Homogeneous) → k < length solids → Gathering solids k all →
    AreVertices (half_spaces (get_or solids k [])) V → length V ≤ 1040384 → map whole_of points ≡ V → Gathering solids (k + 1) (all ++ points)
gathered_more solids k all points V l g v n e = record {
  whole = subst (λ s. AreAllVertices s (map whole_of (all ++ points))) (sym (take-suc solids k [] l) ∙ ap (λ n. take n solids) (one k))
      (subst (AreAllVertices (take k solids ++ get_or solids k [] ∷ [])) (ap (λ W. map whole_of all ++ W) (sym e) ∙ sym (map-append whole_of all points)) (all_push (take k solids) (map whole_of all) V (get_or solids k []) g.whole v));
  few = let f = g.few in let a = length-append all points in let b = length-map points whole_of in let c = ap length e in omega arith;
  before = below;
}
  where
    one : (n : ℕ) → suc n ≡ n + 1
    one n = omega arith

    below : (j : ℕ) → j < k + 1 → ¬ (HasFraction (half_spaces (get_or solids j [])))
    below j m = by_last j (last j k m)
      where
        last : (j k : ℕ) → j < k + 1 → (j < k) ⊎ (j ≡ k)
        last j k m = grind arith

        by_last : (j : ℕ) → (j < k) ⊎ (j ≡ k) → ¬ (HasFraction (half_spaces (get_or solids j [])))
        by_last j (inl i) = g.before j i
        by_last j (inr i) = rw i (no_fraction (half_spaces (get_or solids k [])) V points v e)

pub first_fraction : (solids : List (List Side)) (k : ℕ) (all : List Point) (V : List Homogeneous) → k < length solids → Gathering solids k all →
    AreVertices (half_spaces (get_or solids k [])) V → HasWeight V → IsFirstFraction solids k
first_fraction solids k all V l g v w = record { within = l; here = fraction_of (half_spaces (get_or solids k [])) V v w; before = g.before }

pub gathered_all : (solids : List (List Side)) (k : ℕ) (all : List Point) → length solids ≤ k → Gathering solids k all → AreAllWhole solids all
gathered_all solids k all l g = subst (λ s. AreAllWhole s all) (take_all k solids l) g.whole

pub few_points : (n k : ℕ) → k ≤ 4095 → n ≤ k * 1040384 → n < 2 ^ 32
few_points n k l m = omega arith

-- one more of the distinct points
pub points_more : (points : List Point) (places : List ℕ) → AreFirstPlaces points places → (done : List Point) (i : ℕ) (d p : Point) → i < length places →
    p ≡ get_or points (get_or places i 0) d → map vector done ≡ take i (distinct points) → map vector (done ++ p ∷ []) ≡ take (i + 1) (distinct points)
points_more points places a done i d p l e h =
    let o = vector p in
    map_push vector done p ∙ (λ j. h j ++ (ap vector e ∙ a.each i d o l) j ∷ []) ∙ sym (take-suc (distinct points) i o (subst (λ n. i < n) a.count l)) ∙ ap (λ k. take k (distinct points)) (one i)
  where
    one : (i : ℕ) → suc i ≡ i + 1
    one i = omega arith

pub points_done : (points : List Point) (places : List ℕ) → AreFirstPlaces points places → (done : List Point) (i : ℕ) → length places ≤ i →
    map vector done ≡ take i (distinct points) → map vector done ≡ distinct points
points_done points places a done i l h = h ∙ take_all i (distinct points) (subst (λ n. n ≤ i) a.count l)

pub are_gathered : (solids : List (List Side)) (all points : List Point) → AreAllWhole solids all → length all < 2 ^ 32 → map vector points ≡ distinct all → AreGathered solids points
are_gathered solids all points w l e = record {
  all = all;
  vertices = w;
  are = e;
  few = let a = firsts_fewer (map vector all) in let b = length-map points vector in let c = ap length e in let d = length-map all vector in omega arith;
}
