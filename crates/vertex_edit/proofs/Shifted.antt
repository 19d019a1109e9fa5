-- Picked vertices and where they go.
use Rattle.std.proofs.Common.{◌≡◌, ℕ, ◌^◌, ◌<◌, ◌≤◌, Bool, true, false, ◌&&◌, ◌||◌, if◌then◌else◌, IsTrue, List, [], ◌∷◌, length, get_or, map, Result, Ok, Err, IfOk, IfErr, Decides, FitsSigned, w32, to_z, of_z, lit<, refl, ap, ◌∙◌, sym, subst, arith, ℤ, pos, int_eq}
use Rattle.std.specs.Int.{w128}
use Rattle.std.proofs.lemmas.Int.{ints, to_z-of_z}
use mir.Val.{hbits}
use Rattle.algebra.proofs.Wide.{cast_is, range_within}
use Rattle.std.proofs.lemmas.Bool.{false≢true}
use Rattle.std.proofs.lemmas.Bool.Decides.{Decides-int_eq}
use Rattle.std.proofs.lemmas.List.{length-map}
use Rattle.algebra.specs.Members.{◌∈◌, here, there, Every}
use Rattle.algebra.proofs.Members.{each_of_more, each_of_none}
use Rattle.algebra.specs.Space.{Homogeneous, HalfSpace, whole_point}
use Rattle.exact_geom.specs.declared.point.Point.{Point}
use Rattle.exact_geom.specs.Planes.{vector, is_in_range}
use Rattle.algebra.specs.World.{InCube, world}
use Rattle.solid_laws.specs.Names.{AreVertices}
use Rattle.solid_brush.specs.declared.side.Side.{Side}
use Rattle.hull_laws.specs.Moved.{Carried}
use Rattle.hull_merge.specs.Hulls.{distinct}
use Rattle.hull_merge.specs.Gathered.{whole_of, HasWeight}
use Rattle.vertex_edit.specs.declared.shape.FromFace.{FromFace}
use Rattle.vertex_edit.specs.declared.fault.MoveFault.{MoveFault}
use Rattle.vertex_edit.specs.declared.fault.MoveFault.TheVariants.{NoVertex, Fractional, PointRange, NoVolume, TooManyFaces, OutOfWorld, Memory}
use Rattle.vertex_edit.specs.Carrying.{carry}
use Rattle.vertex_edit.specs.Edits.{IsEdit}
use Rattle.vertex_edit.specs.Places.{IsInWorld, moved, is_pick, place_of, GoesInRange, AreShifted, IsMoved}
use Rattle.vertex_edit.specs.MoveFaults.{IsNoEditFor, IsNoMoveFor}
use Rattle.vertex_edit.proofs.Edits.{moved_are}
use Rattle.vertex_edit.proofs.Rounded.{in_range}

in_map : (points : List Point) (p : Point) → p ∈ points → whole_of p ∈ map whole_of points
in_map [] p i = elim i [ ]
in_map (q ∷ points) p here = here
in_map (q ∷ points) p (there i) = there (in_map points p i)

whole_weight : (points : List Point) (v : Homogeneous) → v ∈ map whole_of points → v.weight ≡ pos 1
unfolding whole_point
whole_weight [] v i = elim i [ ]
whole_weight (p ∷ points) v here = refl
whole_weight (p ∷ points) v (there i) = whole_weight points v i

pub all_whole : (points : List Point) (V : List Homogeneous) → map whole_of points ≡ V → ¬ (HasWeight V)
all_whole points V e w = w.weight (whole_weight points w.at (subst (λ W. w.at ∈ W) (sym e) w.among))

-- ---- the world
pub in_world_of : (p : Point) → InCube world (whole_of p) → IsInWorld p
unfolding whole_point
in_world_of p i = let l = i.left in let r = i.right in let n = i.near in let f = i.far in let b = i.bottom in let t = i.top in
    record { x = omega (arith, ints); y = omega (arith, ints); z = omega (arith, ints) }

pub picks_in_world : (V : List Homogeneous) (picks : List Point) → Every (InCube world) V → Every (λ q. whole_of q ∈ V) picks → Every IsInWorld picks
picks_in_world V picks w e = λ q i. in_world_of q (w (whole_of q) (e q i))

pub points_in_world : (V : List Homogeneous) (points : List Point) → Every (InCube world) V → map whole_of points ≡ V → Every IsInWorld points
points_in_world V points w e = λ p i. in_world_of p (w (whole_of p) (subst (λ W. whole_of p ∈ W) e (in_map points p i)))

-- what the test of a vertex against a point says
pub at_point : (v : Homogeneous) (p : Point) (xs : List ℤ) (a b c : ℤ) (r : Bool) → xs ≡ v.vector.x ∷ v.vector.y ∷ v.vector.z ∷ v.weight ∷ [] → a ≡ p.x → b ≡ p.y → c ≡ p.z →
    Decides r (xs ≡ a ∷ b ∷ c ∷ pos 1 ∷ []) → (IsTrue r → v ≡ whole_of p) × (v ≡ whole_of p → IsTrue r)
unfolding whole_point
at_point v p xs a b c r e x y z D = (
  λ t. let h = sym e ∙ D.0 t in
      let i = ap (λ l. get_or l 0 (pos 0)) h ∙ x in let j = ap (λ l. get_or l 1 (pos 0)) h ∙ y in let k = ap (λ l. get_or l 2 (pos 0)) h ∙ z in let w = ap (λ l. get_or l 3 (pos 0)) h in
      λ n. record { vector = record { x = i n; y = j n; z = k n }; weight = w n },
  λ h. D.1 (e ∙ (λ i. (h i).vector.x ∷ (h i).vector.y ∷ (h i).vector.z ∷ (h i).weight ∷ []) ∙ (λ i. sym x i ∷ sym y i ∷ sym z i ∷ pos 1 ∷ [])),
)

pub widened : (a b : ℤ) → FitsSigned w32 a → b ≡ to_z w32 (of_z w32 a) → to_z w128 (of_z w128 b) ≡ a
widened a b f e = cast_is w128 b a (2 ^ hbits w32) (e ∙ to_z-of_z w32 a f) (range_within w32 a f) (lit< tt)

-- ---- results
pub if_ok : {A B : Type 0} (P Q : A → Type 0) → ((a : A) → P a → Q a) → (r : Result A B) → IfOk r P → IfOk r Q
if_ok P Q f (Ok a) h = f a h
if_ok P Q f (Err b) h = tt

pub if_err : {A B : Type 0} (P Q : B → Type 0) → ((b : B) → P b → Q b) → (r : Result A B) → IfErr r P → IfErr r Q
if_err P Q f (Ok a) h = tt
if_err P Q f (Err b) h = f b h

-- ---- where the vertices go
both : (a b : Bool) → (a && b) ≡ true → (a ≡ true) × (b ≡ true)
both true true h = (refl, refl)
both true false h = absurd (false≢true h)
both false b h = absurd (false≢true h)

same_range : (shift : List ℤ) (q p : Point) → (int_eq q.x p.x && (int_eq q.y p.y && int_eq q.z p.z)) ≡ true → GoesInRange shift q → GoesInRange shift p
same_range shift q p h r =
    let k = both (int_eq q.x p.x) (int_eq q.y p.y && int_eq q.z p.z) h in let l = both (int_eq q.y p.y) (int_eq q.z p.z) k.1 in
    let x = (Decides-int_eq q.x p.x).0 k.0 in let y = (Decides-int_eq q.y p.y).0 l.0 in let z = (Decides-int_eq q.z p.z).0 l.1 in
    subst (GoesInRange shift) (λ i. record { x = x i; y = y i; z = z i }) r

pick_or_later : (shift : List ℤ) (q p : Point) (picks : List Point) (a : Bool) → (int_eq q.x p.x && (int_eq q.y p.y && int_eq q.z p.z)) ≡ a → GoesInRange shift q →
    (is_pick picks p ≡ true → GoesInRange shift p) → (a || is_pick picks p) ≡ true → GoesInRange shift p
pick_or_later shift q p picks true e r later h = same_range shift q p e r
pick_or_later shift q p picks false e r later h = later h

pick_range : (shift : List ℤ) (picks : List Point) (p : Point) → Every (GoesInRange shift) picks → is_pick picks p ≡ true → GoesInRange shift p
pick_range shift [] p r h = absurd (false≢true h)
pick_range shift (q ∷ picks) p r h = pick_or_later shift q p picks (int_eq q.x p.x && (int_eq q.y p.y && int_eq q.z p.z)) refl (r q here) (pick_range shift picks p (λ s i. r s (there i))) h

place_range : (shift : List ℤ) (picks : List Point) (p : Point) (b : Bool) → is_pick picks p ≡ b → Every (GoesInRange shift) picks → IsInWorld p → IsTrue (is_in_range (if b then moved shift p else p))
place_range shift picks p true e r w = pick_range shift picks p r e
place_range shift picks p false e r w = in_range p w

pub places_in_range : (shift : List ℤ) (picks points : List Point) → Every (GoesInRange shift) picks → Every IsInWorld points → Every (λ p. IsTrue (is_in_range p)) (map (place_of picks shift) points)
places_in_range shift picks [] r w = each_of_none (λ p. IsTrue (is_in_range p))
places_in_range shift picks (p ∷ points) r w = each_of_more (λ p. IsTrue (is_in_range p)) (place_of picks shift p) (map (place_of picks shift) points)
    (place_range shift picks p (is_pick picks p) refl r (w p here)) (places_in_range shift picks points r (λ q i. w q (there i)))

pub place_count : (shift : List ℤ) (picks points : List Point) (V : List Homogeneous) → map whole_of points ≡ V → length (map (place_of picks shift) points) ≡ length V
place_count shift picks points V e = length-map points (place_of picks shift) ∙ sym (length-map points whole_of) ∙ ap length e

pub few_vertices : (n m : ℕ) → n ≡ m → m ≤ 1040384 → n < 2 ^ 32
few_vertices n m e l = omega arith

-- ---- the vertices with their places
carry_maps : (shift : List ℤ) (picks points : List Point) → carry (map whole_of points) (map (place_of picks shift) points) ≡ map (λ p. record { old = whole_of p; new = vector (place_of picks shift p) }) points
carry_maps shift picks [] = refl
carry_maps shift picks (p ∷ points) = ap (λ l. record { old = whole_of p; new = vector (place_of picks shift p) } ∷ l) (carry_maps shift picks points)

pub are_shifted : (F : List HalfSpace) (shift : List ℤ) (picks points : List Point) (V : List Homogeneous) (places : List Point) → AreVertices F V → map whole_of points ≡ V → Every (λ q. whole_of q ∈ V) picks →
    Every (GoesInRange shift) picks → places ≡ map (place_of picks shift) points → AreShifted F picks shift (carry V places)
are_shifted F shift picks points V places v e k r p = record {
  points = points;
  vertices = subst (AreVertices F) (sym e) v;
  picked = λ q i. subst (λ W. whole_of q ∈ W) (sym e) (k q i);
  range = r;
  carried = (λ i. carry (sym e i) (p i)) ∙ carry_maps shift picks points;
}

pub is_moved : (F : List HalfSpace) (shift : List ℤ) (picks : List Point) (vs : List Carried) (facets : List FromFace) (solid : List Side) → AreShifted F picks shift vs → IsEdit F vs facets solid → IsMoved F picks shift facets solid
is_moved F shift picks vs facets solid s e = record { vs = vs; shifted = s; edit = e }

pub no_move : (F : List HalfSpace) (shift : List ℤ) (picks : List Point) (V : List Homogeneous) (places : List Point) → AreShifted F picks shift (carry V places) → length places ≡ length V →
    (fault : MoveFault) → IsNoEditFor (distinct places) fault → IsNoMoveFor F picks shift fault
no_move F shift picks V places s n NoVolume h = record { vs = carry V places; shifted = s; cause = subst (λ ps. IsNoEditFor ps NoVolume) (sym (moved_are V places n)) h }
no_move F shift picks V places s n (TooManyFaces k) h = record { vs = carry V places; shifted = s; cause = subst (λ ps. IsNoEditFor ps (TooManyFaces k)) (sym (moved_are V places n)) h }
no_move F shift picks V places s n OutOfWorld h = record { vs = carry V places; shifted = s; cause = subst (λ ps. IsNoEditFor ps OutOfWorld) (sym (moved_are V places n)) h }
no_move F shift picks V places s n Memory h = tt
no_move F shift picks V places s n (NoVertex k) h = absurd h
no_move F shift picks V places s n Fractional h = absurd h
no_move F shift picks V places s n (PointRange k) h = absurd h
