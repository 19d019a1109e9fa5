-- The sides that are read off a polyhedron, and its vertices.
use Rattle.std.proofs.Common.{◌≡◌, ◌↔◌, ℕ, zero, suc, ◌+◌, ◌<◌, ◌≤◌, Bool, true, false, IsTrue, List, [], ◌∷◌, ◌++◌, length, map, take, add-one, slice_get, Option, None, Some, refl, sym, ap, subst, ◌∙◌, arith, ⊎_elim}
use Rattle.std.specs.Option.{option_map}
use Rattle.std.proofs.lemmas.Bool.{cases_eq, false≢true}
use Rattle.std.proofs.lemmas.List.{map-append}
use Rattle.algebra.specs.Members.{◌∈◌, here, there, Every}
use Rattle.algebra.specs.Space.{Homogeneous, HalfSpace}
use Rattle.algebra.specs.World.{InCube, world}
use Rattle.exact_geom.specs.Planes.{ThreePoints}
use Rattle.solid_laws.specs.Names.{AreVertices}
use Rattle.solid_laws.specs.FaceLoop.{HasVertexCount, HasVertex}
use Rattle.solid_laws.proofs.OneList.{one_list}
use Rattle.half_poly.specs.Shapes.{Tagged, solid_of}
use Rattle.solid_brush.specs.declared.side.Side.{Side}
use Rattle.trim_laws.specs.Trim.{TrimFaces}
use Rattle.trim_laws.specs.Valid.{HasCause, no_volume, out_of_world}
use Rattle.half_poly.specs.Trims.{StandsForAll}
use Rattle.solid_brush.specs.Sides.{bounds, half_spaces, IsWithinWorld}
use Rattle.solid_brush.specs.Cutting.{tagged, all_planes, IsBehind, IsKeptSolid}
use Rattle.solid_brush.proofs.Behind.{spaces_of, has_inside, proper_sides, holds_boxed, nothing_inside}
use Rattle.solid_brush.proofs.Boxed.{out_of_world_cause, within_world, not_true}
use Rattle.solid_brush.proofs.Unboxed.{trim_sides}

-- ---- faces by their numbers
record At {A : Type 0} (xs : List A) (k : ℕ) : Type 0 where
  it : A
  is : slice_get xs k ≡ Some it

at : {A : Type 0} (xs : List A) (k : ℕ) → k < length xs → At xs k
at [] k l = absurd (omega arith)
at (x ∷ xs) zero l = record { it = x; is = refl }
at (x ∷ xs) (suc k) l = let r = at xs k (omega arith) in record { it = r.it; is = r.is }

some_none : {A : Type 0} {x : A} {o : Option A} → o ≡ Some x → o ≡ None → ⊥
some_none {A} {x} {o} q r = cc

some_is : {A : Type 0} {x y : A} → Some x ≡ Some y → x ≡ y
some_is {A} {x} {y} q = cc

pub is_there : {B : Type 0} (f : Tagged → B) (poly : List Tagged) (k : ℕ) (r : Option B) → r ≡ option_map f (slice_get poly k) → k < length poly → ¬ (r ≡ None)
is_there f poly k r q l n = let x = at poly k l in some_none (q ∙ ap (option_map f) x.is) n

take_next : {A : Type 0} (xs : List A) (k : ℕ) (x : A) → slice_get xs k ≡ Some x → take (suc k) xs ≡ take k xs ++ x ∷ []
take_next [] zero x q = absurd (some_none q refl)
take_next [] (suc k) x q = absurd (some_none q refl)
take_next (y ∷ xs) zero x q = ap (λ z. z ∷ []) (some_is q)
take_next (y ∷ xs) (suc k) x q = ap (λ l. y ∷ l) (take_next xs k x q)

tagged_by : (p : ThreePoints) (t : ℕ) (x : Tagged) → p ≡ x.plane → t ≡ x.tag → tagged (record { plane = p; tag = t }) ≡ x
tagged_by p t x q r = λ i. record { plane = q i; tag = r i }

pub side_more : (poly : List Tagged) (k : ℕ) (p : ThreePoints) (t : ℕ) (a : Option ThreePoints) (b : Option ℕ) (sides after : List Side) → k < length poly → a ≡ option_map (λ (s : Tagged). s.plane) (slice_get poly k) → a ≡ Some p →
    b ≡ option_map (λ (s : Tagged). s.tag) (slice_get poly k) → b ≡ Some t → after ≡ sides ++ record { plane = p; tag = t } ∷ [] → map tagged sides ≡ take k poly → map tagged after ≡ take (k + 1) poly
side_more poly k p t a b sides after l q r m n e h =
    let x = at poly k l in
    let i : p ≡ x.it.plane = some_is (sym r ∙ q ∙ ap (option_map (λ (s : Tagged). s.plane)) x.is) in
    let j : t ≡ x.it.tag = some_is (sym n ∙ m ∙ ap (option_map (λ (s : Tagged). s.tag)) x.is) in
    ap (map tagged) e ∙ map-append tagged sides (record { plane = p; tag = t } ∷ []) ∙ ap (λ l. l ++ tagged (record { plane = p; tag = t }) ∷ []) h
    ∙ ap (λ y. take k poly ++ y ∷ []) (tagged_by p t x.it i j) ∙ sym (take_next poly k x.it x.is) ∙ ap (λ n. take n poly) (sym (add-one k))

whole : {A : Type 0} (xs : List A) (k : ℕ) → length xs ≤ k → take k xs ≡ xs
whole [] zero l = refl
whole [] (suc k) l = refl
whole (x ∷ xs) zero l = absurd (omega arith)
whole (x ∷ xs) (suc k) l = ap (λ t. x ∷ t) (whole xs k (omega arith))

pub sides_all : (poly : List Tagged) (k : ℕ) (sides : List Side) → length poly ≤ k → map tagged sides ≡ take k poly → map tagged sides ≡ poly
sides_all poly k sides l h = h ∙ whole poly k l

-- ---- vertices by their numbers
pub vertex_there : (F : List HalfSpace) (n k : ℕ) (r : Option Homogeneous) → HasVertexCount F n → k < n → HasVertex F k r → ¬ (r ≡ None)
vertex_there F n k r c l v e =
    let q : v.V ≡ c.V = one_list F v.V c.V v.vertices c.vertices in
    let x = at v.V k (subst (λ m. k < m) (sym (ap length q ∙ c.is_count)) l) in some_none (sym v.is_vertex ∙ x.is) e

pub vertex_is : (F : List HalfSpace) (k : ℕ) (r : Option Homogeneous) (v : Homogeneous) (V : List Homogeneous) → HasVertex F k r → r ≡ Some v → AreVertices F V → slice_get V k ≡ Some v
vertex_is F k r v V h e a = ap (λ l. slice_get l k) (one_list F V h.V a h.vertices) ∙ h.is_vertex ∙ e

member_at : (V : List Homogeneous) (k : ℕ) (v : Homogeneous) → slice_get V k ≡ Some v → v ∈ V
member_at [] zero v q = absurd (some_none q refl)
member_at [] (suc k) v q = absurd (some_none q refl)
member_at (x ∷ V) zero v q = subst (λ y. y ∈ (x ∷ V)) (some_is q) here
member_at (x ∷ V) (suc k) v q = there (member_at V k v q)

pub leaves : (F : List HalfSpace) (k : ℕ) (r : Option Homogeneous) (v : Homogeneous) (b : Bool) → HasVertex F k r → r ≡ Some v → IsTrue b ↔ InCube world v → b ≡ false → (V : List Homogeneous) → AreVertices F V → IsTrue false ↔ Every (InCube world) V
leaves F k r v b h e law f V a = (λ t. absurd (false≢true t), λ all. absurd (false≢true (sym f ∙ law.1 (all v (member_at V k v (vertex_is F k r v V h e a))))))

pub stays : (F : List HalfSpace) (k : ℕ) (r : Option Homogeneous) (v : Homogeneous) (b : Bool) → HasVertex F k r → r ≡ Some v → IsTrue b ↔ InCube world v → b ≡ true →
    ((V : List Homogeneous) → AreVertices F V → (j : ℕ) (u : Homogeneous) → j < k → slice_get V j ≡ Some u → InCube world u) →
    (V : List Homogeneous) → AreVertices F V → (j : ℕ) (u : Homogeneous) → j < k + 1 → slice_get V j ≡ Some u → InCube world u
stays F k r v b h e law t before V a j u l q = ⊎_elim
    (λ (i : j ≡ k). subst (InCube world) (some_is (sym (vertex_is F k r v V h e a) ∙ ap (λ n. slice_get V n) (sym i) ∙ q)) (law.0 t))
    (λ (d : ¬ (j ≡ k)). before V a j u (grind arith) q) (cases_eq j k)

pub all_stay : (F : List HalfSpace) (n k : ℕ) → HasVertexCount F n → n ≤ k → ((V : List Homogeneous) → AreVertices F V → (j : ℕ) (u : Homogeneous) → j < k → slice_get V j ≡ Some u → InCube world u) →
    (V : List Homogeneous) → AreVertices F V → IsTrue true ↔ Every (InCube world) V
all_stay F n k c l each V a = (λ t. every V (λ j u m q. each V a j u (let e = ap length (one_list F V c.V a c.vertices) in let d = c.is_count in omega arith) q), λ all. refl)
  where
    every : (W : List Homogeneous) → ((j : ℕ) (u : Homogeneous) → j < length W → slice_get W j ≡ Some u → InCube world u) → Every (InCube world) W
    every [] h v m = elim m [ ]
    every (x ∷ W) h v here = h zero x (omega arith) refl
    every (x ∷ W) h v (there m) = every W (λ j u i q. h (suc j) u (omega arith) q) v m

-- ---- a solid and its polyhedron
pub spaces_is : {sides : List Side} {poly : List Tagged} (now : List Side) → IsKeptSolid sides poly → sides ≡ now → solid_of poly ≡ half_spaces now
spaces_is {sides} {poly} now k q = ap solid_of k.same ∙ spaces_of sides ∙ ap half_spaces q

pub few_faces : {sides : List Side} {poly : List Tagged} → IsKeptSolid sides poly → length (solid_of poly) ≤ 128
few_faces {sides} {poly} k = subst (λ F. length F ≤ 128) (sym (ap solid_of k.same ∙ spaces_of sides)) k.solid.brush.most

-- ---- what is built
pub record Built (sides kept : List Side) : Type 0 where
  pub corners : List Homogeneous
  pub within : IsWithinWorld (half_spaces sides) corners
  pub trim : TrimFaces bounds sides kept

pub vertices_at : {poly now : List Tagged} {V : List Homogeneous} → poly ≡ now → AreVertices (solid_of poly) V → AreVertices (solid_of now) V
vertices_at {poly} {now} {V} q a = subst (λ l. AreVertices (solid_of l) V) q a

pub no_volume_of : (sides : List Side) (o : Option (List Tagged)) → IsBehind sides o → o ≡ None → HasCause (half_spaces sides) no_volume
no_volume_of sides o b q = nothing_inside sides (subst (IsBehind sides) q b)

module _ (sides : List Side) (o : Option (List Tagged)) (poly : List Tagged) (V : List Homogeneous) (b : IsBehind sides o) (q : o ≡ Some poly) (a : AreVertices (solid_of poly) V) (r : Bool)
    (law : (W : List Homogeneous) → AreVertices (solid_of poly) W → IsTrue r ↔ Every (InCube world) W) where
  stands : StandsForAll (all_planes sides) poly
  stands = subst (IsBehind sides) q b

  pub out_of_world_of : r ≡ false → HasCause (half_spaces sides) out_of_world
  out_of_world_of f = out_of_world_cause (half_spaces sides) V (has_inside sides poly stands) (holds_boxed sides poly V stands a) (not_true r (Every (InCube world) V) (law V a) f)

  pub built : (kept : List Side) → r ≡ true → map tagged kept ≡ poly → Built sides kept
  built kept t k =
      let proper = proper_sides sides poly stands in
      let w = within_world (half_spaces sides) V proper (has_inside sides poly stands) (holds_boxed sides poly V stands a) ((law V a).0 t) in
      record { corners = V; within = w; trim = trim_sides sides proper w.within poly kept stands.trim k }
