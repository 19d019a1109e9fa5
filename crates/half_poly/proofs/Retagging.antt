-- A polyhedron whose tags change in place.
use Rattle.std.proofs.Common.{◌≡◌, ℕ, ◌+◌, ◌^◌, ◌<◌, ◌≤◌, Bool, true, false, cond, nat_lt, List, [], ◌∷◌, map, Option, Some, None, IsSome, is_some, refl, sym, ap, subst, ◌∙◌, arith, inl, inr, ◌⊎◌}
use Rattle.std.specs.Option.{option_map, option_map_or}
use Rattle.std.proofs.lemmas.Bool.Decides.{nat_tests}
use Rattle.algebra.specs.Members.{◌∈◌, here, there as further, Every}
use Rattle.algebra.specs.Space.{Homogeneous}
use Rattle.exact_geom.specs.Planes.{half_space}
use Rattle.half_arena.specs.declared.ids.EdgeId.{EdgeId}
use Rattle.half_arena.specs.declared.ids.FaceId.{FaceId}
use Rattle.half_poly.specs.declared.links.HalfEdge.{HalfEdge}
use Rattle.half_poly.specs.declared.links.Face.{Face}
use Rattle.half_poly.specs.Arenas.{links, no_plane}
use Rattle.half_poly.specs.Shapes.{Tagged, bounds, solid_of, side_at, sides_of, IsShape, DistinctTags, no_sides, one_more_side}
use Rattle.half_poly.specs.Tags.{with_base, retagged}
use Rattle.half_poly.proofs.ArenaReads.{there}
use Rattle.half_poly.proofs.Making.{is_some_of}
use Rattle.half_poly.proofs.Listed.{image}
use Rattle.half_poly.proofs.Shaping.{side_is}
use Rattle.half_arena.specs.Slots.{put}
use Rattle.half_arena.proofs.SlotLaws.{put-same, put-other}

-- ---- one face
bool_cases : (b : Bool) → (b ≡ true) ⊎ (b ≡ false)
bool_cases true = inl refl
bool_cases false = inr refl

plane_stays : (base : ℕ) (f : Face) → (retagged base f).plane ≡ f.plane
plane_stays base f = by (bool_cases (nat_lt f.tag (2 ^ 31)))
  where
    by : (nat_lt f.tag (2 ^ 31) ≡ true) ⊎ (nat_lt f.tag (2 ^ 31) ≡ false) → (retagged base f).plane ≡ f.plane
    by (inl t) = rw t refl
    by (inr t) = rw t refl

first_stays : (base : ℕ) (f : Face) → (retagged base f).first ≡ f.first
first_stays base f = by (bool_cases (nat_lt f.tag (2 ^ 31)))
  where
    by : (nat_lt f.tag (2 ^ 31) ≡ true) ⊎ (nat_lt f.tag (2 ^ 31) ≡ false) → (retagged base f).first ≡ f.first
    by (inl t) = rw t refl
    by (inr t) = rw t refl

side_of : Face → Tagged
side_of f = record { plane = f.plane; tag = f.tag }

side_moves : (base : ℕ) (f : Face) → side_of (retagged base f) ≡ with_base base (side_of f)
unfolding side_of
side_moves base f = by (bool_cases (nat_lt f.tag (2 ^ 31)))
  where
    by : (nat_lt f.tag (2 ^ 31) ≡ true) ⊎ (nat_lt f.tag (2 ^ 31) ≡ false) → side_of (retagged base f) ≡ with_base base (side_of f)
    by (inl t) = rw t refl
    by (inr t) = rw t refl

bounds_stay : (base : ℕ) (s : Tagged) → bounds (with_base base s) ≡ bounds s
bounds_stay base s = by (bool_cases (nat_lt s.tag (2 ^ 31)))
  where
    by : (nat_lt s.tag (2 ^ 31) ≡ true) ⊎ (nat_lt s.tag (2 ^ 31) ≡ false) → bounds (with_base base s) ≡ bounds s
    by (inl t) = rw t refl
    by (inr t) = rw t refl

pub solid_stays : (base : ℕ) (sides : List Tagged) → solid_of (map (with_base base) sides) ≡ solid_of sides
solid_stays base [] = refl
solid_stays base (s ∷ sides) = ap (λ f. f ∷ solid_of (map (with_base base) sides)) (bounds_stay base s) ∙ ap (λ fs. bounds s ∷ fs) (solid_stays base sides)

-- ---- tags that stay distinct
tag_plain : (a b x y base : ℕ) (p q : Bool) → p ≡ nat_lt a (2 ^ 31) → q ≡ nat_lt b (2 ^ 31) → (a < 2 ^ 31 → a + base < 2 ^ 31) → (b < 2 ^ 31 → b + base < 2 ^ 31) → x ≡ cond p (a + base) a → y ≡ cond q (b + base) b → ¬ (a ≡ b) → ¬ (x ≡ y)
tag_plain a b x y base true true e f h k i j n = λ z. n (omega arith)
tag_plain a b x y base true false e f h k i j n = λ z. let l : a < 2 ^ 31 = grind (arith, nat_tests) in let m : 2 ^ 31 ≤ b = grind (arith, nat_tests) in let o = h l in omega arith
tag_plain a b x y base false true e f h k i j n = λ z. let l : b < 2 ^ 31 = grind (arith, nat_tests) in let m : 2 ^ 31 ≤ a = grind (arith, nat_tests) in let o = k l in omega arith
tag_plain a b x y base false false e f h k i j n = λ z. n (omega arith)

tag_is : (base : ℕ) (s : Tagged) → (with_base base s).tag ≡ cond (nat_lt s.tag (2 ^ 31)) (s.tag + base) s.tag
tag_is base s = by (bool_cases (nat_lt s.tag (2 ^ 31)))
  where
    by : (nat_lt s.tag (2 ^ 31) ≡ true) ⊎ (nat_lt s.tag (2 ^ 31) ≡ false) → (with_base base s).tag ≡ cond (nat_lt s.tag (2 ^ 31)) (s.tag + base) s.tag
    by (inl t) = rw t refl
    by (inr t) = rw t refl

abbrev pub Room : ℕ → Tagged → Type 0
Room base s = s.tag < 2 ^ 31 → s.tag + base < 2 ^ 31

apart_still : (base : ℕ) (s : Tagged) (sides : List Tagged) → Room base s → Every (Room base) sides → Every (λ t. ¬ (s.tag ≡ t.tag)) sides → Every (λ t. ¬ ((with_base base s).tag ≡ t.tag)) (map (with_base base) sides)
apart_still base s [] r all n t m = elim m [ ]
apart_still base s (x ∷ sides) r all n t here = tag_plain s.tag x.tag (with_base base s).tag (with_base base x).tag base (nat_lt s.tag (2 ^ 31)) (nat_lt x.tag (2 ^ 31)) refl refl r (all x here) (tag_is base s) (tag_is base x) (n x here)
apart_still base s (x ∷ sides) r all n t (further m) = apart_still base s sides r (λ y i. all y (further i)) (λ y i. n y (further i)) t m

pub distinct_still : (base : ℕ) (sides : List Tagged) → Every (Room base) sides → DistinctTags sides → DistinctTags (map (with_base base) sides)
distinct_still base [] all no_sides = no_sides
distinct_still base (s ∷ sides) all (one_more_side apart others) = one_more_side (apart_still base s sides (all s here) (λ y i. all y (further i)) apart) (distinct_still base sides (λ y i. all y (further i)) others)

-- ---- the arenas
module _ (base : ℕ) (Fc new : ℕ → Option Face) (passed : (k : ℕ) → new k ≡ option_map (retagged base) (Fc k)) where
  live_stays : (k : ℕ) → is_some (new k) ≡ is_some (Fc k)
  live_stays k = ap is_some (passed k) ∙ by (Fc k)
    where
      by : (f : Option Face) → is_some (option_map (retagged base) f) ≡ is_some f
      by None = refl
      by (Some f) = refl

  read_stays : {A : Type 0} (g : Face → A) (d : A) → ((f : Face) → g (retagged base f) ≡ g f) → (k : ℕ) → option_map_or g (new k) d ≡ option_map_or g (Fc k) d
  read_stays {A} g d same k = ap (λ f. option_map_or g f d) (passed k) ∙ by (Fc k)
    where
      by : (f : Option Face) → option_map_or g (option_map (retagged base) f) d ≡ option_map_or g f d
      by None = refl
      by (Some f) = same f

  links_stay : (V : ℕ → Option Homogeneous) (E : ℕ → Option HalfEdge) → links V E new ≡ links V E Fc
  links_stay V E = λ i. record {
    has_vertex = (links V E Fc).has_vertex;
    has_edge = (links V E Fc).has_edge;
    has_face = λ k. live_stays k i;
    point = (links V E Fc).point;
    plane = λ k. read_stays (λ (f : Face). half_space f.plane) no_plane (λ f. ap half_space (plane_stays base f)) k i;
    first = λ k. read_stays (λ (f : Face). f.first.0) 0 (λ f. ap (λ (e : EdgeId). e.0) (first_stays base f)) k i;
    origin = (links V E Fc).origin;
    face = (links V E Fc).face;
    twin = (links V E Fc).twin;
    next = (links V E Fc).next;
  }

  listed_stays : (id : FaceId) → IsSome (Fc id.0) → IsSome (new id.0)
  listed_stays id h = subst (λ b. b ≡ true) (sym (live_stays id.0)) h

  one_side : (id : FaceId) → IsSome (Fc id.0) → side_at new id ≡ with_base base (side_at Fc id)
  unfolding side_of
  one_side id h =
      let x = there (Fc id.0) h in
      side_is new id (retagged base x.it) (passed id.0 ∙ ap (option_map (retagged base)) x.is) ∙ side_moves base x.it ∙ ap (with_base base) (sym (side_is Fc id x.it x.is))

  pub sides_move : (order : List FaceId) → ((id : FaceId) → id ∈ order → IsSome (Fc id.0)) → sides_of new order ≡ map (with_base base) (sides_of Fc order)
  sides_move [] h = refl
  sides_move (id ∷ order) h = ap (λ s. s ∷ sides_of new order) (one_side id (h id here)) ∙ ap (λ l. with_base base (side_at Fc id) ∷ l) (sides_move order (λ x m. h x (further m)))

  pub shape_stays : {V : ℕ → Option Homogeneous} {E : ℕ → Option HalfEdge} (order : List FaceId) → IsShape V E Fc order → IsShape V E new order
  shape_stays {V} {E} order sh = record {
    listed = λ id m. listed_stays id (sh.listed id m);
    neat = rw solid sh.neat;
    trimmed = rw solid sh.trimmed;
    volume = rw solid sh.volume;
    stands = rw (solid, links_stay V E) sh.stands;
  }
    where
      solid : solid_of (sides_of new order) ≡ solid_of (sides_of Fc order)
      solid = ap solid_of (sides_move order sh.listed) ∙ solid_stays base (sides_of Fc order)

-- ---- one slot
module _ (base : ℕ) (now after : ℕ → Option Face) (place slot : ℕ) (f v : Face) (i : slot ≡ place) (e : now place ≡ Some f) (q : v ≡ retagged base f) (changes : IsSome (now slot) → after ≡ put now slot (Some v)) where
  changed : after ≡ put now slot (Some v)
  changed = changes (is_some_of (ap now i ∙ e))

  pub retag_here : after place ≡ option_map (retagged base) (now place)
  retag_here = ap after (sym i) ∙ ap (λ m. m slot) changed ∙ put-same now slot (Some v) ∙ ap (λ (x : Face). Some x) q ∙ ap (option_map (retagged base)) (sym e)

  pub retag_others : (k : ℕ) → ¬ (k ≡ place) → after k ≡ now k
  retag_others k n = ap (λ m. m k) changed ∙ put-other now slot (Some v) k (λ z. n (z ∙ i))

-- ---- the whole
pub room_of : (base : ℕ) (Fc : ℕ → Option Face) (order : List FaceId) (sides : List Tagged) → sides_of Fc order ≡ sides → Every (Room base) sides → (id : FaceId) (f : Face) → id ∈ order → Fc id.0 ≡ Some f → f.tag < 2 ^ 31 → f.tag + base < 2 ^ 31
room_of base Fc order sides view room id f m q =
    let r = room (side_at Fc id) (subst (λ l. side_at Fc id ∈ l) view (image (side_at Fc) order id m)) in
    subst (λ (s : Tagged). Room base s) (side_is Fc id f q) r
