-- The vertices in the order of their names.
use Rattle.std.proofs.Common.{◌≡◌, ℕ, suc, ◌<◌, ◌≤◌, List, [], ◌∷◌, length, get_or, map, Option, Some, refl, sym, ap, subst, ◌∙◌, arith, inl, inr, ◌⊎◌, ⊎_elim, ℤ, pos, neg_ℤ, ◌<ℤ◌}
use Rattle.std.proofs.lemmas.Int.{ints}
use Rattle.std.proofs.lemmas.List.{length-map}
use Rattle.algebra.specs.Members.{◌∈◌, here, there as further}
use Rattle.algebra.specs.Space.{Homogeneous, HalfSpace, SamePoint, det, side}
use Rattle.algebra.proofs.Identities.{det-swap_12}
use Rattle.algebra.proofs.Orders.{by_sign}
use Rattle.algebra.proofs.Members.{member_at, at_of_member}
use Rattle.algebra.proofs.Points.{same_of_three}
use Rattle.exact_geom.specs.Vertices.{IsReduced}
use Rattle.exact_geom.proofs.Unique.{one_form}
use Rattle.half_arena.specs.declared.ids.FaceId.{FaceId}
use Rattle.half_arena.specs.declared.ids.VertId.{VertId}
use Rattle.solid_laws.specs.Names.{Triple, MeetAt, IsName, NamedBefore, NamesRise, no_points, one_more_point}
use Rattle.vertex_laws.specs.Vertex.{IsVertex}
use Rattle.poly_laws.specs.Links.{Links, HasVertex}
use Rattle.half_poly.specs.declared.links.HalfEdge.{HalfEdge}
use Rattle.half_poly.specs.declared.links.Face.{Face}
use Rattle.half_poly.specs.declared.names.Name.{Name}
use Rattle.half_poly.specs.declared.names.Corner.{Corner}
use Rattle.half_poly.specs.Arenas.{links, nowhere}
use Rattle.half_poly.specs.Shapes.{solid_of, sides_of, IsShape}
use Rattle.half_poly.specs.Places.{AreDistinct, AreWithin, ArePlaces}
use Rattle.half_poly.specs.Names.{no_name, HasNames, AreCorners, NotBefore, InOrder, corner_id, point_at, AreNamed}
use Rattle.half_poly.proofs.ArenaReads.{there, read}
use Rattle.half_poly.proofs.Listed.{source, image, get_map}
use Rattle.half_poly.proofs.Naming.{triple, slot_of, is_name}

-- ---- two points with one name
some_is : {A : Type 0} {x y : A} → Some x ≡ Some y → x ≡ y
some_is {A} {x} {y} q = cc

positive_other : {a b : ℤ} → b ≡ neg_ℤ a → a <ℤ pos 0 → pos 0 <ℤ b
positive_other {a} {b} e h = omega (arith, ints)

pub same_of_independent : (f g h : HalfSpace) (p q : Homogeneous) → ¬ (det f.normal g.normal h.normal ≡ pos 0) →
    side f p ≡ pos 0 → side g p ≡ pos 0 → side h p ≡ pos 0 → side f q ≡ pos 0 → side g q ≡ pos 0 → side h q ≡ pos 0 → SamePoint p q
same_of_independent f g h p q n a b c x y z = by_sign (det f.normal g.normal h.normal)
    (λ l. same_of_three g f h p q (positive_other (det-swap_12 f.normal g.normal h.normal) l) b a c y x z)
    (λ e. absurd (n e))
    (λ l. same_of_three f g h p q l a b c x y z)

pub one_point : (F : List HalfSpace) (t : Triple) (p q : Homogeneous) → MeetAt F t p → MeetAt F t q → SamePoint p q
one_point F t p q m n = same_of_independent m.f m.g m.h p q m.independent m.on_f m.on_g m.on_h
    (on n.f m.f (some_is (sym n.first ∙ m.first)) n.on_f) (on n.g m.g (some_is (sym n.second ∙ m.second)) n.on_g) (on n.h m.h (some_is (sym n.third ∙ m.third)) n.on_h)
  where
    on : (f g : HalfSpace) → f ≡ g → side f q ≡ pos 0 → side g q ≡ pos 0
    on f g e h = subst (λ (k : HalfSpace). side k q ≡ pos 0) e h

strict_plain : (a b d x y z : ℕ) → (a < x) ⊎ ((a ≡ x) × ((b < y) ⊎ ((b ≡ y) × (d ≤ z)))) → ¬ ((a ≡ x) × (b ≡ y) × (d ≡ z)) →
    (a < x) ⊎ ((a ≡ x) × ((b < y) ⊎ ((b ≡ y) × (d < z))))
strict_plain a b d x y z (inl l) n = inl l
strict_plain a b d x y z (inr (e, inl l)) n = inr (e, inl l)
strict_plain a b d x y z (inr (e, inr (f, l))) n = inr (e, inr (f, ⊎_elim (λ k. k) (λ k. absurd (n (e, f, k))) (less_or_same d z l)))
  where
    less_or_same : (d z : ℕ) → d ≤ z → (d < z) ⊎ (d ≡ z)
    less_or_same d z l = grind arith

triple_is : (n m : Name) → n.first ≡ m.first → n.second ≡ m.second → n.third ≡ m.third → triple n ≡ triple m
triple_is n m q r s = rw (q, r, s) refl

module _ {V : ℕ → Option Homogeneous} {E : ℕ → Option HalfEdge} {Fc : ℕ → Option Face} {order : List FaceId} (sh : IsShape V E Fc order) where
  abbrev L : Links
  L = links V E Fc

  abbrev F : List HalfSpace
  F = solid_of (sides_of Fc order)

  pub order_within : (limit : ℕ) → ((k : ℕ) (f : Face) → Fc k ≡ Some f → k < limit) → AreWithin (map slot_of order) limit
  order_within limit within i l =
      let k : i < length order = subst (λ n. i < n) (length-map order slot_of) l in
      let x = there (Fc (get_or order i (record { 0 = 0 })).0) (sh.listed (get_or order i (record { 0 = 0 })) (member_at order i (record { 0 = 0 }) k)) in
      subst (λ n. n < limit) (sym (get_map slot_of order i (record { 0 = 0 }) 0 k)) (within (get_or order i (record { 0 = 0 })).0 x.it x.is)

  module _ (numbers : List ℕ) (placed : ArePlaces (map slot_of order) numbers (length order)) (names : List Name) (has : HasNames E numbers (length order) names) (long : (x : ℕ) (v : Homogeneous) → V x ≡ Some v → x < length names) where
    pub named_vertex : (x : ℕ) → HasVertex L x → IsName F (L.point x) (triple (get_or names x no_name))
    named_vertex x h = let v = there (V x) h in is_name sh numbers placed x (get_or names x no_name) has.limit h has.within (has.names_below x (long x v.it v.is))

    abbrev at : Corner → Homogeneous
    at c = point_at V (corner_id c)

    points : (cs : List Corner) → List Homogeneous
    points cs = map (point_at V) (map corner_id cs)

    record IsGood (c : Corner) : Type 0 where
      live : HasVertex L c.slot
      named : c.name ≡ get_or names c.slot no_name

    name_of : (c : Corner) → IsGood c → IsName F (at c) (triple c.name)
    name_of c g = subst (λ n. IsName F (at c) (triple n)) (sym g.named) (named_vertex c.slot g.live)

    -- a corner after another comes later
    before : (c d : Corner) → IsGood c → IsGood d → ¬ (c.slot ≡ d.slot) → NotBefore c.name d.name → NamedBefore F (at c) (at d)
    before c d g h n o = record {
      p_name = triple c.name;
      q_name = triple d.name;
      named_p = name_of c g;
      named_q = name_of d h;
      earlier = strict_plain c.name.first c.name.second c.name.third d.name.first d.name.second d.name.third o (λ q.
          n (sh.stands.vertex_once c.slot d.slot g.live h.live (one_point F (triple d.name) (at c) (at d) (subst (λ t. MeetAt F t (at c)) (triple_is c.name d.name q.0 q.1 q.2) (name_of c g).meet) (name_of d h).meet)));
    }

    rise : (cs : List Corner) → ((c : Corner) → c ∈ cs → IsGood c) → InOrder cs → AreDistinct (map (λ (c : Corner). c.slot) cs) → NamesRise F (map (point_at V) (map corner_id cs))
    rise [] good o d = no_points
    rise (c ∷ cs) good o d = one_more_point
        (λ p m.
        let a = source (point_at V) (map corner_id cs) p m in
        let b = source corner_id cs a.it a.among in
        let i = at_of_member cs b.it c b.among in
        let w : i.index < length cs = i.within in
        subst (λ q. NamedBefore F (at c) q) (ap (point_at V) b.is ∙ a.is)
        (before c b.it (good c here) (good b.it (further b.among))
        (λ q. d 0 (suc i.index) (omega arith) (let e = length-map cs (λ (x : Corner). x.slot) in omega arith) (q ∙ ap (λ (x : Corner). x.slot) (sym i.is) ∙ sym (get_map (λ (x : Corner). x.slot) cs i.index c 0 w)))
        (subst (λ (x : Corner). NotBefore c.name x.name) i.is (o 0 (suc i.index) c (omega arith) (omega arith)))))
        (rise cs (λ x m. good x (further m)) (λ i j x l m. o (suc i) (suc j) x (omega arith) (omega arith)) (λ i j l m. d (suc i) (suc j) (omega arith) (omega arith)))

    pub are_named : (cs : List Corner) → AreCorners V names (length names) cs → ((x : ℕ) (v : Homogeneous) → x < length names → V x ≡ Some v → IsReduced v) → InOrder cs → AreNamed V F (map corner_id cs)
    are_named cs a reduced o = record {
      live = λ id m. let c = source corner_id cs id m in subst (λ (i : VertId). IsSomeAt i) c.is (a.live c.it c.among);
      are_vertices = record {
        each = each;
        all = all;
        order = rise cs (λ c m. record { live = a.live c m; named = a.named c m }) o a.once;
      };
    }
      where
        IsSomeAt : VertId → Type 0
        IsSomeAt i = HasVertex L i.0

        reduced_at : (c : Corner) → c ∈ cs → IsReduced (at c)
        reduced_at c m = let v = there (V c.slot) (a.live c m) in subst IsReduced (sym (read (λ (y : Homogeneous). y) nowhere v.is)) (reduced c.slot v.it (a.below c m) v.is)

        each : (p : Homogeneous) → p ∈ map (point_at V) (map corner_id cs) → IsVertex F p × IsReduced p
        each p m =
            let b = source (point_at V) (map corner_id cs) p m in
            let c = source corner_id cs b.it b.among in
            let q : at c.it ≡ p = ap (point_at V) c.is ∙ b.is in
            (subst (IsVertex F) q (sh.stands.vertex c.it.slot (a.live c.it c.among)), subst IsReduced q (reduced_at c.it c.among))

        all : (p : Homogeneous) → IsVertex F p → IsReduced p → p ∈ map (point_at V) (map corner_id cs)
        all p u r =
            let s = sh.stands.vertex_all p u in
            let v = there (V s.slot) s.live in
            let c = a.all s.slot v.it (long s.slot v.it v.is) v.is in
            let q : at c.0 ≡ L.point s.slot = ap (λ k. L.point k) c.2 in
            let e : p ≡ at c.0 = one_form p (at c.0) u.inside.weight (sh.stands.vertex c.0.slot (a.live c.0 c.1)).inside.weight r (reduced_at c.0 c.1) (subst (λ x. SamePoint p x) (sym q) s.same) in
            subst (λ x. x ∈ map (point_at V) (map corner_id cs)) (sym e) (image (point_at V) (map corner_id cs) (corner_id c.0) (image corner_id cs c.0 c.1))

-- ---- what was read through slices
pub named_of : {V : ℕ → Option Homogeneous} {E : ℕ → Option HalfEdge} {Fc : ℕ → Option Face} {order : List FaceId} (sh : IsShape V E Fc order) (numbers numbers_read : List ℕ) (names names_read : List Name) (limit : ℕ) (corners corners_read : List Corner) (ids : List VertId) →
    numbers_read ≡ numbers → names_read ≡ names → corners_read ≡ corners → ArePlaces (map slot_of order) numbers (length order) → HasNames E numbers_read (length order) names → length names ≡ limit →
    ((x : ℕ) (v : Homogeneous) → V x ≡ Some v → x < limit) → AreCorners V names_read (length names_read) corners → ((x : ℕ) (v : Homogeneous) → x < length names_read → V x ≡ Some v → IsReduced v) → InOrder corners →
    ids ≡ map corner_id corners_read → AreNamed V (solid_of (sides_of Fc order)) ids
named_of {V} {E} {Fc} {order} sh numbers numbers_read names names_read limit corners corners_read ids q r s placed has m within are reduced o e =
    subst (λ l. AreNamed V (solid_of (sides_of Fc order)) l) (sym (e ∙ ap (map corner_id) s))
    (are_named sh numbers placed names (subst (λ n. HasNames E n (length order) names) q has) (λ x v i. subst (λ k. x < k) (sym m) (within x v i)) corners
    (subst (λ n. AreCorners V n (length n) corners) r are) (subst (λ (n : List Name). (x : ℕ) (v : Homogeneous) → x < length n → V x ≡ Some v → IsReduced v) r reduced) o)
