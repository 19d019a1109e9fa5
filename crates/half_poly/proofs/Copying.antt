-- A polyhedron over equal arenas, and over arenas with other tags.
use Rattle.std.proofs.Common.{◌≡◌, ℕ, ◌+◌, ◌^◌, ◌<◌, List, map, Option, Some, refl, sym, ap, subst, ◌∙◌}
use Rattle.std.specs.Option.{option_map}
use Rattle.algebra.specs.Members.{Every}
use Rattle.algebra.specs.Space.{Homogeneous}
use Rattle.algebra.proofs.Members.{member_at}
use Rattle.half_arena.specs.Slots.{Slots, contents, slot_at}
use Rattle.half_arena.specs.declared.ids.FaceId.{FaceId}
use Rattle.half_arena.specs.declared.ids.VertId.{VertId}
use Rattle.half_poly.specs.declared.links.HalfEdge.{HalfEdge}
use Rattle.half_poly.specs.declared.links.Face.{Face}
use Rattle.half_poly.specs.declared.shape.Shape.{Shape}
use Rattle.half_poly.specs.Shapes.{Tagged, solid_of, sides_of, IsShape, DistinctTags}
use Rattle.half_poly.specs.Names.{point_at, AreNamed}
use Rattle.half_poly.specs.Rounds.{AreLoops}
use Rattle.half_poly.specs.Readings.{points_of, IsSameShape, IsPoly}
use Rattle.half_poly.specs.Tags.{with_base, retagged}
use Rattle.half_poly.proofs.Making.{is_some_of}
use Rattle.half_poly.proofs.Naming.{number_of, id_at, no_face}
use Rattle.half_poly.proofs.Retagging.{Room, room_of, sides_move, shape_stays, solid_stays, distinct_still}

-- ---- equal arenas
named_at : (v u : List (Option Homogeneous)) (f g : List (Option Face)) (o p : List FaceId) (ids more : List VertId) → u ≡ v → g ≡ f → p ≡ o → more ≡ ids →
    AreNamed (slot_at v) (solid_of (sides_of (slot_at f) o)) ids → AreNamed (slot_at u) (solid_of (sides_of (slot_at g) p)) more
named_at v u f g o p ids more q r s t h = rw (q, r, s, t) h

loops_at : (v u : List (Option Homogeneous)) (f g : List (Option Face)) (o p : List FaceId) (ids more : List VertId) (l m : List (List ℕ)) → u ≡ v → g ≡ f → p ≡ o → more ≡ ids → m ≡ l →
    AreLoops (solid_of (sides_of (slot_at f) o)) (map (point_at (slot_at v)) ids) l → AreLoops (solid_of (sides_of (slot_at g) p)) (map (point_at (slot_at u)) more) m
loops_at v u f g o p ids more l m q r s t w h = rw (q, r, s, t, w) h

shape_at : (v u : List (Option Homogeneous)) (e d : List (Option HalfEdge)) (f g : List (Option Face)) (o p : List FaceId) → u ≡ v → d ≡ e → g ≡ f → p ≡ o →
    IsShape (slot_at v) (slot_at e) (slot_at f) o → IsShape (slot_at u) (slot_at d) (slot_at g) p
shape_at v u e d f g o p q r s t h = rw (q, r, s, t) h

sides_at : (f g : List (Option Face)) (o p : List FaceId) → g ≡ f → p ≡ o → sides_of (slot_at g) p ≡ sides_of (slot_at f) o
sides_at f g o p q r = rw (q, r) refl

pub copied_poly : (old new : Shape) (ids more : List VertId) (l m : List (List ℕ)) → IsSameShape old new → more ≡ ids → m ≡ l → IsPoly old ids l → IsPoly new more m
copied_poly old new ids more l m s q r p = record {
  stands = shape_at old.vertices.slots new.vertices.slots old.edges.slots new.edges.slots old.faces.slots new.faces.slots old.order.items new.order.items s.vertices s.edges s.faces s.order p.stands;
  tags = subst DistinctTags (sym (sides_at old.faces.slots new.faces.slots old.order.items new.order.items s.faces s.order)) p.tags;
  are_named = named_at old.vertices.slots new.vertices.slots old.faces.slots new.faces.slots old.order.items new.order.items ids more s.vertices s.faces s.order q p.are_named;
  are_loops = loops_at old.vertices.slots new.vertices.slots old.faces.slots new.faces.slots old.order.items new.order.items ids more l m s.vertices s.faces s.order q r p.are_loops;
}

pub copied_sides : (old new : Shape) → IsSameShape old new → sides_of (contents new.faces) new.order.items ≡ sides_of (contents old.faces) old.order.items
copied_sides old new s = sides_at old.faces.slots new.faces.slots old.order.items new.order.items s.faces s.order

-- ---- other tags
module _ {shape : Shape} {ids : List VertId} {l : List (List ℕ)} (p : IsPoly shape ids l) (base : ℕ) (now : List Tagged) (view : sides_of (contents shape.faces) shape.order.items ≡ now) (room : Every (λ (s : Tagged). s.tag < 2 ^ 31 → s.tag + base < 2 ^ 31) now) where
  pub room_all : (k : ℕ) (f : Face) → contents shape.faces k ≡ Some f → f.tag < 2 ^ 31 → f.tag + base < 2 ^ 31
  room_all k f q =
      let n = number_of p.stands k (is_some_of q) in
      room_of base (contents shape.faces) shape.order.items now view room (id_at p.stands n.number) f (member_at shape.order.items n.number no_face n.within) (ap (contents shape.faces) n.slot ∙ q)

  module _ (faces : Slots Face) (passed : (k : ℕ) → contents faces k ≡ option_map (retagged base) (contents shape.faces k)) where
    moved : sides_of (contents faces) shape.order.items ≡ map (with_base base) (sides_of (contents shape.faces) shape.order.items)
    moved = sides_move base (contents shape.faces) (contents faces) passed shape.order.items p.stands.listed

    solid : solid_of (sides_of (contents faces) shape.order.items) ≡ solid_of (sides_of (contents shape.faces) shape.order.items)
    solid = ap solid_of moved ∙ solid_stays base (sides_of (contents shape.faces) shape.order.items)

    pub retagged_sides : sides_of (contents faces) shape.order.items ≡ map (with_base base) now
    retagged_sides = moved ∙ ap (map (with_base base)) view

    pub retagged_poly : IsPoly (record shape { faces = faces }) ids l
    retagged_poly = record {
      stands = shape_stays base (contents shape.faces) (contents faces) passed shape.order.items p.stands;
      tags = subst DistinctTags (sym moved) (distinct_still base (sides_of (contents shape.faces) shape.order.items) (subst (λ s. Every (Room base) s) (sym view) room) p.tags);
      are_named = subst (λ F. AreNamed (contents shape.vertices) F ids) (sym solid) p.are_named;
      are_loops = subst (λ F. AreLoops F (points_of shape ids) l) (sym solid) p.are_loops;
    }
