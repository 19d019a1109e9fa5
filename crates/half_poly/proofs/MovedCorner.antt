-- Where the three faces of a name meet.
use Rattle.std.proofs.Common.{◌≡◌, ◌↔◌, ℕ, List, Option, None, Some, IsNone, IfSome, slice_get, rules, arith, sym, ap, subst, ◌∙◌, pos}
use Rattle.std.specs.Option.{option_map, option_and_then}
use Rattle.std.proofs.lemmas.Int.{ints}
use Rattle.algebra.specs.Space.{Homogeneous, det, side}
use Rattle.exact_geom.specs.Planes.{ThreePoints, half_space}
use Rattle.exact_geom.specs.Vertices.{IsVertexOf}
use Rattle.exact_geom.proofs.Unique.{one_form}
use Rattle.half_arena.specs.declared.ids.FaceId.{FaceId}
use Rattle.half_poly.specs.declared.links.Face.{Face}
use Rattle.half_poly.specs.declared.names.Name.{Name}
use Rattle.half_poly.specs.Moving.{plane_at, IsCornerOf}
use Rattle.half_poly.proofs.Named.{same_of_independent}

some_is : {A : Type 0} {x y : A} → Some x ≡ Some y → x ≡ y
some_is {A} {x} {y} q = cc

pub plane_read : (faces : ℕ → Option Face) (order : List FaceId) (k : ℕ) (f : Option Face) (o : Option ThreePoints) (t : ThreePoints) → f ≡ option_and_then (λ id. faces id.0) (slice_get order k) → o ≡ option_map (λ g. g.plane) f → o ≡ Some t →
    plane_at faces order k ≡ Some t
plane_read faces order k f o t p q e = sym (q ∙ ap (option_map (λ (g : Face). g.plane)) p) ∙ e

on : (f g : ThreePoints) (p : Homogeneous) → f ≡ g → side (half_space f) p ≡ pos 0 → side (half_space g) p ≡ pos 0
on f g p e z = subst (λ t. side (half_space t) p ≡ pos 0) e z

pub at_corner : (faces : ℕ → Option Face) (order : List FaceId) (name : Name) (p : Homogeneous) (a b c : ThreePoints) (o : Option Homogeneous) → IsCornerOf faces order name p →
    plane_at faces order name.first ≡ Some a → plane_at faces order name.second ≡ Some b → plane_at faces order name.third ≡ Some c →
    IsNone o ↔ (det (half_space a).normal (half_space b).normal (half_space c).normal ≡ pos 0) → IfSome o (IsVertexOf a b c) → o ≡ Some p
at_corner faces order name p a b c o k l m n none some = by o none some
  where
    first : k.f ≡ a
    first = some_is (sym k.first ∙ l)

    second : k.g ≡ b
    second = some_is (sym k.second ∙ m)

    third : k.h ≡ c
    third = some_is (sym k.third ∙ n)

    flat : det (half_space a).normal (half_space b).normal (half_space c).normal ≡ pos 0 → det (half_space k.f).normal (half_space k.g).normal (half_space k.h).normal ≡ pos 0
    flat z = (λ i. det (half_space (first i)).normal (half_space (second i)).normal (half_space (third i)).normal) ∙ z

    by : (o : Option Homogeneous) → IsNone o ↔ (det (half_space a).normal (half_space b).normal (half_space c).normal ≡ pos 0) → IfSome o (IsVertexOf a b c) → o ≡ Some p
    by None none some = absurd (k.independent (flat (none.0 (search rules))))
    by (Some q) none some = ap (λ (x : Homogeneous). Some x) (one_form q p (let w = some.vertex.positive in omega (arith, ints)) k.weight some.vertex.reduced k.reduced
        (same_of_independent (half_space k.f) (half_space k.g) (half_space k.h) q p k.independent
        (on a k.f q (sym first) some.on_first) (on b k.g q (sym second) some.on_second) (on c k.h q (sym third) some.on_third) k.on_f k.on_g k.on_h))
