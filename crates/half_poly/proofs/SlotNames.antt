-- The names of the vertices, by their slots.
use Rattle.std.proofs.Common.{◌≡◌, ℕ, ◌<◌, List, length, get_or, map, Option, Some, Result, Ok, Err, IfOk, sym, subst}
use Rattle.algebra.specs.Space.{Homogeneous}
use Rattle.solid_laws.specs.Names.{MeetAt}
use Rattle.half_poly.specs.declared.links.HalfEdge.{HalfEdge}
use Rattle.half_poly.specs.declared.links.Face.{Face}
use Rattle.half_poly.specs.declared.names.Name.{Name}
use Rattle.half_arena.specs.declared.ids.FaceId.{FaceId}
use Rattle.half_poly.specs.Arenas.{nowhere}
use Rattle.half_poly.specs.Shapes.{solid_of, sides_of, IsShape}
use Rattle.half_poly.specs.Places.{ArePlaces}
use Rattle.half_poly.specs.Names.{no_name, HasNames}
use Rattle.half_poly.specs.Moving.{triple_of, AreSlotNames}
use Rattle.half_poly.proofs.ArenaReads.{read, live_is}
use Rattle.half_poly.proofs.Naming.{slot_of}
use Rattle.half_poly.proofs.Named.{named_vertex}

pub slot_names : {V : ℕ → Option Homogeneous} {E : ℕ → Option HalfEdge} {Fc : ℕ → Option Face} {order : List FaceId} (sh : IsShape V E Fc order) (numbers read_numbers : List ℕ) (names : List Name) (limit : ℕ) →
    read_numbers ≡ numbers → ArePlaces (map slot_of order) numbers (length order) → HasNames E read_numbers (length order) names → length names ≡ limit → ((x : ℕ) (v : Homogeneous) → V x ≡ Some v → x < limit) →
    AreSlotNames V (solid_of (sides_of Fc order)) names
slot_names {V} {E} {Fc} {order} sh numbers read_numbers names limit r placed has long within x v q =
    let n = named_vertex sh numbers placed names (subst (λ l. HasNames E l (length order) names) r has) (λ y u e. subst (λ k. y < k) (sym long) (within y u e)) x (live_is q) in
    subst (λ p. MeetAt (solid_of (sides_of Fc order)) (triple_of (get_or names x no_name)) p) (read (λ (u : Homogeneous). u) nowhere q) n.meet

pub if_both : {A E : Type 0} (P Q R : A → Type 0) → ((a : A) → P a → Q a → R a) → (r : Result A E) → IfOk r P → IfOk r Q → IfOk r R
if_both P Q R f (Ok a) p q = f a p q
if_both P Q R f (Err e) p q = p
