-- The slots of vertices that are moved, one by one.
use Rattle.std.proofs.Common.{◌≡◌, ◌≢◌, ◌↔◌, ℕ, ◌+◌, ◌<◌, ◌≤◌, Bool, true, false, IsTrue, List, get_or, Option, Some, None, IsSome, refl, sym, ap, subst, ◌∙◌, arith, ⊎_elim}
use Rattle.std.proofs.lemmas.Bool.{cases_eq, cases_lt, false≢true}
use Rattle.algebra.specs.Space.{Homogeneous}
use Rattle.algebra.specs.World.{InCube, world}
use Rattle.exact_geom.specs.Vertices.{IsReduced}
use Rattle.half_arena.specs.Slots.{put}
use Rattle.half_arena.specs.declared.ids.FaceId.{FaceId}
use Rattle.orient48.specs.Motions.{Motion, moved_at}
use Rattle.half_poly.specs.declared.links.Face.{Face}
use Rattle.half_poly.specs.declared.names.Name.{Name}
use Rattle.half_poly.specs.Names.{no_name}
use Rattle.half_poly.specs.Moving.{IsCornerOf, CanMove, IsMovedSlot, MovedBelow, SomeLeaves}
use Rattle.half_poly.proofs.ChangedSlot.{holds}

some_is : {A : Type 0} {x y : A} → Some x ≡ Some y → x ≡ y
some_is {A} {x} {y} q = cc

-- ---- one slot
pub slot_moved : (r : Motion) (faces : ℕ → Option Face) (order : List FaceId) (names : List Name) (now after : ℕ → Option Homogeneous) (place slot : ℕ) (v u : Homogeneous) (name : Name) (o : Option Homogeneous) (inside : Bool) →
    slot ≡ place → now place ≡ Some v → IsReduced v → name ≡ get_or names place no_name → ((p : Homogeneous) → IsCornerOf faces order name p → o ≡ Some p) → o ≡ Some u → (IsSome (now slot) → after ≡ put now slot (Some u)) →
    IsTrue inside ↔ InCube world u → CanMove r faces order names now place → IsMovedSlot r (now place) (after place) inside
slot_moved r faces order names now after place slot v u name o inside i e reduced n corner q changes law can =
    let k = subst (λ m. IsCornerOf faces order m (moved_at r v)) (sym n) (can v e reduced) in
    let same : u ≡ moved_at r v = some_is (sym q ∙ corner (moved_at r v) k) in
    subst (λ x. IsMovedSlot r x (after place) inside) (sym e)
    (holds now after place slot v u i e changes ∙ ap (λ (p : Homogeneous). Some p) same, subst (λ p. IsTrue inside ↔ InCube world p) same law)

-- ---- one more slot
leaves_at : (r : Motion) (before : ℕ → Option Homogeneous) (place : ℕ) (o n : Option Homogeneous) (b : Bool) → b ≡ false → o ≡ before place → IsMovedSlot r o n b → SomeLeaves r before
leaves_at r before place None n b f e m = absurd (false≢true (sym f ∙ m.1))
leaves_at r before place (Some v) n b f e m = record { slot = place; vertex = v; there = sym e; outside = λ i. false≢true (sym f ∙ m.1.1 i) }

none_moved : (r : Motion) (o n : Option Homogeneous) → n ≡ o → ¬ (IsSome o) → IsMovedSlot r o n true
none_moved r None n e d = (e, refl)
none_moved r (Some v) n e d = absurd (d refl)

module _ (r : Motion) (before now after : ℕ → Option Homogeneous) (place : ℕ) (b : Bool) (m : MovedBelow r before now place) where
  here_now : now place ≡ before place
  here_now = m.stays place (omega arith)

  pub can_now : (faces : ℕ → Option Face) (order : List FaceId) (names : List Name) → CanMove r faces order names before place → CanMove r faces order names now place
  can_now faces order names can v q = can v (sym here_now ∙ q)

  pub some_leaves : b ≡ false → IsMovedSlot r (now place) (after place) b → SomeLeaves r before
  some_leaves f h = leaves_at r before place (now place) (after place) b f here_now h

  pub moved_more : b ≡ true → IsMovedSlot r (now place) (after place) b → ((x : ℕ) → x ≢ place → after x ≡ now x) → MovedBelow r before after (place + 1)
  moved_more t h others = record {
    done = λ x l. ⊎_elim (λ (e : x ≡ place). subst (λ y. IsMovedSlot r (before y) (after y) true) (sym e) here) (λ (d : ¬ (x ≡ place)). subst (λ o. IsMovedSlot r (before x) o true) (sym (others x d)) (m.done x (grind arith))) (cases_eq x place);
    stays = λ x l. others x (λ e. absurd (omega arith)) ∙ m.stays x (omega arith);
  }
    where
      here : IsMovedSlot r (before place) (after place) true
      here = subst (λ o. IsMovedSlot r o (after place) true) here_now (subst (λ c. IsMovedSlot r (now place) (after place) c) t h)

  pub all_moved : (limit : ℕ) → ((x : ℕ) → IsSome (before x) → x < limit) → limit ≤ place → (x : ℕ) → IsMovedSlot r (before x) (now x) true
  all_moved limit above l x = ⊎_elim (λ (k : x < place). m.done x k) (λ (k : place ≤ x). none_moved r (before x) (now x) (m.stays x k) (λ s. let n = above x s in absurd (omega arith))) (cases_lt x place)
