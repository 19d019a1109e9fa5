-- The map with the world alone has the shape of a map.
use Rattle.std.proofs.Common.{◌≡◌, ℕ, zero, suc, ◌≤◌, true, false, List, [], ◌∷◌, Option, Some, None, is_some, refl, ap, sym, subst, ◌∙◌, arith}
use Rattle.std.specs.Prelude.{IsTrue}
use Rattle.algebra.specs.Members.{◌∈◌}
use Rattle.uv_lock.specs.declared.texture.Format.{Format}
use Rattle.map_model.specs.Tree.{Node, World, whole, at, up, over, children, brushes_at, others_at, is_kind, is_linked, mark_at, set_at, world, group}
use Rattle.map_model.specs.Shape.{Shape, Standing, EachNode, Numbers, Marks, NodeOk, Rooted, the_world}
use Rattle.map_model.specs.Machine.{empty_map}
use Rattle.tree_node.specs.Held.{IsMap}

none_in : {A : Type 0} {x : A} → x ∈ [] → ⊥
none_in h = elim h [ ]

module _ (f : Format) where
  one_world : (n : ℕ) → IsTrue (is_kind (empty_map f) world n) → n ≡ 0
  one_world zero h = refl
  one_world (suc n) h = absurd (cc)

  childless : (n : ℕ) → children (empty_map f) n ≡ []
  childless zero = refl
  childless (suc n) = refl

  brushless : (n : ℕ) → brushes_at (empty_map f) n ≡ []
  brushless zero = refl
  brushless (suc n) = refl

  otherless : (n : ℕ) → others_at (empty_map f) n ≡ []
  otherless zero = refl
  otherless (suc n) = refl

  no_parent : (n : ℕ) → up (empty_map f) n ≡ None
  no_parent zero = refl
  no_parent (suc n) = refl

  no_mark : (n : ℕ) → mark_at (empty_map f) n ≡ None
  no_mark zero = refl
  no_mark (suc n) = refl

  no_set : (n : ℕ) → set_at (empty_map f) n ≡ None
  no_set zero = refl
  no_set (suc n) = refl

  no_group : (n : ℕ) → is_kind (empty_map f) group n ≡ false
  no_group zero = refl
  no_group (suc n) = refl

  no_link : (n : ℕ) → is_linked (empty_map f) n ≡ false
  no_link zero = refl
  no_link (suc n) = refl

  not_over : (n : ℕ) → over (empty_map f) n ≡ None
  not_over zero = refl
  not_over (suc n) = refl

  rooted : (n : ℕ) → IsTrue (is_some (at (empty_map f) n)) → Rooted (empty_map f) n
  rooted zero h = the_world
  rooted (suc n) h = absurd (cc)

  not_one : {A : Type 0} {o : Option A} {x : A} → o ≡ None → o ≡ Some x → ⊥
  not_one e h = absurd (cc)

  not_true : {b : _} → b ≡ false → b ≡ true → ⊥
  not_true e h = absurd (cc)

  standing : Standing (empty_map f)
  standing = record {
    world_stands = refl;
    one_world = one_world;
    children_stand = λ p n h. absurd (none_in (subst (λ l. n ∈ l) (childless p) h));
    brushes_fit = λ p n h. absurd (none_in (subst (λ l. n ∈ l) (brushless p) h));
    others_fit = λ p n h. absurd (none_in (subst (λ l. n ∈ l) (otherless p) h));
    once = λ p n h. absurd (not_one (no_parent n) h);
    rooted = rooted;
    no_empty_group = λ n h. absurd (not_true (no_group n) h);
  }

  each_node : EachNode (empty_map f)
  each_node zero x h = subst (NodeOk f) (one h) (record { distinct = refl; keys = refl; values = refl; free = refl })
    where
      one : {x y : Node} → Some x ≡ Some y → x ≡ y
      one e = cc
  each_node (suc n) x h = absurd (cc)

  free : (n : ℕ) → 1 ≤ n → at (empty_map f) n ≡ None
  free zero h = absurd (omega arith)
  free (suc n) h = refl

  numbers : Numbers (empty_map f)
  numbers = record {
    most = omega arith;
    nodes = free;
    sets = λ g s h. absurd (not_one (no_set g) h);
    marks = λ n k h. absurd (not_one (no_mark n) h);
    set_is_no_node = λ g s h. absurd (not_one (no_set g) h);
    mark_is_no_node = λ n k h. absurd (not_one (no_mark n) h);
    mark_is_no_set = λ g n s k h. absurd (not_one (no_set g) h);
  }

  marks : Marks (empty_map f)
  marks = record {
    not_nested = λ g h. absurd (not_true (no_link g) h);
    marked = λ n. ap is_some (no_mark n) ∙ sym (ap is_some (not_over n));
    distinct = λ g n k h. absurd (not_one (not_over n) h);
    of_one_set = λ g h n k e. absurd (not_one (not_over n) e);
  }

  pub empty_shape : Shape (empty_map f)
  empty_shape = record { standing = standing; each_node = each_node; numbers = numbers; marks = marks }

  pub empty_is_map : (ss : List (Option Node)) → ss ≡ Some (World f [] [] []) ∷ [] → IsMap (whole (record { slots = ss; next = 1 }))
  empty_is_map ss e = subst (λ ss. IsMap (whole (record { slots = ss; next = 1 }))) (sym e) (record { shape = empty_shape; unlinked = no_link })
