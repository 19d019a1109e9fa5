-- untie: entities that give up their brushes.
use Rattle.std.proofs.Common.{◌≡◌, ℕ, suc, ◌<◌, ◌≤◌, List, [], ◌∷◌, length, true, false, cond, ◌==◌, refl, ap, sym, ◌∙◌, subst, arith, Some}
use Rattle.std.specs.Prelude.{unwrap_or, nat_lt}
use Rattle.std.proofs.lemmas.Bool.{and_parts, ltb-true}
use Rattle.uv_lock.specs.declared.texture.Format.{Format}
use Rattle.algebra.specs.Members.{◌∈◌, here, there}
use Rattle.map_model.specs.Tree.{Whole, Kind, world, layer, group, entity, brush, up, children, brushes_at, is_kind}
use Rattle.map_model.specs.Edits.{each_in_turn, delete, move_all}
use Rattle.map_model.specs.Commands.{Untie}
use Rattle.map_model.specs.Own.{untie}
use Rattle.map_model.specs.Shape.{Standing}
use Rattle.map_laws.specs.Placed.{Placed, Bounded, can_hold}
use Rattle.map_laws.proofs.Lists.{by_eq, tally, tally-head, tally-member, member-tally, tally-no_member, member-left}
use Rattle.map_laws.proofs.Forest.{bit, brush_kind, is_brush_kind, own_place, not_none}
use Rattle.map_laws.proofs.Skeleton.{kind_at, list_at, children_are, planted, placed_of, kind_is}
use Rattle.map_laws.proofs.Kept.{comes_then, comes_itself, bounded_by}
use Rattle.map_laws.proofs.InTurn.{by_member}
use Rattle.map_laws.proofs.Refused.{NodesFit}
use Rattle.map_laws.proofs.Holding.{child_of_entity, container-holds, entity_parent, kind_q, parent_holds, parent_said}
use Rattle.map_laws.proofs.Pruned.{Pruned, kept_pruned}
use Rattle.map_laws.proofs.Dissolving.{AllDissolved, Dissolved, dissolve_one, none_emptied}

-- untie.
untie_one : (f : Format) (m : Whole) (n : ℕ) → Placed m → Bounded m → kind_at m n ≡ Some entity → (q : ℕ) × (up m q ≡ Some n) → Dissolved f n m (untie n m)
untie_one f m n placed bound is child =
    let p = parent_said m n entity is refl in
    let j = entity_parent m placed n p.0 p.1 is in
    subst (λ x. Dissolved f n m (delete n (move_all x (brushes_at m n) m))) (sym (ap (λ o. unwrap_or o 0) p.1))
    (dissolve_one f m n p.0 j.0 (brushes_at m n) placed bound p.1 j.1
    (λ c i. inside c i)
    (λ c e. all c e)
    (λ c i. let k = child_of_entity m placed c n (inside c i) is in (k.0, k.1, container-holds j.0 k.0 j.2 k.2, k.2))
    child)
  where
    inside : (c : ℕ) → c ∈ brushes_at m n → up m c ≡ Some n
    inside c i = placed.children_stand n c (subst (λ l. c ∈ l) (sym (children_are m n)) (member-left c (list_at true m n) (list_at false m n) i))

    only_brush : (k : Kind) → can_hold entity k ≡ true → brush_kind k ≡ true
    only_brush world e = absurd (cc)
    only_brush layer e = absurd (cc)
    only_brush group e = absurd (cc)
    only_brush entity e = absurd (cc)
    only_brush brush e = refl

    all : (c : ℕ) → up m c ≡ Some n → c ∈ brushes_at m n
    all c e =
        let k = kind_q m placed c n e in
        tally-member c (brushes_at m n) (omega (
          arith,
          (planted placed).places true n c,
          own_place n true (kind_at m c) e,
          ap bit (ap is_brush_kind k.1 ∙ only_brush k.0 (parent_holds m placed c n e entity k.0 is k.1)),
        ))

pub untie_all : (f : Format) (ns : List ℕ) (m : Whole) → Placed m → Bounded m → ((n : ℕ) → n ∈ ns → kind_at m n ≡ Some entity) → ((n : ℕ) → n ∈ ns → (q : ℕ) × (up m q ≡ Some n)) → ((n : ℕ) → tally n ns ≤ 1) →
    AllDissolved f m (each_in_turn untie ns m)
untie_all f [] m placed bound kinds children once = record { placed = placed; comes = comes_itself f m bound; kinds = λ q j e. e; children = λ a q j e live. (q, e) }
untie_all f (n ∷ ns) m placed bound kinds children once =
    let d = untie_one f m n placed bound (kinds n here) (children n here) in
    let after : (a : ℕ) → a ∈ ns → kind_at (untie n m) a ≡ Some entity = λ a i. d.kinds a (λ s. omega (arith, once n, tally-head n ns, member-tally a ns i, ap (λ z. tally z ns) s)) ∙ kinds a (there i) in
    let rest = untie_all f ns (untie n m) d.placed (bounded_by d.comes) after
    (λ a i. let q = children a (there i) in d.children a q.0 entity q.1 (after a i))
    (λ a. omega (arith, once a, less a n ns)) in
    record {
      placed = rest.placed;
      comes = comes_then d.comes rest.comes;
      kinds = λ q j e. kind_back d q j (rest.kinds q j e);
      children = λ a q j e live.
          let r = d.children a q j e (rest.kinds a j live) in
          rest.children a r.0 j r.1 live;
    }
  where
    kind_back : Dissolved f n m (untie n m) → (q : ℕ) (j : Kind) → kind_at (untie n m) q ≡ Some j → kind_at m q ≡ Some j
    kind_back d q j e = by_eq q n (λ s. absurd (not_none e (ap (kind_at (untie n m)) s ∙ d.gone))) (λ ne. sym (d.kinds q ne) ∙ e)

    less : (a x : ℕ) (xs : List ℕ) → tally a xs ≤ tally a (x ∷ xs)
    less a x xs = elim (x == a) as (λ b. tally a xs ≤ cond b (suc (tally a xs)) (tally a xs)) [ true ↦ omega arith | false ↦ omega arith ]

pub untied : (f : Format) (m : Whole) (ns : List ℕ) → Standing m → Bounded m → NodesFit m (Untie ns) → AllDissolved f m (each_in_turn untie ns m)
untied f m ns standing bound fit = untie_all f ns m (placed_of standing) bound
    (λ n i. kind_is m entity n (and_parts (is_kind m entity n) (nat_lt 0 (length (brushes_at m n))) (fit.fit n i)).0)
    (λ n i. has_brush n (and_parts (is_kind m entity n) (nat_lt 0 (length (brushes_at m n))) (fit.fit n i)).1)
    (λ x. by_member x ns (λ i. fit.once x i) (λ none. omega (arith, tally-no_member x ns none)))
  where
    has_brush : (n : ℕ) → nat_lt 0 (length (brushes_at m n)) ≡ true → (q : ℕ) × (up m q ≡ Some n)
    has_brush n e = by (brushes_at m n) (ltb-true 0 (length (brushes_at m n)) e) (λ q i. (placed_of standing).children_stand n q (subst (λ l. q ∈ l) (sym (children_are m n)) (member-left q (list_at true m n) (list_at false m n) i)))
      where
        by : (l : List ℕ) → 0 < length l → ((q : ℕ) → q ∈ l → up m q ≡ Some n) → (q : ℕ) × (up m q ≡ Some n)
        by [] lt h = absurd (omega arith)
        by (x ∷ xs) lt h = (x, h x here)

pub untie_pruned : (f : Format) (m : Whole) (ns : List ℕ) → Standing m → Bounded m → NodesFit m (Untie ns) → Pruned f m (Untie ns) (each_in_turn untie ns m)
untie_pruned f m ns standing bound fit = kept_pruned f m (each_in_turn untie ns m) (Untie ns) standing (none_emptied (untied f m ns standing bound fit))
