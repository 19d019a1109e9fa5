-- Commands that remake the brushes that they name, one by one: brushes get other faces or go, and new brushes come.
use Rattle.std.proofs.Common.{◌≡◌, ◌≢◌, ℕ, ◌<◌, ◌≤◌, List, [], ◌∷◌, true, refl, ap, sym, ◌∙◌, subst, arith, Some, option_map, inl, inr, ◌⊎◌}
use Rattle.std.specs.Prelude.{unwrap_or}
use Rattle.std.proofs.lemmas.Bool.{cases_lt}
use Rattle.algebra.specs.Members.{◌∈◌, here, there}
use Rattle.uv_lock.specs.declared.texture.Format.{Format}
use Rattle.map_model.specs.Faces.{Face}
use Rattle.map_model.specs.Tree.{Whole, Kind, group, brush, at, up, above, faces_at, faces_of, kind_of, is_kind, format_of}
use Rattle.map_model.specs.Edits.{each_in_turn}
use Rattle.map_model.specs.Commands.{Command}
use Rattle.map_model.specs.Rows.{named}
use Rattle.map_model.specs.Shape.{Shape}
use Rattle.map_laws.specs.Placed.{Bounded}
use Rattle.map_laws.specs.Unlinked.{Unlinked}
use Rattle.map_laws.proofs.Lists.{by_eq, tally, member-flat}
use Rattle.map_laws.proofs.Beneath.{Beneath}
use Rattle.map_laws.proofs.Forest.{not_none}
use Rattle.map_laws.proofs.Skeleton.{kind_at, planted, kind_is, is_kind_by, placed_of}
use Rattle.map_laws.proofs.Placing.{chains}
use Rattle.map_laws.proofs.Pruning.{Upwards, ToDo}
use Rattle.map_laws.proofs.InTurn.{chains_up}
use Rattle.map_laws.proofs.Fuel.{parent_rooted}
use Rattle.map_laws.proofs.Pruned.{chain_list, child_of, no_child, above_live, parent_above, rooted_at, rooted_child}
use Rattle.map_laws.proofs.MovedMaps.{less, not_again}
use Rattle.map_laws.proofs.FairMaps.{Fair, fair_outcome}
use Rattle.map_laws.proofs.Unlinking.{Outcome}

-- Nodes stay where they stood or go, and new ones are brushes.
pub record Keeps (m k : Whole) : Type 0 where
  pub next : m.next ≤ k.next
  pub kinds : (q : ℕ) (j : Kind) → q < m.next → kind_at k q ≡ Some j → kind_at m q ≡ Some j
  pub news : (q : ℕ) (j : Kind) → m.next ≤ q → kind_at k q ≡ Some j → j ≡ brush
  pub ups : (q p : ℕ) → q < m.next → up k q ≡ Some p → up m q ≡ Some p

pub keeps_then : {m k l : Whole} → Keeps m k → Keeps k l → Keeps m l
keeps_then {m} {k} {l} a b = record {
  next = omega (arith, a.next, b.next);
  kinds = λ q j lt e. a.kinds q j lt (b.kinds q j (omega (arith, a.next)) e);
  news = λ q j far e. elim (cases_lt q k.next) [ inl lt ↦ a.news q j far (b.kinds q j lt e) | inr past ↦ b.news q j past e ];
  ups = λ q p lt e. a.ups q p lt (b.ups q p (omega (arith, a.next)) e);
}

pub keeps_itself : (m : Whole) → Bounded m → Keeps m m
keeps_itself m bound = record {
  next = omega arith;
  kinds = λ q j lt e. e;
  news = λ q j far e. absurd (not_none e (ap (option_map kind_of) (bound q far)));
  ups = λ q p lt e. e;
}

-- The brush n is remade: other nodes stay, and other brushes as they are.
pub record Step (f : Format) (n : ℕ) (m k : Whole) : Type 0 where
  pub fair : Fair f k
  pub keeps : Keeps m k
  pub stays : (q a : ℕ) → q ≢ n → up m q ≡ Some a → up k q ≡ Some a
  pub same : (q : ℕ) → q ≢ n → kind_at m q ≡ Some brush → at k q ≡ at m q

pub step_then : {f : Format} {n : ℕ} {m k l : Whole} → Step f n m k → Step f n k l → Step f n m l
step_then {f} {n} {m} {k} {l} a b = record {
  fair = b.fair;
  keeps = keeps_then a.keeps b.keeps;
  stays = λ q p ne e. b.stays q p ne (a.stays q p ne e);
  same = λ q ne is. b.same q ne (ap (option_map kind_of) (a.same q ne is) ∙ is) ∙ a.same q ne is;
}

-- The brushes ns are remade: a node that had a child has one, or one of ns was its child.
pub record Remade (f : Format) (ns : List ℕ) (m k : Whole) : Type 0 where
  pub fair : Fair f k
  pub keeps : Keeps m k
  pub children : (q a : ℕ) → up m q ≡ Some a → ((r : ℕ) × (up k r ≡ Some a)) ⊎ ((r : ℕ) × (r ∈ ns) × (up m r ≡ Some a))
  pub same : (q : ℕ) → (q ∈ ns → ⊥) → kind_at m q ≡ Some brush → at k q ≡ at m q

pub live_below : (m : Whole) (q : ℕ) (j : Kind) → Bounded m → kind_at m q ≡ Some j → q < m.next
live_below m q j bound e = elim (cases_lt q m.next) [ inl lt ↦ lt | inr far ↦ absurd (not_none e (ap (option_map kind_of) (bound q far))) ]

-- One step, and then steps at other brushes.
pub remade_then : {f : Format} {n : ℕ} {ns : List ℕ} {m k l : Whole} → Step f n m k → Remade f ns k l → ((q : ℕ) → q ∈ ns → q < m.next) → Remade f (n ∷ ns) m l
remade_then {f} {n} {ns} {m} {k} {l} a b old = record {
  fair = b.fair;
  keeps = keeps_then a.keeps b.keeps;
  children = λ q p e. by_eq q n
      (λ s. inr (n, here, ap (up m) (sym s) ∙ e))
      (λ ne. elim (b.children q p (a.stays q p ne e)) [ inl r ↦ inl r | inr r ↦ inr (r.0, there r.1, a.keeps.ups r.0 p (old r.0 r.1) r.2) ]);
  same = λ q none is. let e = a.same q (λ s. none (first q s)) is in b.same q (λ i. none (there i)) (ap (option_map kind_of) e ∙ is) ∙ e;
}
  where
    first : (q : ℕ) → q ≡ n → q ∈ (n ∷ ns)
    first q s = rw s here

-- Steps at other brushes, and then one.
pub then_step : {f : Format} {n : ℕ} {ns : List ℕ} {m k l : Whole} → Remade f ns m k → Step f n k l → n < m.next → Remade f (n ∷ ns) m l
then_step {f} {n} {ns} {m} {k} {l} a b old = record {
  fair = b.fair;
  keeps = keeps_then a.keeps b.keeps;
  children = λ q p e. elim (a.children q p e) [
    | inl r ↦ by_eq r.0 n (λ s. inr (n, here, a.keeps.ups n p old (ap (up k) (sym s) ∙ r.1))) (λ ne. inl (r.0, b.stays r.0 p ne r.1))
    | inr r ↦ inr (r.0, there r.1, r.2)
  ];
  same = λ q none is. let e = a.same q (λ i. none (there i)) is in b.same q (λ s. none (first q s)) (ap (option_map kind_of) e ∙ is) ∙ e;
}
  where
    first : (q : ℕ) → q ≡ n → q ∈ (n ∷ ns)
    first q s = rw s here

-- The brush n has faces of which P holds.
pub record Ready (P : List Face → Type 0) (m : Whole) (n : ℕ) : Type 0 where
  pub is : kind_at m n ≡ Some brush
  pub faces : P (faces_at m n)

pub still_ready : {f : Format} {P : List Face → Type 0} {n q : ℕ} {m k : Whole} → Step f n m k → q ≢ n → Ready P m q → Ready P k q
still_ready {f} {P} {n} {q} {m} {k} a ne r = record {
  is = ap (option_map kind_of) (a.same q ne r.is) ∙ r.is;
  faces = subst (λ o. P (unwrap_or (option_map faces_of o) [])) (sym (a.same q ne r.is)) r.faces;
}

pub in_turn : (f : Format) (step : ℕ → Whole → Whole) (P : List Face → Type 0) (Q : ℕ → Type 0) → ((k : Whole) (n : ℕ) → Fair f k → Ready P k n → Q n → Step f n k (step n k)) →
    (ns : List ℕ) (m : Whole) → Fair f m → ((n : ℕ) → n ∈ ns → Ready P m n) → ((n : ℕ) → n ∈ ns → Q n) → ((x : ℕ) → tally x ns ≤ 1) → Remade f ns m (each_in_turn step ns m)
in_turn f step P Q one [] m fair ready so once = record { fair = fair; keeps = keeps_itself m fair.bound; children = λ q a e. inl (q, e); same = λ q none is. refl }
in_turn f step P Q one (n ∷ ns) m fair ready so once =
    let a = one m n fair (ready n here) (so n here) in
    remade_then a (in_turn f step P Q one ns (step n m) a.fair (λ q i. still_ready a (not_again q n ns once i) (ready q (there i))) (λ q i. so q (there i)) (λ x. omega (arith, once x, less x n ns)))
    (λ q i. live_below m q brush fair.bound (ready q (there i)).is)

-- What comes of such a command.
module _ (m : Whole) (c : Command) (k : Whole) (shape : Shape m) (u : Unlinked m) (r : Remade (format_of m) (named c) m k) (brushes : (n : ℕ) → n ∈ named c → kind_at m n ≡ Some brush) where
  had_child : (g : ℕ) → is_kind k group g ≡ true → is_kind m group g ≡ true
  had_child g is = is_kind_by m group g (elim (cases_lt g m.next) [
    | inl lt ↦ r.keeps.kinds g group lt (kind_is k group g is)
    | inr far ↦ absurd (no_brush (r.keeps.news g group far (kind_is k group g is)))
  ])
    where
      no_brush : group ≡ brush → ⊥
      no_brush e = cc

  upwards : Upwards k (chain_list m c)
  upwards = chains_up k (chains m (planted (placed_of shape.standing)) shape.numbers.nodes) (named c)
      (λ n i. rooted_at m (placed_of shape.standing) shape.numbers.nodes n brush (brushes n i))
      (λ n q p t i e b u. r.keeps.ups q t (above_old n q p i e b) u)
    where
      above_old : (n q p : ℕ) → n ∈ named c → up m n ≡ Some p → Beneath (up m) q p → q < m.next
      above_old n q p i e b = let j = above_live m (placed_of shape.standing) shape.numbers.nodes q p (parent_rooted_of n p e) b in live_below m q j.0 shape.numbers.nodes j.1
        where
          parent_rooted_of : (n p : ℕ) → up m n ≡ Some p → Beneath (up m) 0 p
          parent_rooted_of n p e = parent_rooted (chains m (planted (placed_of shape.standing)) shape.numbers.nodes) p (rooted_child m (placed_of shape.standing) shape.numbers.nodes n p e) e

  todo : ToDo (chain_list m c) k (chain_list m c)
  todo g is none =
      let placed = placed_of shape.standing in
      let q = child_of m placed g (shape.standing.no_empty_group g (had_child g is)) in
      elim (r.children q.0 g q.1) [
        | inl x ↦ absurd (no_child k r.fair.placed g x.0 none x.1)
        | inr x ↦ inr (member-flat (above m) g x.0 (named c) x.1 (parent_above m placed shape.numbers.nodes x.0 g x.2))
      ]

  pub remade_outcome : Outcome m c k
  remade_outcome = fair_outcome (format_of m) m c k r.fair upwards (λ g i is. shape.standing.no_empty_group g (had_child g is)) todo
