-- Entries whose nodes are those of the map are dropped.
use Rattle.std.proofs.Common.{◌≡◌, ◌≢◌, ℕ, ◌<◌, List, [], ◌∷◌, length, Bool, true, false, cond, ◌==◌, refl, ap, sym, subst, ◌∙◌, arith, eqb-true}
use Rattle.std.specs.Bool.{MatchBool}
use Rattle.std.specs.List.Retain.{ReturnsInTurn, IsFiltered}
use Rattle.std.specs.List.{items_where_true}
use Rattle.algebra.specs.Members.{◌∈◌, here, there}
use Rattle.map_nodes.specs.declared.entry.Entry.{Entry}
use Rattle.map_model.specs.Tree.{Whole, at}
use Rattle.map_model.specs.Edits.{swap}
use Rattle.map_model.specs.History.{Tight}
use Rattle.tree_node.specs.Held.{by_entries, Above, Rising, KeepsDifferent}
use Rattle.tree_node.proofs.Changes.{at-swap, same_whole}
use Rattle.tree_node.proofs.Exchanges.{by_none}
use Rattle.tree_node.proofs.Places.{apart_of, above_at, rising_tail}

-- what is above a number is above a lower one
lower : (n k : ℕ) (es : List Entry) → n < k → Above k es → Above n es
lower n k [] lt a = tt
lower n k (e ∷ es) lt a = (omega (arith, a.0), a.1)

-- an answer about one entry, as `differs` gives it
abbrev Answer : Whole → Entry → Bool → Type 0
Answer m e b = MatchBool b (at m e.id ≢ e.node) (at m e.id ≡ e.node)

module _ (m : Whole) where
  -- what is kept of entries
  record Kept (es kept : List Entry) : Type 0 where
    same : (q : ℕ) → by_entries kept q (at m q) ≡ by_entries es q (at m q)
    differs : (e : Entry) → e ∈ kept → at m e.id ≢ e.node

  kept_one : (e : Entry) (es kept : List Entry) → at m e.id ≢ e.node → Kept es kept → Kept (e ∷ es) (e ∷ kept)
  kept_one e es kept ne k = record {
    same = λ q. ap (cond (e.id == q) e.node) (k.same q);
    differs = one;
  }
    where
      one : (f : Entry) → f ∈ (e ∷ kept) → at m f.id ≢ f.node
      one f here = ne
      one f (there i) = k.differs f i

  dropped_one : (e : Entry) (es kept : List Entry) → at m e.id ≡ e.node → Above e.id es → Kept es kept → Kept (e ∷ es) kept
  dropped_one e es kept is above k = record { same = λ q. k.same q ∙ by q (e.id == q) refl; differs = k.differs }
    where
      by : (q : ℕ) (t : Bool) → (e.id == q) ≡ t → by_entries es q (at m q) ≡ cond (e.id == q) e.node (by_entries es q (at m q))
      by q true t = by_none es q (at m q) (λ j f h s. absurd (omega (arith, above_at e.id es above j f h, eqb-true e.id q t, s)))
          ∙ ap (at m) (sym (eqb-true e.id q t)) ∙ is ∙ sym (ap (λ b. cond b e.node (by_entries es q (at m q))) t)
      by q false t = sym (ap (λ b. cond b e.node (by_entries es q (at m q))) t)

  module _ {F : Type 0} (R : F → Entry → Bool → F → Type 0) (f : F) (answers : (e : Entry) (b : Bool) (g : F) → R f e b g → Answer m e b × (g ≡ f)) where
    record Sifted (es : List Entry) (n : ℕ) (kept : List Entry) : Type 0 where
      above : Above n kept
      is : Kept es kept

    sifted : (n : ℕ) (es : List Entry) (bs : List Bool) (g : F) → length bs ≡ length es → ReturnsInTurn R f bs es g → Above n es → Sifted es n (items_where_true bs es)
    sifted n [] [] g l t a = record { above = tt; is = record { same = λ q. refl; differs = λ e i. elim i [ ] } }
    sifted n [] (b ∷ bs) g l t a = absurd t
    sifted n (e ∷ es) [] g l t a = absurd (omega (arith, l))
    sifted n (e ∷ es) (b ∷ bs) g l t a =
        let one = answers e b t.0 t.1 in
        by b one.0 (sifted e.id es bs g (omega (arith, l)) (subst (λ k. ReturnsInTurn R k bs es g) one.1 t.2) a.1)
      where
        by : (c : Bool) → Answer m e c → Sifted es e.id (items_where_true bs es) → Sifted (e ∷ es) n (items_where_true (c ∷ bs) (e ∷ es))
        by true is rest = record { above = (a.0, rest.above); is = kept_one e es (items_where_true bs es) is rest.is }
        by false is rest = record { above = lower n e.id (items_where_true bs es) a.0 rest.above; is = dropped_one e es (items_where_true bs es) is a.1 rest.is }

    rising_kept : (es : List Entry) (bs : List Bool) (g : F) → length bs ≡ length es → ReturnsInTurn R f bs es g → Rising es → KeepsDifferent m es (items_where_true bs es)
    rising_kept [] [] g l t r = record { rising = tt; same = λ q. refl; differs = λ e i. elim i [ ] }
    rising_kept [] (b ∷ bs) g l t r = absurd t
    rising_kept (e ∷ es) [] g l t r = absurd (omega (arith, l))
    rising_kept (e ∷ es) (b ∷ bs) g l t r = by b one.0
      where
        one : Answer m e b × (t.0 ≡ f)
        one = answers e b t.0 t.1

        rest : Sifted es e.id (items_where_true bs es)
        rest = sifted e.id es bs g (omega (arith, l)) (subst (λ k. ReturnsInTurn R k bs es g) one.1 t.2) r

        by : (c : Bool) → Answer m e c → KeepsDifferent m (e ∷ es) (items_where_true (c ∷ bs) (e ∷ es))
        by true is = let k = kept_one e es (items_where_true bs es) is rest.is in record { rising = rest.above; same = k.same; differs = k.differs }
        by false is = let k = dropped_one e es (items_where_true bs es) is r rest.is in
            record { rising = rising_tail e.id (items_where_true bs es) rest.above; same = k.same; differs = k.differs }

    pub keeps_different : (es kept : List Entry) → IsFiltered R f es kept → Rising es → KeepsDifferent m es kept
    keeps_different es kept k r = subst (KeepsDifferent m es) (sym k.4) (rising_kept es k.0 k.1 k.2 k.3 r)

-- what the type of changes, and the change of the map, make of it
pub tightened_same : (m : Whole) (old new : List Entry) (next : ℕ) → KeepsDifferent m old new → swap m (record { entries = new; next = next }) ≡ swap m (record { entries = old; next = next })
tightened_same m old new next k = same_whole _ _ refl (λ q.
    at-swap m (record { entries = new; next = next }) q ∙ k.same q ∙ sym (at-swap m (record { entries = old; next = next }) q))

pub tightened : (m : Whole) (old new : List Entry) (next : ℕ) → KeepsDifferent m old new → Tight m (record { entries = new; next = next })
tightened m old new next k = record { apart = apart_of new k.rising; differs = k.differs }
