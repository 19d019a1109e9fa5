-- Pruning, in a map and in the map without its links and marks: the same, where no linked group is emptied.
use Rattle.std.proofs.Common.{◌≡◌, ℕ, ◌<◌, List, [], ◌∷◌, ◌++◌, flat_map, length, Bool, true, false, cond, not, ◌==◌, ◌&&◌, ◌||◌, refl, ap, sym, ◌∙◌, subst, Option, Some, None, option_map}
use Rattle.std.specs.Prelude.{unwrap_or, is_some}
use Rattle.std.proofs.lemmas.Bool.{and_parts}
use Rattle.algebra.specs.Members.{◌∈◌, here, there}
use Rattle.map_model.specs.Tree.{Whole, Node, World, Layer, Group, Entity, Brush, group, entity, at, up, children, brushes_of, others_of, link_of, is_linked, is_brush}
use Rattle.map_model.specs.Edits.{relist, each_in_turn, without, take_out, forget}
use Rattle.map_model.specs.Commands.{Command}
use Rattle.map_model.specs.Rows.{named}
use Rattle.map_model.specs.Apply.{is_emptied, drop_emptied, prune}
use Rattle.map_laws.specs.Placed.{Bounded}
use Rattle.map_laws.proofs.Lists.{by_eq}
use Rattle.map_laws.proofs.Forest.{up_or_not}
use Rattle.map_laws.proofs.Slots.{at-renew_same, at-renew_other, take_out-is, take_out-none}
use Rattle.map_laws.proofs.Pruning.{prune-walk, emptied_children}
use Rattle.map_laws.proofs.Pruned.{chain_list}
use Rattle.link_laws.proofs.Moves.{taken_at}
use Rattle.link_laws.proofs.Erasing.{erase, erased_is, erased_children, erased_linked, erased_above, erase_forget, erase_take_out}
use Rattle.link_laws.proofs.Stems.{KeepsStems, stems_then, stems_itself, take_out_stems, forget_stems, ups_kept}
use Rattle.link_laws.proofs.BrushEdits.{one_off, not_forgotten}

-- Pruning keeps stems. ---------------------------------------------------------------------------------------------------------------------

drop_stems : (before : Whole) (n : ℕ) (m : Whole) → Bounded m → KeepsStems m (drop_emptied before n m)
drop_stems before n m bound = by (is_emptied before m n && not (is_linked m n))
  where
    by : (b : Bool) → KeepsStems m (cond b (forget (n ∷ []) (take_out n m)) m)
    by true = let t = take_out_stems n m bound in stems_then t (forget_stems (n ∷ []) (take_out n m) t.past)
    by false = stems_itself m bound

drops_stems : (before : Whole) (ns : List ℕ) (m : Whole) → Bounded m → KeepsStems m (each_in_turn (drop_emptied before) ns m)
drops_stems before [] m bound = stems_itself m bound
drops_stems before (n ∷ ns) m bound = let d = drop_stems before n m bound in stems_then d (drops_stems before ns (drop_emptied before n m) d.past)

pub prune_stems : (before : Whole) (c : Command) (m : Whole) → Bounded m → KeepsStems m (prune before c m)
prune_stems before c m bound = subst (KeepsStems m) (sym (prune-walk before c m)) (drops_stems before (chain_list before c) m bound)

-- What it leaves: all but numbers of the chains, and parents of those. -----------------------------------------------------------------------

drops_leave : (before first : Whole) (ns : List ℕ) (m : Whole) (q : ℕ) → KeepsStems first m → ((n : ℕ) → n ∈ ns → n < first.next) → (q ∈ ns → ⊥) → ((n : ℕ) → n ∈ ns → up first n ≡ Some q → ⊥) →
    at (each_in_turn (drop_emptied before) ns m) q ≡ at m q
drops_leave before first [] m q s low none far = refl
drops_leave before first (n ∷ ns) m q s low none far =
    drops_leave before first ns (drop_emptied before n m) q (stems_then s (drop_stems before n m s.past)) (λ a i. low a (there i)) (λ i. none (there i)) (λ a i. far a (there i))
    ∙ by (is_emptied before m n && not (is_linked m n))
  where
    first_is : q ≡ n → q ∈ (n ∷ ns)
    first_is e = rw e here

    by : (b : Bool) → at (cond b (forget (n ∷ []) (take_out n m)) m) q ≡ at m q
    by true = not_forgotten (n ∷ []) (take_out n m) q (one_off n q (λ e. none (first_is e))) ∙ taken_at m n q (λ e. far n here (ups_kept s n q (low n here) e))
    by false = refl

pub prune_leaves : (m k : Whole) (c : Command) (q : ℕ) → KeepsStems m k → ((n : ℕ) → n ∈ chain_list m c → n < m.next) → (q ∈ chain_list m c → ⊥) → ((n : ℕ) → n ∈ chain_list m c → up m n ≡ Some q → ⊥) →
    at (prune m c k) q ≡ at k q
prune_leaves m k c q s low none far = ap (λ x. at x q) (prune-walk m c k) ∙ drops_leave m m (chain_list m c) k q s low none far

-- A linked group that has no child has none later. -------------------------------------------------------------------------------------------

record LeftEmpty (m : Whole) (g : ℕ) : Type 0 where
  linked : is_linked m g ≡ true
  none : children m g ≡ []

abbrev linked_slot : Option Node → Bool
linked_slot o = unwrap_or (option_map (λ x. is_some (link_of x)) o) false

abbrev child_slot : Option Node → List ℕ
child_slot o = unwrap_or (option_map (λ x. brushes_of x ++ others_of x) o) []

slot_stays : (b : Bool) (n : ℕ) (o : Option Node) → linked_slot o ≡ true → child_slot o ≡ [] → (linked_slot (option_map (relist b (without n)) o) ≡ true) × (child_slot (option_map (relist b (without n)) o) ≡ [])
slot_stays b n None l e = absurd (cc)
slot_stays b n (Some (World a c d f)) l e = absurd (cc)
slot_stays b n (Some (Layer a c d f g)) l e = absurd (cc)
slot_stays true n (Some (Group a c d f g [] [])) l e = (l, refl)
slot_stays false n (Some (Group a c d f g [] [])) l e = (l, refl)
slot_stays b n (Some (Group a c d f g [] (y ∷ os))) l e = absurd (cc)
slot_stays b n (Some (Group a c d f g (x ∷ bs) os)) l e = absurd (cc)
slot_stays b n (Some (Entity a c d f g)) l e = absurd (cc)
slot_stays b n (Some (Brush a c d)) l e = absurd (cc)

by_slot : {m k : Whole} {g : ℕ} → at k g ≡ at m g → LeftEmpty m g → LeftEmpty k g
by_slot e x = record { linked = ap linked_slot e ∙ x.linked; none = ap child_slot e ∙ x.none }

take_out_stays : (m : Whole) (n g : ℕ) → LeftEmpty m g → LeftEmpty (take_out n m) g
take_out_stays m n g x = up_or_not (up m n)
    (λ e. by_slot (ap (λ k. at k g) (take_out-none m n e)) x)
    (λ p e. subst (λ k. LeftEmpty k g) (sym (take_out-is m n p e)) (by_eq g p
    (λ s. let w = slot_stays (is_brush m n) n (at m g) x.linked x.none in
    let f = at-renew_same m p g (relist (is_brush m n) (without n)) s in
    record { linked = ap linked_slot f ∙ w.0; none = ap child_slot f ∙ w.1 })
    (λ ne. by_slot (at-renew_other m p g (relist (is_brush m n) (without n)) ne) x)))

drop_stays : (before m : Whole) (n g : ℕ) → LeftEmpty m g → LeftEmpty (drop_emptied before n m) g
drop_stays before m n g x = by (is_emptied before m n && not (is_linked m n)) refl
  where
    by : (b : Bool) → (is_emptied before m n && not (is_linked m n)) ≡ b → LeftEmpty (cond b (forget (n ∷ []) (take_out n m)) m) g
    by false e = x
    by true e =
        let unlinked = (and_parts (is_emptied before m n) (not (is_linked m n)) e).1 in
        by_slot (not_forgotten (n ∷ []) (take_out n m) g (one_off n g (λ s. linked_not (is_linked m n) (ap (is_linked m) (sym s) ∙ x.linked) unlinked))) (take_out_stays m n g x)
      where
        linked_not : (l : Bool) → l ≡ true → not l ≡ true → ⊥
        linked_not l e f = cc

drops_stay : (before : Whole) (ns : List ℕ) (m : Whole) (g : ℕ) → LeftEmpty m g → LeftEmpty (each_in_turn (drop_emptied before) ns m) g
drops_stay before [] m g x = x
drops_stay before (n ∷ ns) m g x = drops_stay before ns (drop_emptied before n m) g (drop_stays before m n g x)

-- Without links. ------------------------------------------------------------------------------------------------------------------------------

emptied_erased : (before m : Whole) (n : ℕ) → is_emptied (erase before) (erase m) n ≡ is_emptied before m n
emptied_erased before m n = λ i.
    (erased_is m entity n i || erased_is m group n i) && (not (length (erased_children before n i) == 0) && (length (erased_children m n i) == 0))

drop_erased : (before m : Whole) (n : ℕ) → (LeftEmpty (drop_emptied before n m) n → ⊥) → drop_emptied (erase before) n (erase m) ≡ erase (drop_emptied before n m)
drop_erased before m n h =
    (λ i. cond (emptied_erased before m n i && not (erased_linked m n i)) (forget (n ∷ []) (take_out n (erase m))) (erase m))
    ∙ ap (λ k. cond (is_emptied before m n && true) k (erase m)) (ap (forget (n ∷ [])) (erase_take_out n m) ∙ erase_forget (n ∷ []) (take_out n m))
    ∙ by (is_emptied before m n) (is_linked m n) refl refl
  where
    by : (t l : Bool) → is_emptied before m n ≡ t → is_linked m n ≡ l → cond (t && true) (erase (forget (n ∷ []) (take_out n m))) (erase m) ≡ erase (cond (t && not l) (forget (n ∷ []) (take_out n m)) m)
    by true true e f = absurd (h (drop_stays before m n n (record { linked = f; none = emptied_children before m n e })))
    by true false e f = refl
    by false true e f = refl
    by false false e f = refl

drops_erased : (before : Whole) (ns : List ℕ) (m : Whole) → ((g : ℕ) → g ∈ ns → is_linked (each_in_turn (drop_emptied before) ns m) g ≡ true → children (each_in_turn (drop_emptied before) ns m) g ≡ [] → ⊥) →
    each_in_turn (drop_emptied (erase before)) ns (erase m) ≡ erase (each_in_turn (drop_emptied before) ns m)
drops_erased before [] m h = refl
drops_erased before (n ∷ ns) m h =
    ap (each_in_turn (drop_emptied (erase before)) ns) (drop_erased before m n (λ x. let y = drops_stay before ns (drop_emptied before n m) n x in h n here y.linked y.none))
    ∙ drops_erased before ns (drop_emptied before n m) (λ g i. h g (there i))

pub prune_erased : (m k : Whole) (c : Command) → ((g : ℕ) → g ∈ chain_list m c → is_linked (prune m c k) g ≡ true → children (prune m c k) g ≡ [] → ⊥) →
    prune (erase m) c (erase k) ≡ erase (prune m c k)
prune_erased m k c h =
    prune-walk (erase m) c (erase k)
    ∙ (λ i. each_in_turn (drop_emptied (erase m)) (flat_map (λ n. erased_above m n i) (named c)) (erase k))
    ∙ drops_erased m (chain_list m c) k (λ g i l none. h g i (ap (λ x. is_linked x g) (prune-walk m c k) ∙ l) (ap (λ x. children x g) (prune-walk m c k) ∙ none))
    ∙ ap erase (sym (prune-walk m c k))
