-- A change that puts slots at their numbers, from 0 on, one after another.
use Rattle.std.proofs.Common.{◌≡◌, ℕ, zero, suc, ◌+◌, ◌<◌, ◌≤◌, true, cond, ◌==◌, List, [], ◌∷◌, ◌++◌, length, get_or, take, Option, None, refl, ap, sym, ◌∙◌, arith, inl, inr, take_all}
use Rattle.std.proofs.lemmas.Bool.{cases_lt}
use Rattle.std.proofs.lemmas.List.{take_more, length-take-le}
use Rattle.std.proofs.Math.Dec.{eqb-suc-zero, eqb-zero-suc, eqb-suc-suc}
use Rattle.uv_lock.specs.declared.texture.Format.{Format}
use Rattle.map_model.specs.Tree.{Whole, Node, at, slot_at, is_kind, world}
use Rattle.map_model.specs.Edits.{Changes, swap, set}
use Rattle.map_model.specs.Machine.{empty_map}
use Rattle.file_laws.specs.Build.{map_of}
use Rattle.tree_node.specs.Held.{IsMap}
use Rattle.tree_node.proofs.Changes.{same_whole, slot_at-get_or, slot_at-past}

get_one_more : {A : Type 0} (xs : List A) (y d : A) (q : ℕ) → get_or (xs ++ y ∷ []) q d ≡ cond (q == length xs) y (get_or xs q d)
get_one_more [] y d zero = refl
get_one_more [] y d (suc q) = sym (ap (λ b. cond b y d) (eqb-suc-zero q))
get_one_more (x ∷ xs) y d zero = sym (ap (λ b. cond b y x) (eqb-zero-suc (length xs)))
get_one_more (x ∷ xs) y d (suc q) = get_one_more xs y d q ∙ sym (ap (λ b. cond b y (get_or xs q d)) (eqb-suc-suc q (length xs)))

-- The first k slots stand at their numbers, and all else is as before.
pub record Filling (ss : List (Option Node)) (k : ℕ) (old new : Changes) : Type 0 where
  pub next : new.next ≡ old.next
  pub at_each : (m : Whole) (q : ℕ) → at (swap m new) q ≡ get_or (take k ss) q (at (swap m old) q)

pub fills_none : (ss : List (Option Node)) (c : Changes) → Filling ss 0 c c
fills_none ss c = record { next = refl; at_each = λ m q. refl }

pub filled_one : (ss : List (Option Node)) (k n : ℕ) (old c d : Changes) (x : Option Node) → k < length ss → x ≡ get_or ss k x → n ≡ k → Filling ss k old c
    → d.next ≡ c.next → ((m : Whole) → swap m d ≡ set (swap m c) n x) → Filling ss (k + 1) old d
filled_one ss k n old c d x lt is e so_far next put = record {
  next = next ∙ so_far.next;
  at_each = λ m q.
      ap (λ w. at w q) (put m)
      ∙ (λ i. cond (q == (e ∙ sym (length-take-le k ss (let w : k ≤ length ss = omega arith in w))) i) (is i) (so_far.at_each m q i))
      ∙ sym (get_one_more (take k ss) (get_or ss k x) (at (swap m old) q) q)
      ∙ ap (λ l. get_or l q (at (swap m old) q)) (sym (take_more ss k x lt));
}

pub filled_all : (ss : List (Option Node)) (k : ℕ) (old c : Changes) → length ss ≤ k → Filling ss k old c → (m : Whole) (q : ℕ) → at (swap m c) q ≡ get_or ss q (at (swap m old) q)
filled_all ss k old c le f m q = f.at_each m q ∙ ap (λ l. get_or l q (at (swap m old) q)) (take_all k ss le)

-- ---- the whole map

past_empty : (f : Format) (q : ℕ) → 1 ≤ q → at (empty_map f) q ≡ None
past_empty f zero h = absurd (omega arith)
past_empty f (suc q) h = refl

past_all : (xs : List (Option Node)) (q : ℕ) (d : Option Node) → length xs ≤ q → get_or xs q d ≡ d
past_all [] q d h = refl
past_all (x ∷ xs) zero d h = absurd (omega arith)
past_all (x ∷ xs) (suc q) d h = past_all xs q d (omega arith)

got : (f : Format) (ss : List (Option Node)) (q : ℕ) → 1 ≤ length ss → get_or ss q (at (empty_map f) q) ≡ slot_at ss q
got f ss q some = elim (cases_lt q (length ss)) [
  | inl l ↦ sym (slot_at-get_or ss q (at (empty_map f) q) l)
  | inr l ↦ past_all ss q (at (empty_map f) q) l ∙ past_empty f q (omega arith) ∙ sym (slot_at-past ss q l)
]

pub some_slots : (ss : List (Option Node)) → IsMap (map_of ss) → 1 ≤ length ss
some_slots [] h = absurd (let e : is_kind (map_of []) world 0 ≡ true = h.shape.standing.world_stands in cc e)
some_slots (s ∷ ss) h = omega arith

-- an empty map with such a change, and with as many numbers, is the map of the slots
pub filled_map : (f : Format) (ss : List (Option Node)) (empty now : Whole) (old put drawn : Changes) (count : ℕ) → 1 ≤ length ss → empty ≡ empty_map f → now ≡ empty
    → ((m : Whole) (q : ℕ) → at (swap m put) q ≡ get_or ss q (at (swap m old) q)) → old ≡ record { entries = []; next = empty.next } → drawn ≡ record put { next = count } → count ≡ length ss
    → swap now drawn ≡ map_of ss
filled_map f ss empty now old put drawn count some begins same fills none draws counts = same_whole (swap now drawn) (map_of ss) (ap (λ (c : Changes). c.next) draws ∙ counts) (λ q.
    ap (λ (c : Changes). at (swap now c) q) draws ∙ fills now q ∙ ap (λ (c : Changes). get_or ss q (at (swap now c) q)) none
    ∙ ap (λ (m : Whole). get_or ss q (at m q)) (same ∙ begins) ∙ got f ss q some)
