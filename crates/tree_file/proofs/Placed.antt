-- Places, ids and parents as tables have them.
use Rattle.std.proofs.Common.{◌≡◌, inl, inr, ℕ, suc, ◌+◌, ◌-◌, ◌<◌, ◌≤◌, Bool, true, false, cond, nat_eq, ◌==◌, List, [], ◌∷◌, length, get_or, drop, Option, Some, None, option_map, option_and_then, refl, ap, sym, ◌∙◌, subst, arith, drop-cons, add-one}
use Rattle.std.specs.List.{find}
use Rattle.std.specs.HashMap.{HashMap, get}
use Rattle.std.proofs.lemmas.Bool.{cases_Bool}
use Rattle.map_model.specs.Tree.{Kind, is_one_number, has_kind}
use Rattle.file_laws.specs.Leaves.{Leaves}
use Rattle.uv_lock.specs.declared.texture.Format.{Format}
use Rattle.map_text.specs.declared.document.RawEntity.{RawEntity}
use Rattle.file_laws.specs.Readings.{Reading, readings_from}
use Rattle.file_laws.specs.Build.{has_this_id, named, place_named}
use Rattle.tree_file.specs.Passes.{InPlaceFrom, InPlace}

-- ---- the table of ids, from the back

abbrev pub places_from : List Reading → ℕ → Option ℕ
places_from rs id = option_map (λ r. r.place) (find (has_this_id id) rs)

pub with_id : {S : Type 0} (old new : HashMap ℕ ℕ S) (rs : List Reading) (l big i v id : ℕ) (r : Reading) → big ≡ l + 1 → l < length rs → r ≡ get_or rs l r → r.id ≡ Some i → v ≡ r.place
    → get nat_eq new id ≡ cond (nat_eq i id) (Some v) (get nat_eq old id) → get nat_eq old id ≡ places_from (drop big rs) id → get nat_eq new id ≡ places_from (drop l rs) id
with_id old new rs l big i v id r e lt is has at added so_far =
    added ∙ (λ j. cond (nat_eq i id) (Some (at j)) ((so_far ∙ ap (λ k. places_from (drop k rs) id) (e ∙ add-one l)) j))
    ∙ by_test (i == id)
    ∙ ap (λ o. option_map (λ q. q.place) (cond (is_one_number o (Some id)) (Some r) (find (has_this_id id) (drop (suc l) rs)))) (sym has)
    ∙ ap (λ q. places_from (q ∷ drop (suc l) rs) id) is
    ∙ ap (λ d. places_from d id) (sym (drop-cons rs l r lt))
  where
    by_test : (t : Bool) → cond t (Some r.place) (places_from (drop (suc l) rs) id) ≡ option_map (λ q. q.place) (cond t (Some r) (find (has_this_id id) (drop (suc l) rs)))
    by_test true = refl
    by_test false = refl

pub without_id : (rs : List Reading) (l big id : ℕ) (r : Reading) (o : Option ℕ) → big ≡ l + 1 → l < length rs → r ≡ get_or rs l r → r.id ≡ None
    → o ≡ places_from (drop big rs) id → o ≡ places_from (drop l rs) id
without_id rs l big id r o e lt is has so_far =
    so_far ∙ ap (λ k. places_from (drop k rs) id) (e ∙ add-one l)
    ∙ ap (λ p. option_map (λ q. q.place) (cond (is_one_number p (Some id)) (Some r) (find (has_this_id id) (drop (suc l) rs)))) (sym has)
    ∙ ap (λ q. places_from (q ∷ drop (suc l) rs) id) is
    ∙ ap (λ d. places_from d id) (sym (drop-cons rs l r lt))

-- ---- what is found stands at its place

-- a reading that is found, where it stands
pub record FoundAt (rs : List Reading) (k : ℕ) (r : Reading) : Type 0 where
  pub after : k ≤ r.place
  pub within : r.place < k + length rs
  pub is : (d : Reading) → get_or rs (r.place - k) d ≡ r

found_from : (k : ℕ) (rs : List Reading) → InPlaceFrom k rs → (p : Reading → Bool) (r : Reading) → find p rs ≡ Some r → FoundAt rs k r
found_from k [] at p r e = absurd (cc e)
found_from k (q ∷ rs) at p r e = elim (cases_Bool (p q)) [
  | inl t ↦ first (let f : Some q ≡ Some r = sym (ap (λ b. cond b (Some q) (find p rs)) t) ∙ e in f)
  | inr t ↦ later (found_from (suc k) rs at.1 p r (sym (ap (λ b. cond b (Some q) (find p rs)) t) ∙ e))
]
  where
    one : {x y : Reading} → Some x ≡ Some y → x ≡ y
    one e = cc

    first : Some q ≡ Some r → FoundAt (q ∷ rs) k r
    first f =
        let same = one f in
        let place : r.place ≡ k = sym (ap (λ x. x.place) same) ∙ at.0 in
        record { after = omega arith; within = omega arith; is = λ d. ap (λ n. get_or (q ∷ rs) n d) (let z : r.place - k ≡ 0 = omega arith in z) ∙ same }

    later : FoundAt rs (suc k) r → FoundAt (q ∷ rs) k r
    later f =
        let a = f.after in
        let b = f.within in
        record { after = omega arith; within = omega arith; is = λ d. ap (λ n. get_or (q ∷ rs) n d) (let z : r.place - k ≡ suc (r.place - suc k) = omega arith in z) ∙ f.is d }

pub found_at : (rs : List Reading) → InPlace rs → (p : Reading → Bool) (r : Reading) → find p rs ≡ Some r → (r.place < length rs) × ((d : Reading) → get_or rs r.place d ≡ r)
found_at rs at p r e =
    let f = found_from 0 rs at p r e in
    let w = f.within in
    (omega arith, λ d. ap (λ n. get_or rs n d) (let z : r.place ≡ r.place - 0 = omega arith in z) ∙ f.is d)

-- where an id leads
pub record NamedAt (rs : List Reading) (id : Option ℕ) (place : ℕ) : Type 0 where
  pub within : place < length rs
  pub reading : Reading
  pub place_is : reading.place ≡ place
  pub is : (d : Reading) → get_or rs place d ≡ reading
  pub named_is : named rs id ≡ Some reading

pub named_at : (rs : List Reading) → InPlace rs → (id : Option ℕ) (place : ℕ) → Some place ≡ option_map (λ r. r.place) (named rs id) → NamedAt rs id place
named_at rs at None place e = absurd (cc e)
named_at rs at (Some id) place e = by_found (find (has_this_id id) rs) refl e
  where
    one : {x y : ℕ} → Some x ≡ Some y → x ≡ y
    one e = cc

    by_found : (o : Option Reading) → find (has_this_id id) rs ≡ o → Some place ≡ option_map (λ r. r.place) o → NamedAt rs (Some id) place
    by_found None f e = absurd (cc e)
    by_found (Some r) f e =
        let place_is : r.place ≡ place = sym (one e) in
        let a = found_at rs at (has_this_id id) r f in
        record {
          within = subst (λ (n : ℕ). n < length rs) place_is a.0;
          reading = r;
          place_is = place_is;
          is = λ d. ap (λ n. get_or rs n d) (sym place_is) ∙ a.1 d;
          named_is = f;
        }

pub of_kind : (rs : List Reading) (k : Kind) (id : Option ℕ) (place : ℕ) (n : NamedAt rs id place) → has_kind k n.reading.node ≡ true → Some place ≡ place_named rs k id
of_kind rs k id place n h = sym (ap (option_and_then (λ r. cond (has_kind k r.node) (Some r.place) None)) n.named_is ∙ ap (λ b. cond b (Some n.reading.place) None) h ∙ ap Some n.place_is)

pub not_of_kind : (rs : List Reading) (k : Kind) (id : Option ℕ) (place : ℕ) (n : NamedAt rs id place) → has_kind k n.reading.node ≡ false → None ≡ place_named rs k id
not_of_kind rs k id place n h = sym (ap (option_and_then (λ r. cond (has_kind k r.node) (Some r.place) None)) n.named_is ∙ ap (λ b. cond b (Some n.reading.place) None) h)

pub nothing_named : (rs : List Reading) (k : Kind) (id : Option ℕ) → None ≡ option_map (λ r. r.place) (named rs id) → None ≡ place_named rs k id
nothing_named rs k id e = by_found (named rs id) refl e
  where
    by_found : (o : Option Reading) → named rs id ≡ o → None ≡ option_map (λ r. r.place) o → None ≡ place_named rs k id
    by_found None f e = sym (ap (option_and_then (λ r. cond (has_kind k r.node) (Some r.place) None)) f)
    by_found (Some r) f e = absurd (cc e)

-- readings of a document stand at their places
pub read_in_place : (w : Leaves) (f : Format) (k : ℕ) (raws : List RawEntity) → InPlaceFrom k (readings_from w f k raws)
read_in_place w f k [] = tt
read_in_place w f k (raw ∷ raws) = (refl, read_in_place w f (suc k) raws)
