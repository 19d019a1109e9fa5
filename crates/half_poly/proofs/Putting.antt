-- One value more is put in.
use Rattle.std.proofs.Common.{◌≡◌, ℕ, zero, suc, ◌+◌, ◌<◌, List, [], ◌∷◌, ◌++◌, length, get_or, map, Option, Some, None, IsSome, refl, sym, ◌∙◌, ap, subst, ◌≤◌, arith, inl, inr, ⊎_elim, length-append}
use Rattle.std.proofs.lemmas.Bool.{cases_eq}
use Rattle.std.proofs.lemmas.List.{get_or_append_left, get_or_push, map-append, length-map}
use Rattle.half_arena.specs.Slots.{put}
use Rattle.half_arena.proofs.SlotLaws.{put-same, put-other}
use Rattle.half_poly.specs.Puts.{IsPlace, PutBelow, AreLive, WrittenBelow}
use Rattle.half_poly.proofs.Making.{one_value, some_put, is_some_of}
use Rattle.half_poly.proofs.Listed.{get_map}

pub any_default : {A : Type 0} (xs : List A) (n : ℕ) (d e : A) → n < length xs → get_or xs n d ≡ get_or xs n e
any_default [] n d e l = absurd (omega arith)
any_default (x ∷ xs) zero d e l = refl
any_default (x ∷ xs) (suc n) d e l = any_default xs n d e (omega arith)

module _ {T : Type 0} (before : ℕ → Option T) (values : List T) where
  pub put_none : PutBelow before values before [] 0
  put_none = record { long = refl; stays = λ y x q. q; put_at = λ k d l. absurd (omega arith); only = λ y x q. inl q; apart = λ j k l m. absurd (omega arith) }

  pub put_more : (middle after : ℕ → Option T) (places : List ℕ) (n place : ℕ) (value : T) → ((d : T) → get_or values n d ≡ value) → middle place ≡ None → after ≡ put middle place (Some value) →
      PutBelow before values middle places n → PutBelow before values after (places ++ place ∷ []) (n + 1)
  put_more middle after places n place value v free q b = record {
    long = length-append places (place ∷ []) ∙ ap (λ m. m + 1) b.long;
    stays = λ y x h. some_put middle after place y value x q free (b.stays y x h);
    put_at = at;
    only = λ y x h. ⊎_elim (λ same. inr (record { number = n; within = inside; is = last ∙ sym same })) (λ differs. ⊎_elim (λ o. inl o) (λ o. inr (further y o))
        (b.only y x (sym (ap (λ f. f y) q ∙ put-other middle place (Some value) y differs) ∙ h))) (cases_eq y place);
    apart = apart;
  }
    where
      inside : n < length (places ++ place ∷ [])
      inside = let e = length-append places (place ∷ []) in let f = b.long in grind arith

      last : get_or (places ++ place ∷ []) n 0 ≡ place
      last = get_or_push places place 0 n b.long

      earlier : (k : ℕ) → k < n → get_or (places ++ place ∷ []) k 0 ≡ get_or places k 0
      earlier k l = let f = b.long in get_or_append_left places (place ∷ []) 0 k (omega arith)

      apart : (j k : ℕ) → j < k → k < n + 1 → ¬ (get_or (places ++ place ∷ []) j 0 ≡ get_or (places ++ place ∷ []) k 0)
      apart j k l m = ⊎_elim
          (λ (same : k ≡ n). λ e. let i : get_or places j 0 ≡ place = sym (earlier j (omega arith)) ∙ e ∙ ap (λ i. get_or (places ++ place ∷ []) i 0) same ∙ last in
          one_value (b.put_at j value (omega arith)) (ap middle i ∙ free))
          (λ (differs : ¬ (k ≡ n)). let w : k < n = grind arith in λ e. b.apart j k l w (sym (earlier j (omega arith)) ∙ e ∙ earlier k w)) (cases_eq k n)

      further : (y : ℕ) → IsPlace places y → IsPlace (places ++ place ∷ []) y
      further y o = let f = b.long in let w = o.within in let e = length-append places (place ∷ []) in record { number = o.number; within = grind arith; is = earlier o.number (omega arith) ∙ o.is }

      at : (k : ℕ) (d : T) → k < n + 1 → after (get_or (places ++ place ∷ []) k 0) ≡ Some (get_or values k d)
      at k d l = ⊎_elim (λ same. ap after (ap (λ m. get_or (places ++ place ∷ []) m 0) same ∙ last) ∙ ap (λ f. f place) q ∙ put-same middle place (Some value) ∙ ap (λ x. Some x) (sym (v d)) ∙ ap (λ m. Some (get_or values m d)) (sym same))
          (λ differs. let w : k < n = grind arith in ap after (earlier k w) ∙ some_put middle after place (get_or places k 0) value (get_or values k d) q free (b.put_at k d w)) (cases_eq k n)

  pub put_ids : {Id : Type 0} (f : Id → ℕ) (ids more : List Id) (id : Id) (after : ℕ → Option T) (n : ℕ) → more ≡ ids ++ id ∷ [] →
      PutBelow before values after (map f ids ++ f id ∷ []) n → PutBelow before values after (map f more) n
  put_ids f ids more id after n q b = rw (q, map-append f ids (id ∷ [])) b

-- ---- values written under numbers that have some
pub live_of_put : {T : Type 0} (before : ℕ → Option T) (values : List T) (after : ℕ → Option T) (places : List ℕ) (n : ℕ) → ((y : ℕ) → before y ≡ None) → PutBelow before values after places n → (d : T) → AreLive places after n
live_of_put before values after places n none b d = record {
  long = b.long;
  live = λ k l. is_some_of (b.put_at k d l);
  only = λ y x q. ⊎_elim (λ o. one_value o (none y)) (λ o. o) (b.only y x q);
  apart = b.apart;
}

pub record Writing {T : Type 0} (places : List ℕ) (value : ℕ → T) (values : ℕ → Option T) (n size : ℕ) : Type 0 where
  pub live : AreLive places values size
  pub written : (k : ℕ) → k < n → values (get_or places k 0) ≡ Some (value k)

pub writing_none : {T : Type 0} (places : List ℕ) (value : ℕ → T) (values : ℕ → Option T) (size : ℕ) → AreLive places values size → Writing places value values 0 size
writing_none places value values size a = record { live = a; written = λ k l. absurd (omega arith) }

pub writing_all : {T : Type 0} (places : List ℕ) (value : ℕ → T) (values : ℕ → Option T) (n size : ℕ) → size ≤ n → Writing places value values n size → WrittenBelow places value values size
writing_all places value values n size l w = record { written = λ k m. w.written k (omega arith); only = w.live.only }

pub writing_more : {T : Type 0} (places : List ℕ) (value : ℕ → T) (values after : ℕ → Option T) (n size slot : ℕ) (x : T) → Writing places value values n size → n < size → slot ≡ get_or places n 0 → x ≡ value n →
    (IsSome (values slot) → after ≡ put values slot (Some x)) → Writing places value after (n + 1) size
writing_more places value values after n size slot x w l q v changes = record {
  live = record {
    long = w.live.long;
    live = λ k m. ⊎_elim (λ (e : get_or places k 0 ≡ slot). is_some_of (here (get_or places k 0) e)) (λ e. kept_live (get_or places k 0) e (w.live.live k m)) (cases_eq (get_or places k 0) slot);
    only = λ y z h. ⊎_elim (λ (e : y ≡ slot). record { number = n; within = subst (λ i. n < i) (sym w.live.long) l; is = sym (e ∙ q) }) (λ e. w.live.only y z (sym (other y e) ∙ h)) (cases_eq y slot);
    apart = w.live.apart;
  };
  written = λ k m. ⊎_elim (λ (e : k ≡ n). here (get_or places k 0) (ap (λ i. get_or places i 0) e ∙ sym q) ∙ ap (λ z. Some z) (v ∙ ap value (sym e)))
      (λ e. let m : k < n = grind arith in other (get_or places k 0) (λ i. w.live.apart k n m l (i ∙ q)) ∙ w.written k m) (cases_eq k n);
}
  where
    changed : after ≡ put values slot (Some x)
    changed = changes (subst (λ y. IsSome (values y)) (sym q) (w.live.live n l))

    here : (y : ℕ) → y ≡ slot → after y ≡ Some x
    here y e = ap after e ∙ ap (λ f. f slot) changed ∙ put-same values slot (Some x)

    other : (y : ℕ) → ¬ (y ≡ slot) → after y ≡ values y
    other y e = ap (λ f. f y) changed ∙ put-other values slot (Some x) y e

    kept_live : (y : ℕ) → ¬ (y ≡ slot) → IsSome (values y) → IsSome (after y)
    kept_live y e s = rw (other y e) s

pub written_id : {Id : Type 0} (f : Id → ℕ) (ids : List Id) (n size : ℕ) (none id : Id) → n < size → length (map f ids) ≡ size → id ≡ get_or ids n none → f id ≡ get_or (map f ids) n 0
written_id f ids n size none id l m q = ap f q ∙ sym (get_map f ids n none 0 (subst (λ k. n < k) (sym m ∙ length-map ids f) l))
