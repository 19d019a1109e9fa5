-- A loop that is written from its end.
use Rattle.std.proofs.Common.{◌≡◌, ℕ, zero, suc, ◌+◌, ◌-◌, ◌<◌, ◌≤◌, List, [], ◌∷◌, ◌++◌, length, drop, map, Option, Some, None, Bool, true, false, refl, ap, ap₂, sym, ◌∙◌, arith, append_assoc, append-nil, true≢false, ⊎_elim}
use Rattle.std.specs.Prelude.{slice_get, reverse, is_some, not}
use Rattle.std.proofs.Math.Seq.{drop-length, drop-nil}
use Rattle.std.proofs.lemmas.Bool.{cases_lt}
use Rattle.std.proofs.lemmas.Grind.{flat_map-append}
use Rattle.std.proofs.lemmas.List.{map-append, reverse-append}
use Rattle.std.proofs.lemmas.Option.{slice_get_past}
use Rattle.loop_laws.proofs.Lists.{got}
use Rattle.obj_export.specs.Text.{vertex_number, turned}
use Rattle.obj_export.specs.Adding.{spaced, corner_at}

drop_next : {A : Type 0} (xs : List A) (k : ℕ) (x : A) → slice_get xs k ≡ Some x → drop k xs ≡ x ∷ drop (k + 1) xs
drop_next [] k x e = absurd (cc)
drop_next (y ∷ xs) zero x e = let same : y ≡ x = cc in ap (λ z. z ∷ xs) same
drop_next (y ∷ xs) (suc k) x e =
    let n : suc k + 1 ≡ suc (k + 1) = omega arith in drop_next xs k x e ∙ ap (λ m. x ∷ drop m (y ∷ xs)) (sym n)

spaced_last : (ws : List (List ℕ)) (w : List ℕ) → spaced (ws ++ w ∷ []) ≡ spaced ws ++ 32 ∷ w
spaced_last ws w = flat_map-append (λ v. 32 ∷ v) ws (w ∷ []) ∙ ap (λ l. spaced ws ++ l) (append-nil (32 ∷ w))

back_words : (w : ℕ → List ℕ) (xs : List ℕ) (x : ℕ) → map w (reverse xs) ++ w x ∷ [] ≡ map w (reverse (x ∷ xs))
back_words w xs x = sym (map-append w (reverse xs) (x ∷ [])) ∙ ap (map w) (sym (reverse-append (x ∷ []) xs))

-- The first of the loop L is written, and then from the last one down to the one at place `left`.
pub record SoFar (before : ℕ) (L start text : List ℕ) (left : ℕ) : Type 0 where
  pub within : left ≤ length L
  pub some : 1 ≤ length L → 1 ≤ left
  pub is : text ≡ (start ++ corner_at before (slice_get L 0)) ++ spaced (map (vertex_number before) (reverse (drop left L)))

pub begins : (before : ℕ) (L start text : List ℕ) (n : ℕ) → length L ≡ n → text ≡ start ++ corner_at before (slice_get L 0) → SoFar before L start text n
begins before L start text n e f = record {
  within = omega arith;
  some = λ h. omega (arith, h);
  is = f ∙ sym (append-nil (start ++ corner_at before (slice_get L 0)))
      ∙ ap (λ xs. (start ++ corner_at before (slice_get L 0)) ++ spaced (map (vertex_number before) (reverse xs))) (sym (ap (λ m. drop m L) (sym e) ∙ drop-length L));
}

pub one_back : (before : ℕ) (L start text new : List ℕ) (left : ℕ) → SoFar before L start text left → 1 < left →
    new ≡ text ++ corner_at before (slice_get L (left - 1)) → SoFar before L start new (left - 1)
one_back before L start text new left s more e =
    let k = left - 1 in
    let lt : k < length L = omega (arith, s.within, more) in
    let g = got L k lt in
    let n : k + 1 ≡ left = omega (arith, more) in
    let head = start ++ corner_at before (slice_get L 0) in
    let tail = map (vertex_number before) (reverse (drop left L)) in
    let dropped : drop k L ≡ g.item ∷ drop left L = drop_next L k g.item g.is ∙ ap (λ m. g.item ∷ drop m L) n in
    record {
      within = omega (arith, s.within);
      some = λ h. omega (arith, more);
      is = e ∙ ap₂ (λ t o. t ++ corner_at before o) s.is g.is
          ∙ append_assoc head (spaced tail) (32 ∷ vertex_number before g.item)
          ∙ ap (λ l. head ++ l) (sym (spaced_last tail (vertex_number before g.item))
          ∙ ap spaced (back_words (vertex_number before) (drop left L) g.item ∙ ap (λ xs. map (vertex_number before) (reverse xs)) (sym dropped)));
    }

pub turned_all : (before : ℕ) (L start text : List ℕ) (left : ℕ) → SoFar before L start text left → left ≤ 1 →
    text ≡ start ++ spaced (map (vertex_number before) (turned L))
turned_all before [] start text left s last =
    s.is ∙ ap (λ xs. (start ++ []) ++ spaced (map (vertex_number before) (reverse xs))) (drop-nil left) ∙ append-nil (start ++ [])
turned_all before (n ∷ ns) start text left s last =
    let some = s.some (omega arith) in
    let one : left ≡ 1 = omega (arith, some, last) in
    s.is ∙ ap (λ m. (start ++ (32 ∷ vertex_number before n)) ++ spaced (map (vertex_number before) (reverse (drop m (n ∷ ns))))) one
    ∙ append_assoc start (32 ∷ vertex_number before n) (spaced (map (vertex_number before) (reverse ns)))

-- A place of a loop that is there, and one that isn't.
pub further : (L : List ℕ) (k : ℕ) (o : Option ℕ) (t : Bool) → slice_get L k ≡ o → is_some o ≡ not t → t ≡ false → k + 1 ≤ length L
further L k None t e s h = absurd (true≢false (sym (s ∙ ap not h)))
further L k (Some n) t e s h = ⊎_elim (λ lt. omega (arith, lt)) (λ past. let p = slice_get_past L k past in absurd (cc)) (cases_lt k (length L))

pub ends_here : (L : List ℕ) (k : ℕ) (o : Option ℕ) (t : Bool) → slice_get L k ≡ o → is_some o ≡ not t → t ≡ true → k ≤ length L → length L ≡ k
ends_here L k (Some n) t e s h within = absurd (true≢false (s ∙ ap not h))
ends_here L k None t e s h within = ⊎_elim (λ lt. let g = got L k lt in let i = g.is in absurd (cc)) (λ past. omega (arith, past, within)) (cases_lt k (length L))
