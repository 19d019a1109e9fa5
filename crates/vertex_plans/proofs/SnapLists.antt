-- Brushes whose vertices are rounded, one after another.
use Rattle.std.proofs.Common.{◌≡◌, ℕ, suc, ◌+◌, ◌<◌, ◌≤◌, List, [], ◌∷◌, ◌++◌, length, map, take, drop, get_or, cond, Bool, true, false, Option, None, Some, Result, Ok, Err, refl, ap, ap₂, sym, subst, ◌∙◌, ℤ, append_assoc, append-nil, drop-cons, add-one}
use Rattle.std.specs.Prelude.{IsErrAnd, nat_lt}
use Rattle.std.proofs.lemmas.List.{drop_all}
use Rattle.map_model.specs.Faces.{Face}
use Rattle.map_model.specs.Tree.{Whole, with_faces}
use Rattle.map_model.specs.Edits.{each_in_turn, renew}
use Rattle.map_model.specs.Below.{Below, IsRight}
use Rattle.map_model.specs.Replies.{Refusal, TooManyFaces}
use Rattle.map_model.specs.Rows.{at_each, first, too_many}
use Rattle.tree_ops.specs.declared.fault.OpFault.{OpFault}
use Rattle.tree_ops.specs.declared.fault.OpFault.TheVariants.{No, Memory}
use Rattle.tree_ops.proofs.Outcomes.{err_is}
use Rattle.brush_plans.proofs.Lists.{mapped_more, mapped_all}
use Rattle.brush_plans.proofs.RowLoops.{Passed, passed_row, stopped_row, passed_all}
use Rattle.vertex_plans.specs.declared.putting.NewBody.{NewBody}
use Rattle.vertex_plans.specs.declared.snapping.Snapped.{Snapped}
use Rattle.vertex_plans.specs.declared.snapping.Snapped.TheVariants.{Few, Many}
use Rattle.vertex_plans.specs.Putting.{put_body}
use Rattle.vertex_plans.specs.Snaps.{faces_by, flat, snapped_by, IsSnapped, AreSnapped, overfull, bodies_of, AreFew, IsKept}

module _ (m : Whole) (grid : ℤ) (ns : List ℕ) where
  -- The first i brushes are rounded, and none is flat then.
  pub record Snapping (i : ℕ) (now : List Snapped) (b : Below) : Type 0 where
    pub made : now ≡ map (snapped_by m grid b) (take i ns)
    pub passed : Passed (flat m grid b) ns i

  pub none_snapped : (now : List Snapped) → now ≡ [] → (b : Below) → Snapping 0 now b
  none_snapped now e b = record { made = e; passed = record { rest = refl } }

  pub one_snapped : (i n : ℕ) (now new : List Snapped) (one : Snapped) → i < length ns → n ≡ get_or ns i n → ((b : Below) → IsRight b → Snapping i now b) → IsSnapped m grid n (Ok one) → new ≡ now ++ one ∷ [] →
      (b : Below) → IsRight b → Snapping (i + 1) new b
  one_snapped i n now new one lt is so_far snapped more b right =
      let h = so_far b right in
      let k = snapped b right in record {
        made = mapped_more (snapped_by m grid b) ns now new i n one lt is h.made (sym k.0) more;
        passed = passed_row (flat m grid b) ns i n lt is h.passed k.1;
      }

  pub snapping_stops : (i n : ℕ) (now : List Snapped) (why : OpFault) (r : Result (List Snapped) OpFault) → i < length ns → n ≡ get_or ns i n → ((b : Below) → IsRight b → Snapping i now b) → IsErrAnd r (λ e. e ≡ why) →
      IsSnapped m grid n (Err why) → AreSnapped m grid ns r
  snapping_stops i n now (No refusal) r lt is so_far e stops = subst (AreSnapped m grid ns) (sym (err_is r (No refusal) e))
      (λ b right. stopped_row (flat m grid b) ns i n lt is (so_far b right).passed refusal (stops b right))
  snapping_stops i n now Memory r lt is so_far e stops = subst (AreSnapped m grid ns) (sym (err_is r Memory e)) tt

  pub all_snapped : (i : ℕ) (now list : List Snapped) → length ns ≤ i → ((b : Below) → IsRight b → Snapping i now b) → list ≡ now → AreSnapped m grid ns (Ok list)
  all_snapped i now list le so_far e b right =
      let h = so_far b right in
      (sym (e ∙ mapped_all (snapped_by m grid b) ns now i le h.made), passed_all (flat m grid b) ns i le h.passed)

-- Those with few faces. -------------------------------------------------------------------------------------------------------------------

bodies_joined : (xs ys : List Snapped) → bodies_of (xs ++ ys) ≡ bodies_of xs ++ bodies_of ys
bodies_joined [] ys = refl
bodies_joined (Few new ∷ xs) ys = ap (λ l. new ∷ l) (bodies_joined xs ys)
bodies_joined (Many n count ∷ xs) ys = bodies_joined xs ys

-- The first k are kept, and the rest is still asked.
pub record Keeping (list : List Snapped) (k : ℕ) (bodies : List NewBody) : Type 0 where
  pub kept : bodies ++ bodies_of (drop k list) ≡ bodies_of list
  pub row : first (map overfull (drop k list)) ≡ first (map overfull list)

pub none_kept : (list : List Snapped) (bodies : List NewBody) → bodies ≡ [] → Keeping list 0 bodies
none_kept list bodies e = record { kept = ap (λ l. l ++ bodies_of list) e; row = refl }

module _ (list : List Snapped) (k : ℕ) (bodies : List NewBody) (one : Snapped) (lt : k < length list) (is : one ≡ get_or list k one) (so_far : Keeping list k bodies) where
  front : drop k list ≡ one ∷ drop (suc k) list
  front = drop-cons list k one lt ∙ ap (λ x. x ∷ drop (suc k) list) (sym is)

  front_row : first (overfull one ∷ map overfull (drop (suc k) list)) ≡ first (map overfull list)
  front_row = sym (ap (λ l. first (map overfull l)) front) ∙ so_far.row

  pub one_kept : (new : List NewBody) → overfull one ≡ None → new ≡ bodies ++ bodies_of (one ∷ []) → Keeping list (k + 1) new
  one_kept new none more = subst (λ j. Keeping list j new) (sym (add-one k)) (record {
    kept =
        ap (λ l. l ++ bodies_of (drop (suc k) list)) more ∙ append_assoc bodies (bodies_of (one ∷ [])) (bodies_of (drop (suc k) list))
        ∙ ap (λ l. bodies ++ l) (sym (bodies_joined (one ∷ []) (drop (suc k) list)) ∙ sym (ap bodies_of front)) ∙ so_far.kept;
    row = sym (ap (λ o. first (o ∷ map overfull (drop (suc k) list))) none) ∙ front_row;
  })

  pub keeping_stops : (why : OpFault) (old new : List NewBody) (r : Result (List NewBody) OpFault) → IsErrAnd r (λ e. e ≡ why) → IsKept one old new (Err why) → AreFew list r
  keeping_stops (No refusal) old new r e stops = subst (AreFew list) (sym (err_is r (No refusal) e)) (sym front_row ∙ ap (λ o. first (o ∷ map overfull (drop (suc k) list))) stops)
  keeping_stops Memory old new r e stops = subst (AreFew list) (sym (err_is r Memory e)) tt

pub all_kept : (list : List Snapped) (k : ℕ) (bodies out : List NewBody) → length list ≤ k → Keeping list k bodies → out ≡ bodies → AreFew list (Ok out)
all_kept list k bodies out le h e = (
  e ∙ sym (append-nil bodies) ∙ ap (λ l. bodies ++ bodies_of l) (sym (drop_all k list le)) ∙ h.kept,
  sym h.row ∙ ap (λ l. first (map overfull l)) (drop_all k list le),
)

-- The row of faces by the brushes. --------------------------------------------------------------------------------------------------------

module _ (m : Whole) (grid : ℤ) (b : Below) where
  abbrev made : ℕ → NewBody
  made n = record { id = n; body = faces_by m grid b n }

  row_is : (n : ℕ) → overfull (snapped_by m grid b n) ≡ too_many n (faces_by m grid b n)
  row_is n = by (nat_lt 128 (length (faces_by m grid b n)))
    where
      by : (t : Bool) → overfull (cond t (Many n (length (faces_by m grid b n))) (Few (made n))) ≡ cond t (Some (TooManyFaces n (length (faces_by m grid b n)))) None
      by true = refl
      by false = refl

  pub rows_are : (ns : List ℕ) → first (map overfull (map (snapped_by m grid b) ns)) ≡ at_each ns (λ n. too_many n (faces_by m grid b n))
  rows_are [] = refl
  rows_are (n ∷ ns) = by (overfull (snapped_by m grid b n)) (too_many n (faces_by m grid b n)) (row_is n) (rows_are ns)
    where
      by : (x y : Option Refusal) → x ≡ y → first (map overfull (map (snapped_by m grid b) ns)) ≡ first (map (λ n. too_many n (faces_by m grid b n)) ns) →
          first (x ∷ map overfull (map (snapped_by m grid b) ns)) ≡ first (y ∷ map (λ n. too_many n (faces_by m grid b n)) ns)
      by None y e later = later ∙ ap (λ o. first (o ∷ map (λ n. too_many n (faces_by m grid b n)) ns)) e
      by (Some r) y e later = ap (λ o. first (o ∷ map (λ n. too_many n (faces_by m grid b n)) ns)) e

  few_bodies : (n : ℕ) (rest : List Snapped) → overfull (snapped_by m grid b n) ≡ None → bodies_of (snapped_by m grid b n ∷ rest) ≡ made n ∷ bodies_of rest
  few_bodies n rest = by (nat_lt 128 (length (faces_by m grid b n)))
    where
      by : (t : Bool) → overfull (cond t (Many n (length (faces_by m grid b n))) (Few (made n))) ≡ None → bodies_of (cond t (Many n (length (faces_by m grid b n))) (Few (made n)) ∷ rest) ≡ made n ∷ bodies_of rest
      by true e = absurd (cc)
      by false e = refl

  pub bodies_are : (ns : List ℕ) → first (map overfull (map (snapped_by m grid b) ns)) ≡ None → bodies_of (map (snapped_by m grid b) ns) ≡ map made ns
  bodies_are [] e = refl
  bodies_are (n ∷ ns) e =
      let k = parts (overfull (snapped_by m grid b n)) e in
      few_bodies n (map (snapped_by m grid b) ns) k.0 ∙ ap (λ l. made n ∷ l) (bodies_are ns k.1)
    where
      parts : (x : Option Refusal) → first (x ∷ map overfull (map (snapped_by m grid b) ns)) ≡ None → (x ≡ None) × (first (map overfull (map (snapped_by m grid b) ns)) ≡ None)
      parts None e = (refl, e)
      parts (Some r) e = absurd (cc)

  pub puts_are : (ns : List ℕ) (now : Whole) → each_in_turn (λ n. renew n (with_faces (faces_by m grid b n))) ns now ≡ each_in_turn put_body (map made ns) now
  puts_are [] now = refl
  puts_are (n ∷ ns) now = puts_are ns (renew n (with_faces (faces_by m grid b n)) now)

pub bodies-next : (list : List NewBody) (m : Whole) → (each_in_turn put_body list m).next ≡ m.next
bodies-next [] m = refl
bodies-next (one ∷ list) m = bodies-next list (put_body one m)
