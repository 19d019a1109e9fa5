-- The steps of which commands that remake brushes are made: other faces, brushes beside or in place of one, and a brush that goes.
use Rattle.std.proofs.Common.{◌≡◌, ◌≢◌, ℕ, ◌+◌, ◌<◌, ◌≤◌, List, [], ◌∷◌, length, map, Bool, true, false, cond, ◌==◌, ◌||◌, refl, ap, sym, ◌∙◌, subst, arith, Option, Some, None, option_map, inl, inr}
use Rattle.std.specs.Prelude.{unwrap_or, option_and_then}
use Rattle.std.proofs.lemmas.Bool.{ne_eqb, eq-eqb, cases_lt}
use Rattle.algebra.specs.Members.{◌∈◌}
use Rattle.uv_lock.specs.declared.texture.Format.{Format}
use Rattle.map_model.specs.Faces.{Face}
use Rattle.map_model.specs.Tree.{Whole, Node, Brush, Kind, brush, at, up, kind_of, parent_of, is_brush, among, preorder, with_faces, numbers_from}
use Rattle.map_model.specs.Edits.{each_in_turn, draw, renew, relist, in_place, without, take_out, forget, delete, replace_by, put_after, put_at}
use Rattle.map_model.specs.Shape.{FacesOk}
use Rattle.map_laws.specs.Placed.{Placed, Bounded}
use Rattle.map_laws.proofs.Lists.{by_eq}
use Rattle.map_laws.proofs.Beneath.{Beneath}
use Rattle.map_laws.proofs.Forest.{not_none}
use Rattle.map_laws.proofs.Skeleton.{kind_at, list_at, planted, not_both}
use Rattle.map_laws.proofs.Slots.{kind-relisted, up-relisted, takes_kind, no_slot_list, by_bool, at-forget, next-forget, next-take_out, at-renew_other, take_out-is}
use Rattle.map_laws.proofs.Placing.{delete_placed}
use Rattle.map_laws.proofs.Kept.{delete_comes}
use Rattle.map_laws.proofs.Replacing.{found, or_else, found_below, at-drawn, next-drawn, alone, G, put_at-is, takes_p, replace_placed, put_after_placed}
use Rattle.map_laws.proofs.Drawing.{replace_comes, put_after_comes}
use Rattle.map_laws.proofs.InTurn.{kind-deleted, up-deleted, kind-gone, up_before, by_gone, beneath_gone}
use Rattle.map_laws.proofs.Renewing.{renew_alike}
use Rattle.map_laws.proofs.Retexturing.{keeps_faces, faces_put}
use Rattle.map_laws.proofs.FairMaps.{Fair, fair_comes, fair_renew}
use Rattle.map_laws.proofs.Remaking.{Step}

-- Other faces.
pub faces_step : (f : Format) (n : ℕ) (m : Whole) (fs : List Face) → Fair f m → FacesOk f fs → Step f n m (renew n (with_faces fs) m)
faces_step f n m fs fair ok =
    let a = renew_alike m n (with_faces fs) (keeps_faces fs) in
    record {
      fair = fair_renew f m n (with_faces fs) (keeps_faces fs) fair (λ x e. faces_put f fs x (fair.each n x e).ok ok);
      keeps = record {
        next = omega arith;
        kinds = λ q j lt e. sym (a.kinds q) ∙ e;
        news = λ q j far e. absurd (not_none (sym (a.kinds q) ∙ e) (ap (option_map kind_of) (fair.bound q far)));
        ups = λ q p lt e. sym (a.ups q) ∙ e;
      };
      stays = λ q p ne e. a.ups q ∙ e;
      same = λ q ne is. at-renew_other m n q (with_faces fs) ne;
    }

-- New brushes are brushes.
found_brushes : (p : ℕ) (results : List (List Face)) (k q : ℕ) (x : Node) → found (map (Brush p None) results) k q ≡ Some x → kind_of x ≡ brush
found_brushes p [] k q x e = absurd (cc)
found_brushes p (fs ∷ rest) k q x e = by (q == k) e (found_brushes p rest (k + 1) q x)
  where
    is_one : Some (Brush p None fs) ≡ Some x → Brush p None fs ≡ x
    is_one e = cc

    by : (b : Bool) → cond b (Some (Brush p None fs)) (found (map (Brush p None) rest) (k + 1) q) ≡ Some x → (found (map (Brush p None) rest) (k + 1) q ≡ Some x → kind_of x ≡ brush) → kind_of x ≡ brush
    by true e later = ap kind_of (sym (is_one e))
    by false e later = later e

-- A map in which new brushes stand among those of the parent p of the brush a.
module _ (m : Whole) (placed : Placed m) (bound : Bounded m) (a p : ℕ) (u : up m a ≡ Some p) (is_a : kind_at m a ≡ Some brush) (results : List (List Face)) (js : List ℕ) where
  at_drawn : (q : ℕ) → q < m.next → at (each_in_turn draw (map (Brush p None) results) m) q ≡ at m q
  at_drawn q lt = at-drawn (map (Brush p None) results) m q ∙ ap (λ o. or_else o (at m q)) (found_below (map (Brush p None) results) m.next q lt)

  kinds_old : (q : ℕ) → q < m.next → kind_at (G m placed bound a p u is_a results js) q ≡ kind_at m q
  kinds_old q lt = kind-relisted (each_in_turn draw (map (Brush p None) results) m) p true (in_place a js) q ∙ ap (option_map kind_of) (at_drawn q lt)

  ups_old : (q : ℕ) → q < m.next → up (G m placed bound a p u is_a results js) q ≡ up m q
  ups_old q lt = up-relisted (each_in_turn draw (map (Brush p None) results) m) p true (in_place a js) q ∙ ap (λ o. option_and_then parent_of o) (at_drawn q lt)

  kinds_new : (q : ℕ) (j : Kind) → m.next ≤ q → kind_at (G m placed bound a p u is_a results js) q ≡ Some j → j ≡ brush
  kinds_new q j far e = by (found (map (Brush p None) results) m.next q) refl
      (sym (ap (λ o. option_map kind_of (or_else (found (map (Brush p None) results) m.next q) o)) (bound q far))
      ∙ sym (ap (option_map kind_of) (at-drawn (map (Brush p None) results) m q)) ∙ sym (kind-relisted (each_in_turn draw (map (Brush p None) results) m) p true (in_place a js) q) ∙ e)
    where
      by : (o : Option Node) → found (map (Brush p None) results) m.next q ≡ o → option_map kind_of (or_else o None) ≡ Some j → j ≡ brush
      by None is e = absurd (cc)
      by (Some x) is e = sym (some_is e) ∙ found_brushes p results m.next q x is
        where
          some_is : Some (kind_of x) ≡ Some j → kind_of x ≡ j
          some_is e = cc

  -- The parent is no brush, so other brushes are as they were.
  no_parent : (q : ℕ) → kind_at m q ≡ Some brush → q ≢ p
  no_parent q is s = not_both (takes_kind true (kind_at m p)) (takes_p m placed bound a p u is_a results) (ap (takes_kind true) (ap (kind_at m) (sym s) ∙ is))

  brush_below : (q : ℕ) → kind_at m q ≡ Some brush → q < m.next
  brush_below q is = below q m.next (λ far. not_none is (ap (option_map kind_of) (bound q far)))
    where
      below : (q n : ℕ) → (n ≤ q → ⊥) → q < n
      below q n h = elim (cases_lt q n) [ inl lt ↦ lt | inr far ↦ absurd (h far) ]

  brushes_old : (q : ℕ) → kind_at m q ≡ Some brush → at (G m placed bound a p u is_a results js) q ≡ at m q
  brushes_old q is = at-renew_other (each_in_turn draw (map (Brush p None) results) m) p q (relist true (in_place a js)) (no_parent q is) ∙ at_drawn q (brush_below q is)

  child_below : (q t : ℕ) → up m q ≡ Some t → q < m.next
  child_below q t e = below q m.next (λ far. not_none e (ap (λ o. option_and_then parent_of o) (bound q far)))
    where
      below : (q n : ℕ) → (n ≤ q → ⊥) → q < n
      below q n h = elim (cases_lt q n) [ inl lt ↦ lt | inr far ↦ absurd (h far) ]

  next_beside : m.next ≤ (G m placed bound a p u is_a results js).next
  next_beside = omega (arith, next-drawn (map (Brush p None) results) m)

-- A brush directly after one.
pub after_step : (f : Format) (a : ℕ) (m : Whole) (p : ℕ) (faces : List Face) → Fair f m → up m a ≡ Some p → kind_at m a ≡ Some brush → FacesOk f faces → Step f a m (put_after a faces m)
after_step f a m p faces fair u is_a ok =
    let js = a ∷ m.next ∷ [] in
    let fair_k = fair_comes f m (put_after a faces m) fair (put_after_placed m a p faces fair.placed fair.bound u is_a) (put_after_comes f m a faces fair.bound ok) in
    subst (Step f a m) (sym is) (record {
      fair = subst (Fair f) is fair_k;
      keeps = record {
        next = next_beside m fair.placed fair.bound a p u is_a (faces ∷ []) js;
        kinds = λ q j lt e. sym (kinds_old m fair.placed fair.bound a p u is_a (faces ∷ []) js q lt) ∙ e;
        news = kinds_new m fair.placed fair.bound a p u is_a (faces ∷ []) js;
        ups = λ q t lt e. sym (ups_old m fair.placed fair.bound a p u is_a (faces ∷ []) js q lt) ∙ e;
      };
      stays = λ q t ne e. ups_old m fair.placed fair.bound a p u is_a (faces ∷ []) js q (child_below m fair.placed fair.bound a p u is_a (faces ∷ []) js q t e) ∙ e;
      same = λ q ne e. brushes_old m fair.placed fair.bound a p u is_a (faces ∷ []) js q e;
    })
  where
    is : put_after a faces m ≡ G m fair.placed fair.bound a p u is_a (faces ∷ []) (a ∷ m.next ∷ [])
    is = ap (λ v. put_at a (a ∷ m.next ∷ []) (draw (Brush (unwrap_or v 0) None faces) m)) u ∙ put_at-is m fair.placed fair.bound a p u is_a (faces ∷ []) (a ∷ m.next ∷ [])

-- One node less.
module _ (g : Whole) (a : ℕ) where
  left : (q : ℕ) → q ≢ a → at (forget (a ∷ []) g) q ≡ at g q
  left q ne = at-forget (a ∷ []) g q ∙ ap (λ b. cond b None (at g q)) (ap (λ b. b || false) (ne_eqb a q (λ s. ne (sym s))))

  gone : (q : ℕ) → q ≡ a → at (forget (a ∷ []) g) q ≡ None
  gone q s = at-forget (a ∷ []) g q ∙ ap (λ b. cond b None (at g q)) (ap (λ b. b || false) (eq-eqb a q (sym s)))

  kept_kind : (q : ℕ) {j : Kind} → kind_at (forget (a ∷ []) g) q ≡ Some j → kind_at g q ≡ Some j
  kept_kind q e = by_eq q a (λ s. absurd (not_none e (ap (option_map kind_of) (gone q s)))) (λ ne. sym (ap (option_map kind_of) (left q ne)) ∙ e)

  kept_up : (q : ℕ) {t : ℕ} → up (forget (a ∷ []) g) q ≡ Some t → up g q ≡ Some t
  kept_up q e = by_eq q a (λ s. absurd (not_none e (ap (λ o. option_and_then parent_of o) (gone q s)))) (λ ne. sym (ap (λ o. option_and_then parent_of o) (left q ne)) ∙ e)

-- Brushes in place of one.
pub replace_step : (f : Format) (a : ℕ) (m : Whole) (p : ℕ) (results : List (List Face)) → Fair f m → up m a ≡ Some p → kind_at m a ≡ Some brush → ((faces : List Face) → faces ∈ results → FacesOk f faces) →
    Step f a m (replace_by a results m)
replace_step f a m p results fair u is_a ok =
    let js = numbers_from m.next (length results) in
    let g = G m fair.placed fair.bound a p u is_a results js in
    let is : replace_by a results m ≡ forget (a ∷ []) g =
    ap (λ v. forget (a ∷ []) (put_at a js (each_in_turn draw (map (Brush (unwrap_or v 0) None) results) m))) u ∙ ap (forget (a ∷ [])) (put_at-is m fair.placed fair.bound a p u is_a results js) in
    let fair_k = fair_comes f m (replace_by a results m) fair (replace_placed m fair.placed fair.bound a p u is_a results) (replace_comes f m a results fair.bound ok) in
    subst (Step f a m) (sym is) (record {
      fair = subst (Fair f) is fair_k;
      keeps = record {
        next = next_beside m fair.placed fair.bound a p u is_a results js;
        kinds = λ q j lt e. sym (kinds_old m fair.placed fair.bound a p u is_a results js q lt) ∙ kept_kind g a q e;
        news = λ q j far e. kinds_new m fair.placed fair.bound a p u is_a results js q j far (kept_kind g a q e);
        ups = λ q t lt e. sym (ups_old m fair.placed fair.bound a p u is_a results js q lt) ∙ kept_up g a q e;
      };
      stays = λ q t ne e.
          ap (λ o. option_and_then parent_of o) (left g a q ne)
          ∙ ups_old m fair.placed fair.bound a p u is_a results js q (child_below m fair.placed fair.bound a p u is_a results js q t e) ∙ e;
      same = λ q ne e. left g a q ne ∙ brushes_old m fair.placed fair.bound a p u is_a results js q e;
    })

-- A brush that goes.
pub delete_step : (f : Format) (n : ℕ) (m : Whole) (p : ℕ) → Fair f m → up m n ≡ Some p → kind_at m n ≡ Some brush → Step f n m (delete n m)
delete_step f n m p fair u is_n =
    let placed = fair.placed in
    record {
      fair = fair_comes f m (delete n m) fair (delete_placed m n brush placed fair.bound low is_n) (delete_comes f m n fair.bound);
      keeps = record {
        next = omega (arith, next-forget (preorder m n) (take_out n m), next-take_out m n);
        kinds = λ q j lt e. kind_before q j e;
        news = λ q j far e. absurd (not_none (kind_before q j e) (ap (option_map kind_of) (fair.bound q far)));
        ups = λ q t lt e. up_before m n brush placed fair.bound is_n q t e;
      };
      stays = λ q t ne e. up-deleted m n brush placed fair.bound is_n q (apart q ne) ∙ e;
      same = λ q ne e. at-forget (preorder m n) (take_out n m) q ∙ ap (λ b. cond b None (at (take_out n m) q)) (out q ne)
          ∙ ap (λ k. at k q) (take_out-is m n p u) ∙ at-renew_other m p q (relist (is_brush m n) (without n)) (no_parent m placed fair.bound n p u is_n [] [] q e);
    }
  where
    low : n ≢ 0
    low s = not_none u (ap (up m) s ∙ (planted fair.placed).top)

    bare : (b : Bool) → list_at b m n ≡ []
    bare true = no_slot_list true (at m n) (ap (takes_kind true) is_n)
    bare false = no_slot_list false (at m n) (ap (takes_kind false) is_n)

    apart : (q : ℕ) → q ≢ n → Beneath (up m) n q → ⊥
    apart q ne b = ne (alone m (planted fair.placed) n bare q b)

    out : (q : ℕ) → q ≢ n → among q (preorder m n) ≡ false
    out q ne = by_bool (among q (preorder m n)) (λ e. absurd (apart q ne (beneath_gone m n brush fair.placed fair.bound is_n q e))) (λ e. e)

    kind_before : (q : ℕ) (j : Kind) → kind_at (delete n m) q ≡ Some j → kind_at m q ≡ Some j
    kind_before q j e = by_gone m n brush fair.placed fair.bound is_n q
        (λ b. absurd (not_none e (kind-gone m n brush fair.placed fair.bound is_n q b)))
        (λ o. sym (kind-deleted m n brush fair.placed fair.bound is_n q o) ∙ e)
