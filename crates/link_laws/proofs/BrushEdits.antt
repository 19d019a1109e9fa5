-- Edits of brushes: they read no link and no mark, keep stems, and leave all but the brushes that they name and these brushes' parents.
use Rattle.std.proofs.Common.{◌≡◌, ◌≢◌, ℕ, zero, suc, ◌<◌, List, [], ◌∷◌, ◌++◌, flat_map, map, length, Bool, false, cond, ◌||◌, refl, ap, sym, ◌∙◌, subst, arith, Option, Some, None, option_map}
use Rattle.std.specs.Prelude.{unwrap_or, option_and_then}
use Rattle.std.proofs.lemmas.Bool.{ne_eqb}
use Rattle.algebra.specs.Members.{◌∈◌, here, there}
use Rattle.map_model.specs.Faces.{Face}
use Rattle.map_model.specs.Tree.{Whole, Node, World, Layer, Group, Entity, Brush, Kind, world, layer, group, entity, brush, at, up, among, children, preorder, preorder_by, kind_of, parent_of, brushes_of, others_of, is_brush, numbers_from, with_faces}
use Rattle.map_model.specs.Edits.{renew, relist, draw, each_in_turn, in_place, take_out, put_at, forget, delete, replace_by, put_after}
use Rattle.map_laws.specs.Placed.{Bounded}
use Rattle.map_laws.proofs.Skeleton.{kind_at}
use Rattle.map_laws.proofs.Slots.{at-set_other, at-renew_other, at-forget}
use Rattle.link_laws.proofs.Moves.{taken_at}
use Rattle.link_laws.proofs.Erasing.{erase, erase_renew, erase_delete, erase_replace, erase_put_after, faces_apart}
use Rattle.link_laws.proofs.Stems.{KeepsStems, stems_then, stems_itself, renew_stems, delete_stems, replace_stems, put_after_stems, stem_faces, kinds_kept, ups_kept}

-- A number of a brush, or of one that is gone.
pub record IsBrushNumber (m : Whole) (n : ℕ) : Type 0 where
  pub low : n < m.next
  pub only : (j : Kind) → kind_at m n ≡ Some j → j ≡ brush

pub record BrushEdit (T : ℕ → Type 0) (e : Whole → Whole) : Type 0 where
  pub erases : (m : Whole) → e (erase m) ≡ erase (e m)
  pub stems : (m : Whole) → Bounded m → KeepsStems m (e m)
  pub leaves : (m : Whole) → Bounded m → ((n : ℕ) → T n → IsBrushNumber m n) → (q : ℕ) → q < m.next → (T q → ⊥) → ((n : ℕ) → T n → up m n ≡ Some q → ⊥) → at (e m) q ≡ at m q

still_brush : {m k : Whole} → KeepsStems m k → (n : ℕ) → IsBrushNumber m n → IsBrushNumber k n
still_brush s n t = record { low = omega (arith, s.next, t.low); only = λ j e. t.only j (kinds_kept s n j t.low e) }

-- Composition. -----------------------------------------------------------------------------------------------------------------------------

pub no_edit : {T : ℕ → Type 0} → BrushEdit T (λ m. m)
no_edit = record { erases = λ m. refl; stems = λ m bound. stems_itself m bound; leaves = λ m bound targets q lt none far. refl }

pub edit_then : {T : ℕ → Type 0} {e f : Whole → Whole} → BrushEdit T e → BrushEdit T f → BrushEdit T (λ m. f (e m))
edit_then {T} {e} {f} a b = record {
  erases = λ m. ap f (a.erases m) ∙ b.erases (e m);
  stems = λ m bound. let s = a.stems m bound in stems_then s (b.stems (e m) s.past);
  leaves = λ m bound targets q lt none far. let s = a.stems m bound in
      b.leaves (e m) s.past (λ n t. still_brush s n (targets n t)) q (omega (arith, s.next)) none (λ n t u. far n t (ups_kept s n q (targets n t).low u))
      ∙ a.leaves m bound targets q lt none far;
}

pub edit_turn : {T : ℕ → Type 0} (e : ℕ → Whole → Whole) → ((n : ℕ) → T n → BrushEdit T (e n)) → (ns : List ℕ) → ((n : ℕ) → n ∈ ns → T n) → BrushEdit T (each_in_turn e ns)
edit_turn e h [] named = no_edit
edit_turn e h (n ∷ ns) named = edit_then (h n (named n here)) (edit_turn e h ns (λ q i. named q (there i)))

-- An edit by what is read off the map, where links and marks aren't read.
pub edit_by : {T : ℕ → Type 0} {A : Type 0} (o : Whole → A) (e : A → Whole → Whole) → ((m : Whole) → o (erase m) ≡ o m) → ((x : A) → BrushEdit T (e x)) → BrushEdit T (λ m. e (o m) m)
edit_by o e h d = record {
  erases = λ m. ap (λ x. e x (erase m)) (h m) ∙ (d (o m)).erases m;
  stems = λ m bound. (d (o m)).stems m bound;
  leaves = λ m bound targets q lt none far. (d (o m)).leaves m bound targets q lt none far;
}

-- The edits. -------------------------------------------------------------------------------------------------------------------------------

pub one_off : (n q : ℕ) → q ≢ n → among q (n ∷ []) ≡ false
one_off n q ne = ap (λ b. b || false) (ne_eqb n q (λ s. ne (sym s)))

pub not_forgotten : (ns : List ℕ) (m : Whole) (q : ℕ) → among q ns ≡ false → at (forget ns m) q ≡ at m q
not_forgotten ns m q e = at-forget ns m q ∙ ap (λ b. cond b None (at m q)) e

-- A brush has no children.
childless : (o : Option Node) → ((j : Kind) → option_map kind_of o ≡ Some j → j ≡ brush) → unwrap_or (option_map (λ x. brushes_of x ++ others_of x) o) [] ≡ []
childless None h = refl
childless (Some (World a b c d)) h = absurd (no (h _ refl))
  where
    no : world ≡ brush → ⊥
    no e = cc
childless (Some (Layer a b c d f)) h = absurd (no (h _ refl))
  where
    no : layer ≡ brush → ⊥
    no e = cc
childless (Some (Group a b c d f g i)) h = absurd (no (h _ refl))
  where
    no : group ≡ brush → ⊥
    no e = cc
childless (Some (Entity a b c d f)) h = absurd (no (h _ refl))
  where
    no : entity ≡ brush → ⊥
    no e = cc
childless (Some (Brush a b c)) h = refl

alone : (m : Whole) (n q : ℕ) → children m n ≡ [] → q ≢ n → among q (preorder m n) ≡ false
alone m n q none ne = by m.next
  where
    by : (f : ℕ) → among q (preorder_by f m n) ≡ false
    by zero = refl
    by (suc f) = ap (λ l. among q (n ∷ flat_map (preorder_by f m) l)) none ∙ one_off n q ne

parent_leaves : (f : List ℕ → List ℕ) (b : Bool) (m : Whole) (o : Option ℕ) (q : ℕ) → (o ≡ Some q → ⊥) → at (unwrap_or (option_map (λ p. renew p (relist b f) m) o) m) q ≡ at m q
parent_leaves f b m None q far = refl
parent_leaves f b m (Some p) q far = at-renew_other m p q (relist b f) (λ s. far (ap Some (sym s)))

drawn_leaves : (p : ℕ) (results : List (List Face)) (m : Whole) (q : ℕ) → q < m.next → at (each_in_turn draw (map (Brush p None) results) m) q ≡ at m q
drawn_leaves p [] m q lt = refl
drawn_leaves p (fs ∷ results) m q lt = drawn_leaves p results (draw (Brush p None fs) m) q (omega arith) ∙ at-set_other m m.next q (Some (Brush p None fs)) (λ s. omega arith)

put_leaves : (n : ℕ) (ks : List ℕ) (m k : Whole) (q : ℕ) → up k n ≡ up m n → (up m n ≡ Some q → ⊥) → at (put_at n ks k) q ≡ at k q
put_leaves n ks m k q same far = parent_leaves (in_place n ks) (is_brush k n) k (up k n) q (λ e. far (sym same ∙ e))

other : (T : ℕ → Type 0) (n : ℕ) → T n → (q : ℕ) → (T q → ⊥) → q ≢ n
other T n t q none s = none (subst T (sym s) t)

module _ {T : ℕ → Type 0} (n : ℕ) (t : T n) where
  pub faces_edit : (fs : List Face) → BrushEdit T (renew n (with_faces fs))
  faces_edit fs = record {
    erases = λ m. erase_renew m n (with_faces fs) (faces_apart fs);
    stems = λ m bound. renew_stems m n (with_faces fs) (stem_faces fs) bound;
    leaves = λ m bound targets q lt none far. at-renew_other m n q (with_faces fs) (other T n t q none);
  }

  pub delete_edit : BrushEdit T (delete n)
  delete_edit = record {
    erases = erase_delete n;
    stems = λ m bound. delete_stems n m bound;
    leaves = λ m bound targets q lt none far.
        not_forgotten (preorder m n) (take_out n m) q (alone m n q (childless (at m n) (targets n t).only) (other T n t q none)) ∙ taken_at m n q (far n t);
  }

  pub replace_edit : (results : List (List Face)) → BrushEdit T (replace_by n results)
  replace_edit results = record {
    erases = erase_replace n results;
    stems = λ m bound. replace_stems n results m bound;
    leaves = λ m bound targets q lt none far.
        let js = numbers_from m.next (length results) in
        let drawn = each_in_turn draw (map (Brush (unwrap_or (up m n) 0) None) results) m in
        not_forgotten (n ∷ []) (put_at n js drawn) q (one_off n q (other T n t q none))
        ∙ put_leaves n js m drawn q (ap (option_and_then parent_of) (drawn_leaves (unwrap_or (up m n) 0) results m n (targets n t).low)) (far n t)
        ∙ drawn_leaves (unwrap_or (up m n) 0) results m q lt;
  }

  pub after_edit : (faces : List Face) → BrushEdit T (put_after n faces)
  after_edit faces = record {
    erases = erase_put_after n faces;
    stems = λ m bound. put_after_stems n faces m bound;
    leaves = λ m bound targets q lt none far.
        let x = Brush (unwrap_or (up m n) 0) None faces in
        put_leaves n (n ∷ m.next ∷ []) m (draw x m) q (ap (option_and_then parent_of) (at-set_other m m.next n (Some x) (λ s. below (targets n t).low s))) (far n t)
        ∙ at-set_other m m.next q (Some x) (λ s. below lt s);
  }
    where
      below : {a b : ℕ} → a < b → a ≡ b → ⊥
      below lt s = omega arith
