-- What is answered for the texture coordinates of a point on a face.
use Rattle.std.proofs.Common.{◌≡◌, ℕ, zero, suc, ◌+◌, ◌<◌, Bool, true, false, cond, not, ◌==◌, List, [], ◌∷◌, map, length, Option, Some, None, option_map, refl, ap, ap₂, sym, ◌∙◌, arith, true≢false, eqb-true}
use Rattle.std.specs.Prelude.{ℤ, slice_get, unwrap_or, is_none, nat_lt}
use Rattle.std.proofs.lemmas.Bool.Decides.{nat_tests}
use Rattle.std.proofs.lemmas.Option.{slice_get_within}
use Rattle.algebra.specs.Space.{whole_point, Homogeneous}
use Rattle.exact_geom.specs.Planes.{vector}
use Rattle.fixed_num.specs.declared.fraction.Frac.{Frac}
use Rattle.uv_lock.specs.Coordinates.{coordinates}
use Rattle.map_nodes.specs.Fractions.{fraction_of}
use Rattle.map_model.specs.Faces.{Face, Tex, StandardFields, ValveFields}
use Rattle.map_model.specs.Carry.{is_quarter}
use Rattle.map_model.specs.Tree.{Whole, Node, at, faces_at, faces_of}
use Rattle.map_model.specs.Below.{Below, IsRight}
use Rattle.map_model.specs.Commands.{Settings, Uv, point_in}
use Rattle.map_model.specs.Replies.{Refusal, Rotation, NoNode, Repeated, WrongKind, No, Done, Coordinates, kept}
use Rattle.map_model.specs.Rows.{rows, first, refuse, at_each_face_from, no_node, repeated, wrong_kind, rotation, rotation_of_face, has_odd_rotation}
use Rattle.map_model.specs.Machine.{State, Short, current, only, past_rows, coordinates_reply, uv_answer}
use Rattle.map_model.proofs.KeptFractions.{kept_law}
use Rattle.map_laws.proofs.Lists.{count-tally, tally-head}
use Rattle.tree_session.specs.Words.{AnswersPoint}

-- The face of a number. ---------------------------------------------------------------------------------------------------------------

no_list : (k : ℕ) (f : Face) → slice_get [] k ≡ Some f → ⊥
no_list k f e = absurd (cc)

there_is : (o : Option Node) (k : ℕ) (f : Face) → slice_get (unwrap_or (option_map faces_of o) []) k ≡ Some f → is_none o ≡ false
there_is None k f e = absurd (no_list k f e)
there_is (Some x) k f e = refl

lower : (n k : ℕ) → n < k → nat_lt n k ≡ true
lower n k h = grind (arith, nat_tests)

-- The row on rotations. ---------------------------------------------------------------------------------------------------------------

other : (b : Bool) (k t : ℕ) → (k == t) ≡ b → t < k → b ≡ false
other false k t e l = refl
other true k t e l = let same = eqb-true k t e in absurd (omega arith)

other_way : (b : Bool) (k t : ℕ) → (k == t) ≡ b → k < t → b ≡ false
other_way false k t e l = refl
other_way true k t e l = let same = eqb-true k t e in absurd (omega arith)

same : (n : ℕ) → (n == n) ≡ true
same n = grind (arith, nat_tests)

alone : (o : Option Refusal) → first (o ∷ None ∷ []) ≡ o
alone None = refl
alone (Some r) = refl

by_itself : (o : Option Refusal) → first (o ∷ []) ≡ o
by_itself None = refl
by_itself (Some r) = refl

module _ (row : ℕ → Face → Option Refusal) where
  at_face : ℕ → ℕ → Face → Option Refusal
  at_face t k f = cond (k == t) (row k f) None

  later_none : (k t : ℕ) (fs : List Face) → t < k → at_each_face_from k fs (λ j g. cond (j == t) (row j g) None) ≡ None
  later_none k t [] l = refl
  later_none k t (g ∷ fs) l =
      ap₂ (λ o p. first (o ∷ p ∷ [])) (ap (λ b. cond b (row k g) None) (other (k == t) k t refl l)) (later_none (k + 1) t fs (omega arith))

  row_there : (k i : ℕ) (fs : List Face) (f : Face) → slice_get fs i ≡ Some f → at_each_face_from k fs (λ j g. cond (j == (k + i)) (row j g) None) ≡ row (k + i) f
  row_there k i [] f e = absurd (no_list i f e)
  row_there k zero (g ∷ fs) f e =
      let z : k + 0 ≡ k = omega arith in
      ap₂ (λ o p. first (o ∷ p ∷ [])) (ap (λ n. cond (k == n) (row k g) None) z ∙ ap (λ b. cond b (row k g) None) (same k)) (later_none (k + 1) (k + 0) fs (omega arith))
      ∙ alone (row k g) ∙ ap₂ row (sym z) (ap (λ o. unwrap_or o g) e)
  row_there k (suc i) (g ∷ fs) f e =
      let z : k + suc i ≡ (k + 1) + i = omega arith in
      ap (λ n. at_each_face_from k (g ∷ fs) (λ j h. cond (j == n) (row j h) None)) z
      ∙ ap₂ (λ o p. first (o ∷ p ∷ [])) (ap (λ b. cond b (row k g) None) (other_way (k == ((k + 1) + i)) k ((k + 1) + i) refl (omega arith))) (row_there (k + 1) i fs f e)
      ∙ by_itself (row ((k + 1) + i) f) ∙ ap (λ n. row n f) (sym z)

-- All rows. ---------------------------------------------------------------------------------------------------------------------------

step : (o x : Option Refusal) (rest : List (Option Refusal)) → o ≡ x → first (o ∷ rest) ≡ first (x ∷ rest)
step o x rest e = ap (λ r. first (r ∷ rest)) e

module _ (b : Below) (s : Settings) (m : Whole) (n face : ℕ) (p : List ℤ) (f : Face) (there : slice_get (faces_at m n) face ≡ Some f) where
  once : repeated (Uv n face p) ≡ None
  once = ap (λ t. first (refuse (nat_lt 1 t) (Repeated n) ∷ [])) (count-tally n (n ∷ []) ∙ tally-head n [])

  node_there : no_node m (Uv n face p) ≡ None
  node_there = ap (λ t. first (refuse t (NoNode n) ∷ [])) (there_is (at m n) face f there)

  face_there : wrong_kind m (Uv n face p) ≡ None
  face_there = ap (λ t. first (refuse (not t) (WrongKind n) ∷ [])) (lower face (length (faces_at m n)) (slice_get_within (faces_at m n) face f there))

  turned : rotation m (Uv n face p) ≡ refuse (has_odd_rotation f.tex) (Rotation n face)
  turned =
      let z : face ≡ 0 + face = omega arith in
      ap (λ t. at_each_face_from 0 (faces_at m n) (λ j g. cond (j == t) (rotation_of_face n j g) None)) z ∙ row_there (rotation_of_face n) 0 face (faces_at m n) f there
      ∙ ap (λ t. rotation_of_face n t f) (sym z)

  rows_to : (r : Option Refusal) → refuse (has_odd_rotation f.tex) (Rotation n face) ≡ r → first (rows b s m (Uv n face p)) ≡ first (r ∷ [])
  rows_to None e =
      step (no_node m (Uv n face p)) None _ node_there ∙ step (repeated (Uv n face p)) None _ once ∙ step (wrong_kind m (Uv n face p)) None _ face_there
      ∙ step (rotation m (Uv n face p)) None _ (turned ∙ e)
  rows_to (Some r) e =
      step (no_node m (Uv n face p)) None _ node_there ∙ step (repeated (Uv n face p)) None _ once ∙ step (wrong_kind m (Uv n face p)) None _ face_there
      ∙ step (rotation m (Uv n face p)) (Some r) _ (turned ∙ e)

-- Coordinates. ------------------------------------------------------------------------------------------------------------------------

even_by : (t : Tex) (f : Face) (p : Homogeneous) → f.tex ≡ t → is_none (coordinates f p) ≡ false → has_odd_rotation t ≡ false
even_by (ValveFields t) f p e is = refl
even_by (StandardFields t) f p e is = even (is_quarter t.rotation) refl
  where
    even : (q : Bool) → is_quarter t.rotation ≡ q → not q ≡ false
    even true h = refl
    even false h = absurd (cc)

kept_all : (cs : List Frac) → map kept (map fraction_of cs) ≡ cs
kept_all [] = refl
kept_all (c ∷ cs) = ap₂ (λ x xs. x ∷ xs) (kept_law c) (kept_all cs)

-- Answers. ----------------------------------------------------------------------------------------------------------------------------

odd_by : (t : Tex) (f : Face) (p : Homogeneous) → f.tex ≡ t → coordinates f p ≡ None → has_odd_rotation t ≡ true
odd_by (ValveFields t) f p e is = absurd (cc)
odd_by (StandardFields t) f p e is = odd (is_quarter t.rotation) refl
  where
    odd : (q : Bool) → is_quarter t.rotation ≡ q → not q ≡ true
    odd false h = refl
    odd true h = absurd (cc)

module _ (m : Whole) (n face : ℕ) (p : List ℤ) (f : Face) (there : slice_get (faces_at m n) face ≡ Some f) where
  abbrev pub asked : Homogeneous
  asked = whole_point (vector (point_in p))

  -- The coordinates are answered where there are some.
  pub answered : (cs : List Frac) → coordinates f asked ≡ Some (map fraction_of cs) → AnswersPoint m n face p (Coordinates cs)
  answered cs is s e b right =
      ap (λ k. past_rows s (first (rows b s.settings k (Uv n face p))) (only s (uv_answer k n face (point_in p)))) e
      ∙ ap (λ o. past_rows s o (only s (uv_answer m n face (point_in p))))
      (rows_to b s.settings m n face p f there None (ap (λ t. refuse t (Rotation n face)) (even_by f.tex f asked refl (ap is_none is))))
      ∙ ap (λ o. only s (Short (coordinates_reply o (point_in p)))) there
      ∙ ap (λ o. only s (Short (elim o [ None ↦ Done | Some uv ↦ Coordinates (map kept uv) ]))) is ∙ ap (λ us. only s (Short (Coordinates us))) (kept_all cs)

  -- And the rotation is refused where there are none.
  pub refused_rotation : coordinates f asked ≡ None → AnswersPoint m n face p (No (Rotation n face))
  refused_rotation is s e b right =
      ap (λ k. past_rows s (first (rows b s.settings k (Uv n face p))) (only s (uv_answer k n face (point_in p)))) e
      ∙ ap (λ o. past_rows s o (only s (uv_answer m n face (point_in p))))
      (rows_to b s.settings m n face p f there (Some (Rotation n face)) (ap (λ t. refuse t (Rotation n face)) (odd_by f.tex f asked refl is)))
