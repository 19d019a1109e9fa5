-- The pieces that are cut off a block, one side after another.
use Rattle.std.proofs.Common.{◌≡◌, ℕ, zero, suc, ◌+◌, ◌<◌, ◌≤◌, Bool, true, false, List, [], ◌∷◌, ◌++◌, length, map, take, drop, get_or, Option, None, Some, append_assoc, append-nil, add-one, refl, sym, ap, subst, ◌∙◌, arith}
use Rattle.std.proofs.lemmas.List.{take_all}
use Rattle.algebra.specs.Members.{◌∈◌, here, there}
use Rattle.algebra.specs.Space.{HalfSpace, reverse}
use Rattle.algebra.proofs.Identities.{through-swap}
use Rattle.exact_geom.specs.Planes.{vector}
use Rattle.piece_laws.specs.Pieces.{IsTrimOf, AreTrimsOf, no_lists, one_solid, one_empty, piece_lists, ArePieces, Remainder}
use Rattle.piece_laws.proofs.Faces.{pieces}
use Rattle.solid_brush.specs.declared.side.Side.{Side}
use Rattle.solid_brush.specs.Sides.{bounds, half_spaces}
use Rattle.solid_brush.specs.Blocks.{IsEmpty, IsTrimmedTo, IsCut}
use Rattle.solid_brush.proofs.Blocks.{trimmed_further, empty_further}
use Rattle.csg_ops.specs.Cuts.{reversed, HasPieces, IsCarved}

-- The half-space of a side that is seen from its other side.
pub turned : (s : Side) → bounds (reversed s) ≡ reverse (bounds s)
turned s = through-swap (vector s.plane.p0) (vector s.plane.p1) (vector s.plane.p2)

-- ---- the pieces so far
-- Whatever the pieces by the sides from the i-th on are, those so far and these are all.
abbrev pub HasSoFar : (a b : List Side) → ℕ → List (List Side) → Type 0
HasSoFar a b i so_far = (later : List (List Side)) → ArePieces bounds reversed (a ++ take i b) (drop i b) later → ArePieces bounds reversed a b (so_far ++ later)

pub none_so_far : (a b : List Side) → HasSoFar a b 0 []
none_so_far a b later p = subst (λ l. ArePieces bounds reversed l b later) (append-nil a) p

next_sides : (first more : List Side) (i : ℕ) (s : Side) → i < length more → s ≡ get_or more i s → (first ++ take i more) ++ s ∷ [] ≡ first ++ take (suc i) more
next_sides [] [] i s l e = absurd (omega arith)
next_sides [] (x ∷ more) zero s l e = ap (λ t. t ∷ []) e
next_sides [] (x ∷ more) (suc i) s l e = ap (λ t. x ∷ t) (next_sides [] more i s (omega arith) e)
next_sides (x ∷ first) more i s l e = ap (λ t. x ∷ t) (next_sides first more i s l e)

pub dropped : (more : List Side) (i : ℕ) (s : Side) → i < length more → s ≡ get_or more i s → drop i more ≡ s ∷ drop (suc i) more
dropped [] i s l e = absurd (omega arith)
dropped (x ∷ more) zero s l e = ap (λ t. t ∷ more) (sym e)
dropped (x ∷ more) (suc i) s l e = dropped more i s (omega arith) e

module _ (a b left : List Side) (i : ℕ) (s : Side) (l : i < length b) (e : s ≡ get_or b i s) (t : IsTrimmedTo (a ++ take i b) left) (so_far : List (List Side)) (h : HasSoFar a b i so_far) where
  next_is : (a ++ take i b) ++ s ∷ [] ≡ a ++ take (i + 1) b
  next_is = next_sides a b i s l e ∙ ap (λ n. a ++ take n b) (sym (add-one i))

  drop_is : drop i b ≡ s ∷ drop (i + 1) b
  drop_is = dropped b i s l e ∙ ap (λ n. s ∷ drop n b) (sym (add-one i))

  -- the lists of the pieces that are still to come
  lists_are : piece_lists reversed (a ++ take i b) (drop i b) ≡ ((a ++ take i b) ++ reversed s ∷ []) ∷ piece_lists reversed (a ++ take (i + 1) b) (drop (i + 1) b)
  lists_are = ap (λ d. piece_lists reversed (a ++ take i b) d) drop_is
      ∙ ap (λ n. ((a ++ take i b) ++ reversed s ∷ []) ∷ piece_lists reversed n (drop (i + 1) b)) next_is

  pub with_piece : (piece : List Side) (answer : Bool) → IsCut left (reversed s) piece answer → answer ≡ true → HasSoFar a b (i + 1) (so_far ++ piece ∷ [])
  with_piece piece answer c q later p =
      let u = trimmed_further (a ++ take i b) left piece (reversed s) t (subst (IsCut left (reversed s) piece) q c) in
      let o : IsTrimOf bounds ((a ++ take i b) ++ reversed s ∷ []) piece = record { volume = u.volume; trim = u.trim } in
      subst (AreTrimsOf bounds (piece_lists reversed a b)) (sym (append_assoc so_far (piece ∷ []) later))
      (h (piece ∷ later) (subst (λ lists. AreTrimsOf bounds lists (piece ∷ later)) (sym lists_are) (one_solid o p)))

  pub without_piece : (piece : List Side) (answer : Bool) → IsCut left (reversed s) piece answer → answer ≡ false → HasSoFar a b (i + 1) so_far
  without_piece piece answer c q later p =
      let n = empty_further (a ++ take i b) left (reversed s) t (subst (IsCut left (reversed s) piece) q c).0 in
      h later (subst (λ lists. AreTrimsOf bounds lists later) (sym lists_are) (one_empty n p))

pub all_pieces : (a b left : List Side) (i : ℕ) (so_far : List (List Side)) → length b ≤ i → IsTrimmedTo (a ++ take i b) left → HasSoFar a b i so_far → HasPieces a b so_far
all_pieces a b left i so_far l t h =
    let u = subst (λ x. IsTrimmedTo (a ++ x) left) (take_all i b l) t in record {
      proper = u.proper;
      common = u.volume;
      pieces_are = subst (AreTrimsOf bounds (piece_lists reversed a b)) (append-nil so_far) (h [] (subst (λ d. ArePieces bounds reversed (a ++ take i b) d []) (sym (none b i l)) no_lists));
    }
  where
    none : (xs : List Side) (i : ℕ) → length xs ≤ i → drop i xs ≡ []
    none [] zero l = refl
    none [] (suc i) l = refl
    none (x ∷ xs) zero l = absurd (omega arith)
    none (x ∷ xs) (suc i) l = none xs i (omega arith)

-- ---- the pieces are the remainder
spaces_left : (a b : List Side) (f : HalfSpace) → f ∈ half_spaces a → f ∈ half_spaces (a ++ b)
spaces_left [] b f m = elim m [ ]
spaces_left (x ∷ a) b f here = here
spaces_left (x ∷ a) b f (there m) = there (spaces_left a b f m)

spaces_right : (a b : List Side) (f : HalfSpace) → f ∈ half_spaces b → f ∈ half_spaces (a ++ b)
spaces_right [] b f m = m
spaces_right (x ∷ a) b f m = there (spaces_right a b f m)

pub remainder_of : (a b : List Side) (solids : List (List Side)) → HasPieces a b solids → Remainder (half_spaces a) (half_spaces b) (map half_spaces solids)
remainder_of a b solids p =
    let o = p.common.at in let i = p.common.inside in
    pieces Side bounds reversed a b solids o turned (λ f m. p.proper f (spaces_left a b f m)) (λ f m. p.proper f (spaces_right a b f m))
    (record { weight = i.weight; all = λ f m. i.all f (spaces_left a b f m) }) (record { weight = i.weight; all = λ f m. i.all f (spaces_right a b f m) }) p.pieces_are

-- What a copy of the block is cut to by the reversed side.
pub cut_of : (left copy piece : List Side) (turned side : Side) (answer : Bool) → copy ≡ left → turned ≡ reversed side → IsCut copy turned piece answer → IsCut left (reversed side) piece answer
cut_of left copy piece turned side answer q e c = subst (λ l. IsCut l (reversed side) piece answer) q (subst (λ s. IsCut copy s piece answer) e c)

-- ---- what is told of the brushes
pub has_pieces : (first now sides b : List Side) (carved : Option (List (List Side))) (blocks solids : List (List Side)) → first ≡ now → sides ≡ b → IsCarved first sides carved → carved ≡ Some blocks → solids ≡ blocks → HasPieces now b solids
has_pieces first now sides b carved blocks solids q r t e s =
    subst (HasPieces now b) (sym s) (subst (IsCarved now b) e (subst (λ l. IsCarved l b carved) q (subst (λ l. IsCarved first l carved) r t)))

pub none_carved : (first now sides b : List Side) (carved : Option (List (List Side))) → first ≡ now → sides ≡ b → IsCarved first sides carved → carved ≡ None → IsEmpty (now ++ b)
none_carved first now sides b carved q r t e = subst (IsCarved now b) e (subst (λ l. IsCarved l b carved) q (subst (λ l. IsCarved first l carved) r t))
