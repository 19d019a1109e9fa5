-- The brushes of a list one after another: all their faces, and their solids.
use Rattle.std.proofs.Common.{◌≡◌, ℕ, suc, ◌+◌, ◌*◌, ◌^◌, ◌<◌, ◌≤◌, List, [], ◌∷◌, ◌++◌, length, take, get_or, refl, ap, sym, subst, ◌∙◌, arith, append_assoc, append-nil}
use Rattle.std.proofs.lemmas.List.{length-append, take_all, take_more}
use Rattle.solid_brush.specs.declared.side.Side.{Side}
use Rattle.map_nodes.specs.Seen.{sides_from}
use Rattle.map_model.specs.Faces.{Face}
use Rattle.map_model.specs.Tree.{Whole, faces_at}
use Rattle.map_model.specs.Rows.{all_faces}
use Rattle.cut_plans.specs.Intersects.{sides_in_turn}

-- One more brush.
faces_more : (m : Whole) (ns : List ℕ) (n : ℕ) → all_faces m (ns ++ n ∷ []) ≡ all_faces m ns ++ faces_at m n
faces_more m [] n = append-nil (faces_at m n)
faces_more m (x ∷ ns) n = ap (λ l. faces_at m x ++ l) (faces_more m ns n) ∙ sym (append_assoc (faces_at m x) (all_faces m ns) (faces_at m n))

sides_more : (m : Whole) (k : ℕ) (ns : List ℕ) (n : ℕ) → sides_in_turn m k (ns ++ n ∷ []) ≡ sides_in_turn m k ns ++ sides_from (k + length (all_faces m ns)) (faces_at m n) ∷ []
sides_more m k [] n = ap (λ j. sides_from j (faces_at m n) ∷ []) (let e : k ≡ k + 0 = omega arith in e)
sides_more m k (x ∷ ns) n =
    let sum : (k + length (faces_at m x)) + length (all_faces m ns) ≡ k + length (faces_at m x ++ all_faces m ns) = omega (arith, length-append (faces_at m x) (all_faces m ns)) in
    ap (λ l. sides_from k (faces_at m x) ∷ l) (sides_more m (k + length (faces_at m x)) ns n)
    ∙ ap (λ j. sides_from k (faces_at m x) ∷ (sides_in_turn m (k + length (faces_at m x)) ns ++ sides_from j (faces_at m n) ∷ [])) sum

module _ (m : Whole) (ns : List ℕ) (i n : ℕ) (lt : i < length ns) (is : n ≡ get_or ns i n) where
  next_taken : take (i + 1) ns ≡ take i ns ++ n ∷ []
  next_taken = take_more ns i n lt ∙ ap (λ k. take i ns ++ k ∷ []) (sym is)

  pub all_more : (now new fs : List Face) → now ≡ all_faces m (take i ns) → fs ≡ faces_at m n → new ≡ now ++ fs → new ≡ all_faces m (take (i + 1) ns)
  all_more now new fs so_far e more = more ∙ (λ k. so_far k ++ e k) ∙ sym (ap (all_faces m) next_taken ∙ faces_more m (take i ns) n)

pub all_done : (m : Whole) (ns : List ℕ) (i : ℕ) (now : List Face) → length ns ≤ i → now ≡ all_faces m (take i ns) → now ≡ all_faces m ns
all_done m ns i now le e = e ∙ ap (all_faces m) (take_all i ns le)

-- The solids of the first i brushes, and how many faces these have.
pub record InTurn (m : Whole) (ns : List ℕ) (i : ℕ) (now : List (List Side)) (base : ℕ) : Type 0 where
  pub made : now ≡ sides_in_turn m 0 (take i ns)
  pub count : base ≡ length (all_faces m (take i ns))
  pub most : base ≤ 128 * i

pub none_in_turn : (m : Whole) (ns : List ℕ) (now : List (List Side)) → now ≡ [] → InTurn m ns 0 now 0
none_in_turn m ns now e = record { made = e; count = refl; most = omega arith }

pub room_in_turn : (m : Whole) (ns : List ℕ) (i base : ℕ) (now : List (List Side)) → InTurn m ns i now base → i < length ns → length ns < 4096 → base ≤ 2 ^ 19
room_in_turn m ns i base now h lt few = omega (arith, h.most)

pub next_in_turn : (m : Whole) (ns : List ℕ) (i n : ℕ) → i < length ns → n ≡ get_or ns i n → (now new : List (List Side)) (base : ℕ) (fs : List Face) (solid : List Side) → InTurn m ns i now base → fs ≡ faces_at m n → length fs ≤ 128 →
    solid ≡ sides_from base fs → new ≡ now ++ solid ∷ [] → InTurn m ns (i + 1) new (base + length fs)
next_in_turn m ns i n lt is now new base fs solid h e few same more = let from_zero : length (all_faces m (take i ns)) ≡ 0 + length (all_faces m (take i ns)) = omega arith in record {
  made = more ∙ (λ k. h.made k ++ (same ∙ (λ j. sides_from ((h.count ∙ from_zero) j) (e j))) k ∷ []) ∙ sym (ap (sides_in_turn m 0) (next_taken m ns i n lt is) ∙ sides_more m 0 (take i ns) n);
  count =
      let sum : length (all_faces m (take (i + 1) ns)) ≡ length (all_faces m (take i ns)) + length (faces_at m n) =
      ap length (ap (all_faces m) (next_taken m ns i n lt is) ∙ faces_more m (take i ns) n) ∙ length-append (all_faces m (take i ns)) (faces_at m n) in
      omega (arith, sum, h.count, ap length e);
  most = omega (arith, h.most, few);
}

pub solids_done : (m : Whole) (ns : List ℕ) (i base : ℕ) (now : List (List Side)) → length ns ≤ i → InTurn m ns i now base → now ≡ sides_in_turn m 0 ns
solids_done m ns i base now le h = h.made ∙ ap (sides_in_turn m 0) (take_all i ns le)
