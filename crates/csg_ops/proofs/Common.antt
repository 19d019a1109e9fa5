-- What several brushes have in common.
use Rattle.std.proofs.Common.{◌≡◌, ℕ, zero, suc, ◌+◌, ◌^◌, ◌<◌, ◌≤◌, List, [], ◌∷◌, ◌++◌, length, take, drop, get_or, append_assoc, append-nil, add-one, refl, sym, ap, subst, ◌∙◌, arith}
use Rattle.std.proofs.lemmas.List.{take_all, length-map, length-append}
use Rattle.algebra.specs.Members.{◌∈◌, here, there}
use Rattle.trim_laws.specs.Trim.{TrimsFaces, no_faces, keeps_face, drops_face}
use Rattle.solid_brush.specs.declared.side.Side.{Side}
use Rattle.solid_brush.specs.Sides.{bounds, DistinctTags, no_sides, one_more_side, HaveTags, IsSolid}
use Rattle.solid_brush.specs.Blocks.{IsEmpty, IsTrimmedTo}
use Rattle.solid_brush.proofs.Meeting.{few_sides}
use Rattle.csg_ops.specs.Cuts.{all_sides, IsFirstApart}

-- ---- tags of what is trimmed, and of what comes behind it
kept_first : {F earlier A block : List Side} (s : List Side) → TrimsFaces bounds F earlier A block → (t : Side) → t ∈ (block ++ s) → t ∈ (A ++ s)
kept_first s no_faces t m = m
kept_first s (keeps_face k more) t here = here
kept_first s (keeps_face k more) t (there m) = there (kept_first s more t m)
kept_first s (drops_face k more) t m = there (kept_first s more t m)

distinct_first : {F earlier A block : List Side} (s : List Side) → TrimsFaces bounds F earlier A block → DistinctTags (A ++ s) → DistinctTags (block ++ s)
distinct_first s no_faces d = d
distinct_first s (keeps_face k more) (one_more_side apart others) = one_more_side (λ t m. apart t (kept_first s more t m)) (distinct_first s more others)
distinct_first s (drops_face k more) (one_more_side apart others) = distinct_first s more others

pub tags_first : {A block : List Side} (s : List Side) → IsTrimmedTo A block → HaveTags (A ++ s) → HaveTags (block ++ s)
tags_first s t tags = record { distinct = distinct_first s t.trim tags.distinct; small = λ x m. tags.small x (kept_first s t.trim x m) }

in_left : {A : Type 0} (xs ys : List A) (x : A) → x ∈ xs → x ∈ (xs ++ ys)
in_left [] ys x m = elim m [ ]
in_left (y ∷ xs) ys x here = here
in_left (y ∷ xs) ys x (there m) = there (in_left xs ys x m)

distinct_left : (xs ys : List Side) → DistinctTags (xs ++ ys) → DistinctTags xs
distinct_left [] ys d = no_sides
distinct_left (x ∷ xs) ys (one_more_side apart others) = one_more_side (λ t m. apart t (in_left xs ys t m)) (distinct_left xs ys others)

tags_left : (xs ys : List Side) → HaveTags (xs ++ ys) → HaveTags xs
tags_left xs ys tags = record { distinct = distinct_left xs ys tags.distinct; small = λ x m. tags.small x (in_left xs ys x m) }

-- ---- the solids so far
next_common : (solids : List (List Side)) (k : ℕ) (s : List Side) → k < length solids → s ≡ get_or solids k s → all_sides (take k solids) ++ s ≡ all_sides (take (suc k) solids)
next_common [] k s l e = absurd (omega arith)
next_common (x ∷ solids) zero s l e = e ∙ sym (append-nil x)
next_common (x ∷ solids) (suc k) s l e = append_assoc x (all_sides (take k solids)) s ∙ ap (λ r. x ++ r) (next_common solids k s (omega arith) e)

parts : (solids : List (List Side)) (k : ℕ) → all_sides (take k solids) ++ all_sides (drop k solids) ≡ all_sides solids
parts [] zero = refl
parts [] (suc k) = refl
parts (x ∷ solids) zero = refl
parts (x ∷ solids) (suc k) = append_assoc x (all_sides (take k solids)) (all_sides (drop k solids)) ∙ ap (λ r. x ++ r) (parts solids k)

module _ (solids : List (List Side)) (k : ℕ) (s : List Side) (l : k < length solids) (e : s ≡ get_or solids k s) (block : List Side) (t : IsTrimmedTo (all_sides (take k solids)) block) where
  next_is : all_sides (take k solids) ++ s ≡ all_sides (take (k + 1) solids)
  next_is = next_common solids k s l e ∙ ap (λ n. all_sides (take n solids)) (sym (add-one k))

  pub next_tags : HaveTags (all_sides solids) → HaveTags (block ++ s)
  next_tags tags = tags_first s t (subst HaveTags (sym next_is) (tags_left (all_sides (take (k + 1) solids)) (all_sides (drop (k + 1) solids)) (subst HaveTags (sym (parts solids (k + 1))) tags)))

  pub next_trimmed : (met : List Side) → IsTrimmedTo (all_sides (take k solids) ++ s) met → IsTrimmedTo (all_sides (take (k + 1) solids)) met
  next_trimmed met u = subst (λ all. IsTrimmedTo all met) next_is u

  pub first_apart : IsEmpty (all_sides (take k solids) ++ s) → IsFirstApart solids k
  first_apart n = record { within = l; common = t.volume; empty = subst IsEmpty next_is n }

pub common_at_start : (solids : List (List Side)) (s block : List Side) → 0 < length solids → s ≡ get_or solids 0 s → IsTrimmedTo s block → IsTrimmedTo (all_sides (take 1 solids)) block
common_at_start [] s block l e t = absurd (omega arith)
common_at_start (x ∷ solids) s block l e t = subst (λ all. IsTrimmedTo all block) (e ∙ sym (append-nil x)) t

pub all_common : (solids : List (List Side)) (k : ℕ) (block : List Side) → length solids ≤ k → IsTrimmedTo (all_sides (take k solids)) block → IsTrimmedTo (all_sides solids) block
all_common solids k block l t = subst (λ list. IsTrimmedTo (all_sides list) block) (take_all k solids l) t

-- ---- how many solids there are, by the count of their sides
pub first_counted : (n : ℕ) → 1 ≤ n + 1
first_counted n = omega arith

counted_plain : (k m n both : ℕ) → k ≤ m + 1 → 4 ≤ n → both ≡ m + n → k + 1 ≤ both
counted_plain k m n both h f e = omega arith

module _ (solids : List (List Side)) (k : ℕ) (s : List Side) (l : k < length solids) (e : s ≡ get_or solids k s) (solid : IsSolid s) where
  -- A solid has four sides at least.
  with_next : k ≤ length (all_sides (take k solids)) + 1 → k + 1 ≤ length (all_sides (take (k + 1) solids))
  with_next h = counted_plain k (length (all_sides (take k solids))) (length s) (length (all_sides (take (k + 1) solids))) h
      (subst (λ n. 4 ≤ n) (length-map s bounds) solid.brush.least)
      (ap length (sym (next_common solids k s l e ∙ ap (λ n. all_sides (take n solids)) (sym (add-one k)))) ∙ length-append (all_sides (take k solids)) s)

  pub next_counted : k ≤ length (all_sides (take k solids)) + 1 → k + 1 ≤ length (all_sides (take (k + 1) solids)) + 1
  next_counted h = let m = with_next h in omega arith

  pub at_most_all : HaveTags (all_sides solids) → k ≤ length (all_sides (take k solids)) + 1 → k < 2 ^ 32
  at_most_all tags h =
      let m = with_next h in
      let n = few_sides (all_sides (take (k + 1) solids)) (tags_left (all_sides (take (k + 1) solids)) (all_sides (drop (k + 1) solids)) (subst HaveTags (sym (parts solids (k + 1))) tags)) in omega arith
