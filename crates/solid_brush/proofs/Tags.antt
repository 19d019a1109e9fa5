-- Sides whose tags change, and sides that are left out.
use Rattle.std.proofs.Common.{◌≡◌, ℕ, ◌+◌, ◌^◌, ◌<◌, ◌≤◌, List, [], ◌∷◌, length, map, refl, ap, arith}
use Rattle.algebra.specs.Members.{◌∈◌, here, there, Every}
use Rattle.algebra.proofs.Members.{each_of_more}
use Rattle.trim_laws.specs.Trim.{TrimsFaces, no_faces, keeps_face, drops_face}
use Rattle.solid_brush.specs.declared.side.Side.{Side}
use Rattle.solid_brush.specs.Sides.{bounds, half_spaces, DistinctTags, no_sides, one_more_side, HaveTags, with_base}

-- ---- images
pub every_map : {A B : Type 0} (f : A → B) (P : B → Type 0) (xs : List A) → Every (λ x. P (f x)) xs → Every P (map f xs)
every_map f P [] each = λ y m. elim m [ ]
every_map f P (x ∷ xs) each = each_of_more P (f x) (map f xs) (each x here) (every_map f P xs (λ y m. each y (there m)))

-- ---- other tags
pub half_spaces-with_base : (base : ℕ) (sides : List Side) → half_spaces (map (with_base base) sides) ≡ half_spaces sides
half_spaces-with_base base [] = refl
half_spaces-with_base base (s ∷ sides) = ap (λ F. bounds s ∷ F) (half_spaces-with_base base sides)

distinct_with_base : (base : ℕ) {sides : List Side} → DistinctTags sides → DistinctTags (map (with_base base) sides)
distinct_with_base base no_sides = no_sides
distinct_with_base base (one_more_side {s} {sides} apart others) =
    one_more_side (every_map (with_base base) (λ t. ¬ (s.tag + base ≡ t.tag)) sides (λ t m e. apart t m (omega arith))) (distinct_with_base base others)

pub tags_with_base : (base : ℕ) (sides : List Side) → HaveTags sides → Every (λ s. s.tag + base < 2 ^ 31) sides → HaveTags (map (with_base base) sides)
tags_with_base base sides tags room =
    record { distinct = distinct_with_base base tags.distinct; small = every_map (with_base base) (λ s. s.tag < 2 ^ 31) sides room }

-- ---- sides that trimming keeps
pub kept_in : {F earlier rest kept : List Side} → TrimsFaces bounds F earlier rest kept → (s : Side) → s ∈ kept → s ∈ rest
kept_in no_faces s m = m
kept_in (keeps_face {rest = rest} {kept = kept} {f = f} is_kept later) s m = each_of_more (λ t. t ∈ (f ∷ rest)) f kept here (λ t n. there (kept_in later t n)) s m
kept_in (drops_face not_kept later) s m = there (kept_in later s m)

pub kept_fewer : {F earlier rest kept : List Side} → TrimsFaces bounds F earlier rest kept → length kept ≤ length rest
kept_fewer no_faces = omega arith
kept_fewer (keeps_face is_kept later) = let h = kept_fewer later in omega arith
kept_fewer (drops_face not_kept later) = let h = kept_fewer later in omega arith

kept_distinct : {F earlier rest kept : List Side} → TrimsFaces bounds F earlier rest kept → DistinctTags rest → DistinctTags kept
kept_distinct no_faces no_sides = no_sides
kept_distinct (keeps_face is_kept later) (one_more_side apart others) = one_more_side (λ t m. apart t (kept_in later t m)) (kept_distinct later others)
kept_distinct (drops_face not_kept later) (one_more_side apart others) = kept_distinct later others

pub kept_tags : {F kept : List Side} → TrimsFaces bounds F [] F kept → HaveTags F → HaveTags kept
kept_tags trim tags = record { distinct = kept_distinct trim tags.distinct; small = λ s m. tags.small s (kept_in trim s m) }
