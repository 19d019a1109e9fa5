-- A solid whose tags change in place.
use Rattle.std.proofs.Common.{◌≡◌, true, nat_lt, ℕ, zero, suc, ◌+◌, ◌^◌, ◌<◌, ◌≤◌, List, [], ◌∷◌, ◌++◌, length, map, take, drop, get_or, take_all, append-nil, add-one, refl, sym, ap, subst, ◌∙◌, arith}
use Rattle.std.proofs.Math.ListN.{set}
use Rattle.std.proofs.Math.Seq.{drop-nil}
use Rattle.std.proofs.lemmas.List.{length-map}
use Rattle.std.proofs.lemmas.Bool.Decides.{nat_tests}
use Rattle.algebra.specs.Members.{◌∈◌, here, there, Every}
use Rattle.algebra.proofs.Members.{member_at}
use Rattle.trim_laws.specs.Valid.{Valid}
use Rattle.solid_brush.specs.declared.side.Side.{Side}
use Rattle.solid_brush.specs.Sides.{with_base}
use Rattle.half_poly.specs.Shapes.{Tagged}
use Rattle.half_poly.specs.Tags.{with_base as more_tag}
use Rattle.solid_brush.specs.Cutting.{tagged, IsKeptSolid}
use Rattle.solid_brush.proofs.Tags.{every_map, half_spaces-with_base, tags_with_base}

-- the element that is reached is changed next
changed_more : {A : Type 0} (f : A → A) (old now : List A) (i : ℕ) (d : A) → i < length old → now ≡ map f (take i old) ++ drop i old →
    (get_or now i d ≡ get_or old i d) × (set now i (f (get_or old i d)) ≡ map f (take (suc i) old) ++ drop (suc i) old)
changed_more f [] now i d l e = absurd (omega (arith, l))
changed_more f (x ∷ old) now zero d l e = (ap (λ s. get_or s 0 d) e, ap (λ s. set s 0 (f x)) e)
changed_more f (x ∷ old) now (suc i) d l e =
    let rest = changed_more f old (map f (take i old) ++ drop i old) i d (omega (arith, l)) refl in
    (ap (λ s. get_or s (suc i) d) e ∙ rest.0, ap (λ s. set s (suc i) (f (get_or old i d))) e ∙ ap (λ s. f x ∷ s) rest.1)

pub next_changed : {A : Type 0} (f : A → A) (old now : List A) (i : ℕ) (d : A) → i < length old → now ≡ map f (take i old) ++ drop i old →
    set now i (f (get_or now i d)) ≡ map f (take (i + 1) old) ++ drop (i + 1) old
next_changed f old now i d l e =
    let more = changed_more f old now i d l e in
    ap (λ x. set now i (f x)) more.0 ∙ more.1 ∙ ap (λ n. map f (take n old) ++ drop n old) (sym (add-one i))

-- the side that is reached has the tag that it had
pub tag_fits : (base : ℕ) (old now : List Side) (i : ℕ) (s : Side) → i < length old → now ≡ map (with_base base) (take i old) ++ drop i old →
    Every (λ t. t.tag + base < 2 ^ 31) old → s ≡ get_or now i s → (get_or now i s).tag + base < 2 ^ 31
tag_fits base old now i s l e room is =
    let more = changed_more (with_base base) old now i s l e in
    subst (λ t. t.tag + base < 2 ^ 31) is (room s (subst (λ y. y ∈ old) (sym (is ∙ more.0)) (member_at old i s l)))

drop_all : {A : Type 0} (n : ℕ) (xs : List A) → length xs ≤ n → drop n xs ≡ []
drop_all n [] l = drop-nil n
drop_all zero (x ∷ xs) l = absurd (omega (arith, l))
drop_all (suc n) (x ∷ xs) l = drop_all n xs (omega (arith, l))

pub retagged : (base n : ℕ) (old read now : List Side) → read ≡ old → length read ≡ n → now ≡ map (with_base base) read → take n (now ++ drop (length now) old) ≡ map (with_base base) old
retagged base n old read now e l m =
    let now_is = m ∙ ap (map (with_base base)) e in
    let length_now : length now ≡ length read = ap length m ∙ length-map read (with_base base) in
    let length_old = ap length e in
    ap (λ rest. take n (now ++ rest)) (drop_all (length now) old (omega arith)) ∙ ap (take n) (append-nil now) ∙ take_all n now (omega arith) ∙ now_is

-- the polyhedron with other tags
with_tag : (base : ℕ) (s : Side) → s.tag < 2 ^ 31 → more_tag base (tagged s) ≡ tagged (with_base base s)
with_tag base s l = let t : nat_lt s.tag (2 ^ 31) ≡ true = grind (arith, nat_tests) in rw t refl

all_with_tags : (base : ℕ) (sides : List Side) → Every (λ s. s.tag < 2 ^ 31) sides → map (more_tag base) (map tagged sides) ≡ map tagged (map (with_base base) sides)
all_with_tags base [] small = refl
all_with_tags base (s ∷ sides) small = ap (λ x. x ∷ map (more_tag base) (map tagged sides)) (with_tag base s (small s here)) ∙ ap (λ l. tagged (with_base base s) ∷ l) (all_with_tags base sides (λ x m. small x (there m)))

pub room_of : (base : ℕ) (sides : List Side) (poly : List Tagged) → poly ≡ map tagged sides → Every (λ s. s.tag + base < 2 ^ 31) sides → Every (λ s. s.tag < 2 ^ 31 → s.tag + base < 2 ^ 31) poly
room_of base sides poly q room = subst (Every (λ s. s.tag < 2 ^ 31 → s.tag + base < 2 ^ 31)) (sym q) (every_map tagged (λ (s : Tagged). s.tag < 2 ^ 31 → s.tag + base < 2 ^ 31) sides (λ s m l. room s m))

pub kept_with_base : (base : ℕ) (sides : List Side) (poly after : List Tagged) → IsKeptSolid sides poly → Every (λ s. s.tag + base < 2 ^ 31) sides → after ≡ map (more_tag base) poly →
    IsKeptSolid (map (with_base base) sides) after
kept_with_base base sides poly after k room q =
    let e = sym (half_spaces-with_base base sides) in
    record {
      solid = record { tags = tags_with_base base sides k.solid.tags room; brush = subst Valid e k.solid.brush };
      same = q ∙ ap (map (more_tag base)) k.same ∙ all_with_tags base sides k.solid.tags.small;
    }
