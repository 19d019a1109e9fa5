-- The face with a tag.
use Rattle.std.proofs.Common.{◌≡◌, ℕ, zero, suc, ◌+◌, ◌<◌, ◌≤◌, Bool, true, false, IsTrue, ◌↔◌, is_some, nat_eq, List, [], ◌∷◌, length, get_or, slice_get, Option, None, Some, IsSome, MatchOption, refl, sym, ap, subst, ◌∙◌, arith, ⊎_elim}
use Rattle.std.specs.Option.{option_map, option_and_then}
use Rattle.std.proofs.lemmas.Bool.{cases_eq}
use Rattle.std.proofs.lemmas.List.{length-map}
use Rattle.std.proofs.lemmas.Option.{slice_get-map}
use Rattle.std.proofs.lemmas.Bool.Decides.{nat_tests}
use Rattle.algebra.specs.Members.{◌∈◌, here, there as further, Every}
use Rattle.algebra.specs.Space.{Homogeneous, HalfSpace}
use Rattle.algebra.proofs.Members.{member_at, at_of_member}
use Rattle.half_arena.specs.declared.ids.FaceId.{FaceId}
use Rattle.solid_laws.specs.Names.{AreVertices}
use Rattle.solid_laws.specs.FaceLoop.{IsNumberedLoop, HasLoopVertex}
use Rattle.half_poly.specs.declared.links.Face.{Face}
use Rattle.half_poly.specs.Shapes.{Tagged, no_side, bounds, solid_of, side_at, sides_of}
use Rattle.half_poly.specs.Tags.{tag_place, tags_of, with_tag, HasTaggedLoopVertex}
use Rattle.half_poly.proofs.ArenaReads.{there}
use Rattle.half_poly.proofs.Listed.{get_map, source}
use Rattle.half_poly.proofs.Shaping.{side_is}

place_at : (tags : List ℕ) (tag k : ℕ) → k < length tags → ((j : ℕ) → j < k → nat_eq (get_or tags j 0) tag ≡ false) → nat_eq (get_or tags k 0) tag ≡ true → tag_place tags tag ≡ Some k
place_at [] tag k l before t = absurd (omega arith)
place_at (x ∷ tags) tag zero l before t = rw t refl
place_at (x ∷ tags) tag (suc k) l before t =
    let m = place_at tags tag k (omega arith) (λ j h. before (suc j) (omega arith)) t in rw (before zero (omega arith), m) refl

no_place : (tags : List ℕ) (tag : ℕ) → ((j : ℕ) → j < length tags → nat_eq (get_or tags j 0) tag ≡ false) → tag_place tags tag ≡ None
no_place [] tag none = refl
no_place (x ∷ tags) tag none = let m = no_place tags tag (λ j h. none (suc j) (omega arith)) in rw (none zero (omega arith), m) refl

module _ (Fc : ℕ → Option Face) (order : List FaceId) (tag n : ℕ) where
  abbrev tags : List ℕ
  tags = tags_of (sides_of Fc order)

  tags_long : length tags ≡ length order
  tags_long = length-map (sides_of Fc order) (λ (s : Tagged). s.tag) ∙ length-map order (side_at Fc)

  module _ (listed : (id : FaceId) → id ∈ order → IsSome (Fc id.0)) (l : n < length order) (before : (j : ℕ) → j < n → nat_eq (get_or tags j 0) tag ≡ false)
      (r : Bool) (is : (f : Face) → Fc (get_or order n (record { 0 = 0 })).0 ≡ Some f → r ≡ nat_eq f.tag tag) where
    id : FaceId
    id = get_or order n (record { 0 = 0 })

    read_here : r ≡ nat_eq (get_or tags n 0) tag
    unfolding id
    read_here =
        let x = there (Fc id.0) (listed id (member_at order n (record { 0 = 0 }) l)) in
        is x.it x.is ∙ ap (λ t. nat_eq t tag) (sym (get_map (λ (s : Tagged). s.tag) (sides_of Fc order) n no_side 0 (subst (λ k. n < k) (sym (length-map order (side_at Fc))) l)
        ∙ ap (λ (s : Tagged). s.tag) (get_map (side_at Fc) order n (record { 0 = 0 }) no_side l ∙ side_is Fc id x.it x.is)))

    pub tag_found : r ≡ true → Some n ≡ tag_place tags tag
    tag_found t = sym (place_at tags tag n (subst (λ k. n < k) (sym tags_long) l) before (sym read_here ∙ t))

    pub tag_passed : r ≡ false → (j : ℕ) → j < n + 1 → nat_eq (get_or tags j 0) tag ≡ false
    tag_passed f j m = ⊎_elim (λ (e : j ≡ n). ap (λ k. nat_eq (get_or tags k 0) tag) e ∙ sym read_here ∙ f) (λ (d : ¬ (j ≡ n)). before j (grind arith)) (cases_eq j n)

  pub no_tag : length order ≤ n → ((j : ℕ) → j < n → nat_eq (get_or tags j 0) tag ≡ false) → None ≡ tag_place tags tag
  no_tag l before = sym (no_place tags tag (λ j h. before j (let e = tags_long in omega arith)))

-- ---- the loop of the face with a tag
with_place : (sides : List Tagged) (tag n : ℕ) → tag_place (tags_of sides) tag ≡ Some n → with_tag sides tag ≡ slice_get sides n
with_place sides tag n q = ap (option_and_then (λ k. slice_get sides k)) q

without_place : (sides : List Tagged) (tag : ℕ) → tag_place (tags_of sides) tag ≡ None → with_tag sides tag ≡ None
without_place sides tag q = ap (option_and_then (λ k. slice_get sides k)) q

pub tagged_loop : (sides : List Tagged) (tag face k : ℕ) (r : Option ℕ) → tag_place (tags_of sides) tag ≡ Some face → HasLoopVertex (solid_of sides) face k r → HasTaggedLoopVertex sides tag k r
tagged_loop sides tag face k r q h = record {
  V = h.V;
  numbers = h.numbers;
  vertices = h.vertices;
  face_loop = by (slice_get sides face) refl;
  is_number = h.is_number;
}
  where
    at : {o : Option HalfSpace} → slice_get (solid_of sides) face ≡ o → MatchOption o (h.numbers ≡ []) (λ f. IsNumberedLoop (solid_of sides) f h.V h.numbers)
    at e = subst (λ o. MatchOption o (h.numbers ≡ []) (λ f. IsNumberedLoop (solid_of sides) f h.V h.numbers)) e h.face_loop

    to : {o : Option Tagged} → with_tag sides tag ≡ o → MatchOption o (h.numbers ≡ []) (λ s. IsNumberedLoop (solid_of sides) (bounds s) h.V h.numbers) →
        MatchOption (with_tag sides tag) (h.numbers ≡ []) (λ s. IsNumberedLoop (solid_of sides) (bounds s) h.V h.numbers)
    to e m = subst (λ o. MatchOption o (h.numbers ≡ []) (λ s. IsNumberedLoop (solid_of sides) (bounds s) h.V h.numbers)) (sym e) m

    by : (o : Option Tagged) → slice_get sides face ≡ o → MatchOption (with_tag sides tag) (h.numbers ≡ []) (λ s. IsNumberedLoop (solid_of sides) (bounds s) h.V h.numbers)
    by None e = to (with_place sides tag face q ∙ e) (at (slice_get-map bounds sides face ∙ ap (option_map bounds) e))
    by (Some s) e = to (with_place sides tag face q ∙ e) (at (slice_get-map bounds sides face ∙ ap (option_map bounds) e))

abbrev no_numbers : List ℕ
no_numbers = []

pub untagged_loop : (sides : List Tagged) (tag k : ℕ) (V : List Homogeneous) → tag_place (tags_of sides) tag ≡ None → AreVertices (solid_of sides) V → HasTaggedLoopVertex sides tag k None
untagged_loop sides tag k V q a = record {
  V = V;
  numbers = [];
  vertices = a;
  face_loop = subst (λ o. MatchOption o (no_numbers ≡ []) (λ s. IsNumberedLoop (solid_of sides) (bounds s) V no_numbers)) (sym (without_place sides tag q)) refl;
  is_number = past k;
}
  where
    past : (k : ℕ) → slice_get no_numbers k ≡ None
    past zero = refl
    past (suc k) = refl

-- ---- whether a face has the tag
some_none : {k : ℕ} → Some k ≡ None → ⊥
some_none {k} z = cc

none_by : (x : ℕ) (tags : List ℕ) (tag : ℕ) → tag_place (x ∷ tags) tag ≡ None → (tag_place tags tag ≡ None → (j : ℕ) → j < length tags → nat_eq (get_or tags j 0) tag ≡ false) →
    (b : Bool) → nat_eq x tag ≡ b → (o : Option ℕ) → tag_place tags tag ≡ o → (j : ℕ) → j < length (x ∷ tags) → nat_eq (get_or (x ∷ tags) j 0) tag ≡ false
none_by x tags tag q rest true e o f j l = let z : tag_place (x ∷ tags) tag ≡ Some 0 = rw e refl in absurd (some_none (sym z ∙ q))
none_by x tags tag q rest false e None f zero l = e
none_by x tags tag q rest false e None f (suc j) l = rest f j (omega arith)
none_by x tags tag q rest false e (Some k) f j l = let z : tag_place (x ∷ tags) tag ≡ Some (suc k) = rw (e, f) refl in absurd (some_none (sym z ∙ q))

place_none : (tags : List ℕ) (tag : ℕ) → tag_place tags tag ≡ None → (j : ℕ) → j < length tags → nat_eq (get_or tags j 0) tag ≡ false
place_none [] tag q j l = absurd (omega arith)
place_none (x ∷ tags) tag q j l = none_by x tags tag q (place_none tags tag) (nat_eq x tag) refl (tag_place tags tag) refl j l

same_is : {a b : ℕ} → nat_eq a b ≡ true → a ≡ b
same_is {a} {b} h = grind (arith, nat_tests)

some_by : (x : ℕ) (tags : List ℕ) (tag k : ℕ) → tag_place (x ∷ tags) tag ≡ Some k → ((j : ℕ) → tag_place tags tag ≡ Some j → tag ∈ tags) → (b : Bool) → nat_eq x tag ≡ b → (o : Option ℕ) → tag_place tags tag ≡ o → tag ∈ (x ∷ tags)
some_by x tags tag k q rest true e o f = subst (λ t. t ∈ (x ∷ tags)) (same_is e) here
some_by x tags tag k q rest false e (Some j) f = further (rest j f)
some_by x tags tag k q rest false e None f = let z : tag_place (x ∷ tags) tag ≡ None = rw (e, f) refl in absurd (some_none (sym q ∙ z))

place_some : (tags : List ℕ) (tag k : ℕ) → tag_place tags tag ≡ Some k → tag ∈ tags
place_some [] tag k q = absurd (cc)
place_some (x ∷ tags) tag k q = some_by x tags tag k q (place_some tags tag) (nat_eq x tag) refl (tag_place tags tag) refl

pub none_has : (sides : List Tagged) (tag : ℕ) → tag_place (tags_of sides) tag ≡ None → Every (λ s. ¬ (s.tag ≡ tag)) sides
none_has sides tag q s m e =
    let a = at_of_member sides s s m in
    let z = place_none (tags_of sides) tag q a.index (subst (λ n. a.index < n) (sym (length-map sides (λ (t : Tagged). t.tag))) a.within) in
    let r = get_map (λ (t : Tagged). t.tag) sides a.index s 0 a.within ∙ ap (λ (t : Tagged). t.tag) a.is ∙ e in differ z r
  where
    differ : {a b : ℕ} → nat_eq a b ≡ false → a ≡ b → ⊥
    differ {a} {b} h k = grind (arith, nat_tests)

pub some_has : (sides : List Tagged) (tag k : ℕ) → tag_place (tags_of sides) tag ≡ Some k → ¬ (Every (λ s. ¬ (s.tag ≡ tag)) sides)
some_has sides tag k q all = let x = source (λ (t : Tagged). t.tag) sides tag (place_some (tags_of sides) tag k q) in all x.it x.among x.is

pub not_had : (sides : List Tagged) (tag : ℕ) (o : Option ℕ) (r : Bool) → tag_place (tags_of sides) tag ≡ o → r ≡ is_some o → r ≡ false → Every (λ s. ¬ (s.tag ≡ tag)) sides
not_had sides tag None r q e f = none_has sides tag q
not_had sides tag (Some k) r q e f = absurd (cc)

pub had : (sides : List Tagged) (tag : ℕ) (o : Option ℕ) (r : Bool) → tag_place (tags_of sides) tag ≡ o → r ≡ is_some o → IsTrue r ↔ ¬ (Every (λ s. ¬ (s.tag ≡ tag)) sides)
had sides tag None r q e = (λ t. absurd (cc), λ n. absurd (n (none_has sides tag q)))
had sides tag (Some k) r q e = (λ t. some_has sides tag k q, λ n. cc)
