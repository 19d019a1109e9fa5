-- The rule of the first misfit, and what it means.
use Rattle.std.proofs.Common.{◌≡◌, ◌↔◌, ℕ, ◌+◌, inl, inr, Bool, true, false, cond, List, [], ◌∷◌, ◌++◌, length, drop, Option, Some, None, codes, refl, sym, ap, ◌∙◌, subst, arith}
use Rattle.std.specs.Str.{bytes_eq}
use Rattle.std.proofs.lemmas.Slice.Eq.{bytes_eq-Decides}
use Rattle.fixed_num.specs.Count.{is_number_word, count_of}
use Rattle.fixed_num.specs.Scan.{scan, scan_unsigned, scan_power}
use Rattle.cmd_text.specs.declared.kinds.Kind.{Kind}
use Rattle.cmd_text.specs.declared.kinds.Kind.TheVariants.{Node, Face, Quarters, Coordinate, Shift, Thickness, Grid, Axis, Part, Switch, Name, Value, Micro, Nano, Pico, Wide, Dash}
use Rattle.cmd_text.specs.declared.kinds.More.{More}
use Rattle.cmd_text.specs.declared.kinds.More.TheVariants.{End, Nodes, Points, Surface}
use Rattle.cmd_text.specs.declared.verb.Verb.{Verb}
use Rattle.cmd_text.specs.Spelling.{number_of, number_within, signed_of, whole_within, plain_number_within, grid_of, axis_of, part_of, switch_of, is_name, is_dash, count_below, wide_of}
use Rattle.cmd_text.specs.Table.{point, words_of, fits, group_of, wanted, follows, fits_first, misfit_from, misfit_of}
use Rattle.cmd_text.specs.Rule.{dashes, surface_kinds, MayFollow, AreOf, all_of, AreRightFrom, AreRight, StopsAt, IsFirstMisfit}

append_nothing : {A : Type 0} (xs : List A) → xs ++ [] ≡ xs
append_nothing [] = refl
append_nothing (x ∷ xs) = ap (λ l. x ∷ l) (append_nothing xs)

-- a word that fits, one at a time
pub went_on : (t : Bool) (later : Option ℕ) (place : ℕ) → cond t later (Some place) ≡ None → (t ≡ true) × (later ≡ None)
went_on true later place e = (refl, e)
went_on false later place e = absurd (cc)

-- no number is a dash
no_wide_dash : fits Wide (codes "-") ≡ false
unfolding fits wide_of is_number_word scan scan_unsigned
no_wide_dash = refl

wide_no_dash : (word : List ℕ) → fits Wide word ≡ true → is_dash word ≡ false
unfolding is_dash
wide_no_dash word wide = by (bytes_eq word (codes "-")) refl
  where
    by : (t : Bool) → bytes_eq word (codes "-") ≡ t → t ≡ false
    by false e = refl
    by true e =
        let same : word ≡ codes "-" = (bytes_eq-Decides word (codes "-")).0 e in
        let no : false ≡ true = sym no_wide_dash ∙ ap (fits Wide) (sym same) ∙ wide in
        absurd (cc)

-- what is passed by the rule is right
right_word : (kind : Kind) (kinds : List Kind) (more : More) (word : List ℕ) (words : List (List ℕ)) → fits kind word ≡ true → AreRightFrom kinds more words → AreRightFrom (kind ∷ kinds) more (word ∷ words)
right_word kind kinds more word words f right = record { groups = right.groups; may_follow = right.may_follow; are_of = (f, right.are_of) }

right_nodes : (word : List ℕ) (words : List (List ℕ)) → fits Node word ≡ true → AreRightFrom [] Nodes words → AreRightFrom [] Nodes (word ∷ words)
right_nodes word words f right = record { groups = (Node ∷ []) ∷ right.groups; may_follow = (refl, right.may_follow); are_of = (f, right.are_of) }

right_points : (word : List ℕ) (words : List (List ℕ)) → fits Coordinate word ≡ true → AreRightFrom (Coordinate ∷ Coordinate ∷ []) Points words → AreRightFrom [] Points (word ∷ words)
right_points word words f right = record { groups = point ∷ right.groups; may_follow = (refl, right.may_follow); are_of = (f, right.are_of) }

right_dashes : (word : List ℕ) (words : List (List ℕ)) → fits Dash word ≡ true → AreRightFrom (Dash ∷ Dash ∷ []) End words → AreRightFrom [] Surface (word ∷ words)
right_dashes word words f right = record {
  groups = dashes ∷ [];
  may_follow = inr (inl refl);
  are_of = (f, subst (λ groups. AreOf ((Dash ∷ Dash ∷ []) ++ all_of groups) words) right.may_follow right.are_of);
}

right_surface : (word : List ℕ) (words : List (List ℕ)) → fits Wide word ≡ true → AreRightFrom (Wide ∷ Micro ∷ []) End words → AreRightFrom [] Surface (word ∷ words)
right_surface word words f right = record {
  groups = surface_kinds ∷ [];
  may_follow = inr (inr refl);
  are_of = (f, subst (λ groups. AreOf ((Wide ∷ Micro ∷ []) ++ all_of groups) words) right.may_follow right.are_of);
}

none_follow : (more : More) → MayFollow more []
none_follow End = refl
none_follow Nodes = tt
none_follow Points = tt
none_follow Surface = inl refl

-- the words are passed, where the first is a dash or not
abbrev Passed : ℕ → List ℕ → List (List ℕ) → Bool → Type 0
Passed place word words t =
    cond (fits_first (cond t dashes surface_kinds) word) (misfit_from (place + 1) (drop 1 (cond t dashes surface_kinds)) End words) (Some place) ≡ None

right_surface_words : (place : ℕ) (word : List ℕ) (words : List (List ℕ)) → (misfit_from (place + 1) (Dash ∷ Dash ∷ []) End words ≡ None → AreRightFrom (Dash ∷ Dash ∷ []) End words)
    → (misfit_from (place + 1) (Wide ∷ Micro ∷ []) End words ≡ None → AreRightFrom (Wide ∷ Micro ∷ []) End words) → Passed place word words (is_dash word) → AreRightFrom [] Surface (word ∷ words)
unfolding fits
right_surface_words place word words with_dashes with_numbers e = by (is_dash word) refl
  where
    by : (t : Bool) → is_dash word ≡ t → AreRightFrom [] Surface (word ∷ words)
    by true d =
        let f : Passed place word words true = subst (Passed place word words) d e in
        let step = went_on (fits Dash word) (misfit_from (place + 1) (Dash ∷ Dash ∷ []) End words) place f in
        right_dashes word words step.0 (with_dashes step.1)
    by false d =
        let f : Passed place word words false = subst (Passed place word words) d e in
        let step = went_on (fits Wide word) (misfit_from (place + 1) (Wide ∷ Micro ∷ []) End words) place f in
        right_surface word words step.0 (with_numbers step.1)

pub passed_right : (place : ℕ) (kinds : List Kind) (more : More) (words : List (List ℕ)) → misfit_from place kinds more words ≡ None → AreRightFrom kinds more words
unfolding group_of
passed_right place [] more [] e = record { groups = []; may_follow = none_follow more; are_of = tt }
passed_right place (kind ∷ kinds) more [] e = absurd (cc)
passed_right place (kind ∷ kinds) more (word ∷ words) e =
    let step = went_on (fits kind word) (misfit_from (place + 1) kinds more words) place e in
    right_word kind kinds more word words step.0 (passed_right (place + 1) kinds more words step.1)
passed_right place [] End (word ∷ words) e = absurd (cc)
passed_right place [] Nodes (word ∷ words) e =
    let step = went_on (fits Node word) (misfit_from (place + 1) [] Nodes words) place e in
    right_nodes word words step.0 (passed_right (place + 1) [] Nodes words step.1)
passed_right place [] Points (word ∷ words) e =
    let step = went_on (fits Coordinate word) (misfit_from (place + 1) (Coordinate ∷ Coordinate ∷ []) Points words) place e in
    right_points word words step.0 (passed_right (place + 1) (Coordinate ∷ Coordinate ∷ []) Points words step.1)
passed_right place [] Surface (word ∷ words) e =
    right_surface_words place word words (passed_right (place + 1) (Dash ∷ Dash ∷ []) End words) (passed_right (place + 1) (Wide ∷ Micro ∷ []) End words) e

-- and what is right is passed
goes_on : (t : Bool) (later : Option ℕ) (place : ℕ) → t ≡ true → later ≡ None → cond t later (Some place) ≡ None
goes_on true later place e l = l
goes_on false later place e l = absurd (cc)

of_passed : (place : ℕ) (kinds : List Kind) (more : More) (words : List (List ℕ)) (groups : List (List Kind)) → MayFollow more groups → AreOf (kinds ++ all_of groups) words → misfit_from place kinds more words ≡ None
unfolding group_of fits
of_passed place [] more [] groups follow of = refl
of_passed place (kind ∷ kinds) more [] groups follow of = absurd of
of_passed place (kind ∷ kinds) more (word ∷ words) groups follow of =
    goes_on (fits kind word) (misfit_from (place + 1) kinds more words) place of.0 (of_passed (place + 1) kinds more words groups follow of.1)
of_passed place [] more (word ∷ words) [] follow of = absurd of
of_passed place [] End (word ∷ words) (group ∷ groups) follow of = absurd (cc)
of_passed place [] Nodes (word ∷ words) (group ∷ groups) follow of =
    let of : AreOf ((Node ∷ []) ++ all_of groups) (word ∷ words) = subst (λ g. AreOf (g ++ all_of groups) (word ∷ words)) follow.0 of in
    goes_on (fits Node word) (misfit_from (place + 1) [] Nodes words) place of.0 (of_passed (place + 1) [] Nodes words groups follow.1 of.1)
of_passed place [] Points (word ∷ words) (group ∷ groups) follow of =
    let of : AreOf (point ++ all_of groups) (word ∷ words) = subst (λ g. AreOf (g ++ all_of groups) (word ∷ words)) follow.0 of in
    goes_on (fits Coordinate word) (misfit_from (place + 1) (Coordinate ∷ Coordinate ∷ []) Points words) place of.0
    (of_passed (place + 1) (Coordinate ∷ Coordinate ∷ []) Points words groups follow.1 of.1)
of_passed place [] Surface (word ∷ words) (group ∷ groups) (inl none) of = absurd (cc)
of_passed place [] Surface (word ∷ words) (group ∷ groups) (inr (inl are)) of =
    let of : AreOf (all_of (dashes ∷ [])) (word ∷ words) = subst (λ g. AreOf (all_of g) (word ∷ words)) are of in
    subst (Passed place word words) (sym of.0)
    (goes_on (fits Dash word) (misfit_from (place + 1) (Dash ∷ Dash ∷ []) End words) place of.0 (of_passed (place + 1) (Dash ∷ Dash ∷ []) End words [] refl of.1))
of_passed place [] Surface (word ∷ words) (group ∷ groups) (inr (inr are)) of =
    let of : AreOf (all_of (surface_kinds ∷ [])) (word ∷ words) = subst (λ g. AreOf (all_of g) (word ∷ words)) are of in
    subst (Passed place word words) (sym (wide_no_dash word of.0))
    (goes_on (fits Wide word) (misfit_from (place + 1) (Wide ∷ Micro ∷ []) End words) place of.0 (of_passed (place + 1) (Wide ∷ Micro ∷ []) End words [] refl of.1))

pub right_passed : (place : ℕ) (kinds : List Kind) (more : More) (words : List (List ℕ)) → AreRightFrom kinds more words → misfit_from place kinds more words ≡ None
right_passed place kinds more words right = of_passed place kinds more words right.groups right.may_follow right.are_of

-- a word of each kind
example : Kind → List ℕ
example Quarters = codes "1"
example Thickness = codes "1"
example Grid = codes "1"
example Axis = codes "x"
example Part = codes "both"
example Switch = codes "on"
example Name = codes "a"
example Dash = codes "-"
example _ = codes "0"

example_fits : (kind : Kind) → fits kind (example kind) ≡ true
unfolding example fits number_of number_within signed_of whole_within plain_number_within grid_of axis_of part_of switch_of is_name is_dash count_below wide_of is_number_word count_of scan scan_unsigned scan_power
example_fits Quarters = refl
example_fits Thickness = refl
example_fits Grid = refl
example_fits Axis = refl
example_fits Part = refl
example_fits Switch = refl
example_fits Name = refl
example_fits Dash = refl
example_fits Node = refl
example_fits Face = refl
example_fits Coordinate = refl
example_fits Shift = refl
example_fits Value = refl
example_fits Micro = refl
example_fits Nano = refl
example_fits Pico = refl
example_fits Wide = refl

examples : List Kind → List (List ℕ)
examples [] = []
examples (kind ∷ kinds) = example kind ∷ examples kinds

examples_are_of : (kinds : List Kind) → AreOf (kinds ++ []) (examples kinds)
unfolding examples
examples_are_of [] = tt
examples_are_of (kind ∷ kinds) = (example_fits kind, examples_are_of kinds)

examples_right : (kinds : List Kind) (more : More) → AreRightFrom kinds more (examples kinds)
examples_right kinds more = record { groups = []; may_follow = none_follow more; are_of = examples_are_of kinds }

-- a misfit that was found, counting from another place
record Found (Right : List (List ℕ) → Type 0) (words : List (List ℕ)) (start place : ℕ) : Type 0 where
  pub before : List (List ℕ)
  pub rest : List (List ℕ)
  pub whole : words ≡ before ++ rest
  pub place_is : place ≡ start + length before
  pub others : List (List ℕ)
  pub begins_right : Right (before ++ others)
  pub stops : StopsAt Right before rest

stops_later : (Right Later : List (List ℕ) → Type 0) (word : List ℕ) (before rest : List (List ℕ)) → ((words : List (List ℕ)) → Right (word ∷ words) → Later words) → StopsAt Later before rest → StopsAt Right (word ∷ before) rest
stops_later Right Later word before [] back stops = λ right. stops (back before right)
stops_later Right Later word before (next ∷ rest) back stops = λ others right. stops others (back (before ++ next ∷ others) right)

found_later : (Right Later : List (List ℕ) → Type 0) (word : List ℕ) (words : List (List ℕ)) (start place : ℕ) → ((words : List (List ℕ)) → Later words → Right (word ∷ words))
    → ((words : List (List ℕ)) → Right (word ∷ words) → Later words) → Found Later words (start + 1) place → Found Right (word ∷ words) start place
found_later Right Later word words start place forth back later = record {
  before = word ∷ later.before;
  rest = later.rest;
  whole = ap (λ l. word ∷ l) later.whole;
  place_is = (let e : place ≡ (start + 1) + length later.before = later.place_is in omega (arith, e));
  others = later.others;
  begins_right = forth (later.before ++ later.others) later.begins_right;
  stops = stops_later Right Later word later.before later.rest back later.stops;
}

found_first : (start : ℕ) (kinds : List Kind) (more : More) (word : List ℕ) (words : List (List ℕ)) (place : ℕ)
    → (misfit_from (start + 1) (drop 1 (wanted kinds more word)) (follows kinds more) words ≡ Some place
    → Found (AreRightFrom (drop 1 (wanted kinds more word)) (follows kinds more)) words (start + 1) place)
    → misfit_from start kinds more (word ∷ words) ≡ Some place → Found (AreRightFrom kinds more) (word ∷ words) start place
found_first start kinds more word words place later e = by (fits_first (wanted kinds more word) word) refl
  where
    by : (t : Bool) → fits_first (wanted kinds more word) word ≡ t → Found (AreRightFrom kinds more) (word ∷ words) start place
    by true f =
        found_later (AreRightFrom kinds more) (AreRightFrom (drop 1 (wanted kinds more word)) (follows kinds more)) word words start place
        (λ others right. passed_right start kinds more (word ∷ others) (goes_on (fits_first (wanted kinds more word) word) (misfit_from (start + 1) (drop 1 (wanted kinds more word)) (follows kinds more) others) start f (right_passed (start + 1) (drop 1 (wanted kinds more word)) (follows kinds more) others right)))
        (λ others right. passed_right (start + 1) (drop 1 (wanted kinds more word)) (follows kinds more) others (went_on (fits_first (wanted kinds more word) word) (misfit_from (start + 1) (drop 1 (wanted kinds more word)) (follows kinds more) others) start (right_passed start kinds more (word ∷ others) right)).1)
        (later (sym (ap (λ t. cond t (misfit_from (start + 1) (drop 1 (wanted kinds more word)) (follows kinds more) words) (Some start)) f) ∙ e))
    by false f =
        let here : Some start ≡ Some place = sym (ap (λ t. cond t (misfit_from (start + 1) (drop 1 (wanted kinds more word)) (follows kinds more) words) (Some start)) f) ∙ e in
        let same : start ≡ place = cc in
        record {
          before = [];
          rest = word ∷ words;
          whole = refl;
          place_is = omega (arith, same);
          others = examples kinds;
          begins_right = examples_right kinds more;
          stops = λ others right. (
              let fit : fits_first (wanted kinds more word) word ≡ true = (went_on (fits_first (wanted kinds more word) word) (misfit_from (start + 1) (drop 1 (wanted kinds more word)) (follows kinds more) others) start (right_passed start kinds more (word ∷ others) right)).0 in
              absurd (cc));
        }

misfit_found : (start : ℕ) (kinds : List Kind) (more : More) (words : List (List ℕ)) (place : ℕ) → misfit_from start kinds more words ≡ Some place → Found (AreRightFrom kinds more) words start place
misfit_found start [] more [] place e = absurd (cc)
misfit_found start (kind ∷ kinds) more [] place e =
    let same : start ≡ place = cc in
    record {
      before = [];
      rest = [];
      whole = refl;
      place_is = omega (arith, same);
      others = examples (kind ∷ kinds);
      begins_right = examples_right (kind ∷ kinds) more;
      stops = λ right. right.are_of;
    }
misfit_found start kinds more (word ∷ words) place e =
    found_first start kinds more word words place (misfit_found (start + 1) (drop 1 (wanted kinds more word)) (follows kinds more) words place) e

pub right_law : (verb : Verb) (words : List (List ℕ)) → (misfit_of verb words ≡ None) ↔ AreRight verb words
unfolding misfit_of
right_law verb words = (
  λ e. passed_right 1 (words_of verb).kinds (words_of verb).more words e,
  λ right. right_passed 1 (words_of verb).kinds (words_of verb).more words right,
)

pub first_misfit_law : (verb : Verb) (words : List (List ℕ)) (place : ℕ) → misfit_of verb words ≡ Some place → IsFirstMisfit (AreRight verb) words place
unfolding misfit_of
first_misfit_law verb words place e =
    let found = misfit_found 1 (words_of verb).kinds (words_of verb).more words place e in
    let place_is : place ≡ 1 + length found.before = found.place_is in
    record {
      before = found.before;
      rest = found.rest;
      whole = found.whole;
      place_is = omega (arith, place_is);
      others = found.others;
      begins_right = found.begins_right;
      stops = found.stops;
    }

-- ---- there is one first misfit

-- behind a first word
stops_from : (Right : List (List ℕ) → Type 0) (w x : List ℕ) (c s : List (List ℕ)) → x ≡ w → StopsAt Right (x ∷ c) s → StopsAt (λ others. Right (w ∷ others)) c s
stops_from Right w x c [] head stops = λ right. stops (subst (λ y. Right (y ∷ c)) (sym head) right)
stops_from Right w x c (next ∷ s) head stops = λ others right. stops others (subst (λ y. Right (y ∷ (c ++ next ∷ others))) (sym head) right)

-- the words before two of them are as many
same_before : (Right : List (List ℕ) → Type 0) (b c r s o p words : List (List ℕ)) → words ≡ b ++ r → words ≡ c ++ s → Right (b ++ o) → Right (c ++ p) → StopsAt Right b r → StopsAt Right c s → length b ≡ length c
same_before Right [] [] r s o p words u v f g k l = refl
same_before Right [] (w ∷ c) [] s o p words u v f g k l = let no : [] ≡ w ∷ (c ++ s) = sym u ∙ v in absurd (cc)
same_before Right [] (w ∷ c) (x ∷ r) s o p words u v f g k l =
    let same : x ∷ r ≡ w ∷ (c ++ s) = sym u ∙ v in
    let head : w ≡ x = cc in
    absurd (k (c ++ p) (subst (λ y. Right (y ∷ (c ++ p))) head g))
same_before Right (w ∷ b) [] r [] o p words u v f g k l = let no : [] ≡ w ∷ (b ++ r) = sym v ∙ u in absurd (cc)
same_before Right (w ∷ b) [] r (x ∷ s) o p words u v f g k l =
    let same : x ∷ s ≡ w ∷ (b ++ r) = sym v ∙ u in
    let head : w ≡ x = cc in
    absurd (l (b ++ o) (subst (λ y. Right (y ∷ (b ++ o))) head f))
same_before Right (w ∷ b) (x ∷ c) r s o p words u v f g k l =
    let same : w ∷ (b ++ r) ≡ x ∷ (c ++ s) = sym u ∙ v in
    let head : x ≡ w = cc in
    let rest : b ++ r ≡ c ++ s = cc in
    let later : StopsAt (λ others. Right (w ∷ others)) c s = stops_from Right w x c s head l in
    let e : length b ≡ length c =
    same_before (λ others. Right (w ∷ others)) b c r s o p (b ++ r) refl rest f (subst (λ y. Right (y ∷ (c ++ p))) head g) (stops_from Right w w b r refl k) later in
    omega (arith, e)

-- no right words have one
no_misfit : (Right : List (List ℕ) → Type 0) (words : List (List ℕ)) (place : ℕ) → IsFirstMisfit Right words place → Right words → ⊥
no_misfit Right words place found right = by found.rest found.whole found.stops
  where
    by : (rest : List (List ℕ)) → words ≡ found.before ++ rest → StopsAt Right found.before rest → ⊥
    by [] whole stops = stops (subst Right (whole ∙ append_nothing found.before) right)
    by (next ∷ rest) whole stops = stops rest (subst Right whole right)

-- it is the one that the rule finds
pub misfit_is : (verb : Verb) (words : List (List ℕ)) (place : ℕ) → IsFirstMisfit (AreRight verb) words place → misfit_of verb words ≡ Some place
misfit_is verb words place found = by (misfit_of verb words) refl
  where
    by : (o : Option ℕ) → misfit_of verb words ≡ o → misfit_of verb words ≡ Some place
    by None e = absurd (no_misfit (AreRight verb) words place found ((right_law verb words).0 e))
    by (Some other) e =
        let first = first_misfit_law verb words other e in
        let same = same_before (AreRight verb) first.before found.before first.rest found.rest first.others found.others words first.whole found.whole first.begins_right found.begins_right first.stops found.stops in
        let here : other ≡ length first.before + 1 = first.place_is in
        let there : place ≡ length found.before + 1 = found.place_is in
        let equal : other ≡ place = omega (arith, same, here, there) in
        e ∙ ap Some equal
