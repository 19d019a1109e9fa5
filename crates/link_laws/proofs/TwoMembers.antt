-- What the row of two members tells: of two edited groups that are in one set, both are one.
use Rattle.std.proofs.Common.{◌≡◌, ℕ, List, [], ◌∷◌, flat_map, Bool, true, false, not, ◌==◌, ◌&&◌, refl, ap, sym, ◌∙◌, Some, None, eqb-true}
use Rattle.std.specs.List.{list_any}
use Rattle.std.proofs.lemmas.Bool.{eq-eqb, true≢false}
use Rattle.algebra.specs.Members.{◌∈◌, here, there}
use Rattle.map_model.specs.Tree.{Whole, set_at, is_one_number}
use Rattle.map_model.specs.Below.{Below}
use Rattle.map_model.specs.Commands.{Command, Settings}
use Rattle.map_model.specs.Replies.{TwoMembers}
use Rattle.map_model.specs.Rows.{rows, first, refuse, named, edits, no_node, repeated, wrong_kind, nested_ids, locked_layer, two_members, two_members_from, are_two_members}
use Rattle.map_laws.proofs.Refused.{first_none, refuse_none, none_passes}

not_two : (m : Whole) (g h s : ℕ) → are_two_members m g h ≡ false → set_at m g ≡ Some s → set_at m h ≡ Some s → g ≡ h
not_two m g h s e f i = by (g == h) refl (ap (λ b. not (g == h) && b) (sym ((λ z. is_one_number (f z) (i z)) ∙ eq-eqb s s refl)) ∙ e)
  where
    by : (b : Bool) → (g == h) ≡ b → (not b && true) ≡ false → g ≡ h
    by true f e = eqb-true g h f
    by false f e = absurd (true≢false e)

with_earlier : (m : Whole) (earlier rest : List ℕ) → two_members_from m earlier rest ≡ None → (g h s : ℕ) → g ∈ rest → h ∈ earlier → set_at m g ≡ Some s → set_at m h ≡ Some s → g ≡ h
with_earlier m earlier [] e g h s i j f k = elim i [ ]
with_earlier m earlier (x ∷ rest) e g h s here j f k =
    let w = first_none (refuse (list_any (are_two_members m x) earlier) (TwoMembers x)) (two_members_from m (x ∷ earlier) rest ∷ []) e in
    not_two m x h s (none_passes (are_two_members m x) earlier (refuse_none (list_any (are_two_members m x) earlier) (TwoMembers x) w.0) h j) f k
with_earlier m earlier (x ∷ rest) e g h s (there i) j f k =
    let w = first_none (refuse (list_any (are_two_members m x) earlier) (TwoMembers x)) (two_members_from m (x ∷ earlier) rest ∷ []) e in
    with_earlier m (x ∷ earlier) rest (first_none (two_members_from m (x ∷ earlier) rest) [] w.1).0 g h s i (there j) f k

both_in : (m : Whole) (earlier rest : List ℕ) → two_members_from m earlier rest ≡ None → (g h s : ℕ) → g ∈ rest → h ∈ rest → set_at m g ≡ Some s → set_at m h ≡ Some s → g ≡ h
both_in m earlier [] e g h s i j f k = elim i [ ]
both_in m earlier (x ∷ rest) e g h s i j f k =
    let w = first_none (refuse (list_any (are_two_members m x) earlier) (TwoMembers x)) (two_members_from m (x ∷ earlier) rest ∷ []) e in
    let later = (first_none (two_members_from m (x ∷ earlier) rest) [] w.1).0 in
    by g h i j f k later (λ g h i j f k. both_in m (x ∷ earlier) rest later g h s i j f k)
  where
    by : (g h : ℕ) → g ∈ (x ∷ rest) → h ∈ (x ∷ rest) → set_at m g ≡ Some s → set_at m h ≡ Some s → two_members_from m (x ∷ earlier) rest ≡ None →
        ((g h : ℕ) → g ∈ rest → h ∈ rest → set_at m g ≡ Some s → set_at m h ≡ Some s → g ≡ h) → g ≡ h
    by g h here here f k later both = refl
    by g h here (there j) f k later both = sym (with_earlier m (x ∷ earlier) rest later h g s j here k f)
    by g h (there i) here f k later both = with_earlier m (x ∷ earlier) rest later g h s i here f k
    by g h (there i) (there j) f k later both = both g h i j f k

pub one_edited : (b : Below) (s : Settings) (m : Whole) (c : Command) → first (rows b s m c) ≡ None → (g h t : ℕ) → g ∈ flat_map (edits m c) (named c) → h ∈ flat_map (edits m c) (named c) →
    set_at m g ≡ Some t → set_at m h ≡ Some t → g ≡ h
one_edited b s m c e =
    let a1 = first_none (no_node m c) _ e in
    let a2 = first_none (repeated c) _ a1.1 in
    let a3 = first_none (wrong_kind m c) _ a2.1 in
    let a4 = first_none (nested_ids m c) _ a3.1 in
    let a5 = first_none (locked_layer m c) _ a4.1 in
    both_in m [] (flat_map (edits m c) (named c)) (first_none (two_members m c) _ a5.1).0
