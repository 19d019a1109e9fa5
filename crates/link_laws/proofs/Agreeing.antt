-- Members that are one content agree in values at each mark.
use Rattle.std.proofs.Common.{◌≡◌, ℕ, List, [], ◌∷◌, true, refl, ap, sym, ◌∙◌, Option, Some, None, option_map, eqb-true}
use Rattle.std.specs.Prelude.{unwrap_or}
use Rattle.std.proofs.lemmas.Bool.{and_parts, true≢false}
use Rattle.algebra.specs.Members.{◌∈◌, here, there}
use Rattle.map_model.specs.Tree.{Whole, Node, at, content, kind_of, mark_of, mark_at, same_kind}
use Rattle.map_model.specs.Shape.{Shape}
use Rattle.map_model.specs.Links.{same_mark, same_place, same_counts_of_children, values_agree, One, leads, AgreeInValues}
use Rattle.link_laws.specs.Spreading.{OthersLaw}
use Rattle.link_laws.proofs.Putting.{one_number}
use Rattle.link_laws.proofs.Ones.{Both, Linked, over_content}
use Rattle.link_laws.proofs.SpreadOne.{other_is, set_linked}
use Rattle.link_laws.proofs.Protecting.{Zip, zip_from, at_both_from}

partner : (P : ℕ → ℕ → Type 0) (l k : List ℕ) → Zip P l k → (n : ℕ) → n ∈ l → (o : ℕ) × (o ∈ k) × P n o
partner P [] k z n i = elim i [ ]
partner P (x ∷ l) [] z n i = absurd z
partner P (x ∷ l) (y ∷ k) z n here = (y, here, z.0)
partner P (x ∷ l) (y ∷ k) z n (there i) = let w = partner P l k z.1 n i in (w.0, there w.1, w.2)

same_mark_is : (a b : Option ℕ) → same_mark a b ≡ true → a ≡ b
same_mark_is None None e = refl
same_mark_is None (Some b) e = absurd (true≢false (sym e))
same_mark_is (Some a) None e = absurd (true≢false (sym e))
same_mark_is (Some a) (Some b) e = ap Some (eqb-true a b e)

pub place_marks : (a b : Node) → same_place true a b ≡ true → mark_of a ≡ mark_of b
place_marks a b e =
    same_mark_is (mark_of a) (mark_of b) (and_parts (same_counts_of_children a b) _ (and_parts (same_kind (kind_of a) (kind_of b)) _ e).1).1

pub agree_from_one : (m : Whole) (h k : ℕ) → Shape m → Linked m h → Linked m k → One m h k → AgreeInValues m h k
agree_from_one m h k shape l x one n o i j e =
    let z = zip_from m (leads m h k) (content m h) (content m k) one.places one.faces one.groups one.origins one.values in
    let w = partner (Both m (leads m h k)) (content m h) (content m k) z n i in
    let b = w.2 in
    let q = one_number (mark_at m n) (mark_at m o) e in
    let same : mark_at m n ≡ mark_at m w.0 =
    ap (λ o. unwrap_or (option_map mark_of o) None) b.at_first ∙ place_marks b.first b.second b.agree.place ∙ sym (ap (λ o. unwrap_or (option_map mark_of o) None) b.at_second) in
    let is : w.0 ≡ o = shape.marks.distinct k w.0 o (over_content m shape k w.0 x w.1) (over_content m shape k o x j) (sym same ∙ q.1 ∙ sym q.2) in
    at_both_from m values_agree n o b.first b.second b.at_first (ap (at m) (sym is) ∙ b.at_second) b.agree.values

pub others_is : OthersLaw
others_is m g shape all h k i j ne =
    let o = other_is m g h i in let p = other_is m g k j in
    agree_from_one m h k shape (set_linked m h o.set o.own) (set_linked m k p.set p.own) (all o.set h k o.own (p.own ∙ sym p.same ∙ o.same) ne)
