-- Two members whose contents aren't changed are still one content.
use Rattle.std.proofs.Common.{◌≡◌, ℕ, List, [], ◌∷◌, length, Bool, true, false, ◌==◌, ◌&&◌, refl, ap, sym, ◌∙◌, Option, Some, None, option_map}
use Rattle.std.specs.Prelude.{unwrap_or}
use Rattle.algebra.specs.Members.{◌∈◌, here, there}
use Rattle.map_model.specs.Faces.{same_list}
use Rattle.map_model.specs.Motions.{stay, between}
use Rattle.map_model.specs.Tree.{Whole, Node, group, at, content, kind_of}
use Rattle.map_model.specs.Links.{One, at_both, content_agrees, same_counts_of_children, same_place, are_image_faces, same_group, origin_agrees, values_agree, leads}
use Rattle.map_laws.proofs.Skeleton.{kind_at}
use Rattle.map_laws.proofs.Slots.{slot_list}
use Rattle.link_laws.proofs.Edited.{group_linked}
use Rattle.link_laws.proofs.Remarked.{Unchanged}

-- A test of two slots.
abbrev both_slots : (Node → Node → Bool) → Option Node → Option Node → Bool
both_slots test None p = false
both_slots test (Some a) None = false
both_slots test (Some a) (Some b) = test a b

both_are : (m : Whole) (test : Node → Node → Bool) (n k : ℕ) → at_both m test n k ≡ both_slots test (at m n) (at m k)
both_are m test n k = by (at m n) (at m k)
  where
    by : (o p : Option Node) → (elim o as (λ o. Bool) [ None ↦ false | Some a ↦ elim p as (λ p. Bool) [ None ↦ false | Some b ↦ test a b ] ]) ≡ both_slots test o p
    by None p = refl
    by (Some a) None = refl
    by (Some a) (Some b) = refl

same_list_by : (t u : ℕ → ℕ → Bool) (xs ys : List ℕ) → ((x y : ℕ) → x ∈ xs → y ∈ ys → t x y ≡ u x y) → same_list t xs ys ≡ same_list u xs ys
same_list_by t u [] [] h = refl
same_list_by t u [] (y ∷ ys) h = refl
same_list_by t u (x ∷ xs) [] h = refl
same_list_by t u (x ∷ xs) (y ∷ ys) h = λ i. h x y here here i && same_list_by t u xs ys (λ a b j k. h a b (there j) (there k)) i

module _ (B M : Whole) (h k : ℕ) (a : Unchanged B M h) (b : Unchanged B M k) (live_h : kind_at M h ≡ Some group) (live_k : kind_at M k ≡ Some group) where
  agrees : (test : Node → Node → Bool) → content_agrees M test h k ≡ content_agrees B test h k
  agrees test = (λ i. same_list (at_both M test) (a.listed i) (b.listed i))
      ∙ same_list_by (at_both M test) (at_both B test) (content B h) (content B k) (λ x y i j.
      both_are M test x y ∙ (λ w. both_slots test (a.nodes x i w) (b.nodes y j w)) ∙ sym (both_are B test x y))

  counts : (o p q r : Option Node) → option_map kind_of o ≡ Some group → option_map kind_of p ≡ Some group → option_map kind_of q ≡ Some group → option_map kind_of r ≡ Some group →
      ((c : Bool) → slot_list c o ≡ slot_list c q) → ((c : Bool) → slot_list c p ≡ slot_list c r) → both_slots same_counts_of_children o p ≡ both_slots same_counts_of_children q r
  counts None p q r e f g i x y = absurd (cc)
  counts (Some u) None q r e f g i x y = absurd (cc)
  counts (Some u) (Some v) None r e f g i x y = absurd (cc)
  counts (Some u) (Some v) (Some w) None e f g i x y = absurd (cc)
  counts (Some u) (Some v) (Some w) (Some z) e f g i x y = λ j. (length (x true j) == length (y true j)) && (length (x false j) == length (y false j))

  tops : at_both M same_counts_of_children h k ≡ at_both B same_counts_of_children h k
  tops = both_are M same_counts_of_children h k
      ∙ counts (at M h) (at M k) (at B h) (at B k) live_h live_k (group_linked B h a.linked) (group_linked B k b.linked) a.lists b.lists
      ∙ sym (both_are B same_counts_of_children h k)

  motions : leads M h k ≡ leads B h k
  motions = λ i. between (unwrap_or (option_map (λ l. l.motion) (a.link i)) stay) (unwrap_or (option_map (λ l. l.motion) (b.link i)) stay)

  -- Condition for condition.
  pub still_one : One B h k → One M h k
  still_one o = record {
    tops = tops ∙ o.tops;
    places = agrees (same_place true) ∙ o.places;
    faces = ap (λ r. content_agrees M (are_image_faces r) h k) motions ∙ agrees (are_image_faces (leads B h k)) ∙ o.faces;
    groups = agrees same_group ∙ o.groups;
    origins = ap (λ r. content_agrees M (origin_agrees r) h k) motions ∙ agrees (origin_agrees (leads B h k)) ∙ o.origins;
    values = agrees values_agree ∙ o.values;
  }
