-- Contents that a command leaves as they are stay one content.
use Rattle.std.proofs.Common.{◌≡◌, ◌≢◌, ℕ, Bool, true, refl, ap, sym, ◌∙◌, subst, Option, Some, None, option_map, arith}
use Rattle.std.specs.Prelude.{unwrap_or}
use Rattle.map_model.specs.Motions.{stay, between}
use Rattle.map_model.specs.Faces.{same_list}
use Rattle.map_model.specs.Tree.{Whole, Node, World, at, up, content, link_of, link_at, set_at, with_link}
use Rattle.map_model.specs.Edits.{renew}
use Rattle.map_model.specs.Shape.{Shape}
use Rattle.map_model.specs.Links.{at_both, content_agrees, same_counts_of_children, IsOneContent, AllOne}
use Rattle.map_laws.proofs.Beneath.{Beneath}
use Rattle.map_laws.proofs.Forest.{not_none}
use Rattle.map_laws.proofs.Slots.{at-renew_same, at-renew_other}
use Rattle.link_laws.proofs.Contents.{SameContent, same_content, renew_same}
use Rattle.link_laws.specs.Elsewhere.{LeavesMembers, ElsewhereLaw, UnlinkLaw}
use Rattle.lock_laws.proofs.Steps.{mapped}
use Rattle.link_laws.proofs.Putting.{from_content}
use Rattle.link_laws.proofs.Ones.{Linked, placed, fm, cm, root, apart}
use Rattle.link_laws.proofs.SpreadOne.{same_tests, slot_at_both, set_linked}

module _ (m k : Whole) (L : LeavesMembers m k) where
  link_same : (p s : ℕ) → set_at k p ≡ Some s → link_at k p ≡ link_at m p
  link_same p s e = ap (λ o. unwrap_or (option_map link_of o) None) (L.groups p s e)

  set_same : (p s : ℕ) → set_at k p ≡ Some s → set_at m p ≡ Some s
  set_same p s e = ap (option_map (λ l. l.set)) (sym (link_same p s e)) ∙ e

  pub all_left : AllOne m → AllOne k
  all_left all s g h e f ne =
      let one = all s g h (set_same g s e) (set_same h s f) ne in
      let tests : (test : Node → Node → Bool) → content_agrees m test g h ≡ true → content_agrees k test g h ≡ true = λ test t.
      (λ z. same_list (at_both k test) (L.contents g s e z) (L.contents h s f z))
      ∙ same_tests m k test (content m g) (content m h) (λ q i. L.nodes g s q e i) (λ q i. L.nodes h s q f i) ∙ t in
      subst (λ r. IsOneContent k true r g h)
      (λ i. between (unwrap_or (option_map (λ l. l.motion) (sym (link_same g s e) i)) stay) (unwrap_or (option_map (λ l. l.motion) (sym (link_same h s f) i)) stay))
      (record {
        tops = (λ z. slot_at_both same_counts_of_children (L.groups g s e z) (L.groups h s f z)) ∙ one.tops;
        places = tests _ one.places;
        faces = tests _ one.faces;
        groups = tests _ one.groups;
        origins = tests _ one.origins;
        values = tests _ one.values;
      })

pub elsewhere_is : ElsewhereLaw
elsewhere_is m k L all = all_left m k L all

-- ---- unlink
link-gone : (x : Node) → link_of (with_link None x) ≡ None
link-gone x = elim x as (λ x. link_of (with_link None x) ≡ None) [ World a b c d ↦ refl | _ ↦ refl ]

slot_gone : (o : Option Node) → unwrap_or (option_map link_of (option_map (with_link None) o)) None ≡ None
slot_gone None = refl
slot_gone (Some x) = link-gone x

module _ (m : Whole) (g : ℕ) (shape : Shape m) (linked : Linked m g) where
  abbrev k : Whole
  k = renew g (with_link None) m

  gone : link_at k g ≡ None
  gone = ap (λ o. unwrap_or (option_map link_of o) None) (at-renew_same m g g (with_link None) refl) ∙ slot_gone (at m g)

  other : (p s : ℕ) → set_at k p ≡ Some s → p ≢ g
  other p s e t = let w = mapped (λ l. l.set) (link_at k p) s e in not_none w.1 (ap (link_at k) t ∙ gone)

  still_linked : (p s : ℕ) → set_at k p ≡ Some s → Linked m p
  still_linked p s e = set_linked m p s (ap (λ o. option_map (λ l. l.set) (unwrap_or (option_map link_of o) None)) (sym (at-renew_other m g p (with_link None) (other p s e))) ∙ e)

  out : (p s : ℕ) → set_at k p ≡ Some s → Beneath (up m) p g → ⊥
  out p s e b = apart m shape p g (still_linked p s e) linked (other p s e) b

  same : (p s : ℕ) → set_at k p ≡ Some s → SameContent p m k
  same p s e = renew_same m g p (with_link None) (out p s e)

  pub unlinked : LeavesMembers m k
  unlinked = record {
    groups = λ p s e. at-renew_other m g p (with_link None) (other p s e);
    contents = λ p s e. same_content (same p s e) (fm m shape) (cm m shape) (root m shape p (still_linked p s e)) (omega arith);
    nodes = λ p s q e i. let w = from_content m (placed m shape) shape.numbers.nodes p (root m shape p (still_linked p s e)) q i in (same p s e).nodes q w.0 w.1;
  }

pub unlink_is : UnlinkLaw
unlink_is m g shape linked all = all_left m (renew g (with_link None) m) (unlinked m g shape linked) all
