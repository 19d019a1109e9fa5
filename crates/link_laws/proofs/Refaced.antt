-- A map with the faces that its nodes come to have: it stands between a map and what a command that remakes brushes makes of it.
use Rattle.std.proofs.Common.{◌≡◌, ℕ, ◌<◌, List, Bool, true, false, refl, ap, sym, ◌∙◌, subst, Option, Some, None, option_map, inl, inr}
use Rattle.std.specs.Prelude.{unwrap_or, option_and_then}
use Rattle.std.proofs.lemmas.Bool.{cases_lt}
use Rattle.uv_lock.specs.declared.texture.Format.TheVariants.{Standard}
use Rattle.map_model.specs.Faces.{Face}
use Rattle.map_model.specs.Tree.{Whole, Node, World, world, at, kind_of, parent_of, link_of, mark_of, mark_at, faces_of, format_of, format_of_node, with_faces}
use Rattle.map_model.specs.Shape.{Shape, NodeOk, LinkOk, EachNode}
use Rattle.map_laws.specs.Placed.{Placed}
use Rattle.map_laws.proofs.Forest.{not_none}
use Rattle.map_laws.proofs.Skeleton.{placed_of, kind_is}
use Rattle.map_laws.proofs.Slots.{slot_list}
use Rattle.map_laws.proofs.Kept.{Comes, bare, bare_slot, KeptAt, ok_alike}
use Rattle.map_laws.proofs.Renewing.{Alike, alike_standing, alike_numbers, alike_marks}
use Rattle.map_laws.proofs.Retexturing.{keeps_faces}
use Rattle.link_laws.proofs.Erasing.{erased, erase, erased_format}
use Rattle.link_laws.proofs.ErasedShape.{right_with_link, right_link, placed_by_erased}
use Rattle.link_laws.proofs.Stems.{stem, KeepsStems, stem_slot, same_stems, stem_link, bare_stems}

-- The slot o with the faces of the slot p.
abbrev pub reface : Option Node → Option Node → Option Node
reface None o = o
reface (Some y) o = option_map (with_faces (faces_of y)) o

abbrev pub refaced : Whole → Whole → Whole
refaced k m = record m { nodes = λ q. reface (k.nodes q) (m.nodes q) }

refaced_word : {A : Type 0} (w : Node → A) → ((fs : List Face) (x : Node) → w (with_faces fs x) ≡ w x) → (p o : Option Node) → option_map w (reface p o) ≡ option_map w o
refaced_word w h None o = refl
refaced_word w h (Some y) None = refl
refaced_word w h (Some y) (Some x) = ap Some (h (faces_of y) x)

refaced_up : (p o : Option Node) → option_and_then parent_of (reface p o) ≡ option_and_then parent_of o
refaced_up None o = refl
refaced_up (Some y) None = refl
refaced_up (Some y) (Some x) = (keeps_faces (faces_of y)).place.parent x

refaced_list : (b : Bool) (p o : Option Node) → slot_list b (reface p o) ≡ slot_list b o
refaced_list b None o = refl
refaced_list b (Some y) None = refl
refaced_list true (Some y) (Some x) = (keeps_faces (faces_of y)).place.brushes x
refaced_list false (Some y) (Some x) = (keeps_faces (faces_of y)).place.others x

pub refaced_alike : (k m : Whole) → Alike m (refaced k m)
refaced_alike k m = record {
  next = refl;
  kinds = λ q. refaced_word kind_of (λ fs x. (keeps_faces fs).place.kind x) (at k q) (at m q);
  ups = λ q. refaced_up (at k q) (at m q);
  lists = λ b q. refaced_list b (at k q) (at m q);
  links = λ q. ap (λ o. unwrap_or o None) (refaced_word link_of (λ fs x. (keeps_faces fs).link x) (at k q) (at m q));
  formats = ap (λ o. unwrap_or o Standard) (refaced_word format_of_node (λ fs x. (keeps_faces fs).format x) (at k 0) (at m 0));
}

refaced_marks : (k m : Whole) (q : ℕ) → mark_at (refaced k m) q ≡ mark_at m q
refaced_marks k m q = ap (λ o. unwrap_or o None) (refaced_word mark_of (λ fs x. (keeps_faces fs).mark x) (at k q) (at m q))

-- A node that stays as it was keeps its faces.
pub reface_itself : (o : Option Node) → reface o o ≡ o
reface_itself None = refl
reface_itself (Some x) = ap Some (elim x as (λ x. with_faces (faces_of x) x ≡ x) [ World a b c d ↦ refl | _ ↦ refl ])

stem_format : (x : Node) → format_of_node (stem x) ≡ format_of_node x
stem_format x = elim x as (λ x. format_of_node (stem x) ≡ format_of_node x) [ World a b c d ↦ refl | _ ↦ refl ]

-- The map k came from m by brushes that were remade, and is right without its links and marks.
module _ (m k : Whole) (shape : Shape m) (s : KeepsStems m k) (e : Shape (erase k)) where
  pub placed : Placed k
  placed = placed_by_erased k (placed_of e.standing)

  low : (q : ℕ) (x : Node) → at m q ≡ Some x → q < m.next
  low q x is = elim (cases_lt q m.next) [ inl lt ↦ lt | inr far ↦ absurd (not_none is (shape.numbers.nodes q far)) ]

  world_low : 0 < m.next
  world_low = elim (cases_lt 0 m.next) [ inl lt ↦ lt | inr far ↦ absurd (not_none (kind_is m world 0 shape.standing.world_stands) (ap (option_map kind_of) (shape.numbers.nodes 0 far))) ]

  formats : format_of k ≡ format_of m
  formats = by (at k 0) refl
    where
      by : (o : Option Node) → at k 0 ≡ o → format_of k ≡ format_of m
      by None is = absurd (not_none (kind_is k world 0 placed.world_stands) (ap (option_map kind_of) is))
      by (Some y) is =
          let x = stem_slot (at m 0) (at k 0) y (s.old 0 world_low) is in
          ap (λ o. unwrap_or (option_map format_of_node o) Standard) is ∙ same_stems format_of_node stem_format y x.0 x.2 ∙ sym (ap (λ o. unwrap_or (option_map format_of_node o) Standard) x.1)

  -- each node of k is right
  right : (q : ℕ) (y : Node) → at k q ≡ Some y → LinkOk (link_of y) → NodeOk (format_of m) y
  right q y is l = right_with_link (format_of m) y
      (subst (λ f. NodeOk f (erased y)) (erased_format k ∙ formats) (e.each_node q (erased y) (ap (option_map erased) is))) l

  right_old : (q : ℕ) (x y : Node) → at m q ≡ Some x → at k q ≡ Some y → stem y ≡ stem x → NodeOk (format_of m) y
  right_old q x y was is same = right q y is (subst LinkOk (sym (same_stems link_of stem_link y x same)) (right_link (format_of m) x (shape.each_node q x was)))

  each : EachNode (refaced k m)
  each q x is = subst (λ f. NodeOk f x) (sym (refaced_alike k m).formats) (by (at k q) (at m q) refl refl is)
    where
      some_is : {a b : Node} → Some a ≡ Some b → a ≡ b
      some_is {a} {b} e = cc

      by : (p o : Option Node) → at k q ≡ p → at m q ≡ o → reface p o ≡ Some x → NodeOk (format_of m) x
      by None o is_p is_o e = shape.each_node q x (is_o ∙ e)
      by (Some y) None is_p is_o e = absurd (cc)
      by (Some y) (Some z) is_p is_o e =
          let w = stem_slot (at m q) (at k q) y (s.old q (low q z is_o)) is_p in
          let same : stem y ≡ stem z = w.2 ∙ ap stem (some_is (sym w.1 ∙ is_o)) in
          ok_alike (format_of m) y x (bare_stems z y same ∙ ap bare (some_is e)) (right_old q z y is_o is_p same)

  pub refaced_shape : Shape (refaced k m)
  refaced_shape = record {
    standing = alike_standing (refaced_alike k m) shape.standing;
    each_node = each;
    numbers = alike_numbers (refaced_alike k m) (refaced_marks k m) shape.numbers;
    marks = alike_marks (refaced_alike k m) (refaced_marks k m) shape.marks;
  }

  pub refaced_comes : Comes (format_of (refaced k m)) (refaced k m) k
  refaced_comes = record {
    next = s.next;
    old = λ q lt. by q lt (at k q) refl;
    new = λ q x far is. let n = s.new q x far is in record {
      ok = subst (λ f. NodeOk f x) (sym (refaced_alike k m).formats) (right q x is (subst LinkOk (sym n.link) tt));
      no_link = n.link;
      no_mark = n.mark;
    };
    past = s.past;
  }
    where
      by : (q : ℕ) → q < m.next → (p : Option Node) → at k q ≡ p → KeptAt (reface (at k q) (at m q)) (at k q)
      by q lt None is = inl is
      by q lt (Some y) is =
          let w = stem_slot (at m q) (at k q) y (s.old q lt) is in
          inr (ap bare_slot is ∙ ap Some (bare_stems w.0 y w.2) ∙ sym (λ i. bare_slot (reface (is i) (w.1 i))))
