-- Readings that name no link set build the tree without links.
use Rattle.std.proofs.Common.{◌≡◌, inl, inr, ℕ, zero, suc, ◌+◌, ◌-◌, Bool, true, false, cond, not, ◌&&◌, nat_lt, List, [], ◌∷◌, ◌++◌, map, length, Option, Some, None, Result, Ok, Err, option_map, is_some, is_none, refl, ap, sym, ◌∙◌, subst, arith, append-nil}
use Rattle.std.specs.Prelude.{filter, flat_map}
use Rattle.algebra.specs.Members.{◌∈◌, here, there}
use Rattle.map_model.specs.Faces.{Face}
use Rattle.map_model.specs.Tree.{Node, World, Layer, Group, Entity, Brush, slot_at, mark_of, link_of, with_mark, with_link, with_parent, with_brushes, with_others}
use Rattle.file_laws.specs.Readings.{Reading}
use Rattle.file_laws.specs.Build.{Built, TreeFault, Full, Item, place_of, items, kept_items, kept_brushes, number_of, built_node, slots_of, slots, map_of, noted, notes, MotionNote, NestedNote, LinksNote}
use Rattle.file_laws.specs.Linked.{Candidate, candidate_from, candidate, has_no_motion, is_nested, sets_of, all_agree, first_place, linked, unless_full, built_with_links}
use Rattle.file_laws.proofs.Lists.{in_append, of_map, flat_map_none, filter_none, head_or_tail}

-- No mark and no link.
pub record IsPlain (x : Node) : Type 0 where
  pub mark : mark_of x ≡ None
  pub link : link_of x ≡ None

stays_plain : (x : Node) → IsPlain x → with_mark None (with_link None x) ≡ x
stays_plain (World f ps bs os) p = refl
stays_plain (Layer name frozen ps bs os) p = refl
stays_plain (Group q k name l ps bs os) p = λ i. Group q (sym p.mark i) name (sym p.link i) ps bs os
stays_plain (Entity q k ps ks bs) p = λ i. Entity q (sym p.mark i) ps ks bs
stays_plain (Brush q k fs) p = λ i. Brush q (sym p.mark i) fs

built_plain : (a : ℕ) (b c : List ℕ) (x : Node) → IsPlain x → IsPlain (with_parent a (with_brushes b (with_others c x)))
built_plain a b c (World f ps bs os) p = record { mark = p.mark; link = p.link }
built_plain a b c (Layer name frozen ps bs os) p = record { mark = p.mark; link = p.link }
built_plain a b c (Group q k name l ps bs os) p = record { mark = p.mark; link = p.link }
built_plain a b c (Entity q k ps ks bs) p = record { mark = p.mark; link = p.link }
built_plain a b c (Brush q k fs) p = record { mark = p.mark; link = p.link }

slot_in : (ss : List (Option Node)) (q : ℕ) (x : Node) → slot_at ss q ≡ Some x → Some x ∈ ss
slot_in [] q x e = absurd (cc e)
slot_in (s ∷ ss) zero x e = subst (λ (t : Option Node). t ∈ (s ∷ ss)) e here
slot_in (s ∷ ss) (suc q) x e = there (slot_in ss q x e)

of_flat : {A B : Type 0} (f : A → List B) (xs : List A) (y : B) → y ∈ flat_map f xs → (x : A) × (x ∈ xs) × (y ∈ f x)
of_flat f [] y i = elim i [ ]
of_flat f (x ∷ xs) y i = elim (in_append (f x) (flat_map f xs) y i) [
  | inl j ↦ (x, here, j)
  | inr j ↦ let r = of_flat f xs y j in (r.0, there r.1, r.2)
]

some_is : {x y : Node} → Some x ≡ Some y → x ≡ y
some_is e = cc

module _ (kept : List Item) (plain : (i : Item) → i ∈ kept → IsPlain i.reading.node) where
  item_plain : (i : Item) → i ∈ kept → (x : Node) → Some x ∈ slots_of kept i → IsPlain x
  item_plain i j x k = elim (head_or_tail (Some x) (Some (built_node kept i)) (map (λ (faces : List Face). Some (Brush (number_of kept (place_of i)) None faces)) (kept_brushes i.reading)) k) [
    | inl e ↦ subst IsPlain (sym (some_is e)) (built_plain _ _ _ i.reading.node (plain i j))
    | inr t ↦
        let r = of_map (λ (faces : List Face). Some (Brush (number_of kept (place_of i)) None faces)) (kept_brushes i.reading) (Some x) t in
        subst IsPlain (sym (some_is r.2)) (record { mark = refl; link = refl })
  ]

  pub slot_plain : (q : ℕ) (x : Node) → slot_at (slots kept) q ≡ Some x → IsPlain x
  slot_plain q x e = let r = of_flat (slots_of kept) kept (Some x) (slot_in (slots kept) q x e) in item_plain r.0 r.1 x r.2

  node_same : (q : ℕ) → option_map (λ x. with_mark None (with_link None x)) (slot_at (slots kept) q) ≡ slot_at (slots kept) q
  node_same q = by_slot (slot_at (slots kept) q) refl
    where
      by_slot : (o : Option Node) → slot_at (slots kept) q ≡ o → option_map (λ x. with_mark None (with_link None x)) o ≡ o
      by_slot None e = refl
      by_slot (Some x) e = ap Some (stays_plain x (slot_plain q x e))

  next_same : (n : ℕ) → (n + 0) + 0 ≡ n
  next_same n = omega arith

  linked_same : linked (map_of (slots kept)) [] ≡ map_of (slots kept)
  linked_same = λ i. record { nodes = λ q. node_same q i; next = next_same (length (slots kept)) i }

twice_asked : (t : Bool) (a b c : Result Built TreeFault) → cond t a (cond t b c) ≡ cond t a c
twice_asked true a b c = refl
twice_asked false a b c = refl

pub builds_plain : (rs : List Reading) (all kept : List Item) → ((i : Item) → i ∈ kept → i.reading.set ≡ None) → ((i : Item) → i ∈ kept → IsPlain i.reading.node) →
    built_with_links rs all kept ≡ Rattle.file_laws.specs.Build.unless_full (notes rs all kept) (slots kept)
builds_plain rs all kept no_set plain =
    (λ i. by_parts (no_moved i) (no_silent i))
    ∙ (λ i. unless_full (map_of (slots kept)) (linked_same kept plain i) (append-nil (notes rs all kept) i))
    ∙ twice_asked (nat_lt 65536 (length (slots kept))) (Err (Full (length (slots kept) - 1))) (Err (Full (length (slots kept) - 1))) (Ok (record { map = map_of (slots kept); notes = notes rs all kept }))
  where
    by_parts : List Candidate → List Item → Result Built TreeFault
    by_parts moved silent =
        let sets = sets_of (filter (λ c. not (is_nested (map (λ i. i.parent) all) moved c)) moved) in
        unless_full (map_of (slots kept)) (linked (map_of (slots kept)) (filter (all_agree (map_of (slots kept))) sets))
        (notes rs all kept ++ (noted MotionNote (map place_of silent)
        ++ (noted NestedNote (map (λ c. c.place) (filter (is_nested (map (λ i. i.parent) all) moved) moved))
        ++ noted LinksNote (map first_place (filter (λ members. not (all_agree (map_of (slots kept)) members)) sets)))))

    no_moved : flat_map (candidate kept) kept ≡ []
    no_moved = flat_map_none (candidate kept) kept (λ i j. ap (λ s. candidate_from (place_of i) (number_of kept (place_of i)) s i.reading.motion) (no_set i j))

    no_silent : filter has_no_motion kept ≡ []
    no_silent = filter_none has_no_motion kept (λ i j. ap (λ s. is_some s && is_none i.reading.motion) (no_set i j))
