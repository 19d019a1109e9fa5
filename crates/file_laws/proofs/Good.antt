-- What is read of the entities of a saved map, and the tree that it gives.
use Rattle.std.proofs.Common.{◌≡◌, ℕ, true, false, cond, not, ◌==◌, ◌||◌, List, [], ◌∷◌, map, refl, ap, ◌∙◌, subst, ◌⊎◌, inl, inr, is_some, option_map, unwrap_or}
use Rattle.std.specs.Prelude.{count_by, Option, Some, None, Result, Ok}
use Rattle.std.proofs.lemmas.Bool.{cases_Bool, cases_eq, cases_lt, eqb-true, eq-eqb, ne_eqb, true≢false, and_parts, or_cases, or_parts, and_left, and_right, lt-ltb, le-ltb, both_ways, false_from_ne_true, not-true}
use Rattle.algebra.specs.Members.{◌∈◌}
use Rattle.map_text.specs.declared.document.Reason.{Reason}
use Rattle.map_model.specs.Faces.{Face}
use Rattle.map_model.specs.Tree.{Whole, Node, World, Layer, Group, Entity, Brush, Kind, world, layer, group, entity, brush, at, up, children, brushes_at, others_at, is_kind, is_brush, has_kind, same_kind, kind_of, preorder, part_at, faces_at, with_parent, with_brushes, with_others}
use Rattle.map_model.specs.Shape.{Standing, may_hold}
use Rattle.file_laws.specs.Numbers.{place_in}
use Rattle.file_laws.specs.Saved.{file_order, has_id, id_of, set_id_of}
use Rattle.std.specs.Fmt.{decimal}
use Rattle.map_model.specs.Tree.{link_at, set_at}
use Rattle.file_laws.specs.Readings.{Reading, is_named}
use Rattle.file_laws.specs.Build.{Item}
use Rattle.file_laws.specs.Renumbered.{plain}
use Rattle.file_laws.proofs.Lists.{Distinct, in_append, member_or_not, Before, before_first, before_filter, in_filter, of_filter, distinct_filter}
use Rattle.file_laws.proofs.Order.{Order, no_brush, children_are, world_is_no_brush, named_is_no_brush}
use Rattle.file_laws.proofs.Counts.{not_counted}

-- ---- what is read of a node

abbrev pub bare : Node → Node
bare x = with_parent 0 (with_brushes [] (with_others [] (plain x)))

abbrev pub parent_at : Whole → ℕ → ℕ
parent_at m n = unwrap_or (up m n) 0

abbrev pub id_if : Whole → Kind → ℕ → Option ℕ
id_if m k p = cond (is_kind m k p) (Some (id_of m p)) None

abbrev pub good_brush : Whole → ℕ → Result (List Face) Reason
good_brush m b = Ok (faces_at m b)

abbrev pub good : Whole → ℕ → Reading
good m n = record {
  place = place_in (file_order m) n;
  node = part_at bare (Brush 0 None []) m n;
  id = cond (has_id m n) (Some (id_of m n)) None;
  in_group = id_if m group (parent_at m n);
  in_layer = id_if m layer (parent_at m n);
  names_parent = has_id m (parent_at m n);
  set = option_map (λ s. decimal (set_id_of m s)) (set_at m n);
  motion = option_map (λ l. l.motion) (link_at m n);
  brushes = map (good_brush m) (brushes_at m n);
}

abbrev pub good_item : Whole → ℕ → Item
good_item m n = record { reading = good m n; parent = place_in (file_order m) (parent_at m n) }

-- ---- kinds

kind_of_bare : (x : Node) → kind_of (bare x) ≡ kind_of x
kind_of_bare (World f ps bs os) = refl
kind_of_bare (Layer name frozen ps bs os) = refl
kind_of_bare (Group p k name l ps bs os) = refl
kind_of_bare (Entity p k ps ks bs) = refl
kind_of_bare (Brush p k fs) = refl

pub has_kind_of_part : (k : Kind) (o : Option Node) → is_some o ≡ true →
    has_kind k (unwrap_or (option_map bare o) (Brush 0 None [])) ≡ unwrap_or (option_map (has_kind k) o) false
has_kind_of_part k None h = absurd (cc h)
has_kind_of_part k (Some x) h = ap (λ j. same_kind j k) (kind_of_bare x)

named_kind : (x : Node) → is_named (kind_of x) ≡ (has_kind layer x || has_kind group x)
named_kind (World f ps bs os) = refl
named_kind (Layer name frozen ps bs os) = refl
named_kind (Group p k name l ps bs os) = refl
named_kind (Entity p k ps ks bs) = refl
named_kind (Brush p k fs) = refl

pub named_part : (o : Option Node) → is_some o ≡ true →
    is_named (kind_of (unwrap_or (option_map bare o) (Brush 0 None []))) ≡ (unwrap_or (option_map (has_kind layer) o) false || unwrap_or (option_map (has_kind group) o) false)
named_part None h = absurd (cc h)
named_part (Some x) h = ap is_named (kind_of_bare x) ∙ named_kind x

pub group_is_no_layer : (o : Option Node) → unwrap_or (option_map (has_kind layer) o) false ≡ true → unwrap_or (option_map (has_kind group) o) false ≡ false
group_is_no_layer None h = refl
group_is_no_layer (Some (World f ps bs os)) h = refl
group_is_no_layer (Some (Layer name frozen ps bs os)) h = refl
group_is_no_layer (Some (Group p k name l ps bs os)) h = absurd (cc h)
group_is_no_layer (Some (Entity p k ps ks bs)) h = refl
group_is_no_layer (Some (Brush p k fs)) h = refl

pub world_is_unnamed : (o : Option Node) → unwrap_or (option_map (has_kind world) o) false ≡ true →
    (unwrap_or (option_map (has_kind layer) o) false || unwrap_or (option_map (has_kind group) o) false) ≡ false
world_is_unnamed None h = refl
world_is_unnamed (Some (World f ps bs os)) h = refl
world_is_unnamed (Some (Layer name frozen ps bs os)) h = absurd (cc h)
world_is_unnamed (Some (Group p k name l ps bs os)) h = absurd (cc h)
world_is_unnamed (Some (Entity p k ps ks bs)) h = absurd (cc h)
world_is_unnamed (Some (Brush p k fs)) h = absurd (cc h)

pub world_is_no_group : (o : Option Node) → unwrap_or (option_map (has_kind world) o) false ≡ true → unwrap_or (option_map (has_kind group) o) false ≡ false
world_is_no_group o h = (Rattle.std.proofs.lemmas.Bool.or_parts (unwrap_or (option_map (has_kind layer) o) false) (unwrap_or (option_map (has_kind group) o) false) (world_is_unnamed o h)).1

pub world_is_no_layer : (o : Option Node) → unwrap_or (option_map (has_kind world) o) false ≡ true → unwrap_or (option_map (has_kind layer) o) false ≡ false
world_is_no_layer o h = (Rattle.std.proofs.lemmas.Bool.or_parts (unwrap_or (option_map (has_kind layer) o) false) (unwrap_or (option_map (has_kind group) o) false) (world_is_unnamed o h)).0

-- What holds another than a brush has an id, or is the world.
holds_kind : (k : Kind) (y : Kind) → may_hold k y ≡ true → ((same_kind k layer || same_kind k group) ≡ true) ⊎ (same_kind k world ≡ true)
holds_kind world y h = inr refl
holds_kind layer y h = inl refl
holds_kind group y h = inl refl
holds_kind entity y h = absurd (cc h)
holds_kind brush y h = absurd (cc h)

holds_other : (o q : Option Node) → unwrap_or (option_map (λ x. unwrap_or (option_map (λ y. may_hold (kind_of x) (kind_of y)) q) false) o) false ≡ true →
    ((unwrap_or (option_map (has_kind layer) o) false || unwrap_or (option_map (has_kind group) o) false) ≡ true) ⊎ (unwrap_or (option_map (has_kind world) o) false ≡ true)
holds_other None q h = absurd (cc h)
holds_other (Some x) None h = absurd (cc h)
holds_other (Some x) (Some y) h = holds_kind (kind_of x) (kind_of y) h

pub counted_member : (n : ℕ) (xs : List ℕ) → count_by (λ k. k == n) xs ≡ 1 → n ∈ xs
counted_member n [] h = absurd (cc h)
counted_member n (x ∷ xs) h = elim (member_or_not n (x ∷ xs)) [ inl i ↦ i | inr out ↦ absurd (not_counted n (x ∷ xs) out h) ]

module _ (m : Whole) (s : Standing m) (o : Order m (preorder m 0)) where
  -- ---- the entities of the file

  pub in_order : (n : ℕ) → n ∈ file_order m → (n ∈ preorder m 0) × (is_brush m n ≡ false)
  in_order n i = let r = of_filter (no_brush m) (preorder m 0) n i in (r.0, not-true (is_brush m n) r.1)

  pub filed : (n : ℕ) → n ∈ preorder m 0 → is_brush m n ≡ false → n ∈ file_order m
  filed n i e = in_filter (no_brush m) (preorder m 0) n i (ap not e)

  pub live_in_file : (n : ℕ) → n ∈ file_order m → is_some (at m n) ≡ true
  live_in_file n i = o.live n (in_order n i).0

  pub distinct_file : Distinct (file_order m)
  distinct_file = distinct_filter (no_brush m) (preorder m 0) o.distinct

  -- A parent: it is in the file, before its child, and has an id or is the world.
  pub record HasParent (n : ℕ) : Type 0 where
    pub parent : ℕ
    pub up_is : up m n ≡ Some parent
    pub in_file : parent ∈ file_order m
    pub before : Before parent n (file_order m)
    pub holds : (has_id m parent ≡ true) ⊎ (parent ≡ 0)

  child_in_others : (p n : ℕ) → up m n ≡ Some p → is_brush m n ≡ false → n ∈ others_at m p
  child_in_others p n e b = elim (in_append (brushes_at m p) (others_at m p) n
      (subst (λ (l : List ℕ). n ∈ l) (children_are m p) (counted_member n (children m p) (s.once p n e)))) [
        | inl i ↦ absurd (both_ways (is_brush m n) b (s.brushes_fit p n i))
        | inr i ↦ i
      ]

  holder : (p n : ℕ) → n ∈ others_at m p → (has_id m p ≡ true) ⊎ (p ≡ 0)
  holder p n i = elim (holds_other (at m p) (at m n) (s.others_fit p n i)) [
    | inl h ↦ inl h
    | inr h ↦ inr (s.one_world p h)
  ]

  holder_no_brush : (p : ℕ) → (has_id m p ≡ true) ⊎ (p ≡ 0) → is_brush m p ≡ false
  holder_no_brush p (inl h) = named_is_no_brush (at m p) h
  holder_no_brush p (inr e) = ap (is_brush m) e ∙ world_is_no_brush (at m 0) s.world_stands

  pub parent_in_file : (n : ℕ) → n ∈ file_order m → (n ≡ 0) ⊎ HasParent n
  parent_in_file n i = elim (o.parent n (in_order n i).0) [
    | inl e ↦ inl e
    | inr r ↦
        let h = holder r.0 n (child_in_others r.0 n r.1 (in_order n i).1) in
        let nb = holder_no_brush r.0 h in
        inr (record {
          parent = r.0;
          up_is = r.1;
          in_file = filed r.0 (before_first r.0 n (preorder m 0) r.2) nb;
          before = before_filter (no_brush m) r.0 n (preorder m 0) (ap not nb) (ap not (in_order n i).1) r.2;
          holds = h;
        })
  ]
