-- Each entity of a saved map is read as its node; so the saved map builds the map renumbered.
use Rattle.std.proofs.Common.{◌≡◌, ℕ, zero, suc, ◌+◌, ◌^◌, ◌<◌, ◌≤◌, Bool, true, false, cond, not, ◌==◌, ◌||◌, List, [], ◌∷◌, ◌++◌, map, length, refl, ap, sym, ◌∙◌, subst, arith, inl, inr, append-nil, zero-add, add-zero, bytes_eq, codes, is_some, unwrap_or, option_map, option_and_then}
use Rattle.std.specs.Prelude.{filter, Option, Some, None, Err}
use Rattle.std.specs.Option.{option_map_or}
use Rattle.std.specs.Fmt.{decimal}
use Rattle.std.proofs.lemmas.Bool.{cases_Bool, both_ways, cond-true, cond-false}
use Rattle.std.proofs.lemmas.List.Elements.{filter-append}
use Rattle.algebra.specs.Members.{◌∈◌}
use Rattle.uv_lock.specs.declared.texture.Format.{Format}
use Rattle.uv_lock.specs.declared.texture.Format.TheVariants.{Standard, Valve}
use Rattle.map_text.specs.declared.document.RawEntity.{RawEntity}
use Rattle.map_text.specs.declared.document.RawBrush.{RawBrush}
use Rattle.map_model.specs.Tree.{Whole, Node, World, Layer, Group, Entity, Brush, Link, Props, world, layer, group, entity, brush, at, brushes_at, brushes_of, faces_of, parent_of, link_of, set_at, is_kind, is_brush, has_kind, preorder, format_of, format_of_node}
use Rattle.map_model.specs.Props.{value_at, classname}
use Rattle.map_model.specs.Shape.{Shape, NodeOk, FacesOk, PropsOk, ProtectedOk, is_plain_type}
use Rattle.file_laws.specs.Leaves.{Leaves, AreRight}
use Rattle.map_model.specs.Motions.{Motion, stay}
use Rattle.map_model.specs.Brushes.{first_of_each}
use Rattle.std.specs.Prelude.{filter_map}
use Rattle.std.specs.List.{cons_option}
use Rattle.std.proofs.lemmas.Fmt.{decimal_nonempty}
use Rattle.file_laws.specs.Numbers.{place_in, read_id}
use Rattle.file_laws.specs.Saved.{file_order, has_id, id_of, set_id_of, version_props, frozen_props, link_props, protected_props, saved_brush, saved_node, saved_entity, saved}
use Rattle.file_laws.specs.Readings.{Reading, named_set, motion_from, stays, kept_props, text_in, is_locked, id_in, judged, reading, readings_from, readings}
use Rattle.file_laws.specs.Build.{built_from, begins_with_world, NoWorld}
use Rattle.file_laws.specs.Laws.{SavedTreeLaw}
use Rattle.file_laws.proofs.Lists.{Distinct, map_agree, map_of_map, place_first, place_later, place_within, one_place, in_filter}
use Rattle.file_laws.proofs.Order.{Order, order_of}
use Rattle.file_laws.proofs.Good.{bare, parent_at, id_if, good_brush, good, group_is_no_layer, in_order, live_in_file, distinct_file}
use Rattle.file_laws.proofs.Placed.{parent_at_is, file_begins, world_in_file, place_of_world}
use Rattle.file_laws.proofs.Drawn.{tree_of_good}
use Rattle.file_laws.proofs.Texts.{read_decimal}
use Rattle.file_laws.proofs.Properties.{value_past, absent, all_stay, parent_keys, group_in, layer_in, names_one, no_other_key, group_takes_parent_keys, entity_takes_parent_keys, no_protected_stays, protected_has_no, protected_read, entity_kind}

-- ---- each kind by itself

world_reading : (w : Leaves) (f : Format) (props : Props) (bs : List RawBrush) → PropsOk world props →
    reading w f 0 (record { props = (classname, codes "worldspawn") ∷ (version_props f ++ props); brushes = bs })
    ≡ record { place = 0; node = World f props [] []; id = None; in_group = None; in_layer = None; names_parent = false; set = None; motion = None; brushes = map (judged w) bs }
world_reading w Standard props bs ok =
    λ j. record { place = 0; node = World Standard (all_stay world props ok.free j) [] []; id = None; in_group = None; in_layer = None; names_parent = false; set = None; motion = None; brushes = map (judged w) bs }
world_reading w Valve props bs ok =
    λ j. record { place = 0; node = World Valve (all_stay world props ok.free j) [] []; id = None; in_group = None; in_layer = None; names_parent = false; set = None; motion = None; brushes = map (judged w) bs }

layer_reading : (w : Leaves) (f : Format) (k : ℕ) (name t : List ℕ) (i : ℕ) (frozen : Bool) (props : Props) (bs : List RawBrush) → PropsOk layer props → read_id t ≡ Some i →
    reading w f (suc k) (record {
      props = (classname, codes "func_group") ∷ (codes "_tb_type", codes "_tb_layer") ∷ (codes "_tb_name", name) ∷ (codes "_tb_id", t) ∷ (frozen_props frozen ++ props);
      brushes = bs;
    })
    ≡ record { place = suc k; node = Layer name frozen props [] []; id = Some i; in_group = None; in_layer = None; names_parent = false; set = None; motion = None; brushes = map (judged w) bs }
layer_reading w f k name t i true props bs ok r =
    λ j. record { place = suc k; node = Layer name true (all_stay layer props ok.free j) [] []; id = r j; in_group = None; in_layer = None; names_parent = false; set = None; motion = None; brushes = map (judged w) bs }
layer_reading w f k name t i false props bs ok r =
    λ j. record {
      place = suc k;
      node = Layer name (bytes_eq (unwrap_or (absent layer (codes "_tb_layer_locked") props refl ok.free j) []) (codes "1")) (all_stay layer props ok.free j) [] [];
      id = r j;
      in_group = None;
      in_layer = None;
      names_parent = false;
      set = None;
      motion = None;
      brushes = map (judged w) bs;
    }

group_reading : (w : Leaves) (f : Format) (k : ℕ) (name t : List ℕ) (i : ℕ) (l g : Bool) (tp : List ℕ) (ip : ℕ) (rest props : Props) (bs : List RawBrush) →
    read_id t ≡ Some i → (l ≡ true → g ≡ false) → ((l || g) ≡ true → read_id tp ≡ Some ip) →
    value_at (codes "_tb_group") rest ≡ None → value_at (codes "_tb_layer") rest ≡ None → filter (stays group) rest ≡ props →
    (set : Option (List ℕ)) (motion : Option Motion) → named_set (value_at (codes "_tb_linked_group_id") rest) ≡ set → motion_from w set (value_at (codes "_tb_transformation") rest) ≡ motion →
    reading w f (suc k) (record {
      props = (classname, codes "func_group") ∷ (codes "_tb_type", codes "_tb_group") ∷ (codes "_tb_name", name) ∷ (codes "_tb_id", t) ∷ (parent_keys l g tp ++ rest);
      brushes = bs;
    })
    ≡ record { place = suc k; node = Group 0 None name None props [] []; id = Some i; in_group = cond g (Some ip) None; in_layer = cond l (Some ip) None; names_parent = l || g; set = set; motion = motion; brushes = map (judged w) bs }
group_reading w f k name t i l g tp ip rest props bs r one rp a b stay set motion set_is motion_is =
    λ j. record {
      place = suc k;
      node = Group 0 None name None ((group_takes_parent_keys l g tp rest ∙ stay) j) [] [];
      id = r j;
      in_group = group_in l g tp ip rest one rp a j;
      in_layer = layer_in l g tp ip rest rp b j;
      names_parent = names_one l g tp rest a b j;
      set = (ap named_set (no_other_key (codes "_tb_linked_group_id") l g tp rest refl refl) ∙ set_is) j;
      motion = ((λ i. motion_from w ((ap named_set (no_other_key (codes "_tb_linked_group_id") l g tp rest refl refl) ∙ set_is) i) (no_other_key (codes "_tb_transformation") l g tp rest refl refl i)) ∙ motion_is) j;
      brushes = map (judged w) bs;
    }

entity_reading : (w : Leaves) (f : Format) (k : ℕ) (l g : Bool) (tp : List ℕ) (ip : ℕ) (props : Props) (keys : List (List ℕ)) (bs : List RawBrush) →
    PropsOk entity props → is_plain_type props ≡ true → ProtectedOk keys → (l ≡ true → g ≡ false) → ((l || g) ≡ true → read_id tp ≡ Some ip) →
    reading w f (suc k) (record { props = props ++ (parent_keys l g tp ++ protected_props keys); brushes = bs })
    ≡ record { place = suc k; node = Entity 0 None props keys []; id = None; in_group = cond g (Some ip) None; in_layer = cond l (Some ip) None; names_parent = l || g; set = None; motion = None; brushes = map (judged w) bs }
entity_reading w f k l g tp ip props keys bs ok plain keys_ok one rp =
    ap (Rattle.file_laws.specs.Readings.reading_as w f (suc k) (record { props = props ++ (parent_keys l g tp ++ protected_props keys); brushes = bs }))
    (entity_kind props (parent_keys l g tp ++ protected_props keys) plain
    (no_other_key (codes "_tb_type") l g tp (protected_props keys) refl refl ∙ (protected_has_no keys).2))
    ∙ (λ j. record {
      place = suc k;
      node = Entity 0 None (stay j) (protected_read (props ++ (parent_keys l g tp ++ protected_props keys)) keys in_protected keys_ok j) [];
      id = None;
      in_group = (ap (option_and_then read_id) (value_past (codes "_tb_group") props (parent_keys l g tp ++ protected_props keys) no_group)
          ∙ group_in l g tp ip (protected_props keys) one rp (protected_has_no keys).0) j;
      in_layer = (ap (option_and_then read_id) (value_past (codes "_tb_layer") props (parent_keys l g tp ++ protected_props keys) no_layer)
          ∙ layer_in l g tp ip (protected_props keys) rp (protected_has_no keys).1) j;
      names_parent = ((λ i. is_some (value_past (codes "_tb_group") props (parent_keys l g tp ++ protected_props keys) no_group i)
          || is_some (value_past (codes "_tb_layer") props (parent_keys l g tp ++ protected_props keys) no_layer i))
          ∙ names_one l g tp (protected_props keys) (protected_has_no keys).0 (protected_has_no keys).1) j;
      set = None;
      motion = None;
      brushes = map (judged w) bs;
    })
  where
    no_group : value_at (codes "_tb_group") props ≡ None
    no_group = absent entity (codes "_tb_group") props refl ok.free

    no_layer : value_at (codes "_tb_layer") props ≡ None
    no_layer = absent entity (codes "_tb_layer") props refl ok.free

    in_protected : value_at (codes "_tb_protected_properties") (props ++ (parent_keys l g tp ++ protected_props keys)) ≡ value_at (codes "_tb_protected_properties") (protected_props keys)
    in_protected = value_past (codes "_tb_protected_properties") props (parent_keys l g tp ++ protected_props keys) (absent entity (codes "_tb_protected_properties") props refl ok.free)
        ∙ no_other_key (codes "_tb_protected_properties") l g tp (protected_props keys) refl refl

    stay : filter (stays entity) (props ++ (parent_keys l g tp ++ protected_props keys)) ≡ props
    stay = filter-append (stays entity) props (parent_keys l g tp ++ protected_props keys)
        ∙ (λ j. all_stay entity props ok.free j ++ (entity_takes_parent_keys l g tp (protected_props keys) ∙ no_protected_stays keys) j)
        ∙ append-nil props

-- A group's link keys and its further properties.
record LinkKeys (w : Leaves) (m : Whole) (link : Option Link) (props : Props) : Type 0 where
  no_group : value_at (codes "_tb_group") (link_props w m link ++ props) ≡ None
  no_layer : value_at (codes "_tb_layer") (link_props w m link ++ props) ≡ None
  stay_as : filter (stays group) (link_props w m link ++ props) ≡ props
  set_is : named_set (value_at (codes "_tb_linked_group_id") (link_props w m link ++ props)) ≡ option_map (λ s. decimal (set_id_of m s)) (option_map (λ l. l.set) link)
  motion_is : motion_from w (option_map (λ s. decimal (set_id_of m s)) (option_map (λ l. l.set) link)) (value_at (codes "_tb_transformation") (link_props w m link ++ props)) ≡ option_map (λ l. l.motion) link

named_text : (t : List ℕ) → 0 < length t → named_set (Some t) ≡ Some t
named_text [] h = absurd (omega arith)
named_text (b ∷ t) h = refl

link_keys : (w : Leaves) (m : Whole) (link : Option Link) (props : Props) → ((s : ℕ) → set_id_of m s < 2 ^ 64) → ((l : Link) → link ≡ Some l → w.read_motion (w.motion_text l.motion) ≡ Some l.motion) → PropsOk group props → LinkKeys w m link props
link_keys w m None props small moved ok = record {
  no_group = absent group (codes "_tb_group") props refl ok.free;
  no_layer = absent group (codes "_tb_layer") props refl ok.free;
  stay_as = all_stay group props ok.free;
  set_is = ap named_set (absent group (codes "_tb_linked_group_id") props refl ok.free);
  motion_is = refl;
}
link_keys w m (Some l) props small moved ok = record {
  no_group = absent group (codes "_tb_group") props refl ok.free;
  no_layer = absent group (codes "_tb_layer") props refl ok.free;
  stay_as = all_stay group props ok.free;
  set_is = named_text (decimal (set_id_of m l.set)) (decimal_nonempty (set_id_of m l.set) (small l.set));
  motion_is = moved l refl;
}

pub place_at_most : (n : ℕ) (xs : List ℕ) → place_in xs n ≤ length xs
place_at_most n [] = omega arith
place_at_most n (x ∷ xs) = elim (cases_Bool (x == n)) [
  | inl e ↦ rw e (omega arith)
  | inr e ↦ rw e (let h = place_at_most n xs in omega arith)
]

-- ---- places

readings_by_place : (w : Leaves) (f : Format) (k : ℕ) (g : ℕ → RawEntity) (xs : List ℕ) → Distinct xs →
    readings_from w f k (map g xs) ≡ map (λ n. reading w f (k + place_in xs n) (g n)) xs
readings_by_place w f k g [] d = refl
readings_by_place w f k g (x ∷ xs) d =
    λ j. reading w f (first_place j) (g x) ∷ (readings_by_place w f (suc k) g xs d.1 ∙ later_places) j
  where
    first_place : k ≡ k + place_in (x ∷ xs) x
    first_place = sym (ap (λ p. k + p) (place_first x xs) ∙ add-zero k)

    later_places : map (λ n. reading w f (suc k + place_in xs n) (g n)) xs ≡ map (λ n. reading w f (k + place_in (x ∷ xs) n) (g n)) xs
    later_places = map_agree (λ n. reading w f (suc k + place_in xs n) (g n)) (λ n. reading w f (k + place_in (x ∷ xs) n) (g n)) xs
        (λ n i. ap (λ p. reading w f p (g n)) (sym (ap (λ p. k + p) (place_later n x xs d.0 i) ∙ (omega arith))))

pub filter_shorter : {A : Type 0} (p : A → Bool) (xs : List A) → length (filter p xs) ≤ length xs
filter_shorter p [] = omega arith
filter_shorter p (x ∷ xs) = elim (cases_Bool (p x)) [
  | inl e ↦ rw e (let h = filter_shorter p xs in omega arith)
  | inr e ↦ rw e (let h = filter_shorter p xs in omega arith)
]

pub firsts_shorter : {A : Type 0} (same : A → A → Bool) (xs : List A) → length (first_of_each same xs) ≤ length xs
firsts_shorter same [] = omega arith
firsts_shorter same (x ∷ xs) =
    let a = firsts_shorter same xs in
    let b = filter_shorter (λ y. not (same x y)) (first_of_each same xs) in
    omega arith

pub filter_map_shorter : {A B : Type 0} (h : A → Option B) (xs : List A) → length (filter_map h xs) ≤ length xs
filter_map_shorter h [] = omega arith
filter_map_shorter {A} {B} h (x ∷ xs) = by_value (h x)
  where
    rest : length (filter_map h xs) ≤ length xs
    rest = filter_map_shorter_of xs
      where
        filter_map_shorter_of : (ys : List A) → length (filter_map h ys) ≤ length ys
        filter_map_shorter_of [] = omega arith
        filter_map_shorter_of (y ∷ ys) = with_value (h y) (filter_map_shorter_of ys)
          where
            with_value : (v : Option B) → length (filter_map h ys) ≤ length ys → length (cons_option v (filter_map h ys)) ≤ suc (length ys)
            with_value None k = omega arith
            with_value (Some z) k = omega arith

    by_value : (v : Option B) → length (cons_option v (filter_map h xs)) ≤ suc (length xs)
    by_value None = let k = rest in omega arith
    by_value (Some z) = let k = rest in omega arith

-- The faces of a brush of the map.
pub brush_faces : (f : Format) (o : Option Node) → unwrap_or (option_map (has_kind brush) o) false ≡ true → ((x : Node) → o ≡ Some x → NodeOk f x) →
    FacesOk f (unwrap_or (option_map faces_of o) [])
brush_faces f None h ok = absurd (cc h)
brush_faces f (Some (World format ps b c)) h ok = absurd (cc h)
brush_faces f (Some (Layer name frozen ps b c)) h ok = absurd (cc h)
brush_faces f (Some (Group q mark name l ps b c)) h ok = absurd (cc h)
brush_faces f (Some (Entity q mark ps ks b)) h ok = absurd (cc h)
brush_faces f (Some (Brush q mark fs)) h ok = ok (Brush q mark fs) refl

module _ (w : Leaves) (m : Whole) (right : AreRight w m) (shape : Shape m) (o : Order m (preorder m 0)) where
  brushes_read : (n : ℕ) → map (judged w) (map (saved_brush w m) (brushes_at m n)) ≡ map (good_brush m) (brushes_at m n)
  brushes_read n = map_of_map (judged w) (saved_brush w m) (brushes_at m n)
      ∙ map_agree (λ b. judged w (saved_brush w m b)) (good_brush m) (brushes_at m n)
      (λ b i. right.judged b (shape.standing.brushes_fit n b i))

  id_reads : (p : ℕ) → p ∈ file_order m → has_id m p ≡ true → read_id (decimal (id_of m p)) ≡ Some (id_of m p)
  id_reads p i h =
      let a = place_within p (filter (has_id m) (file_order m)) (in_filter (has_id m) (file_order m) p i h) in
      let b = filter_shorter (has_id m) (file_order m) in
      let c = filter_shorter (Rattle.file_laws.proofs.Order.no_brush m) (preorder m 0) in
      let d = o.most in
      let e = shape.numbers.most in
      read_decimal (id_of m p) (omega arith) (omega arith)

  pub set_ids_are_small : (s : ℕ) → set_id_of m s < 2 ^ 64
  set_ids_are_small s =
      let a = place_at_most s (first_of_each (λ a b. a == b) (filter_map (set_at m) (file_order m))) in
      let b = firsts_shorter (λ a b. a == b) (filter_map (set_at m) (file_order m)) in
      let c = filter_map_shorter (set_at m) (file_order m) in
      let d = filter_shorter (Rattle.file_laws.proofs.Order.no_brush m) (preorder m 0) in
      let e = o.most in
      let f = shape.numbers.most in
      omega arith

  parent_reads : (n : ℕ) → n ∈ file_order m → (p : ℕ) → parent_at m n ≡ p → (is_kind m layer p || is_kind m group p) ≡ true → read_id (decimal (id_of m p)) ≡ Some (id_of m p)
  parent_reads n i p e h = id_reads p (subst (λ (k : ℕ). k ∈ file_order m) e (parent_at_is m shape.standing o n i).in_file) h

  -- A node at place 0 is the world.
  first_is_world : (n : ℕ) → n ∈ file_order m → place_in (file_order m) n ≡ 0 → n ≡ 0
  first_is_world n i e = one_place n 0 (file_order m) i (world_in_file m shape.standing o) (e ∙ sym (place_of_world m shape.standing o))

  no_world_elsewhere : (x : Node) → at m 0 ≡ Some x → has_kind world x ≡ true
  no_world_elsewhere x e = sym (ap (λ q. unwrap_or (option_map (has_kind world) q) false) e) ∙ shape.standing.world_stands

  read_node : (n : ℕ) → n ∈ file_order m → (x : Node) → at m n ≡ Some x → (k : ℕ) → place_in (file_order m) n ≡ k →
      reading w (format_of m) k (saved_node w m n x) ≡ good m n
  read_node n i (World f ps bs os) e k z =
      let is : n ≡ 0 = shape.standing.one_world n (ap (λ q. unwrap_or (option_map (has_kind world) q) false) e) in
      let at_0 : at m 0 ≡ Some (World f ps bs os) = sym (ap (at m) is) ∙ e in
      let k_is : k ≡ 0 = sym z ∙ ap (place_in (file_order m)) is ∙ place_of_world m shape.standing o in
      let f_is : format_of m ≡ f = ap (λ q. unwrap_or (option_map format_of_node q) Standard) at_0 in
      let parent : parent_at m n ≡ 0 = ap (λ q. unwrap_or (option_and_then parent_of q) 0) e in
      let no_group : is_kind m group 0 ≡ false = ap (λ q. unwrap_or (option_map (has_kind group) q) false) at_0 in
      let no_layer : is_kind m layer 0 ≡ false = ap (λ q. unwrap_or (option_map (has_kind layer) q) false) at_0 in
      (λ j. reading w (f_is j) (k_is j) (saved_node w m n (World f ps bs os)))
      ∙ world_reading w f ps (map (saved_brush w m) bs) (shape.each_node n (World f ps bs os) e)
      ∙ (λ j. record {
        place = (sym k_is ∙ sym z) j;
        node = unwrap_or (option_map bare (sym e j)) (Brush 0 None []);
        id = cond (unwrap_or (option_map (has_kind layer) (sym e j)) false || unwrap_or (option_map (has_kind group) (sym e j)) false) (Some (id_of m n)) None;
        in_group = sym (ap (id_if m group) parent ∙ cond-false (is_kind m group 0) (Some (id_of m 0)) None no_group) j;
        in_layer = sym (ap (id_if m layer) parent ∙ cond-false (is_kind m layer 0) (Some (id_of m 0)) None no_layer) j;
        names_parent = sym (ap (has_id m) parent ∙ (λ i. no_layer i || no_group i)) j;
        set = option_map (λ s. decimal (set_id_of m s)) (option_map (λ l. l.set) (unwrap_or (option_map link_of (sym e j)) None));
        motion = option_map (λ l. l.motion) (unwrap_or (option_map link_of (sym e j)) None);
        brushes = (ap (λ q. map (judged w) (map (saved_brush w m) (unwrap_or (option_map brushes_of q) []))) (sym e) ∙ brushes_read n) j;
      })
  read_node n i (Layer name frozen ps bs os) e zero z = absurd (let h = no_world_elsewhere (Layer name frozen ps bs os) (sym (ap (at m) (first_is_world n i z)) ∙ e) in cc h)
  read_node n i (Layer name frozen ps bs os) e (suc k) z =
      let h : has_id m n ≡ true = ap (λ q. unwrap_or (option_map (has_kind layer) q) false || unwrap_or (option_map (has_kind group) q) false) e in
      let parent : parent_at m n ≡ 0 = ap (λ q. unwrap_or (option_and_then parent_of q) 0) e in
      let no_group : is_kind m group 0 ≡ false = world_no_group in
      let no_layer : is_kind m layer 0 ≡ false = world_no_layer in
      layer_reading w (format_of m) k name (decimal (id_of m n)) (id_of m n) frozen ps (map (saved_brush w m) bs) (shape.each_node n (Layer name frozen ps bs os) e).1 (id_reads n i h)
      ∙ (λ j. record {
        place = sym z j;
        node = unwrap_or (option_map bare (sym e j)) (Brush 0 None []);
        id = sym (cond-true (has_id m n) (Some (id_of m n)) None h) j;
        in_group = sym (ap (id_if m group) parent ∙ cond-false (is_kind m group 0) (Some (id_of m 0)) None no_group) j;
        in_layer = sym (ap (id_if m layer) parent ∙ cond-false (is_kind m layer 0) (Some (id_of m 0)) None no_layer) j;
        names_parent = sym (ap (has_id m) parent ∙ (λ i. no_layer i || no_group i)) j;
        set = option_map (λ s. decimal (set_id_of m s)) (option_map (λ l. l.set) (unwrap_or (option_map link_of (sym e j)) None));
        motion = option_map (λ l. l.motion) (unwrap_or (option_map link_of (sym e j)) None);
        brushes = (ap (λ q. map (judged w) (map (saved_brush w m) (unwrap_or (option_map brushes_of q) []))) (sym e) ∙ brushes_read n) j;
      })
    where
      world_no_group : is_kind m group 0 ≡ false
      world_no_group = Rattle.file_laws.proofs.Good.world_is_no_group (at m 0) shape.standing.world_stands

      world_no_layer : is_kind m layer 0 ≡ false
      world_no_layer = Rattle.file_laws.proofs.Good.world_is_no_layer (at m 0) shape.standing.world_stands
  read_node n i (Group p mark name link ps bs os) e zero z = absurd (let h = no_world_elsewhere (Group p mark name link ps bs os) (sym (ap (at m) (first_is_world n i z)) ∙ e) in cc h)
  read_node n i (Group p mark name link ps bs os) e (suc k) z =
      let h : has_id m n ≡ true = ap (λ q. unwrap_or (option_map (has_kind layer) q) false || unwrap_or (option_map (has_kind group) q) false) e in
      let parent : parent_at m n ≡ p = ap (λ q. unwrap_or (option_and_then parent_of q) 0) e in
      let ok = shape.each_node n (Group p mark name link ps bs os) e in
      let keys = link_keys w m link ps set_ids_are_small (λ l q. right.moved n l (ap (λ v. unwrap_or (option_map link_of v) None) e ∙ q)) ok.2 in
      group_reading w (format_of m) k name (decimal (id_of m n)) (id_of m n) (is_kind m layer p) (is_kind m group p) (decimal (id_of m p)) (id_of m p)
      (link_props w m link ++ ps) ps (map (saved_brush w m) bs) (id_reads n i h) (group_is_no_layer (at m p)) (parent_reads n i p parent)
      keys.no_group keys.no_layer keys.stay_as (option_map (λ s. decimal (set_id_of m s)) (option_map (λ l. l.set) link)) (option_map (λ l. l.motion) link) keys.set_is keys.motion_is
      ∙ (λ j. record {
        place = sym z j;
        node = unwrap_or (option_map bare (sym e j)) (Brush 0 None []);
        id = sym (cond-true (has_id m n) (Some (id_of m n)) None h) j;
        in_group = id_if m group (sym parent j);
        in_layer = id_if m layer (sym parent j);
        names_parent = has_id m (sym parent j);
        set = option_map (λ s. decimal (set_id_of m s)) (option_map (λ l. l.set) (unwrap_or (option_map link_of (sym e j)) None));
        motion = option_map (λ l. l.motion) (unwrap_or (option_map link_of (sym e j)) None);
        brushes = (ap (λ q. map (judged w) (map (saved_brush w m) (unwrap_or (option_map brushes_of q) []))) (sym e) ∙ brushes_read n) j;
      })
  read_node n i (Entity p mark ps ks bs) e zero z = absurd (let h = no_world_elsewhere (Entity p mark ps ks bs) (sym (ap (at m) (first_is_world n i z)) ∙ e) in cc h)
  read_node n i (Entity p mark ps ks bs) e (suc k) z =
      let h : has_id m n ≡ false = ap (λ q. unwrap_or (option_map (has_kind layer) q) false || unwrap_or (option_map (has_kind group) q) false) e in
      let parent : parent_at m n ≡ p = ap (λ q. unwrap_or (option_and_then parent_of q) 0) e in
      let ok = shape.each_node n (Entity p mark ps ks bs) e in
      entity_reading w (format_of m) k (is_kind m layer p) (is_kind m group p) (decimal (id_of m p)) (id_of m p) ps ks (map (saved_brush w m) bs)
      ok.0 ok.1 ok.2 (group_is_no_layer (at m p)) (parent_reads n i p parent)
      ∙ (λ j. record {
        place = sym z j;
        node = unwrap_or (option_map bare (sym e j)) (Brush 0 None []);
        id = sym (cond-false (has_id m n) (Some (id_of m n)) None h) j;
        in_group = id_if m group (sym parent j);
        in_layer = id_if m layer (sym parent j);
        names_parent = has_id m (sym parent j);
        set = option_map (λ s. decimal (set_id_of m s)) (option_map (λ l. l.set) (unwrap_or (option_map link_of (sym e j)) None));
        motion = option_map (λ l. l.motion) (unwrap_or (option_map link_of (sym e j)) None);
        brushes = (ap (λ q. map (judged w) (map (saved_brush w m) (unwrap_or (option_map brushes_of q) []))) (sym e) ∙ brushes_read n) j;
      })
  read_node n i (Brush p mark fs) e k z = absurd (both_ways (is_brush m n) (in_order m shape.standing o n i).1 (ap (λ q. unwrap_or (option_map (has_kind brush) q) false) e))

  read_entity : (n : ℕ) → n ∈ file_order m → reading w (format_of m) (place_in (file_order m) n) (saved_entity w m n) ≡ good m n
  read_entity n i = by_node (at m n) refl
    where
      by_node : (q : Option Node) → at m n ≡ q → reading w (format_of m) (place_in (file_order m) n) (saved_entity w m n) ≡ good m n
      by_node None e = absurd (let h = sym (ap is_some e) ∙ live_in_file m shape.standing o n i in cc h)
      by_node (Some x) e =
          ap (λ q. reading w (format_of m) (place_in (file_order m) n) (unwrap_or (option_map (saved_node w m n) q) (record { props = []; brushes = [] }))) e
          ∙ read_node n i x e (place_in (file_order m) n) refl

  pub readings_are : readings w (saved w m) ≡ map (good m) (file_order m)
  readings_are =
      readings_by_place w (format_of m) 0 (saved_entity w m) (file_order m) (distinct_file m shape.standing o)
      ∙ map_agree (λ n. reading w (format_of m) (0 + place_in (file_order m) n) (saved_entity w m n)) (good m) (file_order m)
      (λ n i. ap (λ p. reading w (format_of m) p (saved_entity w m n)) (zero-add (place_in (file_order m) n)) ∙ read_entity n i)

  pub begins : begins_with_world (map (saved_entity w m) (file_order m)) ≡ true
  begins = ap (λ l. begins_with_world (map (saved_entity w m) l)) (file_begins m shape.standing o).1 ∙ by_node (at m 0) refl
    where
      by_node : (q : Option Node) → at m 0 ≡ q → option_map_or (λ class. bytes_eq class (codes "worldspawn")) (value_at classname (saved_entity w m 0).props) false ≡ true
      by_node None e = absurd (let h = sym (ap (λ q. unwrap_or (option_map (has_kind world) q) false) e) ∙ shape.standing.world_stands in cc h)
      by_node (Some x) e =
          ap (λ q. option_map_or (λ class. bytes_eq class (codes "worldspawn")) (value_at classname (unwrap_or (option_map (saved_node w m 0) q) (record { props = []; brushes = [] })).props) false) e
          ∙ of_world x (no_world_elsewhere x e)
        where
          of_world : (x : Node) → has_kind world x ≡ true → option_map_or (λ class. bytes_eq class (codes "worldspawn")) (value_at classname (saved_node w m 0 x).props) false ≡ true
          of_world (World f ps bs os) h = refl
          of_world (Layer name frozen ps bs os) h = absurd (cc h)
          of_world (Group p mark name link ps bs os) h = absurd (cc h)
          of_world (Entity p mark ps ks bs) h = absurd (cc h)
          of_world (Brush p mark fs) h = absurd (cc h)

pub saved_tree_law : SavedTreeLaw
saved_tree_law w m right shape =
    let o = order_of m shape.standing shape.numbers in
    cond-true (begins_with_world (map (saved_entity w m) (file_order m))) (built_from (readings w (saved w m))) (Err NoWorld) (begins w m right shape o)
    ∙ ap built_from (readings_are w m right shape o)
    ∙ tree_of_good m shape.standing o shape.numbers.most
