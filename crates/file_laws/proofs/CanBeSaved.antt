-- The document of a map can be saved.
use Rattle.std.proofs.Common.{◌≡◌, ℕ, ◌^◌, ◌<◌, ◌≤◌, Bool, true, false, cond, not, ◌==◌, ◌&&◌, ◌||◌, nat_lt, nat_le, List, [], ◌∷◌, ◌++◌, map, length, refl, ap, sym, ◌∙◌, subst, arith, bytes_eq, codes, is_some, unwrap_or, option_map}
use Rattle.std.specs.Prelude.{filter, flat_map, Option, Some, None}
use Rattle.std.specs.Option.{option_map_or}
use Rattle.std.specs.List.{list_all}
use Rattle.std.specs.Fmt.{decimal}
use Rattle.std.specs.Str.{all_ascii_digits}
use Rattle.std.specs.Char.{is_ascii_digit}
use Rattle.file_laws.proofs.Texts.{own}
use Rattle.std.proofs.lemmas.Bool.{both_ways, and_parts, and_from, and_left, or_left, or_right, not-true, false_from_ne_true, leb-true, ne_eqb, le-ltb}
use Rattle.std.proofs.lemmas.Fmt.{digits_decimal}
use Rattle.std.proofs.lemmas.Slice.Eq.{bytes_eq-Decides}
use Rattle.algebra.specs.Members.{◌∈◌, here, there}
use Rattle.uv_lock.specs.declared.texture.Format.{Format}
use Rattle.uv_lock.specs.declared.texture.Format.TheVariants.{Standard, Valve}
use Rattle.map_text.specs.Fits.{is_format}
use Rattle.map_text.specs.Meaning.{format_by_version}
use Rattle.map_text.specs.Spelled.{faces_of_brush}
use Rattle.map_lex.specs.OneToken.{is_value_text, is_key_text, quotes_are_escaped}
use Rattle.map_text.specs.Spelled.{is_savable, is_spelled, all_good, tells_its_format, is_good, is_spelled_entity, is_spelled_brush, keys_are_distinct, face_formats, tex_format}
use Rattle.map_lex.specs.Bytes.{is_stray}
use Rattle.map_model.specs.Tree.{Whole, Node, World, Layer, Group, Entity, Brush, Link, Props, Kind, world, layer, group, entity, at, brushes_at, brushes_of, faces_at, is_kind, is_brush, has_kind, format_of, format_of_node, preorder}
use Rattle.map_model.specs.Props.{value_at, is_text_among, classname}
use Rattle.map_model.specs.Shape.{Shape, PropsOk, ProtectedOk, taken_keys}
use Rattle.file_laws.specs.Leaves.{Leaves, AreSavable}
use Rattle.file_laws.specs.Saved.{file_order, has_id, id_of, set_id_of, parent_props, version_props, frozen_props, link_props, protected_props, saved_props, saved_brush, saved_node, saved_entity, saved}
use Rattle.file_laws.specs.Readings.{stays}
use Rattle.file_laws.specs.Laws.{SavableLaw, SavedTextLaw}
use Rattle.map_write.proofs.DocumentBack.{saved_is_read}
use Rattle.file_laws.proofs.Finished.{saved_map_law}
use Rattle.std.specs.Prelude.{filter_map}
use Rattle.std.proofs.Common.{append_assoc}
use Rattle.map_model.specs.Brushes.{first_of_each}
use Rattle.map_model.specs.Tree.{set_at}
use Rattle.file_laws.proofs.Lists.{flat_map_of_map}
use Rattle.file_laws.proofs.Read.{place_at_most, firsts_shorter, filter_map_shorter, filter_shorter}
use Rattle.file_laws.proofs.Order.{Order, order_of, no_brush}
use Rattle.file_laws.proofs.Good.{in_order, live_in_file}
use Rattle.file_laws.proofs.Placed.{file_begins}
use Rattle.file_laws.proofs.Properties.{absent, parent_keys}
use Rattle.file_laws.proofs.Agreeing.{list_all_of_map}

-- ---- lists

all_append : {A : Type 0} (p : A → Bool) (xs ys : List A) → list_all p xs ≡ true → list_all p ys ≡ true → list_all p (xs ++ ys) ≡ true
all_append p [] ys h k = k
all_append p (x ∷ xs) ys h k = let r = and_parts (p x) (list_all p xs) h in and_from (p x) (list_all p (xs ++ ys)) r.0 (all_append p xs ys r.1 k)

all_by : {A : Type 0} (p q : A → Bool) (xs : List A) → ((x : A) → p x ≡ true → q x ≡ true) → list_all p xs ≡ true → list_all q xs ≡ true
all_by p q [] f h = refl
all_by p q (x ∷ xs) f h = let r = and_parts (p x) (list_all p xs) h in and_from (q x) (list_all q xs) (f x r.0) (all_by p q xs f r.1)

all_both : {A : Type 0} (p q : A → Bool) (xs : List A) → list_all p xs ≡ true → list_all q xs ≡ true → list_all (λ x. p x && q x) xs ≡ true
all_both p q [] h k = refl
all_both p q (x ∷ xs) h k =
    let r = and_parts (p x) (list_all p xs) h in let s = and_parts (q x) (list_all q xs) k in
    and_from (p x && q x) (list_all (λ y. p y && q y) xs) (and_from (p x) (q x) r.0 s.0) (all_both p q xs r.1 s.1)

-- ---- digits can stand between quotes

digit_quotes : (previous b : ℕ) (text : List ℕ) → is_ascii_digit b ≡ true → quotes_are_escaped b text ≡ true → quotes_are_escaped previous (b ∷ text) ≡ true
digit_quotes previous b text h k =
    let r = and_parts (nat_le 48 b) (nat_le b 57) h in
    let low = leb-true 48 b r.0 in
    and_from (not (b == 34) || previous == 92) (quotes_are_escaped b text)
    (or_left (not (b == 34)) (previous == 92) (ap not (ne_eqb b 34 (λ e. ne_of_gt low (sym e))))) k
  where
    ne_of_gt : {b : ℕ} → 48 ≤ b → 34 ≡ b → ⊥
    ne_of_gt low e = omega arith

digit_byte : (b : ℕ) → is_ascii_digit b ≡ true → (not (b == 10) && not (is_stray b)) ≡ true
digit_byte b h =
    let r = and_parts (nat_le 48 b) (nat_le b 57) h in
    let low = leb-true 48 b r.0 in
    and_from (not (b == 10)) (not (is_stray b)) (ap not (ne_eqb b 10 (λ e. no_feed low (sym e)))) (ap not (and_left (nat_lt b 32) (not (Rattle.map_lex.specs.Bytes.is_blank b)) (le-ltb b 32 (omega arith))))
  where
    no_feed : {b : ℕ} → 48 ≤ b → 10 ≡ b → ⊥
    no_feed low e = omega arith

digits_quotable : (previous : ℕ) (text : List ℕ) → all_ascii_digits text ≡ true →
    (quotes_are_escaped previous text ≡ true) × (list_all (λ b. not (b == 10) && not (is_stray b)) text ≡ true)
digits_quotable previous [] h = (refl, refl)
digits_quotable previous (b ∷ text) h =
    let r = and_parts (is_ascii_digit b) (all_ascii_digits text) h in
    let ih = digits_quotable b text r.1 in
    (digit_quotes previous b text r.0 ih.0, and_from (not (b == 10) && not (is_stray b)) (list_all (λ b. not (b == 10) && not (is_stray b)) text) (digit_byte b r.0) ih.1)

decimal_quotable : (n : ℕ) → n < 2 ^ 64 → is_value_text (decimal n) ≡ true
decimal_quotable n small =
    let r = digits_quotable 34 (decimal n) (digits_decimal own n small) in
    and_from (quotes_are_escaped 34 (decimal n)) (list_all (λ b. not (b == 10) && not (is_stray b)) (decimal n)) r.0 r.1

-- ---- properties: what is written before, or behind, further properties

abbrev is_taken : Kind → List ℕ × List ℕ → Bool
is_taken k p = is_text_among p.0 (taken_keys k)

abbrev is_savable_property : List ℕ × List ℕ → Bool
is_savable_property p = is_key_text p.0 && is_value_text p.1

keys_apart : (k : Kind) (p q : List ℕ × List ℕ) → is_taken k p ≡ true → stays k q ≡ true → bytes_eq q.0 p.0 ≡ false
keys_apart k p q h s = false_from_ne_true (bytes_eq q.0 p.0) (λ e.
    both_ways (is_text_among q.0 (taken_keys k)) (not-true (is_text_among q.0 (taken_keys k)) s)
    (ap (λ x. is_text_among x (taken_keys k)) ((bytes_eq-Decides q.0 p.0).0 e) ∙ h))

apart_from_all : (k : Kind) (p : List ℕ × List ℕ) (ps : Props) → is_taken k p ≡ true → list_all (stays k) ps ≡ true → list_all (λ q. not (bytes_eq q.0 p.0)) ps ≡ true
apart_from_all k p ps h s = all_by (stays k) (λ q. not (bytes_eq q.0 p.0)) ps (λ q t. ap not (keys_apart k p q h t)) s

distinct_before : (k : Kind) (pre ps : Props) → keys_are_distinct pre ≡ true → list_all (is_taken k) pre ≡ true → list_all (stays k) ps ≡ true → keys_are_distinct ps ≡ true →
    keys_are_distinct (pre ++ ps) ≡ true
distinct_before k [] ps d t s e = e
distinct_before k (p ∷ pre) ps d t s e =
    let a = and_parts (list_all (λ q. not (bytes_eq q.0 p.0)) pre) (keys_are_distinct pre) d in
    let b = and_parts (is_taken k p) (list_all (is_taken k) pre) t in
    and_from (list_all (λ q. not (bytes_eq q.0 p.0)) (pre ++ ps)) (keys_are_distinct (pre ++ ps))
    (all_append (λ q. not (bytes_eq q.0 p.0)) pre ps a.0 (apart_from_all k p ps b.0 s))
    (distinct_before k pre ps a.1 b.1 s e)

taken_apart : (k : Kind) (q : List ℕ × List ℕ) (suf : Props) → stays k q ≡ true → list_all (is_taken k) suf ≡ true → list_all (λ r. not (bytes_eq r.0 q.0)) suf ≡ true
taken_apart k q suf s t = all_by (is_taken k) (λ r. not (bytes_eq r.0 q.0)) suf
    (λ r h. ap not (false_from_ne_true (bytes_eq r.0 q.0) (λ e.
    both_ways (is_text_among q.0 (taken_keys k)) (not-true (is_text_among q.0 (taken_keys k)) s)
    (ap (λ x. is_text_among x (taken_keys k)) (sym ((bytes_eq-Decides r.0 q.0).0 e)) ∙ h)))) t

distinct_behind : (k : Kind) (ps suf : Props) → keys_are_distinct ps ≡ true → list_all (stays k) ps ≡ true → list_all (is_taken k) suf ≡ true → keys_are_distinct suf ≡ true →
    keys_are_distinct (ps ++ suf) ≡ true
distinct_behind k [] suf d s t e = e
distinct_behind k (p ∷ ps) suf d s t e =
    let a = and_parts (list_all (λ q. not (bytes_eq q.0 p.0)) ps) (keys_are_distinct ps) d in
    let b = and_parts (stays k p) (list_all (stays k) ps) s in
    and_from (list_all (λ q. not (bytes_eq q.0 p.0)) (ps ++ suf)) (keys_are_distinct (ps ++ suf))
    (all_append (λ q. not (bytes_eq q.0 p.0)) ps suf a.0 (taken_apart k p suf b.0 t))
    (distinct_behind k ps suf a.1 b.1 t e)

further_savable : (k : Kind) (ps : Props) → PropsOk k ps → list_all is_savable_property ps ≡ true
further_savable k ps ok = all_both (λ p. is_key_text p.0) (λ p. is_value_text p.1) ps ok.keys ok.values

-- Written properties: distinct taken keys that can be saved with their values.
record Written (k : Kind) (ps : Props) : Type 0 where
  distinct : keys_are_distinct ps ≡ true
  taken : list_all (is_taken k) ps ≡ true
  savable : list_all is_savable_property ps ≡ true

record CanSave (ps : Props) : Type 0 where
  distinct : keys_are_distinct ps ≡ true
  savable : list_all is_savable_property ps ≡ true

save_before : (k : Kind) (pre ps : Props) → Written k pre → PropsOk k ps → CanSave (pre ++ ps)
save_before k pre ps w ok = record {
  distinct = distinct_before k pre ps w.distinct w.taken ok.free ok.distinct;
  savable = all_append is_savable_property pre ps w.savable (further_savable k ps ok);
}

save_behind : (k : Kind) (ps suf : Props) → Written k suf → PropsOk k ps → CanSave (ps ++ suf)
save_behind k ps suf w ok = record {
  distinct = distinct_behind k ps suf ok.distinct ok.free w.taken w.distinct;
  savable = all_append is_savable_property ps suf (further_savable k ps ok) w.savable;
}

-- ---- each kind

-- A pair with a key that is known to be savable.
one_savable : (key value : List ℕ) → is_key_text key ≡ true → is_value_text value ≡ true → is_savable_property (key, value) ≡ true
one_savable key value h k = and_from (is_key_text key) (is_value_text value) h k

world_written : (f : Format) → Written world ((classname, codes "worldspawn") ∷ version_props f)
world_written Standard = record { distinct = refl; taken = refl; savable = refl }
world_written Valve = record { distinct = refl; taken = refl; savable = refl }

layer_written : (name t : List ℕ) (frozen : Bool) → is_value_text name ≡ true → is_value_text t ≡ true →
    Written layer ((classname, codes "func_group") ∷ (codes "_tb_type", codes "_tb_layer") ∷ (codes "_tb_name", name) ∷ (codes "_tb_id", t) ∷ frozen_props frozen)
layer_written name t true h k = record { distinct = refl; taken = refl; savable = λ i. h i && (k i && true) }
layer_written name t false h k = record { distinct = refl; taken = refl; savable = λ i. h i && (k i && true) }

group_written : (name t tp : List ℕ) (l g : Bool) → is_value_text name ≡ true → is_value_text t ≡ true → is_value_text tp ≡ true →
    Written group ((classname, codes "func_group") ∷ (codes "_tb_type", codes "_tb_group") ∷ (codes "_tb_name", name) ∷ (codes "_tb_id", t) ∷ parent_keys l g tp)
group_written name t tp true g h k p = record { distinct = refl; taken = refl; savable = λ i. h i && (k i && (p i && true)) }
group_written name t tp false true h k p = record { distinct = refl; taken = refl; savable = λ i. h i && (k i && (p i && true)) }
group_written name t tp false false h k p = record { distinct = refl; taken = refl; savable = λ i. h i && (k i && true) }

linked_written : (name t tp ts tm : List ℕ) (l g : Bool) → is_value_text name ≡ true → is_value_text t ≡ true → is_value_text tp ≡ true → is_value_text ts ≡ true → is_value_text tm ≡ true →
    Written group (((classname, codes "func_group") ∷ (codes "_tb_type", codes "_tb_group") ∷ (codes "_tb_name", name) ∷ (codes "_tb_id", t) ∷ parent_keys l g tp)
    ++ ((codes "_tb_linked_group_id", ts) ∷ (codes "_tb_transformation", tm) ∷ []))
linked_written name t tp ts tm true g h k p a b = record { distinct = refl; taken = refl; savable = λ i. h i && (k i && (p i && (a i && (b i && true)))) }
linked_written name t tp ts tm false true h k p a b = record { distinct = refl; taken = refl; savable = λ i. h i && (k i && (p i && (a i && (b i && true)))) }
linked_written name t tp ts tm false false h k p a b = record { distinct = refl; taken = refl; savable = λ i. h i && (k i && (a i && (b i && true))) }

entity_written : (l g : Bool) (tp : List ℕ) (keys : List (List ℕ)) → is_value_text tp ≡ true → ProtectedOk keys → Written entity (parent_keys l g tp ++ protected_props keys)
entity_written true g tp [] p ok = record { distinct = refl; taken = refl; savable = λ i. p i && true }
entity_written true g tp (key ∷ keys) p ok = record { distinct = refl; taken = refl; savable = λ i. p i && (ok.joined i && true) }
entity_written false true tp [] p ok = record { distinct = refl; taken = refl; savable = λ i. p i && true }
entity_written false true tp (key ∷ keys) p ok = record { distinct = refl; taken = refl; savable = λ i. p i && (ok.joined i && true) }
entity_written false false tp [] p ok = record { distinct = refl; taken = refl; savable = refl }
entity_written false false tp (key ∷ keys) p ok = record { distinct = refl; taken = refl; savable = λ i. ok.joined i && true }

-- ---- the document

all_of_flat_map : {A B : Type 0} (p : B → Bool) (f : A → List B) (xs : List A) → ((x : A) → x ∈ xs → list_all p (f x) ≡ true) → list_all p (flat_map f xs) ≡ true
all_of_flat_map p f [] h = refl
all_of_flat_map p f (x ∷ xs) h = all_append p (f x) (flat_map f xs) (h x here) (all_of_flat_map p f xs (λ y i. h y (there i)))

all_of_map : {A B : Type 0} (p : B → Bool) (f : A → B) (xs : List A) → list_all (λ x. p (f x)) xs ≡ true → list_all p (map f xs) ≡ true
all_of_map p f [] h = refl
all_of_map p f (x ∷ xs) h = let r = and_parts (p (f x)) (list_all (λ y. p (f y)) xs) h in and_from (p (f x)) (list_all p (map f xs)) r.0 (all_of_map p f xs r.1)

same_format : (f : Format) → is_format f f ≡ true
same_format Standard = refl
same_format Valve = refl

version_told : (f : Format) (ps : Props) → PropsOk world ps →
    option_map_or (λ value. cond (bytes_eq value (codes "220")) Valve Standard) (value_at (codes "mapversion") ((classname, codes "worldspawn") ∷ (version_props f ++ ps))) Standard ≡ f
version_told Standard ps ok = ap (λ v. option_map_or (λ value. cond (bytes_eq value (codes "220")) Valve Standard) v Standard) (absent world (codes "mapversion") ps refl ok.free)
version_told Valve ps ok = refl

module _ (w : Leaves) (m : Whole) (can : AreSavable w m) (shape : Shape m) (o : Order m (preorder m 0)) where
  id_small : (n : ℕ) → id_of m n < 2 ^ 64
  id_small n =
      let a = place_at_most n (filter (has_id m) (file_order m)) in
      let b = filter_shorter (has_id m) (file_order m) in
      let c = filter_shorter (no_brush m) (preorder m 0) in
      let d = o.most in
      let e = shape.numbers.most in
      omega arith

  set_small : (s : ℕ) → set_id_of m s < 2 ^ 64
  set_small s =
      let a = place_at_most s (first_of_each (λ a b. a == b) (filter_map (set_at m) (file_order m))) in
      let b = firsts_shorter (λ a b. a == b) (filter_map (set_at m) (file_order m)) in
      let c = filter_map_shorter (set_at m) (file_order m) in
      let d = filter_shorter (no_brush m) (preorder m 0) in
      let e = o.most in
      let f = shape.numbers.most in
      omega arith

  id_quotable : (n : ℕ) → is_value_text (decimal (id_of m n)) ≡ true
  id_quotable n = decimal_quotable (id_of m n) (id_small n)

  brushes_spelled : (n : ℕ) → list_all is_spelled_brush (map (saved_brush w m) (brushes_at m n)) ≡ true
  brushes_spelled n = list_all_of_map is_spelled_brush (saved_brush w m) (brushes_at m n) (λ b i. can.brush b (shape.standing.brushes_fit n b i))

  props_can : (n : ℕ) (x : Node) → at m n ≡ Some x → is_brush m n ≡ false → CanSave (saved_props w m n x)
  props_can n (World f ps bs os) e nb = save_before world ((classname, codes "worldspawn") ∷ version_props f) ps (world_written f) (shape.each_node n (World f ps bs os) e)
  props_can n (Layer name frozen ps bs os) e nb =
      let ok = shape.each_node n (Layer name frozen ps bs os) e in
      save_before layer ((classname, codes "func_group") ∷ (codes "_tb_type", codes "_tb_layer") ∷ (codes "_tb_name", name) ∷ (codes "_tb_id", decimal (id_of m n)) ∷ frozen_props frozen) ps
      (layer_written name (decimal (id_of m n)) frozen ok.0 (id_quotable n)) ok.1
  props_can n (Group p mark name None ps bs os) e nb =
      let ok = shape.each_node n (Group p mark name None ps bs os) e in
      save_before group ((classname, codes "func_group") ∷ (codes "_tb_type", codes "_tb_group") ∷ (codes "_tb_name", name) ∷ (codes "_tb_id", decimal (id_of m n)) ∷ parent_props m p) ps
      (group_written name (decimal (id_of m n)) (decimal (id_of m p)) (is_kind m layer p) (is_kind m group p) ok.0 (id_quotable n) (id_quotable p)) ok.2
  props_can n (Group p mark name (Some l) ps bs os) e nb =
      let ok = shape.each_node n (Group p mark name (Some l) ps bs os) e in
      let head : Props = (classname, codes "func_group") ∷ (codes "_tb_type", codes "_tb_group") ∷ (codes "_tb_name", name) ∷ (codes "_tb_id", decimal (id_of m n)) ∷ parent_props m p in
      subst CanSave (append_assoc head (link_props w m (Some l)) ps)
      (save_before group (head ++ link_props w m (Some l)) ps
      (linked_written name (decimal (id_of m n)) (decimal (id_of m p)) (decimal (set_id_of m l.set)) (w.motion_text l.motion) (is_kind m layer p) (is_kind m group p)
      ok.0 (id_quotable n) (id_quotable p) (decimal_quotable (set_id_of m l.set) (set_small l.set)) (can.motion n l (ap (λ v. unwrap_or (option_map Rattle.map_model.specs.Tree.link_of v) None) e)))
      ok.2)
  props_can n (Entity p mark ps ks bs) e nb =
      let ok = shape.each_node n (Entity p mark ps ks bs) e in
      save_behind entity ps (parent_props m p ++ protected_props ks) (entity_written (is_kind m layer p) (is_kind m group p) (decimal (id_of m p)) ks (id_quotable p) ok.2) ok.0
  props_can n (Brush p mark fs) e nb = absurd (both_ways (is_brush m n) nb (ap (λ q. unwrap_or (option_map (has_kind Rattle.map_model.specs.Tree.brush) q) false) e))

  entity_spelled : (n : ℕ) → n ∈ file_order m → is_spelled_entity (saved_entity w m n) ≡ true
  entity_spelled n i = by_node (at m n) refl
    where
      by_node : (q : Option Node) → at m n ≡ q → is_spelled_entity (saved_entity w m n) ≡ true
      by_node None e = absurd (let h = sym (ap is_some e) ∙ live_in_file m shape.standing o n i in cc h)
      by_node (Some x) e =
          let c = props_can n x e (in_order m shape.standing o n i).1 in
          let brushes : list_all is_spelled_brush (map (saved_brush w m) (brushes_of x)) ≡ true =
          ap (λ q. list_all is_spelled_brush (map (saved_brush w m) (unwrap_or (option_map brushes_of q) []))) (sym e) ∙ brushes_spelled n in
          ap (λ q. is_spelled_entity (unwrap_or (option_map (saved_node w m n) q) (record { props = []; brushes = [] }))) e
          ∙ and_from (keys_are_distinct (saved_props w m n x)) (list_all is_savable_property (saved_props w m n x) && list_all is_spelled_brush (map (saved_brush w m) (brushes_of x)))
          c.distinct
          (and_from (list_all is_savable_property (saved_props w m n x)) (list_all is_spelled_brush (map (saved_brush w m) (brushes_of x))) c.savable brushes)

  -- The brushes of an entity of the document.
  entity_brushes : (n : ℕ) → (saved_entity w m n).brushes ≡ map (saved_brush w m) (brushes_at m n)
  entity_brushes n = by_node (at m n)
    where
      by_node : (q : Option Node) → (unwrap_or (option_map (saved_node w m n) q) (record { props = []; brushes = [] })).brushes ≡ map (saved_brush w m) (unwrap_or (option_map brushes_of q) [])
      by_node None = refl
      by_node (Some x) = refl

  good_brushes : (n : ℕ) → list_all is_good (saved_entity w m n).brushes ≡ true
  good_brushes n = ap (list_all is_good) (entity_brushes n) ∙ list_all_of_map is_good (saved_brush w m) (brushes_at m n) (λ b i. refl)

  entity_formats : (n : ℕ) → list_all (is_format (format_of m)) (flat_map (λ b. map (λ f. tex_format f.tex) (faces_of_brush b)) (saved_entity w m n).brushes) ≡ true
  entity_formats n =
      ap (λ l. list_all (is_format (format_of m)) (flat_map (λ b. map (λ f. tex_format f.tex) (faces_of_brush b)) l)) (entity_brushes n)
      ∙ ap (list_all (is_format (format_of m))) (flat_map_of_map (λ b. map (λ f. tex_format f.tex) (faces_of_brush b)) (saved_brush w m) (brushes_at m n))
      ∙ all_of_flat_map (is_format (format_of m)) (λ b. map (λ f. tex_format f.tex) (faces_at m b)) (brushes_at m n)
      (λ b i. all_of_map (is_format (format_of m)) (λ f. tex_format f.tex) (faces_at m b) (can.formats b (shape.standing.brushes_fit n b i)))

  tells : is_format (format_of m) (format_by_version (map (saved_entity w m) (file_order m))) ≡ true
  tells =
      ap (λ l. is_format (format_of m) (format_by_version (map (saved_entity w m) l))) (file_begins m shape.standing o).1
      ∙ by_node (at m 0) refl
    where
      of_world : (x : Node) → at m 0 ≡ Some x → has_kind world x ≡ true →
          option_map_or (λ value. cond (bytes_eq value (codes "220")) Valve Standard) (value_at (codes "mapversion") (saved_node w m 0 x).props) Standard ≡ format_of_node x
      of_world (World f ps bs os) e h = version_told f ps (shape.each_node 0 (World f ps bs os) e)
      of_world (Layer name frozen ps bs os) e h = absurd (cc h)
      of_world (Group p mark name link ps bs os) e h = absurd (cc h)
      of_world (Entity p mark ps ks bs) e h = absurd (cc h)
      of_world (Brush p mark fs) e h = absurd (cc h)

      by_node : (q : Option Node) → at m 0 ≡ q →
          is_format (format_of m) (option_map_or (λ value. cond (bytes_eq value (codes "220")) Valve Standard) (value_at (codes "mapversion") (saved_entity w m 0).props) Standard) ≡ true
      by_node None e = absurd (let h = sym (ap (λ q. unwrap_or (option_map (has_kind world) q) false) e) ∙ shape.standing.world_stands in cc h)
      by_node (Some x) e =
          let kind : has_kind world x ≡ true = sym (ap (λ q. unwrap_or (option_map (has_kind world) q) false) e) ∙ shape.standing.world_stands in
          (λ i. is_format (unwrap_or (option_map format_of_node (e i)) Standard)
          (option_map_or (λ value. cond (bytes_eq value (codes "220")) Valve Standard) (value_at (codes "mapversion") (unwrap_or (option_map (saved_node w m 0) (e i)) (record { props = []; brushes = [] })).props) Standard))
          ∙ ap (is_format (format_of_node x)) (of_world x e kind)
          ∙ same_format (format_of_node x)

  pub can_be_saved : is_savable (saved w m) ≡ true
  unfolding is_savable is_spelled
  can_be_saved =
      and_from (all_good (saved w m)) (is_spelled (saved w m) && tells_its_format (saved w m))
      (list_all_of_map (λ e. list_all is_good e.brushes) (saved_entity w m) (file_order m) (λ n i. good_brushes n))
      (and_from (is_spelled (saved w m)) (tells_its_format (saved w m))
      (and_from (list_all is_spelled_entity (saved w m).entities) (list_all (is_format (format_of m)) (face_formats (saved w m)))
      (list_all_of_map is_spelled_entity (saved_entity w m) (file_order m) entity_spelled)
      (ap (list_all (is_format (format_of m))) (flat_map_of_map (λ e. flat_map (λ b. map (λ f. tex_format f.tex) (faces_of_brush b)) e.brushes) (saved_entity w m) (file_order m))
      ∙ all_of_flat_map (is_format (format_of m)) (λ n. flat_map (λ b. map (λ f. tex_format f.tex) (faces_of_brush b)) (saved_entity w m n).brushes) (file_order m) (λ n i. entity_formats n)))
      (or_right (nat_lt 0 (length (face_formats (saved w m)))) (is_format (format_of m) (format_by_version (saved w m).entities)) tells))

pub savable_law : SavableLaw
savable_law w m can shape = can_be_saved w m can shape (order_of m shape.standing shape.numbers)

pub saved_text_law : SavedTextLaw
saved_text_law w m right can shape all_one = record { reads = saved_is_read (saved w m) (savable_law w m can shape); builds = saved_map_law w m right shape all_one }
