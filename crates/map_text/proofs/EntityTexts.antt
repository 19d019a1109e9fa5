-- Entities that are read.
use Rattle.std.proofs.Common.{◌≡◌, ℕ, ◌+◌, ◌<◌, ◌≤◌, ◌&&◌, Bool, true, false, cond, List, [], ◌∷◌, ◌++◌, map, length, drop, slice_get, None, Some, ap, sym, ◌∙◌, refl, arith, append_assoc, length-append, drop-cons, suc, add-one}
use Rattle.std.proofs.lemmas.Bool.{false≢true}
use Rattle.std.proofs.lemmas.List.{append-nil, drop_all}
use Rattle.std.proofs.lemmas.Grind.{flat_map-append}
use Rattle.std.proofs.lemmas.Option.{get_or_from_slice_get, slice_get_within}
use Rattle.std.proofs.lemmas.Slice.Eq.{bytes_eq-Decides}
use Rattle.std.specs.Borrow.{Bor}
use Rattle.std.specs.List.{flat_map, list_all}
use Rattle.std.specs.Str.{bytes_eq}
use Rattle.indexmap.specs.IndexMap.{insert_entry}
use Rattle.uv_lock.specs.declared.texture.Format.{Format}
use Rattle.map_text.specs.declared.document.RawBrush.{RawBrush}
use Rattle.map_text.specs.declared.document.RawEntity.{RawEntity}
use Rattle.map_text.specs.declared.entity_text.ItemStart.TheVariants.{Key, Brush}
use Rattle.map_text.specs.Grammar.{Symbol, Item, property, brush, item_symbols, bracket, quote}
use Rattle.map_text.specs.Fits.{item_fits, format_of, faces_of}
use Rattle.map_text.specs.Meaning.{put_property, put_items, brushes_of_item}
use Rattle.map_text.specs.Refusals.{Awaited, an_item, a_value, first_in_brush}
use Rattle.map_text.specs.Reading.{ReaderState, Passes, IsRead}
use Rattle.map_text.specs.Parts.{brush_part, value_part, entity_part, bytes_of_pairs, Pairs, same_bytes, format_of_face}
use Rattle.map_text.specs.Items.{BeginsItem}
use Rattle.map_text.proofs.Passing.{passes_none, passes_as, joined, framed, all_appended, shorter, no_longer}

-- ---- properties

bytes_eq-flipped : (a b : List ℕ) → bytes_eq a b ≡ bytes_eq b a
bytes_eq-flipped a b = by (bytes_eq a b) (bytes_eq b a) refl refl
  where
    by : (x y : Bool) → bytes_eq a b ≡ x → bytes_eq b a ≡ y → x ≡ y
    by true true e h = refl
    by false false e h = refl
    by true false e h = absurd (false≢true (sym h ∙ (bytes_eq-Decides b a).1 (sym ((bytes_eq-Decides a b).0 e))))
    by false true e h = absurd (false≢true (sym e ∙ (bytes_eq-Decides a b).1 (sym ((bytes_eq-Decides b a).0 h))))

pub inserted : (es : Pairs) (k v : Bor (List ℕ)) → bytes_of_pairs (insert_entry same_bytes es k v) ≡ put_property k.now v.now (bytes_of_pairs es)
inserted [] k v = refl
inserted (e ∷ es) k v = by (bytes_eq k.now e.0.now) refl (inserted es k v)
  where
    by : (b : Bool) → bytes_eq k.now e.0.now ≡ b → bytes_of_pairs (insert_entry same_bytes es k v) ≡ put_property k.now v.now (bytes_of_pairs es)
        → bytes_of_pairs (insert_entry same_bytes (e ∷ es) k v) ≡ put_property k.now v.now (bytes_of_pairs (e ∷ es))
    by true h more =
        ap (λ b. bytes_of_pairs (cond b ((e.0, v) ∷ es) (e ∷ insert_entry same_bytes es k v))) h
        ∙ ap (λ n. (n, v.now) ∷ bytes_of_pairs es) (sym ((bytes_eq-Decides k.now e.0.now).0 h))
        ∙ ap (λ b. cond b ((k.now, v.now) ∷ bytes_of_pairs es) ((e.0.now, e.1.now) ∷ put_property k.now v.now (bytes_of_pairs es))) (sym (bytes_eq-flipped e.0.now k.now ∙ h))
    by false h more =
        ap (λ b. bytes_of_pairs (cond b ((e.0, v) ∷ es) (e ∷ insert_entry same_bytes es k v))) h
        ∙ ap (λ ps. (e.0.now, e.1.now) ∷ ps) more
        ∙ ap (λ b. cond b ((k.now, v.now) ∷ bytes_of_pairs es) ((e.0.now, e.1.now) ∷ put_property k.now v.now (bytes_of_pairs es))) (sym (bytes_eq-flipped e.0.now k.now ∙ h))

put_items-append : (ps : List (List ℕ × List ℕ)) (xs ys : List Item) → put_items ps (xs ++ ys) ≡ put_items (put_items ps xs) ys
put_items-append ps [] ys = refl
put_items-append ps (property key value ∷ xs) ys = put_items-append (put_property key value ps) xs ys
put_items-append ps (brush faces ∷ xs) ys = put_items-append ps xs ys

-- ---- copies of pairs

pub record CopiedSoFar (es : Pairs) (copies : List (List ℕ × List ℕ)) : Type 0 where
  pub left : bytes_of_pairs es ≡ copies ++ bytes_of_pairs (drop (length copies) es)

pub none_copied : (es : Pairs) → CopiedSoFar es []
none_copied es = record { left = refl }

pair_at : (es : Pairs) (n : ℕ) (p : Bor (List ℕ) × Bor (List ℕ)) → slice_get es n ≡ Some p → drop n es ≡ p ∷ drop (n + 1) es
pair_at es n p e =
    drop-cons es n p (slice_get_within es n p e) ∙ ap (λ x. x ∷ drop (suc n) es) (get_or_from_slice_get es n p p e) ∙ ap (λ m. p ∷ drop m es) (sym (add-one n))

pub one_copied : (es : Pairs) (copies : List (List ℕ × List ℕ)) (n : ℕ) (p : Bor (List ℕ) × Bor (List ℕ)) (key value : List ℕ) → CopiedSoFar es copies → n ≡ length copies → Some p ≡ slice_get es n
    → key ≡ p.0.now → value ≡ p.1.now → CopiedSoFar es (copies ++ (key, value) ∷ [])
one_copied es copies n p key value h len e k v = record {
  left = h.left ∙ ap (λ m. copies ++ bytes_of_pairs (drop m es)) (sym len)
      ∙ ap (λ l. copies ++ bytes_of_pairs l) (pair_at es n p (sym e))
      ∙ (λ i. copies ++ (sym k i, sym v i) ∷ bytes_of_pairs (drop (n + 1) es))
      ∙ sym (append_assoc copies ((key, value) ∷ []) (bytes_of_pairs (drop (n + 1) es)))
      ∙ ap (λ n. (copies ++ (key, value) ∷ []) ++ bytes_of_pairs (drop n es)) (ap (λ m. m + 1) len ∙ sym (length-append copies ((key, value) ∷ [])));
}

pub all_copied : (es : Pairs) (copies : List (List ℕ × List ℕ)) → CopiedSoFar es copies → length es ≤ length copies → copies ≡ bytes_of_pairs es
all_copied es copies h past = sym (h.left ∙ ap (λ l. copies ++ bytes_of_pairs l) (drop_all (length copies) es past) ∙ append-nil copies)

-- ---- the items so far

abbrev pub formats_of : List Item → List Format
formats_of items = flat_map (λ item. map (λ f. format_of f.texture) (faces_of item)) items

pub record EntitySoFar (start now : ReaderState) (props : Pairs) (brushes : List RawBrush) : Type 0 where
  pub items : List Item
  pub fit : list_all item_fits items ≡ true
  pub passes : Passes start now (an_item ∷ []) (an_item ∷ []) (flat_map item_symbols items) (formats_of items)
  pub props_are : bytes_of_pairs props ≡ put_items [] items
  pub brushes_are : brushes ≡ flat_map brushes_of_item items

pub no_items : (start : ReaderState) (props : Pairs) (brushes : List RawBrush) → props ≡ [] → brushes ≡ [] → EntitySoFar start start props brushes
no_items start props brushes e h = record { items = []; fit = refl; passes = passes_none start (an_item ∷ []); props_are = ap bytes_of_pairs e; brushes_are = h }

one_item : {start s1 s3 : ReaderState} (items : List Item) (item : Item) → Passes start s1 (an_item ∷ []) (an_item ∷ []) (flat_map item_symbols items) (formats_of items)
    → Passes s1 s3 (an_item ∷ []) (an_item ∷ []) (item_symbols item) (map format_of_face (faces_of item))
    → Passes start s3 (an_item ∷ []) (an_item ∷ []) (flat_map item_symbols (items ++ item ∷ [])) (formats_of (items ++ item ∷ []))
one_item {start} {s1} {s3} items item before here =
    passes_as (joined start s1 s3 (an_item ∷ []) (an_item ∷ []) (an_item ∷ []) _ _ _ _ before here)
    (ap (λ l. flat_map item_symbols items ++ l) (sym (append-nil (item_symbols item))) ∙ sym (flat_map-append item_symbols items (item ∷ [])))
    (ap (λ l. formats_of items ++ l) (sym (append-nil (map format_of_face (faces_of item)))) ∙ sym (flat_map-append (λ item. map format_of_face (faces_of item)) items (item ∷ [])))

-- what stands behind a place that was read, with a place that is awaited still
pub behind : {a b c : ReaderState} (p q : Awaited) (s : List Symbol) (t : List Symbol) (f g : List Format) → Passes a b (q ∷ []) (p ∷ q ∷ []) s f → Passes b c (p ∷ []) [] t g
    → Passes a c (q ∷ []) (q ∷ []) (s ++ t) (f ++ g)
behind {a} {b} {c} p q s t f g x y = joined a b c (q ∷ []) (p ∷ q ∷ []) (q ∷ []) s t f g x (framed b c (p ∷ []) [] t g (q ∷ []) y)

pub property_more : {start s1 s2 s3 : ReaderState} {props : Pairs} {brushes : List RawBrush} {value : List ℕ} (key : Bor (List ℕ)) (given : Bor (List ℕ)) (more : Pairs) → EntitySoFar start s1 props brushes
    → BeginsItem s1 s2 (Some (Key key)) → IsRead value_part (a_value ∷ []) [] s2 s3 value → given.now ≡ value → more ≡ insert_entry same_bytes props key given → EntitySoFar start s3 more brushes
property_more {start} {s1} {s2} {s3} {props} {brushes} {value} key given more e begins v is put = record {
  items = e.items ++ property key.now v.text ∷ [];
  fit = all_appended item_fits e.items (property key.now v.text ∷ []) e.fit (λ i. begins.0 i && true);
  passes = one_item e.items (property key.now v.text) e.passes (behind a_value an_item (quote key.now ∷ []) (quote v.text ∷ []) [] [] begins.1 v.passes);
  props_are = ap bytes_of_pairs put ∙ inserted props key given ∙ (λ i. put_property key.now ((is ∙ v.meaning) i) (e.props_are i))
      ∙ sym (put_items-append [] e.items (property key.now v.text ∷ []));
  brushes_are = e.brushes_are ∙ sym (append-nil (flat_map brushes_of_item e.items)) ∙ sym (flat_map-append brushes_of_item e.items (property key.now v.text ∷ []));
}

pub brush_more : {start s1 s2 s3 : ReaderState} {props : Pairs} {brushes : List RawBrush} {value : RawBrush} → EntitySoFar start s1 props brushes
    → BeginsItem s1 s2 (Some Brush) → IsRead brush_part (first_in_brush ∷ []) [] s2 s3 value → EntitySoFar start s3 props (brushes ++ value ∷ [])
brush_more {start} {s1} {s2} {s3} {props} {brushes} {value} e begins b = record {
  items = e.items ++ brush b.text ∷ [];
  fit = all_appended item_fits e.items (brush b.text ∷ []) e.fit (λ i. b.fit i && true);
  passes = one_item e.items (brush b.text) e.passes (behind first_in_brush an_item (bracket 123 ∷ []) _ [] _ begins b.passes);
  props_are = e.props_are ∙ sym (put_items-append [] e.items (brush b.text ∷ []));
  brushes_are = (λ i. e.brushes_are i ++ b.meaning i ∷ []) ∙ sym (flat_map-append brushes_of_item e.items (brush b.text ∷ []));
}

pub entity_read : {start s1 s2 : ReaderState} {props : Pairs} {brushes : List RawBrush} (copies : List (List ℕ × List ℕ)) → EntitySoFar start s1 props brushes → BeginsItem s1 s2 None
    → copies ≡ bytes_of_pairs props → IsRead entity_part (an_item ∷ []) [] start s2 (let e : RawEntity = record { props = copies; brushes = brushes } in e)
entity_read {start} {s1} {s2} copies e ends is = record {
  text = e.items;
  fit = e.fit;
  passes = passes_as (joined start s1 s2 (an_item ∷ []) (an_item ∷ []) [] _ _ _ _ e.passes ends) refl (append-nil (formats_of e.items));
  meaning = (λ i. let v : RawEntity = record { props = (is ∙ e.props_are) i; brushes = e.brushes_are i } in v);
}

pub property_shorter : {s1 s2 s3 : ReaderState} {value : List ℕ} (key : Bor (List ℕ)) → BeginsItem s1 s2 (Some (Key key)) → IsRead value_part (a_value ∷ []) [] s2 s3 value
    → length s3.left.tokens < length s1.left.tokens
property_shorter key begins v = let h = shorter begins.1 in let k = no_longer v.passes in omega (arith, h, k)

pub brush_shorter : {s1 s2 s3 : ReaderState} {value : RawBrush} → BeginsItem s1 s2 (Some Brush) → IsRead brush_part (first_in_brush ∷ []) [] s2 s3 value
    → length s3.left.tokens < length s1.left.tokens
brush_shorter begins b = let h = shorter begins in let k = no_longer b.passes in omega (arith, h, k)
