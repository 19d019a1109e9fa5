-- What a document that asks for no links builds, from its readings and the items that stay of them.
use Rattle.std.proofs.Common.{◌≡◌, ℕ, ◌-◌, ◌<◌, ◌≤◌, ◌^◌, Bool, true, false, cond, ◌&&◌, nat_lt, List, length, Option, Some, None, is_some, Result, Ok, Err, option_map, unwrap_or, refl, ap, sym, subst, ◌∙◌, arith}
use Rattle.std.specs.Prelude.{IsTrue, IsErrAnd, IfErr}
use Rattle.std.specs.List.{list_all}
use Rattle.std.proofs.lemmas.Bool.{and_parts, and_from, lt-ltb, le-ltb}
use Rattle.algebra.specs.Members.{◌∈◌}
use Rattle.map_text.specs.declared.document.MapDoc.{MapDoc}
use Rattle.map_text.specs.Reads.{part_count}
use Rattle.map_text.specs.Fits.{is_format}
use Rattle.map_text.specs.Spelled.{is_spelled, is_spelled_entity, face_formats}
use Rattle.map_model.specs.Tree.{Node, link_of, slot_at}
use Rattle.map_model.specs.Below.{Below, IsRight}
use Rattle.map_model.proofs.SomeRight.{some_are_right}
use Rattle.file_laws.specs.FileLeaves.{file_leaves}
use Rattle.file_laws.specs.Readings.{Reading, readings_from}
use Rattle.file_laws.specs.Build.{Built, TreeFault, NoWorld, Full, Item, items, kept_items, slots, map_of, notes, begins_with_world, unless_full}
use Rattle.file_laws.specs.Linked.{built_with_links, build}
use Rattle.file_laws.proofs.Rules.{built_shape_law}
use Rattle.tree_node.specs.Held.{IsMap}
use Rattle.tree_file.specs.Passes.{InPlace, room}
use Rattle.tree_file.specs.declared.fault.TreeFault as fault
use Rattle.tree_file.specs.declared.fault.TreeFault.TheVariants.{Memory, Full as TooMany}
use Rattle.tree_file.specs.Promises.{has_links, IsRefusedFor}
use Rattle.tree_file.proofs.NoLinks.{IsPlain, builds_plain, slot_plain}
use Rattle.tree_file.proofs.Placed.{read_in_place}
use Rattle.tree_file.proofs.SoundLeaves.{sound_leaves}
use Rattle.tree_file.proofs.PlainReadings.{AsksNothing, reading_asks, kept_from}
use Rattle.tree_file.proofs.Sizes.{parts, readings_length, parts_read, room_of_kept}

-- ---- what is asked of the passes

pub entities_spelled : (doc : MapDoc) → is_spelled doc ≡ true → list_all is_spelled_entity doc.entities ≡ true
unfolding is_spelled
entities_spelled doc h = (and_parts (list_all is_spelled_entity doc.entities) (list_all (is_format doc.format) (face_formats doc)) h).0

pub few_entities : (doc : MapDoc) → part_count doc < 2 ^ 32 - 1 → length doc.entities < 2 ^ 32 - 1
few_entities doc h = omega arith

module _ (doc : MapDoc) (rs : List Reading) (read : (b : Below) → IsRight b → readings_from (file_leaves b) doc.format 0 doc.entities ≡ rs) where
  pub in_place : InPlace rs
  in_place = subst InPlace (read some_are_right.tests some_are_right.right) (read_in_place (file_leaves some_are_right.tests) doc.format 0 doc.entities)

  pub few_readings : part_count doc < 2 ^ 32 - 1 → length rs < 2 ^ 32 - 1
  few_readings h =
      let e = ap length (read some_are_right.tests some_are_right.right) in
      let f = readings_length (file_leaves some_are_right.tests) doc.format 0 doc.entities in
      let g = few_entities doc h in
      omega arith

  pub few_items : (kept : List Item) → kept ≡ kept_items (items rs) → part_count doc < 2 ^ 32 - 1 → room kept < 2 ^ 32
  few_items kept is h =
      let a = ap room is in
      let b = room_of_kept rs in
      let c = ap parts (read some_are_right.tests some_are_right.right) in
      let d = parts_read (file_leaves some_are_right.tests) doc.format 0 doc.entities in
      omega arith

-- ---- what is built

no_world : (t : Bool) (r : Result Built TreeFault) → t ≡ false → cond t r (Err NoWorld) ≡ Err NoWorld
no_world t r e = ap (λ s. cond s r (Err NoWorld)) e

pub builds_no_world : (doc : MapDoc) → begins_with_world doc.entities ≡ false → (b : Below) → IsRight b → build (file_leaves b) doc ≡ Err NoWorld
builds_no_world doc e b right = no_world (begins_with_world doc.entities) _ e

none_linked : (o : Option Node) → ((x : Node) → o ≡ Some x → IsPlain x) → unwrap_or (option_map (λ x. is_some (link_of x)) o) false ≡ false
none_linked None h = refl
none_linked (Some x) h = ap is_some (h x refl).link

full_is : (n : ℕ) (t : Bool) (m : Built) → nat_lt 65536 n ≡ t → cond (nat_lt 65536 n) (Err (Full (n - 1))) (Ok m) ≡ cond t (Err (Full (n - 1))) (Ok m)
full_is n t m e = ap (λ s. cond s (Err (Full (n - 1))) (Ok m)) e

module _ (doc : MapDoc) (spelled : is_spelled doc ≡ true) (begins : begins_with_world doc.entities ≡ true) (plain : has_links doc ≡ false)
    (rs : List Reading) (read : (b : Below) → IsRight b → readings_from (file_leaves b) doc.format 0 doc.entities ≡ rs)
    (kept : List Item) (is_kept : kept ≡ kept_items (items rs)) where
  asks_nothing : (i : Item) → i ∈ kept → AsksNothing i.reading
  asks_nothing i m =
      reading_asks (file_leaves some_are_right.tests) doc.format doc.entities plain i.reading
      (subst (λ (l : List Reading). i.reading ∈ l) (sym (read some_are_right.tests some_are_right.right))
      (kept_from rs i (subst (λ (l : List Item). i ∈ l) is_kept m)))

  built_plain : built_with_links rs (items rs) kept ≡ unless_full (notes rs (items rs) kept) (slots kept)
  built_plain = builds_plain rs (items rs) kept (λ i m. (asks_nothing i m).set) (λ i m. (asks_nothing i m).node)

  builds : (b : Below) → IsRight b → build (file_leaves b) doc ≡ unless_full (notes rs (items rs) kept) (slots kept)
  builds b right =
      (λ i. cond (begins i) (built_with_links (read b right i) (items (read b right i)) (kept_items (items (read b right i)))) (Err NoWorld))
      ∙ ap (built_with_links rs (items rs)) (sym is_kept) ∙ built_plain

  pub too_many : 65536 < length (slots kept) → (b : Below) → IsRight b → build (file_leaves b) doc ≡ Err (Full (length (slots kept) - 1))
  too_many l b right =
      builds b right ∙ full_is (length (slots kept)) true (record { map = map_of (slots kept); notes = notes rs (items rs) kept }) (lt-ltb 65536 (length (slots kept)) l)

  pub built : length (slots kept) ≤ 65536 → (b : Below) → IsRight b → build (file_leaves b) doc ≡ Ok (record { map = map_of (slots kept); notes = notes rs (items rs) kept })
  built l b right =
      builds b right ∙ full_is (length (slots kept)) false (record { map = map_of (slots kept); notes = notes rs (items rs) kept }) (le-ltb 65536 (length (slots kept)) l)

  pub built_is_map : length (slots kept) ≤ 65536 → IsMap (map_of (slots kept))
  built_is_map l = record {
    shape = built_shape_law (file_leaves some_are_right.tests) doc (sound_leaves some_are_right.tests some_are_right.right doc.format) spelled
        (record { map = map_of (slots kept); notes = notes rs (items rs) kept }) (built l some_are_right.tests some_are_right.right);
    unlinked = λ n. none_linked (slot_at (slots kept) n) (slot_plain kept (λ i m. (asks_nothing i m).node) n);
  }

-- ---- why there is no tree

-- want of memory has no cause in the document
pub memory_refuses : {T : Type 0} (doc : MapDoc) (r : Result T fault.TreeFault) → IsErrAnd r (λ e. e ≡ Memory) → IfErr r (IsRefusedFor doc)
memory_refuses doc (Ok x) h = absurd h
memory_refuses doc (Err e) h = subst (IsRefusedFor doc) (sym h) tt

-- so many slots are one too many nodes
pub full_refuses : (doc : MapDoc) (n k : ℕ) → n ≡ k → ((b : Below) → IsRight b → build (file_leaves b) doc ≡ Err (Full (k - 1))) → has_links doc ≡ false → IsRefusedFor doc (TooMany (n - 1))
full_refuses doc n k e none plain = (λ b right. none b right ∙ ap (λ j. Err (Full (j - 1))) (sym e), plain)

pub begins_and_asks : (doc : MapDoc) → begins_with_world doc.entities ≡ true → has_links doc ≡ true → IsTrue (begins_with_world doc.entities && has_links doc)
begins_and_asks doc begins asks = and_from (begins_with_world doc.entities) (has_links doc) begins asks
