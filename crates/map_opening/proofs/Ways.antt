-- What bytes open as: their refusal, or what their document opens as.
use Rattle.std.proofs.Common.{◌≡◌, inl, inr, ℕ, Bool, true, false, cond, not, ◌&&◌, nat_lt, List, ◌++◌, map, filter, Option, Some, None, Result, Ok, Err, refl, ap, sym, ◌∙◌}
use Rattle.std.specs.Prelude.{◌≢◌, ◌⊎◌, flat_map}
use Rattle.map_text.specs.declared.document.MapDoc.{MapDoc}
use Rattle.map_text.specs.declared.read_fault.ReadFault.{ReadFault}
use Rattle.map_text.specs.declared.read_fault.ReadFault.TheVariants.{Memory}
use Rattle.map_text.specs.Reads.{Reads, IsRefusedAs, ReadsOneWay}
use Rattle.map_text.specs.Refusals.{first_refusal}
use Rattle.map_report.specs.declared.note.Note.{Note}
use Rattle.map_report.specs.declared.fault.MapFault.TheVariants.{Read, NoWorld, NotBuilt, Full}
use Rattle.map_model.specs.Tree.{Whole}
use Rattle.map_model.specs.Below.{Below, IsRight}
use Rattle.file_laws.specs.FileLeaves.{file_leaves}
use Rattle.file_laws.specs.Readings.{Reading, readings}
use Rattle.file_laws.specs.Build.{Built, Item, items, kept_items, notes, slots, map_of, begins_with_world}
use Rattle.file_laws.specs.Build as why
use Rattle.file_laws.specs.Linked.{Candidate, candidate, is_nested, sets_of, all_agree, linked, link_notes, unless_full, built_with_links, build}
use Rattle.tree_file.specs.Promises.{has_links}
use Rattle.map_opening.specs.Opening.{Opened, Tree, Refused, ReadsAs, OpensAs}
use Rattle.map_opening.specs.Laws.{OpensOneWay, OpensSomeWay}
use Rattle.map_opening.proofs.Causes.{never_memory}

-- ---- what a document opens as

abbrev opened_from : Result Built why.TreeFault → Opened
opened_from (Ok built) = Tree built.map built.notes
opened_from (Err why.NoWorld) = Refused NoWorld
opened_from (Err (why.Full n)) = Refused (Full n)

abbrev opened_at : (begins links : Bool) → Result Built why.TreeFault → Opened
opened_at begins links outcome = cond (begins && links) (Refused NotBuilt) (opened_from outcome)

abbrev opened_of : Below → MapDoc → Opened
opened_of b doc = opened_at (begins_with_world doc.entities) (has_links doc) (build (file_leaves b) doc)

-- no link is asked for
when_plain : (begins links : Bool) (outcome : Result Built why.TreeFault) → links ≡ false → opened_at begins links outcome ≡ opened_from outcome
when_plain true links outcome e = ap (λ l. cond l (Refused NotBuilt) (opened_from outcome)) e
when_plain false links outcome e = refl

when_linked : (begins links : Bool) (outcome : Result Built why.TreeFault) → (begins && links) ≡ true → opened_at begins links outcome ≡ Refused NotBuilt
when_linked begins links outcome e = ap (λ t. cond t (Refused NotBuilt) (opened_from outcome)) e

-- what is built of a document that begins with the world isn't refused for want of one
too_many : (a b : Bool) (n k : ℕ) (built : Built) → cond a (Err (why.Full n)) (cond b (Err (why.Full k)) (Ok built)) ≡ Err why.NoWorld → ⊥
too_many true b n k built e = cc e
too_many false true n k built e = cc e
too_many false false n k built e = cc e

has_world : (plain all : Whole) (found : List Note) → unless_full plain all found ≡ Err why.NoWorld → ⊥
has_world plain all found e = too_many (nat_lt 65536 plain.next) (nat_lt 65536 all.next) _ _ _ e

tree_has_world : (rs : List Reading) (all kept : List Item) → built_with_links rs all kept ≡ Err why.NoWorld → ⊥
tree_has_world rs all kept e =
    let plain = map_of (slots kept) in
    let parents = map (λ (i : Item). i.parent) all in
    let moved = flat_map (candidate kept) kept in
    let sets = sets_of (filter (λ (c : Candidate). not (is_nested parents moved c)) moved) in
    has_world plain (linked plain (filter (all_agree plain) sets)) (notes rs all kept ++ link_notes plain parents kept moved sets) e

when_worldless : (begins links : Bool) (tree : Result Built why.TreeFault) → (tree ≡ Err why.NoWorld → ⊥) → cond begins tree (Err why.NoWorld) ≡ Err why.NoWorld →
    opened_at begins links (cond begins tree (Err why.NoWorld)) ≡ Refused NoWorld
when_worldless true links tree has e = absurd (has e)
when_worldless false links tree has e = refl

-- where a document isn't refused for its links, and begins with the world, none is asked for
none_asked : (begins links : Bool) (tree outcome : Result Built why.TreeFault) → (begins && links) ≡ false → cond begins tree (Err why.NoWorld) ≡ outcome →
    (Err why.NoWorld ≡ outcome → ⊥) → links ≡ false
none_asked true links tree outcome e o has = e
none_asked false links tree outcome e o has = absurd (has o)

-- ---- one way

abbrev IsRefusal : List ℕ → Opened → Type 0
IsRefusal bytes x = (fault : ReadFault) × (x ≡ Refused (Read fault)) × (first_refusal bytes ≡ Some fault)

abbrev IsDocument : Below → List ℕ → Opened → Type 0
IsDocument b bytes x = (doc : MapDoc) × Reads bytes doc × (x ≡ opened_of b doc)

refusal_is : (bytes : List ℕ) (fault : ReadFault) → IsRefusedAs bytes fault → fault ≢ Memory → first_refusal bytes ≡ Some fault
refusal_is bytes Memory h ne = absurd (ne refl)
refusal_is bytes fault h ne = h

way : (b : Below) (bytes : List ℕ) (x : Opened) → OpensAs b bytes x → IsRefusal bytes x ⊎ IsDocument b bytes x
way b bytes (Tree m notes) h = inr (h.doc, h.reads, sym (when_plain (begins_with_world h.doc.entities) (has_links h.doc) _ h.holds.0 ∙ ap opened_from h.holds.1))
way b bytes (Refused (Read fault)) h = inl (fault, refl, refusal_is bytes fault h.0 h.1)
way b bytes (Refused NoWorld) h =
    let rs = readings (file_leaves b) h.doc in
    inr (
      h.doc,
      h.reads,
      sym (when_worldless (begins_with_world h.doc.entities) (has_links h.doc) (built_with_links rs (items rs) (kept_items (items rs)))
          (tree_has_world rs (items rs) (kept_items (items rs))) h.holds),
    )
way b bytes (Refused NotBuilt) h = inr (h.doc, h.reads, sym (when_linked (begins_with_world h.doc.entities) (has_links h.doc) _ h.holds))
way b bytes (Refused (Full n)) h = inr (h.doc, h.reads, sym (when_plain (begins_with_world h.doc.entities) (has_links h.doc) _ h.holds.0 ∙ ap opened_from h.holds.1))

same_fault : {a b : ReadFault} → Some a ≡ Some b → a ≡ b
same_fault e = cc

not_both : (a : Option ReadFault) (fault : ReadFault) → a ≡ None → a ≡ Some fault → ⊥
not_both a fault none some = let e : None ≡ Some fault = sym none ∙ some in cc e

pub one_way : ReadsOneWay → OpensOneWay
one_way law b right bytes x y hx hy = elim (way b bytes x hx) [
  | inl p ↦ elim (way b bytes y hy) [
    | inl q ↦ p.1 ∙ ap (λ fault. Refused (Read fault)) (same_fault (sym p.2 ∙ q.2)) ∙ sym q.1
    | inr q ↦ absurd (not_both (first_refusal bytes) p.0 (law.accepted bytes q.0 q.1) p.2)
  ]
  | inr p ↦ elim (way b bytes y hy) [
    | inl q ↦ absurd (not_both (first_refusal bytes) q.0 (law.accepted bytes p.0 p.1) q.2)
    | inr q ↦ p.2 ∙ ap (opened_of b) (law.one bytes p.0 q.0 p.1 q.1) ∙ sym q.2
  ]
]

-- ---- some way

refused_as : (bytes : List ℕ) (fault : ReadFault) → first_refusal bytes ≡ Some fault → IsRefusedAs bytes fault
refused_as bytes Memory e = tt
refused_as bytes fault e = e

module _ (b : Below) (bytes : List ℕ) (doc : MapDoc) (reads : Reads bytes doc) where
  document_opens : (links : Bool) → (begins_with_world doc.entities && has_links doc) ≡ links → (outcome : Result Built why.TreeFault) → build (file_leaves b) doc ≡ outcome →
      OpensAs b bytes (cond links (Refused NotBuilt) (opened_from outcome))
  document_opens true asked outcome e = record { doc = doc; reads = reads; holds = asked }
  document_opens false asked (Ok built) e = record { doc = doc; reads = reads; holds = (none_asked (begins_with_world doc.entities) (has_links doc) _ _ asked e (λ h. cc h), e) }
  document_opens false asked (Err why.NoWorld) e = record { doc = doc; reads = reads; holds = e }
  document_opens false asked (Err (why.Full n)) e = record { doc = doc; reads = reads; holds = (none_asked (begins_with_world doc.entities) (has_links doc) _ _ asked e (λ h. cc h), e) }

text_opens : ReadsOneWay → (b : Below) (bytes : List ℕ) (refusal : Option ReadFault) → first_refusal bytes ≡ refusal → (opened : Opened) × OpensAs b bytes opened
text_opens law b bytes None e =
    let r = law.some bytes e in
    (opened_of b r.0, document_opens b bytes r.0 r.1 (begins_with_world r.0.entities && has_links r.0) refl (build (file_leaves b) r.0) refl)
text_opens law b bytes (Some fault) e = (Refused (Read fault), (refused_as bytes fault e, λ f. never_memory bytes (e ∙ ap Some f)))

pub some_way : ReadsOneWay → OpensSomeWay
some_way law b right bytes = text_opens law b bytes (first_refusal bytes) refl
