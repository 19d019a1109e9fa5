-- Right tests leave no choice in what bytes open as.
use Rattle.std.proofs.Common.{◌≡◌, inl, inr, ℕ, suc, ◌<◌, ◌≤◌, true, false, cond, nat_lt, List, [], ◌∷◌, map, length, Result, Ok, Err, refl, ap, sym, ◌∙◌, arith, true≢false}
use Rattle.std.proofs.lemmas.Bool.{cases_Bool, ltb-true, ltb-false}
use Rattle.algebra.specs.Members.{◌∈◌, here, there}
use Rattle.trim_laws.specs.Solid.{Proper}
use Rattle.trim_laws.specs.Valid.{NoVolume, OutOfWorld}
use Rattle.uv_lock.specs.declared.texture.Format.{Format}
use Rattle.map_text.specs.declared.document.MapDoc.{MapDoc}
use Rattle.map_text.specs.declared.document.RawEntity.{RawEntity}
use Rattle.map_text.specs.declared.document.RawBrush.{RawBrush}
use Rattle.map_text.specs.declared.document.RawBrush.TheVariants.{Faces, Bad}
use Rattle.map_text.specs.declared.document.Reason.{Reason}
use Rattle.map_text.specs.Reads.{Reads, ReadsOneWay}
use Rattle.map_text.specs.Spelled.{is_spelled, is_spelled_brush}
use Rattle.map_write.proofs.ReadDocuments.{read_is_spelled}
use Rattle.map_report.specs.declared.fault.MapFault.TheVariants.{Read, NoWorld, NotBuilt, Full}
use Rattle.map_model.specs.Faces.{Face}
use Rattle.map_model.specs.Shape.{half_spaces}
use Rattle.map_model.specs.Below.{Below, IsRight}
use Rattle.map_model.specs.Brushes.{trimmed}
use Rattle.map_model.specs.Judged.{faces_judged}
use Rattle.map_model.proofs.Meaning.{trimmed_law, judged_law}
use Rattle.map_model.proofs.SomeRight.{some_are_right}
use Rattle.file_laws.specs.FileLeaves.{file_leaves}
use Rattle.file_laws.specs.Readings.{Reading, judged, reading, readings_from, readings}
use Rattle.file_laws.specs.Build.{begins_with_world, items, kept_items}
use Rattle.file_laws.specs.Build as why
use Rattle.file_laws.specs.Linked.{built_with_links, build}
use Rattle.file_laws.proofs.Shaped.{entities_ok}
use Rattle.tree_file.proofs.JudgedFaces.{bounded_of, spelled_faces, proper_of}
use Rattle.map_opening.specs.Opening.{Opened, Tree, Refused, OpensAs, Opens}
use Rattle.map_opening.specs.Laws.{OpensOneWay, OpensSomeWay, OpensForAll}

module _ (b c : Below) (right : IsRight b) (other : IsRight c) where
  -- ---- brushes

  in_world : (fs : List Face) → Proper (half_spaces fs) → ¬ (NoVolume (half_spaces fs)) → ¬ (OutOfWorld (half_spaces fs)) → faces_judged b fs ≡ faces_judged c fs
  in_world fs proper some stays =
      let bounded = bounded_of (half_spaces fs) some stays in
      let kept = trimmed b fs in
      let t = trimmed_law b fs right proper bounded in
      let j = judged_law b fs right proper in
      let k = judged_law c fs other proper in
      elim (cases_Bool (nat_lt 128 (length kept))) [
        | inl e ↦ let h = ltb-true 128 (length kept) e in j.many kept some stays bounded t h ∙ sym (k.many kept some stays bounded t h)
        | inr e ↦ let h = ltb-false 128 (length kept) e in j.good kept some stays bounded t h ∙ sym (k.good kept some stays bounded t h)
      ]

  with_volume : (fs : List Face) → Proper (half_spaces fs) → ¬ (NoVolume (half_spaces fs)) → faces_judged b fs ≡ faces_judged c fs
  with_volume fs proper some =
      let tells = right.leaves_world (half_spaces fs) proper (inr some) in
      elim (cases_Bool (b.leaves_world (half_spaces fs))) [
        | inl e ↦ (judged_law b fs right proper).outside some (tells.0 e) ∙ sym ((judged_law c fs other proper).outside some (tells.0 e))
        | inr e ↦ in_world fs proper some (λ out. true≢false (sym (tells.1 out) ∙ e))
      ]

  same_faces : (fs : List Face) → Proper (half_spaces fs) → faces_judged b fs ≡ faces_judged c fs
  same_faces fs proper =
      let tells = right.is_empty (half_spaces fs) proper in
      elim (cases_Bool (b.is_empty (half_spaces fs))) [
        | inl e ↦ (judged_law b fs right proper).empty (tells.0 e) ∙ sym ((judged_law c fs other proper).empty (tells.0 e))
        | inr e ↦ with_volume fs proper (λ none. true≢false (sym (tells.1 none) ∙ e))
      ]

  same_judged : (raw : RawBrush) → is_spelled_brush raw ≡ true → judged (file_leaves b) raw ≡ judged (file_leaves c) raw
  same_judged (Faces fs) spelled = same_faces fs (proper_of fs (spelled_faces fs spelled).1)
  same_judged (Bad reason) spelled = refl

  same_brushes : (raws : List RawBrush) → ((raw : RawBrush) → raw ∈ raws → is_spelled_brush raw ≡ true) → map (judged (file_leaves b)) raws ≡ map (judged (file_leaves c)) raws
  same_brushes [] spelled = refl
  same_brushes (raw ∷ raws) spelled = λ i. same_judged raw (spelled raw here) i ∷ same_brushes raws (λ x j. spelled x (there j)) i

  -- ---- documents

  same_reading : (format : Format) (place : ℕ) (raw : RawEntity) → ((x : RawBrush) → x ∈ raw.brushes → is_spelled_brush x ≡ true) →
      reading (file_leaves b) format place raw ≡ reading (file_leaves c) format place raw
  same_reading format place raw spelled = ap (λ brushes. record (reading (file_leaves b) format place raw) { brushes = brushes }) (same_brushes raw.brushes spelled)

  same_from : (format : Format) (place : ℕ) (raws : List RawEntity) → ((raw : RawEntity) → raw ∈ raws → (x : RawBrush) → x ∈ raw.brushes → is_spelled_brush x ≡ true) →
      readings_from (file_leaves b) format place raws ≡ readings_from (file_leaves c) format place raws
  same_from format place [] spelled = refl
  same_from format place (raw ∷ raws) spelled = λ i. same_reading format place raw (spelled raw here) i ∷ same_from format (suc place) raws (λ x j. spelled x (there j)) i

  same_readings : (doc : MapDoc) → is_spelled doc ≡ true → readings (file_leaves b) doc ≡ readings (file_leaves c) doc
  same_readings doc spelled = same_from doc.format 0 doc.entities (λ raw i. (entities_ok doc spelled raw i).brushes)

  same_build : (doc : MapDoc) → is_spelled doc ≡ true → build (file_leaves b) doc ≡ build (file_leaves c) doc
  same_build doc spelled = ap (λ rs. cond (begins_with_world doc.entities) (built_with_links rs (items rs) (kept_items (items rs))) (Err why.NoWorld)) (same_readings doc spelled)

  -- ---- bytes

  pub opens_alike : (bytes : List ℕ) (x : Opened) → OpensAs b bytes x → OpensAs c bytes x
  opens_alike bytes (Tree m notes) h = record { doc = h.doc; reads = h.reads; holds = (h.holds.0, sym (same_build h.doc (read_is_spelled bytes h.doc h.reads)) ∙ h.holds.1) }
  opens_alike bytes (Refused (Read fault)) h = h
  opens_alike bytes (Refused NoWorld) h = record { doc = h.doc; reads = h.reads; holds = sym (same_build h.doc (read_is_spelled bytes h.doc h.reads)) ∙ h.holds }
  opens_alike bytes (Refused NotBuilt) h = h
  opens_alike bytes (Refused (Full n)) h = record { doc = h.doc; reads = h.reads; holds = (h.holds.0, sym (same_build h.doc (read_is_spelled bytes h.doc h.reads)) ∙ h.holds.1) }

pub for_all : OpensSomeWay → OpensForAll
for_all law bytes =
    let x = law some_are_right.tests some_are_right.right bytes in
    (x.0, λ c right. opens_alike some_are_right.tests c some_are_right.right right bytes x.0 x.1)
