-- The map that a document of a text builds has the shape of maps.
use Rattle.std.proofs.Common.{◌≡◌, ℕ, suc, Bool, true, ◌&&◌, List, [], ◌∷◌, ◌++◌, map, refl, ap, sym, ◌∙◌, subst, inl, inr, unwrap_or}
use Rattle.std.specs.Prelude.{flat_map, Option, Some, None, Result, Ok, Err}
use Rattle.std.specs.List.{list_all}
use Rattle.std.proofs.lemmas.Bool.{and_parts, and_from}
use Rattle.algebra.specs.Members.{◌∈◌, here, there}
use Rattle.uv_lock.specs.declared.texture.Format.{Format}
use Rattle.map_text.specs.declared.document.MapDoc.{MapDoc}
use Rattle.map_text.specs.declared.document.RawEntity.{RawEntity}
use Rattle.map_text.specs.declared.document.RawBrush.{RawBrush}
use Rattle.map_text.specs.declared.document.RawBrush.TheVariants.{Faces, Bad}
use Rattle.map_text.specs.Fits.{is_format}
use Rattle.map_text.specs.Spelled.{faces_of_brush}
use Rattle.map_lex.specs.OneToken.{is_value_text, is_key_text}
use Rattle.map_text.specs.Spelled.{is_spelled, is_spelled_entity, is_spelled_brush, keys_are_distinct, face_formats, tex_format}
use Rattle.map_model.specs.Faces.{Face}
use Rattle.map_model.specs.Motions.{Motion, is_kept_motion}
use Rattle.map_model.specs.Tree.{Node, World, Layer, Group, Entity, Brush, Link}
use Rattle.map_model.specs.Shape.{NodeOk, LinkOk, FacesOk}
use Rattle.file_laws.specs.Leaves.{Leaves, AreSound}
use Rattle.file_laws.specs.Readings.{Reading, reading, readings_from, judged, motion_from}
use Rattle.file_laws.specs.Build.{kept_brush}
use Rattle.file_laws.proofs.Lists.{of_map, head_or_tail}
use Rattle.file_laws.proofs.Tables.{of_flat_map}
use Rattle.file_laws.proofs.Sets.{every_member}
use Rattle.file_laws.proofs.Relinked.{relinked}
use Rattle.file_laws.proofs.Standing.{built}
use Rattle.file_laws.proofs.NodesOk.{Spelled, node_ok}

-- ---- what is asked of an entity

pub record EntityOk (format : Format) (raw : RawEntity) : Type 0 where
  pub props : Spelled raw.props
  pub brushes : (b : RawBrush) → b ∈ raw.brushes → is_spelled_brush b ≡ true
  pub formats : (b : RawBrush) → b ∈ raw.brushes → list_all (λ f. is_format format (tex_format f.tex)) (faces_of_brush b) ≡ true

all_of_flat : {A B : Type 0} (p : B → Bool) (f : A → List B) (xs : List A) → list_all p (flat_map f xs) ≡ true → (x : A) → x ∈ xs → list_all p (f x) ≡ true
all_of_flat p f [] h x i = elim i [ ]
all_of_flat {A} p f (y ∷ ys) h x i = elim (head_or_tail x y ys i) [
  | inl e ↦ subst (λ (z : A). list_all p (f z) ≡ true) (sym e) (front (f y) (flat_map f ys) h)
  | inr j ↦ all_of_flat p f ys (behind (f y) (flat_map f ys) h) x j
]
  where
    front : (us vs : List _) → list_all p (us ++ vs) ≡ true → list_all p us ≡ true
    front [] vs h = refl
    front (u ∷ us) vs h = let r = and_parts (p u) (list_all p (us ++ vs)) h in and_from (p u) (list_all p us) r.0 (front us vs r.1)

    behind : (us vs : List _) → list_all p (us ++ vs) ≡ true → list_all p vs ≡ true
    behind [] vs h = h
    behind (u ∷ us) vs h = behind us vs (and_parts (p u) (list_all p (us ++ vs)) h).1

all_unmapped : {A B : Type 0} (p : B → Bool) (f : A → B) (xs : List A) → list_all p (map f xs) ≡ true → list_all (λ x. p (f x)) xs ≡ true
all_unmapped p f [] h = refl
all_unmapped p f (x ∷ xs) h = let r = and_parts (p (f x)) (list_all p (map f xs)) h in and_from (p (f x)) (list_all (λ y. p (f y)) xs) r.0 (all_unmapped p f xs r.1)

pub entities_ok : (doc : MapDoc) → is_spelled doc ≡ true → (raw : RawEntity) → raw ∈ doc.entities → EntityOk doc.format raw
unfolding is_spelled
entities_ok doc h raw i =
    let a = and_parts (list_all is_spelled_entity doc.entities) (list_all (is_format doc.format) (face_formats doc)) h in
    let e = every_member is_spelled_entity doc.entities a.0 raw i in
    let b = and_parts (keys_are_distinct raw.props) (list_all (λ p. is_key_text p.0 && is_value_text p.1) raw.props && list_all is_spelled_brush raw.brushes) e in
    let c = and_parts (list_all (λ p. is_key_text p.0 && is_value_text p.1) raw.props) (list_all is_spelled_brush raw.brushes) b.1 in
    let formats = all_of_flat (is_format doc.format) (λ e. flat_map (λ b. map (λ f. tex_format f.tex) (faces_of_brush b)) e.brushes) doc.entities a.1 raw i in
    record {
      props = record { distinct = b.0; each = c.0 };
      brushes = every_member is_spelled_brush raw.brushes c.1;
      formats = λ b j. all_unmapped (is_format doc.format) (λ f. tex_format f.tex) (faces_of_brush b)
          (all_of_flat (is_format doc.format) (λ b. map (λ f. tex_format f.tex) (faces_of_brush b)) raw.brushes formats b j);
    }

-- ---- readings

-- The entity of a reading.
pub record ReadFrom (w : Leaves) (f : Format) (raws : List RawEntity) (r : Reading) : Type 0 where
  pub raw : RawEntity
  pub in_file : raw ∈ raws
  pub is : r ≡ reading w f r.place raw

pub read_from : (w : Leaves) (f : Format) (k : ℕ) (raws : List RawEntity) (r : Reading) → r ∈ readings_from w f k raws → ReadFrom w f raws r
read_from w f k [] r i = elim i [ ]
read_from w f k (raw ∷ raws) r here = record { raw = raw; in_file = here; is = refl }
read_from w f k (raw ∷ raws) r (there i) = let x = read_from w f (suc k) raws r i in record { raw = x.raw; in_file = there x.in_file; is = x.is }

-- What is kept of a brush.
pub kept_is_ok : (w : Leaves) (f : Format) → AreSound w f → (raw : RawEntity) → EntityOk f raw → (fs : List Face) → fs ∈ flat_map kept_brush (map (judged w) raw.brushes) → FacesOk f fs
kept_is_ok w f sound raw ok fs i =
    let r = of_flat_map kept_brush (map (judged w) raw.brushes) fs i in
    let b = of_map (judged w) raw.brushes r.0 r.1 in
    by_brush b.0 b.1 r.0 b.2 r.2
  where
    by_result : (b : RawBrush) → b ∈ raw.brushes → (v : Result (List Face) _) → v ≡ judged w b → fs ∈ kept_brush v → judged w b ≡ Ok fs
    by_result b j (Ok kept) e t = elim (head_or_tail fs kept [] t) [ inl h ↦ sym e ∙ ap Ok (sym h) | inr u ↦ elim u [ ] ]
    by_result b j (Err reason) e t = elim t [ ]

    by_kind : (b : RawBrush) → b ∈ raw.brushes → judged w b ≡ Ok fs → FacesOk f fs
    by_kind (Faces faces) j e = sound.brushes faces fs (ok.brushes (Faces faces) j) (ok.formats (Faces faces) j) e
    by_kind (Bad reason) j e = absurd (cc e)

    by_brush : (b : RawBrush) → b ∈ raw.brushes → (v : Result (List Face) _) → v ≡ judged w b → fs ∈ kept_brush v → FacesOk f fs
    by_brush b j v e t = by_kind b j (by_result b j v e t)

-- ---- nodes with other children, parents, links and marks

pub relinked_ok : (format : Format) (mark : Option ℕ) (link : Option Link) (x : Node) → LinkOk link → NodeOk format x → NodeOk format (relinked mark link x)
relinked_ok format mark link (World f ps b c) l ok = ok
relinked_ok format mark link (Layer name frozen ps b c) l ok = ok
relinked_ok format mark link (Group q k name g ps b c) l ok = (ok.0, l, ok.2)
relinked_ok format mark link (Entity q k ps ks b) l ok = ok
relinked_ok format mark link (Brush q k fs) l ok = ok

pub built_ok : (format : Format) (a : ℕ) (bs os : List ℕ) (x : Node) → NodeOk format x → NodeOk format (built a bs os x)
built_ok format a bs os (World f ps b c) ok = ok
built_ok format a bs os (Layer name frozen ps b c) ok = ok
built_ok format a bs os (Group q k name g ps b c) ok = ok
built_ok format a bs os (Entity q k ps ks b) ok = ok
built_ok format a bs os (Brush q k fs) ok = ok

pub reading_ok : (w : Leaves) (f : Format) (raw : RawEntity) → EntityOk f raw → (place : ℕ) → NodeOk f (reading w f place raw).node
reading_ok w f raw ok place = node_ok f place raw.props ok.props

-- A motion that is read is kept.
pub motion_ok : (w : Leaves) (f : Format) → AreSound w f → (set v : Option (List ℕ)) (r : Motion) → motion_from w set v ≡ Some r → is_kept_motion r ≡ true
motion_ok w f sound None v r e = absurd (cc e)
motion_ok w f sound (Some set) None r e = ap is_kept_motion (sym (ap (λ o. unwrap_or o r) e))
motion_ok w f sound (Some set) (Some text) r e = sound.motions text r e
