-- What is kept of a file's brushes are brushes of a map, and what is read as a motion is a kept one.
use Rattle.std.proofs.Common.{◌≡◌, ℕ, ◌≤◌, Bool, true, false, cond, ◌&&◌, ◌==◌, nat_lt, List, length, is_ok, Option, Some, None, Result, Ok, Err, refl, ap, sym, subst, ◌∙◌, arith, inr, ℤ}
use Rattle.std.specs.Prelude.{option_and_then, slice_index_or, pos}
use Rattle.std.specs.List.{list_all}
use Rattle.std.proofs.lemmas.Bool.{and_parts, both_ways, ltb-false}
use Rattle.std.proofs.lemmas.List.{length-map}
use Rattle.exact_geom.specs.Planes.{plane_of}
use Rattle.trim_laws.specs.Solid.{Proper}
use Rattle.trim_laws.specs.Trim.{TrimFaces}
use Rattle.trim_laws.specs.Valid.{NoVolume, OutOfWorld}
use Rattle.trim_laws.proofs.Faces.{trim_faces}
use Rattle.uv_lock.specs.declared.texture.Format.{Format}
use Rattle.map_lex.specs.OneToken.{is_material_text}
use Rattle.map_text.specs.declared.document.Reason.{Reason}
use Rattle.map_text.specs.declared.document.Reason.TheVariants.{Volume, World, Faces as TooMany}
use Rattle.map_text.specs.declared.document.RawBrush.TheVariants.{Faces}
use Rattle.map_text.specs.Fits.{is_format}
use Rattle.map_text.specs.Spelled.{is_spelled_brush, is_savable_face, is_savable_texture, tex_format}
use Rattle.map_model.specs.Faces.{Face, Tex, StandardFields, ValveFields, format_of_tex}
use Rattle.map_model.specs.Shape.{FaceOk, FacesOk, half_spaces, is_tex_in_range}
use Rattle.map_model.specs.Below.{Below, IsRight}
use Rattle.map_model.specs.Judged.{faces_judged}
use Rattle.map_model.specs.Brushes.{trimmed}
use Rattle.map_model.specs.Motions.{Motion, vector_at, is_kept_motion}
use Rattle.map_model.specs.Meant as meant
use Rattle.map_model.proofs.Meaning.{trimmed_law}
use Rattle.orient48.specs.MotionTexts.{words_of, wholes_in, kept_motion, is_last_row, motion_of_numbers}
use Rattle.file_laws.specs.Leaves.{AreSound}
use Rattle.file_laws.specs.FileLeaves.{file_leaves}
use Rattle.map_nodes.proofs.FaceSides.{kept_of}
use Rattle.tree_file.proofs.JudgedFaces.{plane_is, each_passes, spelled_faces, proper_of, bounded_of, valid_of}

-- ---- brushes

record NoCause (empty out many : Bool) (mine kept : List Face) : Type 0 where
  some : empty ≡ false
  stays : out ≡ false
  few : many ≡ false
  is : mine ≡ kept

one_list : {a b : List Face} → ◌≡◌ {A = Result (List Face) Reason} (Ok a) (Ok b) → a ≡ b
one_list e = cc

no_cause : (empty out many : Bool) (mine kept : List Face) → cond empty (Err Volume) (cond out (Err World) (cond many (Err TooMany) (Ok mine))) ≡ Ok kept → NoCause empty out many mine kept
no_cause true out many mine kept e = absurd (cc e)
no_cause false true many mine kept e = absurd (cc e)
no_cause false false true mine kept e = absurd (cc e)
no_cause false false false mine kept e = record { some = refl; stays = refl; few = refl; is = one_list e }

tex_in_range : (t : Tex) → is_tex_in_range t ≡ is_savable_texture t
tex_in_range (StandardFields t) = refl
tex_in_range (ValveFields t) = refl

same_format : (t : Tex) → format_of_tex t ≡ tex_format t
same_format (StandardFields t) = refl
same_format (ValveFields t) = refl

face_ok : (format : Format) (f : Face) → is_savable_face f ≡ true → is_format format (tex_format f.tex) ≡ true → FaceOk format f
face_ok format f s t =
    let a = and_parts (is_ok (plane_of f.plane)) (is_material_text f.material && is_savable_texture f.tex) s in
    let c = and_parts (is_material_text f.material) (is_savable_texture f.tex) a.1 in
    record { form = ap (is_format format) (same_format f.tex) ∙ t; plane = plane_is f.plane a.0; material = c.0; numbers = tex_in_range f.tex ∙ c.1 }

module _ (b : Below) (right : IsRight b) (format : Format) (fs kept : List Face) (spelled : is_spelled_brush (Faces fs) ≡ true)
    (formats : list_all (λ f. is_format format (tex_format f.tex)) fs ≡ true) (judged : faces_judged b fs ≡ Ok kept) where
  all_savable : list_all is_savable_face fs ≡ true
  all_savable = (spelled_faces fs spelled).1

  proper : Proper (half_spaces fs)
  proper = proper_of fs all_savable

  passed : NoCause (b.is_empty (half_spaces fs)) (b.leaves_world (half_spaces fs)) (nat_lt 128 (length (trimmed b fs))) (trimmed b fs) kept
  passed = no_cause (b.is_empty (half_spaces fs)) (b.leaves_world (half_spaces fs)) (nat_lt 128 (length (trimmed b fs))) (trimmed b fs) kept judged

  some : ¬ (NoVolume (half_spaces fs))
  some none = both_ways (b.is_empty (half_spaces fs)) passed.some ((right.is_empty (half_spaces fs) proper).1 none)

  stays : ¬ (OutOfWorld (half_spaces fs))
  stays out = both_ways (b.leaves_world (half_spaces fs)) passed.stays ((right.leaves_world (half_spaces fs) proper (inr some)).1 out)

  needed : TrimFaces meant.plane_of fs kept
  needed = subst (λ (l : List Face). TrimFaces meant.plane_of fs l) passed.is (trimmed_law b fs right proper (bounded_of (half_spaces fs) some stays))

  few_kept : length (half_spaces kept) ≤ 128
  few_kept =
      let a = length-map kept meant.plane_of in
      let c = ap length passed.is in
      let d = ltb-false 128 (length (trimmed b fs)) passed.few in
      omega arith

  pub faces_ok : FacesOk format kept
  faces_ok = record {
    each = λ f i.
        let m = kept_of needed f i in
        face_ok format f (each_passes is_savable_face fs all_savable f m) (each_passes (λ g. is_format format (tex_format g.tex)) fs formats f m);
    valid = valid_of (half_spaces fs) (half_spaces kept) proper some stays (trim_faces Face meant.plane_of fs kept needed).half_spaces few_kept;
  }

-- ---- motions

one_motion : {a b : Motion} → Some a ≡ Some b → a ≡ b
one_motion e = cc

kept_is : (t : Bool) (m r : Motion) → cond t (Some m) None ≡ Some r → t ≡ is_kept_motion m → is_kept_motion r ≡ true
kept_is true m r e h = ap is_kept_motion (sym (one_motion e)) ∙ sym h
kept_is false m r e h = absurd (cc e)

row_is : (t : Bool) (m r : Motion) → cond t (kept_motion m) None ≡ Some r → is_kept_motion r ≡ true
row_is true m r e = kept_is (is_kept_motion m) m r e refl
row_is false m r e = absurd (cc e)

abbrev number_at : List ℤ → ℕ → ℤ
number_at ns k = slice_index_or ns k (pos 0)

read_is : (o : Option (List ℤ)) (r : Motion) → option_and_then motion_of_numbers o ≡ Some r → is_kept_motion r ≡ true
read_is None r e = absurd (cc e)
read_is (Some ns) r e =
    row_is (length ns == 16 && is_last_row (number_at ns 12) (number_at ns 13) (number_at ns 14) (number_at ns 15))
    (record {
      matrix = record {
        x = vector_at (number_at ns 0) (number_at ns 1) (number_at ns 2);
        y = vector_at (number_at ns 4) (number_at ns 5) (number_at ns 6);
        z = vector_at (number_at ns 8) (number_at ns 9) (number_at ns 10);
      };
      shift = vector_at (number_at ns 3) (number_at ns 7) (number_at ns 11);
    }) r e

pub sound_leaves : (b : Below) → IsRight b → (format : Format) → AreSound (file_leaves b) format
sound_leaves b right format = record {
  brushes = faces_ok b right format;
  motions = λ text r e. read_is (wholes_in (words_of text)) r e;
}
