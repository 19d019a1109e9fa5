-- What the tree of a file asks of the brushes and the motions in it.
use Rattle.std.specs.Prelude.{◌≡◌, ℕ, IsTrue, List, Option, Some, Result, Ok}
use Rattle.std.specs.List.{list_all}
use Rattle.map_lex.specs.OneToken.{is_value_text}
use Rattle.map_text.specs.Fits.{is_format}
use Rattle.map_text.specs.Spelled.{is_spelled_brush, tex_format}
use Rattle.map_text.specs.declared.document.RawBrush.TheVariants.{Faces}
use Rattle.map_text.specs.declared.document.Reason.{Reason}
use Rattle.map_model.specs.Faces.{Face}
use Rattle.map_model.specs.Motions.{Motion, is_kept_motion}
use Rattle.map_model.specs.Shape.{FacesOk}
use Rattle.uv_lock.specs.declared.texture.Format.{Format}
use Rattle.map_model.specs.Tree.{Whole, Link, is_brush, faces_at, link_at, format_of}

pub record Leaves : Type 0 where
  -- the faces that a map keeps of a brush of a file, or why it keeps none
  pub judge : List Face → Result (List Face) Reason
  -- a motion as a file has it, and read again
  pub motion_text : Motion → List ℕ
  pub read_motion : List ℕ → Option Motion

-- Each brush of the map is judged to be that brush, and each motion is read as it was written.
pub record AreRight (w : Leaves) (m : Whole) : Type 0 where
  pub judged : (n : ℕ) → IsTrue (is_brush m n) → w.judge (faces_at m n) ≡ Ok (faces_at m n)
  pub moved : (g : ℕ) (l : Link) → link_at m g ≡ Some l → w.read_motion (w.motion_text l.motion) ≡ Some l.motion

-- Each brush of the map can be saved, in the map's format, and so can each motion.
pub record AreSavable (w : Leaves) (m : Whole) : Type 0 where
  pub brush : (n : ℕ) → IsTrue (is_brush m n) → IsTrue (is_spelled_brush (Faces (faces_at m n)))
  pub formats : (n : ℕ) → IsTrue (is_brush m n) → IsTrue (list_all (λ f. is_format (format_of m) (tex_format f.tex)) (faces_at m n))
  pub motion : (g : ℕ) (l : Link) → link_at m g ≡ Some l → IsTrue (is_value_text (w.motion_text l.motion))

-- What is kept of a brush that a text can spell is a brush of a map in its format, and what is read as a motion is a kept one.
pub record AreSound (w : Leaves) (format : Format) : Type 0 where
  pub brushes : (fs kept : List Face) → IsTrue (is_spelled_brush (Faces fs)) → IsTrue (list_all (λ f. is_format format (tex_format f.tex)) fs) →
      w.judge fs ≡ Ok kept → FacesOk format kept
  pub motions : (text : List ℕ) (r : Motion) → w.read_motion text ≡ Some r → IsTrue (is_kept_motion r)
