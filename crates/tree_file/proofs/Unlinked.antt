-- A map without links: its document can be saved, and builds it again.
use Rattle.std.proofs.Common.{◌≡◌, ℕ, ◌<◌, ◌^◌, Bool, true, false, ◌&&◌, nat_le, List, [], ◌∷◌, length, is_ok, Some, None, Ok, option_map, refl, ap, sym, ◌∙◌, arith}
use Rattle.std.specs.Prelude.{filter}
use Rattle.std.specs.List.{list_all}
use Rattle.std.proofs.lemmas.Bool.{and_from, le-leb}
use Rattle.std.proofs.lemmas.List.{length-map}
use Rattle.algebra.specs.Members.{◌∈◌, here, there}
use Rattle.exact_geom.specs.Planes.{plane_of, half_space}
use Rattle.uv_lock.specs.declared.texture.Format.{Format}
use Rattle.map_lex.specs.OneToken.{is_material_text}
use Rattle.map_text.specs.declared.document.RawBrush.TheVariants.{Faces}
use Rattle.map_text.specs.Fits.{is_format}
use Rattle.map_text.specs.Spelled.{is_savable, is_savable_face, is_savable_texture, is_spelled_brush, tex_format}
use Rattle.map_model.specs.Faces.{Face, Tex, StandardFields, ValveFields, format_of_tex}
use Rattle.map_model.specs.Tree.{Whole, Link, at, is_linked, link_at, faces_at, format_of, preorder}
use Rattle.map_model.specs.Shape.{Shape, FaceOk, FacesOk, is_tex_in_range}
use Rattle.map_model.specs.Links.{AllOne}
use Rattle.map_model.specs.Below.{Below, IsRight}
use Rattle.map_model.specs.Saved.{saved, entities, has_id}
use Rattle.file_laws.specs.Leaves.{AreSavable}
use Rattle.file_laws.specs.FileLeaves.{file_leaves}
use Rattle.file_laws.specs.Linked.{build}
use Rattle.file_laws.specs.Renumbered.{renumbered_map}
use Rattle.file_laws.proofs.Candidates.{no_link_at}
use Rattle.file_laws.proofs.CanBeSaved.{savable_law}
use Rattle.file_laws.proofs.FileLaws.{saved_file_law}
use Rattle.file_laws.proofs.SameSaved.{saved_is}
use Rattle.file_laws.proofs.Order.{order_of, no_brush}
use Rattle.file_laws.proofs.Read.{brush_faces, filter_shorter}

none_is_not_some : {A : Type 0} {a : A} → None ≡ Some a → ⊥
none_is_not_some e = cc

module _ (m : Whole) (free : (n : ℕ) → is_linked m n ≡ false) where
  no_link : (n : ℕ) (l : Link) → link_at m n ≡ Some l → ⊥
  no_link n l e = none_is_not_some (sym (no_link_at m n (free n)) ∙ e)

  pub all_one : AllOne m
  all_one s g h e f d = absurd (none_is_not_some (sym (ap (option_map (λ l. l.set)) (no_link_at m g (free g))) ∙ e))

-- ---- faces of a map can be saved

tex_savable : (t : Tex) → is_tex_in_range t ≡ is_savable_texture t
tex_savable (StandardFields t) = refl
tex_savable (ValveFields t) = refl

same_format : (t : Tex) → format_of_tex t ≡ tex_format t
same_format (StandardFields t) = refl
same_format (ValveFields t) = refl

face_savable : (format : Format) (f : Face) → FaceOk format f → is_savable_face f ≡ true
face_savable format f ok =
    and_from (is_ok (plane_of f.plane)) (is_material_text f.material && is_savable_texture f.tex) (ap is_ok ok.plane)
    (and_from (is_material_text f.material) (is_savable_texture f.tex) ok.material (sym (tex_savable f.tex) ∙ ok.numbers))

all_members : {A : Type 0} (p : A → Bool) (xs : List A) → ((x : A) → x ∈ xs → p x ≡ true) → list_all p xs ≡ true
all_members p [] h = refl
all_members p (x ∷ xs) h = and_from (p x) (list_all p xs) (h x here) (all_members p xs (λ y i. h y (there i)))

spelled : (format : Format) (fs : List Face) → FacesOk format fs → is_spelled_brush (Faces fs) ≡ true
spelled format fs ok =
    let most = ok.valid.most in
    let same = length-map fs (λ f. half_space f.plane) in
    and_from (nat_le (length fs) 256) (list_all is_savable_face fs) (le-leb (length fs) 256 (omega arith))
    (all_members is_savable_face fs (λ f i. face_savable format f (ok.each f i)))

formats : (format : Format) (fs : List Face) → FacesOk format fs → list_all (λ f. is_format format (tex_format f.tex)) fs ≡ true
formats format fs ok = all_members (λ f. is_format format (tex_format f.tex)) fs (λ f i. ap (is_format format) (sym (same_format f.tex)) ∙ (ok.each f i).form)

module _ (m : Whole) (shape : Shape m) (free : (n : ℕ) → is_linked m n ≡ false) where
  savable_leaves : (b : Below) → AreSavable (file_leaves b) m
  savable_leaves b = record {
    brush = λ n h. spelled (format_of m) (faces_at m n) (brush_faces (format_of m) (at m n) h (shape.each_node n));
    formats = λ n h. formats (format_of m) (faces_at m n) (brush_faces (format_of m) (at m n) h (shape.each_node n));
    motion = λ g l e. absurd (no_link m free g l e);
  }

  pub can_be_saved : (b : Below) → is_savable (saved m) ≡ true
  can_be_saved b = ap is_savable (saved_is b m shape) ∙ savable_law (file_leaves b) m (savable_leaves b) shape

  pub builds_again : (b : Below) → IsRight b → build (file_leaves b) (saved m) ≡ Ok (record { map = renumbered_map m; notes = [] })
  builds_again b right = ap (build (file_leaves b)) (saved_is b m shape) ∙ saved_file_law b right m shape (all_one m free)

  pub few_named : length (filter (has_id m) (entities m)) < 2 ^ 31
  few_named =
      let o = order_of m shape.standing shape.numbers in
      let a = filter_shorter (has_id m) (entities m) in
      let b = filter_shorter (no_brush m) (preorder m 0) in
      let c = o.most in
      let d = shape.numbers.most in
      omega arith
