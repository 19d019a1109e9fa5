-- A face with another texture: the brush keeps its half-spaces, and each face is right.
use Rattle.std.proofs.Common.{◌≡◌, ℕ, zero, suc, ◌*◌, ◌<◌, List, [], ◌∷◌, length, true, ◌==◌, ◌&&◌, refl, ap, sym, subst, arith, Option, Some, None, option_map, ℤ, pos, negsuc}
use Rattle.std.specs.Prelude.{unsigned_abs, int_le, nat_lt, unwrap_or}
use Rattle.std.specs.List.{list_all, AllByRecursion}
use Rattle.std.specs.Option.{option_map_or}
use Rattle.std.proofs.lemmas.Bool.{and_from, and_parts, lt-ltb, ltb-true, eq-eqb}
use Rattle.algebra.specs.Members.{here, there, Every}
use Rattle.exact_geom.specs.Planes.{half_space}
use Rattle.trim_laws.specs.Valid.{Valid}
use Rattle.uv_lock.specs.declared.texture.Format.{Format}
use Rattle.map_text.specs.Fits.{is_format}
use Rattle.fixed_num.specs.Whole.{IsWide}
use Rattle.cmd_text.specs.Kept.{IsPico, IsNano, IsMicro, IsNameText, KeepsSurface}
use Rattle.map_model.specs.Faces.{Face, Tex, StandardFields, ValveFields, Surface, format_of_tex, axis_unit, offset_unit, degree_unit}
use Rattle.map_model.specs.Tree.{Node, World, Layer, Group, Entity, Brush, kind_of, parent_of, brushes_of, others_of, link_of, mark_of, faces_of, with_faces, format_of_node}
use Rattle.map_model.specs.Shape.{FaceOk, FacesOk, NodeOk, half_spaces, is_below_million, are_below_million, are_fields_in_range, is_tex_in_range, is_surface_in_range, is_wide}
use Rattle.map_model.specs.Commands.{SurfaceWords, Stay, Out, Put}
use Rattle.map_model.specs.Own.{change_at, retextured, next_surface}
use Rattle.map_model.proofs.Members.{decides_most}
use Rattle.map_laws.specs.Placed.{KeepsAll}
use Rattle.map_laws.proofs.Texts.{name_material}

-- Other faces are none of a node's place in the tree.
pub keeps_faces : (fs : List Face) → KeepsAll (with_faces fs)
keeps_faces fs = record {
  place = record {
    kind = λ x. elim x as (λ x. kind_of (with_faces fs x) ≡ kind_of x) [ World a b c d ↦ refl | _ ↦ refl ];
    parent = λ x. elim x as (λ x. parent_of (with_faces fs x) ≡ parent_of x) [ World a b c d ↦ refl | _ ↦ refl ];
    brushes = λ x. elim x as (λ x. brushes_of (with_faces fs x) ≡ brushes_of x) [ World a b c d ↦ refl | _ ↦ refl ];
    others = λ x. elim x as (λ x. others_of (with_faces fs x) ≡ others_of x) [ World a b c d ↦ refl | _ ↦ refl ];
  };
  link = λ x. elim x as (λ x. link_of (with_faces fs x) ≡ link_of x) [ World a b c d ↦ refl | _ ↦ refl ];
  mark = λ x. elim x as (λ x. mark_of (with_faces fs x) ≡ mark_of x) [ World a b c d ↦ refl | _ ↦ refl ];
  format = λ x. elim x as (λ x. format_of_node (with_faces fs x) ≡ format_of_node x) [ World a b c d ↦ refl | _ ↦ refl ];
}

-- A node with other faces is right where the faces are: a node that is no brush stays.
pub faces_put : (f : Format) (fs : List Face) (x : Node) → NodeOk f x → FacesOk f fs → NodeOk f (with_faces fs x)
faces_put f fs (World a b c d) h ok = h
faces_put f fs (Layer a b c d e) h ok = h
faces_put f fs (Group a b c d e g i) h ok = h
faces_put f fs (Entity a b c d e) h ok = h
faces_put f fs (Brush a b c) h ok = ok

no_face : (k : ℕ) → nat_lt k 0 ≡ true → ⊥
no_face k e = let lt = ltb-true k 0 e in omega arith

-- The faces of a slot are right.
pub slot_faces : (f : Format) (o : Option Node) (k : ℕ) → ((x : Node) → o ≡ Some x → NodeOk f x) → nat_lt k (length (unwrap_or (option_map faces_of o) [])) ≡ true → FacesOk f (unwrap_or (option_map faces_of o) [])
slot_faces f None k each e = absurd (no_face k e)
slot_faces f (Some (World a b c d)) k each e = absurd (no_face k e)
slot_faces f (Some (Layer a b c d g)) k each e = absurd (no_face k e)
slot_faces f (Some (Group a b c d g h i)) k each e = absurd (no_face k e)
slot_faces f (Some (Entity a b c d g)) k each e = absurd (no_face k e)
slot_faces f (Some (Brush a b c)) k each e = each (Brush a b c) refl

-- Numbers of a texture. --------------------------------------------------------------------------------------------------------------

counts_below : (unit : ℕ) (counts : List ℤ) → AllByRecursion (λ z. unsigned_abs z < 1000000 * unit) counts → list_all (is_below_million unit) counts ≡ true
counts_below unit [] h = refl
counts_below unit (z ∷ counts) h = and_from (is_below_million unit z) (list_all (is_below_million unit) counts) (lt-ltb (unsigned_abs z) (1000000 * unit) h.0) (counts_below unit counts h.1)

two_below : (unit : ℕ) (counts : List ℤ) → length counts ≡ 2 → AllByRecursion (λ z. unsigned_abs z < 1000000 * unit) counts → are_below_million 2 unit counts ≡ true
two_below unit counts e h = and_from (length counts == 2) (list_all (is_below_million unit) counts) (eq-eqb (length counts) 2 e) (counts_below unit counts h)

wide : (z : ℤ) → IsWide z → is_wide z ≡ true
wide z h = and_from (int_le (negsuc 2147483647) z) (int_le z (pos 4294967295)) ((decides_most (negsuc 2147483647) z).1 h.0) ((decides_most z (pos 4294967295)).1 h.1)

-- The surface numbers of the line, or those that were there.
surface_kept : (words : SurfaceWords) (old : Option Surface) → KeepsSurface words → option_map_or is_surface_in_range old true ≡ true → option_map_or is_surface_in_range (next_surface words old) true ≡ true
surface_kept Stay old h e = e
surface_kept Out old h e = refl
surface_kept (Put contents flags value) old h e =
    and_from (is_wide contents) (is_wide flags && is_below_million degree_unit value) (wide contents h.0)
    (and_from (is_wide flags) (is_below_million degree_unit value) (wide flags h.1) (lt-ltb (unsigned_abs value) (1000000 * degree_unit) h.2))

module _ (off : List ℤ) (rotation : ℤ) (scale : List ℤ) (words : SurfaceWords) (two_offsets : length off ≡ 2) (two_scales : length scale ≡ 2)
    (offsets : AllByRecursion IsPico off) (turn : IsMicro rotation) (scales : AllByRecursion IsNano scale) (surface : KeepsSurface words) where
  fields_kept : (o : List ℤ) (r : ℤ) (s : List ℤ) (old : Option Surface) → are_fields_in_range o r s old ≡ true → are_fields_in_range off rotation scale (next_surface words old) ≡ true
  fields_kept o r s old e =
      let a = and_parts (are_below_million 2 offset_unit o) (is_below_million degree_unit r && (are_below_million 2 axis_unit s && option_map_or is_surface_in_range old true)) e in
      let b = and_parts (is_below_million degree_unit r) (are_below_million 2 axis_unit s && option_map_or is_surface_in_range old true) a.1 in
      let c = and_parts (are_below_million 2 axis_unit s) (option_map_or is_surface_in_range old true) b.1 in
      let next = option_map_or is_surface_in_range (next_surface words old) true in
      and_from (are_below_million 2 offset_unit off) (is_below_million degree_unit rotation && (are_below_million 2 axis_unit scale && next)) (two_below offset_unit off two_offsets offsets)
      (and_from (is_below_million degree_unit rotation) (are_below_million 2 axis_unit scale && next) (lt-ltb (unsigned_abs rotation) (1000000 * degree_unit) turn)
      (and_from (are_below_million 2 axis_unit scale) next (two_below axis_unit scale two_scales scales) (surface_kept words old surface c.1)))

  tex_kept : (t : Tex) → is_tex_in_range t ≡ true → is_tex_in_range (retextured off rotation scale words t) ≡ true
  tex_kept (StandardFields t) e = fields_kept t.off t.rotation t.scale t.surface e
  tex_kept (ValveFields t) e =
      let axes = length t.axis == 2 && list_all (are_below_million 3 axis_unit) t.axis in
      let a = and_parts axes (are_fields_in_range t.off t.rotation t.scale t.surface) e in
      and_from axes (are_fields_in_range off rotation scale (next_surface words t.surface)) a.0 (fields_kept t.off t.rotation t.scale t.surface a.1)

  abbrev changed : List ℕ → Face → Face
  changed name f = record f { material = name; tex = retextured off rotation scale words f.tex }

  face_kept : (format : Format) (name : List ℕ) → IsNameText name → (f : Face) → FaceOk format f → FaceOk format (changed name f)
  face_kept format name text f ok = record {
    form = form f.tex ok.form;
    plane = ok.plane;
    material = name_material name text;
    numbers = tex_kept f.tex ok.numbers;
  }
    where
      form : (t : Tex) → is_format format (format_of_tex t) ≡ true → is_format format (format_of_tex (retextured off rotation scale words t)) ≡ true
      form (StandardFields t) e = e
      form (ValveFields t) e = e

  faces_kept : (format : Format) (name : List ℕ) → IsNameText name → (k : ℕ) (fs : List Face) → Every (FaceOk format) fs → Every (FaceOk format) (change_at k (changed name) fs)
  faces_kept format name text k [] h f i = elim i [ ]
  faces_kept format name text zero (g ∷ fs) h f here = face_kept format name text g (h g here)
  faces_kept format name text zero (g ∷ fs) h f (there i) = h f (there i)
  faces_kept format name text (suc k) (g ∷ fs) h f here = h g here
  faces_kept format name text (suc k) (g ∷ fs) h f (there i) = faces_kept format name text k fs (λ x j. h x (there j)) f i

  same_halves : (name : List ℕ) (k : ℕ) (fs : List Face) → half_spaces (change_at k (changed name) fs) ≡ half_spaces fs
  same_halves name k [] = refl
  same_halves name zero (g ∷ fs) = refl
  same_halves name (suc k) (g ∷ fs) = ap (λ l. half_space g.plane ∷ l) (same_halves name k fs)

  pub retextured_ok : (format : Format) (name : List ℕ) → IsNameText name → (k : ℕ) (fs : List Face) → FacesOk format fs → FacesOk format (change_at k (changed name) fs)
  retextured_ok format name text k fs ok = record { each = faces_kept format name text k fs ok.each; valid = subst Valid (sym (same_halves name k fs)) ok.valid }
