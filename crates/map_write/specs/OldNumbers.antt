-- Documents of old files, in which each number of a texture has six decimals, and the documents that they are today; with a law that
-- old files keep their bytes.
use Rattle.std.specs.Prelude.{◌≡◌, ◌*ℤ◌, ◌^◌, Bool, ◌&&◌, nat_lt, is_none, ◌∷◌, map, ℤ, pos, unsigned_abs, IsTrue}
use Rattle.std.specs.List.{list_all}
use Rattle.uv_lock.specs.declared.face.Face.{Face}
use Rattle.uv_lock.specs.declared.texture.Tex.{Tex}
use Rattle.uv_lock.specs.declared.texture.Tex.TheVariants.{Standard, Valve}
use Rattle.map_text.specs.declared.document.MapDoc.{MapDoc}
use Rattle.map_text.specs.declared.document.RawEntity.{RawEntity}
use Rattle.map_text.specs.declared.document.RawBrush.{RawBrush}
use Rattle.map_text.specs.declared.document.RawBrush.TheVariants.{Faces, Bad}
use Rattle.map_text.specs.Reads.{Reads}
use Rattle.map_text.specs.Spelled.{faces_of_brush, is_savable}
use Rattle.map_write.specs.Written.{TextureDecimals, written_with, written_text}

-- Six decimals in each number.
abbrev pub six : TextureDecimals
six = record { axis = 6; offset = 6; scale = 6 }

-- The value of a count of millionths, counted in billionths and in trillionths.
abbrev pub in_billionths : ℤ → ℤ
in_billionths n = n *ℤ pos (10 ^ 3)

abbrev pub in_trillionths : ℤ → ℤ
in_trillionths n = n *ℤ pos (10 ^ 6)

-- A texture, a face, a brush, an entity and a document with the same values, in the counts that are kept.
abbrev pub recounted_tex : Tex → Tex
recounted_tex (Standard t) = Standard (record {
  off = map in_trillionths t.off;
  rotation = t.rotation;
  scale = map in_billionths t.scale;
  surface = t.surface;
})
recounted_tex (Valve t) = Valve (record {
  axis = map (map in_billionths) t.axis;
  off = map in_trillionths t.off;
  rotation = t.rotation;
  scale = map in_billionths t.scale;
  surface = t.surface;
})

abbrev pub recounted_face : Face → Face
recounted_face f = record { plane = f.plane; material = f.material; tex = recounted_tex f.tex }

abbrev pub recounted_brush : RawBrush → RawBrush
recounted_brush (Faces faces) = Faces (map recounted_face faces)
recounted_brush (Bad reason) = Bad reason

abbrev pub recounted_entity : RawEntity → RawEntity
recounted_entity e = record { props = e.props; brushes = map recounted_brush e.brushes }

abbrev pub recounted : MapDoc → MapDoc
recounted doc = record { format = doc.format; entities = map recounted_entity doc.entities }

-- A texture of an old file: its numbers are counts of millionths below 10^12 in size, and it has no surface numbers.
abbrev pub is_old_count : ℤ → Bool
is_old_count n = nat_lt (unsigned_abs n) (10 ^ 12)

abbrev pub is_old_tex : Tex → Bool
is_old_tex (Standard t) = list_all is_old_count t.off && (list_all is_old_count (t.rotation ∷ t.scale) && is_none t.surface)
is_old_tex (Valve t) =
    list_all (list_all is_old_count) t.axis
    && (list_all is_old_count t.off && (list_all is_old_count (t.rotation ∷ t.scale) && is_none t.surface))

abbrev pub are_old_faces : RawBrush → Bool
are_old_faces b = list_all (λ f. is_old_tex f.tex) (faces_of_brush b)

abbrev pub is_old : MapDoc → Bool
is_old doc = list_all (λ e. list_all are_old_faces e.brushes) doc.entities

-- Each document is written as the text that six decimals gave, and an old one that can be saved is read again.
pub record OldFilesKeepTheirBytes : Type 0 where
  pub same_text : (doc : MapDoc) → written_text (recounted doc) ≡ written_with six doc
  pub again : (doc : MapDoc) → IsTrue (is_old doc) → IsTrue (is_savable doc) → Reads (written_text (recounted doc)) (recounted doc)
