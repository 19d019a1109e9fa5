use Rattle.std.proofs.Common.{◌≡◌, ◌++◌, map, drop}
use Rattle.map_lex.specs.LineTexts.{text_of}
use Rattle.map_write.specs.Written.{face_line, kept}
use Rattle.map_write.proofs.brush_writer.write_faces.Given as goal

abbrev pub invariant-loop-face : goal.invariant-loop-face
invariant-loop-face l =
    l.text.items ++ text_of (map (face_line kept) (drop l.face-index l.faces))
    ≡ l.fn.text.items ++ text_of (map (face_line kept) l.faces)
