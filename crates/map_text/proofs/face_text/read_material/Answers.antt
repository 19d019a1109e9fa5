use Rattle.map_lex.specs.TokenList.{value_of}
use Rattle.std.proofs.Common.{sym, ◌∙◌}
use Rattle.map_text.proofs.FaceTexts.{material_read}
use Rattle.map_text.proofs.face_text.read_material.Goals as goal

pub returns-clause-read : goal.returns-clause-read
returns-clause-read c =
    material_read c.args.reader.now c.token.new.self (value_of c.in_ok-token.token) c.in_ok-token.ensures.token (sym c.is_material.ensures ∙ c.if-not-is_material.false)
