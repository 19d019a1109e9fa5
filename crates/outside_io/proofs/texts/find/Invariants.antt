use Rattle.std.proofs.Common.{◌≡◌, take}
use Rattle.std.specs.Prelude.{option_copied}
use Rattle.outside_io.specs.Texts.{text_named, texts_of}
use Rattle.outside_io.proofs.texts.find.Given as goal

abbrev pub invariant-loop-text : goal.invariant-loop-text
invariant-loop-text l = option_copied l.found ≡ text_named (texts_of (take l.text-index l.texts)) l.name
