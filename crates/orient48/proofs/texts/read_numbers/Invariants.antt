use Rattle.std.proofs.Common.{◌≡◌, length}
use Rattle.std.specs.Prelude.{option_copied}
use Rattle.orient48.specs.Reading.{words_left}
use Rattle.orient48.proofs.Reading.{ReadSoFar}
use Rattle.orient48.proofs.texts.read_numbers.Given as goal

abbrev pub invariant-loop-place : goal.invariant-loop-place
invariant-loop-place l = record {
  sixteen : length l.numbers ≡ 16;
  read : ReadSoFar l.text l.numbers l.place (words_left (option_copied l.rest));
}
