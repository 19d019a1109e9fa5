use Rattle.map_text.proofs.OneReading.{one_reading}
use Rattle.map_text.proofs.FilledTexts.{some_reading}
use Rattle.map_text.proofs.Acceptance.{accepted}
use Rattle.map_text.proofs.reading_law.one_reading_law.Goals as goal

pub returns : goal.returns
returns c = record {
  one = one_reading;
  accepted = accepted;
  some = some_reading;
}
