-- The numbers that the program ends with.
use Rattle.std.specs.Prelude.{ℕ}
use Rattle.edit_session.specs.declared.status.Status.{Status}
use Rattle.edit_session.specs.declared.status.Status.TheVariants.{Ended, Usage, ReadFault, WriteFault, MapRefused, Memory, TooLong}

abbrev pub number_of : Status → ℕ
number_of Ended = 0
number_of Usage = 1
number_of ReadFault = 2
number_of WriteFault = 3
number_of (MapRefused fault) = 4
number_of Memory = 5
number_of (TooLong which) = 6
