-- A document that can be saved has no bad brush.
use Rattle.std.proofs.Common.{IsTrue}
use Rattle.std.specs.Prelude.{◌&&◌}
use Rattle.std.proofs.lemmas.Bool.{and_parts}
use Rattle.map_text.specs.declared.document.MapDoc.{MapDoc}
use Rattle.map_text.specs.Spelled.{is_savable, is_spelled, all_good, tells_its_format}

pub good_to_write : (doc : MapDoc) → IsTrue (is_savable doc) → IsTrue (all_good doc)
unfolding is_savable
good_to_write doc savable = (and_parts (all_good doc) (is_spelled doc && tells_its_format doc) savable).0
