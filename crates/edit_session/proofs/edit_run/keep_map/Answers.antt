use Rattle.edit_session.proofs.Savable.{good_to_write}
use Rattle.edit_session.proofs.edit_run.keep_map.Goals as goal

pub write_map-requires : goal.write_map-requires
write_map-requires g c = record { good = good_to_write c.in-Ok.doc c.in-Ok.ensures.savable }
