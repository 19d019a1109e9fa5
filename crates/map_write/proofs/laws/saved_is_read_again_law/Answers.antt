use Rattle.map_write.proofs.DocumentBack.{saved_is_read}
use Rattle.map_write.proofs.ReadDocuments.{read_is_spelled, read_is_savable}
use Rattle.map_write.proofs.laws.saved_is_read_again_law.Goals as goal

pub returns : goal.returns
returns c = record { again = saved_is_read; spelled = read_is_spelled; read_documents = read_is_savable }
