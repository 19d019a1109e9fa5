use Rattle.orient48.proofs.Matrices.{is_turn}
use Rattle.lock_laws.proofs.Carrying.{carry_after}
use Rattle.lock_laws.proofs.Keeping.{coordinates_kept}
use Rattle.lock_laws.proofs.Staying.{carry_back}
use Rattle.lock_laws.proofs.lock_law.Goals as goal

pub returns : goal.returns
returns c = record {
  kept = λ r f g t p h. coordinates_kept r f g t p (is_turn r.matrix h);
  composed = λ r s f g h k. carry_after r s f g (is_turn r.matrix h) (is_turn s.matrix k);
  undone = λ r f g h. carry_back r f g (is_turn r.matrix h);
}
