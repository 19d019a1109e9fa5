use Rattle.std.proofs.Common.{rules, tests}
use Rattle.std.specs.Prelude.{IsTrue}
use Rattle.std.proofs.lemmas.Iterator.{cases_from_all, YieldsList-from_slice}
use Rattle.exact_geom.specs.Planes.{is_in_range}
use Rattle.part_rows.proofs.AllOf.{all_of_cases, every_of_all, all_of_every}
use Rattle.part_rows.proofs.hulls.are_in_range.Goals as goal

pub returns : goal.returns
returns c =
    let points = c.args.points.now in
    let by =
    all_of_cases (λ p. IsTrue (is_in_range p)) points c.all.result
    (cases_from_all _ _ _ (λ p. IsTrue (is_in_range p)) (λ p. ¬ (IsTrue (is_in_range p))) c.all.ensures.ran
    (YieldsList-from_slice points cc) (λ x q k. search (rules, tests)) (λ x q k. search (rules, tests))) in
    (λ t. every_of_all (λ p. IsTrue (is_in_range p)) points (by.0 t), λ each. by.1 (all_of_every (λ p. IsTrue (is_in_range p)) points each))
