use Rattle.std.proofs.Common.{◌+◌, ◌^◌, ◌<◌, rules, tests}
use Rattle.std.proofs.lemmas.Iterator.{cases_from_all, YieldsList-from_slice}
use Rattle.part_rows.proofs.AllOf.{all_of_cases, every_of_all, all_of_every}
use Rattle.part_rows.proofs.brushes.has_room.Goals as goal

pub returns : goal.returns
returns c =
    let sides = c.args.sides.now in let base = c.args.base in
    let by =
    all_of_cases (λ s. s.tag + base < 2 ^ 31) sides c.all.result
    (cases_from_all _ _ _ (λ s. s.tag + base < 2 ^ 31) (λ s. ¬ (s.tag + base < 2 ^ 31)) c.all.ensures.ran
    (YieldsList-from_slice sides cc) (λ x q k. search (rules, tests)) (λ x q k. search (rules, tests))) in
    (λ t. every_of_all (λ s. s.tag + base < 2 ^ 31) sides (by.0 t), λ each. by.1 (all_of_every (λ s. s.tag + base < 2 ^ 31) sides each))
